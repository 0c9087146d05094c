-- The normal text of a pact is read as that pact.
use Rattle.std.specs.{Option.{ok_or}, Str.{IsUtf8, bytes_eq}}
use Rattle.std.proofs.Common.{◌≡◌, ◌⊎◌, inl, inr, ℕ, suc, ◌+◌, ◌≤◌, List, [], ◌∷◌, length, codes, map, not, Bool, true, false, cond, nat_le, Option, Some, None, option_and_then, Result, Ok, Err, refl, sym, ap, ◌∙◌, subst, leb-true, le-leb, arith}
use Rattle.serde_json.specs.{Data.{Data, Items, no_items, item, depth}, Events.{items_len}, Find.{get, as_array}, View.{items_of}}
use Rattle.serde_json.proofs.OnLiterals.{serde_json_on_literals}
use Rattle.broker_names.specs.Name.{is_name}
use Rattle.pact_file.specs.File.{most_bytes, most_interactions, file_of, is_version_3, has_no_messages, side_of, sides_of, items_of as items_at}
use Rattle.pact_file.specs.declared.fault.PactFault.{PactFault}
use Rattle.pact_file.specs.declared.fault.PactFault.TheVariants.{SameInteraction, Shape, Version, Messages, SelfContract, TooMany, TooLong}
use Rattle.pact_file.specs.{Objects.{json_of, object_of}, Laws.{NormalAgain, OnePact}}
use Rattle.pact_file.specs.Normal.{InteractionRead, InOrder, InteractionsRead, if_short, Normal, IsRefusal}
use Rattle.pact_file.specs.{Pact.{Interaction, Pact, interaction_data, key_cmp, pact_data, normal_text}, Parts.{text_at, object_at, listed}}
use Rattle.pact_file.specs.{Sorting.{insert_all_sorted, same_text}, Sound.{IsSound}, declared.fault.Place.{Place}}
use Rattle.pact_file.specs.declared.fault.Place.TheVariants.{Consumer, ConsumerName, Provider, ProviderName, Interactions}
use Rattle.pact_file.proofs.{Agreement.{IsDefinite-Normal}, Objects.{json_of-ok}, Itself.{InteractionRead-interaction_data, listed-items_of}}
use Rattle.pact_file.proofs.Steps.{Result-bind_ok, ok_or-ok, guard-ok, Ok-injective}
use Rattle.pact_file.proofs.OrderedSets.{IsGood, key_cmp-total, InOrder-of_insert_all, insert_all_sorted-length_le, InOrder-unique}
use Rattle.pact_file.proofs.ReadBack.{read-compact_text}
use Rattle.pact_file.proofs.ReadLemmas.{reading-bind_ok, file_of-sound, items_at-sound, EachRead-each, EachRead-sound, InteractionsRead-sound}
use Rattle.pact_file.proofs.{SetLemmas.{IsRising-no_clash}, SoundData.{kept, IsSound-no_floats, IsSound-depth_le, compact_text-IsUtf8}}
use Rattle.pact_file.proofs.SoundParts.{IsSound-object_at, text_at-IsUtf8, IsSound-pact_data}
use Rattle.pact_rules.specs.{Outcome.{guard}, Reading.{just, EachRead}, Lists.{IsIn}}

-- ---- each interaction reads to itself

abbrev IsAgain : Interaction → Type 0
IsAgain z = (j : ℕ) → InteractionRead j (interaction_data z) (Ok z)

EachRead-interaction_data : (i : ℕ) (xs : List Interaction) → ((z : Interaction) → IsIn z xs → IsAgain z) → EachRead InteractionRead i (map interaction_data xs) (Ok xs)
unfolding EachRead
EachRead-interaction_data i [] h = refl
EachRead-interaction_data i (x ∷ xs) h = (Ok x, h x (inl refl) i, (Ok xs, EachRead-interaction_data (i + 1) xs (λ z m. h z (inr m)), refl))

-- ---- no more than were found

EachRead-length : (i : ℕ) (ds : List Data) (xs : List Interaction) → EachRead InteractionRead i ds (Ok xs) → length xs ≡ length ds
unfolding EachRead
EachRead-length i [] xs e = ap length (sym (Ok-injective _ _ e))
EachRead-length i (d ∷ ds) xs e =
    let first = reading-bind_ok (InteractionRead i d) _ xs e in
    let others = reading-bind_ok (EachRead InteractionRead (i + 1) ds) _ xs first.2 in
    ap length (sym (Ok-injective _ _ others.2)) ∙ ap suc (EachRead-length (i + 1) ds others.0 others.1)

InOrder-length_le : (found xs : List Interaction) → ((z : Interaction) → IsIn z found → IsGood z) → InOrder found (Ok xs) → length xs ≤ length found
InOrder-length_le found xs good h = by_case (insert_all_sorted key_cmp same_text [] found) refl where
  by_case : (o : Option (List Interaction)) → insert_all_sorted key_cmp same_text [] found ≡ o → length xs ≤ length found
  by_case None is = let clash : Ok xs ≡ Err SameInteraction = InOrder-unique found (Ok xs) (Err SameInteraction) h (InOrder-of_insert_all found (Err SameInteraction) good (ap (λ o. ok_or o SameInteraction) is)) in absurd cc
  by_case (Some ys) is =
      let same : Ok xs ≡ Ok ys = InOrder-unique found (Ok xs) (Ok ys) h (InOrder-of_insert_all found (Ok ys) good (ap (λ o. ok_or o SameInteraction) is)) in
      subst (λ l. length l ≤ length found) (sym (Ok-injective _ _ same)) (insert_all_sorted-length_le found ys good is)

-- ---- the order stays

InOrder-itself : (found xs : List Interaction) → InOrder found (Ok xs) → InOrder xs (Ok xs)
InOrder-itself found xs h = (IsRising-no_clash key_cmp key_cmp-total _ xs h.1.rising, record { rising = h.1.rising; kept = λ z m. m; known = λ z m. m })

length-listed : (ds : Items) → length (listed ds) ≡ items_len ds
length-listed no_items = refl
length-listed (item d ds) = ap suc (length-listed ds)

items_len-interaction_data : (xs : List Interaction) → items_len (items_of (map interaction_data xs)) ≡ length xs
items_len-interaction_data [] = refl
items_len-interaction_data (x ∷ xs) = ap suc (items_len-interaction_data xs)

items_at-few : (file : Data) (ds : List Data) → items_at file ≡ Ok ds → length ds ≤ most_interactions
unfolding items_at
items_at-few file ds e =
    let items = Result-bind_ok (ok_or (option_and_then as_array (get (codes "interactions") file)) (Shape Interactions)) _ ds e in
    let few = Result-bind_ok (guard (nat_le (items_len items.0) most_interactions) TooMany) _ ds items.2 in
    let n : length ds ≡ items_len items.0 = ap length (sym (Ok-injective _ _ few.2)) ∙ length-listed items.0 in
    leb-true (length ds) most_interactions (ap (λ k. nat_le k most_interactions) n ∙ guard-ok _ _ few.0 few.1)

items_at-pact_data : (p : Pact) → length p.interactions ≤ most_interactions → items_at (pact_data p) ≡ Ok (map interaction_data p.interactions)
unfolding items_at serde_json_on_literals
items_at-pact_data p few =
    let count : nat_le (items_len (items_of (map interaction_data p.interactions))) most_interactions ≡ true = ap (λ n. nat_le n most_interactions) (items_len-interaction_data p.interactions) ∙ le-leb (length p.interactions) most_interactions few in
    rw (count, listed-items_of (map interaction_data p.interactions)) refl

InteractionsRead-pact_data : (file : Data) (p : Pact) → IsSound 100 file → InteractionsRead file (Ok p.interactions) → InteractionsRead (pact_data p) (Ok p.interactions)
unfolding InteractionsRead
InteractionsRead-pact_data file p h r =
    let xs = p.interactions in
    let items = reading-bind_ok (just (items_at file)) _ xs r in
    let found = reading-bind_ok (EachRead InteractionRead 0 items.0) _ xs items.2 in
    let sound = items_at-sound file items.0 h items.1 in
    let good = EachRead-sound 0 items.0 found.0 sound found.1 in
    let again = EachRead-each IsAgain (λ i d x is_sound read j. InteractionRead-interaction_data i j d x read) 0 items.0 found.0 sound found.1 in
    let few : length xs ≤ most_interactions = omega (arith, InOrder-length_le found.0 xs good found.2, EachRead-length 0 items.0 found.0 found.1, items_at-few file items.0 items.1) in
    (Ok (map interaction_data xs), items_at-pact_data p few, (Ok xs, EachRead-interaction_data 0 xs (λ z m. again z (found.2.1.known z m)), InOrder-itself found.0 xs found.2))

-- ---- the sides

record IsSide (name : List ℕ) : Type 0 where
  named : is_name name ≡ true
  text : IsUtf8 name

IsSide-of_side_of : (k : List ℕ) (s n : Place) (file : Data) (name : List ℕ) → IsSound 100 file → side_of k s n file ≡ Ok name → IsSide name
unfolding side_of
IsSide-of_side_of k s n file name h e =
    let found = Result-bind_ok (ok_or (object_at k file) (Shape s)) _ name e in
    let text = Result-bind_ok (ok_or (text_at (codes "name") found.0) (Shape n)) _ name found.2 in
    let is = Result-bind_ok (guard (is_name text.0) (Shape n)) _ name text.2 in
    subst IsSide (Ok-injective _ _ is.2)
    (record {
      named = guard-ok (is_name text.0) (Shape n) is.0 is.1;
      text = text_at-IsUtf8 98 (codes "name") found.0 text.0 (IsSound-object_at 99 k file found.0 h (ok_or-ok _ _ found.0 found.1)) (ok_or-ok _ _ text.0 text.1);
    })

record AreSides (c q : List ℕ) : Type 0 where
  consumer : IsSide c
  provider : IsSide q
  two : not (bytes_eq c q) ≡ true

AreSides-of_sides_of : (file : Data) (c q : List ℕ) → IsSound 100 file → sides_of file ≡ Ok (c, q) → AreSides c q
unfolding sides_of
AreSides-of_sides_of file c q h e =
    let v = Result-bind_ok (guard (is_version_3 file) Version) _ (c, q) e in
    let m = Result-bind_ok (guard (has_no_messages file) Messages) _ (c, q) v.2 in
    let one = Result-bind_ok (side_of (codes "consumer") Consumer ConsumerName file) _ (c, q) m.2 in
    let two = Result-bind_ok (side_of (codes "provider") Provider ProviderName file) _ (c, q) one.2 in
    let apart = Result-bind_ok (guard (not (bytes_eq one.0 two.0)) SelfContract) _ (c, q) two.2 in
    let same = Ok-injective _ _ apart.2 in
    let first : one.0 ≡ c = ap (λ x. x.0) same in
    let second : two.0 ≡ q = ap (λ x. x.1) same in
    record {
      consumer = subst IsSide first (IsSide-of_side_of (codes "consumer") Consumer ConsumerName file one.0 h one.1);
      provider = subst IsSide second (IsSide-of_side_of (codes "provider") Provider ProviderName file two.0 h two.1);
      two = ap not (ap (λ x. bytes_eq x q) (sym first) ∙ ap (bytes_eq one.0) (sym second)) ∙ guard-ok (not (bytes_eq one.0 two.0)) SelfContract apart.0 apart.1;
    }

sides_of-pact_data : (p : Pact) → AreSides p.consumer p.provider → sides_of (pact_data p) ≡ Ok (p.consumer, p.provider)
unfolding sides_of side_of is_version_3 has_no_messages serde_json_on_literals
sides_of-pact_data p h = rw (h.consumer.named, h.provider.named, h.two) refl

-- ---- the file

file_of-normal_text : (p : Pact) → IsSound 100 (pact_data p) → nat_le (length (normal_text p)) most_bytes ≡ true → file_of (normal_text p) ≡ Ok (pact_data p)
unfolding file_of object_of
file_of-normal_text p h short =
    let d = pact_data p in
    let json : json_of (normal_text p) ≡ Ok (pact_data p) =
    json_of-ok (normal_text p) (pact_data p) (compact_text-IsUtf8 100 (pact_data p) h) (read-compact_text (pact_data p) (kept 100 (pact_data p) h) (IsSound-no_floats 100 (pact_data p) h) (omega (arith, IsSound-depth_le 100 (pact_data p) h))) in
    let few : nat_le (depth d) 100 ≡ true = le-leb (depth d) 100 (IsSound-depth_le 100 d h) in
    rw (short, json, few, IsSound-no_floats 100 d h) refl

cond-too_long_ok : (t : Bool) (p q : Pact) → cond t (Ok p) (Err TooLong) ≡ Ok q → (p ≡ q) × (t ≡ true)
cond-too_long_ok true p q h = (Ok-injective _ _ h, refl)
cond-too_long_ok false p q h = absurd cc

if_short-ok : (p q : Pact) → if_short p ≡ Ok q → (p ≡ q) × (nat_le (length (normal_text q)) most_bytes ≡ true)
if_short-ok p q h = let r = cond-too_long_ok (nat_le (length (normal_text p)) most_bytes) p q h in (r.0, ap (λ (x : Pact). nat_le (length (normal_text x)) most_bytes) (sym r.0) ∙ r.1)

-- the normal text of a pact that is read of some file is itself a pact file that reads as the same pact
pub Normal-normal_text : (bytes : List ℕ) (p : Pact) → Normal bytes (Ok p) → Normal (normal_text p) (Ok p)
unfolding Normal
Normal-normal_text bytes p e =
    let file = reading-bind_ok (just (file_of bytes)) _ p e in
    let sides = reading-bind_ok (just (sides_of file.0)) _ p file.2 in
    let found = reading-bind_ok (InteractionsRead file.0) _ p sides.2 in
    let short = if_short-ok (record { consumer = sides.0.0; provider = sides.0.1; interactions = found.0 }) p found.2 in
    let good = file_of-sound bytes file.0 file.1 in
    let s : sides_of file.0 ≡ Ok (p.consumer, p.provider) = sides.1 ∙ ap (λ (x : Pact). Ok (x.consumer, x.provider)) short.0 in
    let i : InteractionsRead file.0 (Ok p.interactions) = subst (λ (x : Pact). InteractionsRead file.0 (Ok x.interactions)) short.0 found.1 in
    let two = AreSides-of_sides_of file.0 p.consumer p.provider good s in
    let sound = IsSound-pact_data p two.consumer.text two.provider.text (InteractionsRead-sound file.0 p.interactions good i) in
    (Ok (pact_data p), file_of-normal_text p sound short.1, (Ok (p.consumer, p.provider), sides_of-pact_data p two, (Ok p.interactions, InteractionsRead-pact_data file.0 p good i, ap (λ t. cond t (Ok p) (Err TooLong)) short.1)))

pub NormalAgain-holds : NormalAgain
NormalAgain-holds bytes p e = (Normal-normal_text bytes p e, λ answer h. by_case answer (IsDefinite-Normal (normal_text p) answer (Ok p) h (Normal-normal_text bytes p e))) where
  by_case : (answer : Result Pact PactFault) → (answer ≡ Ok p) ⊎ (IsRefusal answer ⊎ IsRefusal (Ok p)) → (answer ≡ Ok p) ⊎ IsRefusal answer
  by_case answer (inl same) = inl same
  by_case answer (inr (inl refusal)) = inr refusal
  by_case answer (inr (inr (i, h))) = absurd cc

Agree-same_pact : (p q : Pact) → (Path (Result Pact PactFault) (Ok p) (Ok q)) ⊎ (IsRefusal (Ok p) ⊎ IsRefusal (Ok q)) → p ≡ q
Agree-same_pact p q (inl same) = Ok-injective _ _ same
Agree-same_pact p q (inr (inl (i, h))) = absurd cc
Agree-same_pact p q (inr (inr (i, h))) = absurd cc

-- one pact at most is read of a file
pub Normal-unique_pact : (bytes : List ℕ) (p q : Pact) → Normal bytes (Ok p) → Normal bytes (Ok q) → p ≡ q
Normal-unique_pact bytes p q h k = Agree-same_pact p q (IsDefinite-Normal bytes (Ok p) (Ok q) h k)

pub OnePact-holds : OnePact
OnePact-holds a b p q h k e = Normal-unique_pact (normal_text p) p q (Normal-normal_text a p h) (subst (λ text. Normal text (Ok q)) (sym e) (Normal-normal_text b q k))
