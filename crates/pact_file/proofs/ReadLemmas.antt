-- What a reading that succeeds went through, and that what is read of sound data is sound.
use Rattle.std.specs.{Prelude.{⊤}, Option.{ok_or}}
use Rattle.std.proofs.Common.{◌≡◌, inl, inr, ℕ, ◌+◌, nat_le, List, [], ◌∷◌, length, map, codes, is_some, Some, None, option_and_then, Result, Ok, Err, refl, sym, ap, ◌∙◌, subst, ⊎_elim}
use Rattle.serde_json.specs.{declared.value.Value.{Value}, Data.{Data, Items, no_items, item}, Events.{items_len}, Find.{get, as_array, as_object}}
use Rattle.serde_json.specs.View.{view, items_view, items_of}
use Rattle.pact_rules.specs.{Reading.{◌>>=◌, just, EachRead, GivesOne}, Lists.{IsIn}, Rules.{no_rules, Rules as Table}, RuleReading.{IsReading}}
use Rattle.pact_rules.specs.{Outcome.{guard, Gives}, declared.rule_fault.RuleFault.{RuleFault}}
use Rattle.pact_file.specs.declared.fault.Part.TheVariants.{Headers, Whole, Description, States, Request, Response, Status}
use Rattle.pact_file.specs.{File.{most_bytes, most_interactions, as_file_fault, file_of, items_of as items_at}, Interactions.{at, parts_at}}
use Rattle.pact_file.specs.{Headers.{HeadersRead}, Normal.{InteractionRead, InteractionsRead, PactRead, Normal}, Pact.{Interaction, Pact, interaction_data}}
use Rattle.pact_file.specs.{Parts.{text_at, object_at, states_in, status_in, listed, optional_at}, Rules.{TableRead, rules_or_fault, RulesRead, IsRulesOf}}
use Rattle.pact_file.specs.{Sound.{IsSound, AreSound}, PartsView.{as_pact_fault}, declared.fault.PactFault.{PactFault}}
use Rattle.pact_file.specs.{declared.fault.PactFault.TheVariants.{Memory, Rules, Shape, TooLong, TooMany}, declared.fault.Place.TheVariants.{Interactions}}
use Rattle.pact_file.specs.Objects.{IsSomeText, json_of, object_of}
use Rattle.pact_file.proofs.SoundParts.{IsSound-get, object_at-get, IsSound-object_at, text_at-IsUtf8, AreSound-as_array, IsSound-states_data, IsSound-interaction_data}
use Rattle.pact_file.proofs.{Steps.{Result-bind_ok, ok_or-ok, Ok-injective, option_and_then-some}, Objects.{with_fault-ok, object_of-sound, json_of-IsSomeText}}
use Rattle.pact_rules.specs.declared.rule_fault.RuleFault.TheVariants as rule_fault

-- ---- rules

pub RulesRead-none : (i : ℕ) (response : Data) (t : Table) → None ≡ optional_at (codes "matchingRules") response → t ≡ no_rules → RulesRead i response (Ok t)
unfolding RulesRead
RulesRead-none i response t none is = (Ok t, subst (λ o. TableRead o (Ok t)) none (ap Ok is), refl)

pub IsRulesOf-no_rules : (response : Data) (t : Table) → None ≡ optional_at (codes "matchingRules") response → t ≡ no_rules → IsRulesOf response t
unfolding IsRulesOf
IsRulesOf-no_rules response t none is = subst (λ o. TableRead o (Ok t)) none (ap Ok is)

pub RulesRead-some : (i : ℕ) (response d : Data) (r : Result Table RuleFault) → Some d ≡ optional_at (codes "matchingRules") response → IsReading d r → RulesRead i response (rules_or_fault i r)
unfolding RulesRead
RulesRead-some i response d r some h = (r, subst (λ o. TableRead o r) some h, refl)

pub IsRulesOf-some : (response d : Data) (t : Table) → Some d ≡ optional_at (codes "matchingRules") response → IsReading d (Ok t) → IsRulesOf response t
unfolding IsRulesOf
IsRulesOf-some response d t some h = subst (λ o. TableRead o (Ok t)) some h

pub as_pact_fault-not_memory : (i : ℕ) (fault : RuleFault) → ¬ (as_pact_fault i fault ≡ Memory) → (¬ (fault ≡ rule_fault.Memory)) × (as_pact_fault i fault ≡ Rules i fault)
as_pact_fault-not_memory i rule_fault.Memory h = absurd (h refl)
as_pact_fault-not_memory i fault h = ((λ e. absurd cc), refl)

-- ---- steps

pub reading-bind_ok : {A B : Type 0} (first : Result A PactFault → Type 0) (next : A → Result B PactFault → Type 0) (y : B) → (first >>= next) (Ok y) → (x : A) × first (Ok x) × next x (Ok y)
reading-bind_ok first next y (Ok x, h, k) = (x, h, k)
reading-bind_ok first next y (Err e, h, k) = absurd cc

-- ---- what is read is sound

pub parts_at-sound : (i : ℕ) (d : Data) (x : Interaction) → IsSound 98 d → parts_at i d ≡ Ok x → IsSound 98 (interaction_data x)
unfolding parts_at
parts_at-sound i d x h e =
    let a = Result-bind_ok (guard (is_some (as_object d)) (at i Whole)) _ x e in
    let b = Result-bind_ok (ok_or (text_at (codes "description") d) (at i Description)) _ x a.2 in
    let s = Result-bind_ok (ok_or (states_in d) (at i States)) _ x b.2 in
    let q = Result-bind_ok (ok_or (object_at (codes "request") d) (at i Request)) _ x s.2 in
    let r = Result-bind_ok (ok_or (object_at (codes "response") d) (at i Response)) _ x q.2 in
    let n = Result-bind_ok (ok_or (status_in r.0) (at i Status)) _ x r.2 in
    let y : Interaction = record { description = b.0; states = s.0; request = q.0; response = r.0 } in
    let same : y ≡ x = Ok-injective _ _ n.2 in
    subst (λ (z : Interaction). IsSound 98 (interaction_data z)) {x = y} same
    (IsSound-interaction_data 95 y (text_at-IsUtf8 97 (codes "description") d b.0 h (ok_or-ok _ _ b.0 b.1)) (IsSound-states_data 95 d s.0 h (ok_or-ok _ _ s.0 s.1))
    (IsSound-object_at 97 (codes "request") d q.0 h (ok_or-ok _ _ q.0 q.1)) (IsSound-object_at 97 (codes "response") d r.0 h (ok_or-ok _ _ r.0 r.1)))

-- the response is a member of the interaction
pub parts_at-response : (i : ℕ) (d : Data) (x : Interaction) → parts_at i d ≡ Ok x → get (codes "response") d ≡ Some x.response
unfolding parts_at
parts_at-response i d x e =
    let a = Result-bind_ok (guard (is_some (as_object d)) (at i Whole)) _ x e in
    let b = Result-bind_ok (ok_or (text_at (codes "description") d) (at i Description)) _ x a.2 in
    let s = Result-bind_ok (ok_or (states_in d) (at i States)) _ x b.2 in
    let q = Result-bind_ok (ok_or (object_at (codes "request") d) (at i Request)) _ x s.2 in
    let r = Result-bind_ok (ok_or (object_at (codes "response") d) (at i Response)) _ x q.2 in
    let n = Result-bind_ok (ok_or (status_in r.0) (at i Status)) _ x r.2 in
    let y : Interaction = record { description = b.0; states = s.0; request = q.0; response = r.0 } in
    let same : y ≡ x = Ok-injective _ _ n.2 in
    object_at-get (codes "response") d r.0 (ok_or-ok _ _ r.0 r.1) ∙ ap (λ (z : Interaction). Some z.response) same

pub InteractionRead-sound : (i : ℕ) (d : Data) (x : Interaction) → IsSound 98 d → InteractionRead i d (Ok x) → IsSound 98 (interaction_data x)
unfolding InteractionRead
InteractionRead-sound i d x h r =
    let parts = reading-bind_ok (just (parts_at i d)) _ x r in
    let headers = reading-bind_ok (HeadersRead (at i Headers) parts.0.response) _ x parts.2 in
    let rules = reading-bind_ok (RulesRead i parts.0.response) _ x headers.2 in
    parts_at-sound i d x h (parts.1 ∙ rules.2)

-- each of them is sound
abbrev pub AllSound : List Data → Type 0
AllSound [] = ⊤
AllSound (d ∷ ds) = IsSound 98 d × AllSound ds

-- each value that a list of sound items holds is sound, nesting at most 98
pub AllSound-listed : (ds : Items) → AreSound 98 ds → AllSound (listed ds)
AllSound-listed no_items h = tt
AllSound-listed (item d ds) h = (h.0, AllSound-listed ds h.1)

-- what is so of an interaction that is read of a sound value is so of each of a list
pub EachRead-each : (P : Interaction → Type 0) → ((i : ℕ) (d : Data) (x : Interaction) → IsSound 98 d → InteractionRead i d (Ok x) → P x)
    → (i : ℕ) (ds : List Data) (xs : List Interaction) → AllSound ds → EachRead InteractionRead i ds (Ok xs) → (z : Interaction) → IsIn z xs → P z
unfolding EachRead
EachRead-each P one i [] xs h e z m = absurd (subst (IsIn z) (sym (Ok-injective _ _ e)) m)
EachRead-each P one i (d ∷ ds) xs h e z m =
    let first = reading-bind_ok (InteractionRead i d) _ xs e in
    let others = reading-bind_ok (EachRead InteractionRead (i + 1) ds) _ xs first.2 in
    let same : first.0 ∷ others.0 ≡ xs = Ok-injective _ _ others.2 in
    ⊎_elim (λ is. subst P (sym is) (one i d first.0 h.0 first.1)) (EachRead-each P one (i + 1) ds others.0 h.1 others.1 z) (subst (IsIn z) (sym same) m)

pub EachRead-sound : (i : ℕ) (ds : List Data) (xs : List Interaction) → AllSound ds → EachRead InteractionRead i ds (Ok xs) → (z : Interaction) → IsIn z xs → IsSound 98 (interaction_data z)
EachRead-sound i ds xs h e = EachRead-each (λ x. IsSound 98 (interaction_data x)) InteractionRead-sound i ds xs h e

-- ---- the file

pub file_of-sound : (bytes : List ℕ) (d : Data) → file_of bytes ≡ Ok d → IsSound 100 d
unfolding file_of
file_of-sound bytes d e =
    let short = Result-bind_ok (guard (nat_le (length bytes) most_bytes) TooLong) _ d e in
    object_of-sound bytes d (with_fault-ok as_file_fault (object_of bytes) d short.2)

-- a file that is read is a text
pub file_of-IsSomeText : (bytes : List ℕ) (d : Data) → file_of bytes ≡ Ok d → IsSomeText bytes
unfolding file_of object_of
file_of-IsSomeText bytes d e =
    let short = Result-bind_ok (guard (nat_le (length bytes) most_bytes) TooLong) _ d e in
    let json = Result-bind_ok (json_of bytes) _ d (with_fault-ok as_file_fault (object_of bytes) d short.2) in
    json_of-IsSomeText bytes json.0 json.1

pub Normal-of_file : (bytes : List ℕ) (d : Data) (r : Result Pact PactFault) → file_of bytes ≡ Ok d → GivesOne Memory (λ p. p) r (PactRead d) → GivesOne Memory (λ p. p) r (Normal bytes)
unfolding Normal
Normal-of_file bytes d (Ok p) is h = (Ok d, is, h)
Normal-of_file bytes d (Err e) is h = λ memory. (Ok d, is, h memory)

pub items_at-sound : (file : Data) (ds : List Data) → IsSound 100 file → items_at file ≡ Ok ds → AllSound ds
unfolding items_at
items_at-sound file ds h e =
    let items = Result-bind_ok (ok_or (option_and_then as_array (get (codes "interactions") file)) (Shape Interactions)) _ ds e in
    let few = Result-bind_ok (guard (nat_le (items_len items.0) most_interactions) TooMany) _ ds items.2 in
    let found = option_and_then-some as_array (get (codes "interactions") file) items.0 (ok_or-ok _ _ items.0 items.1) in
    subst AllSound (Ok-injective _ _ few.2) (AllSound-listed items.0 (AreSound-as_array 98 found.0 items.0 (IsSound-get 99 (codes "interactions") file found.0 h found.1) found.2))

-- values that are each sound, nesting at most 98, are sound as the items of one array
pub AreSound-items_view : (vs : List Value) → AllSound (map view vs) → AreSound 98 (items_view vs)
AreSound-items_view [] h = tt
AreSound-items_view (v ∷ vs) h = (h.0, AreSound-items_view vs h.1)

-- what a function gives is one answer of a reading that has that answer
pub GivesOne-of_Gives : {X Y : Type 0} (view : X → Y) (r : Result X PactFault) (read : Result Y PactFault) (reads : Result Y PactFault → Type 0) → ((a : Result Y PactFault) → read ≡ a → reads a) → Gives Memory view r read → GivesOne Memory view r reads
GivesOne-of_Gives view (Ok x) read reads f h = f (Ok (view x)) h
GivesOne-of_Gives view (Err e) read reads f h = λ memory. f (Err e) (h memory)

AreSound-interaction_data : (xs : List Interaction) → ((z : Interaction) → IsIn z xs → IsSound 98 (interaction_data z)) → AreSound 98 (items_of (map interaction_data xs))
AreSound-interaction_data [] h = tt
AreSound-interaction_data (x ∷ xs) h = (h x (inl refl), AreSound-interaction_data xs (λ z m. h z (inr m)))

pub InteractionsRead-sound : (file : Data) (xs : List Interaction) → IsSound 100 file → InteractionsRead file (Ok xs) → AreSound 98 (items_of (map interaction_data xs))
unfolding InteractionsRead
InteractionsRead-sound file xs h r =
    let items = reading-bind_ok (just (items_at file)) _ xs r in
    let found = reading-bind_ok (EachRead InteractionRead 0 items.0) _ xs items.2 in
    let each = EachRead-sound 0 items.0 found.0 (items_at-sound file items.0 h items.1) found.1 in
    AreSound-interaction_data xs (λ z m. each z (found.2.1.known z m))

-- ---- the length of the normal text
