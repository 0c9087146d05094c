-- What a writer got, token by token.
use Rattle.std.specs.{Borrow.{Bor}, List.{flat_map}}
use Rattle.std.proofs.Common.{◌≡◌, ℕ, ◌+◌, ◌<◌, ◌≤◌, List, [], ◌∷◌, ◌++◌, Result, Ok, Err, OnOk, length, get_or, map, take, refl, sym, ap, ◌∙◌, subst, append_assoc}
use Rattle.std.proofs.lemmas.List.{take_more, take_all, flat_map_more}
use Rattle.json.specs.{Print.{print}, Token.{Token, begin_object, end_object, begin_array, end_array, key}, Tree.{items_tokens, members_tokens}}
use Rattle.json.specs.Written.{Written, Writes}
use Rattle.serde_json.{specs.{Data.{Data}, View.{items_of}, Written.{items_outline, members_outline, compact_text}}, proofs.Texts.{print-outline}}
use Rattle.answer_texts.specs.{Data.{members_of, items, object_of}, Tokens.{tokens_of, Adds}}
use Rattle.broker_core.specs.Text.{Text}

-- one token
pub Adds-token : {E : Type 0} (r : Result (Unit {0}) E) (old new : Written) (t : Token) → Writes r old new t → OnOk r (Adds (t ∷ []) old new)
Adds-token (Ok x) old new t w = record { before = w.room.0; more = w.ok }
Adds-token (Err e) old new t w = tt

-- two appends, one after the other
pub Adds-trans : (front back : List Token) (a b c : Written) → Adds front a b → Adds back b c → Adds (front ++ back) a c
Adds-trans front back a b c p q = record {
  before = q.before ∙ p.before;
  more = q.more ∙ ap (λ ts. ts ++ back) p.more ∙ append_assoc a.tokens front back;
}

-- the same, as tokens that are known
pub Adds-more : (front back whole : List Token) (a b c : Written) → front ++ back ≡ whole → Adds front a b → Adds back b c → Adds whole a c
Adds-more front back whole a b c same p q = subst (λ ts. Adds ts a c) same (Adds-trans front back a b c p q)

-- the last tokens, if they were written
pub Adds-last : {E : Type 0} (r : Result (Unit {0}) E) (front back whole : List Token) (a b c : Written) → front ++ back ≡ whole → Adds front a b → OnOk r (Adds back b c) → OnOk r (Adds whole a c)
Adds-last (Ok x) front back whole a b c same p q = Adds-more front back whole a b c same p q
Adds-last (Err e) front back whole a b c same p q = tt

-- one item more
pub flat_map-take_next : {X : Type 0} (f : X → List Token) (front : List Token) (xs : List X) (i : ℕ) (x : X) → i < length xs → x ≡ get_or xs i x
    → (front ++ flat_map f (take i xs)) ++ f x ≡ front ++ flat_map f (take (i + 1) xs)
flat_map-take_next f front xs i x low is =
    flat_map_more f front (take i xs) x
    ∙ ap (λ ys. front ++ flat_map f ys) (sym (take_more xs i x low ∙ ap (λ y. take i xs ++ y ∷ []) (sym is)))

items_tokens-of_each : {X : Type 0} (each : X → Data) (xs : List X)
    → flat_map (λ x. tokens_of (each x)) xs ++ end_array ∷ [] ≡ items_tokens (items_outline (items_of (map each xs)))
items_tokens-of_each each [] = refl
items_tokens-of_each each (x ∷ xs) =
    append_assoc (tokens_of (each x)) (flat_map (λ y. tokens_of (each y)) xs) (end_array ∷ [])
    ∙ ap (λ ts. tokens_of (each x) ++ ts) (items_tokens-of_each each xs)

-- all items, between the brackets
pub tokens_of-items : {X : Type 0} (each : X → Data) (xs : List X) (i : ℕ) → length xs ≤ i
    → (begin_array ∷ flat_map (λ x. tokens_of (each x)) (take i xs)) ++ end_array ∷ [] ≡ tokens_of (items each xs)
tokens_of-items each xs i past =
    ap (λ ys. begin_array ∷ (flat_map (λ x. tokens_of (each x)) ys ++ end_array ∷ [])) (take_all i xs past)
    ∙ ap (λ ts. begin_array ∷ ts) (items_tokens-of_each each xs)

-- the tokens of a member
abbrev pub member_tokens : {X : Type 0} → (X → Data) → Bor Text × X → List Token
member_tokens each m = key m.0.now ∷ tokens_of (each m.1)

members_tokens-of_each : {X : Type 0} (each : X → Data) (ms : List (Bor Text × X))
    → flat_map (member_tokens each) ms ++ end_object ∷ [] ≡ members_tokens (members_outline (members_of (map (λ m. (m.0.now, each m.1)) ms)))
members_tokens-of_each each [] = refl
members_tokens-of_each each (m ∷ ms) =
    ap (λ ts. key m.0.now ∷ ts)
    (append_assoc (tokens_of (each m.1)) (flat_map (member_tokens each) ms) (end_object ∷ [])
    ∙ ap (λ ts. tokens_of (each m.1) ++ ts) (members_tokens-of_each each ms))

-- all members, between the braces
pub tokens_of-object_of : {X : Type 0} (each : X → Data) (ms : List (Bor Text × X)) (i : ℕ) → length ms ≤ i
    → (begin_object ∷ flat_map (member_tokens each) (take i ms)) ++ end_object ∷ [] ≡ tokens_of (object_of each ms)
tokens_of-object_of each ms i past =
    ap (λ ys. begin_object ∷ (flat_map (member_tokens each) ys ++ end_object ∷ [])) (take_all i ms past)
    ∙ ap (λ ts. begin_object ∷ ts) (members_tokens-of_each each ms)

-- what a writer that began with nothing prints of a value
pub print-tokens_of : (d : Data) (old new : Written) → old.tokens ≡ [] → Adds (tokens_of d) old new → print new.tokens ≡ compact_text d
print-tokens_of d old new none adds = ap print (adds.more ∙ ap (λ ts. ts ++ tokens_of d) none) ∙ print-outline d
