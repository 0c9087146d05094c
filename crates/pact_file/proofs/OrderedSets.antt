-- Interactions of a sound file that are inserted one after another make the set in order, or clash.
use Rattle.std.specs.{Cmp.{IsTotalOrder}, Option.{ok_or}}
use Rattle.std.proofs.Common.{◌≡◌, ℕ, ◌≤◌, List, [], ◌∷◌, map, length, true, false, true≢false, Option, Some, None, Result, Ok, Err, refl, sym, ap, ap₂, ◌∙◌, subst, arith}
use Rattle.std.proofs.{lemmas.Cmp.{nat_list_cmp_total, on_total, then_total}, lemmas.Slice.Eq.{bytes_eq-Decides}}
use Rattle.pact_file.specs.{declared.fault.PactFault.TheVariants.{SameInteraction}, Normal.{InOrder}}
use Rattle.pact_file.specs.{Pact.{State, Interaction, params_data, state_data, states_data, interaction_data, key_cmp}, Sorting.{insert_all_sorted, same_text}}
use Rattle.pact_file.{specs.{Sound.{IsSound}, declared.fault.PactFault.{PactFault}}, proofs.ReadBack.{compact_text-injective}}
use Rattle.pact_file.proofs.{SetLemmas.{set_of, set_few, clash_of, IsSetInOrder-unique}, SoundData.{kept, IsSound-no_floats, IsSound-depth_le}}
use Rattle.pact_rules.specs.Lists.{IsIn}
use Rattle.serde_json.specs.{Data.{Data, string, array, object, Items, item, Members, no_members, member}, View.{items_of}, Written.{compact_text}}

pub key_cmp-total : IsTotalOrder key_cmp
key_cmp-total = then_total (on_total (λ (x : Interaction). x.description) nat_list_cmp_total) (on_total (λ (x : Interaction). compact_text (states_data x.states)) nat_list_cmp_total)

-- ---- one normal form

string-injective : (s t : List ℕ) → string s ≡ string t → s ≡ t
string-injective s t h = cc

array-injective : (ds es : Items) → array ds ≡ array es → ds ≡ es
array-injective ds es h = cc

object-injective : (ms ns : Members) → object ms ≡ object ns → ms ≡ ns
object-injective ms ns h = cc

member-injective : (k l : List ℕ) (d e : Data) (ms ns : Members) → member k d ms ≡ member l e ns → (d ≡ e) × (ms ≡ ns)
member-injective k l d e ms ns h = (cc, cc)

item-injective : (d e : Data) (ds es : Items) → item d ds ≡ item e es → (d ≡ e) × (ds ≡ es)
item-injective d e ds es h = (cc, cc)

no_members-not_member : {P : Type 0} (k : List ℕ) (d : Data) (ms : Members) → no_members ≡ member k d ms → P
no_members-not_member k d ms h = absurd cc

record AreSame (m n : List ℕ) (p q : Option Data) : Type 0 where
  name : m ≡ n
  params : p ≡ q

params_data-injective : (m n : List ℕ) (p q : Option Data) → params_data m p ≡ params_data n q → AreSame m n p q
params_data-injective m n None None h =
    let f = member-injective _ _ _ _ _ _ (object-injective _ _ h) in
    record { name = string-injective m n f.0; params = refl }
params_data-injective m n None (Some d) h = let f = member-injective _ _ _ _ _ _ (object-injective _ _ h) in no_members-not_member _ d no_members f.1
params_data-injective m n (Some c) None h = let f = member-injective _ _ _ _ _ _ (object-injective _ _ h) in no_members-not_member _ c no_members (sym f.1)
params_data-injective m n (Some c) (Some d) h =
    let f = member-injective _ _ _ _ _ _ (object-injective _ _ h) in
    let g = member-injective _ _ _ _ _ _ f.1 in
    record { name = string-injective m n f.0; params = ap Some g.0 }

state_data-injective : (s t : State) → state_data s ≡ state_data t → s ≡ t
state_data-injective s t h =
    let f = params_data-injective s.name t.name s.params t.params h in
    λ i. record { name = f.name i; params = f.params i }

state_data-injective_lists : (ss ts : List State) → items_of (map state_data ss) ≡ items_of (map state_data ts) → ss ≡ ts
state_data-injective_lists [] [] h = refl
state_data-injective_lists (s ∷ ss) (t ∷ ts) h =
    let f = item-injective _ _ _ _ h in
    ap₂ (λ x xs. x ∷ xs) (state_data-injective s t f.0) (state_data-injective_lists ss ts f.1)
state_data-injective_lists ss ts h = absurd cc

-- an interaction is known by its normal form
pub interaction_data-injective : (x y : Interaction) → interaction_data x ≡ interaction_data y → x ≡ y
interaction_data-injective x y h =
    let d = member-injective _ _ _ _ _ _ (object-injective _ _ h) in
    let s = member-injective _ _ _ _ _ _ d.1 in
    let q = member-injective _ _ _ _ _ _ s.1 in
    let r = member-injective _ _ _ _ _ _ q.1 in
    let description : x.description ≡ y.description = string-injective _ _ d.0 in
    let states : x.states ≡ y.states = state_data-injective_lists x.states y.states (array-injective _ _ s.0) in
    let request : x.request ≡ y.request = q.0 in
    let response : x.response ≡ y.response = r.0 in
    λ i. record { description = description i; states = states i; request = request i; response = response i }

-- ---- one text

abbrev pub IsGood : Interaction → Type 0
IsGood x = IsSound 98 (interaction_data x)

compact_text-same_interaction : (x y : Interaction) → IsGood x → IsGood y → compact_text (interaction_data x) ≡ compact_text (interaction_data y) → x ≡ y
compact_text-same_interaction x y g h e =
    interaction_data-injective x y
    (compact_text-injective (interaction_data x) (interaction_data y) (kept 98 (interaction_data x) g) (kept 98 (interaction_data y) h) (IsSound-no_floats 98 (interaction_data x) g) (IsSound-no_floats 98 (interaction_data y) h)
    (omega (arith, IsSound-depth_le 98 (interaction_data x) g)) (omega (arith, IsSound-depth_le 98 (interaction_data y) h)) e)

-- provider states are known by their text
pub compact_text-same_states : (n : ℕ) (ss ts : List State) → n ≤ 100 → IsSound n (states_data ss) → IsSound n (states_data ts) → compact_text (states_data ss) ≡ compact_text (states_data ts) → ss ≡ ts
compact_text-same_states n ss ts few g h e =
    state_data-injective_lists ss ts
    (array-injective _ _
    (compact_text-injective (states_data ss) (states_data ts) (kept n (states_data ss) g) (kept n (states_data ts) h) (IsSound-no_floats n (states_data ss) g) (IsSound-no_floats n (states_data ts) h)
    (omega (arith, IsSound-depth_le n (states_data ss) g)) (omega (arith, IsSound-depth_le n (states_data ts) h)) e))

abbrev Differ : Interaction → Interaction → Type 0
Differ x y = ¬ (interaction_data x ≡ interaction_data y)

same_text-true : (x y : Interaction) → IsGood x → IsGood y → same_text x y ≡ true → (x ≡ y) × ¬ (Differ y x)
same_text-true x y g h e =
    let same : x ≡ y = compact_text-same_interaction x y g h ((bytes_eq-Decides _ _).0 e) in
    (same, λ differ. differ (ap interaction_data (sym same)))

same_text-false : (x y : Interaction) → same_text x y ≡ false → Differ y x
same_text-false x y e same = true≢false (sym ((bytes_eq-Decides (compact_text (interaction_data x)) (compact_text (interaction_data y))).1 (ap compact_text (sym same))) ∙ e)

pub InOrder-of_insert_all : (found : List Interaction) (answer : Result (List Interaction) PactFault) → ((z : Interaction) → IsIn z found → IsGood z) → ok_or (insert_all_sorted key_cmp same_text [] found) SameInteraction ≡ answer → InOrder found answer
InOrder-of_insert_all found answer good e = subst (InOrder found) e (by_case (insert_all_sorted key_cmp same_text [] found) refl) where
  by_case : (o : Option (List Interaction)) → insert_all_sorted key_cmp same_text [] found ≡ o → InOrder found (ok_or o SameInteraction)
  by_case (Some list) is = set_of key_cmp key_cmp-total same_text Differ IsGood same_text-true same_text-false found list good is
  by_case None is = (clash_of key_cmp key_cmp-total same_text Differ IsGood same_text-true same_text-false found good is, refl)

-- a set in order has at most as many as were found
pub insert_all_sorted-length_le : (found list : List Interaction) → ((z : Interaction) → IsIn z found → IsGood z)
    → insert_all_sorted key_cmp same_text [] found ≡ Some list → length list ≤ length found
insert_all_sorted-length_le found list good is = set_few key_cmp key_cmp-total same_text Differ IsGood same_text-true same_text-false found list good is

-- two answers are one
pub InOrder-unique : (found : List Interaction) (a b : Result (List Interaction) PactFault) → InOrder found a → InOrder found b → a ≡ b
InOrder-unique found (Ok xs) (Ok ys) h k = ap Ok (IsSetInOrder-unique key_cmp key_cmp-total found xs ys h.1 k.1)
InOrder-unique found (Ok xs) (Err e) h k = absurd (h.0 k.0)
InOrder-unique found (Err e) (Ok ys) h k = absurd (k.0 h.0)
InOrder-unique found (Err e) (Err f) h k = ap Err (h.1 ∙ sym k.1)
