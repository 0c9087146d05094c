-- The parts of sound data are sound, and so are the normal forms that are made of them.
use Rattle.std.specs.{Ordering.{nat_cmp, match_ordering}, Cmp.Lexicographic.{slice_cmp}, Str.{IsUtf8}}
use Rattle.std.proofs.Common.{◌≡◌, ℕ, suc, List, [], ◌∷◌, map, codes, Ordering, Equal, Option, Some, None, option_map, refl, ap, ◌∙◌, subst}
use Rattle.std.proofs.lemmas.Option.{same_Some}
use Rattle.json.proofs.Printed.Utf8.{IsUtf8-are_ascii}
use Rattle.serde_json.specs.Data.{Data, null, string, array, object, Items, no_items, item, Members, no_members, member}
use Rattle.serde_json.{specs.{Find.{get, get_member, as_str, as_array}, View.{items_of}}, proofs.OnLiterals.{serde_json_on_literals}}
use Rattle.pact_rules.specs.RuleReading.{unless_null}
use Rattle.pact_file.specs.Pact.{State, Interaction, Pact, params_data, state_data, states_data, interaction_data, pact_data}
use Rattle.pact_file.specs.Parts.{optional_at, text_at, if_object, object_at, listed, all_of, state_in, one_state, states_from, states_in}
use Rattle.pact_file.{specs.Sound.{IsSound, AreSound, MembersAreSound}, proofs.Steps.{option_map-some, option_and_then-some}}

IsSound-match_ordering : (n : ℕ) (o : Ordering) (a : Option Data) (b d : Data) → IsSound n b → (a ≡ Some d → IsSound n d) → match_ordering o a (Some b) a ≡ Some d → IsSound n d
IsSound-match_ordering n Equal a b d h k e = subst (IsSound n) (same_Some _ _ e) h
IsSound-match_ordering n o a b d h k e = k e

IsSound-get_member : (n : ℕ) (k : List ℕ) (ms : Members) (d : Data) → MembersAreSound n ms → get_member k ms ≡ Some d → IsSound n d
IsSound-get_member n k no_members d h e = absurd cc
IsSound-get_member n k (member l x ms) d h e = IsSound-match_ordering n (slice_cmp nat_cmp k l) (get_member k ms) x d h.1 (λ found. IsSound-get_member n k ms d h.2 found) e

-- the value found under a key of sound data is sound, nesting one level less
pub IsSound-get : (n : ℕ) (k : List ℕ) (whole d : Data) → IsSound (suc n) whole → get k whole ≡ Some d → IsSound n d
IsSound-get n k (object ms) d h e = IsSound-get_member n k ms d h e
IsSound-get n k whole d h e = absurd cc

unless_null-same : (d e : Data) → unless_null d ≡ Some e → d ≡ e
unless_null-same null e h = absurd cc
unless_null-same d e h = same_Some _ _ h

pub optional_at-get : (k : List ℕ) (whole d : Data) → optional_at k whole ≡ Some d → get k whole ≡ Some d
optional_at-get k whole d e = let p = option_and_then-some unless_null (get k whole) d e in p.1 ∙ ap Some (unless_null-same p.0 d p.2)

pub IsSound-optional_at : (n : ℕ) (k : List ℕ) (whole d : Data) → IsSound (suc n) whole → optional_at k whole ≡ Some d → IsSound n d
IsSound-optional_at n k whole d h e = IsSound-get n k whole d h (optional_at-get k whole d e)

if_object-same : (d e : Data) → if_object d ≡ Some e → d ≡ e
if_object-same (object ms) e h = same_Some _ _ h
if_object-same d e h = absurd cc

pub object_at-get : (k : List ℕ) (whole d : Data) → object_at k whole ≡ Some d → get k whole ≡ Some d
object_at-get k whole d e = let p = option_and_then-some if_object (get k whole) d e in p.1 ∙ ap Some (if_object-same p.0 d p.2)

-- the object found under a key of sound data is sound, nesting one level less
pub IsSound-object_at : (n : ℕ) (k : List ℕ) (whole d : Data) → IsSound (suc n) whole → object_at k whole ≡ Some d → IsSound n d
IsSound-object_at n k whole d h e = IsSound-get n k whole d h (object_at-get k whole d e)

as_str-IsUtf8 : (n : ℕ) (d : Data) (s : List ℕ) → IsSound n d → as_str d ≡ Some s → IsUtf8 s
as_str-IsUtf8 n (string t) s h e = subst IsUtf8 (same_Some _ _ e) h
as_str-IsUtf8 n d s h e = absurd cc

pub text_at-IsUtf8 : (n : ℕ) (k : List ℕ) (whole : Data) (s : List ℕ) → IsSound (suc n) whole → text_at k whole ≡ Some s → IsUtf8 s
text_at-IsUtf8 n k whole s h e = let p = option_and_then-some as_str (get k whole) s e in as_str-IsUtf8 n p.0 s (IsSound-get n k whole p.0 h p.1) p.2

-- the items of a sound array are sound, nesting one level less
pub AreSound-as_array : (n : ℕ) (d : Data) (ds : Items) → IsSound (suc n) d → as_array d ≡ Some ds → AreSound n ds
AreSound-as_array n (array es) ds h e = subst (AreSound n) (same_Some _ _ e) h
AreSound-as_array n d ds h e = absurd cc

-- ---- states

codes-name_IsUtf8 : IsUtf8 (codes "name")
codes-name_IsUtf8 = IsUtf8-are_ascii (codes "name") refl

IsSound-params_data : (n : ℕ) (name : List ℕ) (params : Option Data) → IsUtf8 name → ((d : Data) → params ≡ Some d → IsSound n d) → IsSound (suc n) (params_data name params)
unfolding serde_json_on_literals
IsSound-params_data n name None u h = (tt, u, tt, codes-name_IsUtf8)
IsSound-params_data n name (Some d) u h = ((refl, tt), u, (tt, h d refl, tt, IsUtf8-are_ascii (codes "params") refl), codes-name_IsUtf8)

IsSound-state_data : (n : ℕ) (d : Data) (s : State) → IsSound (suc n) d → state_in d ≡ Some s → IsSound (suc n) (state_data s)
IsSound-state_data n d s h e =
    let p = option_map-some (λ name. record { name = name; params = optional_at (codes "params") d }) (text_at (codes "name") d) s e in
    subst (λ x. IsSound (suc n) (state_data x)) p.2 (IsSound-params_data n p.0 (optional_at (codes "params") d) (text_at-IsUtf8 n (codes "name") d p.0 h p.1) (λ x found. IsSound-optional_at n (codes "params") d x h found))

AreSound-all_of_state_in : (n : ℕ) (ds : Items) (ss : List State) → AreSound (suc n) ds → all_of state_in (listed ds) ≡ Some ss → AreSound (suc n) (items_of (map state_data ss))
unfolding all_of
AreSound-all_of_state_in n no_items ss h e = subst (λ x. AreSound (suc n) (items_of (map state_data x))) (same_Some _ _ e) tt
AreSound-all_of_state_in n (item d ds) ss h e =
    let first = option_and_then-some (λ y. option_map (λ ys. y ∷ ys) (all_of state_in (listed ds))) (state_in d) ss e in
    let others = option_map-some (λ ys. first.0 ∷ ys) (all_of state_in (listed ds)) ss first.2 in
    subst (λ x. AreSound (suc n) (items_of (map state_data x))) others.2 (IsSound-state_data n d first.0 h.0 first.1, AreSound-all_of_state_in n ds others.0 h.1 others.1)

AreSound-one_state : (n : ℕ) (o : Option Data) (ss : List State) → ((d : Data) → o ≡ Some d → IsSound (suc (suc n)) d) → one_state o ≡ Some ss → AreSound (suc n) (items_of (map state_data ss))
AreSound-one_state n None ss h e = subst (λ x. AreSound (suc n) (items_of (map state_data x))) (same_Some _ _ e) tt
AreSound-one_state n (Some d) ss h e =
    let p = option_map-some (λ name. record { name = name; params = None } ∷ []) (as_str d) ss e in
    subst (λ x. AreSound (suc n) (items_of (map state_data x))) p.2 (IsSound-params_data n p.0 None (as_str-IsUtf8 (suc (suc n)) d p.0 (h d refl) p.1) (λ x found. absurd cc), tt)

AreSound-states_from : (n : ℕ) (list older : Option Data) (ss : List State) → ((d : Data) → list ≡ Some d → IsSound (suc (suc n)) d) → ((d : Data) → older ≡ Some d → IsSound (suc (suc n)) d)
    → states_from list older ≡ Some ss → AreSound (suc n) (items_of (map state_data ss))
AreSound-states_from n None older ss h k e = AreSound-one_state n older ss k e
AreSound-states_from n (Some d) older ss h k e =
    let p = option_and_then-some (λ ds. all_of state_in (listed ds)) (as_array d) ss e in
    AreSound-all_of_state_in n p.0 ss (AreSound-as_array (suc n) d p.0 (h d refl) p.1) p.2

-- of an interaction that nests at most n + 3
pub IsSound-states_data : (n : ℕ) (d : Data) (ss : List State) → IsSound (suc (suc (suc n))) d → states_in d ≡ Some ss → IsSound (suc (suc n)) (states_data ss)
unfolding states_in
IsSound-states_data n d ss h e =
    AreSound-states_from n (optional_at (codes "providerStates") d) (optional_at (codes "providerState") d) ss
    (λ x found. IsSound-optional_at (suc (suc n)) (codes "providerStates") d x h found) (λ x found. IsSound-optional_at (suc (suc n)) (codes "providerState") d x h found) e

-- ---- an interaction, and a pact

pub IsSound-interaction_data : (n : ℕ) (x : Interaction) → IsUtf8 x.description → IsSound (suc (suc n)) (states_data x.states) → IsSound (suc (suc n)) x.request → IsSound (suc (suc n)) x.response
    → IsSound (suc (suc (suc n))) (interaction_data x)
unfolding serde_json_on_literals
IsSound-interaction_data n x d s q r = (
  (refl, (refl, (refl, tt))),
  d,
  (
    (refl, (refl, tt)),
    s,
    ((refl, tt), q, (tt, r, tt, IsUtf8-are_ascii (codes "response") refl), IsUtf8-are_ascii (codes "request") refl),
    IsUtf8-are_ascii (codes "providerStates") refl,
  ),
  IsUtf8-are_ascii (codes "description") refl,
)

pub IsSound-pact_data : (p : Pact) → IsUtf8 p.consumer → IsUtf8 p.provider → AreSound 98 (items_of (map interaction_data p.interactions)) → IsSound 100 (pact_data p)
unfolding serde_json_on_literals
IsSound-pact_data p c q h = (
  (refl, (refl, tt)),
  (tt, c, tt, codes-name_IsUtf8),
  ((refl, tt), h, (tt, (tt, q, tt, codes-name_IsUtf8), tt, IsUtf8-are_ascii (codes "provider") refl), IsUtf8-are_ascii (codes "interactions") refl),
  IsUtf8-are_ascii (codes "consumer") refl,
)
