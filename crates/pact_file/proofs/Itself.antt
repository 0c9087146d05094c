-- The normal form of an interaction is read as that interaction, at any place.
use Rattle.std.specs.{Prelude.{⊤}, Option.{ok_or}}
use Rattle.std.proofs.Common.{◌≡◌, ℕ, List, [], ◌∷◌, codes, map, is_some, Option, Some, None, option_map, option_and_then, Result, Ok, Err, refl, ap, subst}
use Rattle.std.proofs.lemmas.Option.{same_Some}
use Rattle.serde_json.{specs.{Data.{Data, null, object}, Find.{get, as_str, as_array, as_object}, View.{items_of}}, proofs.OnLiterals.{serde_json_on_literals}}
use Rattle.pact_file.specs.Pact.{State, Interaction, params_data, state_data, interaction_data}
use Rattle.pact_file.specs.Parts.{optional_at, text_at, if_object, object_at, listed, all_of, state_in, one_state, states_from, states_in, status_in}
use Rattle.pact_file.specs.{Interactions.{at, parts_at}, Headers.{HeadersRead}, Normal.{InteractionRead}, Rules.{rules_or_fault, RulesRead}}
use Rattle.pact_file.specs.declared.fault.Part.TheVariants.{Headers, Whole, Description, States, Request, Response, Status}
use Rattle.pact_file.proofs.{ReadLemmas.{reading-bind_ok}, Steps.{Result-bind_ok, ok_or-ok, Ok-injective, option_map-some, option_and_then-some}}
use Rattle.pact_rules.specs.{Rules.{Rules as Table}, declared.rule_fault.RuleFault.{RuleFault}, Outcome.{guard}, Reading.{just}, RuleReading.{unless_null}}

-- ---- states: parameters that are there aren't null

abbrev IsGiven : Option Data → Type 0
IsGiven None = ⊤
IsGiven (Some d) = unless_null d ≡ Some d

abbrev AreGiven : List State → Type 0
AreGiven [] = ⊤
AreGiven (s ∷ ss) = IsGiven s.params × AreGiven ss

unless_null-twice : (d e : Data) → unless_null d ≡ Some e → unless_null e ≡ Some e
unless_null-twice null e h = absurd cc
unless_null-twice d e h = subst (λ x. unless_null x ≡ Some x) (same_Some _ _ h) refl

IsGiven-of_unless_null : (o p : Option Data) → option_and_then unless_null o ≡ p → IsGiven p
IsGiven-of_unless_null o None h = tt
IsGiven-of_unless_null None (Some d) h = absurd cc
IsGiven-of_unless_null (Some c) (Some d) h = unless_null-twice c d h

IsGiven-of_state_in : (d : Data) (s : State) → state_in d ≡ Some s → IsGiven s.params
IsGiven-of_state_in d s e =
    let p = option_map-some (λ name. record { name = name; params = optional_at (codes "params") d }) (text_at (codes "name") d) s e in
    IsGiven-of_unless_null (get (codes "params") d) s.params (ap (λ (x : State). x.params) p.2)

AreGiven-of_all_of : (ds : List Data) (ss : List State) → all_of state_in ds ≡ Some ss → AreGiven ss
unfolding all_of
AreGiven-of_all_of [] ss e = subst AreGiven (same_Some _ _ e) tt
AreGiven-of_all_of (d ∷ ds) ss e =
    let first = option_and_then-some (λ y. option_map (λ ys. y ∷ ys) (all_of state_in ds)) (state_in d) ss e in
    let others = option_map-some (λ ys. first.0 ∷ ys) (all_of state_in ds) ss first.2 in
    subst AreGiven others.2 (IsGiven-of_state_in d first.0 first.1, AreGiven-of_all_of ds others.0 others.1)

AreGiven-of_one_state : (o : Option Data) (ss : List State) → one_state o ≡ Some ss → AreGiven ss
AreGiven-of_one_state None ss e = subst AreGiven (same_Some _ _ e) tt
AreGiven-of_one_state (Some d) ss e =
    let p = option_map-some (λ name. record { name = name; params = None } ∷ []) (as_str d) ss e in
    subst AreGiven p.2 (tt, tt)

AreGiven-of_states_from : (list older : Option Data) (ss : List State) → states_from list older ≡ Some ss → AreGiven ss
AreGiven-of_states_from None older ss e = AreGiven-of_one_state older ss e
AreGiven-of_states_from (Some d) older ss e = let p = option_and_then-some (λ ds. all_of state_in (listed ds)) (as_array d) ss e in AreGiven-of_all_of (listed p.0) ss p.2

AreGiven-of_states_in : (d : Data) (ss : List State) → states_in d ≡ Some ss → AreGiven ss
unfolding states_in
AreGiven-of_states_in d ss e = AreGiven-of_states_from (optional_at (codes "providerStates") d) (optional_at (codes "providerState") d) ss e

state_in-params_data : (name : List ℕ) (params : Option Data) → IsGiven params → state_in (params_data name params) ≡ Some (record { name = name; params = params })
unfolding serde_json_on_literals
state_in-params_data name None h = refl
state_in-params_data name (Some d) h = let made : Option Data → Option State = λ p. Some (record { name = name; params = p }) in ap made h

pub listed-items_of : (ds : List Data) → listed (items_of ds) ≡ ds
listed-items_of [] = refl
listed-items_of (d ∷ ds) = ap (λ es. d ∷ es) (listed-items_of ds)

all_of-state_data : (ss : List State) → AreGiven ss → all_of state_in (map state_data ss) ≡ Some ss
unfolding all_of
all_of-state_data [] h = refl
all_of-state_data (s ∷ ss) h = rw (state_in-params_data s.name s.params h.0, all_of-state_data ss h.1) refl

states_in-interaction_data : (x : Interaction) → AreGiven x.states → states_in (interaction_data x) ≡ Some x.states
unfolding states_in serde_json_on_literals
states_in-interaction_data x h = rw (listed-items_of (map state_data x.states), all_of-state_data x.states h) refl

-- ---- the interaction

if_object-twice : (d e : Data) → if_object d ≡ Some e → if_object e ≡ Some e
if_object-twice (object ms) e h = subst (λ x. if_object x ≡ Some x) (same_Some _ _ h) refl
if_object-twice d e h = absurd cc

if_object-of_object_at : (k : List ℕ) (d e : Data) → object_at k d ≡ Some e → if_object e ≡ Some e
if_object-of_object_at k d e h = let p = option_and_then-some if_object (get k d) e h in if_object-twice p.0 e p.2

parts_at-itself : (j : ℕ) (x : Interaction) (n : ℕ) → AreGiven x.states → if_object x.request ≡ Some x.request → if_object x.response ≡ Some x.response → status_in x.response ≡ Some n → parts_at j (interaction_data x) ≡ Ok x
unfolding parts_at serde_json_on_literals
parts_at-itself j x n known q r status = rw (states_in-interaction_data x known, q, r, status) refl

parts_at-interaction_data : (i j : ℕ) (d : Data) (x : Interaction) → parts_at i d ≡ Ok x → parts_at j (interaction_data x) ≡ Ok x
unfolding parts_at
parts_at-interaction_data i j d x e =
    let a = Result-bind_ok (guard (is_some (as_object d)) (at i Whole)) _ x e in
    let b = Result-bind_ok (ok_or (text_at (codes "description") d) (at i Description)) _ x a.2 in
    let s = Result-bind_ok (ok_or (states_in d) (at i States)) _ x b.2 in
    let q = Result-bind_ok (ok_or (object_at (codes "request") d) (at i Request)) _ x s.2 in
    let r = Result-bind_ok (ok_or (object_at (codes "response") d) (at i Response)) _ x q.2 in
    let n = Result-bind_ok (ok_or (status_in r.0) (at i Status)) _ x r.2 in
    subst (λ (z : Interaction). parts_at j (interaction_data z) ≡ Ok z) (Ok-injective _ _ n.2)
    (parts_at-itself j (record { description = b.0; states = s.0; request = q.0; response = r.0 }) n.0 (AreGiven-of_states_in d s.0 (ok_or-ok _ _ s.0 s.1))
    (if_object-of_object_at (codes "request") d q.0 (ok_or-ok _ _ q.0 q.1)) (if_object-of_object_at (codes "response") d r.0 (ok_or-ok _ _ r.0 r.1)) (ok_or-ok _ _ n.0 n.1))

rules_or_fault-other_index : (i j : ℕ) (r : Result Table RuleFault) (t : Table) → rules_or_fault i r ≡ Ok t → rules_or_fault j r ≡ Ok t
rules_or_fault-other_index i j (Ok table) t h = ap Ok (Ok-injective _ _ h)
rules_or_fault-other_index i j (Err e) t h = absurd cc

RulesRead-other_index : (i j : ℕ) (response : Data) (t : Table) → RulesRead i response (Ok t) → RulesRead j response (Ok t)
unfolding RulesRead
RulesRead-other_index i j response t h = (h.0, h.1, rules_or_fault-other_index i j h.0 t h.2)

-- The normal form of an interaction that was read is read as that interaction.
pub InteractionRead-interaction_data : (i j : ℕ) (d : Data) (x : Interaction) → InteractionRead i d (Ok x) → InteractionRead j (interaction_data x) (Ok x)
unfolding InteractionRead
InteractionRead-interaction_data i j d x h =
    let parts = reading-bind_ok (just (parts_at i d)) _ x h in
    let headers = reading-bind_ok (HeadersRead (at i Headers) parts.0.response) _ x parts.2 in
    let rules = reading-bind_ok (RulesRead i parts.0.response) _ x headers.2 in
    subst (λ (z : Interaction). InteractionRead j (interaction_data z) (Ok z)) (Ok-injective _ _ rules.2)
    (Ok parts.0, parts_at-interaction_data i j d parts.0 parts.1, (Ok headers.0, headers.1, (Ok rules.0, RulesRead-other_index i j parts.0.response rules.0 rules.1, refl)))
