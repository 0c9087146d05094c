-- What a pact is (Pact Specification, version 3), and its normal form (this project's own choice).
use Rattle.std.specs.Prelude.{ℕ, List, map, Option, Some, None, codes, refl}
use Rattle.std.specs.Coded.{Coded, code_by, coded_ℕ, coded_list, coded_option, coded×}
use Rattle.std.specs.Ordering.{nat_cmp, ordering_then}
use Rattle.std.specs.declared.cmp.Ordering.{Ordering}
use Rattle.std.specs.Cmp.Lexicographic.{slice_cmp}
use Rattle.serde_json.specs.Data.{Data, array, object, string, member, no_members}
use Rattle.serde_json.specs.View.{items_of}
use Rattle.serde_json.specs.Written.{compact_text}
use Rattle.pact_file.specs.DataCode.{data_code}

-- a state that the provider is in, with parameters if they are given
pub record State : Type 0 where
  pub name : List ℕ
  pub params : Option Data

-- a header's name in lower case, and its value
pub record Header : Type 0 where
  pub name : List ℕ
  pub value : List ℕ

-- an interaction: its request and its response are the data as they are in the file
pub record Interaction : Type 0 where
  pub description : List ℕ
  pub states : List State
  pub request : Data
  pub response : Data

-- the contract of a consumer with a provider
pub record Pact : Type 0 where
  pub consumer : List ℕ
  pub provider : List ℕ
  pub interactions : List Interaction

abbrev pub interaction_with : List ℕ → List State → Data → Data → Interaction
interaction_with description states request response =
    record { description = description; states = states; request = request; response = response }

abbrev pub pact_with : List ℕ → List ℕ → List Interaction → Pact
pact_with consumer provider interactions =
    record { consumer = consumer; provider = provider; interactions = interactions }

-- ---- normal forms

abbrev pub params_data : List ℕ → Option Data → Data
params_data name None = object (member (codes "name") (string name) no_members)
params_data name (Some params) =
    object (member (codes "name") (string name) (member (codes "params") params no_members))

-- a state with parameters, or without
abbrev pub state_data : State → Data
state_data s = params_data s.name s.params

abbrev pub states_data : List State → Data
states_data ss = array (items_of (map state_data ss))

-- the normal form of an interaction
abbrev pub interaction_data : Interaction → Data
interaction_data x = object (
    member (codes "description") (string x.description) (
    member (codes "providerStates") (states_data x.states) (
    member (codes "request") x.request (
    member (codes "response") x.response no_members))))

abbrev pub named : List ℕ → Data
named name = object (member (codes "name") (string name) no_members)

-- the normal form of a pact
abbrev pub pact_data : Pact → Data
pact_data p = object (
    member (codes "consumer") (named p.consumer) (
    member (codes "interactions") (array (items_of (map interaction_data p.interactions))) (
    member (codes "provider") (named p.provider) no_members)))

-- its compact JSON text
abbrev pub normal_text : Pact → List ℕ
normal_text p = compact_text (pact_data p)

-- ---- orders

-- by description, and then by the compact text of the states
abbrev pub key_cmp : Interaction → Interaction → Ordering
key_cmp x y =
    ordering_then (slice_cmp nat_cmp x.description y.description)
    (slice_cmp nat_cmp (compact_text (states_data x.states)) (compact_text (states_data y.states)))

abbrev pub name_cmp : Header → Header → Ordering
name_cmp x y = slice_cmp nat_cmp x.name y.name

-- ---- how the logic stores them

abbrev pub state_code : Coded State
state_code =
    code_by (List ℕ × Option Data)
    (coded× (coded_list coded_ℕ) (coded_option data_code))
    (λ s. (s.name, s.params)) (λ p. record { name = p.0; params = p.1 }) (λ _. refl)

abbrev pub header_code : Coded Header
header_code =
    code_by (List ℕ × List ℕ)
    (coded× (coded_list coded_ℕ) (coded_list coded_ℕ))
    (λ h. (h.name, h.value)) (λ p. record { name = p.0; value = p.1 }) (λ _. refl)

abbrev pub interaction_code : Coded Interaction
interaction_code =
    code_by (List ℕ × (List State × (Data × Data)))
    (coded× (coded_list coded_ℕ) (coded× (coded_list state_code) (coded× data_code data_code)))
    (λ x. (x.description, (x.states, (x.request, x.response))))
    (λ p. record { description = p.0; states = p.1.0; request = p.1.1.0; response = p.1.1.1 }) (λ _. refl)

abbrev pub pact_code : Coded Pact
pact_code =
    code_by (List ℕ × (List ℕ × List Interaction))
    (coded× (coded_list coded_ℕ) (coded× (coded_list coded_ℕ) (coded_list interaction_code)))
    (λ x. (x.consumer, (x.provider, x.interactions)))
    (λ p. record { consumer = p.0; provider = p.1.0; interactions = p.1.1 }) (λ _. refl)
