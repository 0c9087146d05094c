-- For private clauses: the text of an interaction's normal form, and what it says; and how long that of a pact is.
use Rattle.std.specs.Prelude.{List, ℕ, zero, suc, ◌+◌, ◌++◌, false, codes, length, map, unwrap_or, option_and_then}
use Rattle.json.specs.Print.{quoted}
use Rattle.serde_json.specs.Data.{Data, null}
use Rattle.serde_json.specs.Find.{get}
use Rattle.serde_json.specs.Read.{read}
use Rattle.serde_json.specs.View.{items_of}
use Rattle.serde_json.specs.Written.{compact_text, items_text}
use Rattle.pact_file.specs.Pact.{State, Interaction, interaction_with, interaction_data}

-- the text, if that of the states is given
abbrev pub text_of_parts : List ℕ → List ℕ → Data → Data → List ℕ
text_of_parts description states_text request response =
    codes "{\"description\":" ++ (quoted description ++ (codes ",\"providerStates\":" ++ (states_text
    ++ (codes ",\"request\":" ++ (compact_text request ++ (codes ",\"response\":" ++ (compact_text response ++ codes "}")))))))

-- the value under a key of the JSON value that a text is
abbrev pub said : List ℕ → List ℕ → Data
said key text = unwrap_or (option_and_then (get key) (read text)) null

-- the interaction whose request and response are read from the text of its normal form
abbrev pub interaction_of_text : List ℕ → List State → List ℕ → Interaction
interaction_of_text description states text =
    interaction_with description states (said (codes "request") text) (said (codes "response") text)

-- the texts of interactions as the items of a list, with the bracket that ends it
abbrev pub interactions_text : List Interaction → List ℕ
interactions_text xs = items_text false (items_of (map interaction_data xs))

-- the length of an item, with the comma before it if it isn't the first
abbrev pub item_length : ℕ → List ℕ → ℕ
item_length zero text = length text
item_length (suc i) text = suc (length text)

-- the length of a normal text, by its names in quotes and its interactions
abbrev pub pact_length : List ℕ → List ℕ → List Interaction → ℕ
pact_length consumer provider xs = 60 + (length consumer + (length provider + length (interactions_text xs)))
