-- The text of a normal form, made of the texts of its parts, and what it says.
use Rattle.std.proofs.Common.{◌≡◌, ℕ, zero, suc, ◌+◌, ◌≤◌, ◌<◌, nat_le, List, Bool, ◌∷◌, ◌++◌, map, codes, true, false, Option, Some, None, MatchOption, refl, sym, ap, ap₂, ◌∙◌, length, get_or, drop, append_assoc, length-append, add-one, le-leb, arith, Result, Ok, Err, OnOk, is_ok, if◌then◌else◌}
use Rattle.std.proofs.{lemmas.Bool.{lt-leb, or_parts}, lemmas.List.{drop_all}}
use Rattle.json.specs.Print.{quoted, escape_byte}
use Rattle.serde_json.specs.{Data.{Data, Items, no_items, item}, Read.{read}, View.{items_of}, Written.{compact_text, items_text, comma_if, has_float}}
use Rattle.serde_json.proofs.OnLiterals.{serde_json_on_literals}
use Rattle.pact_file.specs.{File.{most_bytes}, Pact.{State, Interaction, interaction_with, state_data, states_data, interaction_data, pact_with, normal_text}}
use Rattle.pact_file.{specs.{Sound.{IsSound}, Texts.{text_of_parts, interaction_of_text, interactions_text, item_length, pact_length}}, proofs.Lists.{drop-at}}
use Rattle.pact_file.proofs.{ReadBack.{read-compact_text}, SoundData.{kept, IsSound-no_floats, IsSound-depth_le}}

-- ---- one text after another

append-assoc_four : (t a b c : List ℕ) → ((t ++ a) ++ b) ++ c ≡ t ++ (a ++ (b ++ c))
append-assoc_four t a b c = append_assoc (t ++ a) b c ∙ append_assoc t a (b ++ c)

append-assoc_seven : (a b c d e f g : List ℕ) → ((((((a ++ b) ++ c) ++ d) ++ e) ++ f) ++ g) ≡ a ++ (b ++ (c ++ (d ++ (e ++ (f ++ g)))))
append-assoc_seven a b c d e f g = append-assoc_four (((a ++ b) ++ c) ++ d) e f g ∙ append-assoc_four (a ++ b) c d (e ++ (f ++ g)) ∙ append_assoc a b (c ++ (d ++ (e ++ (f ++ g))))

-- what a push that is done leaves
pub OnOk-pushed : {A E : Type 0} (r : Result A E) (new done kept wanted : List ℕ) → new ≡ (if is_ok r then done else kept) → done ≡ wanted → OnOk r (new ≡ wanted)
OnOk-pushed (Ok a) new done kept wanted h is = h ∙ is
OnOk-pushed (Err e) new done kept wanted h is = tt

-- ---- an interaction

-- its text, one part OnOk-pushed after another
pub text_of_parts-pushed : (d s : List ℕ) (q r : Data)
    → (((((((codes "{\"description\":" ++ quoted d) ++ codes ",\"providerStates\":") ++ s) ++ codes ",\"request\":") ++ compact_text q) ++ codes ",\"response\":") ++ compact_text r) ++ codes "}" ≡ text_of_parts d s q r
text_of_parts-pushed d s q r =
    let request = codes ",\"request\":" in
    let response = codes ",\"response\":" in
    let following = ((((codes "{\"description\":" ++ quoted d) ++ codes ",\"providerStates\":") ++ s) ++ request) ++ compact_text q in
    append_assoc (following ++ response) (compact_text r) (codes "}") ∙ append_assoc following response (compact_text r ++ codes "}")
    ∙ append-assoc_seven (codes "{\"description\":") (quoted d) (codes ",\"providerStates\":") s request (compact_text q) (response ++ (compact_text r ++ codes "}"))

pub text_of_parts-compact_text : (d : List ℕ) (ss : List State) (q r : Data) → text_of_parts d (compact_text (states_data ss)) q r ≡ compact_text (interaction_data (interaction_with d ss q r))
unfolding escape_byte serde_json_on_literals
text_of_parts-compact_text d ss q r = refl

read-interaction_data : (x : Interaction) → IsSound 98 (interaction_data x) → read (compact_text (interaction_data x)) ≡ Some (interaction_data x)
read-interaction_data x h = read-compact_text (interaction_data x) (kept 98 (interaction_data x) h) (IsSound-no_floats 98 (interaction_data x) h) (omega (arith, IsSound-depth_le 98 (interaction_data x) h))

pub compact_text-interaction_data : (x : Interaction) (d s text : List ℕ) → d ≡ x.description → s ≡ compact_text (states_data x.states) → text ≡ text_of_parts d s x.request x.response → text ≡ compact_text (interaction_data x)
compact_text-interaction_data x d s text e h is = is ∙ rw (e, h) (text_of_parts-compact_text x.description x.states x.request x.response)

-- the text of an interaction says which it is
pub interaction_of_text-same : (x : Interaction) (text : List ℕ) → IsSound 98 (interaction_data x) → text ≡ compact_text (interaction_data x) → interaction_of_text x.description x.states text ≡ x
unfolding serde_json_on_literals
interaction_of_text-same x text h is = ap (interaction_of_text x.description x.states) is ∙ rw (read-interaction_data x h) refl

-- ---- lists

-- whether some are before the place
abbrev pub is_later : ℕ → Bool
is_later zero = false
is_later (suc i) = true

module _ {A : Type 0} (value : A → Data) where
  -- what the items from the place on add
  abbrev pub left : ℕ → List A → List ℕ
  left i xs = items_text (is_later i) (items_of (map value xs))

  step : (i : ℕ) (text new part : List ℕ) (x : A) (more : List A) → part ≡ compact_text (value x) → (i ≡ 0 → new ≡ text ++ part) → (0 < i → new ≡ text ++ (codes "," ++ part))
      → new ++ left (suc i) more ≡ text ++ left i (x ∷ more)
  step zero text new part x more is first later = ap (λ s. s ++ left 1 more) (first refl ∙ ap (λ t. text ++ t) is) ∙ append_assoc text (compact_text (value x)) (left 1 more)
  step (suc i) text new part x more is first later =
      ap (λ s. s ++ left 1 more) (later (omega arith) ∙ ap (λ t. text ++ (codes "," ++ t)) is) ∙ append_assoc text (codes "," ++ compact_text (value x)) (left 1 more)

  -- one more text is joined to those before it
  pub left-joins : (xs : List A) (i : ℕ) (x : A) (text new part total : List ℕ) → i < length xs → x ≡ get_or xs i x → part ≡ compact_text (value x)
      → (i ≡ 0 → new ≡ text ++ part) → (0 < i → new ≡ text ++ (codes "," ++ part)) → text ++ left i (drop i xs) ≡ total → new ++ left (i + 1) (drop (i + 1) xs) ≡ total
  left-joins xs i x text new part total lt is written first later so_far =
      ap (λ k. new ++ left k (drop (i + 1) xs)) (add-one i) ∙ step i text new part x (drop (i + 1) xs) written first later ∙ ap (λ ys. text ++ left i ys) (sym (drop-at xs i x lt is)) ∙ so_far

  pub left-end : (xs : List A) (i : ℕ) → length xs ≤ i → left i (drop i xs) ≡ codes "]"
  left-end xs i all = ap (left i) (drop_all i xs all)

-- ---- a state

pub state_data-text : (t n : List ℕ) (s : State) → ◌≡◌ {A = State} (record { name = n; params = None }) s → ((t ++ codes "{\"name\":") ++ quoted n) ++ codes "}" ≡ t ++ compact_text (state_data s)
unfolding escape_byte serde_json_on_literals
state_data-text t n s is = append-assoc_four t (codes "{\"name\":") (quoted n) (codes "}") ∙ ap (λ x. t ++ compact_text (state_data x)) is

pub state_data-text_with_params : (t n : List ℕ) (d : Data) (s : State) → ◌≡◌ {A = State} (record { name = n; params = Some d }) s
    → ((((t ++ codes "{\"name\":") ++ quoted n) ++ codes ",\"params\":") ++ compact_text d) ++ codes "}" ≡ t ++ compact_text (state_data s)
unfolding escape_byte serde_json_on_literals
state_data-text_with_params t n d s is =
    let end = codes ",\"params\":" ++ (compact_text d ++ codes "}") in
    append-assoc_four ((t ++ codes "{\"name\":") ++ quoted n) (codes ",\"params\":") (compact_text d) (codes "}") ∙ append-assoc_four t (codes "{\"name\":") (quoted n) end
    ∙ ap (λ x. t ++ compact_text (state_data x)) is

pub has_float-params : (n : List ℕ) (d : Data) (s : State) → ◌≡◌ {A = State} (record { name = n; params = Some d }) s → has_float (state_data s) ≡ false → has_float d ≡ false
has_float-params n d s is h = (or_parts (has_float d) false (ap (λ x. has_float (state_data x)) is ∙ h)).0

-- ---- a pact

normal_text-parts : (c p : List ℕ) (xs : List Interaction)
    → codes "{\"consumer\":{\"name\":" ++ (quoted c ++ (codes "},\"interactions\":[" ++ (interactions_text xs ++ (codes ",\"provider\":{\"name\":" ++ (quoted p ++ codes "}}"))))) ≡ normal_text (pact_with c p xs)
unfolding escape_byte serde_json_on_literals
normal_text-parts c p xs =
    let following = λ (end : List ℕ). codes ",\"interactions\":[" ++ (interactions_text xs ++ (codes ",\"provider\":{\"name\":" ++ end)) in
    let end = (quoted p ++ codes "}") ++ codes "}" in
    ap (λ t. codes "{\"consumer\":{\"name\":" ++ (quoted c ++ (codes "}" ++ following t))) (sym (append_assoc (quoted p) (codes "}") (codes "}")))
    ∙ ap (λ t. codes "{\"consumer\":{\"name\":" ++ t) (sym (append_assoc (quoted c) (codes "}") (following end)))

-- the same, one part OnOk-pushed after another
pub normal_text-pushed : (c p : List ℕ) (xs : List Interaction)
    → (((((codes "{\"consumer\":{\"name\":" ++ quoted c) ++ codes "},\"interactions\":[") ++ interactions_text xs) ++ codes ",\"provider\":{\"name\":") ++ quoted p) ++ codes "}}" ≡ normal_text (pact_with c p xs)
normal_text-pushed c p xs =
    append-assoc_seven (codes "{\"consumer\":{\"name\":") (quoted c) (codes "},\"interactions\":[") (interactions_text xs) (codes ",\"provider\":{\"name\":") (quoted p) (codes "}}") ∙ normal_text-parts c p xs

-- ---- lengths

suc-add : (n a b : ℕ) → n ≡ a + b → suc n ≡ suc a + b
suc-add n a b h = omega (arith, h)

-- what an item length-left_step to the length of those after it
pub length-left_step : (xs : List Interaction) (i : ℕ) (x : Interaction) (text : List ℕ) → i < length xs → x ≡ get_or xs i x → text ≡ compact_text (interaction_data x)
    → length (left interaction_data i (drop i xs)) ≡ item_length i text + length (left interaction_data (i + 1) (drop (i + 1) xs))
length-left_step xs i x text lt is written =
    ap (λ ys. length (left interaction_data i ys)) (drop-at xs i x lt is) ∙ step i (drop (i + 1) xs)
    ∙ ap₂ (λ t k. item_length i t + length (left interaction_data k (drop (i + 1) xs))) (sym written) (sym (add-one i)) where
      step : (i : ℕ) (more : List Interaction) → length (left interaction_data i (x ∷ more)) ≡ item_length i (compact_text (interaction_data x)) + length (left interaction_data (suc i) more)
      step zero more = length-append (compact_text (interaction_data x)) (left interaction_data 1 more)
      step (suc i) more = suc-add _ (length (compact_text (interaction_data x))) (length (left interaction_data 1 more)) (length-append (compact_text (interaction_data x)) (left interaction_data 1 more))

length-items_text_positive : (b : Bool) (ds : Items) → 1 ≤ length (items_text b ds)
length-items_text_positive b no_items = omega arith
length-items_text_positive b (item d ds) = omega (arith, length-append (comma_if b) (compact_text d ++ items_text true ds), length-append (compact_text d) (items_text true ds), length-items_text_positive true ds)

pub length-left_positive : (i : ℕ) (xs : List Interaction) → 1 ≤ length (left interaction_data i xs)
length-left_positive i xs = length-items_text_positive (is_later i) (items_of (map interaction_data xs))

-- the length of a normal text
pub length-normal_text : (c p : List ℕ) (xs : List Interaction) → length (normal_text (pact_with c p xs)) ≡ pact_length (quoted c) (quoted p) xs
unfolding escape_byte serde_json_on_literals
length-normal_text c p xs =
    let items = interactions_text xs in
    let last = codes ",\"provider\":{\"name\":" ++ ((quoted p ++ codes "}") ++ codes "}") in
    let following = codes ",\"interactions\":[" ++ (items ++ last) in
    let IsSound-no_floats : normal_text (pact_with c p xs) ≡ codes "{\"consumer\":{\"name\":" ++ ((quoted c ++ codes "}") ++ following) = refl in
    ap length IsSound-no_floats
    ∙ omega (arith, length-append (quoted c ++ codes "}") following, length-append (quoted c) (codes "}"), length-append items last, length-append (quoted p ++ codes "}") (codes "}"), length-append (quoted p) (codes "}"))

length-normal_text_quoted : (c p q r : List ℕ) (xs : List Interaction) → q ≡ quoted c → r ≡ quoted p → length (normal_text (pact_with c p xs)) ≡ pact_length q r xs
length-normal_text_quoted c p q r xs h k = length-normal_text c p xs ∙ ap₂ (λ a b. pact_length a b xs) (sym h) (sym k)

pub has_room : (c p q r : List ℕ) (xs : List Interaction) → q ≡ quoted c → r ≡ quoted p → pact_length q r xs ≤ most_bytes → true ≡ nat_le (length (normal_text (pact_with c p xs))) most_bytes
has_room c p q r xs h k fits = sym (ap (λ n. nat_le n most_bytes) (length-normal_text_quoted c p q r xs h k) ∙ le-leb (pact_length q r xs) most_bytes fits)

pub lacks_room : (c p q r : List ℕ) (xs : List Interaction) → q ≡ quoted c → r ≡ quoted p → most_bytes < pact_length q r xs → false ≡ nat_le (length (normal_text (pact_with c p xs))) most_bytes
lacks_room c p q r xs h k over = sym (ap (λ n. nat_le n most_bytes) (length-normal_text_quoted c p q r xs h k) ∙ lt-leb (pact_length q r xs) most_bytes over)

pub pact_length-room_for_all : (o : Option ℕ) (c p : List ℕ) (xs : List Interaction) (room : ℕ) → length c + (length p + room) + 61 ≡ most_bytes
    → MatchOption o (room + 1 < length (interactions_text xs)) (λ rest. rest + length (interactions_text xs) ≡ room + 1) → MatchOption o (most_bytes < pact_length c p xs) (λ _. pact_length c p xs ≤ most_bytes)
pact_length-room_for_all None c p xs room is h = omega (arith, is, h)
pact_length-room_for_all (Some rest) c p xs room is h = omega (arith, is, h)
