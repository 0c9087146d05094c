-- How the lines of a stream go on.
use Rattle.std.specs.{Option.{option_map}, List.{concat}}
use Rattle.std.proofs.Common.{◌≡◌, ◌≢◌, ℕ, zero, suc, ◌+◌, ◌<◌, Bool, true, false, List, [], ◌∷◌, ◌++◌, Option, Some, None, length, get_or, take, drop, refl, sym, ap, ◌∙◌, append_assoc, append-nil, arith, cond, eq-eqb, ne_eqb}
use Rattle.std.proofs.{Math.Seq.{take-add}, lemmas.List.{drop-drop}}
use Rattle.http_messages.specs.Lines.{line_feed, lines_of, is_empty_line, through_empty, head_lines, head_text}

-- the first line ends at the first line feed
pub lines_of-first_line : (bytes : List ℕ) (i : ℕ) → i < length bytes → get_or bytes i 0 ≡ line_feed
    → ((k : ℕ) → k < i → get_or bytes k 0 ≢ line_feed)
    → lines_of bytes ≡ take (suc i) bytes ∷ lines_of (drop (suc i) bytes)
lines_of-first_line [] i within at before = absurd (omega arith)
lines_of-first_line (b ∷ bytes) zero within at before = rw (eq-eqb b line_feed at) refl
lines_of-first_line (b ∷ bytes) (suc i) within at before =
    let ne : b ≢ line_feed = before 0 (omega arith) in
    let rest = lines_of-first_line bytes i (omega arith) at (λ k h. before (suc k) (omega arith)) in
    rw (ne_eqb b line_feed ne, rest) refl

-- with no line feed there is no line
pub lines_of-no_line_feed : (bytes : List ℕ) → ((k : ℕ) → k < length bytes → get_or bytes k 0 ≢ line_feed) → lines_of bytes ≡ []
lines_of-no_line_feed [] none = refl
lines_of-no_line_feed (b ∷ bytes) none =
    let ne : b ≢ line_feed = none 0 (omega arith) in
    rw (ne_eqb b line_feed ne, lines_of-no_line_feed bytes (λ k h. none (suc k) (omega arith))) refl

-- What bytes add to a head text that begins before them: `started` says whether a line that isn't empty came before.
abbrev pub rest_text : Bool → List ℕ → Option (List ℕ)
rest_text started bytes = option_map concat (cond started (through_empty (lines_of bytes)) (head_lines (lines_of bytes)))

-- `front`, and then what there is
abbrev pub following : List ℕ → Option (List ℕ) → Option (List ℕ)
following front found = option_map (λ text. front ++ text) found

concat-line : (line : List ℕ) (found : Option (List (List ℕ))) → option_map concat (option_map (λ more. line ∷ more) found) ≡ following line (option_map concat found)
concat-line line None = refl
concat-line line (Some lines) = refl

-- a line that isn't empty
pub rest_text-full : (started : Bool) (bytes : List ℕ) (n : ℕ) → lines_of bytes ≡ take n bytes ∷ lines_of (drop n bytes) → is_empty_line (take n bytes) ≡ false
    → rest_text started bytes ≡ following (take n bytes) (rest_text true (drop n bytes))
rest_text-full false bytes n first full = rw (first, full) (concat-line _ _)
rest_text-full true bytes n first full = rw (first, full) (concat-line _ _)

-- an empty line before the first that isn't
pub rest_text-blank : (bytes : List ℕ) (n : ℕ) → lines_of bytes ≡ take n bytes ∷ lines_of (drop n bytes) → is_empty_line (take n bytes) ≡ true
    → rest_text false bytes ≡ following (take n bytes) (rest_text false (drop n bytes))
rest_text-blank bytes n first blank = rw (first, blank) (concat-line _ _)

-- an empty line after one that isn't
pub rest_text-last : (bytes : List ℕ) (n : ℕ) → lines_of bytes ≡ take n bytes ∷ lines_of (drop n bytes) → is_empty_line (take n bytes) ≡ true
    → rest_text true bytes ≡ Some (take n bytes)
rest_text-last bytes n first blank = rw (first, blank) (ap Some (append-nil (take n bytes)))

-- fronts add up
pub following-following : (a b : List ℕ) (found : Option (List ℕ)) → following a (following b found) ≡ following (a ++ b) found
following-following a b None = refl
following-following a b (Some text) = ap Some (sym (append_assoc a b text))

-- a front grows by a part of the rest
pub following-more : (all : List ℕ) (end n : ℕ) (found : Option (List ℕ)) → following (take end all) (following (take n (drop end all)) found) ≡ following (take (end + n) all) found
following-more all end n found = following-following (take end all) (take n (drop end all)) found ∙ ap (λ front. following front found) (sym (take-add end n all))

module _ (all : List ℕ) (end n : ℕ) (first : lines_of (drop end all) ≡ take n (drop end all) ∷ lines_of (drop n (drop end all))) where
  -- over a line that isn't empty
  pub head_text-over_full_line : (started : Bool) → is_empty_line (take n (drop end all)) ≡ false
      → head_text all ≡ following (take end all) (rest_text started (drop end all))
      → head_text all ≡ following (take (end + n) all) (rest_text true (drop (end + n) all))
  head_text-over_full_line started full so_far =
      so_far ∙ ap (following (take end all)) (rest_text-full started (drop end all) n first full)
      ∙ following-more all end n _ ∙ ap (λ rest. following (take (end + n) all) (rest_text true rest)) (drop-drop n end all)

  -- over an empty line before the first that isn't
  pub head_text-over_empty_line : (started : Bool) → started ≡ false → is_empty_line (take n (drop end all)) ≡ true
      → head_text all ≡ following (take end all) (rest_text started (drop end all))
      → head_text all ≡ following (take (end + n) all) (rest_text started (drop (end + n) all))
  head_text-over_empty_line true not_yet blank so_far = cc
  head_text-over_empty_line false not_yet blank so_far =
      so_far ∙ ap (following (take end all)) (rest_text-blank (drop end all) n first blank)
      ∙ following-more all end n _ ∙ ap (λ rest. following (take (end + n) all) (rest_text false rest)) (drop-drop n end all)

  -- the empty line that ends the head text
  pub head_text-at_last_line : (started : Bool) → started ≡ true → is_empty_line (take n (drop end all)) ≡ true
      → head_text all ≡ following (take end all) (rest_text started (drop end all))
      → head_text all ≡ Some (take (end + n) all)
  head_text-at_last_line false now blank so_far = cc
  head_text-at_last_line true now blank so_far =
      so_far ∙ ap (following (take end all)) (rest_text-last (drop end all) n first blank) ∙ ap Some (sym (take-add end n all))
