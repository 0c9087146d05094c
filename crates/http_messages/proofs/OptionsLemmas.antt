-- The options between commas.
use Rattle.std.specs.List.{list_any, position_or_len}
use Rattle.std.proofs.{Common.{◌≡◌, ℕ, ◌+◌, ◌<◌, Bool, true, false, ◌==◌, ◌||◌, List, length, take, drop, sym, ap, ◌∙◌, subst}, Math.Bool.{or-false}}
use Rattle.std.proofs.{lemmas.Bool.{or_left}, lemmas.List.Elements.{All-from_get_or}, lemmas.List.Splits.{slice_split_none, slice_split_first}}
use Rattle.std.proofs.lemmas.List.Sums.{fails_before_first}
use Rattle.http_messages.specs.Options.{comma, is_close, has_close}

abbrev pub is_comma : ℕ → Bool
is_comma b = b == comma

module _ (rest : List ℕ) (i : ℕ) (at : position_or_len is_comma rest ≡ i) where
  -- up to a comma and after it
  has_close-split : i < length rest → has_close rest ≡ (is_close (take i rest) || has_close (drop (i + 1) rest))
  has_close-split within =
      ap (list_any is_close) (slice_split_first is_comma rest 0 (subst (λ n. n < length rest) (sym at) within))
      ∙ ap (λ n. is_close (take n rest) || has_close (drop (n + 1) rest)) at

  pub has_close-first : i < length rest → is_close (take i rest) ≡ true → has_close rest ≡ true
  has_close-first within e = has_close-split within ∙ or_left (is_close (take i rest)) (has_close (drop (i + 1) rest)) e

  pub has_close-following : i < length rest → is_close (take i rest) ≡ false → has_close rest ≡ has_close (drop (i + 1) rest)
  has_close-following within e = has_close-split within ∙ ap (λ v. v || has_close (drop (i + 1) rest)) e

  pub has_close-last : i ≡ length rest → has_close rest ≡ is_close rest
  has_close-last whole =
      ap (list_any is_close) (slice_split_none is_comma rest (All-from_get_or (λ b. is_comma b ≡ false) rest 0
      (λ k within. fails_before_first is_comma rest k 0 (subst (λ n. k < n) (sym (at ∙ whole)) within))))
      ∙ or-false (is_close rest)
