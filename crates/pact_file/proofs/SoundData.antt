-- Sound data: what makes it so, and what follows.
use Rattle.json.proofs.Printed.Utf8.{IsUtf8-are_ascii, IsUtf8-quoted, IsUtf8-boolean}
use Rattle.serde_json.specs.Data.{Num, unsigned, negative, float, Data, null, boolean, number, string, array, object, Items, no_items, item, Members, no_members, member, depth, items_depth, members_depth}
use Rattle.serde_json.specs.Written.{has_float, items_have_float, members_have_float, comma_if, compact_text, items_text, members_text, number_text}
use Rattle.pact_file.specs.Sound.{IsWhole, IsSound, AreSound, MembersAreSound}
use Rattle.pact_rules.specs.Kept.{IsNumber, IsKept, AreKept, MembersAreKept}
use Rattle.std.{specs.Str.{IsUtf8}, proofs.Common.{◌≡◌, ℕ, zero, suc, ◌≤◌, ◌<◌, ◌^◌, negsuc, [], ◌∷◌, Bool, true, false, ◌||◌, refl, ap, ◌∙◌, arith}}
use Rattle.std.proofs.{lemmas.Bool.{or_parts}, lemmas.Fmt.{IsAscii-decimal}, lemmas.Str.{IsUtf8-append, IsUtf8-from_ascii}}

mutual
  pub IsSound-of_kept : (n : ℕ) (d : Data) → IsKept d → has_float d ≡ false → depth d ≤ n → IsSound n d
  IsSound-of_kept n (number (float x)) k w h = absurd cc
  IsSound-of_kept zero (array ds) k w h = absurd (omega arith)
  IsSound-of_kept (suc n) (array ds) k w h = AreSound-of_kept n ds k w (omega arith)
  IsSound-of_kept zero (object ms) k w h = absurd (omega arith)
  IsSound-of_kept (suc n) (object ms) k w h = MembersAreSound-of_kept n ms k w (omega arith)
  IsSound-of_kept n d k w h = k

  AreSound-of_kept : (n : ℕ) (ds : Items) → AreKept ds → items_have_float ds ≡ false → items_depth ds ≤ n → AreSound n ds
  AreSound-of_kept n no_items k w h = tt
  AreSound-of_kept n (item d ds) k w h =
      let p = or_parts (has_float d) _ w in
      (IsSound-of_kept n d k.0 p.0 (omega arith), AreSound-of_kept n ds k.1 p.1 (omega arith))

  MembersAreSound-of_kept : (n : ℕ) (ms : Members) → MembersAreKept ms → members_have_float ms ≡ false → members_depth ms ≤ n → MembersAreSound n ms
  MembersAreSound-of_kept n no_members k w h = tt
  MembersAreSound-of_kept n (member l d ms) k w h =
      let p = or_parts (has_float d) _ w in
      (k.0, IsSound-of_kept n d k.1 p.0 (omega arith), MembersAreSound-of_kept n ms k.2 p.1 (omega arith), k.3)

-- IsSound-of_kept data is kept data without fractions, and nests no deeper
number-sound_facts : (n : ℕ) (m : Num) → IsWhole m → IsNumber m × (has_float (number m) ≡ false) × (depth (number m) ≤ n)
number-sound_facts n (float x) h = absurd h
number-sound_facts n m h = (h, refl, omega arith)

mutual
  IsSound-facts : (n : ℕ) (d : Data) → IsSound n d → IsKept d × (has_float d ≡ false) × (depth d ≤ n)
  IsSound-facts n (number m) h = number-sound_facts n m h
  IsSound-facts zero (array ds) h = absurd h
  IsSound-facts (suc n) (array ds) h = let f = AreSound-facts n ds h in (f.0, f.1, omega (arith, f.2))
  IsSound-facts zero (object ms) h = absurd h
  IsSound-facts (suc n) (object ms) h = let f = MembersAreSound-facts n ms h in (f.0, f.1, omega (arith, f.2))
  IsSound-facts n d h = (h, refl, omega arith)

  AreSound-facts : (n : ℕ) (ds : Items) → AreSound n ds → AreKept ds × (items_have_float ds ≡ false) × (items_depth ds ≤ n)
  AreSound-facts n no_items h = (tt, refl, omega arith)
  AreSound-facts n (item d ds) h =
      let f = IsSound-facts n d h.0 in
      let g = AreSound-facts n ds h.1 in
      ((f.0, g.0), ap (λ b. b || items_have_float ds) f.1 ∙ g.1, omega (arith, f.2, g.2))

  MembersAreSound-facts : (n : ℕ) (ms : Members) → MembersAreSound n ms → MembersAreKept ms × (members_have_float ms ≡ false) × (members_depth ms ≤ n)
  MembersAreSound-facts n no_members h = (tt, refl, omega arith)
  MembersAreSound-facts n (member k d ms) h =
      let f = IsSound-facts n d h.1 in
      let g = MembersAreSound-facts n ms h.2 in
      ((h.0, f.0, g.0, h.3), ap (λ b. b || members_have_float ms) f.1 ∙ g.1, omega (arith, f.2, g.2))

pub kept : (n : ℕ) (d : Data) → IsSound n d → IsKept d
kept n d h = (IsSound-facts n d h).0

-- IsSound-of_kept data has no fractions, at any depth
pub IsSound-no_floats : (n : ℕ) (d : Data) → IsSound n d → has_float d ≡ false
IsSound-no_floats n d h = (IsSound-facts n d h).1

pub IsSound-depth_le : (n : ℕ) (d : Data) → IsSound n d → depth d ≤ n
IsSound-depth_le n d h = (IsSound-facts n d h).2

-- ---- the text is UTF-8

number_text-IsUtf8 : (m : Num) → IsWhole m → IsUtf8 (number_text m)
number_text-IsUtf8 (unsigned m) h = IsUtf8-from_ascii _ (IsAscii-decimal m h)
number_text-IsUtf8 (negative (negsuc m)) h =
    let low : m < 2 ^ 63 = h in
    IsUtf8-append (45 ∷ []) _ (IsUtf8-are_ascii (45 ∷ []) refl) (IsUtf8-from_ascii _ (IsAscii-decimal (suc m) (omega arith)))
number_text-IsUtf8 m h = absurd h

comma_if-IsUtf8 : (b : Bool) → IsUtf8 (comma_if b)
comma_if-IsUtf8 true = IsUtf8-are_ascii (44 ∷ []) refl
comma_if-IsUtf8 false = IsUtf8-are_ascii [] refl

mutual
  pub compact_text-IsUtf8 : (n : ℕ) (d : Data) → IsSound n d → IsUtf8 (compact_text d)
  compact_text-IsUtf8 n null h = IsUtf8-are_ascii (compact_text null) refl
  compact_text-IsUtf8 n (boolean b) h = IsUtf8-boolean b
  compact_text-IsUtf8 n (number m) h = number_text-IsUtf8 m h
  compact_text-IsUtf8 n (string s) h = IsUtf8-quoted s h
  compact_text-IsUtf8 (suc n) (array ds) h = IsUtf8-append (91 ∷ []) (items_text false ds) (IsUtf8-are_ascii (91 ∷ []) refl) (items_text-IsUtf8 n false ds h)
  compact_text-IsUtf8 (suc n) (object ms) h = IsUtf8-append (123 ∷ []) (members_text false ms) (IsUtf8-are_ascii (123 ∷ []) refl) (members_text-IsUtf8 n false ms h)
  compact_text-IsUtf8 n d h = absurd h

  items_text-IsUtf8 : (n : ℕ) (b : Bool) (ds : Items) → AreSound n ds → IsUtf8 (items_text b ds)
  items_text-IsUtf8 n b no_items h = IsUtf8-are_ascii (93 ∷ []) refl
  items_text-IsUtf8 n b (item d ds) h = IsUtf8-append (comma_if b) _ (comma_if-IsUtf8 b) (IsUtf8-append (compact_text d) _ (compact_text-IsUtf8 n d h.0) (items_text-IsUtf8 n true ds h.1))

  members_text-IsUtf8 : (n : ℕ) (b : Bool) (ms : Members) → MembersAreSound n ms → IsUtf8 (members_text b ms)
  members_text-IsUtf8 n b no_members h = IsUtf8-are_ascii (125 ∷ []) refl
  members_text-IsUtf8 n b (member k d ms) h =
      IsUtf8-append (comma_if b) _ (comma_if-IsUtf8 b) (IsUtf8-append _ _ (IsUtf8-quoted k h.3)
      (IsUtf8-append (58 ∷ []) _ (IsUtf8-are_ascii (58 ∷ []) refl) (IsUtf8-append (compact_text d) _ (compact_text-IsUtf8 n d h.1) (members_text-IsUtf8 n true ms h.2))))
