-- JSON data without fractions, as a reader keeps it: whole numbers of 64 bits, texts of UTF-8, keys in order and each
-- once, nesting at most n.
use Rattle.std.specs.Prelude.{ℕ, zero, suc, ◌<◌, ◌^◌, ⊤}
use Rattle.std.specs.Str.{IsUtf8}
use Rattle.serde_json.specs.Data.{Num, unsigned, negative, float, Data, null, boolean, number, string, array, object, Items, no_items, item, Members, no_members, member}
use Rattle.pact_rules.specs.Kept.{IsBelowZero, IsBelow}

abbrev pub IsWhole : Num → Type 0
IsWhole (unsigned n) = n < 2 ^ 64
IsWhole (negative z) = IsBelowZero z
IsWhole (float x) = ⊥

abbrev mutual
  pub IsSound : ℕ → Data → Type 0
  IsSound n null = ⊤
  IsSound n (boolean b) = ⊤
  IsSound n (number m) = IsWhole m
  IsSound n (string s) = IsUtf8 s
  IsSound zero (array ds) = ⊥
  IsSound (suc n) (array ds) = AreSound n ds
  IsSound zero (object ms) = ⊥
  IsSound (suc n) (object ms) = MembersAreSound n ms

  pub AreSound : ℕ → Items → Type 0
  AreSound n no_items = ⊤
  AreSound n (item d ds) = IsSound n d × AreSound n ds

  pub MembersAreSound : ℕ → Members → Type 0
  MembersAreSound n no_members = ⊤
  MembersAreSound n (member k d ms) = IsBelow k ms × IsSound n d × MembersAreSound n ms × IsUtf8 k
