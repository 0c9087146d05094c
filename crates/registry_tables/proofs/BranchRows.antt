-- The statements on branches.
use Rattle.std.specs.{Prelude.{is_some}, Option.{option_map_or}, Ordering.{eq_by_cmp, int_cmp}, Cmp.Lexicographic.{texts_ties}}
use Rattle.std.proofs.Common.{◌≡◌, inl, ℕ, ℤ, pos, codes, List, [], ◌∷◌, Bool, true, false, cond, ◌&&◌, refl, sym, subst, ap, ◌∙◌, slice_get, Some, None, Option, Ok, arith}
use Rattle.sqlite.specs.{declared.types.Value.TheVariants.{Null, Int, Text}, Order.{Row}, Term.{col, lit}, Effect.{Database}, State.{State, Executes}}
use Rattle.sqlite.specs.Listing.{understood}
use Rattle.sqlite_tied.specs.Compute.{everything}
use Rattle.table_access.{specs.{Columns.{text, text_cmp, whole_at, by_both}, Statements.{from_table, by_two}}, proofs.Values.{cast-Int}}
use Rattle.broker_core.specs.{declared.command.Version.{Version}, Text.{same_text, same_version}, State.{State as Broker}}
use Rattle.broker_tables.specs.{Schema.{in_branches}, Rows.{has_row_at}, Numbers.{number_of}, Holds.{Holds, HoldsAfter}}
use Rattle.broker_tables.proofs.{TableQuery.{TableQuery, IsShown, NoneFor, EachShown-of_table}, Frames.{Holds-branches}}
use Rattle.broker_tables.proofs.{Keyed.{branches_by_key, finds_row, IsFree-of_has_row_at}, Ties.{both_eq, and-same}}
use Rattle.broker_tables.proofs.{NumberLemmas.{number_of-same_version, same_version-unknown}, NoVersion.{references-not_unknown_version}}
use Rattle.broker_tables.proofs.{Present.{has_row_at-set}, Placed.{branches, at_branches, listed, column-whole_numbers}}
use Rattle.broker_tables.proofs.Inserted.{EndsFrom, Adds, HoldsAfter-added, EndsOnly-added, added, IsThere-version}
use Rattle.sqlite_keyed.proofs.RuleLemmas.{first_of_both}
use Rattle.registry_tables.specs.Registry.{AddsBranch}

abbrev pub key : Row → ℤ × List ℕ
key r = (whole_at in_branches.version_number r, text in_branches.branch r)

-- whether a row puts the version with this number on the branch
abbrev pub is_on : List Row → List ℕ → Option ℕ → Bool
is_on rows b number = option_map_or (λ n. has_row_at (by_both int_cmp text_cmp) key rows (pos n, b)) number false

-- ---- whether a version is on a branch

pub on : (n : ℕ) (b : List ℕ)
    → TableQuery (codes "SELECT branch FROM branches WHERE version_number = ?1 AND branch = ?2")
    (Int (pos n) ∷ Text b ∷ []) (from_table in_branches.tree (by_two in_branches.version_number in_branches.branch) (col 1 in_branches.branch ∷ []) [])
unfolding understood everything
on n b = record { names = _; means = record { is = refl; plain = (refl, refl); unlisted = refl }; runs = record { whole = refl; typed = refl; sumless = refl } }

-- no row is shown for a number that no version has
pub NoneFor-on_branch : (n : ℕ) (b : List ℕ) (db : Database) → NoneFor (on n b) db n
NoneFor-on_branch n b db s held none = EachShown-of_table (on n b) db _ (λ r has kept.
    references-not_unknown_version db s held n none branches (listed at_branches db held.broker) in_branches.version_number (inl refl) r has (column-whole_numbers at_branches db held.broker in_branches.version_number refl r has) (first_of_both _ _ kept))

pub IsShown-on_branch : (n : ℕ) (b : List ℕ) (db : Database) (rows : List Row) (s : Broker) (v : Version) → Holds db s → number_of s.versions v ≡ Some n → IsShown (on n b) db rows
    → is_some (slice_get rows 0) ≡ s.branches (v, b)
IsShown-on_branch n b db rows s v held is h =
    finds_row branches_by_key db held.broker (Int (pos n) ∷ Text b ∷ []) (pos n, b) refl rows h ∙ sym (ap (is_on (db.trees in_branches.tree) b) is) ∙ held.branches v b

-- ---- a version is put on a branch

abbrev pub add_sql : List ℕ
add_sql = codes "INSERT INTO branches (version_number, branch) VALUES (?1, ?2)"

Adds-branch : (n : ℕ) (b : List ℕ) → Adds at_branches add_sql (Int (pos n) ∷ Text b ∷ []) (Int (pos n) ∷ Text b ∷ [])
unfolding understood everything
Adds-branch n b = record {
  puts = record { terms = lit Null ∷ col 0 0 ∷ col 0 1 ∷ []; width = 3; means = record { is = refl; plain = (refl, refl); unlisted = refl }; whole = refl; kinds = refl; one = refl };
  stored = λ i. cast-Int (pos n) i ∷ Text b ∷ [];
}

module _ (n : ℕ) (b : List ℕ) (old new : State) where
  pub HoldsAfter-AddsBranch : (s : Broker) → Holds old.now s → (t : Broker) → AddsBranch n b s t → (count : ℕ) → Executes add_sql (Int (pos n) ∷ Text b ∷ []) old new (Ok count) → HoldsAfter 2 old new t
  HoldsAfter-AddsBranch s held t (v, is, off, next) count h = HoldsAfter-added (Adds-branch n b) old new held.broker (omega arith) count h (λ frame it.
      subst (Holds new.now) (sym next) (Holds-branches old.now new.now s _ held frame (λ w c.
      each w c (number_of s.versions w) refl (λ k. has_row_at-set (by_both int_cmp text_cmp) key (old.now.trees in_branches.tree) (new.now.trees in_branches.tree) _ it (pos k, c))
      ∙ ap (cond (same_version w v && same_text c b) true) (held.branches w c))))
    where
      each : (w : Version) (c : List ℕ) (o : Option ℕ) → number_of s.versions w ≡ o
          → ((k : ℕ) → is_on (new.now.trees in_branches.tree) c (Some k)
          ≡ cond (eq_by_cmp (by_both int_cmp text_cmp) (pos k, c) (pos n, b)) true (is_on (old.now.trees in_branches.tree) c (Some k)))
          → is_on (new.now.trees in_branches.tree) c o ≡ cond (same_version w v && same_text c b) true (is_on (old.now.trees in_branches.tree) c o)
      each w c None e put = sym (ap (λ t. cond (t && same_text c b) true false) (same_version-unknown s.versions w v n e is))
      each w c (Some k) e put =
          let same : (same_version w v && same_text c b) ≡ eq_by_cmp (by_both int_cmp text_cmp) (pos k, c) (pos n, b) =
          and-same (same_version w v) (same_text c b) (eq_by_cmp int_cmp (pos k) (pos n)) (eq_by_cmp text_cmp c b) (number_of-same_version s.versions w v k n e is) (texts_ties c b) ∙ both_eq (int_cmp (pos k) (pos n)) (text_cmp c b) in
          put k ∙ ap (λ t. cond t true (is_on (old.now.trees in_branches.tree) c (Some k))) (sym same)

  -- it fails only as the store fails, or since the name is too long
  pub EndsFrom-AddsBranch : EndsFrom (codes "branches" ∷ []) (b ∷ []) add_sql (Int (pos n) ∷ Text b ∷ []) old new (λ s. (t : Broker) × AddsBranch n b s t)
  EndsFrom-AddsBranch s here (t, (v, is, off, next)) numbers =
      let made = added (Adds-branch n b) old new here.held.broker in
      let free : has_row_at (by_both int_cmp text_cmp) key (old.now.trees in_branches.tree) (pos n, b) ≡ false = sym (ap (λ o. option_map_or (λ k. has_row_at (by_both int_cmp text_cmp) key (old.now.trees in_branches.tree) (pos k, b)) o false) is) ∙ here.held.branches v b ∙ off in
      EndsOnly-added (Adds-branch n b) old new here.held.broker numbers.0 (record { typed = refl; present = refl; checked = refl }) (IsFree-of_has_row_at branches_by_key old.now here.held.broker made refl free, tt)
      (IsThere-version old.now s here.held made in_branches.version_number v n is refl, tt) (b ∷ []) (λ are. (tt, are)) (omega arith) (omega arith) here.unlimited
