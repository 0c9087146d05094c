-- The queries for the numbers of the versions on a branch: for all of them, and for the greatest below another.
use Rattle.std.specs.{Prelude.{option_map, Contains, ◌↔◌, ⊤}, List.Sorted.{IsStrictlySortedBy}, Ordering.{eq_by_cmp, is_eq, is_lt, int_cmp, nat_cmp, flip_args}}
use Rattle.std.specs.Cmp.{int_cmp_total, eq_by_cmp_equiv, Equal-is, nat_cmp_is}
use Rattle.std.proofs.Common.{◌≡◌, ◌<◌, ◌<ℤ◌, inl, inr, ℕ, pos, codes, List, [], ◌∷◌, take, Bool, true, false, true≢false, ◌&&◌, refl, sym, ap, subst, ◌∙◌, slice_get, Some, None, Option, Ordering, Less, arith}
use Rattle.std.proofs.{lemmas.Cmp.{ranked}, lemmas.Int.{ints}}
use Rattle.sqlite.specs.{Tree.{IsAscending}, Edit.{id_in}, declared.types.Value.TheVariants.{Int, Text}, Order.{Row, column, value_cmp}}
use Rattle.sqlite.specs.{Term.{Term, col, op2, eval_all}, Collation.TheVariants.{Binary}, Effect.{Database, Answers}, Listing.{understood}}
use Rattle.sqlite_sql.specs.{declared.ops.BinaryOp.TheVariants.{Compare}, declared.ops.CompareOp.TheVariants.{Eq, Lt}, Ops.{binary, is_true}}
use Rattle.sqlite_value.{specs.declared.keys.Key.{Key}, proofs.OrderLemmas.{value_cmp-Int, then-Equal}}
use Rattle.sqlite_rules.specs.Lists.{Has}
use Rattle.sqlite_keyed.proofs.{KeyedLemmas.{lt_from_Less, Less-from_lt}, RuleLemmas.{first_of_both, second_of_both}}
use Rattle.sqlite_tied.specs.Compute.{everything}
use Rattle.table_access.specs.{Columns.{text, text_cmp, whole_at, by_both}, Reading.{AreRead, IsNumberRow}}
use Rattle.table_access.{specs.Statements.{from_both, up_to, keeps_both, pairs_kept}, proofs.{Answered.{pair_shown}, Newest.{up_to-take_joined}}}
use Rattle.table_access.proofs.{Keys.{IsNumbered-whole_at_unique}, SoundLemmas.{any_of, at_has}}
use Rattle.table_access.proofs.{Members.{any_has, IsAscending-map_on, contains_has, pairs-sound, pairs-complete, pairs-IsAscending}, Values.{binary-Lt_Int}}
use Rattle.broker_core.{specs.{Listing.{Lists}, State.{State as Broker}, Text.{version}}, proofs.Lists.{Contains-empty, Contains-cons_cases, Contains-here}}
use Rattle.broker_tables.specs.{Schema.{in_versions, in_branches}, Holds.{Holds}}
use Rattle.broker_tables.proofs.TableQuery.{TableQuery, IsShown, EachReads, EachShown-of_both, EachShown-up_to_both}
use Rattle.broker_tables.proofs.{Keyed.{branches_by_key, IsAscending-keys_of_table}, Placed.{at_branches, column-texts, column-whole_numbers}}
use Rattle.broker_tables.proofs.{Listed.{sorts, Lists-of_join}, Orders.{by_both-total_int_text, by_both-exact_int_text}}
use Rattle.broker_tables.proofs.ReadableRows.{IsNumberAt-of_column, IsLow-version}
use Rattle.broker_tables.proofs.VersionRows.{IsNumbered-versions, version_number, column-version_pacticipant, number_of-version_row, number_of-has_row, binary-Eq_same_Int, binary-Eq_same_Text, and-three}
use Rattle.registry_tables.{specs.Registry.{IsBranchNumber, IsNewestBelow}, proofs.BranchRows.{key, is_on}}

-- ON b.version_number = v.number WHERE v.pacticipant = ?1 AND b.branch = ?2
abbrev terms : List Term
terms = op2 (Compare Eq Binary) (col 2 in_branches.version_number) (col 1 in_versions.number)
    ∷ op2 (Compare Eq Binary) (col 1 in_versions.pacticipant) (col 0 0) ∷ op2 (Compare Eq Binary) (col 2 in_branches.branch) (col 0 1) ∷ []

-- .. AND v.number < ?3
abbrev below_terms : List Term
below_terms = op2 (Compare Eq Binary) (col 2 in_branches.version_number) (col 1 in_versions.number) ∷ op2 (Compare Eq Binary) (col 1 in_versions.pacticipant) (col 0 0) ∷ op2 (Compare Eq Binary) (col 2 in_branches.branch) (col 0 1) ∷ op2 (Compare Lt Binary) (col 1 in_versions.number) (col 0 2) ∷ []

abbrev order : List (Term × Key)
order = (col 1 in_versions.number, record { collation = Binary; descending = true }) ∷ []

pub numbers : (p b : List ℕ)
    → TableQuery (codes "SELECT v.number FROM versions v JOIN branches b ON b.version_number = v.number WHERE v.pacticipant = ?1 AND b.branch = ?2 ORDER BY v.number DESC")
    (Text p ∷ Text b ∷ []) (from_both in_versions.tree in_branches.tree terms (col 1 in_versions.number ∷ []) order)
unfolding understood everything
numbers p b = record { names = _; means = record { is = refl; plain = (refl, refl); unlisted = refl }; runs = record { whole = refl; typed = refl; sumless = refl } }

pub below : (p b : List ℕ) (k : ℕ)
    → TableQuery (codes "SELECT v.number FROM versions v JOIN branches b ON b.version_number = v.number WHERE v.pacticipant = ?1 AND b.branch = ?2 AND v.number < ?3 ORDER BY v.number DESC LIMIT 1")
    (Text p ∷ Text b ∷ Int (pos k) ∷ []) (up_to 1 (from_both in_versions.tree in_branches.tree below_terms (col 1 in_versions.number ∷ []) order))
unfolding understood everything
below p b k = record { names = _; means = record { is = refl; plain = (refl, refl); unlisted = refl }; runs = record { whole = refl; typed = refl; sumless = refl } }

-- if the versions are few enough, the numbers can be read
pub EachReads-branch_numbers : (p b : List ℕ) (db : Database) → EachReads (numbers p b) db IsNumberRow
EachReads-branch_numbers p b db s held readable =
    EachShown-of_both (numbers p b) db _ (λ v x hv hx kept. IsNumberAt-of_column (eval_all (col 1 in_versions.number ∷ []) ([] ∷ v ∷ x ∷ [])) 0 (whole_at in_versions.number v) (omega arith) (version_number db held.broker v hv) (IsLow-version db s held readable v hv))

pub EachReads-branch_number_below : (p b : List ℕ) (k : ℕ) (db : Database) → EachReads (below p b k) db IsNumberRow
EachReads-branch_number_below p b k db s held readable =
    EachShown-up_to_both (below p b k) db _ (λ v x hv hx kept. IsNumberAt-of_column (eval_all (col 1 in_versions.number ∷ []) ([] ∷ v ∷ x ∷ [])) 0 (whole_at in_versions.number v) (omega arith) (version_number db held.broker v hv) (IsLow-version db s held readable v hv))

-- a row shows this number
abbrev IsNumber : Row → ℕ → Type 0
IsNumber row n = (column row 0 ≡ Int (pos n))

-- the row of a version of the pacticipant, and one that puts this version on the branch
abbrev IsPair : List ℕ → List ℕ → Row → Row → Type 0
IsPair p b r x = (whole_at in_branches.version_number x ≡ whole_at in_versions.number r) × (text in_versions.pacticipant r ≡ p)
    × (text in_branches.branch x ≡ b)

module _ (db : Database) (s : Broker) (held : Holds db s) (p b : List ℕ) where
  whole_at-version_number : (r : Row) → Has (db.trees in_versions.tree) r → (n : ℕ) × (whole_at in_versions.number r ≡ pos n)
  whole_at-version_number r has = let it = number_of-version_row db held.broker s.versions held.versions r has in (it.0, it.2)

  keeps_both-IsPair : (more r x : Row) → Has (db.trees in_versions.tree) r → Has (db.trees in_branches.tree) x
      → (keeps_both terms (Text p ∷ Text b ∷ more) r x ≡ true) ↔ IsPair p b r x
  keeps_both-IsPair more r x hr hx =
      let all = and-three (is_true (binary (Compare Eq Binary) (column x in_branches.version_number) (column r in_versions.number))) (is_true (binary (Compare Eq Binary) (column r in_versions.pacticipant) (Text p))) (is_true (binary (Compare Eq Binary) (column x in_branches.branch) (Text b))) in
      let number = binary-Eq_same_Int (column x in_branches.version_number) (column r in_versions.number) _ _ (column-whole_numbers at_branches db held.broker in_branches.version_number refl x hx) (version_number db held.broker r hr) in
      let owner = binary-Eq_same_Text (column r in_versions.pacticipant) (Text p) _ p (column-version_pacticipant db held.broker r hr) refl in
      let branch = binary-Eq_same_Text (column x in_branches.branch) (Text b) _ b (column-texts at_branches db held.broker in_branches.branch refl x hx) refl in
      (λ kept. let it = all.0 kept in (number.0 it.0, owner.0 it.1, branch.0 it.2), λ is. all.1 (number.1 is.0, owner.1 is.1, branch.1 is.2))

  -- the number of a pair is one on the branch
  IsPair-sound : (r x : Row) → Has (db.trees in_versions.tree) r → Has (db.trees in_branches.tree) x → IsPair p b r x → (n : ℕ)
      → whole_at in_versions.number r ≡ pos n → IsBranchNumber s p b n
  IsPair-sound r x hr hx pair n is =
      let it = number_of-version_row db held.broker s.versions held.versions r hr in
      let v = version (text in_versions.pacticipant r) (text in_versions.version r) in
      let same : it.0 ≡ n = (let ints : pos it.0 ≡ pos n = sym it.2 ∙ is in cc) in
      let is_present : is_on (db.trees in_branches.tree) b (Some it.0) ≡ true =
      any_of (λ r. eq_by_cmp (by_both int_cmp text_cmp) (pos it.0, b) (key r)) (db.trees in_branches.tree) x hx
      (ap (eq_by_cmp (by_both int_cmp text_cmp) (pos it.0, b)) (λ i. ((pair.0 ∙ it.2) i, pair.2 i)) ∙ (eq_by_cmp_equiv by_both-total_int_text).refl (pos it.0, b)) in
      (v, it.1 ∙ ap Some same, pair.1, sym (held.branches v b) ∙ ap (is_on (db.trees in_branches.tree) b) it.1 ∙ is_present)

  -- and each such number has a pair
  IsPair-complete : (n : ℕ) → IsBranchNumber s p b n → (q : Row × Row) × Has (db.trees in_versions.tree) q.0 × Has (db.trees in_branches.tree) q.1
      × IsPair p b q.0 q.1 × (whole_at in_versions.number q.0 ≡ pos n)
  IsPair-complete n (v, is, owner, on) =
      let r = number_of-has_row db held.broker s.versions v n held.versions is in
      let is_present : is_on (db.trees in_branches.tree) b (Some n) ≡ true = sym (ap (is_on (db.trees in_branches.tree) b) is) ∙ held.branches v b ∙ on in
      let x = any_has (λ r. eq_by_cmp (by_both int_cmp text_cmp) (pos n, b) (key r)) (db.trees in_branches.tree) is_present in
      let same : (pos n, b) ≡ key x.0 = by_both-exact_int_text (pos n, b) (key x.0) ((Equal-is (by_both int_cmp text_cmp (pos n, b) (key x.0))).0 x.2) in
      ((r.0, x.0), r.1, x.1, (sym (ap (λ k. k.0) same) ∙ sym r.4, r.2 ∙ owner, sym (ap (λ k. k.1) same)), r.4)

  -- a query that keeps_both-IsPair such pairs of some numbers lists these numbers
  module _ (terms : List Term) (params : Row) (Low : ℕ → Type 0)
      (kept : (r x : Row) → Has (db.trees in_versions.tree) r → Has (db.trees in_branches.tree) x → (n : ℕ) → whole_at in_versions.number r ≡ pos n → (keeps_both terms params r x ≡ true) ↔ (IsPair p b r x × Low n)) where
    abbrev env : Row × Row → List Row
    env q = params ∷ q.0 ∷ q.1 ∷ []

    agrees : (r x : Row) → Has (db.trees in_versions.tree) r → Has (db.trees in_branches.tree) x → keeps_both terms params r x ≡ true → IsPair p b r x
    agrees r x hr hx h = let n = whole_at-version_number r hr in ((kept r x hr hx n.0 n.1).0 h).0

    by_number : (a c : Row × Row) → Has (db.trees in_versions.tree) a.0 → Has (db.trees in_versions.tree) c.0
        → sorts order env a c ≡ int_cmp (whole_at in_versions.number c.0) (whole_at in_versions.number a.0)
    by_number a c ha hc =
        then-Equal (value_cmp (column c.0 in_versions.number) (column a.0 in_versions.number)) ∙ (λ i. value_cmp (version_number db held.broker c.0 hc i) (version_number db held.broker a.0 ha i)) ∙ value_cmp-Int (whole_at in_versions.number c.0) (whole_at in_versions.number a.0)

    apart : IsAscending (λ a c. is_eq (sorts order env a c) ≡ false) (pairs_kept terms params (db.trees in_versions.tree) (db.trees in_branches.tree))
    apart = pairs-IsAscending (keeps_both terms params) (db.trees in_branches.tree) (λ a c. is_eq (sorts order env a c) ≡ false) (db.trees in_versions.tree)
        (λ x hx. IsAscending-map_on _ _ (db.trees in_branches.tree) (λ y z hy hz differ ky kz.
        let one = agrees x y hx hy ky in
        let two = agrees x z hx hz kz in
        let same : key y ≡ key z = λ i. ((one.0 ∙ sym two.0) i, (one.2 ∙ sym two.2) i) in
        absurd (true≢false (sym (ap (eq_by_cmp (by_both int_cmp text_cmp) (key y)) (sym same) ∙ (eq_by_cmp_equiv by_both-total_int_text).refl (key y)) ∙ differ))) (IsAscending-keys_of_table branches_by_key db held.broker))
        (IsAscending-map_on _ _ (db.trees in_versions.tree) (λ x w hx hw differ y z hy hz ky kz. ap is_eq (by_number (x, y) (w, z) hx hw) ∙ (eq_by_cmp_equiv int_cmp_total).symm (whole_at in_versions.number w) (whole_at in_versions.number x) ∙ differ)
        (IsNumbered-whole_at_unique (db.trees in_versions.tree) (IsNumbered-versions db held.broker)))

    rows_of_pair : (q : Row × Row) → Has (pairs_kept terms params (db.trees in_versions.tree) (db.trees in_branches.tree)) q → Has (db.trees in_versions.tree) q.0 × Has (db.trees in_branches.tree) q.1 × (keeps_both terms params q.0 q.1 ≡ true)
    rows_of_pair = pairs-sound (keeps_both terms params) (db.trees in_branches.tree) (db.trees in_versions.tree)

    listed : (rows : List Row) (items : List ℕ) → Answers db (record { lets = []; body = from_both in_versions.tree in_branches.tree terms (col 1 in_versions.number ∷ []) order }) params rows → AreRead IsNumber rows items → Lists (flip_args nat_cmp) (λ n. IsBranchNumber s p b n × Low n) items
    listed = Lists-of_join db params terms (col 1 in_versions.number ∷ []) order IsNumber (flip_args nat_cmp)
        (λ n. IsBranchNumber s p b n × Low n) in_versions.tree in_branches.tree apart
        (λ a c x y ha hc is_x is_y less.
        let low : pos y <ℤ pos x = lt_from_Less (pos y) (pos x)
        ((λ i. int_cmp (id_in (sym is_y i)) (id_in (sym is_x i))) ∙ sym (by_number a c (rows_of_pair a ha).0 (rows_of_pair c hc).0) ∙ less) in
        sym (nat_cmp_is y x Less (omega (arith, ints))))
        (λ q n has is.
        let it = rows_of_pair q has in
        let both = (kept q.0 q.1 it.0 it.1 n (ap id_in is)).0 it.2 in
        (IsPair-sound q.0 q.1 it.0 it.1 both.0 n (ap id_in is), both.1))
        (λ n on.
        let it = IsPair-complete n on.0 in
        (it.0, pairs-complete (keeps_both terms params) (db.trees in_branches.tree) (db.trees in_versions.tree) it.0.0 it.0.1 it.1 it.2 ((kept it.0.0 it.0.1 it.1 it.2 n it.4).1 (it.3, on.1)), λ y is. (let same : pos y ≡ pos n = sym (ap id_in is) ∙ it.4 in cc)))

-- ---- all of them

pub Lists-branch_numbers : (p b : List ℕ) (db : Database) (rows : List Row) (items : List ℕ) (s : Broker) → Holds db s → IsShown (numbers p b) db rows → AreRead IsNumber rows items → Lists (flip_args nat_cmp) (IsBranchNumber s p b) items
Lists-branch_numbers p b db rows items s held h read =
    let list = listed db s held p b terms (Text p ∷ Text b ∷ []) (λ n. ⊤) (λ r x hr hx n is. let it = keeps_both-IsPair db s held p b [] r x hr hx in (λ kept. (it.0 kept, tt), λ both. it.1 both.0)) rows items h read in
    record { sorted = list.sorted; exactly = λ n. (λ in_list. ((list.exactly n).0 in_list).0, λ on. (list.exactly n).1 (on, tt)) }

-- ---- the greatest below another

and-last_test : (x y z t : Bool) → (x && (y && (z && (t && true)))) ≡ ((x && (y && (z && true))) && t)
and-last_test true true true true = refl
and-last_test _ _ _ _ = refl

is_lt-int_cmp : (n k : ℕ) → (is_lt (int_cmp (pos n) (pos k)) ≡ true) ↔ (n < k)
is_lt-int_cmp n k = (go (int_cmp (pos n) (pos k)) refl, λ low. ap is_lt (Less-from_lt (pos n) (pos k) (omega (arith, ints))))
  where
    go : (o : Ordering) → int_cmp (pos n) (pos k) ≡ o → is_lt o ≡ true → n < k
    go Less is h = let low : pos n <ℤ pos k = lt_from_Less (pos n) (pos k) is in omega (arith, ints)
    go _ is h = absurd cc

AreRead-numbers : (rows : List Row) → ((row : Row) → Has rows row → (n : ℕ) × IsNumber row n) → (items : List ℕ) × AreRead IsNumber rows items
AreRead-numbers [] each = ([], tt)
AreRead-numbers (r ∷ rows) each =
    let more = AreRead-numbers rows (λ row has. each row (inr has)) in
    let first = each r (inl refl) in
    (first.0 ∷ more.0, (first.1, more.1))

module _ (s : Broker) (p b : List ℕ) (k : ℕ) where
  -- the first of the list is the greatest
  IsNewestBelow-first_of_list : (found : Option ℕ) (rows : List Row) (items : List ℕ) → AreRead IsNumber rows items → option_map (λ n. Int (pos n)) found ≡ option_map (λ r. column r 0) (slice_get (take 1 rows) 0)
      → Lists (flip_args nat_cmp) (λ n. IsBranchNumber s p b n × (n < k)) items → IsNewestBelow s p b k found
  unfolding IsStrictlySortedBy
  IsNewestBelow-first_of_list None [] [] read first list = λ n on. let high : ¬ (n < k) = (λ low. Contains-empty n ((list.exactly n).1 (on, low))) in omega (arith, high)
  IsNewestBelow-first_of_list None (r ∷ rows) items read first list = absurd cc
  IsNewestBelow-first_of_list (Some n) [] items read first list = absurd cc
  IsNewestBelow-first_of_list (Some n) (r ∷ rows) (m ∷ items) read first list =
      let same : n ≡ m = (let values : Int (pos n) ≡ column r 0 = cc in let ints : Int (pos n) ≡ Int (pos m) = values ∙ read.0 in cc) in
      let it = (list.exactly n).0 (subst (Contains (m ∷ items)) (sym same) (Contains-here m items)) in (
        it.0,
        it.1,
        λ j on low. elim (Contains-cons_cases m items j ((list.exactly j).1 (on, low))) [
          | inl is ↦ omega (arith, is, same)
          | inr later ↦ let less : j < m = ranked j m Less (sym (at_has _ items j list.sorted.0 (contains_has items j later))) in omega (arith, less, same)
        ],
      )
  IsNewestBelow-first_of_list _ _ _ read first list = absurd read

pub IsNewestBelow-found : (p b : List ℕ) (k : ℕ) (db : Database) (rows : List Row) (found : Option ℕ) (s : Broker) → Holds db s → IsShown (below p b k) db rows
    → option_map (λ n. Int (pos n)) found ≡ option_map (λ r. column r 0) (slice_get rows 0) → IsNewestBelow s p b k found
IsNewestBelow-found p b k db rows found s held h read =
    let params : Row = Text p ∷ Text b ∷ Int (pos k) ∷ [] in
    let all = up_to-take_joined db params in_versions.tree in_branches.tree below_terms (col 1 in_versions.number ∷ []) order 1 rows h in
    let items = AreRead-numbers all.0 (λ row has.
    let it = pair_shown db params in_versions.tree in_branches.tree below_terms (col 1 in_versions.number ∷ []) order all.0 all.1 row has in
    let n = whole_at-version_number db s held p b it.0 it.2 in
    (n.0, ap (λ x. column x 0) it.4 ∙ version_number db held.broker it.0 it.2 ∙ ap Int n.1)) in
    IsNewestBelow-first_of_list s p b k found all.0 items.0 items.1 (read ∙ ap (λ l. option_map (λ r. column r 0) (slice_get l 0)) all.2)
    (listed db s held p b below_terms params (λ n. n < k) kept all.0 items.0 all.1 items.1)
  where
    kept : (r x : Row) → Has (db.trees in_versions.tree) r → Has (db.trees in_branches.tree) x → (n : ℕ) → whole_at in_versions.number r ≡ pos n → (keeps_both below_terms (Text p ∷ Text b ∷ Int (pos k) ∷ []) r x ≡ true) ↔ (IsPair p b r x × (n < k))
    kept r x hr hx n is =
        let pair = keeps_both-IsPair db s held p b (Int (pos k) ∷ []) r x hr hx in
        let low = is_true (binary (Compare Lt Binary) (column r in_versions.number) (Int (pos k))) in
        let split = and-last_test (is_true (binary (Compare Eq Binary) (column x in_branches.version_number) (column r in_versions.number))) (is_true (binary (Compare Eq Binary) (column r in_versions.pacticipant) (Text p))) (is_true (binary (Compare Eq Binary) (column x in_branches.branch) (Text b))) low in
        let tested : low ≡ is_lt (int_cmp (pos n) (pos k)) = ap (λ v. is_true (binary (Compare Lt Binary) v (Int (pos k)))) (version_number db held.broker r hr ∙ ap Int is) ∙ binary-Lt_Int (pos n) (pos k) in (
          λ h. let both = sym split ∙ h in (pair.0 (first_of_both _ low both), (is_lt-int_cmp n k).0 (sym tested ∙ second_of_both _ low both)),
          λ both. split ∙ (λ i. pair.1 both.0 i && (tested ∙ (is_lt-int_cmp n k).1 both.1) i),
        )
