-- How many numbers of its tables a change takes.
use Rattle.std.specs.{Prelude.{fold}, List.{AllByRecursion, list_any}}
use Rattle.std.proofs.Common.{◌++◌, ◌≡◌, inl, inr, ℕ, ℤ, pos, ◌+ℤ◌, List, [], ◌∷◌, filter, Bool, true, not, refl, sym, ap, subst, ◌∙◌, ◌+◌, ◌<◌, ◌≤◌, ◌^◌, arith}
use Rattle.std.proofs.lemmas.Bool.{cases_Bool, lt-ltb}
use Rattle.sqlite.specs.{declared.types.Value.TheVariants.{Int}, Edit.{next_rowid}, Effect.{Database}, Order.{Row}, State.{State}, Tree.{rowid}}
use Rattle.sqlite_rules.specs.{Edit.{id_in}, Lists.{Has}}
use Rattle.sqlite_keyed.proofs.ListLemmas.{all_weaker, all-filter}
use Rattle.sqlite_sql.specs.Ops.{fits_i64}
use Rattle.table_access.{specs.Statements.{IsAdded}, proofs.{SoundLemmas.{at_has}, Members.{any_has}}}
use Rattle.broker_core.{specs.{Text.{same_text}, State.{State as Broker}}, proofs.Judgement.{same_text-equal}}
use Rattle.broker_tables.specs.{Rows.{rows_of}, Holds.{Holds, HoldsAfter}, Room.{counted_tables, LeavesAbove, LeaveNumbers, HasRoomFor, TakesRoom}}
use Rattle.broker_tables.{specs.ChangeRefusals.{HaveNumbers}, proofs.Frames.{Frame, Stays}}

-- ---- more and LeaveNumbers-fewer

LeaveNumbers-fewer : (n m : ℕ) → n ≤ m → (rows : List Row) → LeaveNumbers m rows → LeaveNumbers n rows
LeaveNumbers-fewer n m low rows (few, all) = (omega (arith, low, few), all_weaker (LeavesAbove m) (LeavesAbove n) (λ r above. (above.0, above.1, omega (arith, low, above.2))) rows all)

-- what has room for more rows has room for LeaveNumbers-fewer
pub HasRoomFor-fewer : (n m : ℕ) → n ≤ m → (db : Database) → HasRoomFor m db → HasRoomFor n db
HasRoomFor-fewer n m low db = all_weaker (λ name. LeaveNumbers m (rows_of db name)) (λ name. LeaveNumbers n (rows_of db name)) (λ name. LeaveNumbers-fewer n m low (rows_of db name)) counted_tables

-- if nothing changed, no number is taken
pub TakesRoom-same : (taken : ℕ) (old new : Database) → new ≡ old → TakesRoom taken old new
TakesRoom-same taken old new same n room = subst (HasRoomFor n) (sym same) (HasRoomFor-fewer n (n + taken) (omega arith) old room)

-- what takes so many numbers at most takes no more than any greater count
pub TakesRoom-more : (taken more : ℕ) → taken ≤ more → (old new : Database) → TakesRoom taken old new → TakesRoom more old new
TakesRoom-more taken more low old new takes n room = takes n (HasRoomFor-fewer (n + taken) (n + more) (omega (arith, low)) old room)

-- of one change after another
pub TakesRoom-trans : (one two : ℕ) (old mid new : Database) → TakesRoom one old mid → TakesRoom two mid new → TakesRoom (one + two) old new
TakesRoom-trans one two old mid new first second n room = second n (first (n + two) (subst (λ m. HasRoomFor m old) (let same : n + (one + two) ≡ (n + two) + one = omega arith in same) room))

-- ---- the rows of a table

-- at most one number was taken above them
abbrev pub Grows : List Row → List Row → Type 0
Grows old new = (n : ℕ) → LeaveNumbers (n + 1) old → LeaveNumbers n new

-- the number after the last row's
fold-next_above : (n : ℕ) (rows : List Row) (last : ℤ) → (m : ℕ) × (last ≡ pos m) × (m + n < 2 ^ 63) → AllByRecursion (LeavesAbove (n + 1)) rows
    → (m : ℕ) × (fold (λ _ r. id_in (rowid r) +ℤ pos 1) last rows ≡ pos m) × (m + n < 2 ^ 63)
fold-next_above n [] last before all = before
fold-next_above n (r ∷ rows) last before (above, all) =
    fold-next_above n rows (id_in (rowid r) +ℤ pos 1) (above.0 + 1, ap (λ v. id_in v +ℤ pos 1) above.1, omega (arith, above.2)) all

next_rowid-bounds : (n : ℕ) (rows : List Row) → LeaveNumbers (n + 1) rows → (m : ℕ) × (next_rowid rows ≡ pos m) × (m + n < 2 ^ 63)
next_rowid-bounds n rows (few, all) = fold-next_above n rows (pos 1) (1, refl, omega (arith, few)) all

LeavesAbove-append : (n : ℕ) (front back : List Row) (row : Row) → LeavesAbove n row → AllByRecursion (LeavesAbove n) (front ++ back) → AllByRecursion (LeavesAbove n) (front ++ row ∷ back)
LeavesAbove-append n [] back row one all = (one, all)
LeavesAbove-append n (r ∷ front) back row one (first, all) = (first, LeavesAbove-append n front back row one all)

-- a row was added that has the next number
pub Grows-added : (old new : List Row) (row : Row) → IsAdded old new row → rowid row ≡ Int (next_rowid old) → Grows old new
Grows-added old new row added next n room =
    let at = next_rowid-bounds n old room in
    let rest = LeaveNumbers-fewer n (n + 1) (omega arith) old room in
    (rest.0, subst (AllByRecursion (LeavesAbove n)) (sym added.is) (LeavesAbove-append n added.front added.back row (at.0, next ∙ ap Int at.1, at.2) (subst (AllByRecursion (LeavesAbove n)) added.was rest.1)))

-- some rows are gone
pub Grows-filter : (old new : List Row) (keep : Row → Bool) → new ≡ filter keep old → Grows old new
Grows-filter old new keep is n room =
    let rest = LeaveNumbers-fewer n (n + 1) (omega arith) old room in
    (rest.0, subst (AllByRecursion (LeavesAbove n)) (sym is) (all-filter (LeavesAbove n) keep old rest.1))

-- a row was changed that keeps its number
pub Grows-changed : (old new : List Row) (r row : Row) (keep : Row → Bool) → Has old r → rowid row ≡ rowid r → IsAdded (filter keep old) new row → Grows old new
Grows-changed old new r row keep has same added n room =
    let rest = LeaveNumbers-fewer n (n + 1) (omega arith) old room in
    let at = at_has _ old r rest.1 has in
    (rest.0, subst (AllByRecursion (LeavesAbove n)) (sym added.is) (LeavesAbove-append n added.front added.back row (at.0, same ∙ at.1, at.2) (subst (AllByRecursion (LeavesAbove n)) added.was (all-filter (LeavesAbove n) keep old rest.1))))

-- ---- the tables

abbrev pub is_counted : List ℕ → Bool
is_counted name = list_any (same_text name) counted_tables

is_counted-counted_tables : AllByRecursion (λ name. is_counted name ≡ true) counted_tables
is_counted-counted_tables = (refl, (refl, (refl, (refl, (refl, (refl, (refl, (refl, (refl, (refl, tt))))))))))

module _ (changed : List (List ℕ)) (old new : Database) (frame : Frame changed old new) where
  Stays-counted_tables : AllByRecursion (Stays changed old new) counted_tables
  Stays-counted_tables =
      let all = frame.others in
      (all.1.0, (all.1.1.0, (all.1.1.1.1.0, (all.1.1.1.1.1.0, (all.1.1.1.1.1.1.1.1.1.1.1.1.1.1.0, (all.1.1.1.1.1.1.0, (all.1.1.1.1.1.1.1.1.0, (all.1.1.1.1.1.1.1.1.1.1.0, (all.1.1.1.1.1.1.1.1.1.1.1.0, (all.1.1.1.1.1.1.1.1.1.1.1.1.0, tt))))))))))

  -- if each changed table of those grew by a row at most, a number of a table was taken at most
  pub TakesRoom-one_row : AllByRecursion (λ name. is_counted name ≡ true → Grows (rows_of old name) (rows_of new name)) changed → TakesRoom 1 old new
  TakesRoom-one_row grow n room = go counted_tables is_counted-counted_tables Stays-counted_tables room
    where
      of_table : (name : List ℕ) → is_counted name ≡ true → Stays changed old new name → LeaveNumbers (n + 1) (rows_of old name) → LeaveNumbers n (rows_of new name)
      of_table name counted same here = elim (cases_Bool (list_any (same_text name) changed)) [
        | inl among ↦
            let c = any_has (same_text name) changed among in
            let is : name ≡ c.0 = same_text-equal name c.0 c.2 in
            subst (λ x. Grows (rows_of old x) (rows_of new x)) (sym is) (at_has _ changed c.0 grow c.1 (subst (λ x. is_counted x ≡ true) is counted)) n here
        | inr none ↦ subst (LeaveNumbers n) (sym (same (ap not none))) (LeaveNumbers-fewer n (n + 1) (omega arith) (rows_of old name) here)
      ]

      go : (names : List (List ℕ)) → AllByRecursion (λ name. is_counted name ≡ true) names → AllByRecursion (Stays changed old new) names → AllByRecursion (λ name. LeaveNumbers (n + 1) (rows_of old name)) names → AllByRecursion (λ name. LeaveNumbers n (rows_of new name)) names
      go [] c s r = tt
      go (name ∷ names) c s r = (of_table name c.0 s.0 r.0, go names c.1 s.1 r.1)

-- a table that has room for a row has a number for it
pub fits_i64-next_rowid : (rows : List Row) → LeaveNumbers 1 rows → fits_i64 (next_rowid rows) ≡ true
fits_i64-next_rowid rows room = let at = next_rowid-bounds 0 rows room in ap fits_i64 at.1 ∙ lt-ltb at.0 (2 ^ 63) (let low : at.0 < 2 ^ 63 = omega (arith, at.2) in low)

-- a table has room if all have
pub HasRoomFor-LeaveNumbers : (n : ℕ) (db : Database) → HasRoomFor n db → (name : List ℕ) → is_counted name ≡ true → LeaveNumbers n (rows_of db name)
HasRoomFor-LeaveNumbers n db room name counted =
    let c = any_has (same_text name) counted_tables counted in
    subst (λ x. LeaveNumbers n (rows_of db x)) (sym (same_text-equal name c.0 c.2)) (at_has (λ x. LeaveNumbers n (rows_of db x)) counted_tables c.0 room c.1)

pub HasRoomFor-HaveNumbers : (tables : List (List ℕ)) → AllByRecursion (λ name. is_counted name ≡ true) tables → (n : ℕ) → 1 ≤ n → (db : Database) → HasRoomFor n db → HaveNumbers tables db
HasRoomFor-HaveNumbers tables counted n one db room =
    all_weaker (λ name. is_counted name ≡ true) (λ name. LeaveNumbers 1 (rows_of db name)) (λ name is. LeaveNumbers-fewer 1 n one (rows_of db name) (HasRoomFor-LeaveNumbers n db room name is)) tables counted

-- what is held after one table changed, which grew by a row at most, if SQLite numbers its rows
pub HoldsAfter-one_table : (taken : ℕ) → 1 ≤ taken → (name : List ℕ) (old new : State) (t : Broker) → Frame (name ∷ []) old.now new.now → (is_counted name ≡ true → Grows (rows_of old.now name) (rows_of new.now name)) → Holds new.now t → HoldsAfter taken old new t
HoldsAfter-one_table taken one name old new t frame grows held = (held, TakesRoom-more 1 taken one old.now new.now (TakesRoom-one_row (name ∷ []) old.now new.now frame (grows, tt)))
