-- The three statements that record a result, one after another, lead from the state that the database holds to the one with that result.
use Rattle.std.specs.{Prelude.{option_map, option_and_then, if◌then◌else◌, IfSome}, Ordering.{eq_by_cmp, int_cmp}, Cmp.{eq_by_cmp_equiv, int_cmp_total}}
use Rattle.std.proofs.Common.{◌≡◌, ◌==◌, inl, inr, ℕ, ℤ, pos, ◌+◌, codes, List, [], ◌∷◌, ◌++◌, map, length, Bool, true, false, ◌&&◌, ◌||◌, cond, refl, sym, ap, subst, subst₂, ◌∙◌, Some, None, Option, arith}
use Rattle.std.proofs.{lemmas.Bool.{ne_eqb, and_right}, lemmas.List.{map-append, length-map}, Math.Bool.{and-true, or-false}}
use Rattle.sqlite.specs.{Tree.{rowid}, declared.types.Value.TheVariants.{Int}, Order.{Row}, State.{State}, Effect.{Database}}
use Rattle.sqlite_rules.{specs.Lists.{Has}, proofs.TableLemmas.{int_is}}
use Rattle.table_access.{specs.{Columns.{whole_at, by_both}, Sound.{IsNumbered}, Statements.{IsAdded}}, proofs.{SoundLemmas.{at_has}, Members.{has_right}}}
use Rattle.broker_core.specs.{State.{State as Broker, Verification, latest_result}, Text.{same_version}, declared.command.Version.{Version}}
use Rattle.broker_tables.specs.Schema.{in_results, in_latest, in_checked_results}
use Rattle.broker_tables.specs.{Holds.{Holds, HoldsAfter, IsBroker, AreResults, AreLatest, ResultRow, result_in, result_of}, Rows.{has_row_at, truth_in}}
use Rattle.broker_tables.specs.{Numbers.{numbered, number_of}, ChangeRefusals.{HaveNumbers}}
use Rattle.broker_tables.proofs.{Frames.{Frame, ChangesOnly-Frame, Frame-trans, Frame-IsBroker, Holds-results}, Growth.{has_row_at-none}}
use Rattle.broker_tables.proofs.{Ties.{both_eq, and-same, eqb-int_cmp}, References.{references-result, enumerate_from-row_number}}
use Rattle.broker_tables.proofs.{Placed.{checked_results, at_checked_results, listed}, RoomLemmas.{Grows, TakesRoom-more, TakesRoom-one_row}}
use Rattle.broker_tables.proofs.{NextRow.{IsAdded-numbered}, NumberLemmas.{same_version-pair_cmp, number_of-same_version, same_version-unknown}}
use Rattle.broker_tables.proofs.Orders.{pair_cmp-IsTotalOrder, by_both-total_int_int}
use Rattle.contract_tables.specs.Verified.{latest_at, result_row, result_for, PutsRow, Marks, Points, HasRowWith, AllowsResult, AllowsMark, AllowsPoint}
use Rattle.contract_tables.proofs.{ContractRows.{option_map-cond}, ReferredRows.{HasRowWith-content, HasRowWith-version}, LastRow.{last_row-append_one}}
use Rattle.contract_tables.proofs.{ResultLookups.{IsNumbered-results, IsNumbered-checked_results}, RunTexts.{run_in-run_text}}
use Rattle.broker_names.specs.Name.{IsName}

-- ---- numbers below the next

map-same : {X Y : Type 0} (f g : X → Y) (xs : List X) → ((x : X) → Has xs x → f x ≡ g x) → map f xs ≡ map g xs
map-same f g [] each = refl
map-same f g (x ∷ xs) each = λ i. each x (inl refl) i ∷ map-same f g xs (λ y has. each y (inr has)) i

module _ (s : Broker) where
  abbrev next : ℕ
  next = length s.results + 1

  abbrev rows_held : List ResultRow
  rows_held = map (result_of s.versions) s.results

  -- no result below the next number is that one
  eq_by_cmp-not_next_result : (checked rows : List Row) → AreResults s.versions s.results rows checked → (x : Row) → Has rows x → eq_by_cmp int_cmp (pos next) (whole_at 0 x) ≡ false
  eq_by_cmp-not_next_result checked rows are x has =
      let it = enumerate_from-row_number (result_in checked) rows rows_held 1 are x has in
      let count = length-map s.results (result_of s.versions) in
      ap (eq_by_cmp int_cmp (pos next)) it.1 ∙ sym (eqb-int_cmp next it.0) ∙ ne_eqb next it.0 (λ same. omega (arith, it.2, count, same))

  -- so none of that number is marked as checked
  has_row_at-next_unmarked : (db : Database) → Holds db s → has_row_at int_cmp (whole_at 0) (db.trees in_checked_results.tree) (pos next) ≡ false
  has_row_at-next_unmarked db held = has_row_at-none int_cmp (whole_at 0) (whole_at 0) (pos next) (db.trees in_checked_results.tree) (λ r has.
      let number = int_is (rowid r) (at_has _ (db.trees in_checked_results.tree) r (IsNumbered-checked_results db held.broker).1 has) in
      let x = references-result db held.broker checked_results (listed at_checked_results db held.broker) 0 (inl refl) r has number in
      ap (eq_by_cmp int_cmp (pos next)) (sym x.2) ∙ eq_by_cmp-not_next_result (db.trees in_checked_results.tree) (db.trees in_results.tree) held.results x.0 x.1)

-- what the second statement makes of the marks
abbrev pub MarksGrow : Bool → ℕ → List Row → List Row → Type 0
MarksGrow checked number old new = (k : ℤ) → has_row_at int_cmp (whole_at 0) new k ≡ ((checked && eq_by_cmp int_cmp k (pos number)) || has_row_at int_cmp (whole_at 0) old k)

truth_in-if : (b : Bool) → truth_in (Int (if b then pos 1 else pos 0)) ≡ b
truth_in-if true = refl
truth_in-if false = refl

-- ---- the latest results, with one more

-- what the third statement makes of the rows
abbrev Pointed : ℕ → ℕ → ℕ → List Row → List Row → Type 0
Pointed content n number old new =
    (c k : ℕ) → latest_at new c k ≡ cond (eq_by_cmp (by_both int_cmp int_cmp) (pos c, pos k) (pos content, pos n)) (Some (pos number)) (latest_at old c k)

-- so they are the latest ones of the longer list
AreLatest-append : (s : Broker) (r : Verification) (n : ℕ) (old new : List Row) → AreLatest s old → number_of s.versions r.version ≡ Some n
    → Pointed r.content n (length s.results + 1) old new → AreLatest (record s { results = s.results ++ r ∷ [] }) new
AreLatest-append s r n old new are is put content w =
    each (number_of s.versions w) refl
    ∙ sym (option_map-cond (λ e. pos e.0) (r.content == content && same_version r.version w) (length s.results + 1, r) (latest_result s content w))
    ∙ sym (ap (option_map (λ (e : ℕ × Verification). pos e.0)) (last_row-append_one (λ q. q.content == content && same_version q.version w) s.results r))
  where
    after : Bool → Option ℤ → Option ℤ
    after b was = cond b (Some (pos (length s.results + 1))) was

    each : (o : Option ℕ) → number_of s.versions w ≡ o → option_and_then (λ k. latest_at new content k) (number_of s.versions w)
        ≡ after (r.content == content && same_version r.version w) (option_map (λ e. pos e.0) (latest_result s content w))
    each None e =
        let turned = (eq_by_cmp_equiv pair_cmp-IsTotalOrder).symm (r.version.pacticipant, r.version.name) (w.pacticipant, w.name) in
        let other = same_version-pair_cmp r.version w ∙ turned ∙ sym (same_version-pair_cmp w r.version) ∙ same_version-unknown s.versions w r.version n e is in
        let apart = and_right (r.content == content) (same_version r.version w) other in
        let was = sym (ap (option_and_then (λ k. latest_at old content k)) e) ∙ are content w in
        ap (option_and_then (λ k. latest_at new content k)) e ∙ (λ i. after (sym apart i) (was i))
    each (Some k) e =
        let same = and-same _ _ _ _ (eqb-int_cmp r.content content) (number_of-same_version s.versions r.version w n k is e)
        ∙ both_eq (int_cmp (pos r.content) (pos content)) (int_cmp (pos n) (pos k)) ∙ (eq_by_cmp_equiv by_both-total_int_int).symm (pos r.content, pos n) (pos content, pos k) in
        let was = sym (ap (option_and_then (λ m. latest_at old content m)) e) ∙ are content w in
        ap (option_and_then (λ m. latest_at new content m)) e ∙ put content k ∙ (λ i. after (sym same i) (was i))

module _ (s : Broker) (r : Verification) (n : ℕ) (is : number_of s.versions r.version ≡ Some n) (name : IfSome r.run IsName) where
  abbrev made : Row
  made = result_row (next s) r.content r.version.pacticipant n r.pass r.run

  -- the rows of the results after the first and the second statement
  pub AreResults-append : (db : Database) → Holds db s → (rows marks : List Row) → IsNumbered rows → IsAdded (db.trees in_results.tree) rows made → MarksGrow r.checked (next s) (db.trees in_checked_results.tree) marks
      → AreResults s.versions (s.results ++ r ∷ []) rows marks
  AreResults-append db held rows marks rising added grow =
      let kept : (x : Row) → Has (db.trees in_results.tree) x
      → has_row_at int_cmp (whole_at 0) marks (whole_at 0 x) ≡ has_row_at int_cmp (whole_at 0) (db.trees in_checked_results.tree) (whole_at 0 x) = λ x has.
      let apart = (eq_by_cmp_equiv int_cmp_total).symm (whole_at 0 x) (pos (next s)) ∙ eq_by_cmp-not_next_result s (db.trees in_checked_results.tree) (db.trees in_results.tree) held.results x has in
      grow (whole_at 0 x) ∙ ap (λ b. b || has_row_at int_cmp (whole_at 0) (db.trees in_checked_results.tree) (whole_at 0 x)) (and_right r.checked _ apart) in
      let are : map {B = ℤ × ResultRow} (λ x. (whole_at 0 x, result_in marks x)) (db.trees in_results.tree) ≡ numbered (rows_held s) =
      map-same (λ x. (whole_at 0 x, result_in marks x)) (λ x. (whole_at 0 x, result_in (db.trees in_checked_results.tree) x)) (db.trees in_results.tree)
      (λ x has i. (whole_at 0 x, record (result_in (db.trees in_checked_results.tree) x) { checked = kept x has i })) ∙ held.results in
      let mark : has_row_at int_cmp (whole_at 0) marks (pos (next s)) ≡ r.checked =
      grow (pos (next s)) ∙ (λ i. (r.checked && (eq_by_cmp_equiv int_cmp_total).refl (pos (next s)) i) || has_row_at-next_unmarked s db held i) ∙ or-false (r.checked && true) ∙ and-true r.checked in
      let last : result_in marks made ≡ result_of s.versions r =
      λ i. record { content = pos r.content; provider = r.version.pacticipant; version = option_map pos (sym is i); pass = truth_in-if r.pass i; checked = mark i; run = run_in-run_text (next s) r.run name i } in
      IsAdded-numbered (result_in marks) (rows_held s) (db.trees in_results.tree) rows made are rising (ap (λ k. pos (k + 1)) (sym (length-map s.results (result_of s.versions)))) added
      ∙ ap (λ x. numbered (rows_held s ++ x ∷ [])) last ∙ ap numbered (sym (map-append (result_of s.versions) s.results (r ∷ [])))

  -- the three together
  HoldsAfter-three_statements : (old one two new : State) → Holds old.now s → PutsRow in_results.tree made old one → (IsBroker one.now → Marks r.checked (next s) one two)
      → (IsBroker two.now → Points r.content n (next s) two new) → HoldsAfter 2 old new (record s { results = s.results ++ r ∷ [] })
  HoldsAfter-three_statements old one two new held put mark point =
      let first = ChangesOnly-Frame (codes "results" ∷ []) in_results.tree refl old one held.broker put.0 in
      let broker = Frame-IsBroker (codes "results" ∷ []) old.now one.now first held.broker in
      let marks = mark broker in
      let second = ChangesOnly-Frame (codes "checked_results" ∷ []) in_checked_results.tree refl one two broker marks.0 in
      let broker_two = Frame-IsBroker (codes "checked_results" ∷ []) one.now two.now second broker in
      let points = point broker_two in
      let third = ChangesOnly-Frame (codes "latest" ∷ []) in_latest.tree refl two new broker_two points.0 in
      let results_one : new.now.trees in_results.tree ≡ one.now.trees in_results.tree = third.others.1.1.1.1.1.1.1.1.1.0 refl ∙ second.others.1.1.1.1.1.1.1.1.1.0 refl in
      let marks_two : new.now.trees in_checked_results.tree ≡ two.now.trees in_checked_results.tree = third.others.1.1.1.1.1.1.1.1.1.1.1.1.1.0 refl in
      let marks_one : one.now.trees in_checked_results.tree ≡ old.now.trees in_checked_results.tree = first.others.1.1.1.1.1.1.1.1.1.1.1.1.1.0 refl in
      let latest_two : two.now.trees in_latest.tree ≡ old.now.trees in_latest.tree = second.others.1.1.1.1.1.1.1.1.1.1.0 refl ∙ first.others.1.1.1.1.1.1.1.1.1.1.0 refl in
      let last_two = Frame-trans (codes "checked_results" ∷ []) (codes "latest" ∷ []) one.now two.now new.now second third in
      let all = Frame-trans (codes "results" ∷ []) (codes "checked_results" ∷ codes "latest" ∷ []) old.now one.now new.now first last_two in
      let grow = subst (λ rows. MarksGrow r.checked (next s) rows (two.now.trees in_checked_results.tree)) marks_one marks.1 in
      let are = AreResults-append old.now held (one.now.trees in_results.tree) (two.now.trees in_checked_results.tree) (IsNumbered-results one.now broker) put.1 grow in
      let point_was = subst (λ rows. Pointed r.content n (next s) rows (new.now.trees in_latest.tree)) latest_two points.1 in
      let grows = subst (λ rows. Grows rows (new.now.trees in_latest.tree)) latest_two points.2 in (
        Holds-results old.now new.now s (s.results ++ r ∷ []) held all
            (subst₂ (AreResults s.versions (s.results ++ r ∷ [])) (sym results_one) (sym marks_two) are)
            (AreLatest-append s r n (old.now.trees in_latest.tree) (new.now.trees in_latest.tree) held.latest is point_was),
        TakesRoom-more 1 2 (omega arith) old.now new.now (TakesRoom-one_row _ old.now new.now all ((λ no. absurd cc), ((λ no. absurd cc), ((λ counted. grows), tt)))),
      )

-- ---- what the calls say of it

pub Marks-IsBroker : (checked : Bool) (number : ℕ) (old new : State) → IsBroker old.now → Marks checked number old new → IsBroker new.now
Marks-IsBroker checked number old new broker marks = Frame-IsBroker (codes "checked_results" ∷ []) old.now new.now (ChangesOnly-Frame (codes "checked_results" ∷ []) in_checked_results.tree refl old new broker marks.0) broker

pub PutsRow-IsBroker : (row : Row) (old new : State) → IsBroker old.now → PutsRow in_results.tree row old new → IsBroker new.now
PutsRow-IsBroker row old new broker put = Frame-IsBroker (codes "results" ∷ []) old.now new.now (ChangesOnly-Frame (codes "results" ∷ []) in_results.tree refl old new broker put.0) broker

pub HoldsAfter-recorded : (number content : ℕ) (provider : List ℕ) (version : ℕ) (pass checked : Bool) (run : Option (List ℕ)) (old one two new : State) (s : Broker) (v : Version) → IfSome run IsName → Holds old.now s → number_of s.versions v ≡ Some version → v.pacticipant ≡ provider → number ≡ length s.results + 1
    → PutsRow in_results.tree (result_row number content provider version pass run) old one → (IsBroker one.now → Marks checked number one two) → (IsBroker two.now → Points content version number two new) → HoldsAfter 2 old new (record s { results = s.results ++ result_for content v pass checked run ∷ [] })
HoldsAfter-recorded number content provider version pass checked run old one two new s v name held numbered owner is put mark point =
    subst₂ (λ k p. PutsRow in_results.tree (result_row k content p version pass run) old one → (IsBroker one.now → Marks checked k one two)
    → (IsBroker two.now → Points content version k two new) → HoldsAfter 2 old new (record s { results = s.results ++ result_for content v pass checked run ∷ [] }))
    (sym is) owner (HoldsAfter-three_statements s (result_for content v pass checked run) version numbered name old one two new held) put mark point

-- ---- that the second and the third may be asked for

HasRowWith-same_tree : {tree n : ℕ} (old new : Database) → new.trees tree ≡ old.trees tree → HasRowWith tree n old → HasRowWith tree n new
HasRowWith-same_tree old new same (r, has, id) = (r, subst (λ rows. Has rows r) (sym same) has, id)

module _ (number content : ℕ) (provider : List ℕ) (version : ℕ) (pass : Bool) (run : Option (List ℕ)) (old one : State) (s : Broker) (held : Holds old.now s) (allowed : AllowsResult number content provider version run s)
    (put : PutsRow in_results.tree (result_row number content provider version pass run) old one) where
  first : Frame (codes "results" ∷ []) old.now one.now
  first = ChangesOnly-Frame (codes "results" ∷ []) in_results.tree refl old one held.broker put.0

  HasRowWith-result : HasRowWith in_results.tree number one.now
  HasRowWith-result = (result_row number content provider version pass run, subst (λ rows. Has rows (result_row number content provider version pass run)) (sym put.1.is) (has_right put.1.front _ _ (inl refl)), refl)

  pub AllowsMark-after_put : AllowsMark number one.now
  AllowsMark-after_put = (HasRowWith-result, (λ i. has_row_at int_cmp (whole_at 0) (first.others.1.1.1.1.1.1.1.1.1.1.1.1.1.0 refl i) (pos (allowed.3 i))) ∙ has_row_at-next_unmarked s old.now held)

  pub AllowsPoint-after_mark : (checked : Bool) (two : State) → HaveNumbers (codes "latest" ∷ []) old.now → Marks checked number one two → AllowsPoint content version number two.now
  AllowsPoint-after_mark checked two room marks =
      let second : Frame (codes "checked_results" ∷ []) one.now two.now = ChangesOnly-Frame (codes "checked_results" ∷ []) in_checked_results.tree refl one two (PutsRow-IsBroker _ old one held.broker put) marks.0 in
      let both = Frame-trans (codes "results" ∷ []) (codes "checked_results" ∷ []) old.now one.now two.now first second in (
        HasRowWith-same_tree old.now two.now (both.others.1.1.1.1.1.1.1.0 refl) (HasRowWith-content old.now s held content allowed.4 allowed.5),
        HasRowWith-same_tree old.now two.now (both.others.1.1.1.0 refl) (HasRowWith-version old.now s held allowed.0 version allowed.1),
        HasRowWith-same_tree one.now two.now (second.others.1.1.1.1.1.1.1.1.1.0 refl) HasRowWith-result,
        subst (λ rows. HaveNumbers (codes "latest" ∷ []) (record old.now { trees = λ tree. rows })) (sym (both.others.1.1.1.1.1.1.1.1.1.1.0 refl)) room,
      )
