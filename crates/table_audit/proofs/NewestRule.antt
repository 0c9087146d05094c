-- The rule that no result is newer than the one that is named: a LEFT JOIN shows each result with what is named for its
-- content and its version, or NULL.
use Rattle.std.specs.{List.{flat_map, list_all}, Prelude.{◌↔◌}}
use Rattle.std.proofs.Common.{◌≡◌, ◌⊎◌, ◌∙◌, inl, inr, ℕ, ℤ, pos, List, [], ◌∷◌, filter, Option, Bool, true, refl, sym, ap, subst}
use Rattle.sqlite.specs.{declared.types.Value.TheVariants.{Int, Null}, Edit.{id_in}, Order.{Row, column}, Term.{Term, Env, holds, eval_all}}
use Rattle.sqlite.specs.{Effect.{Database, Answers}, Query.{Query, IsAnswer, Output, output}, Program.{overlay}, Tree.{Trees}}
use Rattle.sqlite_sql.specs.Query.{or_nulls}
use Rattle.sqlite_rules.specs.Lists.{Has}
use Rattle.table_access.{specs.Columns.{whole_at}, proofs.Answered.{IsPermutation-has_each}}
use Rattle.table_access.proofs.{Members.{contains_has, filter_has, has_contains, has_filter, map_has}, Steps.{overlay-nil}}
use Rattle.broker_core.proofs.Judgement.{Contains-from_flat_map}
use Rattle.broker_tables.{specs.{Holds.{IsBroker}, Schema.{in_results, in_latest}}, proofs.TableQuery.{IsShown}}
use Rattle.broker_tables.proofs.{Keyed.{IsAscending-keys_of_table, latest_by_key}, Orders.{by_both-total_int_int}}
use Rattle.broker_tables.proofs.{Placed.{column-whole_numbers, at_results, at_latest}, VersionRows.{IsAscending-one_row, binary-Eq_same_Int}}
use Rattle.contract_tables.proofs.ItemLists.{and-true_test, and-two_tests}
use Rattle.deploy_tables.proofs.LeftRows.{from_left_by, rows-has_env}
use Rattle.table_audit.{specs.{Audit.{IsNamedOrPassed}, Shown.{FindsAmong, IsPassedOrSame, FindsUnder}}, proofs.LinkTexts.{newest_shown, of_pair}}
use Rattle.table_audit.proofs.{RowRules.{rowid-Int}, Tried.{Finds-of_shown}}
use Rattle.table_audit.specs.declared.auditing.TableRule.TheVariants as rule
use Rattle.table_audit.proofs.LinkTexts as asks

-- ---- rows, or the row with NULL if there are none

or_nulls-has : (rows : List Row) (row : Row) → Has (or_nulls rows) row → Has rows row ⊎ (row ≡ [])
or_nulls-has [] row (inl is) = inr is
or_nulls-has [] row (inr none) = absurd none
or_nulls-has (r ∷ rows) row has = inl has

or_nulls-only_rows : (rows : List Row) (one row : Row) → Has rows one → Has (or_nulls rows) row → Has rows row
or_nulls-only_rows [] one row none has = absurd none
or_nulls-only_rows (r ∷ rows) one row some has = has

or_nulls-some : (rows : List Row) → (row : Row) × Has (or_nulls rows) row
or_nulls-some [] = ([], inl refl)
or_nulls-some (r ∷ rows) = (r, inl refl)

-- ---- what the JOIN shows

module _ (db : Database) (t u : ℕ) (ons project : List Term) (rows : List Row)
    (h : Answers db (record { lets = []; body = from_left_by t u ons [] project [] }) [] rows) where
  abbrev q : Query
  q = from_left_by t u ons [] project []

  abbrev all : Trees
  all = overlay db.trees []

  -- the rows of the other table that go with one, or the row with NULL
  abbrev pub beside : Row → List Row
  beside r = or_nulls (filter (λ s. list_all (holds ([] ∷ r ∷ s ∷ [])) ons) (db.trees u))

  abbrev shown_of : Row → List Env
  shown_of r = flat_map (λ s. ([] ∷ r ∷ s ∷ []) ∷ []) (or_nulls (filter (λ s. list_all (holds ([] ∷ r ∷ s ∷ [])) ons) (all u)))

  answer : IsAnswer q all [] rows
  answer = h.answer Null

  -- each row that is shown is one of the table with one beside it
  pub rows-beside : (row : Row) → Has rows row → (r s : Row) × Has (db.trees t) r × Has (beside r) s × (row ≡ eval_all project ([] ∷ r ∷ s ∷ []))
  rows-beside row has =
      let o = map_has (λ (o : Output). o.1) answer.ordered row (subst (λ rs. Has rs row) answer.shown has) in
      let kept = subst (λ os. Has os o.0) answer.distinct (IsPermutation-has_each answer.kept answer.ordered o.0 answer.same o.1) in
      let env = map_has (output q) answer.staged o.0 kept in
      let staged = subst (λ es. Has es env.0) answer.grouped env.1 in
      let of_r = Contains-from_flat_map shown_of (all t) env.0 (has_contains (flat_map shown_of (all t)) env.0 staged) in
      let r = of_r.0 in
      let goes = filter (λ s. list_all (holds ([] ∷ r ∷ s ∷ [])) ons) in
      let of_s = Contains-from_flat_map (λ s. ([] ∷ r ∷ s ∷ []) ∷ []) (or_nulls (goes (all u))) env.0 of_r.2 in
      let is = contains_has (([] ∷ r ∷ of_s.0 ∷ []) ∷ []) env.0 of_s.2 in (
        r,
        of_s.0,
        subst (λ rs. Has rs r) (overlay-nil db.trees t) (contains_has (all t) r of_r.1),
        subst (λ ss. Has (or_nulls (goes ss)) of_s.0) (overlay-nil db.trees u) (contains_has (or_nulls (goes (all u))) of_s.0 of_s.1),
        o.2 ∙ ap (λ (o : Output). o.1) env.2 ∙ ap (eval_all project) {y = [] ∷ r ∷ of_s.0 ∷ []} (elim is [ inl same ↦ same | inr none ↦ absurd none ]),
      )

-- ---- the rule

module _ (db : Database) (broker : IsBroker db) where
  abbrev ResultRow : Row → Type 0
  ResultRow r = Has (db.trees in_results.tree) r

  abbrev LatestRow : Row → Type 0
  LatestRow l = Has (db.trees in_latest.tree) l

  -- a row of `latest` is for the content and the version of a result
  goes_with : (r l : Row) → ResultRow r → LatestRow l → (list_all (holds ([] ∷ r ∷ l ∷ [])) of_pair ≡ true)
      ↔ ((whole_at in_latest.content l ≡ whole_at in_results.content r) × (whole_at in_latest.provider_version l ≡ whole_at in_results.provider_version r))
  goes_with r l hr hl = and-two_tests
      (binary-Eq_same_Int (column l in_latest.content) (column r in_results.content) (whole_at in_latest.content l) (whole_at in_results.content r)
      (column-whole_numbers at_latest db broker in_latest.content refl l hl) (column-whole_numbers at_results db broker in_results.content refl r hr))
      (and-true_test (binary-Eq_same_Int (column l in_latest.provider_version) (column r in_results.provider_version) (whole_at in_latest.provider_version l) (whole_at in_results.provider_version r)
      (column-whole_numbers at_latest db broker in_latest.provider_version refl l hl) (column-whole_numbers at_results db broker in_results.provider_version refl r hr)))

  -- there is one at most
  latest-one_row : (l k : Row) → LatestRow l → LatestRow k → whole_at in_latest.content l ≡ whole_at in_latest.content k
      → whole_at in_latest.provider_version l ≡ whole_at in_latest.provider_version k → l ≡ k
  latest-one_row l k hl hk content version =
      IsAscending-one_row by_both-total_int_int (λ r. (whole_at in_latest.content r, whole_at in_latest.provider_version r)) (db.trees in_latest.tree)
      (IsAscending-keys_of_table latest_by_key db broker) l k hl hk (λ i. (content i, version i))

  pub FindsUnder-newest : (rows : List Row) (found : Option ℤ) → IsShown asks.newest db rows → FindsAmong (λ count. IsPassedOrSame) rows found → FindsUnder rule.Newest db found
  FindsUnder-newest rows found shown = Finds-of_shown rows (db.trees in_results.tree) IsPassedOrSame (IsNamedOrPassed db)
      (λ row has.
      let it = rows-beside db in_results.tree in_latest.tree of_pair newest_shown rows shown row has in
      let r = it.0 in
      let s = it.1 in (
        r,
        it.2,
        ap (whole_at 0) it.4,
        λ obeyed.
            let l = obeyed.0 in
            let goes : Row → Bool = λ s. list_all (holds ([] ∷ r ∷ s ∷ [])) of_pair in
            let one = has_filter goes (db.trees in_latest.tree) l obeyed.1 ((goes_with r l it.2 obeyed.1).1 (obeyed.2, obeyed.3)) in
            let other = filter_has goes (db.trees in_latest.tree) s (or_nulls-only_rows (filter goes (db.trees in_latest.tree)) l s one it.3) in
            let of_s = (goes_with r s it.2 other.0).0 other.1 in
            let same : s ≡ l = latest-one_row s l other.0 obeyed.1 (of_s.0 ∙ sym obeyed.2) (of_s.1 ∙ sym obeyed.3) in
            let numbers = obeyed.4 in
            subst IsPassedOrSame (sym it.4) (
              numbers.0,
              numbers.1,
              rowid-Int at_results db broker r it.2 ∙ ap Int numbers.2,
              column-whole_numbers at_latest db broker in_latest.result refl s other.0 ∙ ap (λ (x : Row). Int (whole_at in_latest.result x)) same ∙ ap Int numbers.3,
              numbers.4,
            ),
      ))
      (λ r hr each.
      let goes : Row → Bool = λ s. list_all (holds ([] ∷ r ∷ s ∷ [])) of_pair in
      let some = or_nulls-some (filter goes (db.trees in_latest.tree)) in
      let s = some.0 in
      let kept = each (eval_all newest_shown ([] ∷ r ∷ s ∷ [])) (rows-has_env db [] in_results.tree in_latest.tree of_pair [] newest_shown [] rows shown r s hr some.1 refl) in
      elim (or_nulls-has (filter goes (db.trees in_latest.tree)) s some.1) [
        | inl has ↦
            let it = filter_has goes (db.trees in_latest.tree) s has in
            let of_s = (goes_with r s hr it.0).0 it.1 in
            (s, it.0, of_s.0, of_s.1, (kept.0, kept.1, ap id_in kept.2, ap id_in kept.3, kept.4))
        | inr null ↦ absurd (let e : Null ≡ Int (pos kept.1) = sym (ap (λ (x : Row). column x in_latest.result) null) ∙ kept.3 in cc)
      ])
      found
