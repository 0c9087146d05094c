-- The last of the rows that pass a test, in a table whose numbers rise; and that `latest` has the latest results.
use Rattle.std.specs.{Prelude.{Option, option_map, option_and_then}, List.{last_or}, Ordering.{int_cmp}}
use Rattle.std.proofs.Common.{◌≡◌, ◌==◌, ◌≤◌, inl, inr, ℕ, ℤ, pos, List, [], ◌∷◌, map, filter, length, Bool, true, false, ◌&&◌, cond, Some, None, refl, sym, ap, ◌∙◌, arith}
use Rattle.std.proofs.lemmas.Bool.{false_from_ne_true, and_parts, and_from, eq-eqb, eqb-true}
use Rattle.sqlite.specs.{Order.{Row}, Effect.{Database}}
use Rattle.sqlite_rules.specs.Lists.{Has}
use Rattle.table_access.{specs.{Columns.{whole_at, by_both}, Sound.{whole}}, proofs.{Maps.{find-of_row, find-has_row}, SoundLemmas.{at_has}}}
use Rattle.broker_core.specs.{declared.command.Version.{Version}, Text.{same_version}, State.{Verification, last_row}}
use Rattle.broker_core.proofs.Judgement.{same_version-equal, same_version-refl}
use Rattle.broker_tables.specs.{Schema.{in_results, in_latest}, Rows.{value_at}, Numbers.{number_of}, Holds.{IsBroker}}
use Rattle.broker_tables.proofs.{Orders.{by_both-total_int_int, by_both-exact_int_int}, Keyed.{latest_by_key, IsAscending-keys_of_table}}
use Rattle.broker_tables.proofs.{NumberLemmas.{number_of-injective}, Placed.{Placed-IsNumbered, column-whole_numbers, listed, latest, at_latest, at_results}}
use Rattle.broker_tables.proofs.{References.{references-result}, VersionRows.{option_map-pos_Some}}
use Rattle.table_audit.{specs.Audit.{EachOf, IsNumberOf, IsAudited}, proofs.Counted.{number_in, Rises, Rises-of_numbers, map-number_in, whole_at-number_in}}
use Rattle.table_audit.proofs.StateRows.{versions_in, verification_in, whole_at-content, number_of-verification}
use Rattle.table_audit.specs.declared.auditing.TableRule.TheVariants as rule

-- ---- the last row that passes

module _ {X : Type 0} (test : X → Bool) (f : Row → X) where
  -- what rows have that pass the test, each with its number
  abbrev passing : List Row → List (ℕ × X)
  passing rows = filter (λ e. test e.1) (map (λ r. (number_in r, f r)) rows)

  -- if none passes, there is none
  passing-none : (rows : List Row) → EachOf rows (λ r. test (f r) ≡ false) → passing rows ≡ []
  passing-none [] each = refl
  passing-none (r ∷ rows) each = ap (λ b. cond b ((number_in r, f r) ∷ passing rows) (passing rows)) (each r (inl refl)) ∙ passing-none rows (λ x has. each x (inr has))

  -- a row that passes is the last, if none that passes has a greater number
  passing-last : (o : Option (ℕ × X)) (rows : List Row) (x : Row) → Rises rows → Has rows x → test (f x) ≡ true → EachOf rows (λ y. test (f y) ≡ true → number_in y ≤ number_in x)
      → last_or o (passing rows) ≡ Some (number_in x, f x)
  passing-last o [] x up has passes newest = absurd has
  passing-last o (r ∷ rows) x up (inl same) passes newest =
      let none = passing-none rows (λ y has. false_from_ne_true (test (f y)) (λ t. absurd (omega (arith, newest y (inr has) t, at_has _ rows y up.0 has, ap number_in same)))) in
      ap (λ b. last_or o (cond b ((number_in r, f r) ∷ passing rows) (passing rows))) (ap (λ y. test (f y)) (sym same) ∙ passes)
      ∙ ap (last_or (Some (number_in r, f r))) none ∙ ap (λ y. Some (number_in y, f y)) (sym same)
  passing-last o (r ∷ rows) x up (inr later) passes newest =
      elim (test (f r)) as (λ b. last_or o (cond b ((number_in r, f r) ∷ passing rows) (passing rows)) ≡ Some (number_in x, f x)) [
        | true ↦ passing-last (Some (number_in r, f r)) rows x up.1 later passes (λ y has. newest y (inr has))
        | false ↦ passing-last o rows x up.1 later passes (λ y has. newest y (inr has))
      ]

-- ---- the latest results

-- the content and the version of a row of `latest`, by their numbers
abbrev key : Row → ℤ × ℤ
key r = (whole_at in_latest.content r, whole_at in_latest.provider_version r)

module _ (db : Database) (broker : IsBroker db) (audited : IsAudited db) (content : ℕ) (v : Version) where
  -- whether a result is for the content, of the version
  abbrev is_for : Verification → Bool
  is_for r = r.content == content && same_version r.version v

  -- the rows of the results
  abbrev rows : List Row
  rows = db.trees in_results.tree

  -- their numbers go up to how many there are
  IsNumberOf-results : EachOf rows (IsNumberOf (length rows))
  IsNumberOf-results r has = (audited.each rule.Result r has).0

  -- if it is, its row has the number of the content, and that of the version
  is_for-sound : (r : Row) → Has rows r → is_for (verification_in db r) ≡ true
      → (whole_at in_results.content r ≡ pos content) × (option_map pos (number_of (versions_in db) v) ≡ Some (whole_at in_results.provider_version r))
  is_for-sound r has t =
      let both = and_parts _ _ t in (
        whole_at-content db broker audited r has ∙ ap pos (eqb-true (verification_in db r).content content both.0),
        ap (λ w. option_map pos (number_of (versions_in db) w)) (sym (same_version-equal (verification_in db r).version v both.1)) ∙ number_of-verification db broker audited r has,
      )

  -- and if its row has them, it is
  is_for-complete : (n : ℕ) → number_of (versions_in db) v ≡ Some n → (r : Row) → Has rows r → whole_at in_results.content r ≡ pos content → whole_at in_results.provider_version r ≡ pos n → is_for (verification_in db r) ≡ true
  is_for-complete n known r has same numbered =
      let found = option_map-pos_Some (whole_at in_results.provider_version r) (number_of (versions_in db) (verification_in db r).version) (sym (number_of-verification db broker audited r has)) in
      let nats : pos found.0 ≡ pos n = sym found.2 ∙ numbered in
      let both : found.0 ≡ n = cc in
      let is : (verification_in db r).version ≡ v = number_of-injective (versions_in db) (verification_in db r).version v n (found.1 ∙ ap Some both) known in
      and_from _ _ (eq-eqb (verification_in db r).content content (ap whole same)) (ap (λ w. same_version w v) is ∙ same_version-refl v)

  -- no result is the latest one, if none is for them
  last_row-none : EachOf rows (λ r. is_for (verification_in db r) ≡ false) → last_row is_for (map (verification_in db) rows) ≡ None
  last_row-none each =
      ap (λ es. last_or None (filter (λ e. is_for e.1) es)) (sym (map-number_in rows (Placed-IsNumbered at_results db broker) IsNumberOf-results (verification_in db)))
      ∙ ap (last_or None) (passing-none is_for (verification_in db) rows each)

  -- a result for them is, if none for them has a greater number
  last_row-newest : (x : Row) → Has rows x → is_for (verification_in db x) ≡ true → EachOf rows (λ y. is_for (verification_in db y) ≡ true → number_in y ≤ number_in x)
      → last_row is_for (map (verification_in db) rows) ≡ Some (number_in x, verification_in db x)
  last_row-newest x has passes newest =
      ap (λ es. last_or None (filter (λ e. is_for e.1) es)) (sym (map-number_in rows (Placed-IsNumbered at_results db broker) IsNumberOf-results (verification_in db)))
      ∙ passing-last is_for (verification_in db) None rows x (Rises-of_numbers rows (Placed-IsNumbered at_results db broker) IsNumberOf-results) has passes newest

  -- what `latest` has for the content and the version of this number
  abbrev number_pointed : ℕ → Option ℤ
  number_pointed n = value_at (by_both int_cmp int_cmp) key (whole_at in_latest.result) (db.trees in_latest.tree) (pos content, pos n)

  module _ (n : ℕ) (known : number_of (versions_in db) v ≡ Some n) where
    -- if a result is for them, it has a number that isn't greater
    number_pointed-newest : (r : Row) → Has rows r → is_for (verification_in db r) ≡ true → (z : ℤ) × (number_pointed n ≡ Some z) × (number_in r ≤ whole z)
    number_pointed-newest r has t =
        let both = is_for-sound r has t in
        let some : Some (pos n) ≡ Some (whole_at in_results.provider_version r) = ap (option_map pos) (sym known) ∙ both.1 in
        let numbered : whole_at in_results.provider_version r ≡ pos n = cc in
        let it = audited.each rule.Newest r has in
        let found = find-of_row by_both-total_int_int by_both-exact_int_int key (whole_at in_latest.result) (db.trees in_latest.tree) it.0 (IsAscending-keys_of_table latest_by_key db broker) it.1 in (
          whole_at in_latest.result it.0,
          sym (λ i. value_at (by_both int_cmp int_cmp) key (whole_at in_latest.result) (db.trees in_latest.tree) ((it.2 ∙ both.0) i, (it.3 ∙ numbered) i)) ∙ found,
          omega (arith, ap whole it.4.2, ap whole it.4.3, it.4.4),
        )

    -- the result of the number that it has is for them
    number_pointed-own : (z : ℤ) → number_pointed n ≡ Some z → (x : Row) × Has rows x × (whole_at in_results.number x ≡ z) × (is_for (verification_in db x) ≡ true)
    number_pointed-own z is =
        let l = find-has_row by_both-total_int_int by_both-exact_int_int key (whole_at in_latest.result) (pos content, pos n) z (db.trees in_latest.tree) is in
        let x = references-result db broker latest (listed at_latest db broker) in_latest.result (inr (inr (inl refl))) l.0 l.1 (column-whole_numbers at_latest db broker in_latest.result refl l.0 l.1) in
        let own = audited.each rule.Named l.0 l.1 x.0 x.1 x.2 in
        (x.0, x.1, x.2 ∙ l.3, is_for-complete n known x.0 x.1 (own.0 ∙ sym (ap (λ (k : ℤ × ℤ). k.0) l.2)) (own.1 ∙ sym (ap (λ (k : ℤ × ℤ). k.1) l.2)))

    -- so it has the number of the latest one, if there is one
    number_pointed-last : (o : Option ℤ) → number_pointed n ≡ o → o ≡ option_map (λ e. pos e.0) (last_row is_for (map (verification_in db) rows))
    number_pointed-last None is =
        sym (ap (option_map (λ (e : ℕ × Verification). pos e.0)) (last_row-none (λ r has. false_from_ne_true (is_for (verification_in db r)) (λ t. absurd (let it = number_pointed-newest r has t in let clash : None ≡ Some it.0 = sym is ∙ it.1 in cc)))))
    number_pointed-last (Some z) is =
        let x = number_pointed-own z is in
        let last = last_row-newest x.0 x.1 x.3 (λ y has t.
        let it = number_pointed-newest y has t in
        let same : Some it.0 ≡ Some z = sym it.1 ∙ is in
        let one : it.0 ≡ z = cc in
        omega (arith, it.2, ap whole one, ap whole x.2)) in
        ap Some (sym x.2 ∙ whole_at-number_in rows (Placed-IsNumbered at_results db broker) IsNumberOf-results x.0 x.1) ∙ sym (ap (option_map (λ (e : ℕ × Verification). pos e.0)) last)

  -- `latest` has the number of the latest result
  pub latest_result-of_rules : option_and_then number_pointed (number_of (versions_in db) v) ≡ option_map (λ e. pos e.0) (last_row is_for (map (verification_in db) rows))
  latest_result-of_rules = go (number_of (versions_in db) v) refl
    where
      go : (o : Option ℕ) → number_of (versions_in db) v ≡ o → option_and_then number_pointed o ≡ option_map (λ e. pos e.0) (last_row is_for (map (verification_in db) rows))
      go None e =
          sym (ap (option_map (λ (e : ℕ × Verification). pos e.0)) (last_row-none (λ r has. false_from_ne_true (is_for (verification_in db r)) (λ t.
          absurd (let clash : None ≡ Some (whole_at in_results.provider_version r) = ap (option_map pos) (sym e) ∙ (is_for-sound r has t).1 in cc)))))
      go (Some n) e = number_pointed-last n e (number_pointed n) refl
