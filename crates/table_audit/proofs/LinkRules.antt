-- Rules about a row and the one of another table that it names: what is shown of the two keeps the rule if and only if
-- the row obeys it.
use Rattle.std.{specs.Prelude.{◌↔◌, IsUtf8}, proofs.Common.{◌≡◌, ◌∙◌, inl, inr, ℕ, ℤ, List, [], ◌∷◌, Option, true, refl, sym, ap, subst, arith}}
use Rattle.sqlite.specs.{declared.types.Value.TheVariants.{Int, Text as SqlText}, Edit.{id_in}, Order.{Row, column}, Term.{Term, eval_all}, Effect.{Database}}
use Rattle.sqlite_rules.specs.Lists.{Has}
use Rattle.table_access.specs.{Columns.{text, whole_at}, Reading.{IsTextAt}, Sound.{text_in}, Statements.{from_both, keeps_both}}
use Rattle.table_access.proofs.Members.{pairs-complete, pairs-sound}
use Rattle.broker_tables.{specs.{Holds.{IsBroker}, Schema.{to, in_versions, in_results, in_latest, in_deployed}}, proofs.TableQuery.{TableQuery, IsShown}}
use Rattle.broker_tables.proofs.{References.{references-version}, VersionRows.{binary-Eq_same_Int}}
use Rattle.broker_tables.proofs.Placed.{listed, column-texts, column-whole_numbers, at_versions, at_results, at_latest, at_deployed}
use Rattle.contract_tables.proofs.{ItemLists.{and-true_test}, JoinRows.{rows-of_kept_pair, pair_shown}}
use Rattle.deploy_tables.proofs.VersionRows.{on_number}
use Rattle.table_audit.specs.{Audit.{IsOfPacticipant, NamesItsOwn}, Shown.{FindsAmong, HoldsSame, FindsUnder}}
use Rattle.table_audit.proofs.{LinkTexts.{providers_shown, named_shown, deployed_shown}, RowRules.{IsTextAt-shown, rowid-Int}, Tried.{Finds, Finds-of_shown}}
use Rattle.broker_tables.proofs.Placed as placed
use Rattle.table_audit.specs.declared.auditing.TableRule.TheVariants as rule
use Rattle.table_audit.proofs.LinkTexts as asks

-- ---- two columns

module _ (row : Row) (one other : ℕ) where
  HoldsSame-texts : (a b : List ℕ) → column row one ≡ SqlText a → column row other ≡ SqlText b → HoldsSame one other row ↔ (b ≡ a)
  HoldsSame-texts a b here there = (
    λ h. elim h [
      | inl ints ↦ absurd (let e : SqlText a ≡ Int ints.0 = sym here ∙ ints.1 in cc)
      | inr texts ↦ sym (ap text_in (sym texts.2 ∙ there)) ∙ ap text_in (sym texts.1 ∙ here)
    ],
    λ same. inr (a, here, there ∙ ap SqlText same),
  )

  HoldsSame-numbers : (a b : ℤ) → column row one ≡ Int a → column row other ≡ Int b → HoldsSame one other row ↔ (b ≡ a)
  HoldsSame-numbers a b here there = (
    λ h. elim h [
      | inl ints ↦ sym (ap id_in (sym ints.2 ∙ there)) ∙ ap id_in (sym ints.1 ∙ here)
      | inr texts ↦ absurd (let e : Int a ≡ SqlText texts.0 = sym here ∙ texts.1 in cc)
    ],
    λ same. inl (a, here, there ∙ ap Int same),
  )

-- ---- a row beside the one whose number it has

module _ {sql : List ℕ} {t u p : ℕ} {project : List Term} (asked : TableQuery sql [] (from_both t u (on_number p ∷ []) project [])) (db : Database) (rows : List Row) (shown : IsShown asked db rows)
    (numbered : (v : Row) → Has (db.trees u) v → column v 0 ≡ Int (whole_at 0 v)) (typed : (r : Row) → Has (db.trees t) r → column r p ≡ Int (whole_at p r)) where
  abbrev pub pair : Row → Row → Row
  pair r v = eval_all project ([] ∷ r ∷ v ∷ [])

  goes_with : (r v : Row) → Has (db.trees t) r → Has (db.trees u) v → (keeps_both (on_number p ∷ []) [] r v ≡ true) ↔ (whole_at 0 v ≡ whole_at p r)
  goes_with r v hr hv = and-true_test (binary-Eq_same_Int (column v 0) (column r p) (whole_at 0 v) (whole_at p r) (numbered v hv) (typed r hr))

  -- If each pair that is shown keeps the rule, the first of them obeys it, and a pair keeps it if the first obeys it.
  pub Finds-of_pairs : (Kept Obeys : Row → Type 0) → ((r v : Row) → whole_at 0 (pair r v) ≡ whole_at 0 r)
      → ((r v : Row) → Has (db.trees t) r → Has (db.trees u) v → whole_at 0 v ≡ whole_at p r → Obeys r → Kept (pair r v))
      → ((r : Row) → Has (db.trees t) r → ((v : Row) → Has (db.trees u) v → whole_at 0 v ≡ whole_at p r → Kept (pair r v)) → Obeys r)
      → (found : Option ℤ) → Finds rows Kept found → Finds (db.trees t) Obeys found
  Finds-of_pairs Kept Obeys number from to = Finds-of_shown rows (db.trees t) Kept Obeys
      (λ row has.
      let q = rows-of_kept_pair db [] t u (on_number p ∷ []) project [] rows shown row has in
      let it = pairs-sound (keeps_both (on_number p ∷ []) []) (db.trees u) (db.trees t) q.0 q.1 in
      (q.0.0, it.0, ap (whole_at 0) q.2 ∙ number q.0.0 q.0.1, λ obeyed. subst Kept (sym q.2) (from q.0.0 q.0.1 it.0 it.1 ((goes_with q.0.0 q.0.1 it.0 it.1).0 it.2) obeyed)))
      (λ r has each. to r has (λ v hv same. each (pair r v)
      (pair_shown db [] t u (on_number p ∷ []) project [] rows shown (r, v) (pairs-complete (keeps_both (on_number p ∷ []) []) (db.trees u) (db.trees t) r v has hv ((goes_with r v has hv).1 same)))))

-- ---- the rules

module _ (db : Database) (broker : IsBroker db) (rows : List Row) (found : Option ℤ) where
  pub FindsUnder-providers : IsShown asks.providers db rows → FindsAmong (λ count. HoldsSame 1 2) rows found → FindsUnder rule.Provider db found
  FindsUnder-providers shown =
      let texts = λ (r v : Row) (hr : Has (db.trees in_results.tree) r) (hv : Has (db.trees in_versions.tree) v).
      HoldsSame-texts (eval_all providers_shown ([] ∷ r ∷ v ∷ [])) 1 2 (text in_results.provider r) (text in_versions.pacticipant v)
      (column-texts at_results db broker in_results.provider refl r hr) (column-texts at_versions db broker in_versions.pacticipant refl v hv) in
      Finds-of_pairs asks.providers db rows shown (rowid-Int at_versions db broker) (column-whole_numbers at_results db broker in_results.provider_version refl)
      (HoldsSame 1 2) (IsOfPacticipant db in_results.provider_version in_results.provider) (λ r v. refl)
      (λ r v hr hv same obeyed. (texts r v hr hv).1 (obeyed v hv same))
      (λ r hr each v hv same. (texts r v hr hv).0 (each v hv same))
      found

  pub FindsUnder-named : IsShown asks.named db rows → FindsAmong (λ count row. HoldsSame 1 2 row × HoldsSame 3 4 row) rows found → FindsUnder rule.Named db found
  FindsUnder-named shown =
      let contents = λ (l r : Row) (hl : Has (db.trees in_latest.tree) l) (hr : Has (db.trees in_results.tree) r).
      HoldsSame-numbers (eval_all named_shown ([] ∷ l ∷ r ∷ [])) 1 2 (whole_at in_latest.content l) (whole_at in_results.content r)
      (column-whole_numbers at_latest db broker in_latest.content refl l hl) (column-whole_numbers at_results db broker in_results.content refl r hr) in
      let versions = λ (l r : Row) (hl : Has (db.trees in_latest.tree) l) (hr : Has (db.trees in_results.tree) r).
      HoldsSame-numbers (eval_all named_shown ([] ∷ l ∷ r ∷ [])) 3 4 (whole_at in_latest.provider_version l) (whole_at in_results.provider_version r)
      (column-whole_numbers at_latest db broker in_latest.provider_version refl l hl) (column-whole_numbers at_results db broker in_results.provider_version refl r hr) in
      Finds-of_pairs asks.named db rows shown (rowid-Int at_results db broker) (column-whole_numbers at_latest db broker in_latest.result refl)
      (λ row. HoldsSame 1 2 row × HoldsSame 3 4 row) (NamesItsOwn db) (λ l r. refl)
      (λ l r hl hr same obeyed. let it = obeyed r hr same in ((contents l r hl hr).1 it.0, (versions l r hl hr).1 it.1))
      (λ l hl each r hr same. let it = each r hr same in ((contents l r hl hr).0 it.0, (versions l r hl hr).0 it.1))
      found

  pub FindsUnder-deployed : IsShown asks.deployed db rows → FindsAmong (λ count row. HoldsSame 1 2 row × IsTextAt 3 row) rows found → FindsUnder rule.Deployed db found
  FindsUnder-deployed shown =
      let texts = λ (d v : Row) (hd : Has (db.trees in_deployed.tree) d) (hv : Has (db.trees in_versions.tree) v).
      HoldsSame-texts (eval_all deployed_shown ([] ∷ d ∷ v ∷ [])) 1 2 (text in_deployed.pacticipant d) (text in_versions.pacticipant v)
      (column-texts at_deployed db broker in_deployed.pacticipant refl d hd) (column-texts at_versions db broker in_versions.pacticipant refl v hv) in
      let instance = λ (d v : Row) (hd : Has (db.trees in_deployed.tree) d).
      IsTextAt-shown (eval_all deployed_shown ([] ∷ d ∷ v ∷ [])) 3 (text in_deployed.instance d) (omega arith) (column-texts at_deployed db broker in_deployed.instance refl d hd) in
      let typed = column-whole_numbers at_deployed db broker in_deployed.version_number refl in
      Finds-of_pairs asks.deployed db rows shown (rowid-Int at_versions db broker) typed
      (λ row. HoldsSame 1 2 row × IsTextAt 3 row) (λ d. IsOfPacticipant db in_deployed.version_number in_deployed.pacticipant d × IsUtf8 (text in_deployed.instance d)) (λ d v. refl)
      (λ d v hd hv same obeyed. ((texts d v hd hv).1 (obeyed.0 v hv same), (instance d v hd).1 obeyed.1))
      (λ d hd each.
      let v = references-version db broker placed.deployed (listed at_deployed db broker) in_deployed.version_number (inr (inr (inl refl))) d hd (typed d hd) in
      (λ w hw same. (texts d w hd hw).0 (each w hw same).0, (instance d v.0 hd).0 (each v.0 v.1 v.2).1))
      found
