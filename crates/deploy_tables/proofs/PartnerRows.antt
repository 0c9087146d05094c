-- The versions of a provider that are in an environment, by their numbers: rows of deployed and of released.
use Rattle.std.specs.Prelude.{◌↔◌, filter_map, if◌then◌else◌}
use Rattle.std.proofs.Common.{◌≡◌, ◌∙◌, inl, inr, ℕ, pos, codes, List, [], ◌∷◌, ◌++◌, Some, None, true, refl, sym, ap, subst}
use Rattle.sqlite_rules.specs.Lists.{Has}
use Rattle.sqlite_tied.specs.Compute.{everything}
use Rattle.table_access.{specs.{Columns.{text}, Statements.{from_table, keeps}, Reading.{AreRead}}, proofs.Keys.{is_param}}
use Rattle.broker_tables.{specs.{Schema.{in_deployed}, Numbers.{number_of}, Holds.{Holds}}, proofs.TableQuery.{TableQuery, IsShown}}
use Rattle.broker_tables.proofs.VersionRows.{binary-Eq_same_Text}
use Rattle.contract_tables.{specs.declared.listings.NumberedName.{NumberedName}, proofs.ItemLists.{and-two_tests, and-true_test}}
use Rattle.deploy_tables.specs.{ContractsThere.{IsDeployedIn}, Partners.{ArePartners, AreReleasedNumbers, AreNumbered, number_if}}
use Rattle.deploy_tables.proofs.{DeployedRows.{environments, pacticipants}, VersionRows.{pos-injective, rows_returned}}
use Rattle.deploy_tables.proofs.{DeployedState.{deployed-of_row, deployed-has_row}, ReleasedRows.{IsReleasedIn-has_number}}
use Rattle.deploy_tables.proofs.MatrixLoop.{iff-trans, Contains-append}
use Rattle.sqlite.specs.{Edit.{id_in}, declared.types.Value.TheVariants.{Int, Text}, Order.{Row, column}, Term.{Term, col}, Effect.{Database}}
use Rattle.sqlite.specs.Listing.{understood}
use Rattle.broker_core.specs.{Text.{Text as Words, same_text, version}, State.{State as Broker}, Gate.{IsPresent}}
use Rattle.broker_core.proofs.{Lists.{Some-injective, Contains-from_filter_map, Contains-filter_map}, Judgement.{same_text-equal, same_text-refl, cond-some}}

abbrev by_owner : List Term
by_owner = is_param 1 0 ∷ is_param 2 1 ∷ []

abbrev number_project : List Term
number_project = col 1 in_deployed.version_number ∷ []

pub numbers_of : (e p : Words)
    → TableQuery (codes "SELECT version_number FROM deployed WHERE environment = ?1 AND pacticipant = ?2") (Text e ∷ Text p ∷ []) (from_table in_deployed.tree by_owner number_project [])
unfolding understood everything
numbers_of e p = record { names = _; means = record { is = refl; plain = (refl, refl); unlisted = refl }; runs = record { whole = refl; typed = refl; sumless = refl } }

module _ (db : Database) (s : Broker) (held : Holds db s) (e p : Words) where
  abbrev params : Row
  params = Text e ∷ Text p ∷ []

  keeps-by_owner : (r : Row) → Has (db.trees in_deployed.tree) r
      → (keeps by_owner params r ≡ true) ↔ ((text in_deployed.environment r ≡ e) × (text in_deployed.pacticipant r ≡ p))
  keeps-by_owner r has =
      and-two_tests (binary-Eq_same_Text (column r in_deployed.environment) (Text e) (text in_deployed.environment r) e (environments db held.broker r has) refl)
      (and-true_test (binary-Eq_same_Text (column r in_deployed.pacticipant) (Text p) (text in_deployed.pacticipant r) p (pacticipants db held.broker r has) refl))

  pub ArePartners-deployed : (rows : List Row) (items : List ℕ) → IsShown (numbers_of e p) db rows → AreRead (λ row n. column row 0 ≡ Int (pos n)) rows items → ArePartners s p (IsDeployedIn s e) items
  ArePartners-deployed rows items h read = rows_returned db params by_owner number_project (λ row n. column row 0 ≡ Int (pos n)) rows items read in_deployed.tree h
      (λ n. (name : Words) × IsDeployedIn s e (version p name) × (number_of s.versions (version p name) ≡ Some n))
      (λ r n has kept shown.
      let at = (keeps-by_owner r has).0 kept in
      let it = deployed-of_row db s held e r has at.0 in
      subst (λ q. (name : Words) × IsDeployedIn s e (version q name) × (number_of s.versions (version q name) ≡ Some n)) at.1
      (it.0, (text in_deployed.instance r, it.1), it.2.1 ∙ ap Some (pos-injective it.2.0 n (sym it.2.2 ∙ ap id_in shown))))
      (λ n there.
      let it = deployed-has_row db s held e p there.1.0 there.0 there.1.1 in
      let r = it.2 in
      (r.0, r.1, (keeps-by_owner r.0 r.1).1 (r.2, r.3), λ y shown. pos-injective y n (sym (ap id_in shown) ∙ r.5 ∙ ap pos (Some-injective it.0 n (sym it.1 ∙ there.2)))))

-- each version that is there has a number
pub Holds-AreNumbered : (db : Database) (s : Broker) → Holds db s → (e : Words) → AreNumbered s e
Holds-AreNumbered db s held e w (inl there) = let it = deployed-has_row db s held e w.pacticipant there.0 w.name there.1 in (it.0, it.1)
Holds-AreNumbered db s held e w (inr there) = IsReleasedIn-has_number db s held e w there

-- what is deployed and what is released of the provider is what is there
pub ArePartners-append : (s : Broker) (e p : Words) (deployed : List ℕ) (released : List NumberedName) → ArePartners s p (IsDeployedIn s e) deployed → AreReleasedNumbers s e released
    → ArePartners s p (IsPresent s e) (deployed ++ filter_map (number_if p) released)
ArePartners-append s e p deployed released are_deployed are_released n = iff-trans
    (Contains-append deployed (filter_map (number_if p) released) (deployed ++ filter_map (number_if p) released) refl n (are_deployed n) (λ c. c, λ c. c)) (
      λ found. elim found [
        | inl one ↦ (one.0, inl one.1, one.2)
        | inr two ↦
            let x = Contains-from_filter_map (number_if p) released n two in
            let of = cond-some (same_text x.0.name p) x.0.number n x.2 in
            let it = (are_released x.0).0 x.1 in
            subst (λ q. (name : Words) × IsPresent s e (version q name) × (number_of s.versions (version q name) ≡ Some n)) (same_text-equal _ _ of.0)
            (it.0, inr it.1, it.2 ∙ ap Some of.1)
      ],
      λ is. elim is.1 [
        | inl there ↦ inl (is.0, there, is.2)
        | inr there ↦
            let x : NumberedName = record { number = n; name = p } in
            inr (Contains-filter_map (number_if p) released x n ((are_released x).1 (is.0, there, is.2)) (ap (λ b. if b then Some n else None) (same_text-refl p)))
      ],
    )
