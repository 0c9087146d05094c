use Rattle.std.{specs.Prelude.{Contains, ◌↔◌}, proofs.Common.{◌≡◌, ◌∙◌, ap, sym, subst, map, Some}}
use Rattle.deploy_tables.{specs.Matrix.{IsOfContent, row_used}, proofs.{MatrixLemmas.{Contains-map_listed}, MatrixLoop.{LooksUpBetween-other_answer}}}
use Rattle.broker_core.specs.{Listing.{Lists}, Machine.{version_cmp}}
use Rattle.deploy_tables.proofs.matrix_rows.of_content.Goals as goal

pub returns-in-Ok-rows_used : goal.returns-in-Ok-rows_used
returns-in-Ok-rows_used g c =
    let v = c.args.version.now in
    let latest = c.args.latest.now in
    let is = c.in-Ok-rows_used.ensures ∙ ap (map (row_used v latest)) c.deref.ensures.value in
    LooksUpBetween-other_answer _ _ _ c.in-Ok-rows_used.rows _ _ (λ s listed x.
    let named = subst (λ p. Lists version_cmp (λ w. s.contracts (w, p) ≡ Some latest.content) c.in-Ok.value.items) c.as_str.ensures listed in
    subst (λ xs. Contains xs x ↔ IsOfContent s v latest x) (sym is) (Contains-map_listed (row_used v latest) _ named x)) c.in-Ok.ensures.answers
