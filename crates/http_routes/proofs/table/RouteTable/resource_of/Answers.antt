use Rattle.std.{specs.Option.{option_map}, proofs.Common.{sym, ap, ◌∙◌}}
use Rattle.matchit.specs.Seek.{first}
use Rattle.http_routes.proofs.TableLemmas.{first-table}
use Rattle.http_routes.proofs.table.RouteTable.resource_of.Goals as goal

pub returns-in-Ok : goal.returns-in-Ok
returns-in-Ok c =
    let path = c.args.path.now in
    sym (ap (option_map (λ r. r.value)) c.in-Ok.ensures.found)
    ∙ ap (λ rows. option_map (λ r. r.value) (first rows path)) c.args.self.now.whole
    ∙ first-table path

pub returns-in-Err : goal.returns-in-Err
returns-in-Err c =
    let path = c.args.path.now in
    sym (ap (option_map (λ r. r.value)) c.in-Err.ensures.missing)
    ∙ ap (λ rows. option_map (λ r. r.value) (first rows path)) c.args.self.now.whole
    ∙ first-table path
