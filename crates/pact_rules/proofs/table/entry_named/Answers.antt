use Rattle.pact_rules.proofs.NameLemmas.{by_name, header_entry-found, header_entry-not_found}
use Rattle.std.proofs.{Common.{sym, rules}, lemmas.Fn.{always_returns_same}}
use Rattle.pact_rules.proofs.table.entry_named.Goals as goal

pub returns-in-Ok : goal.returns-in-Ok
returns-in-Ok c =
    let x = c.index-rules-index.result in
    let equal = c.in-Ok.ensures.position (by_name c.args.name.now) (always_returns_same _ _ _ (λ a r g called. search rules)) x in
    sym (header_entry-found c.args.rules.now c.in-Ok.index x c.args.name.now c.requires c.in-Ok.ensures.bound equal)

pub returns-in-Err : goal.returns-in-Err
returns-in-Err c =
    sym (header_entry-not_found c.args.rules.now c.args.name.now c.in-Err.field-0 c.requires (c.in-Err.ensures.position (by_name c.args.name.now) (always_returns_same _ _ _ (λ a r g called. search rules))))
