use Rattle.std.proofs.lemmas.Result.{err_from_is_err_and}
use Rattle.pact_rules.proofs.{ReadingLemmas.{is_form_fault}, AsReadLemmas.{read_tree}}
use Rattle.pact_trees.specs.Trees.{data_of}
use Rattle.pact_rules.proofs.table.RuleTable.read.Goals as goal

pub returns-in_err-check_members-clause-reading : goal.returns-in_err-check_members-clause-reading
returns-in_err-check_members-clause-reading c =
    let p = err_from_is_err_and c.from_residual.result c.from_residual.ensures.1 in
    rw (p.1, p.2) (λ other. is_form_fault (data_of c.args.tree.now) c.in_err-check_members.field-0.0 c.in_err-check_members.ensures)

pub returns-clause-reading : goal.returns-clause-reading
returns-clause-reading c = read_tree (data_of c.args.tree.now) _ c.read_with.result c.in_ok-value.ensures c.read_with.ensures.reading
