use Rattle.regex.specs.{Patterns.{Reads}, Names.{names_of}}
use Rattle.pact_patterns.proofs.built.too_much.Goals as goal

pub returns : goal.returns
unfolding Reads
returns c =
    let r = c.args.regex.now in
    (r.pattern.program.hir, names_of r.pattern.names.items, rw c.requires.0 at c.requires.1)
