use Rattle.std.proofs.Common.{sym, subst, arith}
use Rattle.pact_rules.{specs.Gathered.{Splits}, proofs.PartLemmas.{begins-list_any_before, begins-list_any_none}}
use Rattle.pact_rules.proofs.parts.begins_before.Goals as goal

pub returns-then-place-eq0 : goal.returns-then-place-eq0
returns-then-place-eq0 c =
    sym (begins-list_any_none c.args.parts.now c.args.rest.now c.requires.apart (subst (λ n. Splits c.args.parts.now c.args.rest.now n) (omega (arith, c.if-place-eq0.true)) c.requires.split))

pub returns : goal.returns
returns c =
    begins-list_any_before c.args.parts.now c.args.rest.now c.args.place c.index-parts-place.result c.begins_with.result c.requires.apart c.requires.split c.requires.within
    (omega (arith, c.if-place-eq0.false)) c.index-parts-place.is c.begins_with.ensures
