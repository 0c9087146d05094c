use Rattle.std.proofs.{Common.{Option, None, Some, IfNone, subst}, NetLemmas.Theorems.{IsSocketText_unique}}
use Rattle.program_io.specs.Listening.{IsOfLoopback}
use Rattle.program_io.proofs.loopback.loopback_of.Goals as goal

if_none : {T P Q : Type 0} (o : Option T) → (P → Q) → IfNone o P → IfNone o Q
if_none None f p = f p
if_none (Some x) f p = tt

pub returns-in-Ok-clause-none : goal.returns-in-Ok-clause-none
returns-in-Ok-clause-none c =
    if_none c.if_loopback.result (λ other said. other (subst IsOfLoopback (IsSocketText_unique c.args.listen.now said.0 c.in-Ok.address said.1.0 c.in-Ok.ensures.value) said.1.1))
    c.if_loopback.ensures.none
