use Rattle.std.proofs.Common.{◌≡◌, length}
use Rattle.http_messages.specs.Options.{has_close}
use Rattle.http_messages.proofs.options.has_close.Given as goal

-- no option so far is close
abbrev pub invariant-loop-comma : goal.invariant-loop-comma
invariant-loop-comma l = has_close l.value ≡ has_close l.rest

abbrev pub decreases-loop-comma : goal.decreases-loop-comma
decreases-loop-comma l = length l.rest
