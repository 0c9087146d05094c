use Rattle.std.proofs.Common.{◌≡◌, length}
use Rattle.http_requests.specs.Tokens.{skip_spaces}
use Rattle.http_requests.proofs.tokens.skip_spaces.Given as goal

-- only spaces so far
abbrev pub invariant-loop-first : goal.invariant-loop-first
invariant-loop-first l = skip_spaces l.text ≡ skip_spaces l.rest

abbrev pub decreases-loop-first : goal.decreases-loop-first
decreases-loop-first l = length l.rest
