use Rattle.std.proofs.Common.{ap}
use Rattle.http_requests.specs.declared.requests.Request.TheVariants.{Asks}
use Rattle.http_requests.proofs.requests.command_request.Goals as goal

pub returns : goal.returns
returns c = λ h at path query. (
  c.in_ok-command.command,
  c.in_ok-token.token,
  rw (path, query) at c.in_ok-command.ensures,
  rw at.0.fields at (c.in_ok-token.ensures.token _ c.field_of.ensures),
  ap (λ b. Asks c.in_ok-token.token c.in_ok-command.command b) at.1,
)
