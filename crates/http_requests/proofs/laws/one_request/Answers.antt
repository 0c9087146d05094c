use Rattle.http_requests.proofs.OneRequest.{IsRequest-unique}
use Rattle.http_requests.proofs.laws.one_request.Goals as goal

pub returns : goal.returns
returns c = IsRequest-unique
