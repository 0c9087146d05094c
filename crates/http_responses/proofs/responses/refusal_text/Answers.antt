use Rattle.std.{specs.Fmt.{digits}, proofs.Common.{refl}}
use Rattle.http_responses.proofs.responses.refusal_text.Goals as goal

pub returns-in-BadRequest : goal.returns-in-BadRequest
unfolding digits
returns-in-BadRequest c = rw c.in-BadRequest.is refl

pub returns-in-BodyTooLarge : goal.returns-in-BodyTooLarge
unfolding digits
returns-in-BodyTooLarge c = rw c.in-BodyTooLarge.is refl

pub returns-in-HeadTooLarge : goal.returns-in-HeadTooLarge
unfolding digits
returns-in-HeadTooLarge c = rw c.in-HeadTooLarge.is refl

pub returns-in-NotImplemented : goal.returns-in-NotImplemented
unfolding digits
returns-in-NotImplemented c = rw c.in-NotImplemented.is refl
