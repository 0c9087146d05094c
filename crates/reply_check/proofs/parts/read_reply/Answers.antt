use Rattle.serde_json.specs.View.{view}
use Rattle.reply_check.{specs.{Replies.{ReplyRead}, ReplyParts.{at}, PartsView.{parts_view}}, proofs.ReadLemmas.{parts_at-sound}}
use Rattle.pact_file.specs.declared.fault.Part.TheVariants.{Headers}
use Rattle.std.proofs.{Common.{Ok, Err, refl, sym, ap}, lemmas.Result.{err_from_is_err_and}}
use Rattle.reply_check.proofs.parts.read_reply.Goals as goal

pub returns-in_err-parts : goal.returns-in_err-parts
unfolding ReplyRead
returns-in_err-parts c =
    let p = err_from_is_err_and c.from_residual.result c.from_residual.ensures.1 in
    rw (p.1, p.2) (λ memory. (Err c.in_err-parts.field-0.0, c.in_err-parts.ensures.parts memory, refl))

pub reply_of-requires-clause-states : goal.reply_of-requires-clause-states
reply_of-requires-clause-states c = parts_at-sound c.args.index (view c.args.value) (parts_view c.in_ok-parts.parts) c.requires c.in_ok-parts.ensures.parts

pub returns-in-None : goal.returns-in-None
unfolding ReplyRead
returns-in-None c = λ memory. (Ok (parts_view c.in_ok-parts.parts), c.in_ok-parts.ensures.parts, (Err (at c.args.index Headers), (rw c.in-None.is at c.in_ok-read_headers.ensures, refl), refl))

pub returns-in_ok-reply_of-in-Some : goal.returns-in_ok-reply_of-in-Some
unfolding ReplyRead
returns-in_ok-reply_of-in-Some c =
    (Ok (parts_view c.in_ok-parts.parts), c.in_ok-parts.ensures.parts, (Ok c.in-Some.headers.items, rw c.in-Some.is at c.in_ok-read_headers.ensures, ap Ok (sym c.in_ok-reply_of-in-Some.ensures)))
