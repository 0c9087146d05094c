use Rattle.serde_json.specs.View.{view}
use Rattle.reply_check.{specs.Replies.{RepliesRead}, proofs.ReadLemmas.{file_of-sound, file_of-IsSomeText, RepliesRead-of_file}}
use Rattle.std.proofs.{Common.{Err, refl}, lemmas.Result.{err_from_is_err_and}}
use Rattle.reply_check.proofs.read.read_replies.Goals as goal

pub returns-in_err-file-clause-reading : goal.returns-in_err-file-clause-reading
unfolding RepliesRead
returns-in_err-file-clause-reading c =
    let p = err_from_is_err_and c.from_residual.result c.from_residual.ensures.1 in
    rw (p.1, p.2) (λ memory. (Err c.in_err-file.field-0.0, c.in_err-file.ensures.value memory, refl))

pub replies_of-requires : goal.replies_of-requires
replies_of-requires c = file_of-sound c.args.bytes.now (view c.in_ok-file.file) c.in_ok-file.ensures.value

pub returns-clause-reading : goal.returns-clause-reading
returns-clause-reading c = RepliesRead-of_file c.args.bytes.now (view c.in_ok-file.file) c.replies_of.result c.in_ok-file.ensures.value c.replies_of.ensures.reading

pub returns-clause-memory : goal.returns-clause-memory
returns-clause-memory c = λ memory. file_of-IsSomeText c.args.bytes.now (view c.in_ok-file.file) c.in_ok-file.ensures.value
