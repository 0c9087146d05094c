use Rattle.std.proofs.{Common.{Err, ◌∙◌, decimal}, lemmas.Result.{err_from_is_err_and}}
use Rattle.program_io.proofs.ResultLemmas.{IsLineOut-after_begun, line_after}
use Rattle.program_io.proofs.report.put_parts.Goals as goal

pub returns-in_err-write_whole-in-Numbered-2 : goal.returns-in_err-write_whole-in-Numbered-2
returns-in_err-write_whole-in-Numbered-2 g c =
    let n = c.in-Numbered in
    let p = err_from_is_err_and c.from_residual-in_err-write_whole-in-Numbered-2.result c.from_residual-in_err-write_whole-in-Numbered-2.ensures.1 in
    rw (p.1, n.is)
    (IsLineOut-after_begun p.0 _ _ _ n.front.now (decimal n.number) _ (rw c.as_bytes.ensures.value at c.in_ok-write_whole-in-Numbered.ensures.ok)
    (rw (c.as_bytes-in-Numbered.ensures.value ∙ c.format.ensures.text) at c.in_err-write_whole-in-Numbered-2.ensures.err))

pub returns-in_err-write_whole-in-Numbered-3 : goal.returns-in_err-write_whole-in-Numbered-3
returns-in_err-write_whole-in-Numbered-3 g c =
    let n = c.in-Numbered in
    let p = err_from_is_err_and c.from_residual-in_err-write_whole-in-Numbered-3.result c.from_residual-in_err-write_whole-in-Numbered-3.ensures.1 in
    rw (p.1, n.is)
    (line_after (Err p.0) _ _ _ n.front.now _ (rw c.as_bytes.ensures.value at c.in_ok-write_whole-in-Numbered.ensures.ok)
    (IsLineOut-after_begun p.0 _ _ _ (decimal n.number) n.following.now _
    (rw (c.as_bytes-in-Numbered.ensures.value ∙ c.format.ensures.text) at c.in_ok-write_whole-in-Numbered-2.ensures.ok)
    (rw c.as_bytes-in-Numbered-2.ensures.value at c.in_err-write_whole-in-Numbered-3.ensures.err)))
