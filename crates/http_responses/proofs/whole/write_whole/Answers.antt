use Rattle.std.{specs.Io.KnownBytes.{Appends}, proofs.{Common.{take, drop, length-drop, subst, sym, arith}, KnownBytes.{Appends-trans}, Math.Seq.{take-add}}}
use Rattle.std.proofs.lemmas.List.{take_rest}
use Rattle.http_responses.proofs.whole.write_whole.Goals as goal

pub loop-done-preserved : goal.loop-done-preserved
loop-done-preserved g c =
    let all = c.args.bytes.now in
    let done = c.loop-done.done in
    let count = c.in-Ok.count in
    record {
      within = omega (arith, c.in-Ok.ensures.count.1, rw (take_rest all done) at c.in-Ok.ensures.count.1, length-drop done all);
      out = subst (Appends _ _) (sym (take-add done count all))
          (Appends-trans _ _ _ (take done all) (take count (drop done all)) c.loop-done.invariant.out (rw (take_rest all done) at c.in-Ok.ensures.ok));
    }
