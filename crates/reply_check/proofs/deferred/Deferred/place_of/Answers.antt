use Rattle.std.proofs.{Common.{rules, ◌≡◌, ◌∙◌, length, slice_get, refl, ap, arith}, lemmas.Option.{slice_get_read}}
use Rattle.reply_check.{specs.declared.deferred.DeferredTexts.{DeferredTexts}, proofs.DeferredLemmas.{slice_get-push}}
use Rattle.reply_check.proofs.deferred.Deferred.place_of.Goals as goal

pub returns-then-index-clause-place : goal.returns-then-index-clause-place
returns-then-index-clause-place c =
    let groups = c.args.self.now.groups.items in
    (c.index.result.now, slice_get_read groups (length groups) c.loop-place.place c.index.result.now refl (omega (arith, c.loop-place-test.true, c.len-place-end.ensures)) c.index.ensures, c.if-index.true)

pub returns-clause-place : goal.returns-clause-place
returns-clause-place c =
    let groups = c.args.self.now.groups.items in
    let group : DeferredTexts = record { index = c.args.index; entry = c.entry.result; texts = c.new.result } in
    let at_end : c.len-place.result ≡ length groups = search rules in
    (group, ap (slice_get c.push.new.self.items) at_end ∙ ap (λ gs. slice_get gs (length groups)) c.in_ok-push.ensures.items ∙ slice_get-push groups group, refl)
