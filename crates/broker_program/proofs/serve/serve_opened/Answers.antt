use Rattle.std.proofs.Common.{◌≡◌, ◌<◌, false, length, sym, subst, inl, inr, arith, rules, IfSome}
use Rattle.sqlite.specs.WalFiles.{image_at}
use Rattle.broker_program.specs.Reopening.{ServesOn}
use Rattle.broker_program.proofs.ServingLemmas.{ServesOver-closed, ServesNext-counts, ServesNext-fewer_coming, ServesMore-next, ServesMore-none, StaysUnclosed-of_not_closed}
use Rattle.broker_program.proofs.{ResultLemmas.{Err-not_ok, None-not_some}, VisitLemmas.{AreVisited-went_length}}
use Rattle.broker_program.proofs.serve.serve_opened.Goals as goal

pub loop-broker-init : goal.loop-broker-init
loop-broker-init g c = (c.requires.idle, inl c.requires.runs, omega arith, ServesMore-none _ _ c.args.broker c.requires.opened)

pub loop-broker-preserved : goal.loop-broker-preserved
loop-broker-preserved g c =
    let it = c.loop-broker.invariant in
    let next = c.serve_next.ensures in
    let now = c.in-Ok-Some.broker in
    let runs = subst (λ found. IfSome found (λ b. b.is_stopped ≡ false)) c.in-Ok-Some.field-0-is c.in-Ok-Some.ensures.runs in
    let on = subst (λ found. ServesOn (image_at g.S.Start) it.3.0.visits found) c.in-Ok-Some.field-0-is (c.in-Ok-Some.ensures.goes it.3.0.visits it.3.1) in
    let goes = ServesNext-counts _ _ now c.serve_next.new.broker next it.0 in
    let went = AreVisited-went_length _ _ it.3.0.visits it.3.0.visited in (
      goes.0,
      elim goes.2 [
        | inl same ↦ inl (subst (λ b. b.is_stopped ≡ false) (sym same.0) runs)
        | inr more ↦ inr (omega (arith, went, more), omega (arith, goes.1, it.2))
      ],
      omega (arith, goes.1, it.2),
      ServesMore-next _ _ _ _ now c.serve_next.new.broker it.3.0 on next,
    )

pub loop-broker-smaller : goal.loop-broker-smaller
loop-broker-smaller g c = ServesNext-fewer_coming _ _ c.in-Ok-Some.broker c.serve_next.new.broker c.serve_next.ensures c.loop-broker.invariant.0

pub returns-in-Ok-None-clause-ok : goal.returns-in-Ok-None-clause-ok
returns-in-Ok-None-clause-ok g c =
    let so_far = c.loop-broker.invariant.3 in
    (so_far.0, subst (λ found. ServesOn (image_at g.S.Start) so_far.0.visits found) c.in-Ok-None.field-0-is (c.in-Ok-None.ensures.goes so_far.0.visits so_far.1))

pub returns-in-Ok-None-clause-fewer : goal.returns-in-Ok-None-clause-fewer
returns-in-Ok-None-clause-fewer g c none =
    elim c.loop-broker.invariant.1 [ inl runs ↦ absurd (None-not_some _ _ _ c.in-Ok-None.is c.in-Ok-None.field-0-is (c.ensure_running.ensures.same runs)) | inr more ↦ more.1 ]

pub returns-in-Err-clause-cut : goal.returns-in-Err-clause-cut
returns-in-Err-clause-cut g c =
    let it = c.loop-broker.invariant in
    let went = AreVisited-went_length _ _ it.3.0.visits it.3.0.visited in
    let some : 0 < length it.3.0.visits = elim it.1 [ inl runs ↦ absurd (Err-not_ok _ _ _ c.in-Err.is (c.ensure_running.ensures.same runs)) | inr more ↦ omega (arith, went, more.0) ] in
    (it.3.0, inl (some, c.in-Err.ensures.goes it.3.0.visits it.3.1))

pub returns-in-Err-close-clause-cut : goal.returns-in-Err-close-clause-cut
returns-in-Err-close-clause-cut g c =
    let so_far = c.loop-broker.invariant.3 in
    (so_far.0, inr (search rules, c.in-Err-close.ensures.cause, StaysUnclosed-of_not_closed _ so_far.0.visits c.loop-broker.broker _ _ so_far.1 c.in-Err-close.ensures.unclosed))

pub returns-in-Ok-clause-ok : goal.returns-in-Ok-clause-ok
returns-in-Ok-clause-ok g c =
    let so_far = c.loop-broker.invariant.3 in
    (so_far.0, ServesOver-closed _ so_far.0.visits c.loop-broker.broker c.in-Ok.files so_far.1 c.in-Ok.ensures.ok)
