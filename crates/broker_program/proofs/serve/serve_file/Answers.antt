use Rattle.std.proofs.{Common.{◌∙◌, inl, inr}, lemmas.Result.{IfErr-weaker}}
use Rattle.broker_program.proofs.{RefusalLemmas.{LeavesCut-weaker}, ResultLemmas.{IfOk-both}}
use Rattle.broker_program.proofs.{ServingLemmas.{CutsFile-counts, ServesFile-counts, IsLeftUnserved-given_back}, VisitLemmas.{queue_of-new_counts}}
use Rattle.broker_program.proofs.serve.serve_file.Goals as goal

pub returns-in-Ok-listen_on-clause-ok : goal.returns-in-Ok-listen_on-clause-ok
returns-in-Ok-listen_on-clause-ok g c =
    let first = queue_of-new_counts _ _ _ _ _ c.new.ensures c.in-Ok-listen_on.ensures.count.1 (c.in-Ok-listen_on.connections.counted ∙ c.in-Ok-listen_on.ensures.count.0) in
    IfOk-both c.serve_each.result _ _ _ (λ service queue counts. ServesFile-counts _ _ _ _ _ _ service first queue counts) c.serve_each.ensures.ok c.serve_each.ensures.counts

pub returns-in-Ok-listen_on-clause-cause : goal.returns-in-Ok-listen_on-clause-cause
returns-in-Ok-listen_on-clause-cause g c =
    let first = queue_of-new_counts _ _ _ _ _ c.new.ensures c.in-Ok-listen_on.ensures.count.1 (c.in-Ok-listen_on.connections.counted ∙ c.in-Ok-listen_on.ensures.count.0) in
    IfErr-weaker c.serve_each.result _ _ (λ failed cuts. inr (inr (inl (c.in-Ok-listen_on.ensures.said, LeavesCut-weaker _ _ failed.1 (λ service. CutsFile-counts _ _ _ _ _ _ failed.0 service first) cuts)))) c.serve_each.ensures.cut

pub returns-clause-cause : goal.returns-clause-cause
returns-clause-cause g c =
    rw c.in-Err-listen_on.ensures.cause (inr (inl (λ clean. IsLeftUnserved-given_back _ c.in_ok-broker.broker _ c.in_ok-broker.ensures.opened (c.release.ensures.ends clean))))
