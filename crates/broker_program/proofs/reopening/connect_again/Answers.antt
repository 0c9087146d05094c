use Rattle.std.proofs.{Common.{◌≡◌, ◌&&◌, false, inl, inr, refl, subst, sym, ◌∙◌}, lemmas.Bool.{and_parts}}
use Rattle.broker_program.{specs.Reopening.{EmptiesLog}, proofs.ReopeningLemmas.{IsOpenedAfter-emptied_log}}
use Rattle.broker_program.proofs.reopening.connect_again.Goals as goal

pub open_files_with-requires-clause-log : goal.open_files_with-requires-clause-log
open_files_with-requires-clause-log g c = (and_parts _ _ (sym c.may_be_used.ensures ∙ c.if-not-may_be_used.false)).0

pub open_files_with-requires-clause-db : goal.open_files_with-requires-clause-db
open_files_with-requires-clause-db g c = (and_parts _ _ (sym c.may_be_used.ensures ∙ c.if-not-may_be_used.false)).1

pub returns-then-not-may_be_used-clause-ok : goal.returns-then-not-may_be_used-clause-ok
returns-then-not-may_be_used-clause-ok g c =
    let D = g.row.D.Denot in
    let failed = subst (λ (p : D × D). (g.D.Disk.is_usable p.0 && g.D.Disk.is_usable p.1) ≡ false) c.close-files.ensures (sym c.may_be_used.ensures ∙ c.if-not-may_be_used.true) in
    (c.empty_log-store.result.0, c.empty_log-store.ensures.quiet, failed)

pub returns-then-broke-clause-shut : goal.returns-then-broke-clause-shut
returns-then-broke-clause-shut g c =
    (c.empty_log-store.result.0, c.empty_log-store.ensures.quiet, c.close-files.result, c.close-files.ensures, inl (refl, refl, c.empty_log-store.ensures.broke c.if-broke.true))

pub returns-in-Err-clause-shut : goal.returns-in-Err-clause-shut
returns-in-Err-clause-shut g c = (
  c.empty_log-store.result.0,
  c.empty_log-store.ensures.quiet,
  c.close-files.result,
  c.close-files.ensures,
  inr (
    c.empty_log-store.ensures.same c.if-broke.false,
    record { error = _; returned = c.returned_of.ensures.same; cause = c.in-Err.ensures.cause; left = c.in-Err.ensures.unharmed },
  ),
)

pub returns-in-Ok-clause-ok : goal.returns-in-Ok-clause-ok
returns-in-Ok-clause-ok g c clean =
    IsOpenedAfter-emptied_log g.D.Disk g.met.D.Disk.seen_may_stay c.args.store c.empty_log-store.result.0 c.close-files.result c.in-Ok.connection
    (subst (λ broke. EmptiesLog c.args.store (c.empty_log-store.result.0, broke)) c.if-broke.false c.empty_log-store.ensures)
    c.close-files.ensures (c.in-Ok.ensures.opened clean) (c.in-Ok.ensures.found clean) c.in-Ok.ensures.fresh (c.in-Ok.ensures.guarded clean)
