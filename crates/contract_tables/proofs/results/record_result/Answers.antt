use Rattle.std.proofs.{Common.{sym, subst, arith, ◌∙◌}, lemmas.Result.{IfErr-weaker}}
use Rattle.sqlite.specs.{Held.{state}, State.{HasCleanDisk}}
use Rattle.table_access.proofs.CallLemmas.{CallsBetween-then_call, EndsBy-later_call, EndsBy-weaken}
use Rattle.broker_tables.specs.Holds.{HoldsAfter, IsBroker}
use Rattle.contract_tables.specs.Verified.{Marks, Points}
use Rattle.contract_tables.proofs.ResultState.{HoldsAfter-recorded, PutsRow-IsBroker, Marks-IsBroker, AllowsMark-after_put, AllowsPoint-after_mark}
use Rattle.contract_tables.proofs.results.record_result.Goals as goal

pub returns-clause-changes : goal.returns-clause-changes
returns-clause-changes g c =
    let old = state g.S.Store c.args.conn.now in
    let one = state g.S.Store c.put_result.new.conn in
    let two = state g.S.Store c.mark.new.conn in
    let new = state g.S.Store c.point_latest.new.conn in
    CallsBetween-then_call old one new c.in-Ok.value c.point_latest.result _ (λ _. (IsBroker one.now → Marks c.args.checked c.args.number one two) × (IsBroker two.now → Points c.args.content c.args.version_number c.args.number two new)) _
    (λ put _ rest s held t next. subst (HoldsAfter 2 old new) (sym next.4)
    (HoldsAfter-recorded c.args.number c.args.content c.args.provider.now c.args.version_number c.args.pass c.args.checked _ old one two new s next.0 c.in-Ok.ensures.name held next.1 next.2 next.3 (put held.broker) rest.0 rest.1))
    c.in-Ok.ensures.puts
    (CallsBetween-then_call one two new c.in-Ok-mark.value c.point_latest.result _ _ (λ _. (IsBroker one.now → Marks c.args.checked c.args.number one two) × (IsBroker two.now → Points c.args.content c.args.version_number c.args.number two new))
    (λ mark _ point. (mark, point)) c.in-Ok-mark.ensures.marks c.point_latest.ensures.points)

pub returns-in-Err-mark-clause-failure : goal.returns-in-Err-mark-clause-failure
returns-in-Err-mark-clause-failure g c =
    let old = state g.S.Store c.args.conn.now in
    let one = state g.S.Store c.put_result.new.conn in
    let two = state g.S.Store c.mark.new.conn in
    let put = c.in-Ok.ensures.puts in
    λ clean s here allowed room.
    let one_clean : HasCleanDisk one = omega (arith, c.in-Err-mark.ensures.marks.survives.clean, clean) in
    let row = put.ok one_clean here.held.broker in
    EndsBy-weaken old two c.in-Err-mark.fault (λ never. absurd never) (EndsBy-later_call old one two c.in-Err-mark.fault (put.goes_on one_clean here.inside) put.survives.counts
    (c.in-Err-mark.ensures.failure clean (put.survives.limit ∙ here.unlimited) (PutsRow-IsBroker _ old one here.held.broker row)
    (AllowsMark-after_put c.args.number c.args.content c.args.provider.now c.args.version_number c.args.pass _ old one s here.held allowed row)))

pub returns-clause-failure : goal.returns-clause-failure
returns-clause-failure g c =
    let old = state g.S.Store c.args.conn.now in
    let one = state g.S.Store c.put_result.new.conn in
    let two = state g.S.Store c.mark.new.conn in
    let new = state g.S.Store c.point_latest.new.conn in
    let put = c.in-Ok.ensures.puts in
    let mark = c.in-Ok-mark.ensures.marks in
    λ clean s here allowed room.
    let two_clean : HasCleanDisk two = omega (arith, c.point_latest.ensures.points.survives.clean, clean) in
    let one_clean : HasCleanDisk one = omega (arith, mark.survives.clean, two_clean) in
    let row = put.ok one_clean here.held.broker in
    let on = put.goes_on one_clean here.inside in
    let broker = PutsRow-IsBroker _ old one here.held.broker row in
    let marked = mark.ok two_clean broker in
    IfErr-weaker c.point_latest.result _ _
    (λ e why. EndsBy-weaken old new e (λ never. absurd never) (EndsBy-later_call old one new e on put.survives.counts (EndsBy-later_call one two new e (mark.goes_on two_clean on.0) mark.survives.counts why)))
    (c.point_latest.ensures.failure clean (mark.survives.limit ∙ put.survives.limit ∙ here.unlimited) (Marks-IsBroker c.args.checked c.args.number one two broker marked)
    (AllowsPoint-after_mark c.args.number c.args.content c.args.provider.now c.args.version_number c.args.pass _ old one s here.held allowed row c.args.checked two room marked))
