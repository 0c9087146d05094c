use Rattle.std.proofs.{Common.{Ok, sym, subst, map, arith, ◌+◌, ◌∙◌, ℕ, List, Bor}, lemmas.List.{take-map}}
use Rattle.sqlite.specs.{Held.{state}, State.{HasCleanDisk}}
use Rattle.table_access.proofs.CallLemmas.{CallsBetween-no_call, CallsBetween-then_call, EndsBy-later_call}
use Rattle.broker_tables.{specs.Making.{MakesTexts}, proofs.Written.{MakesTexts-none, MakesTexts-one_more, map-take_texts}}
use Rattle.broker_tables.proofs.{Definitions.{AreDefinedTables-table_texts, AreDefinedIndexes-index_texts}, MakingFails.{FailsToRun-next_text}}
use Rattle.broker_tables.proofs.making.make_each.Goals as goal

pub loop-text-init : goal.loop-text-init
loop-text-init g c = CallsBetween-no_call _ _ _ (MakesTexts-none (state g.S.Store c.args.conn.now).now)

pub loop-text-preserved : goal.loop-text-preserved
loop-text-preserved g c =
    let old = state g.S.Store c.args.conn.now in
    let mid = state g.S.Store c.loop-text.conn in
    let new = state g.S.Store c.change.new.conn in
    CallsBetween-then_call old mid new (tt {0}) (Ok (tt {0})) _ _ _ (λ made _ ran.
    subst (λ texts. MakesTexts texts old.now new.now) (sym (map-take_texts c.args.texts.now c.loop-text.text-index _ c.loop-text-test.true))
    (MakesTexts-one_more AreDefinedTables-table_texts AreDefinedIndexes-index_texts _ _ old.now mid new ran.0 made ran.1))
    c.loop-text.invariant c.in-Ok.ensures.leaves

pub returns-in-Err-clause-failure : goal.returns-in-Err-clause-failure
returns-in-Err-clause-failure g c clean inside unlimited can =
    let so_far = c.loop-text.invariant in
    let mid_clean : HasCleanDisk (state g.S.Store c.loop-text.conn) = omega (arith, c.change.ensures.leaves.survives.clean, clean) in
    let texts = c.args.texts.now in
    EndsBy-later_call _ _ _ c.in-Err.fault (so_far.goes_on mid_clean inside) so_far.survives.counts
    (FailsToRun-next_text (map (λ (text : Bor (List ℕ)). text.now) texts) _ (c.loop-text.text-index + 1) _ _ _ _ c.in-Err.fault
    (take-map (λ (text : Bor (List ℕ)). text.now) (c.loop-text.text-index + 1) texts ∙ map-take_texts texts c.loop-text.text-index _ c.loop-text-test.true)
    can (so_far.ok mid_clean) (c.in-Err.ensures.cause clean))
