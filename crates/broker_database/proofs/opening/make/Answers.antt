use Rattle.std.proofs.Common.{◌∷◌, []}
use Rattle.sqlite.specs.Held.{state}
use Rattle.broker_core.specs.State.{opening}
use Rattle.broker_tables.specs.{Making.{IsBlank}, ChangeRefusals.{AreShort}}
use Rattle.broker_database.{specs.Transaction.{returned}, proofs.MakeLemmas.{made, MakesOrFails-of_transaction, OnlyIfRefused-of_transaction}}
use Rattle.broker_database.proofs.Transaction.{CommitsAtMostOnce-whole, CommitsAtMostOnce-of_survives}
use Rattle.broker_database.proofs.opening.make.Goals as goal

pub returns-clause-ends : goal.returns-clause-ends
returns-clause-ends g c =
    MakesOrFails-of_transaction c.args.digest.now _ _ _ _ (returned c.conclude.result)
    (made c.args.digest.now _ _ _ _ c.make_all-made.result (returned c.conclude.result) c.is_ok-keeps.result c.in-Ok.ensures.begun c.begin.ensures.survives c.make_all-made.ensures.makes c.is_ok-keeps.ensures.value c.conclude.ensures.concludes)

pub returns-clause-survives : goal.returns-clause-survives
returns-clause-survives g c =
    CommitsAtMostOnce-whole _ _ _ _ _ _ (returned c.conclude.result)
    (made c.args.digest.now _ _ _ _ c.make_all-made.result (returned c.conclude.result) c.is_ok-keeps.result c.in-Ok.ensures.begun c.begin.ensures.survives c.make_all-made.ensures.makes c.is_ok-keeps.ensures.value c.conclude.ensures.concludes)

pub returns-in-Err-clause-survives : goal.returns-in-Err-clause-survives
returns-in-Err-clause-survives g c = CommitsAtMostOnce-of_survives _ _ c.begin.ensures.survives

pub returns-clause-failure : goal.returns-clause-failure
unfolding made
returns-clause-failure g c short =
    OnlyIfRefused-of_transaction (state g.S.Store) (λ db. IsBlank db × AreShort (c.args.digest.now ∷ [])) IsBlank (opening c.args.digest.now) c.args.conn.now c.begin.new.conn c.make_all-made.new.conn c.conclude.new.conn _ _ c.conclude.result
    (made c.args.digest.now _ _ _ _ c.make_all-made.result (returned c.conclude.result) c.is_ok-keeps.result c.in-Ok.ensures.begun c.begin.ensures.survives c.make_all-made.ensures.makes c.is_ok-keeps.ensures.value c.conclude.ensures.concludes)
    c.make_all-made.ensures.failure c.conclude.ensures.refused (λ db blank. (blank, short)) (λ u makes _ blank. (makes blank).0)
