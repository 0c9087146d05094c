use Rattle.std.proofs.Common.{Option, List, ℕ, Bor, sym, subst, ◌∙◌, option_map}
use Rattle.sqlite.specs.Held.{state}
use Rattle.broker_core.specs.{Machine.{IsCallerOfDigest}, Text.{Text}}
use Rattle.broker_tables.proofs.QueryLemmas.{LooksUpBetween-weaken}
use Rattle.caller_facts.specs.Callers.{IsSender}
use Rattle.caller_facts.proofs.callers.caller_of.Goals as goal

pub returns-in-Ok-clause-answers : goal.returns-in-Ok-clause-answers
returns-in-Ok-clause-answers g c =
    LooksUpBetween-weaken (state g.S.Store c.args.conn.now) (state g.S.Store c.holder_of.new.conn) c.holder_of.result _ _ (λ who h s held. (
      subst (λ (o : Option (Bor (List ℕ))). IsSender s (option_map (λ text. text.now) o) who) (sym c.in-Some.is)
          (subst (λ (d : Text). IsCallerOfDigest s d who) (c.as_str.ensures.value ∙ c.in-Ok.ensures.ok) (h s held).0),
      (h s held).1,
    )) c.holder_of.ensures
