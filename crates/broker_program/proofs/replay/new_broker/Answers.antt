use Rattle.std.proofs.Common.{[], ◌∙◌, refl}
use Rattle.sqlite_trees.specs.View.{doubt}
use Rattle.broker_core.specs.State.{opening}
use Rattle.command_facts.specs.Primitives.{broker_primitives}
use Rattle.broker_database.{specs.{Opening.{Refuses}, declared.opening.OpenFault.{OpenFault}}, proofs.Blank.{HoldsDurably-memory_blank}}
use Rattle.sqlite.specs.{Effect.{Database}, State.{State}}
use Rattle.broker_program.specs.Reasons.{IsUnmade}
use Rattle.broker_database.specs.declared.opening.OpenFault.TheVariants as opening_fault
use Rattle.program_io.specs.declared.fault.RunFault.TheVariants as run_fault
use Rattle.broker_program.proofs.replay.new_broker.Goals as goal

unmade : (P Q : Database → Type 0) (new : State) (fault : OpenFault) → Refuses P Q new fault → IsUnmade (run_fault.Open fault)
unmade P Q new opening_fault.Memory is = tt
unmade P Q new opening_fault.Store is = tt
unmade P Q new _ is = absurd is

pub returns-in-Err-create-clause-fails : goal.returns-in-Err-create-clause-fails
unfolding doubt
returns-in-Err-create-clause-fails c =
    let empty = c.in-Ok.ensures.empty in
    unmade _ _ _ _ (c.in-Err-create.ensures.tables.refuses refl (HoldsDurably-memory_blank c.in-Ok.connection empty) empty.2)

pub returns-in-Ok-create-clause-holds : goal.returns-in-Ok-create-clause-holds
unfolding doubt
returns-in-Ok-create-clause-holds c =
    (c.in-Ok-create.ensures.runs, (c.in-Ok-create.ensures.tables.made refl (HoldsDurably-memory_blank c.in-Ok.connection c.in-Ok.ensures.empty)).0)

pub returns-in-Ok-create-clause-unlimited : goal.returns-in-Ok-create-clause-unlimited
returns-in-Ok-create-clause-unlimited c = c.in-Ok-create.ensures.tables.survives.1.limit ∙ c.in-Ok.ensures.fresh.unlimited

pub returns-in-Ok-create-clause-readable : goal.returns-in-Ok-create-clause-readable
returns-in-Ok-create-clause-readable c = c.readable_stays.ensures.reached c.args.office.now [] [] (opening (broker_primitives.digest_of c.args.office.now)) tt refl

pub returns-in-Err-create-clause-readable : goal.returns-in-Err-create-clause-readable
returns-in-Err-create-clause-readable c = c.readable_stays.ensures.reached c.args.office.now [] [] (opening (broker_primitives.digest_of c.args.office.now)) tt refl

pub returns-in-Err-clause-readable : goal.returns-in-Err-clause-readable
returns-in-Err-clause-readable c = c.readable_stays.ensures.reached c.args.office.now [] [] (opening (broker_primitives.digest_of c.args.office.now)) tt refl
