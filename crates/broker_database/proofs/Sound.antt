-- Each stored pact can be read again: so it is in a new broker's state, and each step keeps it.
use Rattle.std.proofs.Common.{Option}
use Rattle.broker_core.specs.{Contents.{HasSoundContents}, State.{State, opening}, Text.{Text}, Change.{Transition}, Machine.{Step}}
use Rattle.broker_core.{specs.declared.command.Command.{Command}, proofs.SoundContents.{ContentsStay-holds, OpeningIsSound-holds}}
use Rattle.command_facts.{specs.Primitives.{broker_primitives}, proofs.Again.{ReadsAgain-broker_primitives}}

pub HasSoundContents-step : (s : State) (token : Option Text) (command : Command) (out : Transition) → HasSoundContents broker_primitives s → Step broker_primitives s token command out → HasSoundContents broker_primitives out.state
HasSoundContents-step s token command out sound step = ContentsStay-holds broker_primitives ReadsAgain-broker_primitives s token command out sound step

pub HasSoundContents-opening : (office : Text) → HasSoundContents broker_primitives (opening office)
HasSoundContents-opening office = OpeningIsSound-holds broker_primitives office
