use Rattle.pact_file.{specs.Pact.{states_data}, proofs.SoundData.{IsSound-no_floats}}
use Rattle.reply_check.proofs.parts.reply_of.Goals as goal

pub states_text-requires : goal.states_text-requires
states_text-requires c = rw c.as_slice.ensures.value (IsSound-no_floats 97 (states_data c.args.parts.states.items) c.requires.states)
