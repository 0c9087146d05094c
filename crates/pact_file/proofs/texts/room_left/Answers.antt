use Rattle.std.proofs.Common.{ℕ, List, ◌<◌, ◌≤◌, Option, MatchOption, sym, subst, arith}
use Rattle.pact_file.{specs.{File.{most_bytes}, Pact.{Interaction}, Texts.{pact_length}}, proofs.NormalTexts.{length-left_positive, pact_length-room_for_all}}
use Rattle.pact_file.proofs.texts.room_left.Goals as goal

abbrev Matches : List ℕ → List ℕ → List Interaction → Option ℕ → Type 0
Matches consumer provider xs o = MatchOption o (most_bytes < pact_length consumer provider xs) (λ _. pact_length consumer provider xs ≤ most_bytes)

pub returns-in_err-room : goal.returns-in_err-room
returns-in_err-room c =
    let over : most_bytes < pact_length c.args.consumer.now c.args.provider.now c.args.interactions.now = omega (arith, length-left_positive 0 c.args.interactions.now, c.in_err-room.ensures) in
    subst (Matches c.args.consumer.now c.args.provider.now c.args.interactions.now) (sym c.from_residual.ensures) over

pub returns-in_err-room-2 : goal.returns-in_err-room-2
returns-in_err-room-2 c =
    let over : most_bytes < pact_length c.args.consumer.now c.args.provider.now c.args.interactions.now = omega (arith, length-left_positive 0 c.args.interactions.now, c.in_ok-room.ensures, c.in_err-room-2.ensures) in
    subst (Matches c.args.consumer.now c.args.provider.now c.args.interactions.now) (sym c.from_residual-in_err-room-2.ensures) over

pub returns : goal.returns
returns c =
    pact_length-room_for_all c.room_after_all.result c.args.consumer.now c.args.provider.now c.args.interactions.now c.in_ok-room-2.room (omega (arith, c.in_ok-room.ensures, c.in_ok-room-2.ensures)) c.room_after_all.ensures
