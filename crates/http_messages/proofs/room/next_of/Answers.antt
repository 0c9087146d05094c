use Rattle.std.proofs.Common.{◌∙◌, sym, arith, ◌<◌, length}
use Rattle.http_messages.proofs.RoomLemmas.{next_of-ready, next_of-none_ready}
use Rattle.http_messages.proofs.room.next_of.Goals as goal

pub returns-in-Some-clause-next : goal.returns-in-Some-clause-next
returns-in-Some-clause-next g c = next_of-ready _ _ _ (sym c.first_ready.ensures.first ∙ c.in-Some.is)

pub returns-in-None-2-clause-next : goal.returns-in-None-2-clause-next
returns-in-None-2-clause-next g c =
    let some : 0 < length c.args.waiting.now = grind arith in
    next_of-none_ready _ _ some (sym c.first_ready.ensures.first ∙ c.in-None-2.is)
