use Rattle.std.proofs.Common.{◌∙◌, is_ok, refl, sym}
use Rattle.http_messages.{specs.Arrival.{is_ready}, proofs.RoomLemmas.{KeepsReady-push, remove-keeps_ready}}
use Rattle.http_messages.proofs.room.take_in.Goals as goal

pub returns-then-len-lt-MOST_WAITING-clause-ready : goal.returns-then-len-lt-MOST_WAITING-clause-ready
returns-then-len-lt-MOST_WAITING-clause-ready g c =
    KeepsReady-push (λ it. is_ready it.arrived) (is_ok c.push.result) c.args.waiting.now.items c.args.waiting.now.items
    c.push.new.self.items c.args.it refl c.push.ensures.items

pub returns-in-Some-clause-ready : goal.returns-in-Some-clause-ready
returns-in-Some-clause-ready g c =
    KeepsReady-push (λ it. is_ready it.arrived) (is_ok c.push-in-Some.result) c.args.waiting.now.items c.remove.new.self.items
    c.push-in-Some.new.self.items c.args.it
    (rw (c.remove.ensures.items, ← c.deref.ensures.value)
    (remove-keeps_ready (λ it. is_ready it.arrived) c.deref.result.now c.in-Some.place (sym c.first_unready.ensures.first ∙ c.in-Some.is)))
    c.push-in-Some.ensures.items
