use Rattle.std.proofs.Common.{◌≡◌, ◌+◌, ◌≤◌, length, max}
use Rattle.http_messages.specs.{Arrival.{is_ready}, Room.{KeepsReady}}
use Rattle.program_io.proofs.listening.Entrance.gather.Given as goal

-- who was ready is there so far, who came waits or is gone, and there is room for as many fewer
abbrev pub invariant-loop : goal.invariant-loop
invariant-loop l = record {
  ready : KeepsReady (λ it. is_ready it.arrived) l.fn.self.waiting.items l.self.waiting.items;
  counts : length l.fn.self.waiting.items + l.fn.self.room + l.fn.self.gone
      ≡ length l.self.waiting.items + l.self.room + l.self.gone;
  fits : l.self.gone + l.self.room ≤ 4294967295;
  most : length l.self.waiting.items ≤ max (length l.fn.self.waiting.items) 64;
  stay : length l.fn.self.waiting.items ≤ length l.self.waiting.items;
}
