use Rattle.http_messages.proofs.arrival.Waiting.look.Goals as goal

pub returns-then-is_ready-2-clause-kept : goal.returns-then-is_ready-2-clause-kept
returns-then-is_ready-2-clause-kept g c = rw (← c.self.view_is) c.read_arrived-self-inside.ensures.kept
