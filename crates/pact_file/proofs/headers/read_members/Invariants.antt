use Rattle.std.proofs.Common.{◌≡◌}
use Rattle.serde_json.specs.View.{members_view}
use Rattle.pact_file.{specs.Parts.{header_in, members_listed, all_of}, proofs.Lists.{with_front}}
use Rattle.pact_file.proofs.headers.read_members.Given as goal

abbrev pub invariant-loop-key : goal.invariant-loop-key
invariant-loop-key l = with_front l.headers.items (all_of header_in (members_listed (members_view l.key-iterator))) ≡ all_of header_in (members_listed (members_view l.members.entries))
