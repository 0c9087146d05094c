use Rattle.serde_json.specs.View.{view}
use Rattle.pact_file.proofs.ReadLemmas.{AreSound-items_view}
use Rattle.reply_check.proofs.ReadLemmas.{items_of-sound}
use Rattle.std.proofs.Common.{map}
use Rattle.reply_check.proofs.read.replies_of.Goals as goal

pub read_list-requires : goal.read_list-requires
read_list-requires c =
    let file = view c.args.file in
    let vs = c.in_ok-items.items.items in
    AreSound-items_view vs (items_of-sound file (map view vs) c.requires c.in_ok-items.ensures)
