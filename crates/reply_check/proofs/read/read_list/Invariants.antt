use Rattle.serde_json.specs.View.{view, items_view}
use Rattle.pact_file.specs.Sound.{AreSound}
use Rattle.reply_check.specs.Replies.{ReplyRead}
use Rattle.pact_rules.proofs.Each.{Completes}
use Rattle.reply_check.proofs.read.read_list.Given as goal

-- what was read, with what is left, is the whole; and what is left is sound
abbrev pub invariant-loop-item : goal.invariant-loop-item
invariant-loop-item l =
    Completes ReplyRead view l.fn.items.items l.found.items l.item-iterator.rest.items × AreSound 98 (items_view l.item-iterator.rest.items)
