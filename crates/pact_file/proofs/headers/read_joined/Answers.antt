use Rattle.pact_file.proofs.{Joined.{still-joins, still-joins_none, still-joins_end}, Lists.{drop-at}}
use Rattle.std.proofs.{Common.{map, string_bytes, ap, sym, arith}, lemmas.List.{drop_all}}
use Rattle.serde_json.specs.{Find.{as_str}, View.{view}}
use Rattle.pact_file.proofs.headers.read_joined.Goals as goal

pub returns-in-None : goal.returns-in-None
returns-in-None c =
    let here = drop-at c.args.items.now c.loop-index.index c.index-items-index.result (omega arith) c.index-items-index.is in
    still-joins_none as_str c.loop-index.index (string_bytes c.loop-index.text) _ (view c.index-items-index.result) _ _ (ap (map view) here) (sym c.in-None.ensures) c.loop-index.invariant

pub loop-index-preserved : goal.loop-index-preserved
loop-index-preserved c =
    let here = drop-at c.args.items.now c.loop-index.index c.index-items-index.result (omega arith) c.index-items-index.is in
    still-joins as_str c.loop-index.index (string_bytes c.loop-index.text) (string_bytes c.push_separated.new.text) _ (view c.index-items-index.result) _ c.in-Some.part.now _ (ap (map view) here) (sym c.in-Some.ensures)
    c.in_ok-push_separated-in-Some.ensures.first c.in_ok-push_separated-in-Some.ensures.later c.loop-index.invariant

pub returns : goal.returns
returns c =
    still-joins_end as_str c.loop-index.index (string_bytes c.loop-index.text) _ _ (ap (map view) (drop_all c.loop-index.index c.args.items.now (omega arith))) c.loop-index.invariant
