use Rattle.std.proofs.Common.{◌≡◌, ◌∙◌, true, false, is_some, string_bytes, refl, sym, ap}
use Rattle.pact_rules.{specs.Matching.{has_keys_of}, proofs.TreeLemmas.{Entry, has_key}}
use Rattle.pact_trees.specs.Trees.{members_data}
use Rattle.serde_json.specs.Find.{get_member}
use Rattle.pact_rules.proofs.tree_matching.has_tree_keys_of.Goals as goal

pub returns-then-not-contains_key : goal.returns-then-not-contains_key
returns-then-not-contains_key c =
    let e : Entry = (c.in-Some.key.now, c.in-Some.field-0-1.now) in
    let b = c.args.b.now.entries in
    let there : is_some (get_member (string_bytes e.0) (members_data b)) ≡ false = has_key c.as_str.result.now (string_bytes e.0) b c.contains_key.result c.as_str.ensures.value c.contains_key.ensures ∙ c.if-not-contains_key.true in
    sym (c.loop-key.invariant ∙ ap (λ es. has_keys_of (members_data es) (members_data b)) c.in-Some.ensures.steps ∙ rw there refl)

pub loop-key-preserved : goal.loop-key-preserved
loop-key-preserved c =
    let e : Entry = (c.in-Some.key.now, c.in-Some.field-0-1.now) in
    let b = c.args.b.now.entries in
    let there : is_some (get_member (string_bytes e.0) (members_data b)) ≡ true = has_key c.as_str.result.now (string_bytes e.0) b c.contains_key.result c.as_str.ensures.value c.contains_key.ensures ∙ c.if-not-contains_key.false in
    c.loop-key.invariant ∙ ap (λ es. has_keys_of (members_data es) (members_data b)) c.in-Some.ensures.steps ∙ rw there refl
