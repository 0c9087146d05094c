use Rattle.std.proofs.Common.{rules, ◌≡◌, not, Some, string_bytes}
use Rattle.serde_json.specs.View.{view}
use Rattle.pact_rules.specs.{Matching.{text_form, contains}, Gathered.{plain_hold, judged}}
use Rattle.pact_rules.proofs.DeferredLemmas.{gathered_deferred_hold-push, gathered_hold-of_patterns}
use Rattle.pact_rules.proofs.many.Many.holds_or_defers.Goals as goal

pub returns : goal.returns
returns c =
    let any = c.args.any in
    let g = c.args.self.now.gathered in
    let x = view c.args.expected.now in
    let y = view c.args.actual.now in
    let own = c.args.own_place in
    let t = c.in-Some.text in
    let plain : plain_hold any g x y own ≡ not any = search rules in
    let parts : judged any (λ s. contains (string_bytes s) (string_bytes t)) g.parts.items ≡ not any = search rules in
    let is : text_form y ≡ Some (string_bytes t) = search rules in
    let decided = gathered_hold-of_patterns any g x y own t is plain parts in
    let pushed = gathered_deferred_hold-push any g c.args.texts.now.items t in
    search (rules, decided, pushed)
