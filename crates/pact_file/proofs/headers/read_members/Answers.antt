use Rattle.std.proofs.Common.{string_bytes, sym, ap, ◌∙◌}
use Rattle.serde_json.specs.View.{view, members_view}
use Rattle.pact_file.{specs.Parts.{header_in, members_listed}, proofs.Lists.{all_of-goes_on, all_of-ends, all_of-done}}
use Rattle.pact_file.proofs.headers.read_members.Goals as goal

pub loop-key-preserved : goal.loop-key-preserved
loop-key-preserved c =
    let l = c.loop-key in
    rw c.in_ok-push-in-Some-2.ensures.items
    (all_of-goes_on header_in l.headers.items (members_listed (members_view l.key-iterator)) (string_bytes c.in-Some.key.now, view c.in-Some.member.now) (members_listed (members_view c.next.new.self)) c.in-Some-2.header _
    (ap (λ ms. members_listed (members_view ms)) c.in-Some.ensures.steps) (sym c.in_ok-header.ensures ∙ c.in-Some-2.is) l.invariant)

pub returns-in-None-2 : goal.returns-in-None-2
returns-in-None-2 c =
    let l = c.loop-key in
    all_of-ends header_in l.headers.items (members_listed (members_view l.key-iterator)) (string_bytes c.in-Some.key.now, view c.in-Some.member.now) (members_listed (members_view c.next.new.self)) _
    (ap (λ ms. members_listed (members_view ms)) c.in-Some.ensures.steps) (sym c.in_ok-header.ensures ∙ c.in-None-2.is) l.invariant

pub returns : goal.returns
returns c =
    let l = c.loop-key in
    all_of-done header_in l.headers.items (members_listed (members_view l.key-iterator)) _ (ap (λ ms. members_listed (members_view ms)) c.in-None.ensures.steps.0) l.invariant
