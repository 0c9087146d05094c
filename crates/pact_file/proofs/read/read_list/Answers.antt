use Rattle.serde_json.specs.View.{view, items_view}
use Rattle.pact_file.specs.{Normal.{InteractionRead}, Sound.{AreSound}}
use Rattle.pact_rules.proofs.Each.{Completes, Completes-push, EachRead-first_fault, EachRead-of_Completes}
use Rattle.std.proofs.{Common.{Ok, Err, sym, ◌∙◌, subst}, lemmas.List.{nil_from_length}, lemmas.Result.{err_from_is_err_and}}
use Rattle.pact_file.proofs.read.read_list.Goals as goal

pub returns-in_err-read_interaction : goal.returns-in_err-read_interaction
returns-in_err-read_interaction c =
    let l = c.loop-item in
    let e = c.in_err-read_interaction.field-0.0 in
    let index = c.len-index.ensures ∙ l.found.ok.0 in
    let p = err_from_is_err_and c.from_residual-in_err-read_interaction.result c.from_residual-in_err-read_interaction.ensures.1 in
    rw (p.1, p.2) (λ memory.
    EachRead-first_fault InteractionRead view c.args.items.items l.found.items c.in-Some.item c.next.new.self.rest.items e (subst (λ i. InteractionRead i (view c.in-Some.item) (Err e)) index (c.in_err-read_interaction.ensures memory))
    (subst (Completes InteractionRead view c.args.items.items l.found.items) c.in-Some.ensures.steps.0 l.invariant.0))

pub loop-item-preserved : goal.loop-item-preserved
loop-item-preserved c =
    let l = c.loop-item in
    let x = c.in_ok-read_interaction.field-0 in
    let index = c.len-index.ensures ∙ l.found.ok.0 in (
      Completes-push InteractionRead view c.args.items.items l.found.items c.push.new.self.items c.in-Some.item c.next.new.self.rest.items x (subst (λ i. InteractionRead i (view c.in-Some.item) (Ok x)) index c.in_ok-read_interaction.ensures)
          c.in_ok-push.ensures.items (subst (Completes InteractionRead view c.args.items.items l.found.items) c.in-Some.ensures.steps.0 l.invariant.0),
      (subst (λ vs. AreSound 98 (items_view vs)) c.in-Some.ensures.steps.0 l.invariant.1).1,
    )

pub returns : goal.returns
returns c =
    let l = c.loop-item in
    let none = nil_from_length l.item-iterator.rest.items (sym l.item-iterator.rest.ok.0 ∙ c.in-None.ensures.steps.0) in
    EachRead-of_Completes InteractionRead view c.args.items.items l.found.items (subst (Completes InteractionRead view c.args.items.items l.found.items) none l.invariant.0)
