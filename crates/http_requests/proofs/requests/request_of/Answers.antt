use Rattle.std.proofs.Common.{Result, Ok, Err, IfOk, IfErr, sym, ap, subst, ◌∙◌}
use Rattle.http_requests.specs.{declared.requests.Request.TheVariants.{NoRoute, NoMethod}, Requests.{path_of, query_of, operation_asked, ByAsked, ByResource}}
use Rattle.http_requests.proofs.TargetLemmas.{resource-read}
use Rattle.http_requests.proofs.requests.request_of.Goals as goal

-- a fact at an error
at_err : {A E : Type 0} (r : Result A E) {P : Type 0} → P → IfErr r (λ _. P)
at_err (Ok x) p = tt
at_err (Err e) p = p

pub returns-in_default-clause-ok : goal.returns-in_default-clause-ok
returns-in_default-clause-ok c = λ h at.
    let resource = resource-read h.target _ _ c.resource_of.result at.0.reads.0.target_text c.split_target.ensures.path (c.of.ensures ∙ at.0.path) c.resource_of.ensures in
    subst (λ found. ByResource h c.args.body.now found (NoRoute c.args.head.closes)) (sym c.in_default.is ∙ resource) (ap NoRoute at.1)

pub returns-in-Some-operation_at-clause-ok : goal.returns-in-Some-operation_at-clause-ok
returns-in-Some-operation_at-clause-ok c = λ h at.
    let resource = resource-read h.target _ _ c.resource_of.result at.0.reads.0.target_text c.split_target.ensures.path (c.of.ensures ∙ at.0.path) c.resource_of.ensures in
    let target = c.of.ensures ∙ at.0.path in
    let path = c.split_target.ensures.path ∙ ap path_of target in
    let query = c.split_target.ensures.query ∙ ap query_of target in
    let asked = sym c.in-Some-operation_at.is ∙ c.operation_at.ensures ∙ sym (ap (operation_asked c.in-Some.resource) at.2) in
    subst (λ found. IfOk c.command_request.result (ByResource h c.args.body.now found)) (sym c.in-Some.is ∙ resource)
    (subst (λ operation. IfOk c.command_request.result (ByAsked h c.args.body.now c.in-Some.resource operation)) asked (c.command_request.ensures h at path query))

pub returns-in-None-clause-ok : goal.returns-in-None-clause-ok
returns-in-None-clause-ok c = λ h at.
    let resource = resource-read h.target _ _ c.resource_of.result at.0.reads.0.target_text c.split_target.ensures.path (c.of.ensures ∙ at.0.path) c.resource_of.ensures in
    let asked = sym c.in-None.is ∙ c.operation_at.ensures ∙ sym (ap (operation_asked c.in-Some.resource) at.2) in
    subst (λ found. ByResource h c.args.body.now found (NoMethod c.in-Some.resource c.args.head.closes)) (sym c.in-Some.is ∙ resource)
    (subst (λ operation. ByAsked h c.args.body.now c.in-Some.resource operation (NoMethod c.in-Some.resource c.args.head.closes)) asked (ap (NoMethod c.in-Some.resource) at.1))

pub returns-in-Some-operation_at-clause-memory : goal.returns-in-Some-operation_at-clause-memory
returns-in-Some-operation_at-clause-memory c = λ h at.
    let resource = resource-read h.target _ _ c.resource_of.result at.0.reads.0.target_text c.split_target.ensures.path (c.of.ensures ∙ at.0.path) c.resource_of.ensures in
    let asked = sym c.in-Some-operation_at.is ∙ c.operation_at.ensures ∙ sym (ap (operation_asked c.in-Some.resource) at.2) in
    at_err c.command_request.result (c.in-Some-operation_at.operation, (c.in-Some.resource, sym resource ∙ c.in-Some.is, sym asked))
