use Rattle.pact_paths.specs.{declared.path_reader.PathFault.TheVariants.{Memory}, TokenView.{token_view, seen_view}}
use Rattle.pact_paths.specs.{PathReading.{token_in, tokens_in, with_all}, Outcome.{Gives}}
use Rattle.pact_paths.proofs.PathLemmas.{tokens_in-end, tokens_in-too_many, tokens_in-bad_token, tokens_in-more, with_all-front, with_all-none}
use Rattle.std.proofs.{Common.{◌≡◌, ◌<◌, ◌∙◌, ◌-◌, ◌++◌, ◌∷◌, [], map, length, Some, None, sym, ap, subst, arith}, lemmas.List.{map_push}}
use Rattle.pact_paths.proofs.path_reader.+tokens_of.Goals as goal

pub returns-then-is_empty : goal.returns-then-is_empty
returns-then-is_empty t c =
    let front = map token_view c.args.tokens.items in
    ap (with_all front) (tokens_in-end c.args.total c.args.limit c.args.text.now (grind (arith, c.is_empty.ensures, c.if-is_empty.true))) ∙ with_all-none front

pub returns-then-limit-eq0 : goal.returns-then-limit-eq0
returns-then-limit-eq0 t c =
    let front = map token_view c.args.tokens.items in
    λ ne. ap (λ n. with_all front (tokens_in c.args.total n c.args.text.now)) c.if-limit-eq0.true
    ∙ ap (with_all front) (tokens_in-too_many c.args.total c.args.text.now (grind (arith, c.is_empty.ensures, c.if-is_empty.false)))

pub returns-in_ok-push-in-Some : goal.returns-in_ok-push-in-Some
returns-in_ok-push-in-Some t c =
    let front = map token_view c.args.tokens.items in
    let x = seen_view c.in-Some.seen in
    let rest = c.in-Some.rest.now in
    let some : 0 < length c.args.text.now = grind (arith, c.is_empty.ensures, c.if-is_empty.false) in
    let found : token_in c.args.text.now ≡ Some (x, rest) = sym c.in-Some.ensures.value in
    let more = tokens_in-more c.args.total c.args.limit c.args.text.now x rest some (omega arith) found in
    subst (Gives Memory (λ v. map token_view v.items) c.tokens_of.result)
    (ap (λ ts. with_all ts (tokens_in c.args.total (c.args.limit - 1) rest))
    (ap (map token_view) c.in_ok-push-in-Some.ensures.items ∙ map_push token_view c.args.tokens.items c.in_ok-kept-in-Some.field-0 ∙ ap (λ y. front ++ y ∷ []) c.in_ok-kept-in-Some.ensures)
    ∙ sym (with_all-front front x (tokens_in c.args.total (c.args.limit - 1) rest)) ∙ ap (with_all front) (sym more))
    c.tokens_of.ensures

pub returns-in-None : goal.returns-in-None
returns-in-None t c =
    let front = map token_view c.args.tokens.items in
    let some : 0 < length c.args.text.now = grind (arith, c.is_empty.ensures, c.if-is_empty.false) in
    let none : token_in c.args.text.now ≡ None = sym c.in-None.ensures.value in
    λ ne. ap (with_all front) (tokens_in-bad_token c.args.total c.args.limit c.args.text.now some (omega arith) none)
