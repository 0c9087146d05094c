use Rattle.pact_paths.{specs.{TokenView.{token_view}, PathReading.{following, tokens_in, with_all}}, proofs.PathLemmas.{with_all-empty}}
use Rattle.pact_paths.proofs.ReadingLemmas.{IsPath-of_tokens_in, Gives-memory_or_reading, Computes-each_fault, Computes-fault, path_in-refused, Computes-no_tokens, Computes-tokens}
use Rattle.std.proofs.{Common.{◌∙◌, ◌≡◌, Some, map, length, sym, ap, Ok, Err, rules}, lemmas.Result.{err_from_is_err_and}}
use Rattle.pact_paths.proofs.path.Path.read.Goals as goal

pub invariant_of-result : goal.invariant_of-result
invariant_of-result c =
    let total = length c.args.text.now in
    let rest = c.in-Some.rest.now in
    IsPath-of_tokens_in total rest (map token_view c.in_ok-tokens.tokens.items)
    (sym (with_all-empty (tokens_in total 60 rest)) ∙ ap (λ ts. with_all (map token_view ts) (tokens_in total 60 rest)) (sym c.new.ensures.items) ∙ c.in_ok-tokens.ensures)

pub returns-in_err-check_tokens : goal.returns-in_err-check_tokens
returns-in_err-check_tokens c =
    let text = c.args.text.now in
    let root : following 36 c.args.text.now ≡ Some c.in-Some.rest.now = search rules in
    let r = c.from_residual.result in
    let p = err_from_is_err_and r c.from_residual.ensures.1 in
    let h = Computes-fault text c.in_err-check_tokens.field-0.0 r (p.1 ∙ ap Err p.2) (path_in-refused text c.in-Some.rest.now c.in_err-check_tokens.field-0.0 root c.in_err-check_tokens.ensures) in
    record { reading = Gives-memory_or_reading text r h.0; faults = Computes-each_fault text r h }

pub returns-in_err-tokens : goal.returns-in_err-tokens
returns-in_err-tokens c =
    let text = c.args.text.now in
    let root : following 36 c.args.text.now ≡ Some c.in-Some.rest.now = search rules in
    let r = c.from_residual-in_err-tokens.result in
    let p = err_from_is_err_and r c.from_residual-in_err-tokens.ensures.1 in
    let h = Computes-no_tokens text c.in-Some.rest.now _ root (ap (map token_view) c.new.ensures.items) c.in_err-tokens.field-0.0 r (p.1 ∙ ap Err p.2) c.in_ok-check_tokens.ensures c.in_err-tokens.ensures in
    record { reading = Gives-memory_or_reading text r h.0; faults = Computes-each_fault text r h }

pub returns : goal.returns
returns c =
    let text = c.args.text.now in
    let root : following 36 c.args.text.now ≡ Some c.in-Some.rest.now = search rules in
    let tokens = map token_view c.in_ok-tokens.tokens.items in
    let h = Computes-tokens text c.in-Some.rest.now _ root (ap (map token_view) c.new.ensures.items) tokens c.in_ok-tokens.ensures in
    record { reading = Gives-memory_or_reading text (Ok tokens) h.0; faults = Computes-each_fault text (Ok tokens) h }
