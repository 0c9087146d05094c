use Rattle.std.proofs.Common.{◌≡◌, ◌<◌, ◌∙◌, length, None, sym, ap, arith}
use Rattle.pact_paths.specs.{Outcome.{checked}, PathReading.{token_in, tokens_in}}
use Rattle.pact_paths.proofs.PathLemmas.{tokens_in-end, tokens_in-too_many, tokens_in-bad_token, tokens_in-more, checked-with_front}
use Rattle.pact_paths.proofs.path_reader.+check_tokens.Goals as goal

pub returns-then-is_empty : goal.returns-then-is_empty
returns-then-is_empty t c = sym (ap checked (tokens_in-end c.args.total c.args.limit c.args.text.now (grind (arith, c.is_empty.ensures, c.if-is_empty.true))))

pub returns-then-limit-eq0 : goal.returns-then-limit-eq0
returns-then-limit-eq0 t c =
    sym (ap (λ n. checked (tokens_in c.args.total n c.args.text.now)) c.if-limit-eq0.true
    ∙ ap checked (tokens_in-too_many c.args.total c.args.text.now (grind (arith, c.is_empty.ensures, c.if-is_empty.false))))

pub returns-in-Some : goal.returns-in-Some
returns-in-Some t c =
    let some : 0 < length c.args.text.now = grind (arith, c.is_empty.ensures, c.if-is_empty.false) in
    let more = tokens_in-more c.args.total c.args.limit c.args.text.now _ c.in-Some.rest.now some (omega arith) (sym c.in-Some.ensures.value) in
    c.check_tokens.ensures ∙ sym (ap checked more ∙ checked-with_front _ _)

pub returns-in-None : goal.returns-in-None
returns-in-None t c =
    let some : 0 < length c.args.text.now = grind (arith, c.is_empty.ensures, c.if-is_empty.false) in
    let none : token_in c.args.text.now ≡ None = sym c.in-None.ensures.value in
    sym (ap checked (tokens_in-bad_token c.args.total c.args.limit c.args.text.now some (omega arith) none))
