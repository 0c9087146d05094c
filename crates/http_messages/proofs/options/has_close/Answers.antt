use Rattle.std.proofs.{Common.{◌+◌, length, sym, ap, ◌∙◌, arith, rules}, lemmas.List.{take_rest}, lemmas.List.Sums.{position_or_len_is}}
use Rattle.http_messages.{specs.Options.{has_close}, proofs.OptionsLemmas.{is_comma, has_close-first, has_close-following, has_close-last}}
use Rattle.http_messages.proofs.options.has_close.Goals as goal

pub returns-then-is_close : goal.returns-then-is_close
returns-then-is_close c =
    let rest = c.loop-comma.rest.now in
    let at = position_or_len_is is_comma rest c.in-Some.comma 0 (search rules) (search rules) (search rules) in
    sym (c.loop-comma.invariant ∙ has_close-first rest c.in-Some.comma at (search rules) (sym c.is_close.ensures ∙ c.if-is_close.true))

pub loop-comma-preserved : goal.loop-comma-preserved
loop-comma-preserved c =
    let rest = c.loop-comma.rest.now in
    let at = position_or_len_is is_comma rest c.in-Some.comma 0 (search rules) (search rules) (search rules) in
    c.loop-comma.invariant ∙ has_close-following rest c.in-Some.comma at (search rules) (sym c.is_close.ensures ∙ c.if-is_close.false)
    ∙ ap has_close (sym (take_rest rest (c.in-Some.comma + 1)))

pub returns : goal.returns
returns c =
    let rest = c.loop-comma.rest.now in
    let at = position_or_len_is is_comma rest (length rest) 0 (omega arith) (search rules) (search rules) in
    c.is_close-2.ensures ∙ sym (c.loop-comma.invariant ∙ has_close-last rest (length rest) at (omega arith))
