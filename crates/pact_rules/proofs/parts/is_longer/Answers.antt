use Rattle.std.{specs.List.{list_any}, proofs.Common.{◌≡◌, ◌∙◌, ◌-◌, length, Some, slice_get, string_bytes, option_copied, sym, ap}}
use Rattle.pact_rules.{specs.Matching.{begins, contains}, proofs.{PartLemmas.{contains-shorter_part, or-implied}, GatheredLemmas.{list_any-slice_get}}}
use Rattle.pact_rules.proofs.parts.is_longer.Goals as goal

pub returns-in-Some : goal.returns-in-Some
returns-in-Some c = λ is t.
    let xs = c.args.kept.now in
    let last = c.in-Some.last.now in
    let at : slice_get xs (length xs - 1) ≡ Some last = sym c.last.ensures.value ∙ ap option_copied c.in-Some.is in
    or-implied (list_any (λ s. contains (string_bytes s) t) xs) (contains (string_bytes c.args.text.now) t) (λ h.
    list_any-slice_get (λ s. contains (string_bytes s) t) xs (length xs - 1) last at (contains-shorter_part (string_bytes last) (string_bytes c.args.text.now) t (sym (ap (begins (string_bytes last)) c.as_bytes.ensures.value) ∙ sym c.begins_with.ensures ∙ is) h))
