use Rattle.serde_json.specs.View.{view}
use Rattle.pact_file.{specs.{File.{sides_of}, Normal.{InteractionsRead, if_short}, Pact.{pact_with}}, proofs.ReadLemmas.{GivesOne-of_Gives}}
use Rattle.std.proofs.{Common.{◌≡◌, Ok, Err, string_bytes, refl, sym, ap, ◌∙◌}, lemmas.Result.{err_from_is_err_and}}
use Rattle.pact_file.proofs.read.pact_of.Goals as goal

pub returns-in_err-items_in-clause-reading : goal.returns-in_err-items_in-clause-reading
unfolding InteractionsRead
returns-in_err-items_in-clause-reading c =
    let p = err_from_is_err_and c.from_residual-in_err-items_in.result c.from_residual-in_err-items_in.ensures.1 in
    rw (p.1, p.2) (λ memory.
    let e = c.in_err-items_in.field-0.0 in
    (Ok (c.in_ok-consumer.consumer.now, c.in_ok-consumer.provider.now), c.in_ok-consumer.ensures, (Err e, (Err e, c.in_err-items_in.ensures, refl), refl)))

pub returns-clause-reading : goal.returns-clause-reading
returns-clause-reading c =
    let a = string_bytes c.in_ok-consumer_name.consumer_name in
    let b = string_bytes c.in_ok-provider_name.provider_name in
    let xs = c.in_ok-interactions.interactions.items in
    let named : sides_of (view c.args.file) ≡ Ok (a, b) =
    c.in_ok-consumer.ensures ∙ ap (λ n. Ok (n, c.in_ok-consumer.provider.now)) (sym c.in_ok-consumer_name.ensures.ok) ∙ ap (λ n. Ok (a, n)) (sym c.in_ok-provider_name.ensures.ok) in
    GivesOne-of_Gives (λ p. p) c.short_pact.result (if_short (pact_with a b xs)) _ (λ r is. (Ok (a, b), named, (Ok xs, c.in_ok-interactions.ensures, is))) c.short_pact.ensures
