use Rattle.std.{specs.Option.{option_map}, proofs.Common.{◌≡◌, Option, Some, None, List, ℕ, [], unwrap_or, Bor, refl, ap, ◌∙◌, rules, tests}}
use Rattle.std.proofs.{lemmas.Iterator.Consumers.{nth_from_yields_List}, lemmas.Iterator.Splits.{YieldsList-from_slice_split}}
use Rattle.http_routes.specs.Routes.{is_slash, segment}
use Rattle.http_routes.proofs.segment.Goals as goal

-- what is lent is that of the option, or the other
lent : (o : Option (Bor (List ℕ))) (other : Bor (List ℕ)) → (unwrap_or o other).now ≡ unwrap_or (option_map (λ x. x.now) o) other.now
lent None other = refl
lent (Some x) other = refl

pub returns : goal.returns
unfolding segment
returns c =
    let found = nth_from_yields_List _ _ c.args.index c.nth.ensures.ran (YieldsList-from_slice_split _ is_slash c.args.path.now c.split.ensures.rest c.split.ensures.done c.split.ensures.closure (λ x r q k. search (rules, tests))) in
    ap (λ r. r.now) c.unwrap_or.ensures ∙ lent c.nth.result _ ∙ ap (λ o. unwrap_or o []) found
