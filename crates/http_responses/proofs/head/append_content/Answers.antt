use Rattle.std.proofs.Common.{◌≡◌, ℕ, List, ◌++◌, append_assoc, ap, ◌∙◌, decimal}
use Rattle.http_responses.specs.Head.{content_fields, line_end}
use Rattle.http_responses.proofs.head.append_content.Goals as goal

-- three parts, one after another
in_turn : (text t0 t1 t2 first digits last : List ℕ) → t0 ≡ text ++ first → t1 ≡ t0 ++ digits → t2 ≡ t1 ++ last
    → t2 ≡ text ++ (first ++ (digits ++ last))
in_turn text t0 t1 t2 first digits last e0 e1 e2 =
    e2 ∙ ap (λ t. t ++ last) (e1 ∙ ap (λ t. t ++ digits) e0) ∙ append_assoc (text ++ first) digits last ∙ append_assoc text first (digits ++ last)

pub returns-clause-items : goal.returns-clause-items
unfolding content_fields
returns-clause-items c =
    in_turn c.args.text.now.items _ _ _ _ (decimal c.args.size) line_end c.append.ensures.items
    (c.append-2.ensures.items ∙ ap (λ t. c.append.new.text.items ++ t) c.format.ensures.text) c.append-3.ensures.items
