use Rattle.std.proofs.Common.{◌≤◌, List, ℕ, Bor, length, ap, sym, subst, ◌∙◌}
use Rattle.http_responses.proofs.HeadLemmas.{reason_phrase-phrase, length-phrase_le, unwrap_or-found_text}
use Rattle.http_responses.proofs.head.phrase.Goals as goal

pub returns-clause-text : goal.returns-clause-text
returns-clause-text c =
    ap (λ (text : Bor (List ℕ)). text.now) c.unwrap_or.ensures
    ∙ unwrap_or-found_text c.canonical_reason.result _ _ (c.canonical_reason.ensures.value ∙ reason_phrase-phrase c.args.status c.requires)

pub returns-clause-short : goal.returns-clause-short
returns-clause-short c = subst (λ text. length text ≤ 32) (sym (returns-clause-text c)) (length-phrase_le c.args.status c.requires)
