use Rattle.std.proofs.Common.{◌≡◌, ◌∙◌, sym, ap}
use Rattle.pact_rules.specs.Gathered.{joined, judged, if_asked, bounds_hold, part_holds, pattern_holds, plain_hold, texts_hold, gathered_hold}
use Rattle.pact_rules.specs.{Matching.{holds}, MatcherView.{matcher_view}, Rules.{equality, integer, is_null, include, regex}}
use Rattle.pact_rules.proofs.GatheredLemmas.{judged-push, joined-more_equality, joined-more_integer, joined-more_null, joined-more_bounds, joined-more_parts, joined-more_patterns}
use Rattle.pact_rules.proofs.gathered.Gathered.add.Goals as goal

pub returns-in-Equality-clause-says : goal.returns-in-Equality-clause-says
returns-in-Equality-clause-says c = λ any x y own.
    let g = c.args.self.now in
    joined-more_equality any g.equality (if_asked any g.integer (holds integer x y own)) (if_asked any g.null (holds is_null x y own)) (judged any (bounds_hold x y own) g.bounds.items)
    (texts_hold any g x y own) (holds equality x y own) ∙ ap (λ m. joined any (gathered_hold any g x y own) (holds (matcher_view m) x y own)) (sym c.in-Equality.is)

pub returns-in-Integer-clause-says : goal.returns-in-Integer-clause-says
returns-in-Integer-clause-says c = λ any x y own.
    let g = c.args.self.now in
    joined-more_integer any (if_asked any g.equality (holds equality x y own)) g.integer (if_asked any g.null (holds is_null x y own)) (judged any (bounds_hold x y own) g.bounds.items)
    (texts_hold any g x y own) (holds integer x y own) ∙ ap (λ m. joined any (gathered_hold any g x y own) (holds (matcher_view m) x y own)) (sym c.in-Integer.is)

pub returns-in-IsNull-clause-says : goal.returns-in-IsNull-clause-says
returns-in-IsNull-clause-says c = λ any x y own.
    let g = c.args.self.now in
    joined-more_null any (if_asked any g.equality (holds equality x y own)) (if_asked any g.integer (holds integer x y own)) g.null (judged any (bounds_hold x y own) g.bounds.items)
    (texts_hold any g x y own) (holds is_null x y own) ∙ ap (λ m. joined any (gathered_hold any g x y own) (holds (matcher_view m) x y own)) (sym c.in-IsNull.is)

pub returns-in_ok-add_bounds-in-SameType-clause-says : goal.returns-in_ok-add_bounds-in-SameType-clause-says
returns-in_ok-add_bounds-in-SameType-clause-says c = λ any x y own.
    let g = c.args.self.now in
    let h = holds (matcher_view c.args.matcher.now) x y own in
    let b = judged any (bounds_hold x y own) g.bounds.items in
    let more : judged any (bounds_hold x y own) c.add_bounds.new.bounds.items ≡ joined any b h
    = c.in_ok-add_bounds-in-SameType.ensures any x y own ∙ ap (λ m. joined any b (holds (matcher_view m) x y own)) (sym c.in-SameType.is) in
    joined-more_bounds any (if_asked any g.equality (holds equality x y own)) (if_asked any g.integer (holds integer x y own)) (if_asked any g.null (holds is_null x y own)) b
    (judged any (bounds_hold x y own) c.add_bounds.new.bounds.items) (texts_hold any g x y own) h more

pub returns-in_ok-push-in-Include-clause-says : goal.returns-in_ok-push-in-Include-clause-says
returns-in_ok-push-in-Include-clause-says c = λ any x y own.
    let g = c.args.self.now in
    let h = holds (matcher_view c.args.matcher.now) x y own in
    let a = judged any (part_holds x y own) g.parts.items in
    let more : judged any (part_holds x y own) c.push.new.self.items ≡ joined any a h
    = ap (judged any (part_holds x y own)) c.in_ok-push-in-Include.ensures.items ∙ judged-push any (part_holds x y own) g.parts.items _
    ∙ ap (λ s. joined any a (holds (include s) x y own)) c.in_ok-copy_of-in-Include.ensures ∙ ap (λ m. joined any a (holds (matcher_view m) x y own)) (sym c.in-Include.is) in
    joined-more_parts any (plain_hold any g x y own) a (judged any (part_holds x y own) c.push.new.self.items) (judged any (pattern_holds x y own) g.patterns.items) h more

pub returns-in_ok-push-in-Regex-clause-says : goal.returns-in_ok-push-in-Regex-clause-says
returns-in_ok-push-in-Regex-clause-says c = λ any x y own.
    let g = c.args.self.now in
    let h = holds (matcher_view c.args.matcher.now) x y own in
    let q = judged any (pattern_holds x y own) g.patterns.items in
    let more : judged any (pattern_holds x y own) c.push-in-Regex.new.self.items ≡ joined any q h
    = ap (judged any (pattern_holds x y own)) c.in_ok-push-in-Regex.ensures.items ∙ judged-push any (pattern_holds x y own) g.patterns.items _
    ∙ ap (λ s. joined any q (holds (regex s) x y own)) c.in_ok-copy_of-in-Regex.ensures ∙ ap (λ m. joined any q (holds (matcher_view m) x y own)) (sym c.in-Regex.is) in
    joined-more_patterns any (plain_hold any g x y own) (judged any (part_holds x y own) g.parts.items) q (judged any (pattern_holds x y own) c.push-in-Regex.new.self.items) h more
