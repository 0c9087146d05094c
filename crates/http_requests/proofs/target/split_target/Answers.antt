use Rattle.std.proofs.{Common.{◌+◌, length, length-drop, take, drop, take_all, sym, ap, ◌∙◌, arith, rules}, lemmas.List.{take_rest, nil_from_length}}
use Rattle.std.proofs.lemmas.List.Sums.{position_or_len_is}
use Rattle.http_requests.specs.Requests.{is_question_mark}
use Rattle.http_requests.proofs.target.split_target.Goals as goal

pub returns-in-Some-clause-path : goal.returns-in-Some-clause-path
returns-in-Some-clause-path c =
    let target = c.args.target.now in
    ap (λ n. take n target) (sym (position_or_len_is is_question_mark target c.in-Some.end 0 (search rules) (search rules) (search rules)))

pub returns-in-Some-clause-query : goal.returns-in-Some-clause-query
returns-in-Some-clause-query c =
    let target = c.args.target.now in
    take_rest target (c.in-Some.end + 1)
    ∙ ap (λ n. drop (n + 1) target) (sym (position_or_len_is is_question_mark target c.in-Some.end 0 (search rules) (search rules) (search rules)))

pub returns-in-None-clause-path : goal.returns-in-None-clause-path
returns-in-None-clause-path c =
    let target = c.args.target.now in
    let none = position_or_len_is is_question_mark target (length target) 0 (omega arith) (search rules) (search rules) in
    sym (ap (λ n. take n target) none ∙ take_all (length target) target (omega arith))

pub returns-in-None-clause-query : goal.returns-in-None-clause-query
returns-in-None-clause-query c =
    let target = c.args.target.now in
    let none = position_or_len_is is_question_mark target (length target) 0 (omega arith) (search rules) (search rules) in
    sym (ap (λ n. drop (n + 1) target) none ∙ nil_from_length (drop (length target + 1) target) (omega (arith, length-drop (length target + 1) target)))
