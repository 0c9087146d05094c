-- The path of a target that is a text is a text.
use Rattle.std.specs.List.{position_or_len}
use Rattle.std.proofs.Common.{◌≡◌, ℕ, ◌==◌, ◌<◌, ◌≤◌, List, length, get_or, take_all, Bool, true, false, ltb, Option, refl, sym, ap, ◌∙◌, subst, arith, IsUtf8}
use Rattle.std.proofs.{lemmas.Bool.Decides.{nat_tests}, lemmas.List.Sums.{passes_at_first}, lemmas.Str.{IsUtf8-take, IsCharBoundary-before_ascii}}
use Rattle.http_routes.specs.{Routes.{resource_of}, declared.Resource.{Resource}}
use Rattle.http_requests.specs.Requests.{is_question_mark, path_of}

pub path-text : (target : List ℕ) → IsUtf8 target → IsUtf8 (path_of target)
path-text target text = by (ltb (position_or_len is_question_mark target) (length target)) refl
  where
    by : (v : Bool) → ltb (position_or_len is_question_mark target) (length target) ≡ v → IsUtf8 (path_of target)
    by true e =
        let within : position_or_len is_question_mark target < length target = grind (arith, nat_tests) in
        let mark : (get_or target (position_or_len is_question_mark target) 0 == 63) ≡ true = passes_at_first is_question_mark target 0 within in
        let ascii : get_or target (position_or_len is_question_mark target) 0 < 128 = grind (arith, nat_tests) in
        IsUtf8-take target (position_or_len is_question_mark target) text (IsCharBoundary-before_ascii target (position_or_len is_question_mark target) within ascii)
    by false e =
        let over : length target ≤ position_or_len is_question_mark target = grind (arith, nat_tests) in
        subst IsUtf8 (sym (take_all (position_or_len is_question_mark target) target over)) text

-- a function that finds the resource of each path in UTF-8 finds that of the target's path
pub resource-read : (target read path : List ℕ) (returned : Option Resource) → IsUtf8 target → path ≡ path_of read → read ≡ target → (IsUtf8 path → returned ≡ resource_of path) → returned ≡ resource_of (path_of target)
resource-read target read path returned text is-path is-target is-returned =
    let same : path ≡ path_of target = is-path ∙ ap path_of is-target in
    is-returned (subst IsUtf8 (sym same) (path-text target text)) ∙ ap resource_of same
