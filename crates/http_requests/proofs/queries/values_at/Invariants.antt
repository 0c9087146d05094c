use Rattle.std.proofs.Common.{◌≡◌, ℕ, List, ◌++◌, length}
use Rattle.form_urlencoded.specs.{Form.{raw_pairs}, Parse.{raw_pairs_left}}
use Rattle.http_requests.specs.Queries.{values_at, AreValues}
use Rattle.http_requests.proofs.queries.values_at.Given as goal

-- the pairs so far
abbrev pub invariant-loop-name : goal.invariant-loop-name
invariant-loop-name l =
    (done : List (List ℕ × List ℕ)) × (done ++ raw_pairs_left l.pairs ≡ raw_pairs l.query) × AreValues (values_at l.key done) l.found

abbrev pub decreases-loop-name : goal.decreases-loop-name
decreases-loop-name l = length (raw_pairs_left l.pairs)
