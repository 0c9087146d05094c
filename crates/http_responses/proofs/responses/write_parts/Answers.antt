use Rattle.std.specs.Io.KnownBytes.{Appends}
use Rattle.std.proofs.Common.{ℕ, ◌+◌, ◌<◌, List, ◌++◌, Option, Result, Err, Ok, OnErr, length, length-append, take, sym, subst, arith}
use Rattle.std.proofs.{KnownBytes.{Appends-trans}, Math.Seq.{take-append-add}}
use Rattle.http_responses.proofs.responses.write_parts.Goals as goal

-- the whole front and a beginning of the rest are a beginning of both
following : {A E : Type 0} (result : Result A E) (a b c : Option (List ℕ)) (front rest : List ℕ) → Appends a b front
    → OnErr result ((n : ℕ) × (n < length rest) × Appends b c (take n rest))
    → OnErr result ((n : ℕ) × (n < length (front ++ rest)) × Appends a c (take n (front ++ rest)))
following (Ok x) a b c front rest whole p = tt
following (Err e) a b c front rest whole p = (
  length front + p.0,
  omega (arith, p.1, length-append front rest),
  subst (Appends a c) (sym (take-append-add front rest p.0)) (Appends-trans a b c front (take p.0 rest) whole p.2),
)

pub returns-clause-err : goal.returns-clause-err
returns-clause-err g c =
    following c.write_whole-2.result _ _ _ c.args.front.now c.args.rest.now c.in_ok-write_whole.ensures.ok c.write_whole-2.ensures.err
