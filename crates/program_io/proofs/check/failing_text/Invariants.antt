use Rattle.std.{specs.List.{flat_map}, proofs.Common.{◌≡◌, ◌++◌, drop, string_bytes, codes}}
use Rattle.program_io.specs.Written.{place_text}
use Rattle.program_io.proofs.check.failing_text.Given as goal

abbrev pub invariant-loop-place : goal.invariant-loop-place
invariant-loop-place l =
    string_bytes l.text ++ flat_map place_text (drop l.place-index l.places) ≡ codes "fail" ++ flat_map place_text l.places
