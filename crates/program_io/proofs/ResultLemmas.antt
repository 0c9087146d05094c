-- a line is out, or a beginning of it
use Rattle.std.specs.Io.KnownBytes.{Appends}
use Rattle.std.proofs.Common.{ℕ, ◌+◌, List, ◌++◌, Option, Result, Err, Ok, OnErr, OnOk, length, length-append, append_assoc, take, sym, subst, arith}
use Rattle.std.proofs.{KnownBytes.{Appends-trans}, Math.Seq.{take-append-add}, lemmas.List.{take-append-le}}
use Rattle.http_responses.specs.declared.writing.WriteFault.{WriteFault}
use Rattle.program_io.specs.Written.{IsBegun, IsLineOut, newline}

-- the text is out, and then a beginning of what comes after it
pub IsBegun-after_text : (a b c : Option (List ℕ)) (text more : List ℕ) → Appends a b text → IsBegun more b c → IsBegun (text ++ more) a c
IsBegun-after_text a b c text more whole p = (
  length text + p.0,
  omega (arith, p.1, length-append text more),
  subst (Appends a c) (sym (take-append-add text more p.0)) (Appends-trans a b c text (take p.0 more) whole p.2),
)

-- the text is out, and then the newline, or a beginning of it
pub line_out : (line : Result (Unit {0}) WriteFault) (a b c : Option (List ℕ)) (text : List ℕ) → Appends a b text
    → OnOk line (Appends b c newline) → OnErr line (IsBegun newline b c) → IsLineOut text line a c
line_out (Ok u) a b c text whole ok err = Appends-trans a b c text newline whole ok
line_out (Err fault) a b c text whole ok err = IsBegun-after_text a b c text newline whole err

-- what is before the text is out, and then its line, or a beginning of it
pub line_after : (line : Result (Unit {0}) WriteFault) (a b c : Option (List ℕ)) (front text : List ℕ) → Appends a b front
    → IsLineOut text line b c → IsLineOut (front ++ text) line a c
line_after (Ok u) a b c front text whole out =
    subst (Appends a c) (sym (append_assoc front text newline)) (Appends-trans a b c front (text ++ newline) whole out)
line_after (Err fault) a b c front text whole out =
    subst (λ bytes. IsBegun bytes a c) (sym (append_assoc front text newline)) (IsBegun-after_text a b c front (text ++ newline) whole out)

-- a beginning of what is before more
pub IsBegun-append : (a b : Option (List ℕ)) (front more : List ℕ) → IsBegun front a b → IsBegun (front ++ more) a b
IsBegun-append a b front more p = (
  p.0,
  omega (arith, p.1, length-append front more),
  subst (Appends a b) (sym (take-append-le p.0 front more (omega (arith, p.1)))) p.2,
)

-- and of the line of a text that begins so
pub IsLineOut-begun : (fault : WriteFault) (a b : Option (List ℕ)) (front text : List ℕ) → IsBegun front a b → IsLineOut (front ++ text) (Err fault) a b
IsLineOut-begun fault a b front text p = IsBegun-append a b (front ++ text) newline (IsBegun-append a b front text p)

-- what is before the text is out, and then a beginning of its line
pub IsLineOut-after_begun : (fault : WriteFault) (a b c : Option (List ℕ)) (front text more : List ℕ) → Appends a b front → IsBegun text b c
    → IsLineOut (front ++ (text ++ more)) (Err fault) a c
IsLineOut-after_begun fault a b c front text more whole p = line_after (Err fault) a b c front (text ++ more) whole (IsLineOut-begun fault b c text more p)
