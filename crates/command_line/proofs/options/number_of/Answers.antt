use Rattle.std.proofs.Common.{◌≡◌, ℕ, Option, Some, None, ap, sym, unwrap_or, ◌∙◌, arith}
use Rattle.clap.specs.Words.{found_of}
use Rattle.command_line.proofs.NumberLemmas.{HasNoNumber-of_unread, ReadsOne-number}
use Rattle.command_line.proofs.options.number_of.Goals as goal

pub returns-in-Some : goal.returns-in-Some
returns-in-Some c =
    let read = ReadsOne-number (found_of c.args.matches.now) c.args.name.now c.get_one.result c.in-Some.number c.get_one.ensures.none c.get_one.ensures.value c.in-Some.is in
    (read.0, read.1, read.2, read.3, omega arith, omega arith)

-- the only number is this one
same : (r : Option ℕ) (n m : ℕ) → r ≡ Some n → r ≡ Some m → m ≡ n
same r n m is other = ap (λ (o : Option ℕ). unwrap_or o 0) (sym other ∙ is)

pub returns-in_default : goal.returns-in_default
returns-in_default c =
    HasNoNumber-of_unread (found_of c.args.matches.now) c.args.name.now c.get_one.result c.get_one.ensures.value
    (λ m is low high. let e = same c.get_one.result c.in-Some.number m c.in-Some.is is in omega (arith, c.if-number-le1000000.false))

pub returns-in_default-2 : goal.returns-in_default-2
returns-in_default-2 c =
    HasNoNumber-of_unread (found_of c.args.matches.now) c.args.name.now c.get_one.result c.get_one.ensures.value
    (λ m is low high. let e = same c.get_one.result c.in-Some.number m c.in-Some.is is in omega (arith, c.if-number-ge1.false))

pub returns-in_default-3 : goal.returns-in_default-3
returns-in_default-3 c =
    HasNoNumber-of_unread (found_of c.args.matches.now) c.args.name.now c.get_one.result c.get_one.ensures.value
    (λ m is low high. let bad : None ≡ Some m = sym c.in_default.is ∙ is in absurd (cc))
