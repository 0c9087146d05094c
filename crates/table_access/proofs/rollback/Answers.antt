use Rattle.std.proofs.Common.{◌≡◌, Bool, true, false, not, IsTrue, refl, sym, subst}
use Rattle.table_access.specs.Unit.{FailsToRollBack}
use Rattle.table_access.proofs.rollback.Goals as goal

is_inside : (inside autocommit : Bool) → autocommit ≡ not inside → autocommit ≡ false → IsTrue inside
is_inside true autocommit is none = refl
is_inside false autocommit is none = absurd (cc)

pub returns-in-Err-clause-reports : goal.returns-in-Err-clause-reports
returns-in-Err-clause-reports g c clean =
    let inside = is_inside _ c.is_autocommit.result c.is_autocommit.ensures.value c.if-is_autocommit.false in
    subst (FailsToRollBack _ _) (sym c.fault_of.ensures) (c.in-Err.ensures.cause clean inside)
