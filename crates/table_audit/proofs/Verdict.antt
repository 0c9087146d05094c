-- What is found by the rules is the verdict: the tables hold a state, or they hold none since a rule is broken.
use Rattle.std.proofs.Common.{◌≡◌, ◌∙◌, ℤ, Bool, true, false, Option, Some, None, refl, sym}
use Rattle.sqlite.specs.{Effect.{Database}, Order.{Row}}
use Rattle.sqlite_rules.specs.Lists.{Has}
use Rattle.broker_tables.specs.Holds.{IsBroker}
use Rattle.table_audit.specs.{Audit.{HoldsAState, IsAudited, IsBroken, Verdict, rows_under}, Shown.{AreJudged, HasOffice}, declared.auditing.Finding.{Finding}}
use Rattle.table_audit.proofs.{Complete.{IsAudited-of_HoldsAState}, Sound.{HoldsAState-of_rules}}
use Rattle.table_audit.specs.declared.auditing.TableRule.TheVariants as rule

-- no state is held if a rule is broken
IsBroken-not_held : (db : Database) → IsBroker db → (finding : Finding) → IsBroken finding db → ¬ (HoldsAState db)
IsBroken-not_held db broker finding broken held = go finding.row broken
  where
    audited : IsAudited db
    audited = IsAudited-of_HoldsAState db broker held

    go : (row : Option ℤ) → IsBroken (record finding { row = row }) db → ⊥
    go None none = none.1 audited.office.0 audited.office.1
    go (Some row) (r, has, is, breaks) = breaks (audited.each finding.rule r has)

-- meta has a row, and the rules are judged
pub Verdict-of_rules : (db : Database) → IsBroker db → (has : Bool) → has ≡ true → (found : Option Finding) → HasOffice has db → AreJudged found db → Verdict found db
Verdict-of_rules db broker has some None office each = HoldsAState-of_rules db broker (record { office = office.0 some; each = each })
Verdict-of_rules db broker has some (Some finding) office broken = (broken, IsBroken-not_held db broker finding broken)

-- or it has none
pub Verdict-no_office : (db : Database) → IsBroker db → (has : Bool) → has ≡ false → HasOffice has db → Verdict (Some (record { rule = rule.Office; row = None })) db
Verdict-no_office db broker has none office =
    let never : (r : Row) → ¬ (Has (rows_under rule.Office db) r) = λ r there. absurd (let e = sym none ∙ office.1 (r, there) in cc) in
    ((refl, never), λ held. let one = (IsAudited-of_HoldsAState db broker held).office in never one.0 one.1)
