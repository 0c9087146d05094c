use Rattle.std.{specs.Prelude.{IsSomeAnd}, proofs.{lemmas.Result.{IfOk-weaker, IfErr-weaker}, Common.{◌≡◌, Option, Some, None, refl, inl, inr}}}
use Rattle.sqlite.specs.Table.{Table}
use Rattle.table_access.proofs.CallLemmas.{CallsBetween-then_result}
use Rattle.registry_tables.specs.Format.{IsMetaTable}
use Rattle.registry_tables.proofs.FoundFormat.{Finds-format, Shown-format_now_same, HasNoFormat-no_number, IsRefusedAs-FailsToFind}
use Rattle.registry_tables.proofs.format.format_of.Goals as goal

marked : (found : Option Table) → IsSomeAnd found IsMetaTable → (t : Table) × (found ≡ Some t) × IsMetaTable t
marked None is = absurd is
marked (Some t) is = (t, refl, is)

pub returns-clause-finds : goal.returns-clause-finds
returns-clause-finds g c =
    let has = marked _ (c.is_marked.ensures.marked.0 c.if-not-is_marked.false) in
    CallsBetween-then_result _ _ c.in-Ok.value c.one_number.result _ _
    (IfOk-weaker c.one_number.result _ _ (λ found it shown. (Finds-format _ _ has.0 has.1 has.2 c.in-Ok.value.items shown found it, Shown-format_now_same _ _ has.0 has.1 has.2 c.in-Ok.value.items shown)) (rw c.deref.ensures.value at c.one_number.ensures.ok)) (λ none. IfErr-weaker c.one_number.result _ _ (λ fault why. why.0) c.one_number.ensures.cause) c.in-Ok.ensures.leaves

pub returns-clause-cause : goal.returns-clause-cause
returns-clause-cause g c clean unlimited =
    let has = marked _ (c.is_marked.ensures.marked.0 c.if-not-is_marked.false) in
    let shown = c.in-Ok.ensures.leaves.ok clean in
    IfErr-weaker c.one_number.result _ _ (λ fault why. inr (why.0, inl (HasNoFormat-no_number _ _ has.0 has.1 has.2 c.in-Ok.value.items shown why.1 why.2 why.3))) (rw c.deref.ensures.value at c.one_number.ensures.cause)

pub returns-in-Err-clause-cause : goal.returns-in-Err-clause-cause
returns-in-Err-clause-cause g c clean unlimited =
    let has = marked _ (c.is_marked.ensures.marked.0 c.if-not-is_marked.false) in
    IsRefusedAs-FailsToFind _ _ has.0 has.1 has.2 c.is_marked.ensures.live unlimited c.in-Err.fault (c.in-Err.ensures.cause clean)
