use Rattle.std.proofs.lemmas.Result.{IfOk-weaker, IfErr-weaker}
use Rattle.table_access.proofs.CallLemmas.{CallsBetween-then_result}
use Rattle.broker_tables.proofs.TableQuery.{Shown-IsShown, Shown-now_same, IsRefusedAs-explained}
use Rattle.content_store.proofs.{ContentRows.{sharing, IsShown-found_in}, ReadableRows.{EachReads-contents_of_digest}}
use Rattle.content_store.proofs.contents.find_beside.Goals as goal

pub returns-clause-call : goal.returns-clause-call
returns-clause-call g c =
    CallsBetween-then_result _ _ c.in-Ok.value c.number_among.result _ _
    (IfOk-weaker c.number_among.result _ _ (λ found read shown.
    let asked = sharing c.args.digest.now in
    (λ broker. Shown-now_same asked _ _ broker _ shown, λ by is texts held. (IsShown-found_in by c.args.body.now c.args.digest.now is _ _ texts found held (Shown-IsShown asked _ _ held.broker _ shown) read, Shown-now_same asked _ _ held.broker _ shown)))
    (rw c.deref.ensures.value at c.number_among.ensures.ok)) (λ none. IfErr-weaker c.number_among.result _ _ (λ fault why. why.0) c.number_among.ensures.cause) c.in-Ok.ensures.leaves

-- no row that is shown is unreadable
pub returns-clause-failure : goal.returns-clause-failure
returns-clause-failure g c clean s here =
    IfErr-weaker c.number_among.result _ _
    (λ fault why. absurd (why.1.2 (EachReads-contents_of_digest c.args.digest.now _ s here.held here.readable _ (Shown-IsShown (sharing c.args.digest.now) _ _ here.held.broker _ (c.in-Ok.ensures.leaves.ok clean)) why.1.0 why.1.1)))
    (rw c.deref.ensures.value at c.number_among.ensures.cause)

pub returns-in-Err-clause-failure : goal.returns-in-Err-clause-failure
returns-in-Err-clause-failure g c clean s here = IsRefusedAs-explained (sharing c.args.digest.now) _ _ s here c.in-Err.fault (c.in-Err.ensures.cause clean)
