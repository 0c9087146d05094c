-- Why a call fails that comes after a query, and what the failure of a call is to another.
use Rattle.broker_core.specs.State.{State as Broker}
use Rattle.broker_tables.specs.{Failures.{FailsFromBetween, FailsByStoreFromBetween}, Holds.{AnswersTakingBetween, Holds, QueriesBetween}}
use Rattle.broker_tables.specs.{ChangeRefusals.{FailsByStoreTakingBetween, FailsByStoreUnlessBetween}, Room.{HasRoomFor, enough}}
use Rattle.broker_tables.proofs.QueryLemmas.{EndsBy-later_or_Memory, ShowsState-after_query}
use Rattle.broker_tables.proofs.RoomLemmas.{is_counted, HasRoomFor-HaveNumbers, HasRoomFor-fewer}
use Rattle.sqlite.specs.State.{HasCleanDisk, State}
use Rattle.std.{specs.List.{AllByRecursion}, proofs.Common.{Bool, Err, List, Ok, Result, arith, inl, inr, subst, sym, true, ℕ, ◌+◌, ◌∙◌, ◌≡◌, ◌≤◌}}
use Rattle.std.proofs.lemmas.Result.{IfErr-weaker}
use Rattle.table_access.{specs.{Calls.{CallsBetween}, declared.StoreFault.{StoreFault}}, proofs.CallLemmas.{EndsBy-later_call, EndsBy-weaken}}

module _ {A B : Type 0} {any takes : Bool} (old mid new : State) (a : A) (r : Result B StoreFault) (P : A → Broker → Type 0) (Q : B → Type 0) (First Then : Broker → Type 0) where
  -- a call after a query, whose answer shows that the state allows it
  pub FailsByStoreFromBetween-after_query : ((s : Broker) → Holds old.now s → First s → P a s → Then s) → QueriesBetween any old mid (Ok a) P → CallsBetween takes mid new r Q → FailsByStoreFromBetween mid new r Then → FailsByStoreFromBetween old new r First
  FailsByStoreFromBetween-after_query more one two why clean s here may =
      let mid_clean : HasCleanDisk mid = omega (arith, two.survives.clean, clean) in
      let read = one.ok mid_clean s here.held in
      IfErr-weaker r _ _ (λ e is. EndsBy-later_or_Memory old mid new e (one.goes_on mid_clean here.inside) one.survives.counts is) (why clean s (ShowsState-after_query old mid a P mid_clean one s here) (more s here.held may read.0))

module _ {A B : Type 0} {any takes : Bool} (TooBig : Type 0) (old mid new : State) (a : A) (r : Result B StoreFault) (P : A → Broker → Type 0) (Q : B → Type 0) (First Then : Broker → Type 0) where
  -- and what the change of the next call is to the first state
  pub FailsFromBetween-after_query : (Changes Made : Broker → Type 0) → ((s : Broker) → Holds old.now s → First s → P a s → Then s × (Made s → Changes s)) → QueriesBetween any old mid (Ok a) P → CallsBetween takes mid new r Q → FailsFromBetween mid new r TooBig Then Made → FailsFromBetween old new r TooBig First Changes
  FailsFromBetween-after_query Changes Made more one two why clean s here may =
      let mid_clean : HasCleanDisk mid = omega (arith, two.survives.clean, clean) in
      let read = one.ok mid_clean s here.held in
      let go = more s here.held may read.0 in
      let on = one.goes_on mid_clean here.inside in
      IfErr-weaker r _ _ (λ e is. elim is [
        | inl failure ↦ inl (EndsBy-later_or_Memory old mid new e on one.survives.counts failure)
        | inr made ↦ inr (go.1 made.0, λ room. EndsBy-later_call old mid new e on one.survives.counts (made.1 (subst (HasRoomFor enough) (sym read.1) room)))
      ]) (why clean s (ShowsState-after_query old mid a P mid_clean one s here) go.0)

-- the same failure, of a call with another kind of answer
pub FailsFromBetween-pass_Err : (TooBig A B : Type 0) (old new : State) (e : StoreFault) (First Changes Made : Broker → Type 0) → ((s : Broker) → First s → Made s → Changes s) → FailsFromBetween {A = A} old new (Err e) TooBig First Made → FailsFromBetween {A = B} old new (Err e) TooBig First Changes
FailsFromBetween-pass_Err TooBig A B old new e First Changes Made more why clean s here may = elim (why clean s here may) [ inl failure ↦ inl failure | inr made ↦ inr (more s may made.0, made.1) ]

-- a call that changes nothing has no change refused
pub FailsFromBetween-no_change : {A : Type 0} (TooBig : Type 0) (old new : State) (r : Result A StoreFault) (First Changes : Broker → Type 0) → FailsByStoreFromBetween old new r First → FailsFromBetween old new r TooBig First Changes
FailsFromBetween-no_change TooBig old new r First Changes why clean s here may = IfErr-weaker r _ _ (λ e is. inl is) (why clean s here may)

-- ---- changes

-- a change of tables that SQLite numbers is one of several that take numbers
pub FailsByStoreTakingBetween-of_unless : {A : Type 0} (TooBig : Type 0) (old new : State) (r : Result A StoreFault) (tables : List (List ℕ)) → AllByRecursion (λ name. is_counted name ≡ true) tables → (taken : ℕ) → 1 ≤ taken → (Allows : Broker → Type 0)
    → FailsByStoreUnlessBetween old new r tables TooBig Allows → FailsByStoreTakingBetween taken old new r TooBig Allows
FailsByStoreTakingBetween-of_unless TooBig old new r tables counted taken one Allows why clean s here may room = why clean s here may (HasRoomFor-HaveNumbers tables counted taken one old.now room)

-- what is so if a row was too big may be weakened
pub FailsByStoreUnlessBetween-weaken : {A : Type 0} (TooBig More : Type 0) (old new : State) (r : Result A StoreFault) (tables : List (List ℕ)) (Allows : Broker → Type 0) → (TooBig → More) → FailsByStoreUnlessBetween old new r tables TooBig Allows → FailsByStoreUnlessBetween old new r tables More Allows
FailsByStoreUnlessBetween-weaken TooBig More old new r tables Allows more why clean s here may room = IfErr-weaker r _ _ (λ e ended. EndsBy-weaken old new e more ended) (why clean s here may room)

pub FailsFromBetween-weaken : {A : Type 0} (TooBig More : Type 0) (old new : State) (r : Result A StoreFault) (First Changes : Broker → Type 0) → (TooBig → More) → FailsFromBetween old new r TooBig First Changes → FailsFromBetween old new r More First Changes
FailsFromBetween-weaken TooBig More old new r First Changes more why clean s here may = IfErr-weaker r _ _ (λ e it. elim it [ inl failure ↦ inl failure | inr made ↦ inr (made.0, λ room. EndsBy-weaken old new e more (made.1 room)) ]) (why clean s here may)

-- a call whose change takes few enough numbers fails so, if the state allows it
pub FailsFromBetween-of_taking : {A : Type 0} (TooBig : Type 0) (old new : State) (r : Result A StoreFault) (taken : ℕ) → taken ≤ enough → (Allows First Changes : Broker → Type 0) → ((s : Broker) → Holds old.now s → First s → Allows s × Changes s)
    → FailsByStoreTakingBetween taken old new r TooBig Allows → FailsFromBetween old new r TooBig First Changes
FailsFromBetween-of_taking TooBig old new (Ok a) taken few Allows First Changes more why clean s here may = tt
FailsFromBetween-of_taking TooBig old new (Err e) taken few Allows First Changes more why clean s here may =
    let go = more s here.held may in
    inr (go.1, λ room. why clean s (record { inside = here.inside; unlimited = here.unlimited; held = here.held }) go.0 (HasRoomFor-fewer taken enough few old.now room))

-- the same of a change after a query
pub FailsFromBetween-change_after_query : {A B : Type 0} {any takes : Bool} (TooBig : Type 0) (old mid new : State) (a : A) (r : Result B StoreFault) (P : A → Broker → Type 0) (Q : B → Type 0) (taken : ℕ) → taken ≤ enough → (Allows First Changes : Broker → Type 0)
    → ((s : Broker) → Holds old.now s → First s → P a s → Allows s × Changes s) → QueriesBetween any old mid (Ok a) P → CallsBetween takes mid new r Q → FailsByStoreTakingBetween taken mid new r TooBig Allows → FailsFromBetween old new r TooBig First Changes
FailsFromBetween-change_after_query TooBig old mid new a r P Q taken few Allows First Changes more one two why =
    FailsFromBetween-after_query TooBig old mid new a r P Q First (λ s. Allows s × Changes s) Changes Changes (λ s held may read. let go = more s held may read in (go, λ made. made)) one two
    (FailsFromBetween-of_taking TooBig mid new r taken few Allows (λ s. Allows s × Changes s) Changes (λ s held go. go) why)

-- a change after another
pub FailsByStoreTakingBetween-then : {A B : Type 0} {takes : Bool} (TooBig : Type 0) (old mid new : State) (a : A) (r : Result B StoreFault) (one two : ℕ) (Q : B → Type 0) (First : Broker → Type 0) (Next : A → Broker → Broker → Type 0) (Then : Broker → Type 0)
    → ((s : Broker) → First s → (t : Broker) → Next a s t → Then t) → AnswersTakingBetween one old mid (Ok a) First Next → CallsBetween takes mid new r Q
    → FailsByStoreTakingBetween two mid new r TooBig Then → FailsByStoreTakingBetween (two + one) old new r TooBig First
FailsByStoreTakingBetween-then TooBig old mid new a r one two Q First Next Then more first second why clean s here may room =
    let mid_clean : HasCleanDisk mid = omega (arith, second.survives.clean, clean) in
    let on = first.goes_on mid_clean here.inside in
    let next = first.ok mid_clean s here.held may in
    IfErr-weaker r _ _ (λ e is. EndsBy-later_call old mid new e on first.survives.counts is)
    (why clean next.0 (record { inside = on.0; unlimited = first.survives.limit ∙ here.unlimited; held = next.2.0 }) (more s may next.0 next.1) (next.2.1 two room))
