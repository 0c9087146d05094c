-- Where the calls of a session lead.
use Rattle.std.proofs.Common.{◌≡◌, ◌≢◌, ◌⊎◌, ◌≤◌, inl, inr, Bool, List, [], ◌∷◌, Result, Ok, Err, true, false, IsTrue, refl, sym, subst, ap, ◌∙◌, arith}
use Rattle.sqlite.specs.{Tree.{Trees}, Held.{Held}, State.{State, HasCleanDisk}}
use Rattle.sqlite_trees.specs.View.{doubt}
use Rattle.table_access.specs.Durability.{IsOnDisk}
use Rattle.broker_core.specs.{State.{State as Broker}, Machine.{Request, is_step}, Laws.{Exit, AllNoStep, IsSession, CallLeaves, LeavesAll}}
use Rattle.broker_core.specs.{Laws.Exit.{Stepped, NoStep, WasCut}, declared.answer.Answer.{Answer}}
use Rattle.command_facts.specs.Primitives.{broker_primitives}
use Rattle.broker_database.specs.{BrokerView.{BrokerView}, Ends.{Applies}, Handed.{left_by}, Sessions.{exit_of, RunsCalls, GivenRuns}}
use Rattle.broker_database.specs.{Stored.{Stores, HoldsState}, declared.opening.Refused.{Refused}}
use Rattle.broker_core.specs.declared.answer.Answer.TheVariants as answer

-- ---- exits

exit_of-step : (a : Answer) → is_step a ≡ true → exit_of a ≡ Stepped a
exit_of-step answer.Pattern is = absurd (cc)
exit_of-step answer.Memory is = absurd (cc)
exit_of-step answer.Stopped is = absurd (cc)
exit_of-step answer.Store is = absurd (cc)
exit_of-step a is = refl

LeavesAll-no_step : (s : Broker) (calls : List (Request × Exit)) → AllNoStep calls → IsSession calls × LeavesAll broker_primitives s calls s
LeavesAll-no_step s [] none = (tt, refl)
LeavesAll-no_step s ((r, NoStep) ∷ calls) none = let rest = LeavesAll-no_step s calls none in (rest.0, (s, refl, rest.1))
LeavesAll-no_step s ((r, Stepped a) ∷ calls) none = absurd none
LeavesAll-no_step s ((r, WasCut) ∷ calls) none = absurd none

-- ---- one call

-- what a crash may leave of a command, for any answer to it
CallLeaves-cut : (s : Broker) (r : Request) (c : State) (given : Answer) (left : Trees) → Applies s r.token r.command c given → c.may_leave left
    → (t : Broker) × CallLeaves broker_primitives s r WasCut t × IsOnDisk (λ db. Stores db t) left
CallLeaves-cut s r c given left (inl steps) may = (steps.next, inr (given, steps.step), steps.keeps.left left may)
CallLeaves-cut s r c given left (inr (inl pattern)) may = (s, inl refl, pattern.2.left left may)
CallLeaves-cut s r c given left (inr (inr (inl memory))) may = (s, inl refl, memory.1.left left may)
CallLeaves-cut s r c given left (inr (inr (inr store))) may = elim (store.1.left left may) [
  | inl same ↦ (s, inl refl, same)
  | inr next ↦ (next.has.1, inr (next.has.0, next.has.2), record { schema = next.schema; sound = next.sound; has = next.has.3 })
]

-- one that wasn't answered Store: the broker goes on with what its answer says
CallLeaves-answered : (s : Broker) (r : Request) (c : State) (given : Answer) → Applies s r.token r.command c given → given ≢ answer.Store
    → (e : Exit) × (exit_of given ≡ e) × (e ≢ WasCut) × ((t : Broker) × CallLeaves broker_primitives s r e t × HoldsState t c)
CallLeaves-answered s r c given (inl steps) other = (Stepped given, exit_of-step given steps.is_machines, λ cut. cc, (steps.next, steps.step, steps.keeps))
CallLeaves-answered s r c given (inr (inl pattern)) other = (NoStep, ap exit_of pattern.0, λ cut. cc, (s, refl, pattern.2))
CallLeaves-answered s r c given (inr (inr (inl memory))) other = (NoStep, ap exit_of memory.0, λ cut. cc, (s, refl, memory.1))
CallLeaves-answered s r c given (inr (inr (inr store))) other = absurd (other store.0)

IsSession-cons : (r : Request) (exit : Exit) (calls : List (Request × Exit)) → exit ≢ WasCut → IsSession calls → IsSession ((r, exit) ∷ calls)
IsSession-cons r (Stepped a) calls going is = is
IsSession-cons r NoStep calls going is = is
IsSession-cons r WasCut calls going is = absurd (going refl)

-- ---- one session

-- calls that are a session lead to a state, which is what is found
abbrev pub Leads : Broker → List (Request × Exit) → Trees → Type 0
Leads s calls left = (t : Broker) × IsSession calls × LeavesAll broker_primitives s calls t × IsOnDisk (λ db. Stores db t) left

module _ {X : Type 0} (shown : Held X → State) where
  -- what follows a call: more calls, or the program was stopped in it
  abbrev Follows : BrokerView X → Exit → Answer → BrokerView X → List (Request × Exit) → BrokerView X → Type 0
  Follows b exit given next calls end = ((exit ≡ exit_of given) × RunsCalls shown next calls end) ⊎ ((exit ≡ WasCut) × (b.is_stopped ≡ false) × (calls ≡ []) × (end ≡ next))

  RunsCalls-doubt_le : (b end : BrokerView X) (calls : List (Request × Exit)) → RunsCalls shown b calls end → doubt (shown b.connection).is_clean ≤ doubt (shown end.connection).is_clean
  RunsCalls-doubt_le b end [] same = subst (λ (e : BrokerView X). doubt (shown b.connection).is_clean ≤ doubt (shown e.connection).is_clean) (sym same) (omega arith)
  RunsCalls-doubt_le b end ((r, exit) ∷ calls) runs = by (RunsCalls-doubt_le runs.1 end calls) runs.3
    where
      by : (RunsCalls shown runs.1 calls end → doubt (shown runs.1.connection).is_clean ≤ doubt (shown end.connection).is_clean) → Follows b exit runs.0 runs.1 calls end → doubt (shown b.connection).is_clean ≤ doubt (shown end.connection).is_clean
      by later (inl on) = let rest = later on.1 in omega (arith, runs.2.survives.1.clean, rest)
      by later (inr cut) = subst (λ (e : BrokerView X). doubt (shown b.connection).is_clean ≤ doubt (shown e.connection).is_clean) (sym cut.3) runs.2.survives.1.clean

  -- a stopped broker stays what it is
  RunsCalls-stopped : (b end : BrokerView X) (calls : List (Request × Exit)) → IsTrue b.is_stopped → RunsCalls shown b calls end → (end ≡ b) × AllNoStep calls
  RunsCalls-stopped b end [] is same = (same, tt)
  RunsCalls-stopped b end ((r, exit) ∷ calls) is runs = by (RunsCalls-stopped runs.1 end calls) runs.3
    where
      by : (IsTrue runs.1.is_stopped → RunsCalls shown runs.1 calls end → (end ≡ runs.1) × AllNoStep calls) → Follows b exit runs.0 runs.1 calls end → (end ≡ b) × AllNoStep ((r, exit) ∷ calls)
      by later (inl on) =
          let still = runs.2.stopped is in
          let rest = later (subst (λ (x : BrokerView X). IsTrue x.is_stopped) (sym still.1) is) on.1 in
          (rest.0 ∙ still.1, subst (λ (e : Exit). AllNoStep ((r, e) ∷ calls)) (sym (on.0 ∙ ap exit_of still.0)) rest.1)
      by later (inr cut) = absurd (let wrong = cut.1 in cc)

  Leads-of_runs : (s : Broker) (b end : BrokerView X) (calls : List (Request × Exit)) (left : Trees) → b.is_stopped ≡ false → HoldsState s (shown b.connection) → RunsCalls shown b calls end
      → HasCleanDisk (shown end.connection) → (shown end.connection).may_leave left → Leads s calls left
  Leads-of_runs s b end [] left running holds same clean may = (s, tt, refl, holds.left left (subst (λ (e : BrokerView X). (shown e.connection).may_leave left) same may))
  Leads-of_runs s b end ((r, exit) ∷ calls) left running holds runs clean may =
      by (λ t on held rest. Leads-of_runs t runs.1 end calls left on held rest clean may) runs.3
    where
      given : Answer
      given = runs.0

      next : BrokerView X
      next = runs.1

      -- the last call that does anything
      stops_here : exit ≡ WasCut → end ≡ next → AllNoStep calls → Leads s ((r, exit) ∷ calls) left
      stops_here cut same none =
          let now : HasCleanDisk (shown next.connection) = subst (λ (e : BrokerView X). HasCleanDisk (shown e.connection)) same clean in
          let it = CallLeaves-cut s r (shown next.connection) given left (runs.2.applies now running s holds) (subst (λ (e : BrokerView X). (shown e.connection).may_leave left) same may) in
          let rest = (LeavesAll-no_step it.0 calls none).1 in
          let led : Leads s ((r, WasCut) ∷ calls) left = (it.0, none, (it.0, it.1, rest), it.2) in
          subst (λ (e : Exit). Leads s ((r, e) ∷ calls) left) (sym cut) led

      goes_on : (is : Bool) → next.is_stopped ≡ is → ((t : Broker) → next.is_stopped ≡ false → HoldsState t (shown next.connection) → RunsCalls shown next calls end → Leads t calls left) → exit ≡ exit_of given → RunsCalls shown next calls end → Leads s ((r, exit) ∷ calls) left
      goes_on true stop later is_exit rest =
          let none = RunsCalls-stopped next end calls stop rest in
          stops_here (is_exit ∙ ap exit_of ((runs.2.stops running).0 stop)) none.0 none.1
      goes_on false on later is_exit rest =
          let more_clean = RunsCalls-doubt_le next end calls rest in
          let now : HasCleanDisk (shown next.connection) = omega (arith, more_clean, clean) in
          let it = CallLeaves-answered s r (shown next.connection) given (runs.2.applies now running s holds) (λ store. let stop = (runs.2.stops running).1 store in cc) in
          let more = later it.3.0 on it.3.2 rest in
          let led : Leads s ((r, it.0) ∷ calls) left = (more.0, IsSession-cons r it.0 calls it.2 more.1, (it.3.0, it.3.1, more.2), more.3) in
          subst (λ (e : Exit). Leads s ((r, e) ∷ calls) left) (sym (is_exit ∙ it.1)) led

      by : ((t : Broker) → next.is_stopped ≡ false → HoldsState t (shown next.connection) → RunsCalls shown next calls end → Leads t calls left) → Follows b exit given next calls end → Leads s ((r, exit) ∷ calls) left
      by later (inl on) = goes_on next.is_stopped refl later on.0 on.1
      by later (inr cut) = stops_here cut.0 cut.3 (subst AllNoStep (sym cut.2) tt)

  pub GivenRuns-clean : (given : Result (BrokerView X) (Refused X)) (calls : List (Request × Exit)) (last : Held X) → GivenRuns shown given calls last → HasCleanDisk (shown last) → HasCleanDisk (shown (left_by given))
  GivenRuns-clean (Ok b) calls last it now =
      let later = RunsCalls-doubt_le b it.0 calls it.1 in
      let clean : HasCleanDisk (shown it.0.connection) = subst (λ (c : Held X). HasCleanDisk (shown c)) (sym it.2) now in
      omega (arith, later, clean)
  GivenRuns-clean (Err refused) calls last it now = subst (λ (c : Held X). HasCleanDisk (shown c)) (sym it.1) now

  pub Leads-of_given : (s : Broker) (b : BrokerView X) (calls : List (Request × Exit)) (last : Held X) (left : Trees) → b.is_stopped ≡ false → HoldsState s (shown b.connection)
      → GivenRuns shown (Ok b) calls last → HasCleanDisk (shown last) → (shown last).may_leave left → Leads s calls left
  Leads-of_given s b calls last left running holds it clean may =
      Leads-of_runs s b it.0 calls left running holds it.1
      (subst (λ (c : Held X). HasCleanDisk (shown c)) (sym it.2) clean) (subst (λ (c : Held X). (shown c).may_leave left) (sym it.2) may)
