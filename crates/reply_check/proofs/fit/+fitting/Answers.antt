use Rattle.std.proofs.Common.{◌≡◌, ◌∙◌, ◌<◌, ◌+◌, ℕ, Bool, List, get_or, drop, ◌&&◌, ◌++◌, ◌∷◌, [], true, false, Some, None, option_map, length, string_bytes, refl, sym, ap, arith}
use Rattle.std.proofs.lemmas.Result.{IfOk-weaker}
use Rattle.pact_paths.specs.Paths.{Location, key}
use Rattle.pact_rules.specs.{Rules.{Rules}, Walks.{HasReached}, Matching.{has_keys_of}}
use Rattle.serde_json.specs.{View.{view, items_view, members_view}, Data.{Data, Items, Members}, Find.{get_member}, declared.value.Value.{Value}}
use Rattle.serde_json.proofs.Views.{Entry}
use Rattle.reply_check.specs.{Computed.{fits, items_fit, members_fit, meets_here, example}, Deferred.{deferred_holds}}
use Rattle.reply_check.proofs.DeferredLemmas.{Defers-then, Defers-next, Defers-stop}
use Rattle.reply_check.proofs.FitLemmas.{fits-list, fits-object, fits-list_without_example, fits-object_without_example, get_member-members_view, get_member-none, members_fit-step, items_fit-step, option_map-no_view}
use Rattle.reply_check.proofs.fit.+fitting.Goals.{items_fit-in-Some+in_ok-fits_below+else-not-branch+in-Key-1, items_fit-in-Some+in_ok-fits_below+else-not-branch+in-Index-1, items_fit-in_default}
use Rattle.pact_paths.specs.Paths as paths
use Rattle.reply_check.proofs.fit.+fitting.Goals as goal

pub fits_here-returns-in-Some-clause-value : goal.fits_here-returns-in-Some-clause-value
fits_here-returns-in-Some-clause-value t c =
    let rules = c.args.rules.now in
    let x = view c.args.expected.now in
    let y = view c.args.actual.now in
    let xs = items_view c.in-Some.examples.now.items in
    let old = deferred_holds c.args.deferred.now in
    let mid = deferred_holds c.meets_here.new.deferred in
    let met : (at : Location) → HasReached rules c.args.alive.now at → mid ≡ (old && meets_here rules at x y)
    = λ at h. sym (ap (λ b. b && mid) c.if-not-branch.false) ∙ c.in_ok-meets_here.ensures.value at h in
    IfOk-weaker c.items_fit.result _ _ (λ b value at h.
    Defers-then old mid (deferred_holds c.items_fit.new.deferred) b (meets_here rules at x y) (items_fit rules at xs 0 (items_view c.in-Array.items.items)) (met at h) (value at h)
    ∙ ap (λ a. old && a) (sym (fits-list rules at x xs c.args.actual.now c.in-Array.items c.in-Array.is c.in-Some.ensures)))
    c.items_fit.ensures.value

pub fits_here-returns-in-None-clause-value : goal.fits_here-returns-in-None-clause-value
fits_here-returns-in-None-clause-value t c = λ at h.
    let mid = deferred_holds c.meets_here.new.deferred in
    sym (ap (λ b. b && mid) c.if-not-branch.false) ∙ c.in_ok-meets_here.ensures.value at h
    ∙ ap (λ a. deferred_holds c.args.deferred.now && a) (fits-list_without_example c.args.rules.now at (view c.args.expected.now) c.args.actual.now c.in-Array.items c.in-Array.is c.in-None.ensures)

pub fits_here-returns-else-not-has_keys_of-clause-value : goal.fits_here-returns-else-not-has_keys_of-clause-value
fits_here-returns-else-not-has_keys_of-clause-value t c =
    let rules = c.args.rules.now in
    let x = view c.args.expected.now in
    let y = view c.args.actual.now in
    let fs = members_view c.in-Some-as_object.examples.now.entries in
    let gs = members_view c.in-Object.members.entries in
    let old = deferred_holds c.args.deferred.now in
    let mid = deferred_holds c.meets_here.new.deferred in
    let met : (at : Location) → HasReached rules c.args.alive.now at → mid ≡ (old && meets_here rules at x y)
    = λ at h. sym (ap (λ b. b && mid) c.if-not-branch.false) ∙ c.in_ok-meets_here.ensures.value at h in
    let keys : has_keys_of fs gs ≡ true = sym c.if-not-has_keys_of.ensures in
    IfOk-weaker c.members_fit.result _ _ (λ b value at h.
    Defers-then old mid (deferred_holds c.members_fit.new.deferred) b (meets_here rules at x y) (members_fit rules at fs gs) (met at h) (value at h)
    ∙ ap (λ a. old && (meets_here rules at x y && (a && members_fit rules at fs gs))) (sym keys)
    ∙ ap (λ a. old && a) (sym (fits-object rules at x fs c.args.actual.now c.in-Object.members c.in-Object.is c.in-Some-as_object.ensures)))
    c.members_fit.ensures.value

pub fits_here-returns-in-None-as_object-clause-value : goal.fits_here-returns-in-None-as_object-clause-value
fits_here-returns-in-None-as_object-clause-value t c = λ at h.
    let mid = deferred_holds c.meets_here.new.deferred in
    sym (ap (λ b. b && mid) c.if-not-branch.false) ∙ c.in_ok-meets_here.ensures.value at h
    ∙ ap (λ a. deferred_holds c.args.deferred.now && a) (fits-object_without_example c.args.rules.now at (view c.args.expected.now) c.args.actual.now c.in-Object.members c.in-Object.is c.in-None-as_object.ensures)

-- one member more, which is expected
member-step : (rules : Rules) (at : Location) (fs : Members) (e : Entry) (its rest : List Entry) (x : Data) → its ≡ e ∷ rest → get_member (string_bytes e.0) fs ≡ Some x
    → members_fit rules at fs (members_view its) ≡ (fits rules (at ++ key (string_bytes e.0) ∷ []) x (view e.1) && members_fit rules at fs (members_view rest))
member-step rules at fs e its rest x is expected = ap (λ es. members_fit rules at fs (members_view es)) is ∙ members_fit-step rules at fs e rest (Some x) _ expected refl

-- what was answered of it, by a copy of its key
member-answered : (rules : Rules) (at : Location) (copy name : List ℕ) (x y : Data) (answer b new before : Bool) → answer ≡ b → copy ≡ name
    → (answer && new) ≡ (before && fits rules (at ++ key copy ∷ []) x y) → (b && new) ≡ (before && fits rules (at ++ key name ∷ []) x y)
member-answered rules at copy name x y answer b new before is same h =
    sym (ap (λ b. b && new) is) ∙ h ∙ ap (λ n. before && fits rules (at ++ key n ∷ []) x y) same

pub members_fit-returns-then-not-branch-clause-value : goal.members_fit-returns-then-not-branch-clause-value
members_fit-returns-then-not-branch-clause-value t c = λ at h.
    Defers-stop _ (deferred_holds c.loop-key.deferred) _ _ _ (c.loop-key.invariant.1 at h)
    (member-step c.args.rules.now at (members_view c.args.expected.now.entries) (c.in-Some.key.now, c.in-Some.member.now) _ c.next.new.self (view c.in-Some-get.example.now) c.in-Some.ensures.steps
    (get_member-members_view c.as_str.result.now (string_bytes c.in-Some.key.now) c.args.expected.now.entries (Some c.in-Some-get.example.now) c.as_str.ensures.value c.in-Some-get.ensures.value))
    (member-answered c.args.rules.now at (string_bytes c.in_ok-clone.field-0) (string_bytes c.in-Some.key.now) (view c.in-Some-get.example.now) (view c.in-Some.member.now) c.in_ok-fits_below.field-0 false _ (deferred_holds c.loop-key.deferred)
    c.if-not-branch.true c.in_ok-clone.ensures.cases (c.in_ok-fits_below.ensures.value at h))

pub members_fit-loop-key-preserved-else-not-branch : goal.members_fit-loop-key-preserved-else-not-branch
members_fit-loop-key-preserved-else-not-branch t c = (
  c.in_ok-fits_below.ensures.of,
  λ at h.
      Defers-next _ (deferred_holds c.loop-key.deferred) _ _ _ _ (c.loop-key.invariant.1 at h)
      (member-step c.args.rules.now at (members_view c.args.expected.now.entries) (c.in-Some.key.now, c.in-Some.member.now) _ c.next.new.self (view c.in-Some-get.example.now) c.in-Some.ensures.steps
      (get_member-members_view c.as_str.result.now (string_bytes c.in-Some.key.now) c.args.expected.now.entries (Some c.in-Some-get.example.now) c.as_str.ensures.value c.in-Some-get.ensures.value))
      (member-answered c.args.rules.now at (string_bytes c.in_ok-clone.field-0) (string_bytes c.in-Some.key.now) (view c.in-Some-get.example.now) (view c.in-Some.member.now) c.in_ok-fits_below.field-0 true _ (deferred_holds c.loop-key.deferred)
      c.if-not-branch.false c.in_ok-clone.ensures.cases (c.in_ok-fits_below.ensures.value at h)),
)

pub members_fit-loop-key-preserved : goal.members_fit-loop-key-preserved
members_fit-loop-key-preserved t c = (
  c.loop-key.invariant.0,
  λ at h.
      let rules = c.args.rules.now in
      let fs = members_view c.args.expected.now.entries in
      let e : Entry = (c.in-Some.key.now, c.in-Some.member.now) in
      c.loop-key.invariant.1 at h
      ∙ ap (λ a. deferred_holds c.loop-key.deferred && a) (ap (λ es. members_fit rules at fs (members_view es)) c.in-Some.ensures.steps
      ∙ members_fit-step rules at fs e c.next.new.self None true (get_member-none c.as_str.result.now (string_bytes e.0) c.args.expected.now.entries c.get.result c.as_str.ensures.value c.get.ensures.value c.in_default.not-Some) refl),
)

-- one item more, of which nothing but what is deferred is left to be asked
item-answered : (rules : Rules) (at : Location) (xs : Items) (i : ℕ) (ts : List Value) (y : Value) (x : Data) (all before answer new : Bool) → i < length ts → y ≡ get_or ts i y → Some x ≡ example xs i
    → all ≡ (before && items_fit rules at xs i (items_view (drop i ts))) → answer ≡ true → (answer && new) ≡ (before && fits rules (at ++ paths.item i ∷ []) x (view y))
    → all ≡ (new && items_fit rules at xs (i + 1) (items_view (drop (i + 1) ts)))
item-answered rules at xs i ts y x all before answer new within is expected kept holds h =
    Defers-next all before new _ _ _ kept (items_fit-step rules at xs i ts y (Some x) _ within is expected refl) (sym (ap (λ b. b && new) holds) ∙ h)

pub items_fit-loop-index-preserved : goal.items_fit-loop-index-preserved
items_fit-loop-index-preserved t c =
    let rules = c.args.rules.now in
    let xs = items_view c.args.expected.now.items in
    let i = c.loop-index.index in
    let ts = c.deref-item-items.result.now in
    let y = c.item-item.result in
    let before = deferred_holds c.loop-index.deferred in
    let within : i < length ts = omega (arith, c.loop-index-test.true) in
    elim c.match-example_at.branch [
      | items_fit-in-Some+in_ok-fits_below+else-not-branch+in-Key-1 w ↦ rw w.deferred-is (
        w.in_ok-fits_below.ensures.of,
        λ at h.
            item-answered rules at xs i ts y (view w.in-Some.example.now) _ before w.in_ok-fits_below.field-0 _ within c.item-item.is (sym (ap (option_map (λ v. view v.now)) w.in-Some.is) ∙ c.example_at.ensures) (c.loop-index.invariant.1 at h) w.if-not-branch.false (w.in_ok-fits_below.ensures.value at h),
      )
      | items_fit-in-Some+in_ok-fits_below+else-not-branch+in-Index-1 w ↦ rw w.deferred-is (
        w.in_ok-fits_below.ensures.of,
        λ at h.
            item-answered rules at xs i ts y (view w.in-Some.example.now) _ before w.in_ok-fits_below.field-0 _ within c.item-item.is (sym (ap (option_map (λ v. view v.now)) w.in-Some.is) ∙ c.example_at.ensures) (c.loop-index.invariant.1 at h) w.if-not-branch.false (w.in_ok-fits_below.ensures.value at h),
      )
      | items_fit-in_default w ↦ rw w.deferred-is (
        c.loop-index.invariant.0,
        λ at h. c.loop-index.invariant.1 at h
            ∙ ap (λ a. before && a) (items_fit-step rules at xs i ts y None true within c.item-item.is (option_map-no_view c.example_at.result w.in_default.not-Some ∙ c.example_at.ensures) refl),
      )
    ]
