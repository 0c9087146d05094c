use Rattle.std.proofs.{Common.{rules, ◌≡◌, ◌∙◌, ◌&&◌, length, map, Some, slice_get, refl, sym, ap}, lemmas.Option.{same_Some, slice_get_read, slice_get_within}}
use Rattle.std.proofs.lemmas.Result.{IfOk-weaker}
use Rattle.pact_rules.specs.{Matching.{entry_holds}, RuleViews.{entry_view}}
use Rattle.serde_json.specs.View.{view}
use Rattle.reply_check.{specs.Deferred.{IsOf, texts_hold}, proofs.DeferredLemmas.{AllByRecursion-slice_get, list_all-DefersToAsk}}
use Rattle.reply_check.proofs.WalkLemmas.{has_regex-body_entry}
use Rattle.reply_check.proofs.deferred.Deferred.holds_or_defers.Goals as goal

pub returns-clause-value : goal.returns-clause-value
returns-clause-value c =
    let r = c.args.rules.now in
    let x = view c.args.expected.now in
    let y = view c.args.actual.now in
    let own = c.args.own_place in
    let groups = c.place_of.new.self.groups.items in
    let place = c.in_ok-place.place in
    let found = c.in_ok-place.ensures.place in
    let group = c.index_mut.result.now in
    let here : slice_get groups place ≡ Some group = slice_get_read groups (length groups) place group refl (slice_get_within groups place found.0 found.1) c.index_mut.ensures.value in
    let index : group.index ≡ c.args.index = ap (λ g. g.index) (same_Some group found.0 (sym here ∙ found.1)) ∙ found.2 in
    let of : IsOf r group = AllByRecursion-slice_get (IsOf r) groups place group here c.in_ok-place.ensures.of in
    IfOk-weaker c.holds_or_defers.result _ _ (λ b value e is.
    let same : entry_view group.entry.now ≡ e = same_Some (entry_view group.entry.now) e (sym of ∙ ap (slice_get (map (λ r. r.entry) r.body)) index ∙ is) in
    list_all-DefersToAsk texts_hold groups place group c.holds_or_defers.new.self b (entry_holds e x y own) here (value ∙ ap (λ e. texts_hold group && entry_holds e x y own) same)
    ∙ ap (λ a. a && entry_holds e x y own) c.in_ok-place.ensures.same)
    c.holds_or_defers.ensures.value

pub returns-clause-pattern : goal.returns-clause-pattern
returns-clause-pattern c =
    let r = c.args.rules.now in
    let groups = c.place_of.new.self.groups.items in
    let place = c.in_ok-place.place in
    let found = c.in_ok-place.ensures.place in
    let group = c.index_mut.result.now in
    let here : slice_get groups place ≡ Some group = slice_get_read groups (length groups) place group refl (slice_get_within groups place found.0 found.1) c.index_mut.ensures.value in
    let has = has_regex-body_entry r group.index (entry_view group.entry.now) (AllByRecursion-slice_get (IsOf r) groups place group here c.in_ok-place.ensures.of) in
    search (rules, has)
