use Rattle.std.specs.{Cmp.Lexicographic.{slice_cmp}, Map.{lookup}, BTreeMap.{is_at}}
use Rattle.std.proofs.Common.{◌≡◌, ◌∙◌, ℕ, List, Bool, true, false, is_some, string_bytes, nat_cmp, refl, sym, ap}
use Rattle.pact_rules.{specs.Matching.{has_keys_of}, proofs.MatchingLemmas.{is_some-view}}
use Rattle.serde_json.{specs.{View.{members_view}, Find.{get_member}}, proofs.Views.{Entry, view-lookup}}
use Rattle.pact_rules.proofs.matching.has_keys_of.Goals as goal

has_key : (name key : List ℕ) (es : List Entry) (r : Bool) → name ≡ key → r ≡ is_some (lookup (is_at (λ k. slice_cmp nat_cmp name (string_bytes k))) es) → is_some (get_member key (members_view es)) ≡ r
has_key name key es r is e = ap (λ k. is_some (get_member k (members_view es))) (sym is) ∙ ap is_some (sym (view-lookup name es)) ∙ is_some-view _ ∙ sym e

pub returns-then-not-contains_key : goal.returns-then-not-contains_key
returns-then-not-contains_key c =
    let e : Entry = (c.in-Some.key.now, c.in-Some.field-0-1.now) in
    let b = c.args.b.now.entries in
    let there : is_some (get_member (string_bytes e.0) (members_view b)) ≡ false = has_key c.as_str.result.now (string_bytes e.0) b c.contains_key.result c.as_str.ensures.value c.contains_key.ensures ∙ c.if-not-contains_key.true in
    sym (c.loop-key.invariant ∙ ap (λ es. has_keys_of (members_view es) (members_view b)) c.in-Some.ensures.steps ∙ rw there refl)

pub loop-key-preserved : goal.loop-key-preserved
loop-key-preserved c =
    let e : Entry = (c.in-Some.key.now, c.in-Some.field-0-1.now) in
    let b = c.args.b.now.entries in
    let there : is_some (get_member (string_bytes e.0) (members_view b)) ≡ true = has_key c.as_str.result.now (string_bytes e.0) b c.contains_key.result c.as_str.ensures.value c.contains_key.ensures ∙ c.if-not-contains_key.false in
    c.loop-key.invariant ∙ ap (λ es. has_keys_of (members_view es) (members_view b)) c.in-Some.ensures.steps ∙ rw there refl
