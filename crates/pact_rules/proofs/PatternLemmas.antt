-- What is read where the grammar's patterns are accepted is read with the same answer where only some are, or a pattern is met there.
use Rattle.std.specs.{List.{list_any, AllByRecursion}, Option.{ok_or}, Str.{str_eq_ignore_ascii_case}}
use Rattle.std.proofs.Common.{◌≡◌, ◌⊎◌, ℕ, Bool, true, false, not, cond, List, [], ◌∷◌, ◌++◌, append_assoc, Option, Some, None, Result, Ok, Err, bytes_eq, codes, is_some, ◌&&◌, ◌||◌, refl, sym, ap, ◌∙◌, subst, inl, inr, ⊎_elim, true≢false, arith}
use Rattle.std.proofs.{lemmas.Bool.{or_left, or_right, or_cases}, lemmas.Bool.Decides.{nat_tests}}
use Rattle.pact_rules.specs.declared.rule_fault.RuleFault.TheVariants.{Form, OldRules, BadPath, SamePathTwice, Unsupported, BadBound, Pattern, Memory}
use Rattle.pact_rules.specs.RuleReading.{no_pattern, as_text, as_list, optional_at, bound, in_order, has_old_key, pattern_at, same_type_at, named_matcher, matcher_by, matcher_at, matchers_at, combine_of, entry_at, path_fault, path_at, entries_at, body_rule_at, body_at, header_rule_at, headers_at, body_in, headers_in, is_null_node, category_at, categories_at, found_in, table_in, FailsAs}
use Rattle.pact_rules.specs.{Matching.{is_pattern}, declared.rule_fault.RuleFault.{RuleFault}}
use Rattle.pact_rules.specs.Rules.{Matcher, equality, same_type, regex, include, integer, is_null, Entry, BodyRule, HeaderRule, Rules, no_rules, IsOrderedBy, put, rule_text, name_key, has_effect, is_regex, IsRegex, entry_has_regex, has_regex}
use Rattle.pact_rules.specs.{Tables.{HasValidPattern, IsTable, effective}, Outcome.{◌>>=◌, guard}}
use Rattle.pact_rules.proofs.OrderLemmas.{AllByRecursion-put, IsOrderedBy-put, list_any-put, IsOrderedBy-filter, AllByRecursion-filter, list_any-filter}
use Rattle.serde_json.specs.{Data.{Data, Items, no_items, item, Members, no_members, member}, Find.{as_object}}
use Rattle.pact_paths.specs.{declared.path_reader.PathFault.{PathFault}, Paths.{Token}, PathReading.{path_in, path_or_none, computed_path}}
use Rattle.pact_paths.{specs.{Readings.{IsReading as IsPathReading, IsTheReading}, Spelling.{path_text}}, proofs.ReadingLemmas.{IsReading-path_in}}
use Rattle.pact_paths.proofs.Checked.{Err-injective}
use Rattle.pact_paths.specs.declared.path_reader.PathFault.TheVariants as read_fault

-- ---- the text of a path

-- the answer of a reader that isn't out of memory is what is computed
pub path_at-of_reading : (k : List ℕ) (r : Result (List Token) PathFault) → (r ≡ Err read_fault.Memory) ⊎ IsTheReading k r → ¬ (r ≡ Err read_fault.Memory) → path_at k ≡ ok_or (path_or_none r) BadPath
path_at-of_reading k r h ne = ap (λ r. ok_or (path_or_none r) BadPath) (⊎_elim (λ e. absurd (ne e)) (λ is. is.1 (path_in k) (IsReading-path_in k)) h)

pub Ok-apart_from_Err : {A F B : Type 0} {x : A} {e : F} → ◌≡◌ {A = Result A F} (Ok x) (Err e) → B
Ok-apart_from_Err h = cc

-- what a reader answers that finds each fault
module _ (k : List ℕ) (f : PathFault) where
  abbrev pub FaultIs : Type 0
  FaultIs = (◌≡◌ {A = Result (List Token) PathFault} (Err f) (Err read_fault.Memory)) ⊎ IsTheReading k (Err f)

  abbrev pub FindsFaults : Type 0
  FindsFaults = (g : PathFault) → IsPathReading k (Err g) → ◌≡◌ {A = Result (List Token) PathFault} (Err f) (Err g)

  path_at-BadPath : (f ≡ read_fault.Memory → ⊥) → FaultIs → path_at k ≡ Err BadPath
  path_at-BadPath ne h = path_at-of_reading k (Err f) h (λ e. ne (Err-injective e))

  path_at-no_fault : f ≡ read_fault.Memory → FindsFaults → (r : Result (List Token) PathFault) → IsPathReading k r → (e : RuleFault) → ok_or (path_or_none r) BadPath ≡ Err e → ⊥
  path_at-no_fault out finds (Ok path) is e h = absurd cc
  path_at-no_fault out finds (Err g) is e h = subst (IsPathReading k) (sym (finds g is) ∙ ap Err out) is

pub FailsAs-path_fault : (k : List ℕ) (f : PathFault) → FaultIs k f → FailsAs (path_fault f) (λ accepts. path_at k)
FailsAs-path_fault k read_fault.Memory h = tt
FailsAs-path_fault k f h = path_at-BadPath k f (λ e. cc) h

pub path_fault-first : (k : List ℕ) (f : PathFault) → FaultIs k f → FindsFaults k f → (e : RuleFault) → path_at k ≡ Err e → ◌≡◌ {A = Result (List Token) RuleFault} (Err (path_fault f)) (Err e)
path_fault-first k read_fault.Memory h finds e is = absurd (path_at-no_fault k read_fault.Memory refl finds (path_in k) (IsReading-path_in k) e is)
path_fault-first k f h finds e is = sym (path_at-BadPath k f (λ e. cc) h) ∙ is

-- ---- readings that go on

pub Result-Ok_injective : {A F : Type 0} {x y : A} → ◌≡◌ {A = Result A F} (Ok x) (Ok y) → x ≡ y
Result-Ok_injective e = cc

-- What is read where the grammar's patterns are accepted is P, and where only few are, the same is read, or a pattern is met and what is read is Q. A fault stays, or a pattern is met before it.
abbrev pub Goes : {A : Type 0} → (A → Type 0) → (A → Type 0) → Result A RuleFault → Result A RuleFault → Type 0
Goes {A} P Q all few =
    ((x : A) → all ≡ Ok x → P x × ((few ≡ Ok x) ⊎ ((few ≡ Err Pattern) × Q x)))
    × ((e : RuleFault) → all ≡ Err e → (few ≡ Err e) ⊎ (few ≡ Err Pattern))

Goes-Ok : {A : Type 0} (P Q : A → Type 0) (x : A) → P x → Goes P Q (Ok x) (Ok x)
Goes-Ok P Q x h = (λ y e. (subst P (Result-Ok_injective e) h, inl e), λ e k. absurd cc)

Goes-Err : {A : Type 0} (P Q : A → Type 0) (e : RuleFault) → Goes P Q (Err e) (Err e)
Goes-Err P Q e = (λ x h. absurd cc, λ d h. inl h)

Goes-weaken : {A : Type 0} (P R Q : A → Type 0) (r s : Result A RuleFault) → ((x : A) → P x → R x) → Goes P Q r s → Goes R Q r s
Goes-weaken P R Q r s f h = (λ x e. let g = h.0 x e in (f x g.0, g.1), h.1)

-- where two steps of reading rules succeed in a row, the first gave some value and the second succeeds on it
bind-is_Ok : {A B : Type 0} (r : Result A RuleFault) (f : A → Result B RuleFault) (y : B) → (r >>= f) ≡ Ok y → (x : A) × (r ≡ Ok x) × (f x ≡ Ok y)
bind-is_Ok (Ok x) f y e = (x, refl, e)
bind-is_Ok (Err d) f y e = cc

-- and where one of them fails, it is the first, or the second on what the first gave
bind-is_Err : {A B : Type 0} (r : Result A RuleFault) (f : A → Result B RuleFault) (e : RuleFault) → (r >>= f) ≡ Err e → (r ≡ Err e) ⊎ ((x : A) × (r ≡ Ok x) × (f x ≡ Err e))
bind-is_Err (Ok x) f e h = inr (x, refl, h)
bind-is_Err (Err d) f e h = inl (ap Err (Err-injective h))

-- and what a pattern in the first part makes of the whole
abbrev Also : {B : Type 0} → (B → Type 0) → Type 0 → (B → Type 0) → B → Type 0
Also R met S y = R y × (met → S y)

Goes-bind : {A B : Type 0} (P Q : A → Type 0) (R S : B → Type 0) (r s : Result A RuleFault) (f g : A → Result B RuleFault) → Goes P Q r s
    → ((x : A) → P x → Goes (Also R (Q x) S) S (f x) (g x)) → Goes R S (r >>= f) (s >>= g)
Goes-bind P Q R S r s f g h k = (
  λ y e.
      let b = bind-is_Ok r f y e in
      let first = h.0 b.0 b.1 in
      let next = (k b.0 first.0).0 y b.2 in (
        next.0.0,
        ⊎_elim (λ p. ⊎_elim (λ q. inl (ap (λ t. t >>= g) p ∙ q)) (λ q. inr (ap (λ t. t >>= g) p ∙ q.0, q.1)) next.1) (λ p. inr (ap (λ t. t >>= g) p.0, next.0.1 p.1)) first.1,
      ),
  λ e d. ⊎_elim (λ fault. ⊎_elim (λ p. inl (ap (λ t. t >>= g) p)) (λ p. inr (ap (λ t. t >>= g) p)) (h.1 e fault)) (λ b.
      let first = h.0 b.0 b.1 in
      ⊎_elim (λ p. ⊎_elim (λ q. inl (ap (λ t. t >>= g) p ∙ q)) (λ q. inr (ap (λ t. t >>= g) p ∙ q)) ((k b.0 first.0).1 e b.2)) (λ p. inr (ap (λ t. t >>= g) p.0)) first.1) (bind-is_Err r f e d),
)

-- after a step that reads no pattern
Goes-bind_same : {A B : Type 0} (P Q : B → Type 0) (r : Result A RuleFault) (f g : A → Result B RuleFault) → ((x : A) → Goes P Q (f x) (g x)) → Goes P Q (r >>= f) (r >>= g)
Goes-bind_same P Q (Ok x) f g k = k x
Goes-bind_same P Q (Err e) f g k = Goes-Err P Q e

Goes-guard : {B : Type 0} (P Q : B → Type 0) (b : Bool) (e : RuleFault) (f g : Unit {0} → Result B RuleFault) → (b ≡ false → Goes P Q (f tt) (g tt)) → Goes P Q (guard (not b) e >>= f) (guard (not b) e >>= g)
Goes-guard P Q true e f g k = Goes-Err P Q e
Goes-guard P Q false e f g k = k refl

Goes-cond : {A : Type 0} (P Q : A → Type 0) (b : Bool) (r s t u : Result A RuleFault) → Goes P Q r s → Goes P Q t u → Goes P Q (cond b r t) (cond b s u)
Goes-cond P Q true r s t u h k = h
Goes-cond P Q false r s t u h k = k

-- ---- a matcher

abbrev MatcherGoes : Result Matcher RuleFault → Result Matcher RuleFault → Type 0
MatcherGoes all few = Goes HasValidPattern IsRegex all few

-- ---- an entry

abbrev AreValid : List Matcher → Type 0
AreValid ms = AllByRecursion HasValidPattern ms

abbrev AnyRegex : List Matcher → Type 0
AnyRegex ms = list_any is_regex ms ≡ true

abbrev HasValidPatterns : Entry → Type 0
HasValidPatterns e = AreValid e.matchers

abbrev EntryRegex : Entry → Type 0
EntryRegex e = entry_has_regex e ≡ true

-- ---- the entries of a category

-- an entry of valid patterns, whose text no other has
abbrev Joins : {A : Type 0} → (A → List ℕ) → (A → Entry) → List A → A → Type 0
Joins text entry before x = HasValidPatterns (entry x) × (list_any (λ y. bytes_eq (text x) (text y)) before ≡ false)

abbrev pub BodyJoins : List BodyRule → BodyRule → Type 0
BodyJoins before r = Joins rule_text (λ (r : BodyRule). r.entry) before r

abbrev pub BodyRegex : BodyRule → Type 0
BodyRegex r = EntryRegex r.entry

abbrev pub HeaderJoins : List HeaderRule → HeaderRule → Type 0
HeaderJoins before h = Joins name_key (λ (h : HeaderRule). h.entry) before h

abbrev pub HeaderRegex : HeaderRule → Type 0
HeaderRegex h = EntryRegex h.entry

-- what held before still holds
abbrev Still : {A : Type 0} → (A → Type 0) → (A → Type 0) → A → A → Type 0
Still P Q before after = (P before → P after) × (Q before → Q after)

module _ {A : Type 0} (text : A → List ℕ) (entry : A → Entry) where
  abbrev AreHeld : List A → Type 0
  AreHeld xs = AllByRecursion (λ x. HasValidPatterns (entry x)) xs × IsOrderedBy text xs

  abbrev AnyEntry : List A → Type 0
  AnyEntry xs = list_any (λ x. entry_has_regex (entry x)) xs ≡ true

  Still-put : (before after : List A) (x : A) → Joins text entry before x → Still AreHeld AnyEntry (put text x before) after → Also (Still AreHeld AnyEntry before) (EntryRegex (entry x)) AnyEntry after
  Still-put before after x h still =
      let any = list_any-put text (λ y. entry_has_regex (entry y)) x before h.1 in
      let regex_before = list_any (λ y. entry_has_regex (entry y)) before in (
        (
          λ held. still.0 (AllByRecursion-put text (λ y. HasValidPatterns (entry y)) x before h.0 held.0, IsOrderedBy-put text x before held.1),
          λ t. still.1 (any ∙ or_right (entry_has_regex (entry x)) regex_before t),
        ),
        λ t. still.1 (any ∙ or_left (entry_has_regex (entry x)) regex_before t),
      )

  Goes-entries_at : (read less : List A → List ℕ → Data → Result A RuleFault)
      → ((before : List A) (k : List ℕ) (n : Data) → Goes (Joins text entry before) (λ x. EntryRegex (entry x)) (read before k n) (less before k n))
      → (before : List A) (fs : Members) → Goes (Still AreHeld AnyEntry before) AnyEntry (entries_at text read before fs) (entries_at text less before fs)
  Goes-entries_at read less goes before no_members = Goes-Ok (Still AreHeld AnyEntry before) AnyEntry before (λ h. h, λ h. h)
  Goes-entries_at read less goes before (member k n fs) =
      Goes-bind (Joins text entry before) (λ x. EntryRegex (entry x)) (Still AreHeld AnyEntry before) AnyEntry (read before k n) (less before k n) _ _ (goes before k n)
      (λ x h. Goes-weaken (Still AreHeld AnyEntry (put text x before)) (Also (Still AreHeld AnyEntry before) (EntryRegex (entry x)) AnyEntry) AnyEntry _ _ (λ after still. Still-put before after x h still)
      (Goes-entries_at read less goes (put text x before) fs))

abbrev BodyHeld : List BodyRule → Type 0
BodyHeld rs = AreHeld rule_text (λ (r : BodyRule). r.entry) rs

abbrev any_body : List BodyRule → Bool
any_body rs = list_any (λ r. entry_has_regex r.entry) rs

abbrev AnyBody : List BodyRule → Type 0
AnyBody rs = any_body rs ≡ true

abbrev HeadersHeld : List HeaderRule → Type 0
HeadersHeld hs = AreHeld name_key (λ (h : HeaderRule). h.entry) hs

abbrev any_header : List HeaderRule → Bool
any_header hs = list_any (λ h. entry_has_regex h.entry) hs

abbrev AnyHeader : List HeaderRule → Type 0
AnyHeader hs = any_header hs ≡ true

-- ---- a table

abbrev RulesHeld : Rules → Type 0
RulesHeld rules = BodyHeld rules.body × HeadersHeld rules.headers

abbrev pub HasRegex : Rules → Type 0
HasRegex rules = has_regex rules ≡ true

abbrev pub StillHeld : Rules → Rules → Type 0
StillHeld before rules = Still RulesHeld HasRegex before rules

-- either list of rules for another
HasRegex-map_parts : (a b : Rules) → (AnyBody a.body → AnyBody b.body) → (AnyHeader a.headers → AnyHeader b.headers) → HasRegex a → HasRegex b
HasRegex-map_parts a b body headers h =
    ⊎_elim (λ p. or_left (any_body b.body) (any_header b.headers) (body p)) (λ q. or_right (any_body b.body) (any_header b.headers) (headers q)) (or_cases (any_body a.body) (any_header a.headers) h)

AnyRegex-has_effect : (ms : List Matcher) (any : Bool) → AnyRegex ms → has_effect (record { any = any; matchers = ms }) ≡ true
AnyRegex-has_effect [] any h = absurd cc
AnyRegex-has_effect (m ∷ ms) any h = grind (arith, nat_tests)

-- ---- reading where few of the grammar's patterns are accepted

module _ (few : List ℕ → Bool) (among : (source : List ℕ) → few source ≡ true → is_pattern source ≡ true) where
  MatcherGoes-pattern_at : (fs : Members) → MatcherGoes (pattern_at is_pattern fs) (pattern_at few fs)
  MatcherGoes-pattern_at fs = Goes-bind_same HasValidPattern IsRegex (ok_or (as_text (optional_at fs (codes "regex"))) Pattern) _ _ (λ source. by source (is_pattern source) (few source) refl refl) where
    read : Bool → List ℕ → Result Matcher RuleFault
    read b source = guard b Pattern >>= (λ (u : Unit {0}). Ok (regex source))

    by : (source : List ℕ) (b c : Bool) → is_pattern source ≡ b → few source ≡ c → MatcherGoes (read b source) (read c source)
    by source true true is one = Goes-Ok HasValidPattern IsRegex (regex source) is
    by source true false is one = (λ x e. (subst HasValidPattern (Result-Ok_injective e) is, inr (refl, ap is_regex (sym (Result-Ok_injective e)))), λ e h. absurd cc)
    by source false true is one = absurd (true≢false (sym (among source one) ∙ is))
    by source false false is one = Goes-Err HasValidPattern IsRegex Pattern

  MatcherGoes-same_type_at : (fs : Members) → MatcherGoes (same_type_at is_pattern fs) (same_type_at few fs)
  MatcherGoes-same_type_at fs =
      Goes-bind_same HasValidPattern IsRegex (bound (optional_at fs (codes "min"))) _ _ (λ min.
      Goes-bind_same HasValidPattern IsRegex (bound (optional_at fs (codes "max"))) _ _ (λ max.
      Goes-bind_same HasValidPattern IsRegex (guard (in_order min max) BadBound) _ _ (λ u. Goes-Ok HasValidPattern IsRegex (same_type min max) tt)))

  MatcherGoes-named_matcher : (in_header : Bool) (fs : Members) (name : List ℕ) → MatcherGoes (named_matcher is_pattern in_header fs name) (named_matcher few in_header fs name)
  MatcherGoes-named_matcher in_header fs name =
      Goes-cond HasValidPattern IsRegex (bytes_eq name (codes "equality")) _ _ _ _ (Goes-Ok HasValidPattern IsRegex equality tt)
      (Goes-cond HasValidPattern IsRegex (bytes_eq name (codes "type")) _ _ _ _ (MatcherGoes-same_type_at fs)
      (Goes-cond HasValidPattern IsRegex (bytes_eq name (codes "regex")) _ _ _ _ (MatcherGoes-pattern_at fs)
      (Goes-cond HasValidPattern IsRegex (bytes_eq name (codes "include")) _ _ _ _
      (Goes-bind_same HasValidPattern IsRegex (ok_or (as_text (optional_at fs (codes "value"))) Form) _ _ (λ part. Goes-Ok HasValidPattern IsRegex (include part) tt))
      (Goes-cond HasValidPattern IsRegex (not in_header && (bytes_eq name (codes "integer") || bytes_eq name (codes "number"))) _ _ _ _ (Goes-Ok HasValidPattern IsRegex integer tt)
      (Goes-cond HasValidPattern IsRegex (not in_header && bytes_eq name (codes "null")) _ _ _ _ (Goes-Ok HasValidPattern IsRegex is_null tt)
      (Goes-Err HasValidPattern IsRegex (Unsupported name)))))))

  MatcherGoes-matcher_by : (in_header : Bool) (fs : Members) (n : Option Data) → MatcherGoes (matcher_by is_pattern in_header fs n) (matcher_by few in_header fs n)
  MatcherGoes-matcher_by in_header fs None =
      Goes-cond HasValidPattern IsRegex (is_some (optional_at fs (codes "regex"))) _ _ _ _ (MatcherGoes-pattern_at fs)
      (Goes-cond HasValidPattern IsRegex (is_some (optional_at fs (codes "min")) || is_some (optional_at fs (codes "max"))) _ _ _ _ (MatcherGoes-same_type_at fs)
      (Goes-Err HasValidPattern IsRegex (Unsupported (codes "?"))))
  MatcherGoes-matcher_by in_header fs (Some n) = Goes-bind_same HasValidPattern IsRegex (ok_or (as_text (Some n)) Form) _ _ (λ name. MatcherGoes-named_matcher in_header fs name)

  MatcherGoes-matcher_at : (in_header : Bool) (n : Data) → MatcherGoes (matcher_at is_pattern in_header n) (matcher_at few in_header n)
  MatcherGoes-matcher_at in_header n = Goes-bind_same HasValidPattern IsRegex (ok_or (as_object n) Form) _ _ (λ fs. MatcherGoes-matcher_by in_header fs (optional_at fs (codes "match")))

  Goes-matchers_at : (in_header : Bool) (ns : Items) → Goes AreValid AnyRegex (matchers_at is_pattern in_header ns) (matchers_at few in_header ns)
  Goes-matchers_at in_header no_items = Goes-Ok AreValid AnyRegex [] tt
  Goes-matchers_at in_header (item n ns) =
      Goes-bind HasValidPattern IsRegex AreValid AnyRegex (matcher_at is_pattern in_header n) (matcher_at few in_header n) _ _ (MatcherGoes-matcher_at in_header n) (λ m valid.
      Goes-bind AreValid AnyRegex (Also AreValid (IsRegex m) AnyRegex) AnyRegex (matchers_at is_pattern in_header ns) (matchers_at few in_header ns) _ _
      (Goes-matchers_at in_header ns) (λ ms others. Goes-Ok (Also (Also AreValid (IsRegex m) AnyRegex) (AnyRegex ms) AnyRegex) AnyRegex (m ∷ ms)
      (((valid, others), or_left (is_regex m) (list_any is_regex ms)), or_right (is_regex m) (list_any is_regex ms))))

  Goes-entry_at : (in_header : Bool) (n : Data) → Goes HasValidPatterns EntryRegex (entry_at is_pattern in_header n) (entry_at few in_header n)
  Goes-entry_at in_header n =
      Goes-bind_same HasValidPatterns EntryRegex (ok_or (as_object n) Form) _ _ (λ fs.
      Goes-bind_same HasValidPatterns EntryRegex (ok_or (as_list (optional_at fs (codes "matchers"))) Form) _ _ (λ ns.
      Goes-bind_same HasValidPatterns EntryRegex (combine_of is_pattern (optional_at fs (codes "combine"))) _ _ (λ any.
      Goes-bind AreValid AnyRegex HasValidPatterns EntryRegex (matchers_at is_pattern in_header ns) (matchers_at few in_header ns) _ _ (Goes-matchers_at in_header ns)
      (λ ms valid. Goes-Ok (Also HasValidPatterns (AnyRegex ms) EntryRegex) EntryRegex (record { any = any; matchers = ms }) (valid, λ t. t)))))

  pub Goes-body_rule_at : (before : List BodyRule) (k : List ℕ) (n : Data) → Goes (BodyJoins before) BodyRegex (body_rule_at computed_path is_pattern before k n) (body_rule_at computed_path few before k n)
  Goes-body_rule_at before k n =
      Goes-bind_same (BodyJoins before) BodyRegex (ok_or (computed_path k) BadPath) _ _ (λ path.
      Goes-guard (BodyJoins before) BodyRegex (list_any (λ r. bytes_eq (path_text path) (rule_text r)) before) SamePathTwice _ _ (λ free.
      Goes-bind HasValidPatterns EntryRegex (BodyJoins before) BodyRegex (entry_at is_pattern false n) (entry_at few false n) _ _ (Goes-entry_at false n)
      (λ e valid. Goes-Ok (Also (BodyJoins before) (EntryRegex e) BodyRegex) BodyRegex (record { path = path; entry = e }) ((valid, free), λ t. t))))

  pub Goes-header_rule_at : (before : List HeaderRule) (k : List ℕ) (n : Data) → Goes (HeaderJoins before) HeaderRegex (header_rule_at is_pattern before k n) (header_rule_at few before k n)
  Goes-header_rule_at before k n =
      Goes-guard (HeaderJoins before) HeaderRegex (list_any (λ h. str_eq_ignore_ascii_case k h.name) before) SamePathTwice _ _ (λ free.
      Goes-bind HasValidPatterns EntryRegex (HeaderJoins before) HeaderRegex (entry_at is_pattern true n) (entry_at few true n) _ _ (Goes-entry_at true n)
      (λ e valid. Goes-Ok (Also (HeaderJoins before) (EntryRegex e) HeaderRegex) HeaderRegex (record { name = k; entry = e }) ((valid, free), λ t. t)))

  Goes-body_in : (before : Rules) (n : Data) → Goes (StillHeld before) HasRegex (body_in computed_path is_pattern before n) (body_in computed_path few before n)
  Goes-body_in before n =
      Goes-bind_same (StillHeld before) HasRegex (ok_or (as_object n) Form) _ _ (λ fs.
      Goes-bind (Still BodyHeld AnyBody before.body) AnyBody (StillHeld before) HasRegex (body_at is_pattern before.body fs) (body_at few before.body fs) _ _
      (Goes-entries_at rule_text (λ (r : BodyRule). r.entry) (body_rule_at computed_path is_pattern) (body_rule_at computed_path few) Goes-body_rule_at before.body fs) (λ body still.
      let rules : Rules = record { body = body; headers = before.headers } in
      Goes-Ok (Also (StillHeld before) (AnyBody body) HasRegex) HasRegex rules
      ((λ all. (still.0 all.0, all.1), HasRegex-map_parts before rules still.1 (λ q. q)), or_left (any_body body) (any_header before.headers))))

  Goes-headers_in : (before : Rules) (n : Data) → Goes (StillHeld before) HasRegex (headers_in is_pattern before n) (headers_in few before n)
  Goes-headers_in before n =
      Goes-bind_same (StillHeld before) HasRegex (ok_or (as_object n) Form) _ _ (λ fs.
      Goes-bind (Still HeadersHeld AnyHeader before.headers) AnyHeader (StillHeld before) HasRegex (headers_at is_pattern before.headers fs) (headers_at few before.headers fs) _ _
      (Goes-entries_at name_key (λ (h : HeaderRule). h.entry) (header_rule_at is_pattern) (header_rule_at few) Goes-header_rule_at before.headers fs) (λ headers still.
      let rules : Rules = record { body = before.body; headers = headers } in
      Goes-Ok (Also (StillHeld before) (AnyHeader headers) HasRegex) HasRegex rules
      ((λ all. (all.0, still.0 all.1), HasRegex-map_parts before rules (λ p. p) still.1), or_right (any_body before.body) (any_header headers))))

  pub Goes-category_at : (before : Rules) (k : List ℕ) (n : Data) → Goes (StillHeld before) HasRegex (category_at computed_path is_pattern before k n) (category_at computed_path few before k n)
  Goes-category_at before k n =
      rules_if (bytes_eq k (codes "body")) _ _ _ _ (rules_if (is_null_node n) _ _ _ _ same (Goes-body_in before n))
      (rules_if (bytes_eq k (codes "header")) _ _ _ _ (rules_if (is_null_node n) _ _ _ _ same (Goes-headers_in before n))
      (rules_if (bytes_eq k (codes "path") || bytes_eq k (codes "query")) _ _ _ _ same (Goes-Err (StillHeld before) HasRegex (Unsupported k)))) where
        rules_if : (b : Bool) (r s t u : Result Rules RuleFault) → Goes (StillHeld before) HasRegex r s → Goes (StillHeld before) HasRegex t u → Goes (StillHeld before) HasRegex (cond b r t) (cond b s u)
        rules_if b r s t u h k = Goes-cond (StillHeld before) HasRegex b r s t u h k

        same : Goes (StillHeld before) HasRegex (Ok before) (Ok before)
        same = Goes-Ok (StillHeld before) HasRegex before (λ h. h, λ h. h)

  Goes-categories_at : (before : Rules) (fs : Members) → Goes (StillHeld before) HasRegex (categories_at computed_path is_pattern before fs) (categories_at computed_path few before fs)
  Goes-categories_at before no_members = Goes-Ok (StillHeld before) HasRegex before (λ h. h, λ h. h)
  Goes-categories_at before (member k n fs) =
      Goes-bind (StillHeld before) HasRegex (StillHeld before) HasRegex (category_at computed_path is_pattern before k n) (category_at computed_path few before k n) _ _ (Goes-category_at before k n)
      (λ found still. Goes-weaken (StillHeld found) (Also (StillHeld before) (HasRegex found) HasRegex) HasRegex _ _ (λ after more. ((λ h. more.0 (still.0 h), λ t. more.1 (still.1 t)), more.1)) (Goes-categories_at found fs))

  -- what is read is a table
  pub Goes-table_in : (tree : Data) → Goes IsTable HasRegex (table_in computed_path is_pattern tree) (table_in computed_path few tree)
  Goes-table_in tree =
      Goes-bind RulesHeld HasRegex IsTable HasRegex (found_in computed_path is_pattern tree) (found_in computed_path few tree) _ _
      (Goes-bind_same RulesHeld HasRegex (ok_or (as_object tree) Form) _ _ (λ fs. Goes-bind_same RulesHeld HasRegex (guard (not (has_old_key fs)) OldRules) _ _ (λ u.
      Goes-weaken (StillHeld no_rules) RulesHeld HasRegex _ _ (λ found still. still.0 ((tt, tt), (tt, tt))) (Goes-categories_at no_rules fs))))
      (λ found held. Goes-Ok (Also IsTable (HasRegex found) HasRegex) HasRegex (effective found) (
        record {
          order = IsOrderedBy-filter (λ (r : BodyRule). has_effect r.entry) rule_text found.body held.0.1;
          names = IsOrderedBy-filter (λ (h : HeaderRule). has_effect h.entry) name_key found.headers held.1.1;
          body = AllByRecursion-filter (λ (r : BodyRule). has_effect r.entry) (λ (r : BodyRule). HasValidPatterns r.entry) found.body held.0.0;
          headers = AllByRecursion-filter (λ (h : HeaderRule). has_effect h.entry) (λ (h : HeaderRule). HasValidPatterns h.entry) found.headers held.1.0;
        },
        HasRegex-map_parts found (effective found)
            (list_any-filter (λ (r : BodyRule). has_effect r.entry) (λ (r : BodyRule). entry_has_regex r.entry) found.body (λ r t. AnyRegex-has_effect r.entry.matchers r.entry.any t))
            (list_any-filter (λ (h : HeaderRule). has_effect h.entry) (λ (h : HeaderRule). entry_has_regex h.entry) found.headers (λ h t. AnyRegex-has_effect h.entry.matchers h.entry.any t)),
      ))

-- and where none is
pub no_pattern-is_pattern : (source : List ℕ) → no_pattern source ≡ true → is_pattern source ≡ true
no_pattern-is_pattern source e = absurd (true≢false (sym e))

-- if the next step ends with the fault Pattern, so does the whole, also if fewer patterns are accepted
pub Goes-next_Pattern : {A B : Type 0} (P Q : A → Type 0) (r s : Result A RuleFault) (f : A → Result B RuleFault) (x : A) → Goes P Q r s → r ≡ Ok x → f x ≡ Err Pattern
    → (s >>= f) ≡ Err Pattern
Goes-next_Pattern P Q r s f x goes e h = ⊎_elim (λ p. ap (λ t. t >>= f) p ∙ h) (λ p. ap (λ t. t >>= f) p.0) (goes.0 x e).1

-- a fault of the first part is one of the whole
pub FailsAs-bind : {A B : Type 0} (e : RuleFault) (read : (List ℕ → Bool) → Result A RuleFault) (whole : (List ℕ → Bool) → Result B RuleFault) (next : (List ℕ → Bool) → A → Result B RuleFault)
    → ((accepts : List ℕ → Bool) → whole accepts ≡ (read accepts >>= next accepts)) → FailsAs e read → FailsAs e whole
FailsAs-bind Memory read whole next h f = tt
FailsAs-bind Pattern read whole next h f = h no_pattern ∙ ap (λ t. t >>= next no_pattern) f
FailsAs-bind e read whole next h f = h is_pattern ∙ ap (λ t. t >>= next is_pattern) f

-- whether another has the text
pub list_any-same_text : {A : Type 0} (text : A → List ℕ) (before : List A) (t name key : List ℕ) (r b : Bool) → t ≡ name → name ≡ key → r ≡ list_any (λ x. bytes_eq t (text x)) before → r ≡ b → list_any (λ x. bytes_eq key (text x)) before ≡ b
list_any-same_text text before t name key r b is same h k = sym (ap (λ y. list_any (λ x. bytes_eq y (text x)) before) (is ∙ same)) ∙ sym h ∙ k

pub body_rule_at-taken_path : (before : List BodyRule) (k : List ℕ) (n : Data) (p : List Token) → path_at k ≡ Ok p → list_any (λ r. bytes_eq (path_text p) (rule_text r)) before ≡ true
    → body_rule_at computed_path is_pattern before k n ≡ Err SamePathTwice
body_rule_at-taken_path before k n p e t = rw (e, t) refl

pub body_rule_at-free_path : (before : List BodyRule) (k : List ℕ) (n : Data) (p : List Token) → path_at k ≡ Ok p → list_any (λ r. bytes_eq (path_text p) (rule_text r)) before ≡ false
    → (accepts : List ℕ → Bool) → body_rule_at computed_path accepts before k n ≡ (entry_at accepts false n >>= (λ e. Ok (record { path = p; entry = e })))
body_rule_at-free_path before k n p e t accepts = rw (e, t) refl

pub header_rule_at-free_name : (before : List HeaderRule) (k : List ℕ) (n : Data) → list_any (λ h. str_eq_ignore_ascii_case k h.name) before ≡ false
    → (accepts : List ℕ → Bool) → header_rule_at accepts before k n ≡ (entry_at accepts true n >>= (λ e. Ok (record { name = k; entry = e })))
header_rule_at-free_name before k n t accepts = rw t refl

-- ---- one matcher after the other, as the loop reads them

-- what was read before, and what is still read
abbrev pub with_front : List Matcher → Result (List Matcher) RuleFault → Result (List Matcher) RuleFault
with_front ms r = r >>= (λ x. Ok (ms ++ x))

with_front-append_push : (ms : List Matcher) (m : Matcher) (r : Result (List Matcher) RuleFault) → with_front ms (r >>= (λ x. Ok (m ∷ x))) ≡ with_front (ms ++ m ∷ []) r
with_front-append_push ms m (Ok x) = ap (λ xs. Ok xs) (sym (append_assoc ms (m ∷ []) x))
with_front-append_push ms m (Err e) = refl

pub with_front-matchers_at : (in_header : Bool) (ms : List Matcher) (n : Data) (ns : Items) (m : Matcher) → matcher_at is_pattern in_header n ≡ Ok m
    → with_front ms (matchers_at is_pattern in_header (item n ns)) ≡ with_front (ms ++ m ∷ []) (matchers_at is_pattern in_header ns)
with_front-matchers_at in_header ms n ns m e =
    ap (λ r. with_front ms (r >>= (λ m. matchers_at is_pattern in_header ns >>= (λ x. Ok (m ∷ x))))) e ∙ with_front-append_push ms m (matchers_at is_pattern in_header ns)

pub matchers_at-later_Pattern : (in_header : Bool) (n : Data) (ns : Items) (m : Matcher) → matcher_at is_pattern in_header n ≡ Ok m → matchers_at no_pattern in_header ns ≡ Err Pattern
    → matchers_at no_pattern in_header (item n ns) ≡ Err Pattern
matchers_at-later_Pattern in_header n ns m e h =
    let then = λ (m : Matcher). matchers_at no_pattern in_header ns >>= (λ x. Ok (m ∷ x)) in
    ⊎_elim (λ p. ap (λ r. r >>= then) p ∙ ap (λ r. r >>= (λ x. Ok (m ∷ x))) h) (λ p. ap (λ r. r >>= then) p.0) ((MatcherGoes-matcher_at no_pattern no_pattern-is_pattern in_header n).0 m e).1
