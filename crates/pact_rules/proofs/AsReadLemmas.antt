-- Of a tree and of the value that is read in its place the same table is read.
use Rattle.std.specs.{Cmp.Lexicographic.{slice_cmp}, List.{AllByRecursion}, List.Sorted.{IsStrictlySortedBy}, Map.{keys_of}}
use Rattle.std.specs.{Ordering.{match_ordering, ordering_reverse}, Option.{ok_or}}
use Rattle.std.proofs.Common.{◌≡◌, ℕ, Bool, true, false, ◌^◌, nat_lt, List, [], ◌∷◌, ◌++◌, map, Option, None, Some, option_map, option_and_then, is_some, Result, Ok, Err, MatchResult, subst, String, Global, Ordering, Less, Equal, Greater, string_bytes, string_cmp, nat_cmp, codes, cond, refl, sym, ap, ◌∙◌}
use Rattle.std.proofs.lemmas.Cmp.{nat_list_cmp_total}
use Rattle.serde_json.specs.Data.{Num, unsigned, negative, float, Data, null, boolean, number, string, array, object, Items, no_items, item, Members, no_members, member, put}
use Rattle.serde_json.specs.{Find.{get_member, as_object}, View.{view, items_of, items_view}, declared.value.Value.{Value}}
use Rattle.pact_trees.specs.{Trees.{data_of, items_data, members_data}, declared.tree.Tree.{Tree}}
use Rattle.pact_paths.specs.Paths.{Token}
use Rattle.pact_rules.specs.{AsRead.{bound_or_less, as_read, items_as_read, members_as_read}, Outcome.{◌>>=◌}, declared.rule_fault.RuleFault.{RuleFault}}
use Rattle.pact_rules.specs.declared.rule_fault.RuleFault.TheVariants.{Form, Memory}
use Rattle.pact_rules.specs.Rules.{Entry, BodyRule, HeaderRule, Rules, put as put_rule, rule_text, name_key, no_rules}
use Rattle.pact_rules.specs.RuleReading.{as_bound, unless_null, optional_at, as_text, as_list, bound, is_null_node, has_old_key, include_at, entries_at, pattern_at, same_type_at, named_matcher, nameless_matcher, matcher_by, matcher_at, matchers_at, combine_of, entry_at, header_rule_at, headers_in, body_rule_at, body_in, category_at, categories_at, found_in, table_in, IsReading}

-- ---- looking into a value

abbrev seen : Option Data → Option Data
seen o = option_map as_read o

seen-match_ordering : (o : Ordering) (a b c : Option Data) → seen (match_ordering o a b c) ≡ match_ordering o (seen a) (seen b) (seen c)
seen-match_ordering Less a b c = refl
seen-match_ordering Equal a b c = refl
seen-match_ordering Greater a b c = refl

member_seen : (k : List ℕ) (ms : Members) → get_member k (members_as_read ms) ≡ seen (get_member k ms)
member_seen k no_members = refl
member_seen k (member l d ms) = rw (member_seen k ms) (sym (seen-match_ordering (slice_cmp nat_cmp k l) (get_member k ms) (Some d) (get_member k ms)))

not_null : (o : Option Data) → option_and_then unless_null (seen o) ≡ seen (option_and_then unless_null o)
not_null None = refl
not_null (Some null) = refl
not_null (Some (boolean b)) = refl
not_null (Some (number n)) = refl
not_null (Some (string s)) = refl
not_null (Some (array ds)) = refl
not_null (Some (object ms)) = refl

optional_seen : (ms : Members) (k : List ℕ) → optional_at (members_as_read ms) k ≡ seen (optional_at ms k)
optional_seen ms k = ap (option_and_then unless_null) (member_seen k ms) ∙ not_null (get_member k ms)

text_seen : (o : Option Data) → as_text (seen o) ≡ as_text o
text_seen None = refl
text_seen (Some null) = refl
text_seen (Some (boolean b)) = refl
text_seen (Some (number n)) = refl
text_seen (Some (string s)) = refl
text_seen (Some (array ds)) = refl
text_seen (Some (object ms)) = refl

list_seen : (o : Option Data) → as_list (seen o) ≡ option_map items_as_read (as_list o)
list_seen None = refl
list_seen (Some null) = refl
list_seen (Some (boolean b)) = refl
list_seen (Some (number n)) = refl
list_seen (Some (string s)) = refl
list_seen (Some (array ds)) = refl
list_seen (Some (object ms)) = refl

object_seen : (d : Data) → as_object (as_read d) ≡ option_map members_as_read (as_object d)
object_seen null = refl
object_seen (boolean b) = refl
object_seen (number n) = refl
object_seen (string s) = refl
object_seen (array ds) = refl
object_seen (object ms) = refl

some_seen : (o : Option Data) → is_some (seen o) ≡ is_some o
some_seen None = refl
some_seen (Some d) = refl

null_seen : (d : Data) → is_null_node (as_read d) ≡ is_null_node d
null_seen null = refl
null_seen (boolean b) = refl
null_seen (number n) = refl
null_seen (string s) = refl
null_seen (array ds) = refl
null_seen (object ms) = refl

-- ---- bounds

fits : (b : Bool) (n : ℕ) → nat_lt n (2 ^ 64) ≡ b → as_bound (bound_or_less (cond b (Some n) None)) ≡ cond b (Some n) None
fits true n e = rw e refl
fits false n e = refl

number_seen : (n : Num) → as_bound (bound_or_less (as_bound n)) ≡ as_bound n
number_seen (unsigned n) = fits (nat_lt n (2 ^ 64)) n refl
number_seen (negative z) = refl
number_seen (float x) = refl

bound_seen : (o : Option Data) → bound (seen o) ≡ bound o
bound_seen None = refl
bound_seen (Some null) = refl
bound_seen (Some (boolean b)) = refl
bound_seen (Some (number n)) = rw (number_seen n) refl
bound_seen (Some (string s)) = refl
bound_seen (Some (array ds)) = refl
bound_seen (Some (object ms)) = refl

-- ---- matchers and entries

old_seen : (ms : Members) → has_old_key (members_as_read ms) ≡ has_old_key ms
old_seen no_members = refl
old_seen (member k d ms) = rw (old_seen ms) refl

include_seen : (ms : Members) → include_at (members_as_read ms) ≡ include_at ms
include_seen ms = rw (optional_seen ms (codes "value"), text_seen (optional_at ms (codes "value"))) refl

-- an object, or else a fault
object_or : {A : Type 0} (d : Data) (e : RuleFault) (f : Members → Result A RuleFault) → ((ms : Members) → f (members_as_read ms) ≡ f ms) → (ok_or (as_object (as_read d)) e >>= f) ≡ (ok_or (as_object d) e >>= f)
object_or d e f same = ap (λ o. ok_or o e >>= f) (object_seen d) ∙ by (as_object d) where
  by : (o : Option Members) → (ok_or (option_map members_as_read o) e >>= f) ≡ (ok_or o e >>= f)
  by None = refl
  by (Some ms) = same ms

list_or : {A : Type 0} (o : Option Data) (e : RuleFault) (f : Items → Result A RuleFault) → ((ds : Items) → f (items_as_read ds) ≡ f ds) → (ok_or (as_list (seen o)) e >>= f) ≡ (ok_or (as_list o) e >>= f)
list_or o e f same = ap (λ o. ok_or o e >>= f) (list_seen o) ∙ by (as_list o) where
  by : (o : Option Items) → (ok_or (option_map items_as_read o) e >>= f) ≡ (ok_or o e >>= f)
  by None = refl
  by (Some ds) = same ds

-- what is read first is the same, and so is what follows
both_same : {A B : Type 0} (r s : Result A RuleFault) (f g : A → Result B RuleFault) → r ≡ s → ((x : A) → f x ≡ g x) → (r >>= f) ≡ (s >>= g)
both_same r (Ok x) f g e same = ap (λ r. r >>= f) e ∙ same x
both_same r (Err d) f g e same = ap (λ r. r >>= f) e

module _ (accepts : List ℕ → Bool) where
  pattern_seen : (ms : Members) → pattern_at accepts (members_as_read ms) ≡ pattern_at accepts ms
  pattern_seen ms = rw (optional_seen ms (codes "regex"), text_seen (optional_at ms (codes "regex"))) refl

  same_type_seen : (ms : Members) → same_type_at accepts (members_as_read ms) ≡ same_type_at accepts ms
  same_type_seen ms =
      rw (optional_seen ms (codes "min"), bound_seen (optional_at ms (codes "min")), optional_seen ms (codes "max"), bound_seen (optional_at ms (codes "max"))) refl

  named_seen : (in_header : Bool) (ms : Members) (name : List ℕ) → named_matcher accepts in_header (members_as_read ms) name ≡ named_matcher accepts in_header ms name
  named_seen in_header ms name = rw (same_type_seen ms, pattern_seen ms, include_seen ms) refl

  nameless_seen : (ms : Members) → nameless_matcher accepts (members_as_read ms) ≡ nameless_matcher accepts ms
  nameless_seen ms =
      rw (pattern_seen ms, same_type_seen ms, optional_seen ms (codes "regex"), some_seen (optional_at ms (codes "regex")), optional_seen ms (codes "min"), some_seen (optional_at ms (codes "min")), optional_seen ms (codes "max"), some_seen (optional_at ms (codes "max"))) refl

  matcher_by_seen : (in_header : Bool) (ms : Members) (o : Option Data) → matcher_by accepts in_header (members_as_read ms) (seen o) ≡ matcher_by accepts in_header ms o
  matcher_by_seen in_header ms None = nameless_seen ms
  matcher_by_seen in_header ms (Some d) =
      both_same _ _ (λ name. named_matcher accepts in_header (members_as_read ms) name) (λ name. named_matcher accepts in_header ms name) (ap (λ t. ok_or t Form) (text_seen (Some d))) (λ name. named_seen in_header ms name)

  matcher_seen : (in_header : Bool) (d : Data) → matcher_at accepts in_header (as_read d) ≡ matcher_at accepts in_header d
  matcher_seen in_header d =
      object_or d Form (λ fs. matcher_by accepts in_header fs (optional_at fs (codes "match"))) (λ ms. ap (matcher_by accepts in_header (members_as_read ms)) (optional_seen ms (codes "match")) ∙ matcher_by_seen in_header ms (optional_at ms (codes "match")))

  matchers_seen : (in_header : Bool) (ds : Items) → matchers_at accepts in_header (items_as_read ds) ≡ matchers_at accepts in_header ds
  matchers_seen in_header no_items = refl
  matchers_seen in_header (item d ds) = rw (matcher_seen in_header d, matchers_seen in_header ds) refl

  combine_seen : (o : Option Data) → combine_of accepts (seen o) ≡ combine_of accepts o
  combine_seen None = refl
  combine_seen (Some d) = rw (text_seen (Some d)) refl

  entry_seen : (in_header : Bool) (d : Data) → entry_at accepts in_header (as_read d) ≡ entry_at accepts in_header d
  entry_seen in_header d = object_or d Form _ (λ ms.
      ap (λ o. ok_or (as_list o) Form >>= (λ ns. after ns (optional_at (members_as_read ms) (codes "combine")))) (optional_seen ms (codes "matchers"))
      ∙ list_or (optional_at ms (codes "matchers")) Form (λ ns. after ns (optional_at (members_as_read ms) (codes "combine"))) (λ ns. rw (matchers_seen in_header ns) refl)
      ∙ ap (λ o. ok_or (as_list (optional_at ms (codes "matchers"))) Form >>= (λ ns. after ns o)) (optional_seen ms (codes "combine"))
      ∙ both_same _ _ (λ ns. after ns (seen (optional_at ms (codes "combine")))) (λ ns. after ns (optional_at ms (codes "combine"))) refl (λ ns. rw (combine_seen (optional_at ms (codes "combine"))) refl)) where
        after : Items → Option Data → Result Entry RuleFault
        after ns o = combine_of accepts o >>= (λ any. matchers_at accepts in_header ns >>= (λ ms. Ok (record { any = any; matchers = ms })))

  header_rule_seen : (before : List HeaderRule) (k : List ℕ) (d : Data) → header_rule_at accepts before k (as_read d) ≡ header_rule_at accepts before k d
  header_rule_seen before k d = rw (entry_seen true d) refl

-- ---- categories

entries_seen : {A : Type 0} (text : A → List ℕ) (read : List A → List ℕ → Data → Result A RuleFault) → ((before : List A) (k : List ℕ) (d : Data) → read before k (as_read d) ≡ read before k d)
    → (before : List A) (ms : Members) → entries_at text read before (members_as_read ms) ≡ entries_at text read before ms
entries_seen text read same before no_members = refl
entries_seen text read same before (member k d ms) =
    both_same _ _ (λ x. entries_at text read (put_rule text x before) (members_as_read ms)) (λ x. entries_at text read (put_rule text x before) ms) (same before k d) (λ x. entries_seen text read same (put_rule text x before) ms)

headers_seen : (accepts : List ℕ → Bool) (before : Rules) (d : Data) → headers_in accepts before (as_read d) ≡ headers_in accepts before d
headers_seen accepts before d = object_or d Form _ (λ ms. rw (entries_seen name_key (header_rule_at accepts) (header_rule_seen accepts) before.headers ms) refl)

module _ (paths : List ℕ → Option (List Token)) (accepts : List ℕ → Bool) where
  body_rule_seen : (before : List BodyRule) (k : List ℕ) (d : Data) → body_rule_at paths accepts before k (as_read d) ≡ body_rule_at paths accepts before k d
  body_rule_seen before k d = rw (entry_seen accepts false d) refl

  body_seen : (before : Rules) (d : Data) → body_in paths accepts before (as_read d) ≡ body_in paths accepts before d
  body_seen before d = object_or d Form _ (λ ms. rw (entries_seen rule_text (body_rule_at paths accepts) body_rule_seen before.body ms) refl)

  category_seen : (before : Rules) (k : List ℕ) (d : Data) → category_at paths accepts before k (as_read d) ≡ category_at paths accepts before k d
  category_seen before k d = rw (null_seen d, body_seen before d, headers_seen accepts before d) refl

  categories_seen : (before : Rules) (ms : Members) → categories_at paths accepts before (members_as_read ms) ≡ categories_at paths accepts before ms
  categories_seen before no_members = refl
  categories_seen before (member k d ms) =
      both_same _ _ (λ found. categories_at paths accepts found (members_as_read ms)) (λ found. categories_at paths accepts found ms) (category_seen before k d) (λ found. categories_seen found ms)

  found_seen : (d : Data) → found_in paths accepts (as_read d) ≡ found_in paths accepts d
  found_seen d = object_or d Form _ (λ ms. rw (old_seen ms, categories_seen no_rules ms) refl)

  pub table_seen : (d : Data) → table_in paths accepts (as_read d) ≡ table_in paths accepts d
  table_seen d = rw (found_seen d) refl

pub reading_seen : (d : Data) (r : Result Rules RuleFault) → IsReading (as_read d) r → IsReading d r
reading_seen d r h = (h.0, h.1, h.2, h.3, sym (table_seen h.0 h.1 d) ∙ h.4)

-- ---- the copy

abbrev pub tree_as_read : Tree → Data
tree_as_read t = as_read (data_of t)

abbrev pub Entries : Type 0
Entries = List (String Global × Tree)

-- the members of a map of trees, as they are read
abbrev pub map_as_read : Entries → Members
map_as_read es = members_as_read (members_data es)

below_middle : (first : String Global × Tree) (es : Entries) (e : String Global × Tree) (more : Entries) → AllByRecursion (λ y. string_cmp first.0 y ≡ Less) (keys_of (es ++ e ∷ more)) → string_cmp first.0 e.0 ≡ Less
below_middle first [] e more h = h.0
below_middle first (x ∷ es) e more h = below_middle first es e more h.1

-- a key that is above those before it goes last
pub read_last : (done : Entries) (e : String Global × Tree) (more : Entries) → IsStrictlySortedBy string_cmp (keys_of (done ++ e ∷ more))
    → put (string_bytes e.0) (tree_as_read e.1) (map_as_read done) ≡ map_as_read (done ++ e ∷ [])
unfolding IsStrictlySortedBy
read_last [] e more h = refl
read_last (first ∷ done) e more h =
    let above : slice_cmp nat_cmp (string_bytes e.0) (string_bytes first.0) ≡ Greater =
    nat_list_cmp_total.antisymm (string_bytes e.0) (string_bytes first.0) ∙ ap ordering_reverse (below_middle first done e more h.0) in
    rw above (ap (member (string_bytes first.0) (tree_as_read first.1)) (read_last done e more h.1))

items_tree : (ts : List Tree) → items_of (map tree_as_read ts) ≡ items_as_read (items_data ts)
items_tree [] = refl
items_tree (t ∷ ts) = rw (items_tree ts) refl

pub items_copied : (ts : List Tree) (vs : List Value) → map view vs ≡ map tree_as_read ts → items_view vs ≡ items_as_read (items_data ts)
items_copied ts vs h = ap items_of h ∙ items_tree ts

-- what is read of the copy is read of the tree
pub read_tree : (tree copy : Data) (r : Result Rules RuleFault) → copy ≡ as_read tree → MatchResult r (λ t. IsReading copy (Ok t)) (λ e. ¬ (e ≡ Memory) → IsReading copy (Err e))
    → MatchResult r (λ t. IsReading tree (Ok t)) (λ e. ¬ (e ≡ Memory) → IsReading tree (Err e))
read_tree tree copy (Ok t) is h = reading_seen tree (Ok t) (subst (λ d. IsReading d (Ok t)) is h)
read_tree tree copy (Err e) is h = λ ne. reading_seen tree (Err e) (subst (λ d. IsReading d (Err e)) is (h ne))
