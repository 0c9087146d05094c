-- The entry of a header by a search among names in lower case.
use Rattle.std.specs.{List.Sorted.{IsSortedBy, IsNonDecreasingBy, IsPartitionPoint}, Char.{to_ascii_lowercase}, Cmp.Lexicographic.{slice_cmp}}
use Rattle.std.specs.{List.{AllByRecursion, find}, Ordering.{is_lt, is_eq, ordering_index, ordering_reverse}}
use Rattle.std.specs.Str.{str_to_ascii_lowercase, str_eq_ignore_ascii_case}
use Rattle.std.proofs.Common.{◌≡◌, ℕ, zero, suc, ◌+◌, ◌<◌, List, [], ◌∷◌, Bool, false, cond, Ordering, Less, Equal, Greater, nat_cmp, Option, Some, None, option_map, map, get_or, length, bytes_eq, refl, sym, ap, ◌∙◌, subst, ⊎_elim, arith}
use Rattle.std.proofs.{lemmas.Map.Text.{is_eq-slice_cmp}, lemmas.Bool.{cases_lt}, lemmas.Cmp.{nat_list_cmp_total}, lemmas.List.Sorted.{searchable_from_sorted}}
use Rattle.pact_rules.specs.{declared.table.HeaderRule.{HeaderRule}, Rules.{IsBefore, IsOrderedBy, name_key}, RuleViews.{header_view, entry_view}}
use Rattle.pact_rules.{specs.Tables.{header_entry}, proofs.OrderLemmas.{slice_cmp-Equal}}
use Rattle.pact_rules.specs.Rules as rules

-- ---- texts in lower case, byte by byte

abbrev pub lower_cmp : List ℕ → List ℕ → Ordering
lower_cmp xs ys = slice_cmp nat_cmp (map to_ascii_lowercase xs) (map to_ascii_lowercase ys)

pub lower_cmp-longer : (xs ys more : List ℕ) (x : ℕ) → xs ≡ x ∷ more → ys ≡ [] → lower_cmp xs ys ≡ Greater
lower_cmp-longer xs ys more x h k = ap (λ zs. lower_cmp zs ys) h ∙ ap (lower_cmp (x ∷ more)) k

pub lower_cmp-shorter : (xs ys more : List ℕ) (y : ℕ) → xs ≡ [] → ys ≡ y ∷ more → lower_cmp xs ys ≡ Less
lower_cmp-shorter xs ys more y h k = ap (λ zs. lower_cmp zs ys) h ∙ ap (lower_cmp []) k

-- ---- entries in the order of their names

abbrev pub key : HeaderRule → List ℕ
key h = name_key (header_view h)

abbrev pub by_name : List ℕ → HeaderRule → Ordering
by_name name h = slice_cmp nat_cmp (key h) (str_to_ascii_lowercase name)

abbrev AreOrdered : List HeaderRule → Type 0
AreOrdered xs = IsOrderedBy name_key (map header_view xs)

slice_cmp-first_key : (x : HeaderRule) (xs : List HeaderRule) (k : ℕ) (d : HeaderRule) → AllByRecursion (λ y. IsBefore (key x) (name_key y)) (map header_view xs) → k < length xs
    → slice_cmp nat_cmp (key x) (key (get_or xs k d)) ≡ Less
slice_cmp-first_key x [] k d all h = absurd (omega (arith, h))
slice_cmp-first_key x (y ∷ ys) zero d all h = all.0
slice_cmp-first_key x (y ∷ ys) (suc k) d all h = slice_cmp-first_key x ys k d all.1 (omega (arith, h))

get_or-suc : (x : HeaderRule) (xs : List HeaderRule) (k : ℕ) (d : HeaderRule) → get_or (x ∷ xs) (suc k + 1) d ≡ get_or xs (k + 1) d
get_or-suc x xs k d = let e : suc k + 1 ≡ suc (k + 1) = omega arith in ap (λ i. get_or (x ∷ xs) i d) e

AreOrdered-neighbours : (xs : List HeaderRule) (k : ℕ) (d : HeaderRule) → k + 1 < length xs → AreOrdered xs → slice_cmp nat_cmp (key (get_or xs k d)) (key (get_or xs (k + 1) d)) ≡ Less
AreOrdered-neighbours [] k d h o = absurd (omega (arith, h))
AreOrdered-neighbours (x ∷ []) k d h o = absurd (omega (arith, h))
AreOrdered-neighbours (x ∷ y ∷ ys) zero d h o = o.0.0
AreOrdered-neighbours (x ∷ y ∷ ys) (suc k) d h o =
    subst (λ z. slice_cmp nat_cmp (key (get_or (y ∷ ys) k d)) (key z) ≡ Less) (sym (get_or-suc x (y ∷ ys) k d)) (AreOrdered-neighbours (y ∷ ys) k d (omega (arith, h)) o.1)

AreOrdered-IsSortedBy : (xs : List HeaderRule) → AreOrdered xs → IsSortedBy (λ a b. is_lt (slice_cmp nat_cmp (key a) (key b))) xs
AreOrdered-IsSortedBy xs o k d low below =
    ap is_lt (nat_list_cmp_total.antisymm (key (get_or xs (k + 1) d)) (key (get_or xs k d)) ∙ ap ordering_reverse (AreOrdered-neighbours xs k d below o))

-- ---- the entry of a name

bytes_eq-is_eq : (a b : List ℕ) (o : Ordering) → slice_cmp nat_cmp a b ≡ o → bytes_eq a b ≡ is_eq o
bytes_eq-is_eq a b o e = sym (is_eq-slice_cmp a b) ∙ ap is_eq e

abbrev first_or : List ℕ → HeaderRule → List HeaderRule → Bool → Option rules.Entry
first_or name x xs b =
    option_map (λ (h : rules.HeaderRule). h.entry) (cond b (Some (header_view x)) (find (λ (h : rules.HeaderRule). str_eq_ignore_ascii_case h.name name) (map header_view xs)))

pub header_entry-found : (xs : List HeaderRule) (i : ℕ) (d : HeaderRule) (name : List ℕ) → AreOrdered xs → i < length xs → by_name name (get_or xs i d) ≡ Equal
    → header_entry (map header_view xs) name ≡ Some (entry_view (get_or xs i d).entry)
header_entry-found [] i d name o h e = absurd (omega (arith, h))
header_entry-found (x ∷ xs) zero d name o h e = ap (first_or name x xs) (bytes_eq-is_eq (key x) (str_to_ascii_lowercase name) Equal e)
header_entry-found (x ∷ xs) (suc i) d name o h e =
    let same : key (get_or xs i d) ≡ str_to_ascii_lowercase name = slice_cmp-Equal _ _ e in
    let less : slice_cmp nat_cmp (key x) (str_to_ascii_lowercase name) ≡ Less = subst (λ s. slice_cmp nat_cmp (key x) s ≡ Less) same (slice_cmp-first_key x xs i d o.0 (omega (arith, h))) in
    ap (first_or name x xs) (bytes_eq-is_eq (key x) (str_to_ascii_lowercase name) Less less) ∙ header_entry-found xs i d name o.1 (omega (arith, h)) e

header_entry-none : (xs : List HeaderRule) (name : List ℕ) → ((k : ℕ) (d : HeaderRule) → k < length xs → is_eq (by_name name (get_or xs k d)) ≡ false) → header_entry (map header_view xs) name ≡ None
header_entry-none [] name f = refl
header_entry-none (x ∷ xs) name f =
    ap (first_or name x xs) (sym (is_eq-slice_cmp (key x) (str_to_ascii_lowercase name)) ∙ f 0 x (omega arith)) ∙ header_entry-none xs name (λ k d h. f (suc k) d (omega (arith, h)))

pub header_entry-not_found : (xs : List HeaderRule) (name : List ℕ) (i : ℕ) → AreOrdered xs
    → (IsNonDecreasingBy (λ h. ordering_index (by_name name h)) xs → IsPartitionPoint (λ h. by_name name h ≡ Less) (λ h. by_name name h ≡ Greater) xs i)
    → header_entry (map header_view xs) name ≡ None
header_entry-not_found xs name i o split =
    let p = split (searchable_from_sorted nat_list_cmp_total key xs (str_to_ascii_lowercase name) (AreOrdered-IsSortedBy xs o)) in
    header_entry-none xs name (λ k d h. ⊎_elim (λ lt. ap is_eq (p.0 k d (omega arith) lt)) (λ le. ap is_eq (p.1 k d le h)) (cases_lt k i))
