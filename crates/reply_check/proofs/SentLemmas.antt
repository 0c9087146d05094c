-- The header that was sent under a name, among headers in the order of their names.
use Rattle.std.specs.{Ordering.{nat_cmp, ordering_index}, Cmp.Lexicographic.{slice_cmp}, List.{HoldsAt}, List.Sorted.{IsNonDecreasingBy, IsPartitionPoint}}
use Rattle.std.proofs.Common.{◌≡◌, inl, inr, ◌↔◌, ℕ, ◌<◌, List, [], ◌∷◌, Bool, Less, Equal, Greater, Ordering, get_or, length, IsTrue, sym, ap, ◌∙◌, subst, ⊎_elim, arith}
use Rattle.std.proofs.{lemmas.Bool.{cases_lt}, lemmas.Cmp.{nat_list_cmp_total, tied_itself}, lemmas.List.Sorted.{searchable_from_sorted}}
use Rattle.pact_file.{specs.{Pact.{Header, name_cmp}, Sets.{IsRising}}, proofs.{HeaderSets.{name_cmp-total}, Searching.{IsRising-IsSortedBy}}}
use Rattle.pact_file.proofs.{SetLemmas.{OneOf-member, AllByRecursion-member}, SortedSets.{Contains-of_IsIn, IsIn-of_get_or}}
use Rattle.reply_check.{specs.{Meeting.{FitsHeader}, Sent.{IsFit, WasSent}}, proofs.Deciding.{OneOf-of_IsIn}}
use Rattle.pact_rules.{specs.{Rules.{Rules}, Lists.{OneOf, IsIn}}, proofs.OrderLemmas.{slice_cmp-Equal}}

abbrev pub by_name : List ℕ → Header → Ordering
by_name name g = slice_cmp nat_cmp g.name name

-- ---- names

slice_cmp-equal : (xs ys : List ℕ) → xs ≡ ys → slice_cmp nat_cmp xs ys ≡ Equal
slice_cmp-equal xs ys e = ap (λ s. slice_cmp nat_cmp s ys) e ∙ tied_itself nat_list_cmp_total ys

slice_cmp-less_not_equal : {P : Type 0} (xs ys : List ℕ) → slice_cmp nat_cmp xs ys ≡ Less → xs ≡ ys → P
slice_cmp-less_not_equal xs ys h e = let clash : Less ≡ Equal = sym h ∙ slice_cmp-equal xs ys e in absurd cc

IsRising-unique_name : (xs : List Header) (x y : Header) → IsRising name_cmp xs → IsIn x xs → IsIn y xs → x.name ≡ y.name → x ≡ y
IsRising-unique_name [] x y r h k e = absurd h
IsRising-unique_name (z ∷ zs) x y r (inl a) (inl b) e = a ∙ sym b
IsRising-unique_name (z ∷ zs) x y r (inl a) (inr b) e = slice_cmp-less_not_equal z.name y.name (AllByRecursion-member (λ w. name_cmp z w ≡ Less) zs y r.0 b) (ap (λ (h : Header). h.name) (sym a) ∙ e)
IsRising-unique_name (z ∷ zs) x y r (inr a) (inl b) e = slice_cmp-less_not_equal z.name x.name (AllByRecursion-member (λ w. name_cmp z w ≡ Less) zs x r.0 a) (ap (λ (h : Header). h.name) (sym b) ∙ sym e)
IsRising-unique_name (z ∷ zs) x y r (inr a) (inr b) e = IsRising-unique_name zs x y r.1 a b e

-- ---- the search

pub by_name-found : (sent : List Header) (name : List ℕ) (place : ℕ) (h : Header) → place < length sent → h ≡ get_or sent place h → HoldsAt (λ g. by_name name g ≡ Equal) sent place
    → IsIn h sent × (h.name ≡ name)
by_name-found sent name place h lt is holds =
    (IsIn-of_get_or h sent place lt (sym is), slice_cmp-Equal h.name name (subst (λ g. by_name name g ≡ Equal) (sym is) (holds h)))

pub by_name-missing : (sent : List Header) (name : List ℕ) (i : ℕ) → IsRising name_cmp sent
    → (IsNonDecreasingBy (λ g. ordering_index (by_name name g)) sent → IsPartitionPoint (λ g. by_name name g ≡ Less) (λ g. by_name name g ≡ Greater) sent i)
    → ¬ OneOf (λ g. g.name ≡ name) sent
by_name-missing sent name i r split one =
    let p = split (searchable_from_sorted nat_list_cmp_total (λ (g : Header). g.name) sent name (IsRising-IsSortedBy name_cmp name_cmp-total sent r)) in
    let o = OneOf-member (λ g. g.name ≡ name) sent one in
    let g : Header = o.0 in
    let c = Contains-of_IsIn g sent o.1 in
    let same : by_name name g ≡ Equal = slice_cmp-equal g.name name o.2 in
    ⊎_elim (λ lt. let e : Less ≡ Equal = sym (p.0 c.0 g (omega arith) lt) ∙ ap (by_name name) c.2 ∙ same in absurd cc)
    (λ le. let e : Greater ≡ Equal = sym (p.1 c.0 g le c.1) ∙ ap (by_name name) c.2 ∙ same in absurd cc) (cases_lt c.0 i)

-- ---- whether it fits

pub WasSent-iff_fits : (rules : Rules) (sent : List Header) (e h : Header) (b : Bool) → IsRising name_cmp sent → IsIn h sent × (h.name ≡ e.name) → IsTrue b ↔ FitsHeader rules e h.value → IsTrue b ↔ WasSent rules sent e
WasSent-iff_fits rules sent e h b r is fits = (
  λ t. OneOf-of_IsIn (λ g. IsFit rules e g) sent h is.0 (is.1, fits.0 t),
  λ was.
      let g = OneOf-member (λ g. IsFit rules e g) sent was in
      fits.1 (subst (λ (z : Header). FitsHeader rules e z.value) (IsRising-unique_name sent g.0 h r g.1 is.0 (g.2.0 ∙ sym is.1)) g.2.1),
)

pub WasSent-no_name : (rules : Rules) (sent : List Header) (e : Header) → ¬ OneOf (λ g. g.name ≡ e.name) sent → ¬ WasSent rules sent e
WasSent-no_name rules sent e none was =
    let g = OneOf-member (λ g. IsFit rules e g) sent was in
    none (OneOf-of_IsIn (λ h. h.name ≡ e.name) sent g.0 g.1 g.2.0)
