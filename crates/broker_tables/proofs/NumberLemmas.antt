-- The numbers of versions.
use Rattle.std.specs.{Prelude.{is_some, option_map}, List.{enumerate_from, list_any}, Ordering.{eq_by_cmp, int_cmp}, Cmp.{both_ways}}
use Rattle.std.specs.{Cmp.Lexicographic.{texts_ties}, FinMap.Entries.{find}}
use Rattle.std.proofs.Common.{◌≡◌, ◌⊎◌, inl, inr, ℕ, ℤ, pos, ◌+◌, ◌≤◌, ◌<◌, List, [], ◌∷◌, ◌++◌, map, length, Bool, true, false, cond, ◌||◌, refl, sym, ap, ◌∙◌, Some, None, Option, arith}
use Rattle.std.proofs.lemmas.Bool.{cases_Bool, eq-eqb, eqb-true, false_from_ne_true}
use Rattle.sqlite.specs.Order.{Row}
use Rattle.sqlite_keyed.proofs.ListLemmas.{map-map}
use Rattle.broker_core.specs.{declared.command.Version.{Version}, Text.{Text, same_text, same_version, version}, State.{State}, Request.{is_known}}
use Rattle.broker_core.proofs.Judgement.{same_version-equal, same_version-refl}
use Rattle.table_access.specs.Columns.{text, text_cmp, pair_cmp, whole_at}
use Rattle.broker_tables.{specs.{Numbers.{number_of}, Rows.{value_at}, Holds.{AreVersions}, Schema.{in_versions}}, proofs.Ties.{same_pair-by_both, eqb-int_cmp}}

abbrev key_of : Version → Text × Text
key_of v = (v.pacticipant, v.name)

-- versions are the same by their names
pub same_version-pair_cmp : (v w : Version) → same_version v w ≡ eq_by_cmp pair_cmp (v.pacticipant, v.name) (w.pacticipant, w.name)
same_version-pair_cmp v w = same_pair-by_both same_text same_text text_cmp text_cmp (key_of v) (key_of w) (texts_ties v.pacticipant w.pacticipant) (texts_ties v.name w.name)

-- from a number on
abbrev from : ℕ → List Version → Version → Option ℕ
from n versions v = find pair_cmp (key_of v) (map (λ e. ((e.1.pacticipant, e.1.name), e.0)) (enumerate_from n versions))

from-is_some : (n : ℕ) (versions : List Version) (v : Version) → is_some (from n versions v) ≡ list_any (same_version v) versions
from-is_some n [] v = refl
from-is_some n (w ∷ versions) v =
    elim (eq_by_cmp pair_cmp (key_of v) (key_of w)) as (λ b. is_some (cond b (Some n) (from (n + 1) versions v)) ≡ (b || list_any (same_version v) versions)) [ true ↦ refl | false ↦ from-is_some (n + 1) versions v ]
    ∙ ap (λ b. b || list_any (same_version v) versions) (sym (same_version-pair_cmp v w))

-- a version has a number if and only if it is known
pub number_of-is_some : (s : State) (v : Version) → is_some (number_of s.versions v) ≡ is_known s v
number_of-is_some s v = from-is_some 1 s.versions v

-- a version that isn't in the list has no number
pub number_of-None : (versions : List Version) (v : Version) → list_any (same_version v) versions ≡ false → number_of versions v ≡ None
number_of-None versions v free = none (number_of versions v) (from-is_some 1 versions v ∙ free)
  where
    none : (o : Option ℕ) → is_some o ≡ false → o ≡ None
    none None e = refl
    none (Some n) e = absurd cc

-- numbers run from 1 to the count
from-bounds : (n : ℕ) (versions : List Version) (v : Version) (k : ℕ) → from n versions v ≡ Some k → (n ≤ k) × (k < n + length versions)
from-bounds n [] v k h = absurd cc
from-bounds n (w ∷ versions) v k h =
    elim (eq_by_cmp pair_cmp (key_of v) (key_of w)) as (λ b. cond b (Some n) (from (n + 1) versions v) ≡ Some k → (n ≤ k) × (k < n + length (w ∷ versions))) [
      | true ↦ λ e. let same : n ≡ k = cc in (omega (arith, same), omega (arith, same))
      | false ↦ λ e. let it = from-bounds (n + 1) versions v k e in (omega (arith, it.0), omega (arith, it.1))
    ] h

-- the number of a version is at least 1 and at most the count of the versions
pub number_of-bounds : (versions : List Version) (v : Version) (k : ℕ) → number_of versions v ≡ Some k → (1 ≤ k) × (k ≤ length versions)
number_of-bounds versions v k h = let it = from-bounds 1 versions v k h in (it.0, omega (arith, it.1))

-- two versions with one number are the same
from-injective : (n : ℕ) (versions : List Version) (v w : Version) (k : ℕ) → from n versions v ≡ Some k → from n versions w ≡ Some k → v ≡ w
from-injective n [] v w k h g = absurd cc
from-injective n (x ∷ versions) v w k h g =
    go (eq_by_cmp pair_cmp (key_of v) (key_of x)) refl (eq_by_cmp pair_cmp (key_of w) (key_of x)) refl h g
    (λ a b. from-injective (n + 1) versions v w k a b) (λ a. from-bounds (n + 1) versions v k a) (λ a. from-bounds (n + 1) versions w k a)
  where
    go : (b : Bool) → eq_by_cmp pair_cmp (key_of v) (key_of x) ≡ b → (c : Bool) → eq_by_cmp pair_cmp (key_of w) (key_of x) ≡ c → cond b (Some n) (from (n + 1) versions v) ≡ Some k → cond c (Some n) (from (n + 1) versions w) ≡ Some k
        → (from (n + 1) versions v ≡ Some k → from (n + 1) versions w ≡ Some k → v ≡ w) → (from (n + 1) versions v ≡ Some k → (n + 1 ≤ k) × (k < n + 1 + length versions)) → (from (n + 1) versions w ≡ Some k → (n + 1 ≤ k) × (k < n + 1 + length versions)) → v ≡ w
    go true e true f h g later above beyond = same_version-equal v x (same_version-pair_cmp v x ∙ e) ∙ sym (same_version-equal w x (same_version-pair_cmp w x ∙ f))
    go true e false f h g later above beyond = absurd (let same : n ≡ k = cc in let far = (beyond g).0 in omega (arith, same, far))
    go false e true f h g later above beyond = absurd (let same : n ≡ k = cc in let far = (above h).0 in omega (arith, same, far))
    go false e false f h g later above beyond = later h g

-- two versions with one number are the same
pub number_of-injective : (versions : List Version) (v w : Version) (k : ℕ) → number_of versions v ≡ Some k → number_of versions w ≡ Some k → v ≡ w
number_of-injective versions v w k h g = from-injective 1 versions v w k h g

-- ---- a new version at the end

from-append : (n : ℕ) (versions : List Version) (v w : Version) → from n (versions ++ v ∷ []) w ≡ cond (is_some (from n versions w)) (from n versions w) (cond (same_version w v) (Some (n + length versions)) None)
from-append n [] v w = ap (λ b. cond b (Some n) None) (sym (same_version-pair_cmp w v)) ∙ ap (λ k. cond (same_version w v) (Some k) None) (let e : n ≡ n + 0 = omega arith in e)
from-append n (x ∷ versions) v w =
    elim (eq_by_cmp pair_cmp (key_of w) (key_of x)) as (λ b. cond b (Some n) (from (n + 1) (versions ++ v ∷ []) w)
    ≡ cond (is_some (cond b (Some n) (from (n + 1) versions w))) (cond b (Some n) (from (n + 1) versions w)) (cond (same_version w v) (Some (n + length (x ∷ versions))) None)) [
      | true ↦ refl
      | false ↦
          from-append (n + 1) versions v w
          ∙ ap (λ k. cond (is_some (from (n + 1) versions w)) (from (n + 1) versions w) (cond (same_version w v) (Some k) None)) (let e : n + 1 + length versions ≡ n + length (x ∷ versions) = omega arith in e)
    ]

-- the numbers that there are stay
pub number_of-append_same : (versions : List Version) (v w : Version) (k : ℕ) → number_of versions w ≡ Some k → number_of (versions ++ v ∷ []) w ≡ Some k
number_of-append_same versions v w k h = from-append 1 versions v w ∙ ap (λ o. cond (is_some o) o (cond (same_version w v) (Some (1 + length versions)) None)) h

-- the new one has the next
pub number_of-append_new : (versions : List Version) (v : Version) → list_any (same_version v) versions ≡ false → number_of (versions ++ v ∷ []) v ≡ Some (length versions + 1)
number_of-append_new versions v free =
    from-append 1 versions v v ∙ ap (λ o. cond (is_some o) o (cond (same_version v v) (Some (1 + length versions)) None)) (number_of-None versions v free)
    ∙ ap (λ b. cond b (Some (1 + length versions)) None) (same_version-refl v) ∙ ap Some (let e : 1 + length versions ≡ length versions + 1 = omega arith in e)

-- What depends on the number of a version stays as one is added, if it is the same for the next number as for none.
pub number_of-append_unseen : {X : Type 0} (g : Option ℕ → X) (versions : List Version) (v w : Version) → list_any (same_version v) versions ≡ false → g (Some (length versions + 1)) ≡ g None
    → g (number_of (versions ++ v ∷ []) w) ≡ g (number_of versions w)
number_of-append_unseen g versions v w free same = go (number_of versions w) refl (cases_Bool (same_version w v))
  where
    is : (o : Option ℕ) → number_of versions w ≡ o → number_of (versions ++ v ∷ []) w ≡ cond (is_some o) o (cond (same_version w v) (Some (1 + length versions)) None)
    is o e = from-append 1 versions v w ∙ ap (λ o. cond (is_some o) o (cond (same_version w v) (Some (1 + length versions)) None)) e

    go : (o : Option ℕ) → number_of versions w ≡ o → (same_version w v ≡ true) ⊎ (same_version w v ≡ false) → g (number_of (versions ++ v ∷ []) w) ≡ g (number_of versions w)
    go (Some k) e both = ap g (is (Some k) e ∙ sym e)
    go None e (inl t) = ap g (is None e ∙ ap (λ b. cond b (Some (1 + length versions)) None) t ∙ ap Some (let f : 1 + length versions ≡ length versions + 1 = omega arith in f)) ∙ same ∙ ap g (sym e)
    go None e (inr t) = ap g (is None e ∙ ap (λ b. cond b (Some (1 + length versions)) None) t ∙ sym e)

-- ---- a version's number by its row

-- the row of a version has its number
pub value_at-version_row : (rows : List Row) (versions : List Version) (p name : Text) → AreVersions versions rows → value_at pair_cmp (λ r. (text in_versions.pacticipant r, text in_versions.version r)) (whole_at in_versions.number) rows (p, name) ≡ option_map pos (number_of versions (version p name))
value_at-version_row rows versions p name is = ap (find pair_cmp (p, name)) (sym (map-map turn _ rows) ∙ ap (map turn) is) ∙ numbers 1 versions
  where
    turn : ℤ × Version → (Text × Text) × ℤ
    turn e = ((e.1.pacticipant, e.1.name), e.0)

    numbers : (m : ℕ) (vs : List Version) → find pair_cmp (p, name) (map turn (map (λ e. (pos e.0, e.1)) (enumerate_from m vs))) ≡ option_map pos (from m vs (version p name))
    numbers m [] = refl
    numbers m (v ∷ vs) =
        elim (eq_by_cmp pair_cmp (p, name) (key_of v)) as (λ b. cond b (Some (pos m)) (find pair_cmp (p, name) (map turn (map (λ e. (pos e.0, e.1)) (enumerate_from (m + 1) vs))))
        ≡ option_map pos (cond b (Some m) (from (m + 1) vs (version p name)))) [ true ↦ refl | false ↦ numbers (m + 1) vs ]

-- two versions that are there are the same if and only if their numbers are
pub number_of-same_version : (versions : List Version) (v w : Version) (n k : ℕ) → number_of versions v ≡ Some n → number_of versions w ≡ Some k → same_version v w ≡ eq_by_cmp int_cmp (pos n) (pos k)
number_of-same_version versions v w n k one two =
    both_ways _ _ (λ same. eq-eqb n k (let e : Some n ≡ Some k = sym one ∙ ap (number_of versions) (same_version-equal v w same) ∙ two in let nats : n ≡ k = cc in nats))
    (λ hit. ap (same_version v) (sym (number_of-injective versions v w k (one ∙ ap Some (eqb-true n k hit)) two)) ∙ same_version-refl v) ∙ eqb-int_cmp n k

-- a version without a number is another one than a version with a number
pub same_version-unknown : (versions : List Version) (w v : Version) (n : ℕ) → number_of versions w ≡ None → number_of versions v ≡ Some n → same_version w v ≡ false
same_version-unknown versions w v n none is =
    false_from_ne_true (same_version w v) (λ same. let both : None ≡ Some n = sym none ∙ ap (number_of versions) (same_version-equal w v same) ∙ is in absurd cc)
