-- Replies for one interaction, found by their keys: the description, and the text of the states.
use Rattle.std.specs.{BTreeMap.{is_at}, BTreeSet.{BTreeSet, contains, IsEmpty, Updates}, Cmp.Lexicographic.{slice_cmp}, List.{AllByRecursion, list_any}}
use Rattle.std.specs.{Ordering.{is_eq, ordering_then}, declared.cmp.Ordering.{Ordering}, declared.cmp.Ordering.TheVariants.{Equal}}
use Rattle.std.proofs.Common.{◌≡◌, inl, inr, ◌↔◌, ℕ, ◌+◌, ◌<◌, Bool, true, false, ◌&&◌, ◌||◌, cond, not, List, [], ◌∷◌, ◌++◌, length, take, drop, get_or, take-append-drop, IsTrue, Bor, bytes_eq, nat_cmp, refl, sym, ap, ap₂, ◌∙◌, subst, ⊎_elim, arith, true≢false}
use Rattle.std.proofs.{lemmas.Bool.{and_from, and_parts, or_parts, not-true, not-false}, lemmas.List.{take_more}, lemmas.List.Folds.{list_any-append}}
use Rattle.std.proofs.{lemmas.Map.Text.{is_eq-slice_cmp}, lemmas.Slice.Eq.{bytes_eq-Decides}}
use Rattle.serde_json.specs.Written.{compact_text}
use Rattle.pact_file.{specs.{Pact.{State, states_data}, Sound.{IsSound}}, proofs.{Lists.{drop-at}, OrderedSets.{compact_text-same_states}}}
use Rattle.reply_check.specs.{Recorded.{Reply}, Replies.{AreRivals, HasRivals}}
use Rattle.reply_check.proofs.Deciding.{Bool-by_test, OneOf-in_middle, OneOf-push_cases, AllByRecursion-push}

-- the descriptions are equal, and so are the states if their texts are
pub bytes_eq-decides_key : (d b t e : List ℕ) (ss ts : List State) (r : Bool) → r ≡ (bytes_eq d b && bytes_eq (compact_text (states_data ss)) t) → b ≡ e → t ≡ compact_text (states_data ts)
    → IsSound 97 (states_data ss) → IsSound 97 (states_data ts) → IsTrue r ↔ ((d ≡ e) × (ss ≡ ts))
bytes_eq-decides_key d b t e ss ts r is eb et g h =
    let s : List ℕ = compact_text (states_data ss) in (
      λ k.
          let both = and_parts (bytes_eq d b) (bytes_eq s t) (sym is ∙ k) in (
            (bytes_eq-Decides d b).0 both.0 ∙ eb,
            compact_text-same_states 97 ss ts (omega arith) g h ((bytes_eq-Decides s t).0 both.1 ∙ et),
          ),
      λ (p, q). is ∙ and_from (bytes_eq d b) (bytes_eq s t) ((bytes_eq-Decides d b).1 (p ∙ sym eb)) ((bytes_eq-Decides s t).1 (ap (λ x. compact_text (states_data x)) q ∙ sym et)),
    )

-- ---- keys

abbrev pub Key : Type 0
Key = Bor (List ℕ) × Bor (List ℕ)

abbrev pub key_cmp : Key → Key → Ordering
key_cmp x y = ordering_then (slice_cmp nat_cmp x.0.now y.0.now) (slice_cmp nat_cmp x.1.now y.1.now)

abbrev IsSoundReply : Reply → Type 0
IsSoundReply r = IsSound 97 (states_data r.states)

pub record IsKeyOf (r : Reply) (k : Key) : Type 0 where
  pub description : k.0.now ≡ r.description
  pub states_text : k.1.now ≡ compact_text (states_data r.states)
  pub sound : IsSound 97 (states_data r.states)

abbrev is_key : Key → Reply → Bool
is_key k r = bytes_eq r.description k.0.now && bytes_eq (compact_text (states_data r.states)) k.1.now

is_key-iff_AreRivals : (s r : Reply) (k : Key) → IsSoundReply s → IsKeyOf r k → IsTrue (is_key k s) ↔ AreRivals s r
is_key-iff_AreRivals s r k g h = bytes_eq-decides_key s.description k.0.now k.1.now r.description s.states r.states (is_key k s) refl h.description h.states_text g h.sound

is_eq-ordering_then : (o p : Ordering) → is_eq (ordering_then o p) ≡ (is_eq o && is_eq p)
is_eq-ordering_then Equal p = refl
is_eq-ordering_then o p = refl

key_cmp-is_key : (r : Reply) (k q : Key) → IsKeyOf r k → is_at (key_cmp k) q ≡ is_key q r
key_cmp-is_key r k q h =
    is_eq-ordering_then (slice_cmp nat_cmp k.0.now q.0.now) (slice_cmp nat_cmp k.1.now q.1.now)
    ∙ ap₂ (λ a b. a && b) (is_eq-slice_cmp k.0.now q.0.now ∙ ap (λ d. bytes_eq d q.0.now) h.description) (is_eq-slice_cmp k.1.now q.1.now ∙ ap (λ t. bytes_eq t q.1.now) h.states_text)

cond-true_or : (a b : Bool) → cond a true b ≡ (b || (a || false))
cond-true_or true true = refl
cond-true_or true false = refl
cond-true_or false true = refl
cond-true_or false false = refl

-- ---- the keys seen so far

pub record AreSeen (seen : BTreeSet Key) (front : List Reply) : Type 0 where
  pub sound : AllByRecursion IsSoundReply front
  pub apart : ¬ HasRivals front
  pub known : (q : Key) → contains key_cmp seen q ≡ list_any (is_key q) front

pub none_seen : (seen : BTreeSet Key) → IsEmpty seen → AreSeen seen []
none_seen seen empty = record { sound = tt; apart = λ h. h; known = λ q. ap (list_any (is_at (key_cmp q))) empty }

HasRivals-append : (front more : List Reply) (r : Reply) (k : Key) → AllByRecursion IsSoundReply front → IsKeyOf r k → list_any (is_key k) front ≡ true → HasRivals (front ++ r ∷ more)
HasRivals-append [] more r k g h is = absurd (true≢false (sym is))
HasRivals-append (s ∷ ss) more r k g h is = Bool-by_test (is_key k s)
    (λ here. inl (OneOf-in_middle (λ t. AreRivals s t) ss more r ((is_key-iff_AreRivals s r k g.0 h).0 here)))
    (λ isnt. inr (HasRivals-append ss more r k g.1 h (sym (ap (λ b. b || list_any (is_key k) ss) isnt) ∙ is)))

HasRivals-push_apart : (front : List Reply) (r : Reply) (k : Key) → AllByRecursion IsSoundReply front → IsKeyOf r k → list_any (is_key k) front ≡ false → ¬ HasRivals front → ¬ HasRivals (front ++ r ∷ [])
HasRivals-push_apart [] r k g h isnt apart o = ⊎_elim (λ none. none) (λ none. none) o
HasRivals-push_apart (s ∷ ss) r k g h isnt apart (inl o) =
    ⊎_elim (λ p. apart (inl p)) (λ p. true≢false (sym ((is_key-iff_AreRivals s r k g.0 h).1 p) ∙ (or_parts (is_key k s) (list_any (is_key k) ss) isnt).0)) (OneOf-push_cases (λ t. AreRivals s t) ss r o)
HasRivals-push_apart (s ∷ ss) r k g h isnt apart (inr o) = HasRivals-push_apart ss r k g.1 h (or_parts (is_key k s) (list_any (is_key k) ss) isnt).1 (λ p. apart (inr p)) o

module _ (xs : List Reply) (i : ℕ) (r : Reply) (k : Key) (old : BTreeSet Key) (added : Bool) (within : i < length xs) (is_present : r ≡ get_or xs i r) (h : IsKeyOf r k) (added_is : added ≡ not (contains key_cmp old k))
    (s : AreSeen old (take i xs)) where
  pub HasRivals-of_seen : added ≡ false → HasRivals xs
  HasRivals-of_seen isnt =
      subst HasRivals (ap (λ ys. take i xs ++ ys) (sym (drop-at xs i r within is_present)) ∙ take-append-drop i xs)
      (HasRivals-append (take i xs) (drop (i + 1) xs) r k s.sound h (sym (s.known k) ∙ not-false (contains key_cmp old k) (sym added_is ∙ isnt)))

  pub AreSeen-insert : (new : BTreeSet Key) → added ≡ true → Updates key_cmp old new k true → AreSeen new (take (i + 1) xs)
  AreSeen-insert new is updates =
      subst (AreSeen new) (sym (take_more xs i r within ∙ ap (λ y. take i xs ++ y ∷ []) (sym is_present))) (record {
        sound = AllByRecursion-push IsSoundReply (take i xs) r s.sound h.sound;
        apart = HasRivals-push_apart (take i xs) r k s.sound h (sym (s.known k) ∙ not-true (contains key_cmp old k) (sym added_is ∙ is)) s.apart;
        known = λ q.
            updates.0 q ∙ ap₂ (λ a b. cond a true b) (key_cmp-is_key r k q h) (s.known q) ∙ cond-true_or (is_key q r) (list_any (is_key q) (take i xs))
            ∙ sym (list_any-append (is_key q) (take i xs) (r ∷ []));
      })
