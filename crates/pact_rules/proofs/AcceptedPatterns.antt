-- The patterns that were is_pattern-of_accepted are read by the grammar.
use Rattle.std.specs.{BTreeMap.{is_at}, BTreeSet.{insert_key}, Cmp.Lexicographic.{slice_cmp}, List.{AllByRecursion, list_any}}
use Rattle.std.proofs.Common.{◌≡◌, ℕ, List, [], ◌∷◌, Bool, true, false, ◌||◌, nat_cmp, String, Global, string_bytes, string_cmp, refl, sym, ap, ◌∙◌, true≢false}
use Rattle.std.proofs.{lemmas.Map.Text.{is_eq-slice_cmp}, lemmas.Slice.Eq.{bytes_eq-Decides}}
use Rattle.pact_rules.{specs.Matching.{is_pattern}, proofs.OrderLemmas.{match_ordering-any}}

abbrev pub AreAccepted : List (String Global) → Type 0
AreAccepted ks = AllByRecursion (λ (k : String Global). is_pattern (string_bytes k) ≡ true) ks

abbrev IsKey : List ℕ → String Global → Bool
IsKey source k = is_at (λ (k : String Global). slice_cmp nat_cmp source (string_bytes k)) k

is_pattern-of_key : (source : List ℕ) (k : String Global) (b rest : Bool) → IsKey source k ≡ b → is_pattern (string_bytes k) ≡ true → (rest ≡ true → is_pattern source ≡ true) → (b || rest) ≡ true → is_pattern source ≡ true
is_pattern-of_key source k true rest is p later h = ap is_pattern ((bytes_eq-Decides source (string_bytes k)).0 (sym (is_eq-slice_cmp source (string_bytes k)) ∙ is)) ∙ p
is_pattern-of_key source k false rest is p later h = later h

-- one that was is_pattern-of_accepted is a pattern
pub is_pattern-of_accepted : (source : List ℕ) (ks : List (String Global)) → AreAccepted ks → list_any (is_at (λ (k : String Global). slice_cmp nat_cmp source (string_bytes k))) ks ≡ true → is_pattern source ≡ true
is_pattern-of_accepted source [] all h = absurd (true≢false (sym h))
is_pattern-of_accepted source (k ∷ ks) all h = is_pattern-of_key source k (IsKey source k) _ refl all.0 (λ t. is_pattern-of_accepted source ks all.1 t) h

-- and one more may be kept
pub AreAccepted-insert_key : (k : String Global) (ks : List (String Global)) → is_pattern (string_bytes k) ≡ true → AreAccepted ks → AreAccepted (insert_key string_cmp ks k)
AreAccepted-insert_key k [] p all = (p, tt)
AreAccepted-insert_key k (x ∷ xs) p all =
    match_ordering-any (string_cmp k x) (k ∷ x ∷ xs) (x ∷ xs) (x ∷ insert_key string_cmp xs k) AreAccepted (λ less. (p, all)) (λ equal. all)
    (λ greater. (all.0, AreAccepted-insert_key k xs p all.1))
