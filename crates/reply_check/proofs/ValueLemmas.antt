-- What counts of a header's value, byte by byte.
use Rattle.std.proofs.Common.{◌≡◌, ◌↔◌, ℕ, Bool, true, false, ◌&&◌, ◌==◌, cond, List, [], ◌∷◌, ◌++◌, map, IsTrue, bytes_eq, refl, sym, ap, ap₂, ◌∙◌, arith}
use Rattle.std.proofs.{lemmas.Slice.Eq.{bytes_eq-Decides}, lemmas.Bool.{eqb-true}, lemmas.Bool.Decides.{nat_tests}}
use Rattle.reply_check.{specs.HeaderValues.{is_blank, without_front, without_end, in_front, parts_between, counting_parts}, proofs.Deciding.{Bool-by_test}}

-- ---- the bytes that are kept, where the first says whether a part begins

abbrev pub kept : Bool → List ℕ → List ℕ
kept begins [] = []
kept begins (b ∷ bs) = cond (begins && is_blank b) (kept begins bs) (b ∷ kept (b == 44) bs)

abbrev map_later : List (List ℕ) → List (List ℕ)
map_later [] = []
map_later (p ∷ ps) = p ∷ map without_front ps

map_later-in_front : (b : ℕ) (ps : List (List ℕ)) → map_later (in_front b ps) ≡ in_front b (map_later ps)
map_later-in_front b [] = refl
map_later-in_front b (p ∷ ps) = refl

without_front-in_front : (b : ℕ) (ps : List (List ℕ)) → is_blank b ≡ false → map without_front (in_front b ps) ≡ in_front b (map_later ps)
without_front-in_front b [] h = rw h refl
without_front-in_front b (p ∷ ps) h = rw h refl

without_front-in_front_blank : (b : ℕ) (p : List ℕ) (ps : List (List ℕ)) → is_blank b ≡ true → map without_front (in_front b (p ∷ ps)) ≡ map without_front (p ∷ ps)
without_front-in_front_blank b p ps h = rw h refl

parts_between-cons : (bs : List ℕ) → (p : List ℕ) × (ps : List (List ℕ)) × (parts_between bs ≡ p ∷ ps)
parts_between-cons [] = ([], [], refl)
parts_between-cons (b ∷ bs) = let found = parts_between-cons bs in Bool-by_test (b == 44)
    (λ is. ([], parts_between bs, rw is refl))
    (λ isnt. (b ∷ found.0, found.1, rw (isnt, found.2) refl))

is_blank-no_comma : (b : ℕ) → is_blank b ≡ true → (b == 44) ≡ false
is_blank-no_comma b h = grind (arith, nat_tests)

parts_between-kept_cons : (b : ℕ) (bs : List ℕ) → is_blank b ≡ false → parts_between (kept true bs) ≡ map without_front (parts_between bs) → parts_between (kept false bs) ≡ map_later (parts_between bs)
    → parts_between (b ∷ kept (b == 44) bs) ≡ map without_front (parts_between (b ∷ bs))
parts_between-kept_cons b bs isnt begins inside = Bool-by_test (b == 44)
    (λ comma. rw comma (ap (λ ps. [] ∷ ps) begins))
    (λ other. rw other (ap (in_front b) inside ∙ sym (without_front-in_front b (parts_between bs) isnt)))

mutual
  parts_between-kept_true : (bs : List ℕ) → parts_between (kept true bs) ≡ map without_front (parts_between bs)
  parts_between-kept_true [] = refl
  parts_between-kept_true (b ∷ bs) = Bool-by_test (is_blank b)
      (λ is.
      let found = parts_between-cons bs in
      ap (λ c. parts_between (cond c (kept true bs) (b ∷ kept (b == 44) bs))) is ∙ parts_between-kept_true bs ∙ ap (map without_front) found.2
      ∙ sym (without_front-in_front_blank b found.0 found.1 is) ∙ ap (λ ps. map without_front (in_front b ps)) (sym found.2)
      ∙ ap (λ c. map without_front (cond c ([] ∷ parts_between bs) (in_front b (parts_between bs)))) (sym (is_blank-no_comma b is)))
      (λ isnt. ap (λ c. parts_between (cond c (kept true bs) (b ∷ kept (b == 44) bs))) isnt ∙ parts_between-kept_cons b bs isnt (parts_between-kept_true bs) (parts_between-kept_false bs))

  parts_between-kept_false : (bs : List ℕ) → parts_between (kept false bs) ≡ map_later (parts_between bs)
  parts_between-kept_false [] = refl
  parts_between-kept_false (b ∷ bs) = Bool-by_test (b == 44)
      (λ comma. rw comma (ap (λ ps. [] ∷ ps) (parts_between-kept_true bs)))
      (λ other. rw other (ap (in_front b) (parts_between-kept_false bs) ∙ sym (map_later-in_front b (parts_between bs))))

-- what is kept has exactly the parts that count
pub parts_between-counting_parts : (value : List ℕ) → parts_between (kept true (without_end value)) ≡ counting_parts value
parts_between-counting_parts value = parts_between-kept_true (without_end value)

-- ---- a value is known by its parts

abbrev after_commas : List (List ℕ) → List ℕ
after_commas [] = []
after_commas (p ∷ ps) = 44 ∷ (p ++ after_commas ps)

abbrev joined : List (List ℕ) → List ℕ
joined [] = []
joined (p ∷ ps) = p ++ after_commas ps

joined-in_front : (b : ℕ) (ps : List (List ℕ)) → joined (in_front b ps) ≡ b ∷ joined ps
joined-in_front b [] = refl
joined-in_front b (p ∷ ps) = refl

joined-comma : (bs : List ℕ) → joined ([] ∷ parts_between bs) ≡ 44 ∷ joined (parts_between bs)
joined-comma bs = let found = parts_between-cons bs in rw found.2 refl

joined-parts_between : (bs : List ℕ) → joined (parts_between bs) ≡ bs
joined-parts_between [] = refl
joined-parts_between (b ∷ bs) = Bool-by_test (b == 44)
    (λ comma. rw comma (joined-comma bs ∙ ap (λ s. 44 ∷ s) (joined-parts_between bs) ∙ ap (λ c. c ∷ bs) (sym (eqb-true b 44 comma))))
    (λ other. rw other (joined-in_front b (parts_between bs) ∙ ap (λ s. b ∷ s) (joined-parts_between bs)))

pub parts_between-injective : (v w : List ℕ) → parts_between v ≡ parts_between w → v ≡ w
parts_between-injective v w h = sym (joined-parts_between v) ∙ ap joined h ∙ joined-parts_between w

-- the bytes that are kept of two values are compared
pub same_counting_parts : (a b kept_a kept_b u v : List ℕ) (t : Bool) → t ≡ bytes_eq u v → u ≡ kept_a → v ≡ kept_b → parts_between kept_a ≡ counting_parts a → parts_between kept_b ≡ counting_parts b → IsTrue t ↔ (counting_parts a ≡ counting_parts b)
same_counting_parts a b kept_a kept_b u v t is eu ev p q =
    let same : t ≡ bytes_eq kept_a kept_b = is ∙ ap₂ bytes_eq eu ev in (
      λ h. sym p ∙ ap parts_between ((bytes_eq-Decides kept_a kept_b).0 (sym same ∙ h)) ∙ q,
      λ h. same ∙ (bytes_eq-Decides kept_a kept_b).1 (parts_between-injective kept_a kept_b (p ∙ h ∙ sym q)),
    )
