-- Placing one after another makes the set in order, and there is one such set.
use Rattle.std.specs.{List.{AllByRecursion}, Ordering.{match_ordering, ordering_reverse}, Cmp.{IsTotalOrder}}
use Rattle.std.proofs.Common.{◌≡◌, ◌⊎◌, inl, inr, List, [], ◌∷◌, Bool, true, false, cond, Ordering, Less, Equal, Greater, Option, Some, None, option_map, option_and_then, refl, sym, ap, ap₂, ◌∙◌, subst, ⊎_elim, ◌+◌, suc, ◌≤◌, length, arith}
use Rattle.std.proofs.lemmas.Option.{same_Some}
use Rattle.pact_rules.specs.Lists.{OneOf, IsIn}
use Rattle.pact_file.specs.{Sorting.{insert_sorted, insert_all_sorted}, Sets.{IsRising, IsSetInOrder, HasClash}}
use Rattle.pact_file.proofs.Steps.{option_map-some, option_and_then-some}

-- ---- one of them

pub OneOf-member : {A : Type 0} (P : A → Type 0) (xs : List A) → OneOf P xs → (z : A) × IsIn z xs × P z
OneOf-member P [] h = absurd h
OneOf-member P (x ∷ xs) (inl p) = (x, inl refl, p)
OneOf-member P (x ∷ xs) (inr h) = let r = OneOf-member P xs h in (r.0, inr r.1, r.2)

pub AllByRecursion-member : {A : Type 0} (P : A → Type 0) (xs : List A) (z : A) → AllByRecursion P xs → IsIn z xs → P z
AllByRecursion-member P [] z a h = absurd h
AllByRecursion-member P (x ∷ xs) z a (inl same) = subst P (sym same) a.0
AllByRecursion-member P (x ∷ xs) z a (inr h) = AllByRecursion-member P xs z a.1 h

module _ {A : Type 0} (cmp : A → A → Ordering) (total : IsTotalOrder cmp) where
  abbrev pub Below : A → List A → Type 0
  Below x ys = AllByRecursion (λ y. cmp x y ≡ Less) ys

  pub Below-lower : (w x : A) (ys : List A) → cmp w x ≡ Less → Below x ys → Below w ys
  Below-lower w x [] h b = tt
  Below-lower w x (y ∷ ys) h b = (total.trans w x y h b.0, Below-lower w x ys h b.1)

  pub cmp-turned : (x y : A) (o : Ordering) → cmp x y ≡ o → cmp y x ≡ ordering_reverse o
  cmp-turned x y o h = total.antisymm y x ∙ ap ordering_reverse h

  cmp-irreflexive : (x : A) → ¬ (cmp x x ≡ Less)
  cmp-irreflexive x h = let g : cmp x x ≡ Greater = cmp-turned x x Less h in let e : Less ≡ Greater = sym h ∙ g in cc

  cmp-asymmetric : (x y : A) → cmp x y ≡ Less → ¬ (cmp y x ≡ Less)
  cmp-asymmetric x y h k = let g : cmp y x ≡ Greater = cmp-turned x y Less h in let e : Less ≡ Greater = sym k ∙ g in cc

  -- ---- one set

  Below-same_first : (x y : A) (xs ys : List A) → Below x xs → Below y ys → IsIn x (y ∷ ys) → IsIn y (x ∷ xs) → x ≡ y
  Below-same_first x y xs ys a b (inl same) k = same
  Below-same_first x y xs ys a b (inr h) (inl same) = sym same
  Below-same_first x y xs ys a b (inr h) (inr k) = absurd (cmp-asymmetric x y (AllByRecursion-member (λ z. cmp x z ≡ Less) xs y a k) (AllByRecursion-member (λ z. cmp y z ≡ Less) ys x b h))

  Below-others : (x y z : A) (xs ys : List A) → x ≡ y → Below x xs → IsIn z xs → IsIn z (y ∷ ys) → IsIn z ys
  Below-others x y z xs ys same a h (inr k) = k
  Below-others x y z xs ys same a h (inl is) =
      absurd (cmp-irreflexive x (subst (λ w. cmp x w ≡ Less) (is ∙ sym same) (AllByRecursion-member (λ w. cmp x w ≡ Less) xs z a h)))

  pub IsRising-unique : (xs ys : List A) → IsRising cmp xs → IsRising cmp ys → ((z : A) → IsIn z xs → IsIn z ys) → ((z : A) → IsIn z ys → IsIn z xs) → xs ≡ ys
  IsRising-unique [] [] r s f g = refl
  IsRising-unique [] (y ∷ ys) r s f g = absurd (g y (inl refl))
  IsRising-unique (x ∷ xs) [] r s f g = absurd (f x (inl refl))
  IsRising-unique (x ∷ xs) (y ∷ ys) r s f g =
      let same : x ≡ y = Below-same_first x y xs ys r.0 s.0 (f x (inl refl)) (g y (inl refl)) in
      ap₂ (λ z zs. z ∷ zs) same
      (IsRising-unique xs ys r.1 s.1 (λ z h. Below-others x y z xs ys same r.0 h (f z (inr h))) (λ z h. Below-others y x z ys xs (sym same) s.0 h (g z (inr h))))

  pub IsSetInOrder-unique : (found xs ys : List A) → IsSetInOrder cmp found xs → IsSetInOrder cmp found ys → xs ≡ ys
  IsSetInOrder-unique found xs ys a b = IsRising-unique xs ys a.rising b.rising (λ z h. b.kept z (a.known z h)) (λ z h. a.kept z (b.known z h))

  -- a list whose keys rise has no clash
  pub IsRising-no_clash : (D : A → A → Type 0) (xs : List A) → IsRising cmp xs → ¬ HasClash cmp D xs
  IsRising-no_clash D [] r h = h
  IsRising-no_clash D (x ∷ xs) r (inl one) =
      let t = OneOf-member (λ y. (cmp x y ≡ Equal) × D x y) xs one in
      let e : Less ≡ Equal = sym (AllByRecursion-member (λ y. cmp x y ≡ Less) xs t.0 r.0 t.1) ∙ t.2.0 in cc
  IsRising-no_clash D (x ∷ xs) r (inr h) = IsRising-no_clash D xs r.1 h

  -- ---- inserting

  module _ (same : A → A → Bool) where
    -- what is so of each way in which x goes in is so of what inserting makes of a list
    module _ (P : List A → List A → Type 0) (x : A) (none : P [] (x ∷ [])) (less : (y : A) (ys : List A) → cmp x y ≡ Less → P (y ∷ ys) (x ∷ y ∷ ys))
        (equal : (y : A) (ys : List A) → cmp x y ≡ Equal → same x y ≡ true → P (y ∷ ys) (y ∷ ys)) (greater : (y : A) (ys more : List A) → cmp x y ≡ Greater → P ys more → P (y ∷ ys) (y ∷ more)) where
      inserted_case : (o : Ordering) (b : Bool) (y : A) (ys new : List A) → cmp x y ≡ o → same x y ≡ b → ((more : List A) → insert_sorted cmp same x ys ≡ Some more → P ys more)
          → match_ordering o (Some (x ∷ y ∷ ys)) (cond b (Some (y ∷ ys)) None) (option_map (λ more. y ∷ more) (insert_sorted cmp same x ys)) ≡ Some new → P (y ∷ ys) new
      inserted_case Less b y ys new is eq k e = subst (P (y ∷ ys)) (same_Some _ _ e) (less y ys is)
      inserted_case Equal true y ys new is eq k e = subst (P (y ∷ ys)) (same_Some _ _ e) (equal y ys is eq)
      inserted_case Equal false y ys new is eq k e = absurd cc
      inserted_case Greater b y ys new is eq k e = let m = option_map-some (λ more. y ∷ more) (insert_sorted cmp same x ys) new e in subst (P (y ∷ ys)) m.2 (greater y ys m.0 is (k m.0 m.1))

      inserted : (list new : List A) → insert_sorted cmp same x list ≡ Some new → P list new
      unfolding insert_sorted
      inserted [] new e = subst (P []) (same_Some _ _ e) none
      inserted (y ∷ ys) new e = inserted_case (cmp x y) (same x y) y ys new refl refl (λ more k. inserted ys more k) e

    abbrev pub Stays : A → List A → List A → Type 0
    Stays x list new = (IsRising cmp list → IsRising cmp new) × ((w : A) → cmp w x ≡ Less → Below w list → Below w new)

    -- the keys still rise, above what is below them all
    pub stays : (x : A) (list new : List A) → insert_sorted cmp same x list ≡ Some new → Stays x list new
    stays x list new e =
        inserted (Stays x) x (λ r. (tt, tt), λ w h b. (h, tt)) (λ y ys is. (λ r. ((is, Below-lower x y ys is r.0), r), λ w h b. (h, b))) (λ y ys is eq. (λ r. r, λ w h b. b))
        (λ y ys more is p. (λ r. (p.1 y (cmp-turned x y Greater is) r.0, p.0 r.1), λ w h b. (b.0, p.1 w h b.1))) list new e

  -- ---- placing

  module _ (same : A → A → Bool) (Differ : A → A → Type 0) (Good : A → Type 0)
      (alike : (x y : A) → Good x → Good y → same x y ≡ true → (x ≡ y) × ¬ (Differ y x)) (unlike : (x y : A) → same x y ≡ false → Differ y x) where
    -- the new list has x beside those of the list
    record IsPlaced (x : A) (list new : List A) : Type 0 where
      fresh : IsIn x new
      old : (z : A) → IsIn z list → IsIn z new
      known : (z : A) → IsIn z new → (z ≡ x) ⊎ IsIn z list
      apart : (z : A) → IsIn z list → cmp z x ≡ Equal → ¬ (Differ z x)
      few : length new ≤ suc (length list)

    less_apart : (x z : A) → cmp x z ≡ Less → ¬ (cmp z x ≡ Equal)
    less_apart x z h k = let g : cmp z x ≡ Greater = cmp-turned x z Less h in let e : Equal ≡ Greater = sym k ∙ g in cc

    greater_apart : (x z : A) → cmp x z ≡ Greater → ¬ (cmp z x ≡ Equal)
    greater_apart x z h k = let g : cmp z x ≡ Less = cmp-turned x z Greater h in let e : Equal ≡ Less = sym k ∙ g in cc

    here : (x y : A) (ys : List A) → cmp x y ≡ Less → IsRising cmp (y ∷ ys) → IsPlaced x (y ∷ ys) (x ∷ y ∷ ys)
    here x y ys h r = record {
      fresh = inl refl;
      old = λ z k. inr k;
      known = λ z k. k;
      apart = λ z k e. absurd (less_apart x z (AllByRecursion-member (λ w. cmp x w ≡ Less) (y ∷ ys) z (h, Below-lower x y ys h r.0) k) e);
      few = omega arith;
    }

    there_apart : (x y : A) (ys : List A) → x ≡ y → ¬ (Differ y x) → Below y ys → (z : A) → IsIn z (y ∷ ys) → cmp z x ≡ Equal → ¬ (Differ z x)
    there_apart x y ys is alone b z (inl first) e d = alone (subst (λ w. Differ w x) first d)
    there_apart x y ys is alone b z (inr k) e d = less_apart x z (subst (λ w. cmp w z ≡ Less) (sym is) (AllByRecursion-member (λ w. cmp y w ≡ Less) ys z b k)) e

    there : (x y : A) (ys : List A) → x ≡ y → ¬ (Differ y x) → IsRising cmp (y ∷ ys) → IsPlaced x (y ∷ ys) (y ∷ ys)
    there x y ys is alone r = record {
      fresh = inl is;
      old = λ z k. k;
      known = λ z k. inr k;
      apart = there_apart x y ys is alone r.0;
      few = omega arith;
    }

    past : (x y : A) (ys more : List A) → cmp x y ≡ Greater → IsPlaced x ys more → IsPlaced x (y ∷ ys) (y ∷ more)
    past x y ys more h p = record {
      fresh = inr p.fresh;
      old = λ z. ⊎_elim inl (λ k. inr (p.old z k));
      known = λ z. ⊎_elim (λ first. inr (inl first)) (λ k. ⊎_elim inl (λ m. inr (inr m)) (p.known z k));
      apart = λ z k e. ⊎_elim (λ first. absurd (greater_apart x y h (subst (λ w. cmp w x ≡ Equal) first e))) (λ m. p.apart z m e) k;
      few = omega (arith, p.few);
    }

    is_placed : (x : A) (list new : List A) → Good x → ((z : A) → IsIn z list → Good z) → IsRising cmp list → insert_sorted cmp same x list ≡ Some new → IsPlaced x list new
    is_placed x list new g h r e =
        inserted same (λ list new. ((z : A) → IsIn z list → Good z) → IsRising cmp list → IsPlaced x list new) x
        (λ h r. record { fresh = inl refl; old = λ z k. absurd k; known = λ z k. k; apart = λ z k. absurd k; few = omega arith })
        (λ y ys is h r. here x y ys is r) (λ y ys is eq h r. let a = alike x y g (h y (inl refl)) eq in there x y ys a.0 a.1 r)
        (λ y ys more is p h r. past x y ys more is (p (λ z m. h z (inr m)) r.1)) list new e h r

    abbrev Clashes : A → A → Type 0
    Clashes y x = (cmp y x ≡ Equal) × Differ y x

    refused_case : (o : Ordering) (b : Bool) (x y : A) (ys : List A) → cmp x y ≡ o → same x y ≡ b → (insert_sorted cmp same x ys ≡ None → OneOf (λ z. Clashes z x) ys)
        → match_ordering o (Some (x ∷ y ∷ ys)) (cond b (Some (y ∷ ys)) None) (option_map (λ more. y ∷ more) (insert_sorted cmp same x ys)) ≡ None → OneOf (λ z. Clashes z x) (y ∷ ys)
    refused_case Equal false x y ys is eq k e = inl (cmp-turned x y Equal is, unlike x y eq)
    refused_case Greater b x y ys is eq k e = inr (k (none_map (insert_sorted cmp same x ys) e)) where
      none_map : (o : Option (List A)) → option_map (λ more. y ∷ more) o ≡ None → o ≡ None
      none_map None h = refl
      none_map (Some more) h = absurd cc
    refused_case o b x y ys is eq k e = absurd cc

    is_refused : (x : A) (list : List A) → insert_sorted cmp same x list ≡ None → OneOf (λ z. Clashes z x) list
    unfolding insert_sorted
    is_refused x [] e = absurd cc
    is_refused x (y ∷ ys) e = refused_case (cmp x y) (same x y) x y ys refl refl (λ k. is_refused x ys k) e

    -- ---- one after another

    record AreAllPlaced (list xs new : List A) : Type 0 where
      rising : IsRising cmp new
      old : (z : A) → IsIn z list → IsIn z new
      added : (z : A) → IsIn z xs → IsIn z new
      known : (z : A) → IsIn z new → IsIn z list ⊎ IsIn z xs
      apart : ¬ HasClash cmp Differ xs
      between : (y z : A) → IsIn y list → IsIn z xs → cmp y z ≡ Equal → ¬ (Differ y z)
      few : length new ≤ length list + length xs

    grown : (x : A) (list xs more new : List A) → IsPlaced x list more → AreAllPlaced more xs new → AreAllPlaced list (x ∷ xs) new
    grown x list xs more new p a = record {
      rising = a.rising;
      old = λ z h. a.old z (p.old z h);
      added = λ z. ⊎_elim (λ first. subst (λ w. IsIn w new) (sym first) (a.old x p.fresh)) (a.added z);
      known = λ z h. ⊎_elim (λ k. ⊎_elim (λ first. inr (inl first)) inl (p.known z k)) (λ k. inr (inr k)) (a.known z h);
      apart = ⊎_elim (λ one. let r = OneOf-member (λ y. Clashes x y) xs one in a.between x r.0 p.fresh r.1 r.2.0 r.2.1) a.apart;
      between = λ y z h k e. ⊎_elim (λ first d. p.apart y h (subst (λ w. cmp y w ≡ Equal) first e) (subst (λ w. Differ y w) first d)) (λ m. a.between y z (p.old y h) m e) k;
      few = omega (arith, a.few, p.few);
    }

    still_good : (x : A) (list more : List A) → Good x → ((z : A) → IsIn z list → Good z) → ((z : A) → IsIn z more → (z ≡ x) ⊎ IsIn z list) → (z : A) → IsIn z more → Good z
    still_good x list more g h f z k = ⊎_elim (λ first. subst Good (sym first) g) (h z) (f z k)

    all_placed : (list xs new : List A) → ((z : A) → IsIn z list → Good z) → ((z : A) → IsIn z xs → Good z) → IsRising cmp list → insert_all_sorted cmp same list xs ≡ Some new → AreAllPlaced list xs new
    unfolding insert_all_sorted
    all_placed list [] new g h r e =
        subst (AreAllPlaced list []) (same_Some _ _ e)
        (record { rising = r; old = λ z k. k; added = λ z k. absurd k; known = λ z k. inl k; apart = λ k. k; between = λ y z k m. absurd m; few = omega arith })
    all_placed list (x ∷ xs) new g h r e =
        let m = option_and_then-some (λ more. insert_all_sorted cmp same more xs) (insert_sorted cmp same x list) new e in
        let p = is_placed x list m.0 (h x (inl refl)) g r m.1 in
        grown x list xs m.0 new p (all_placed m.0 xs new (still_good x list m.0 (h x (inl refl)) g p.known) (λ z k. h z (inr k)) ((stays same x list m.0 m.1).0 r) m.2)

    -- a clash in what is insert_sorted, or of one that is there with one of these
    abbrev ClashesWith : List A → List A → Type 0
    ClashesWith list xs = HasClash cmp Differ xs ⊎ ((y : A) × IsIn y list × OneOf (λ z. Clashes y z) xs)

    clash_more : (x : A) (list xs more : List A) → ((z : A) → IsIn z more → (z ≡ x) ⊎ IsIn z list) → ClashesWith more xs → ClashesWith list (x ∷ xs)
    clash_more x list xs more f =
        ⊎_elim (λ clash. inl (inr clash))
        (λ one. ⊎_elim (λ first. inl (inl (subst (λ w. OneOf (λ z. Clashes w z) xs) first one.2))) (λ k. inr (one.0, k, inr one.2)) (f one.0 one.1))

    clash_first : (x : A) (list xs : List A) → OneOf (λ z. Clashes z x) list → ClashesWith list (x ∷ xs)
    clash_first x list xs one = let r = OneOf-member (λ z. Clashes z x) list one in inr (r.0, r.1, inl r.2)

    all_refused : (list xs : List A) → ((z : A) → IsIn z list → Good z) → ((z : A) → IsIn z xs → Good z) → IsRising cmp list → insert_all_sorted cmp same list xs ≡ None → ClashesWith list xs
    unfolding insert_all_sorted
    all_refused list [] g h r e = absurd cc
    all_refused list (x ∷ xs) g h r e = by_case (λ more good rising k. all_refused more xs good (λ z m. h z (inr m)) rising k) (insert_sorted cmp same x list) refl e where
      by_case : ((more : List A) → ((z : A) → IsIn z more → Good z) → IsRising cmp more → insert_all_sorted cmp same more xs ≡ None → ClashesWith more xs)
          → (o : Option (List A)) → insert_sorted cmp same x list ≡ o → option_and_then (λ more. insert_all_sorted cmp same more xs) o ≡ None → ClashesWith list (x ∷ xs)
      by_case again None is k = clash_first x list xs (is_refused x list is)
      by_case again (Some more) is k =
          let p = is_placed x list more (h x (inl refl)) g r is in
          clash_more x list xs more p.known (again more (still_good x list more (h x (inl refl)) g p.known) ((stays same x list more is).0 r) k)

    -- ---- from nothing

    pub set_of : (found list : List A) → ((z : A) → IsIn z found → Good z) → insert_all_sorted cmp same [] found ≡ Some list → (¬ HasClash cmp Differ found) × IsSetInOrder cmp found list
    set_of found list h e =
        let p = all_placed [] found list (λ z k. absurd k) h tt e in
        (p.apart, record { rising = p.rising; kept = p.added; known = λ z k. ⊎_elim (λ none. absurd none) (λ m. m) (p.known z k) })

    pub set_few : (found list : List A) → ((z : A) → IsIn z found → Good z) → insert_all_sorted cmp same [] found ≡ Some list → length list ≤ length found
    set_few found list h e = let p = all_placed [] found list (λ z k. absurd k) h tt e in omega (arith, p.few)

    pub clash_of : (found : List A) → ((z : A) → IsIn z found → Good z) → insert_all_sorted cmp same [] found ≡ None → HasClash cmp Differ found
    clash_of found h e = ⊎_elim (λ clash. clash) (λ one. absurd one.1) (all_refused [] found (λ z k. absurd k) h tt e)
