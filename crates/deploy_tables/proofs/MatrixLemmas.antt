-- The rows of both sides, each Lists-dedup, are the matrix.
use Rattle.std.specs.Cmp.{IsTotalOrder, IsEquivalence, eq_by_cmp_equiv, Equal-is}
use Rattle.std.specs.{Prelude.{Option, Some, None, option_map, Contains, IsSomeAnd, MatchOption, ◌↔◌, IsPermutation, IsSorted}, Ordering.{eq_by_cmp}}
use Rattle.std.specs.{List.{dedup}, declared.cmp.Ordering.{Ordering}, declared.cmp.Ordering.TheVariants.{Equal}}
use Rattle.std.proofs.Common.{◌≡◌, ◌⊎◌, ℕ, List, [], ◌∷◌, ◌++◌, map, refl, sym, ◌∙◌, ap, subst, inl, inr, Bool}
use Rattle.std.proofs.lemmas.List.Sorted.{Contains-permutation, IsPermutation-sym}
use Rattle.std.proofs.lemmas.List.Kept.{Any-dedup, Contains-from_dedup, IsStrictlySortedBy-dedup}
use Rattle.table_access.proofs.Members.{contains_has, has_contains, has_map, map_has}
use Rattle.deploy_tables.specs.Matrix.{HasNone, IsOfContract, IsOfSome, IsConsumed, IsProvided, row_with, row_without, rows_with, or_one}
use Rattle.deploy_tables.proofs.MatrixLoop.{iff-trans, Contains-append}
use Rattle.broker_core.specs.{Listing.{Lists}, declared.command.Version.{Version}, declared.need.Latest.{Latest}, declared.answer.MatrixRow.{MatrixRow}}
use Rattle.broker_core.specs.{declared.answer.Verified.{Verified}, Text.{Text, version}, State.{State, Verification, latest_result, said_by}}
use Rattle.broker_core.specs.Machine.{matrix_cmp, verified_version, IsLatest, IsMatrixRow}
use Rattle.broker_core.proofs.Order.{text_cmp-equal, option_cmp-equal, ordering_then-equal}
use Rattle.broker_core.proofs.Lists.{Some-injective, Contains-empty, Contains-cons_cases, Contains-here}
use Rattle.contract_tables.specs.{declared.listings.Contract.{Contract}, ResultsByVersion.{verified_cmp}, VersionResults.{said_of}}

-- ---- lists

-- what is made of those that are listed
pub Contains-map_listed : {A B : Type 0} (f : A → B) {cmp : A → A → Ordering} {P : A → Type 0} (xs : List A) → Lists cmp P xs → (y : B)
    → Contains (map f xs) y ↔ ((x : A) × P x × (y ≡ f x))
Contains-map_listed f xs listed y = (
  λ c. let it = map_has f xs y (contains_has (map f xs) y c) in (it.0, (listed.exactly it.0).0 (has_contains xs it.0 it.1), it.2),
  λ is. subst (Contains (map f xs)) (sym is.2) (has_contains (map f xs) (f is.0) (has_map f xs is.0 (contains_has xs is.0 ((listed.exactly is.0).1 is.1)))),
)

-- a member of a list, or the one that is taken if the list is empty
Contains-or_one : {X : Type 0} (xs : List X) (z y : X) → Contains (or_one xs z) y ↔ (Contains xs y ⊎ (((x : X) → ¬ (Contains xs x)) × (y ≡ z)))
Contains-or_one [] z y = (
  λ c. elim (Contains-cons_cases z [] y c) [ inl same ↦ inr (Contains-empty, sym same) | inr none ↦ inl none ],
  λ is. elim is [ inl none ↦ absurd (Contains-empty y none) | inr alone ↦ subst (Contains (z ∷ [])) (sym alone.1) (Contains-here z []) ],
)
Contains-or_one (x ∷ xs) z y = (λ c. inl c, λ is. elim is [ inl c ↦ c | inr alone ↦ absurd (alone.0 x (Contains-here x xs)) ])

-- what holds of some that are listed
pub IsOfSome-listed : {C : Type 0} (Is P : C → Type 0) (cmp : C → C → Ordering) (cs ds : List C) → Lists cmp P cs → ds ≡ cs → (A : Type 0) → A ↔ IsOfSome Is ds → A ↔ ((c : C) × P c × Is c)
IsOfSome-listed Is P cmp cs ds listed same A both = (
  λ a. let it = both.0 a in (it.0, (listed.exactly it.0).0 (subst (λ xs. Contains xs it.0) same it.1), it.2),
  λ some. both.1 (some.0, subst (λ xs. Contains xs some.0) (sym same) ((listed.exactly some.0).1 some.1), some.2),
)

-- ---- a latest result by its number and what it says

abbrev Says : Option (ℕ × Verification) → ℕ → Latest → Type 0
Says o n l = IsSomeAnd o (λ e. (n ≡ e.0) × (l ≡ said_by e.1))

Says-None : (o : Option (ℕ × Verification)) → ((n : ℕ) (l : Latest) → ¬ (Says o n l)) → o ≡ None
Says-None None never = refl
Says-None (Some e) never = absurd (never e.0 (said_by e.1) (refl, refl))

Says-of_Some : (o : Option (ℕ × Verification)) (n : ℕ) (l : Latest) → option_map said_of o ≡ Some (n, l) → Says o n l
Says-of_Some None n l h = absurd cc
Says-of_Some (Some e) n l h = let it = Some-injective (said_of e) (n, l) h in (sym (ap (λ (p : ℕ × Latest). p.0) it), sym (ap (λ (p : ℕ × Latest). p.1) it))

Says-Some : (o : Option (ℕ × Verification)) (n : ℕ) (l : Latest) → Says o n l → option_map said_of o ≡ Some (n, l)
Says-Some None n l h = absurd h
Says-Some (Some e) n l h = λ i. Some (sym h.0 i, sym h.1 i)

Says-unique : (o : Option (ℕ × Verification)) (n m : ℕ) (l k : Latest) → Says o n l → Says o m k → (n ≡ m) × (l ≡ k)
Says-unique None n m l k h h2 = absurd h
Says-unique (Some e) n m l k h h2 = (h.0 ∙ sym h2.0, h.1 ∙ sym h2.1)

-- ---- the parts as they are paired

-- a contract with the versions that have a result for it
pub Contains-rows_with : (s : State) (v : Version) (c : Contract) (verified : List Verified)
    → Lists verified_cmp (λ r. IsLatest s c.content (version c.provider r.provider_version) r) verified
    → (x : MatrixRow) → Contains (rows_with v c verified) x ↔ IsOfContract s v c x
Contains-rows_with s v c verified listed x = (
  λ there. elim (either.0 there) [
    | inl some ↦ inl ((paired x).0 some)
    | inr alone ↦ inr (
      λ w. Says-None (latest_result s c.content (version c.provider w)) (λ n l says.
          let r : Verified = record { provider_version = w; result = n; latest = l } in alone.0 (row_with v c r) ((paired (row_with v c r)).1 (r, says, refl))),
      alone.1,
    )
  ],
  λ is. either.1 (elim is [
    | inl some ↦ inl ((paired x).1 some)
    | inr none ↦ inr (
      λ y there. let r = (paired y).0 there in subst (λ o. Says o r.0.result r.0.latest) (none.0 r.0.provider_version) r.1,
      none.1,
    )
  ]),
)
  where
    either : Contains (rows_with v c verified) x ↔ (Contains (map (row_with v c) verified) x
        ⊎ (((y : MatrixRow) → ¬ (Contains (map (row_with v c) verified) y)) × (x ≡ row_without v c)))
    either = Contains-or_one (map (row_with v c) verified) (row_without v c) x

    paired : (y : MatrixRow) → Contains (map (row_with v c) verified) y
        ↔ ((r : Verified) × IsLatest s c.content (version c.provider r.provider_version) r × (y ≡ row_with v c r))
    paired = Contains-map_listed (row_with v c) verified listed

-- ---- both sides are the matrix

module _ (s : State) (v : Version) where
  IsConsumed-IsMatrixRow : (x : MatrixRow) → IsConsumed s v x → IsMatrixRow s v x
  IsConsumed-IsMatrixRow x (c, contract, inl (r, says, same)) =
      subst (IsMatrixRow s v) (sym same) (record { content = c.content; contract = contract; verified = (inl refl, says) })
  IsConsumed-IsMatrixRow x (c, contract, inr (none, same)) =
      subst (IsMatrixRow s v) (sym same) (record { content = c.content; contract = contract; verified = (refl, none) })

  IsProvided-IsMatrixRow : (x : MatrixRow) → IsProvided s v x → IsMatrixRow s v x
  IsProvided-IsMatrixRow x (c, latest, (w, contract, same)) =
      let says = Says-of_Some (latest_result s c.content v) c.result c.latest latest in
      subst (IsMatrixRow s v) (sym same) (record { content = c.content; contract = contract; verified = (inr refl, says) })

  pub IsMatrixRow-either_side : (x : MatrixRow) → IsMatrixRow s v x → IsConsumed s v x ⊎ IsProvided s v x
  IsMatrixRow-either_side x is = go x.verified is.verified
    where
      w : Version
      w = version x.consumer x.consumer_version

      row : Option Verified → MatrixRow
      row o = record { consumer = x.consumer; consumer_version = x.consumer_version; provider = x.provider; verified = o }

      own : w ≡ v → (o : Option Verified) → row o ≡ record { consumer = v.pacticipant; consumer_version = v.name; provider = x.provider; verified = o }
      own mine o = λ i. record { consumer = (mine i).pacticipant; consumer_version = (mine i).name; provider = x.provider; verified = o }

      contract : w ≡ v → s.contracts (v, x.provider) ≡ Some is.content
      contract mine = subst (λ u. s.contracts (u, x.provider) ≡ Some is.content) mine is.contract

      go : (o : Option Verified) → MatchOption o ((w ≡ v) × HasNone s is.content x.provider)
          (λ r. ((w ≡ v) ⊎ (version x.provider r.provider_version ≡ v)) × IsLatest s is.content (version x.provider r.provider_version) r)
          → IsConsumed s v (row o) ⊎ IsProvided s v (row o)
      go None (mine, none) = inl (record { provider = x.provider; content = is.content }, contract mine, inr (none, own mine None))
      go (Some r) (inl mine, says) = inl (record { provider = x.provider; content = is.content }, contract mine, inl (r, says, own mine (Some r)))
      go (Some r) (inr theirs, says) = inr (
        record { content = is.content; result = r.result; latest = r.latest },
        subst (λ u. option_map said_of (latest_result s is.content u) ≡ Some (r.result, r.latest)) theirs (Says-Some _ r.result r.latest says),
        (
          w,
          subst (λ (u : Version). s.contracts (w, u.pacticipant) ≡ Some is.content) theirs is.contract,
          λ i. record {
            consumer = x.consumer;
            consumer_version = x.consumer_version;
            provider = (theirs i).pacticipant;
            verified = Some (record { provider_version = (theirs i).name; result = r.result; latest = r.latest });
          },
        ),
      )

  -- what both sides list is the matrix
  pub IsMatrixRow-both_sides : (own others all : List MatrixRow) → all ≡ own ++ others → ((x : MatrixRow) → Contains own x ↔ IsConsumed s v x)
      → ((x : MatrixRow) → Contains others x ↔ IsProvided s v x) → (x : MatrixRow) → Contains all x ↔ IsMatrixRow s v x
  IsMatrixRow-both_sides own others all is mine theirs x = iff-trans (Contains-append own others all is x (mine x) (theirs x))
      (λ found. elim found [ inl one ↦ IsConsumed-IsMatrixRow x one | inr two ↦ IsProvided-IsMatrixRow x two ], IsMatrixRow-either_side x)

  -- a version of the provider has one result for a content
  IsLatest-one_verified : (content : ℕ) (p : Text) (none : Type 0) (side : Text → Type 0) (o u : Option Verified)
      → MatchOption o none (λ r. side r.provider_version × IsLatest s content (version p r.provider_version) r)
      → MatchOption u none (λ r. side r.provider_version × IsLatest s content (version p r.provider_version) r) → verified_version o ≡ verified_version u → o ≡ u
  IsLatest-one_verified content p none side None None h k same = refl
  IsLatest-one_verified content p none side (Some r) (Some q) h k same =
      let name = Some-injective r.provider_version q.provider_version same in
      let there = subst (λ w. Says (latest_result s content (version p w)) q.result q.latest) (sym name) k.1 in
      let one = Says-unique (latest_result s content (version p r.provider_version)) r.result q.result r.latest q.latest h.1 there in
      λ i. Some (record { provider_version = name i; result = one.0 i; latest = one.1 i })
  IsLatest-one_verified content p none side _ _ h k same = absurd cc

  -- so two rows of the same names are one
  pub IsMatrixRow-one_row : (x y : MatrixRow) → IsMatrixRow s v x → IsMatrixRow s v y → matrix_cmp x y ≡ Equal → x ≡ y
  IsMatrixRow-one_row x y is are tied =
      let a = ordering_then-equal _ _ tied in
      let b = ordering_then-equal _ _ a.1 in
      let d = ordering_then-equal _ _ b.1 in
      let c = text_cmp-equal x.consumer y.consumer a.0 in
      let cv = text_cmp-equal x.consumer_version y.consumer_version b.0 in
      let p = text_cmp-equal x.provider y.provider d.0 in
      let moved : MatrixRow = record { consumer = x.consumer; consumer_version = x.consumer_version; provider = x.provider; verified = y.verified } in
      let path : y ≡ moved = λ i. record { consumer = sym c i; consumer_version = sym cv i; provider = sym p i; verified = y.verified } in
      let there : IsMatrixRow s v moved = subst (IsMatrixRow s v) path are in
      let content : there.content ≡ is.content = Some-injective _ _ (sym there.contract ∙ is.contract) in
      let here = subst (λ n. MatchOption y.verified ((version x.consumer x.consumer_version ≡ v) × HasNone s n x.provider)
      (λ r. ((version x.consumer x.consumer_version ≡ v) ⊎ (version x.provider r.provider_version ≡ v)) × IsLatest s n (version x.provider r.provider_version) r)) content there.verified in
      let verified = IsLatest-one_verified is.content x.provider _ (λ w. (version x.consumer x.consumer_version ≡ v) ⊎ (version x.provider w ≡ v)) x.verified y.verified is.verified here
      (option_cmp-equal _ _ d.1) in
      (λ i. record { consumer = x.consumer; consumer_version = x.consumer_version; provider = x.provider; verified = verified i }) ∙ sym path

-- ---- each Lists-dedup

-- a list that is sorted and then loses what is in it twice, if those that tie are one
pub Lists-dedup : {X : Type 0} {R : X → X → Ordering} {E : X → X → Bool} (o : IsTotalOrder R) (ties : (x y : X) → E x y ≡ eq_by_cmp R x y) (Is : X → Type 0)
    (tied : (x y : X) → Is x → Is y → R x y ≡ Equal → x ≡ y) (xs ys : List X) → ((x : X) → Contains xs x ↔ Is x) → IsPermutation xs ys → IsSorted R ys → Lists R Is (dedup E ys)
Lists-dedup {X} {R} {E} o ties Is tied xs ys are moved sorted = record {
  sorted = IsStrictlySortedBy-dedup o ties ys sorted;
  exactly = λ x. (
    λ there. is x there,
    λ here.
        let equiv : IsEquivalence E = subst IsEquivalence (λ i x y. sym (ties x y) i) (eq_by_cmp_equiv o) in
        let kept = Any-dedup equiv ys x (Contains-permutation xs ys x moved ((are x).1 here)) in
        let there : Contains (dedup E ys) kept.1 = (kept.0, kept.2, kept.3) in
        let same = tied x kept.1 here (is kept.1 there) ((Equal-is (R x kept.1)).0 (sym (ties x kept.1) ∙ kept.4)) in
        subst (Contains (dedup E ys)) (sym same) there,
  );
}
  where
    is : (x : X) → Contains (dedup E ys) x → Is x
    is x there = (are x).0 (Contains-permutation ys xs x (IsPermutation-sym xs ys moved) (Contains-from_dedup E ys x there))
