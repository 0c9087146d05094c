-- What is found of the parts that are read are the needs that are wanted.
use Rattle.std.specs.Prelude.{Option, Some, None, option_map, option_and_then, option_to_list, is_some, Contains, IsSomeAnd, ◌↔◌, if◌then◌else◌}
use Rattle.std.specs.{Cmp.{IsTotalOrder, on_total, then_total}, Cmp.Lexicographic.{nat_list_cmp_total, options_total}}
use Rattle.std.specs.declared.cmp.Ordering.TheVariants.{Equal}
use Rattle.std.proofs.Common.{◌≡◌, ◌≢◌, ◌⊎◌, ℕ, List, [], ◌∷◌, ◌++◌, refl, sym, ◌∙◌, ap, subst, inl, inr, Bool, true, false, true≢false, not, ◌&&◌, ◌||◌, ◌==◌, length, take, get_or, ◌<◌, ◌+◌, arith}
use Rattle.std.proofs.lemmas.Bool.{eqb-true}
use Rattle.broker_tables.{specs.Numbers.{number_of}, proofs.NumberLemmas.{number_of-injective}}
use Rattle.contract_tables.specs.declared.listings.Contract.{Contract}
use Rattle.deploy_tables.specs.Needs.{AreFaults, need_cmp, is_good, is_selected, is_left_out, need_with, need_used, IsSelected, AddsNeeds, IsWithPartner, IsNeedOfContract, IsOwnNeed, IsUsed, IsNeedOfOthers, IsWantedNeed}
use Rattle.deploy_tables.specs.{declared.contracts_there.NumberedContract.{NumberedContract}, Matrix.{IsOfSome}, ContractsThere.{ReportsContracts}}
use Rattle.deploy_tables.specs.{declared.selected_needs.Selection.{Selection}, declared.selected_needs.Selection.TheVariants.{All, Open}}
use Rattle.deploy_tables.specs.{declared.selected_needs.Question.{Question}, Partners.{ArePartners, AreNumbered}}
use Rattle.deploy_tables.proofs.MatrixLoop.{iff-trans, Contains-append, Contains-one, IsOfSome-take_more}
use Rattle.broker_core.specs.{declared.command.Version.{Version}, declared.need.Need.{Need}, declared.need.Latest.{Latest}, declared.need.Kind.{Kind}}
use Rattle.broker_core.specs.{declared.need.PairFault.{PairFault}, Text.{Text, same_text, version}, State.{State, latest}}
use Rattle.broker_core.specs.{Gate.{IsPresent, consumer_of, IsNeed}, Faults.{fault_of, fault_cmp, kind_of, IsFaultAmong}, Listing.{Lists}}
use Rattle.broker_core.proofs.{Lists.{Some-injective, Contains-empty, Contains-here}, Order.{text_cmp-equal, option_cmp-equal, ordering_then-equal}}
use Rattle.broker_core.proofs.Judgement.{same_text-equal, same_text-refl}

-- ---- a latest result, and lists of at most one

-- something is lacking if and only if the need isn't good
kind_of-is_good : (strict : Bool) (w : Text) (said : Option Latest) → is_some (kind_of strict (Some w) said) ≡ not (is_good strict said)
kind_of-is_good strict w None = refl
kind_of-is_good strict w (Some l) = go l.pass l.checked strict
  where
    go : (pass checked strict : Bool) → is_some (kind_of strict (Some w) (Some (record { pass = pass; checked = checked }))) ≡ not (pass && (checked || not strict))
    go true true true = refl
    go true false true = refl
    go _ _ _ = refl

-- so what is left out isn't wanted
is_selected-is_left_out : (selection : Selection) (u : Version) (p w : Text) (said : Option Latest) → is_selected selection (need_with u p (Some w) said) ≡ not (is_left_out selection said)
is_selected-is_left_out All u p w said = refl
is_selected-is_left_out (Open strict) u p w said = kind_of-is_good strict w said

-- and a provider that isn't there always is
IsSelected-absent : (selection : Selection) (v : Version) (p : Text) → IsSelected selection (need_with v p None None)
IsSelected-absent All v p = refl
IsSelected-absent (Open strict) v p = refl

-- ---- needs that are added

pub AddsNeeds-append : (a more b : List Need) (P : Need → Type 0) → b ≡ a ++ more → ((x : Need) → Contains more x ↔ P x) → AddsNeeds a b P
AddsNeeds-append a more b P is are x = Contains-append a more b is x (λ c. c, λ c. c) (are x)

module _ (a b : List Need) (P Q : Need → Type 0) where
  pub AddsNeeds-same : AddsNeeds a b P → ((x : Need) → P x ↔ Q x) → AddsNeeds a b Q
  AddsNeeds-same adds same x = iff-trans (adds x) (λ h. elim h [ inl was ↦ inl was | inr p ↦ inr ((same x).0 p) ], λ h. elim h [ inl was ↦ inl was | inr q ↦ inr ((same x).1 q) ])

  pub AddsNeeds-both : (c : List Need) (R : Need → Type 0) → AddsNeeds a b P → AddsNeeds b c Q → ((x : Need) → (P x ⊎ Q x) ↔ R x) → AddsNeeds a c R
  AddsNeeds-both c R one two same x = iff-trans (two x) (
    λ h. elim h [ inl more ↦ elim ((one x).0 more) [ inl was ↦ inl was | inr p ↦ inr ((same x).0 (inl p)) ] | inr q ↦ inr ((same x).0 (inr q)) ],
    λ h. elim h [ inl was ↦ inl ((one x).1 (inl was)) | inr r ↦ elim ((same x).1 r) [ inl p ↦ inl ((one x).1 (inr p)) | inr q ↦ inr q ] ],
  )

-- those of each member of a list so far
pub AddsNeeds-take_next : {C : Type 0} (Is : C → Need → Type 0) (cs : List C) (a b more : List Need) (at : ℕ) (c : C) → at < length cs → c ≡ get_or cs at c → AddsNeeds a b (λ x. IsOfSome (λ c. Is c x) (take at cs)) → AddsNeeds b more (Is c)
    → AddsNeeds a more (λ x. IsOfSome (λ c. Is c x) (take (at + 1) cs))
AddsNeeds-take_next Is cs a b more at c low is was here = AddsNeeds-both a b _ (Is c) more _ was here (IsOfSome-take_more Is cs at c low is)

-- ---- a contract with one version, and one with the pacticipant of the version, by what the latest result says

module _ (s : State) (q : Question) (said : Option Latest) (good : Bool) (says_good : good ≡ is_left_out q.selection said) where
  is_selected-not_good : (x : Need) (u : Version) (p w : Text) → x ≡ need_with u p (Some w) said → is_selected q.selection x ≡ not good
  is_selected-not_good x u p w is = ap (is_selected q.selection) is ∙ is_selected-is_left_out q.selection u p w said ∙ ap not (sym says_good)

  -- one that isn't left out is added, with the version of this number
  pub IsWithPartner-open : (c : Contract) (n : ℕ) → good ≡ false → ((w : Version) → number_of s.versions w ≡ Some n → said ≡ latest s c.content w)
      → (w : Version) → number_of s.versions w ≡ Some n → (x : Need) → Contains (need_with q.version.now c.provider (Some w.name) said ∷ []) x ↔ IsWithPartner s q c n x
  IsWithPartner-open c n otherwise says w known x =
      let v = q.version.now in
      iff-trans (Contains-one (need_with v c.provider (Some w.name) said) x) (
        λ same. (w, known, is_selected-not_good x v c.provider w.name same ∙ ap not otherwise, same ∙ ap (need_with v c.provider (Some w.name)) (says w known)),
        λ is.
            let alike : is.0 ≡ w = number_of-injective s.versions is.0 w n is.1 known in
            is.3 ∙ (λ i. need_with v c.provider (Some (alike i).name) (latest s c.content (alike i))) ∙ ap (need_with v c.provider (Some w.name)) (sym (says w known)),
      )

  option_to_list-unless_same : (p q : Text) (b : Bool) → same_text p q ≡ b → (y x : Need) → Contains (option_to_list (if b then None else Some y)) x ↔ ((p ≢ q) × (x ≡ y))
  option_to_list-unless_same p q true is y x = (λ none. absurd (Contains-empty x none), λ both. absurd (both.0 (same_text-equal p q is)))
  option_to_list-unless_same p q false is y x = (λ c. (λ same. true≢false (sym (ap (same_text p) (sym same) ∙ same_text-refl p) ∙ is), (Contains-one y x).0 c), λ h. (Contains-one y x).1 h.1)

  pub IsUsed-open : (c : NumberedContract) → good ≡ false → said ≡ latest s c.content q.version.now → (w : Version) → number_of s.versions w ≡ Some c.number
      → (x : Need) → Contains (option_to_list (need_used q.version.now said w)) x ↔ IsUsed s q c x
  IsUsed-open c otherwise says w known x =
      let v = q.version.now in
      iff-trans (option_to_list-unless_same w.pacticipant v.pacticipant (same_text w.pacticipant v.pacticipant) refl (need_with w v.pacticipant (Some v.name) said) x) (
        λ it. (w, known, it.0, is_selected-not_good x w v.pacticipant v.name it.1 ∙ ap not otherwise, it.1 ∙ ap (need_with w v.pacticipant (Some v.name)) says),
        λ is.
            let alike : is.0 ≡ w = number_of-injective s.versions is.0 w c.number is.1 known in
            (subst (λ (u : Version). u.pacticipant ≢ v.pacticipant) alike is.2, is.4 ∙ (λ i. need_with (alike i) v.pacticipant (Some v.name) (sym says i))),
      )

-- ---- a contract with all versions that are there

module _ (s : State) (q : Question) (c : Contract) (numbered : AreNumbered s q.environment.now) where
  pub IsNeedOfContract-with_some : (there : List ℕ) → ArePartners s c.provider (IsPresent s q.environment.now) there → (length there == 0) ≡ false → (x : Need) → IsOfSome (λ n. IsWithPartner s q c n x) there ↔ IsNeedOfContract s q c x
  IsNeedOfContract-with_some there are some x = (
    λ is.
        let it = (are is.0).0 is.1 in
        let w = is.2.0 in
        let alike : w ≡ version c.provider it.0 = number_of-injective s.versions w (version c.provider it.0) is.0 is.2.1 it.2 in
        inl (it.0, it.1, is.2.2, is.2.3 ∙ (λ i. need_with q.version.now c.provider (Some (alike i).name) (latest s c.content (alike i)))),
    λ is. elim is [
      | inl one ↦ let it = numbered (version c.provider one.0) one.1 in (it.0, (are it.0).1 (one.0, one.1, it.1), (version c.provider one.0, it.1, one.2, one.3))
      | inr none ↦ absurd (never there some are none.0)
    ],
  )
    where
      never : (ns : List ℕ) → (length ns == 0) ≡ false → ArePartners s c.provider (IsPresent s q.environment.now) ns → ((w : Text) → ¬ (IsPresent s q.environment.now (version c.provider w))) → ⊥
      never [] some are none = absurd cc
      never (n ∷ ns) some are none = let it = (are n).0 (Contains-here n ns) in none it.0 it.1

  pub IsNeedOfContract-with_none : (there : List ℕ) → ArePartners s c.provider (IsPresent s q.environment.now) there → (length there == 0) ≡ true → (x : Need) → Contains (need_with q.version.now c.provider None None ∷ []) x ↔ IsNeedOfContract s q c x
  IsNeedOfContract-with_none there are none x = iff-trans (Contains-one (need_with q.version.now c.provider None None) x)
      (λ same. inr (nobody, same), λ is. elim is [ inl one ↦ absurd (nobody one.0 one.1) | inr none ↦ none.1 ])
    where
      nobody : (w : Text) → IsPresent s q.environment.now (version c.provider w) → ⊥
      nobody w is_present =
          let it = numbered (version c.provider w) is_present in
          let has = (are it.0).1 (w, is_present, it.1) in
          omega (arith, has.1, eqb-true (length there) 0 none)

-- ---- both sides

module _ (s : State) (q : Question) where
  -- what a contract of the version gives is a need
  IsOwnNeed-IsWantedNeed : (x : Need) → IsOwnNeed s q x → IsWantedNeed s q x
  IsOwnNeed-IsWantedNeed x (c, mine, inl (w, is_present, lacking, is)) =
      subst (λ y. IsWantedNeed s q y) (sym is) (record { content = c.content; contract = mine; between = inl (refl, is_present); result = refl }, subst (IsSelected q.selection) is lacking)
  IsOwnNeed-IsWantedNeed x (c, mine, inr (none, is)) =
      subst (λ y. IsWantedNeed s q y) (sym is) (record { content = c.content; contract = mine; between = inr (inl (refl, refl, none)); result = refl }, IsSelected-absent q.selection q.version.now c.provider)

  IsNeedOfOthers-IsWantedNeed : (x : Need) → IsNeedOfOthers s q x → IsWantedNeed s q x
  IsNeedOfOthers-IsWantedNeed x (c, (u, is_present, numbered, uses), (w, number, other, lacking, is)) =
      let alike : u ≡ w = number_of-injective s.versions u w c.number numbered number in
      subst (λ y. IsWantedNeed s q y) (sym is) (
        record {
          content = c.content;
          contract = subst (λ y. s.contracts (y, q.version.now.pacticipant) ≡ Some c.content) alike uses;
          between = inr (inr (other, subst (IsPresent s q.environment.now) alike is_present, refl, refl));
          result = refl;
        },
        subst (IsSelected q.selection) is lacking,
      )

  alike : (a b : Need) → a.consumer ≡ b.consumer → a.consumer_version ≡ b.consumer_version → a.provider ≡ b.provider → a.provider_version ≡ b.provider_version → a.latest ≡ b.latest → a ≡ b
  alike a b one two three four five = λ i. record { consumer = one i; consumer_version = two i; provider = three i; provider_version = four i; latest = five i }

  IsOwnNeed-complete : (x : Need) (content : ℕ) → s.contracts (consumer_of x, x.provider) ≡ Some content → consumer_of x ≡ q.version.now → (o : Option Text) → x.provider_version ≡ o → IsSomeAnd o (λ w. IsPresent s q.environment.now (version x.provider w))
      → x.latest ≡ option_and_then (λ w. latest s content (version x.provider w)) o → IsSelected q.selection x → IsOwnNeed s q x
  IsOwnNeed-complete x content contract mine None is there result lacking = absurd there
  IsOwnNeed-complete x content contract mine (Some w) is there result lacking = (
    record { provider = x.provider; content = content },
    subst (λ u. s.contracts (u, x.provider) ≡ Some content) mine contract,
    inl (w, there, lacking, alike x (need_with q.version.now x.provider (Some w) (latest s content (version x.provider w))) (ap (λ (u : Version). u.pacticipant) mine) (ap (λ (u : Version). u.name) mine) refl is result),
  )

  -- and each need that is wanted is found
  IsNeed-own_or_of_others : (x : Need) → AreNumbered s q.environment.now → IsNeed s q.version.now q.environment.now x → IsSelected q.selection x → IsOwnNeed s q x ⊎ IsNeedOfOthers s q x
  IsNeed-own_or_of_others x numbered is lacking = elim is.between [
    | inl there ↦ inl (IsOwnNeed-complete x is.content is.contract there.0 x.provider_version refl there.1 is.result lacking)
    | inr (inl none) ↦ inl (
      record { provider = x.provider; content = is.content },
      subst (λ u. s.contracts (u, x.provider) ≡ Some is.content) none.0 is.contract,
      inr (
        none.2,
        alike x (need_with q.version.now x.provider None None) (ap (λ (u : Version). u.pacticipant) none.0) (ap (λ (u : Version). u.name) none.0) refl none.1 (is.result ∙ ap (option_and_then (λ w. latest s is.content (version x.provider w))) none.1),
      ),
    )
    | inr (inr theirs) ↦
        let w = consumer_of x in
        let n = numbered w theirs.1 in
        inr (
          record { number = n.0; content = is.content },
          (w, theirs.1, n.1, subst (λ p. s.contracts (w, p) ≡ Some is.content) theirs.2 is.contract),
          (
            w,
            n.1,
            theirs.0,
            lacking,
            alike x (need_with w q.version.now.pacticipant (Some q.version.now.name) (latest s is.content q.version.now)) refl refl theirs.2 theirs.3
                (is.result ∙ ap (option_and_then (λ w. latest s is.content (version x.provider w))) theirs.3 ∙ ap (λ p. latest s is.content (version p q.version.now.name)) theirs.2),
          ),
        )
  ]

  -- what is found of the contracts that are there
  pub IsNeedOfOthers-found : (there : List NumberedContract) → ReportsContracts s q.version.now.pacticipant (IsPresent s q.environment.now) there → (x : Need) → IsOfSome (λ c. IsUsed s q c x) there ↔ IsNeedOfOthers s q x
  IsNeedOfOthers-found there returned x = (λ it. (it.0, (returned it.0).0 it.1, it.2), λ is. (is.0, (returned is.0).1 is.1, is.2))

  pub IsWantedNeed-both : AreNumbered s q.environment.now → (none mine all : List Need) → none ≡ [] → AddsNeeds none mine (IsOwnNeed s q) → AddsNeeds mine all (IsNeedOfOthers s q) → (x : Need) → Contains all x ↔ IsWantedNeed s q x
  IsWantedNeed-both numbered none mine all empty own theirs x = iff-trans (AddsNeeds-both none mine _ _ all (IsWantedNeed s q) own theirs
      (λ x. (λ found. elim found [ inl one ↦ IsOwnNeed-IsWantedNeed x one | inr two ↦ IsNeedOfOthers-IsWantedNeed x two ], λ is. IsNeed-own_or_of_others x numbered is.0 is.1)) x)
      (λ h. elim h [ inl was ↦ absurd (Contains-empty x (subst (λ xs. Contains xs x) empty was)) | inr is ↦ is ], λ is. inr is)

-- ---- all of them, each once

pub need_cmp-IsTotalOrder : IsTotalOrder need_cmp
need_cmp-IsTotalOrder = then_total (on_total (λ (x : Need). x.consumer) nat_list_cmp_total)
    (then_total (on_total (λ (x : Need). x.consumer_version) nat_list_cmp_total)
    (then_total (on_total (λ (x : Need). x.provider) nat_list_cmp_total) (on_total (λ (x : Need). x.provider_version) (options_total nat_list_cmp_total))))

-- two needs of the same names are one
pub IsNeed-one_need : (s : State) (v : Version) (e : Text) (x y : Need) → IsNeed s v e x → IsNeed s v e y → need_cmp x y ≡ Equal → x ≡ y
IsNeed-one_need s v e x y is are tied =
    let a = ordering_then-equal _ _ tied in
    let b = ordering_then-equal _ _ a.1 in
    let d = ordering_then-equal _ _ b.1 in
    let c = text_cmp-equal x.consumer y.consumer a.0 in
    let cv = text_cmp-equal x.consumer_version y.consumer_version b.0 in
    let p = text_cmp-equal x.provider y.provider d.0 in
    let pv = option_cmp-equal x.provider_version y.provider_version d.1 in
    let content : is.content ≡ are.content = Some-injective _ _ (sym is.contract ∙ (λ i. s.contracts (version (c i) (cv i), p i)) ∙ are.contract) in
    let said : x.latest ≡ y.latest = is.result ∙ (λ i. option_and_then (λ w. latest s (content i) (version (p i) w)) (pv i)) ∙ sym are.result in
    λ i. record { consumer = c i; consumer_version = cv i; provider = p i; provider_version = pv i; latest = said i }

-- ---- their faults

-- a need that has a fault isn't good
fault_of-IsSelected : (strict : Bool) (x : Need) (f : PairFault) → fault_of strict x ≡ Some f → IsSelected (Open strict) x
fault_of-IsSelected strict x f is = go _ (kind_of strict x.provider_version x.latest) is
  where
    go : (fault : Kind → PairFault) (o : Option Kind) → option_map fault o ≡ Some f → is_some o ≡ true
    go fault None none = absurd cc
    go fault (Some k) some = refl

pub AreFaults-listed : (s : State) (v : Version) (e : Text) (strict : Bool) (needs : List Need) (faults : List PairFault) → ((x : Need) → Contains needs x ↔ (IsNeed s v e x × IsSelected (Open strict) x)) → Lists fault_cmp (IsFaultAmong strict needs) faults → AreFaults s v e strict faults
AreFaults-listed s v e strict needs faults are listed same = record {
  sorted = listed.sorted;
  exactly = λ f. (
    λ c. let it = (listed.exactly f).0 c in (it.0, ((are it.0).0 it.1).0, ap (λ b. fault_of b it.0) same ∙ it.2),
    λ is.
        let fault : fault_of strict is.0 ≡ Some f = ap (λ b. fault_of b is.0) (sym same) ∙ is.2 in
        (listed.exactly f).1 (is.0, (are is.0).1 (is.1, fault_of-IsSelected strict is.0 f fault), fault),
  );
}
