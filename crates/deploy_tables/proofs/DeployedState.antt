-- What the rows of the deployed versions say of the state, and their list.
use Rattle.std.specs.{Prelude.{option_map, is_some, if◌then◌else◌}, Option.{option_map_or}, Ordering.{eq_by_cmp, int_cmp}, Cmp.{eq_by_cmp_equiv, Equal-is}}
use Rattle.std.specs.{FinMap.{int_cmp-IsAntisymmetric}, Cmp.Lexicographic.{texts_ties}}
use Rattle.std.proofs.Common.{◌≡◌, ◌==◌, inl, inr, ℕ, ℤ, pos, codes, List, [], ◌∷◌, Bool, true, false, ◌&&◌, refl, sym, ap, ◌∙◌, cond, nat_lt, Some, None, Option, Ok, IsTrue, subst, arith}
use Rattle.std.proofs.lemmas.Cmp.{int_cmp_total}
use Rattle.broker_core.specs.{State.{State as Broker}, Machine.{deployed_cmp}, declared.command.Version.{Version}}
use Rattle.broker_core.specs.{Text.{Text as Words, same_text, same_place, version}, Change.{is_text}, declared.answer.DeployedItem.{DeployedItem}}
use Rattle.broker_core.{specs.Listing.{Lists}, proofs.{Lists.{Some-injective}, Judgement.{same_text-refl}}}
use Rattle.contract_tables.proofs.{ItemLists.{Lists-of_pairs}, ReferredRows.{HasRowWith-owner}}
use Rattle.deploy_tables.specs.Deployments.{MayBeDeployed, RecordsDeployed, IsVersionOf, TakesOutAndReports, FindsNothing, without_instance}
use Rattle.deploy_tables.specs.{Listings.{IsDeployedRow}, ContractsThere.{IsDeployedIn}}
use Rattle.deploy_tables.proofs.DeployedRows.{Place, place_of, place_cmp, record_sql, row_for, recording, PutsAt-deployed, end_sql, is_number, number_in, at_place, Executes-end_deployment, environments, pacticipants, column-deployed_instance, numbers}
use Rattle.deploy_tables.proofs.VersionRows.{pos-injective, joined_by, on_number, in_environment, references-named_version, ordering_then-still_less, value_cmp-two_texts, Names, IsOf, keeps_both-joined_by}
use Rattle.deploy_tables.proofs.LeftRows.{from_left, Answers-from_left_as_join}
use Rattle.sqlite_typing.specs.Types.{accepts_program}
use Rattle.broker_tables.specs.{Schema.{in_versions, in_deployed, broker_schema}, Numbers.{number_of}, Holds.{Holds, HoldsAfter}}
use Rattle.broker_tables.proofs.VersionRows.{false_if, number_of-has_row, number_of-version_row, option_map-pos_Some, IsAscending-one_row, IsNumbered-versions}
use Rattle.broker_tables.proofs.{NumberLemmas.{number_of-injective, number_of-same_version}, Keyed.{deployed_by_place, IsAscending-keys_of_table}}
use Rattle.broker_tables.proofs.Frames.{Frame, ChangesOnly-Frame, Holds-deployed}
use Rattle.broker_tables.proofs.Inserted.{EndsFrom, IsThere-environment, IsThere-pacticipant, IsThere-version}
use Rattle.broker_tables.proofs.{Placed.{deployed, at_deployed, listed, Placed-IsNumbered}, RoomLemmas.{Grows, HoldsAfter-one_table}}
use Rattle.broker_tables.proofs.Upserted.{Executes-upsert_value, shows-set_row, upsert_ends}
use Rattle.broker_tables.proofs.{Orders.{pair_cmp-IsAntisymmetric, by_both-exact_texts, by_both-total_texts}, Ties.{and-same, both_eq, eqb-int_cmp}}
use Rattle.broker_tables.proofs.TableQuery.{TableQuery, IsShown}
use Rattle.sqlite_rules.specs.Lists.{Has}
use Rattle.sqlite_tied.specs.Compute.{everything}
use Rattle.table_access.specs.{Columns.{text, text_cmp, whole_at, by_both}, Sound.{text_in}, Statements.{from_both, ChangesOnly}, Reading.{AreRead}}
use Rattle.table_access.proofs.{Keys.{IsNumbered-whole_at_unique}, Maps.{find-has_row, find-of_row}}
use Rattle.sqlite.specs.{declared.types.Value.TheVariants.{Int, Text}, State.{State, Executes}, Order.{Row}, Term.{Term, col}, Collation.TheVariants.{Binary}}
use Rattle.sqlite.specs.{Effect.{Database, Answers}, Query.{Query}, Listing.{understood}}
use Rattle.sqlite_value.specs.{declared.keys.Key.{Key}, Keys.{ascending}}

-- the number in a row is that of the version that is there, or there is neither
abbrev pub IsNumberOf : List Version → Words → Option ℤ → Option Words → Type 0
IsNumberOf vs p value there = (option_map Some value ≡ option_map (λ name. option_map pos (number_of vs (version p name))) there)

-- a number names a version that is there
pub IsNumberOf-Some_number : (vs : List Version) (p : Words) (z : ℤ) (there : Option Words) → IsNumberOf vs p (Some z) there
    → (name : Words) × (there ≡ Some name) × ((k : ℕ) × (number_of vs (version p name) ≡ Some k) × (z ≡ pos k))
IsNumberOf-Some_number vs p z None h = absurd cc
IsNumberOf-Some_number vs p z (Some name) h = (name, refl, option_map-pos_Some z (number_of vs (version p name)) (Some-injective (Some z) (option_map pos (number_of vs (version p name))) h))

-- and a version that is there has a number
pub IsNumberOf-Some_name : (vs : List Version) (p name : Words) (value : Option ℤ) → IsNumberOf vs p value (Some name)
    → (k : ℕ) × (number_of vs (version p name) ≡ Some k) × (value ≡ Some (pos k))
IsNumberOf-Some_name vs p name None h = absurd cc
IsNumberOf-Some_name vs p name (Some z) h = let it = IsNumberOf-Some_number vs p z (Some name) h in
    (it.2.0, ap (λ n. number_of vs (version p n)) (Some-injective name it.0 it.1) ∙ it.2.1, ap Some it.2.2)

-- a number that was found
pub is_number-found : (found : Option ℕ) (value : Option ℤ) (n : ℕ) → option_map pos found ≡ value → option_map_or (λ k. k == n) found false ≡ is_number n value
is_number-found None value n is = ap (is_number n) is
is_number-found (Some k) value n is = eqb-int_cmp k n ∙ (eq_by_cmp_equiv int_cmp_total).symm (pos k) (pos n) ∙ ap (is_number n) is

-- whether the number at a place is this one is whether the version of this number is deployed there
pub is_number-is_text : (vs : List Version) (p : Words) (value : Option ℤ) (there : Option Words) → IsNumberOf vs p value there → (v : Version) (n : ℕ)
    → number_of vs v ≡ Some n → v.pacticipant ≡ p → is_number n value ≡ is_text v.name there
is_number-is_text vs p None None held v n numbered owner = refl
is_number-is_text vs p (Some z) None held v n numbered owner = absurd (let it = IsNumberOf-Some_number vs p z None held in let none = it.1 in cc)
is_number-is_text vs p value (Some name) held v n numbered owner =
    let it = IsNumberOf-Some_name vs p name value held in
    ap (is_number n) it.2 ∙ (eq_by_cmp_equiv int_cmp_total).symm (pos n) (pos it.0) ∙ sym (number_of-same_version vs (version p name) v it.0 n it.1 numbered) ∙ ap (λ t. t && same_text name v.name) (ap (same_text p) owner ∙ same_text-refl p)

-- if no version of the pacticipant has this number, none of this number is there
pub is_number-unknown_version : (vs : List Version) (p : Words) (value : Option ℤ) (there : Option Words) → IsNumberOf vs p value there → (n : ℕ)
    → ((v : Version) → number_of vs v ≡ Some n → v.pacticipant ≡ p → ⊥) → is_number n value ≡ false
is_number-unknown_version vs p None there held n none = refl
is_number-unknown_version vs p (Some z) there held n none = false_if (eq_by_cmp int_cmp (pos n) z) (λ hit.
    let it = IsNumberOf-Some_number vs p z there held in
    let same : pos n ≡ pos it.2.0 = int_cmp-IsAntisymmetric (pos n) z ((Equal-is (int_cmp (pos n) z)).0 hit) ∙ it.2.2 in
    none (version p it.0) (it.2.1 ∙ ap Some (sym (pos-injective n it.2.0 same))) refl)

pub same_place-by_both : (e p i f q j : Words) → same_place (e, p, i) (f, q, j) ≡ eq_by_cmp (by_both text_cmp (by_both text_cmp text_cmp)) (e, (p, i)) (f, (q, j))
same_place-by_both e p i f q j =
    and-same _ _ _ _ (texts_ties e f) (and-same _ _ _ _ (texts_ties p q) (texts_ties i j) ∙ both_eq (text_cmp p q) (text_cmp i j)) ∙ both_eq (text_cmp e f) (by_both text_cmp text_cmp (p, i) (q, j))

-- the version is deployed there now, in place of what was there
pub HoldsAfter-RecordsDeployed : (e p i : Words) (n : ℕ) (old new : State) (s : Broker) → Holds old.now s → (t : Broker) → RecordsDeployed e p i n s t → (count : ℕ) → Executes record_sql (row_for e p i n) old new (Ok count) → HoldsAfter 2 old new t
HoldsAfter-RecordsDeployed e p i n old new s held t (v, numbered, owner, next) count h =
    let it = Executes-upsert_value deployed_by_place (recording e p i n) (PutsAt-deployed e p i n) old new held.broker count h in
    let frame = ChangesOnly-Frame (codes "deployed" ∷ []) in_deployed.tree refl old new held.broker it.0 in
    HoldsAfter-one_table 2 (omega arith) (codes "deployed") old new _ frame (λ counted. it.1) (subst (Holds new.now) (sym next) (Holds-deployed old.now new.now s _ held frame (λ f q j.
    ap (option_map Some) (it.2 (f, (q, j))) ∙ go f q j (eq_by_cmp place_cmp (f, (q, j)) (e, (p, i))) refl ∙ ap (λ b. option_map (λ name. option_map pos (number_of s.versions (version q name))) (cond b (Some v.name) (s.deployed (f, q, j)))) (sym (same_place-by_both f q j e p i)))))
  where
    go : (f q j : Words) (b : Bool) → eq_by_cmp place_cmp (f, (q, j)) (e, (p, i)) ≡ b
        → option_map Some (cond b (Some (pos n)) (number_in (old.now.trees in_deployed.tree) (f, (q, j)))) ≡ option_map (λ name. option_map pos (number_of s.versions (version q name))) (cond b (Some v.name) (s.deployed (f, q, j)))
    go f q j true hit =
        let same = by_both-exact_texts (f, (q, j)) (e, (p, i)) ((Equal-is (place_cmp (f, (q, j)) (e, (p, i)))).0 hit) in
        ap (λ o. Some (option_map pos o)) (sym numbered) ∙ ap (λ x. Some (option_map pos (number_of s.versions (version x v.name)))) (owner ∙ sym (ap (λ k. k.1.0) same))
    go f q j false miss = held.deployed f q j

-- that a version is deployed fails only as the store fails, or since one of its names is too long
pub EndsFrom-MayBeDeployed : (e p i : Words) (n : ℕ) (old new : State) → EndsFrom (codes "deployed" ∷ []) (e ∷ p ∷ i ∷ []) record_sql (row_for e p i n) old new (MayBeDeployed e p n)
EndsFrom-MayBeDeployed e p i n old new s here (there, (v, numbered, owner)) numbers =
    let held = here.held in
    let row = row_for e p i n in
    upsert_ends (recording e p i n) old new held.broker (shows-set_row deployed_by_place (recording e p i n) (PutsAt-deployed e p i n) old new held.broker) numbers.0 (λ id. record { typed = refl; present = refl; checked = refl }) (λ id. (
      IsThere-environment old.now s held (id ∷ row) in_deployed.environment e there refl,
      (IsThere-pacticipant old.now s held (id ∷ row) in_deployed.pacticipant p (subst (λ x. IsTrue (is_some (s.pacticipants x))) owner (HasRowWith-owner old.now s held v n numbered)) refl, (IsThere-version old.now s held (id ∷ row) in_deployed.version_number v n numbered refl, tt)),
    )) (e ∷ p ∷ i ∷ []) (λ are. (are.0, (are.1.0, (are.1.1.0, (tt, tt))))) (omega arith) (omega arith) here.unlimited

-- ---- the end of a deployment

module _ (e p i : Words) (n : ℕ) (old new : State) (count : ℕ) (s : Broker) (held : Holds old.now s) (h : Executes end_sql (Text e ∷ Text p ∷ Text i ∷ Int (pos n) ∷ []) old new (Ok count)) where
  abbrev there : Option ℤ
  there = at_place old.now held.broker e p i n

  it : ChangesOnly in_deployed.tree old new × Grows (old.now.trees in_deployed.tree) (new.now.trees in_deployed.tree) × ((b : Bool) → is_number n there ≡ b → (q : Place)
      → number_in (new.now.trees in_deployed.tree) q ≡ cond (b && eq_by_cmp place_cmp q (e, (p, i))) None (number_in (old.now.trees in_deployed.tree) q))
      × (nat_lt 0 count ≡ is_number n there)
  it = Executes-end_deployment e p i n old new count held.broker h

  frame : Frame (codes "deployed" ∷ []) old.now new.now
  frame = ChangesOnly-Frame (codes "deployed" ∷ []) in_deployed.tree refl old new held.broker it.0

  each : (f q j : Words) (b : Bool)
      → option_map Some (cond b None (number_in (old.now.trees in_deployed.tree) (f, (q, j)))) ≡ option_map (λ name. option_map pos (number_of s.versions (version q name))) (cond b None (s.deployed (f, q, j)))
  each f q j true = refl
  each f q j false = held.deployed f q j

  go : (b : Bool) → is_number n there ≡ b → Holds new.now (if b then without_instance s e p i else s)
  go true hit =
      Holds-deployed old.now new.now s _ held frame (λ f q j.
      ap (option_map Some) (it.2 true hit (f, (q, j))) ∙ each f q j (eq_by_cmp place_cmp (f, (q, j)) (e, (p, i)))
      ∙ ap (λ b. option_map (λ name. option_map pos (number_of s.versions (version q name))) (cond b None (s.deployed (f, q, j)))) (sym (same_place-by_both f q j e p i)))
  go false miss = Holds-deployed old.now new.now s s.deployed held frame (λ f q j. ap (option_map Some) (it.2 false miss (f, (q, j))) ∙ held.deployed f q j)

  HoldsAfter-without_instance : (b : Bool) → is_number n there ≡ b → HoldsAfter 2 old new (if b then without_instance s e p i else s)
  HoldsAfter-without_instance b is = HoldsAfter-one_table 2 (omega arith) (codes "deployed") old new _ frame (λ counted. it.1) (go b is)

  -- the version isn't deployed there any more, and the count says whether it was; another version stays
  pub HoldsAfter-TakesOutAndReports : IsVersionOf p n s → (t : Broker) × TakesOutAndReports e p i n (nat_lt 0 count) s t × HoldsAfter 2 old new t
  HoldsAfter-TakesOutAndReports v =
      let returned : (w : Version) → number_of s.versions w ≡ Some n → w.pacticipant ≡ p → is_number n there ≡ is_text w.name (s.deployed (e, p, i)) =
      λ w is owner. is_number-is_text s.versions p there (s.deployed (e, p, i)) (held.deployed e p i) w n is owner in (
        if is_text v.0.name (s.deployed (e, p, i)) then without_instance s e p i else s,
        ((v.0, v.1, v.2, refl), λ w is owner. it.3 ∙ returned w is owner),
        HoldsAfter-without_instance (is_text v.0.name (s.deployed (e, p, i))) (returned v.0 v.1 v.2),
      )

  -- if the pacticipant has no version of that number, all stays
  pub HoldsAfter-FindsNothing : ¬ (IsVersionOf p n s) → (t : Broker) × FindsNothing (nat_lt 0 count) s t × HoldsAfter 2 old new t
  HoldsAfter-FindsNothing none =
      let miss = is_number-unknown_version s.versions p there (s.deployed (e, p, i)) (held.deployed e p i) n (λ v is owner. none (v, is, owner)) in
      (s, (it.3 ∙ miss, refl), HoldsAfter-without_instance false miss)

-- ---- the list

abbrev pub list_order : List (Term × Key)
list_order = (col 1 in_deployed.pacticipant, ascending Binary) ∷ (col 1 in_deployed.instance, ascending Binary) ∷ []

abbrev pub list_project : List Term
list_project = col 1 in_deployed.pacticipant ∷ col 1 in_deployed.instance ∷ col 2 in_versions.version ∷ []

pub deployments : (e : List ℕ)
    → TableQuery (codes "SELECT d.pacticipant, d.instance, v.version FROM deployed d LEFT JOIN versions v ON v.number = d.version_number WHERE d.environment = ?1 ORDER BY d.pacticipant, d.instance")
    (Text e ∷ []) (from_left in_deployed.tree in_versions.tree (on_number in_deployed.version_number) in_environment list_project list_order)
unfolding understood everything
deployments e = record { names = _; means = record { is = refl; plain = (refl, refl); unlisted = refl }; runs = record { whole = refl; typed = refl; sumless = refl } }

abbrev joined_query : Query
joined_query = from_both in_deployed.tree in_versions.tree (joined_by in_deployed.version_number) list_project list_order

accepts_program-joined_query : (e : List ℕ) → accepts_program broker_schema [] joined_query (Text e ∷ []) ≡ true
unfolding understood everything
accepts_program-joined_query e = refl

-- ---- the rows of an environment, and what they say

module _ (db : Database) (s : Broker) (held : Holds db s) (e : Words) where
  -- a row names a version that is deployed, by its number
  pub deployed-of_row : (d : Row) → Has (db.trees in_deployed.tree) d → text in_deployed.environment d ≡ e → (name : Words) × (s.deployed (e, text in_deployed.pacticipant d, text in_deployed.instance d) ≡ Some name) × ((k : ℕ) × (number_of s.versions (version (text in_deployed.pacticipant d) name) ≡ Some k) × (whole_at in_deployed.version_number d ≡ pos k))
  deployed-of_row d has there =
      let value : number_in (db.trees in_deployed.tree) (e, (text in_deployed.pacticipant d, text in_deployed.instance d)) ≡ Some (whole_at in_deployed.version_number d) =
      subst (λ f. number_in (db.trees in_deployed.tree) (f, (text in_deployed.pacticipant d, text in_deployed.instance d)) ≡ Some (whole_at in_deployed.version_number d)) there
      (find-of_row by_both-total_texts by_both-exact_texts place_of (whole_at in_deployed.version_number) (db.trees in_deployed.tree) d (IsAscending-keys_of_table deployed_by_place db held.broker) has) in
      IsNumberOf-Some_number s.versions (text in_deployed.pacticipant d) (whole_at in_deployed.version_number d) (s.deployed (e, text in_deployed.pacticipant d, text in_deployed.instance d)) (sym (ap (option_map Some) value) ∙ held.deployed e (text in_deployed.pacticipant d) (text in_deployed.instance d))

  -- the version that has this number
  pub deployed-of_number : (d : Row) (w : Version) (n : ℕ) → Has (db.trees in_deployed.tree) d → text in_deployed.environment d ≡ e → number_of s.versions w ≡ Some n
      → whole_at in_deployed.version_number d ≡ pos n
      → (text in_deployed.pacticipant d ≡ w.pacticipant) × (s.deployed (e, text in_deployed.pacticipant d, text in_deployed.instance d) ≡ Some w.name)
  deployed-of_number d w n has there known number =
      let it = deployed-of_row d has there in
      let same : version (text in_deployed.pacticipant d) it.0 ≡ w = number_of-injective s.versions (version (text in_deployed.pacticipant d) it.0) w n (it.2.1 ∙ ap Some (pos-injective it.2.0 n (sym it.2.2 ∙ number))) known in
      (ap (λ (v : Version). v.pacticipant) same, it.1 ∙ ap (λ (v : Version). Some v.name) same)

  -- and what is deployed has a row, and a number
  pub deployed-has_row : (p i name : Words) → s.deployed (e, p, i) ≡ Some name
      → (k : ℕ) × (number_of s.versions (version p name) ≡ Some k) × ((d : Row) × Has (db.trees in_deployed.tree) d × (text in_deployed.environment d ≡ e) × (text in_deployed.pacticipant d ≡ p) × (text in_deployed.instance d ≡ i) × (whole_at in_deployed.version_number d ≡ pos k))
  deployed-has_row p i name there =
      let at = IsNumberOf-Some_name s.versions p name (number_in (db.trees in_deployed.tree) (e, (p, i)))
      (held.deployed e p i ∙ ap (option_map (λ n. option_map pos (number_of s.versions (version p n)))) there) in
      let d = find-has_row by_both-total_texts by_both-exact_texts place_of (whole_at in_deployed.version_number) (e, (p, i)) (pos at.0) (db.trees in_deployed.tree) at.2 in
      (at.0, at.1, (d.0, d.1, sym (ap (λ x. x.0) d.2), sym (ap (λ x. x.1.0) d.2), sym (ap (λ x. x.1.1) d.2), d.3))

  pub Names-IsDeployedIn : Names db s in_deployed.tree in_deployed.version_number e (IsDeployedIn s e)
  Names-IsDeployedIn = record {
    environments = (environments db held.broker);
    numbers = (numbers db held.broker);
    row_is = λ d w n has there known number.
        let it = deployed-of_number d w n has there known number in
        (text in_deployed.instance d, ap (λ p. s.deployed (e, p, text in_deployed.instance d)) (sym it.0) ∙ it.1);
    is_row = λ w n known there.
        let at = deployed-has_row w.pacticipant there.0 w.name there.1 in
        (at.2.0, at.2.1, at.2.2, at.2.5 ∙ ap pos (Some-injective at.0 n (sym at.1 ∙ known)));
  }

  -- each row names a version, so that what is shown is what the JOIN shows
  pub IsShown-deployments_as_join : (rows : List Row) → IsShown (deployments e) db rows → Answers db (record { lets = []; body = joined_query }) (Text e ∷ []) rows
  IsShown-deployments_as_join rows h =
      Answers-from_left_as_join db (Text e ∷ []) in_deployed.tree in_versions.tree (on_number in_deployed.version_number) in_environment list_project list_order rows
      (subst (λ x. accepts_program x [] joined_query (Text e ∷ []) ≡ true) (sym held.broker.schema) (accepts_program-joined_query e))
      (references-named_version db held.broker in_deployed.tree in_deployed.version_number (environments db held.broker) (numbers db held.broker) e
      deployed (listed at_deployed db held.broker) refl (inr (inr (inl refl)))) h

  pub Lists-deployments : (rows : List Row) (items : List DeployedItem) → IsShown (deployments e) db rows → AreRead IsDeployedRow rows items
      → Lists deployed_cmp (λ x. s.deployed (e, x.pacticipant, x.instance) ≡ Some x.version) items
  Lists-deployments = Lists-of_pairs db IsDeployedRow deployed_cmp (λ x. s.deployed (e, x.pacticipant, x.instance) ≡ Some x.version) pair_cmp-IsAntisymmetric (λ x. (x.pacticipant, x.instance))
      (λ x y less. ordering_then-still_less (text_cmp x.pacticipant y.pacticipant) (text_cmp x.instance y.instance) (text_cmp x.version y.version) less) IsShown-deployments_as_join
      (IsOf db held.broker in_deployed.tree in_deployed.version_number (environments db held.broker) (numbers db held.broker) e) (Placed-IsNumbered at_deployed db held.broker) (IsNumbered-versions db held.broker)
      (keeps_both-joined_by db held.broker in_deployed.tree in_deployed.version_number (environments db held.broker) (numbers db held.broker) e) (record {
        key = λ q. (text in_deployed.pacticipant q.0, text in_deployed.instance q.0);
        sorted = λ a b one two. value_cmp-two_texts _ _ _ _ _ _ _ _ (pacticipants db held.broker a.0 one.0) (pacticipants db held.broker b.0 two.0) (column-deployed_instance db held.broker a.0 one.0) (column-deployed_instance db held.broker b.0 two.0);
        one = λ a b one two same.
            let keyed : place_of a.0 ≡ place_of b.0 = λ i. ((one.2.1 ∙ sym two.2.1) i, same i) in
            let row = IsAscending-one_row by_both-total_texts place_of (db.trees in_deployed.tree) (IsAscending-keys_of_table deployed_by_place db held.broker) a.0 b.0 one.0 two.0 keyed in
            let number : whole_at 0 a.1 ≡ whole_at 0 b.1 = one.2.0 ∙ ap (whole_at in_deployed.version_number) row ∙ sym two.2.0 in
            λ i. (row i, IsAscending-one_row int_cmp_total (whole_at 0) (db.trees in_versions.tree) (IsNumbered-whole_at_unique (db.trees in_versions.tree) (IsNumbered-versions db held.broker)) a.1 b.1 one.1 two.1 number i);
        read = λ q x read i. (text_in (read.0 i), text_in (read.1 i));
        sound = λ q x it read.
            let known = number_of-version_row db held.broker s.versions held.versions q.1 it.1 in
            (λ i. s.deployed (e, sym (ap text_in read.0) i, sym (ap text_in read.1) i))
            ∙ (deployed-of_number q.0 (version (text in_versions.pacticipant q.1) (text in_versions.version q.1)) known.0 it.0 it.2.1 known.1 (sym it.2.0 ∙ known.2)).1
            ∙ ap Some (ap text_in read.2);
        complete = λ x there.
            let at = deployed-has_row x.pacticipant x.instance x.version there in
            let d = at.2 in
            let v = number_of-has_row db held.broker s.versions (version x.pacticipant x.version) at.0 held.versions at.1 in
            ((d.0, v.0), (d.1, v.1, (v.4 ∙ sym d.5, d.2)), λ y read i. record { pacticipant = (sym (ap text_in read.0) ∙ d.3) i; instance = (sym (ap text_in read.1) ∙ d.4) i; version = (sym (ap text_in read.2) ∙ v.3) i });
      })
