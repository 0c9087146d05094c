-- The state that the tables hold if their rows obey the rules, and what each table says of it.
use Rattle.std.specs.{Prelude.{Option, option_map, option_and_then, unwrap_or, IsSome}, Option.{option_map_or}, Ordering.{is_eq, int_cmp}}
use Rattle.std.specs.{Cmp.{Equal-is, int_cmp_total}, FinMap.{int_cmp-IsAntisymmetric}}
use Rattle.std.proofs.Common.{◌≡◌, inl, inr, ℕ, ℤ, pos, List, [], ◌∷◌, map, Bool, true, false, not, Some, None, refl, sym, ap, subst, ◌∙◌, codes}
use Rattle.sqlite.specs.{Order.{Row, column}, Tree.{rowid}, Table.{Table}, Term.{eval}, Effect.{Database}, Collation.TheVariants.{Binary}}
use Rattle.sqlite.specs.declared.types.Value.TheVariants.{Int}
use Rattle.sqlite_sql.specs.{Ops.{binary, is_false, from_truth}, declared.ops.BinaryOp.TheVariants.{Compare}, declared.ops.CompareOp.TheVariants.{Eq}}
use Rattle.sqlite_value.proofs.OrderLemmas.{value_cmp-Int}
use Rattle.sqlite_rules.{specs.Lists.{Has}, proofs.TableLemmas.{int_is}}
use Rattle.sqlite_keyed.proofs.{ListLemmas.{map-map}, RuleLemmas.{first_of_both}}
use Rattle.table_access.{specs.{Columns.{text, text_cmp, whole_at, by_both}, Sound.{IsNumbered, whole}}, proofs.Maps.{find-of_row, find-has_row}}
use Rattle.table_access.proofs.{Keys.{IsNumbered-whole_at_unique}, SoundLemmas.{at_has, IsDatabase-passes_checks}}
use Rattle.broker_core.specs.{declared.command.Version.{Version}, Text.{Text, version}, State.{State as Broker, Verification}}
use Rattle.broker_tables.specs.Schema.{to, is_number, in_meta, in_teams, in_pacticipants, in_versions, in_branches, in_environments, in_grants, in_contents, in_contracts, in_results, in_deployed, in_released, in_checked_results, in_strict_environments}
use Rattle.broker_tables.specs.{Rows.{truth, run_in, value_at, has_row_at}, Numbers.{numbered, number_of}}
use Rattle.broker_tables.specs.Holds.{IsBroker, IsMeta, AreVersions, AreContents, AreContracts, AreResults, AreDeployed, format, marks_in, with_digest, result_in, result_of, number_at_place, number_named}
use Rattle.broker_tables.proofs.Orders.{by_both-total_int_text, by_both-exact_int_text, by_both-total_texts, by_both-exact_texts}
use Rattle.broker_tables.proofs.References.{references-version, references-content}
use Rattle.broker_tables.proofs.Placed.{Placed-IsNumbered, column-whole_numbers, listed, meta, at_meta, at_contents, contracts, at_contracts, results, at_results, deployed, at_deployed}
use Rattle.broker_tables.proofs.VersionRows.{IsNumbered-versions, number_of-version_row, option_and_then-Some}
use Rattle.table_audit.{specs.Audit.{EachOf, IsAudited}, proofs.Counted.{map-numbered, IsNumbered-one_row, whole-is}}
use Rattle.table_audit.specs.declared.auditing.TableRule.TheVariants as rule

-- ---- the state

-- the version in a row
abbrev pub version_in : Row → Version
version_in r = version (text in_versions.pacticipant r) (text in_versions.version r)

module _ (db : Database) where
  -- the versions in the order of their rows
  abbrev pub versions_in : List Version
  versions_in = map version_in (db.trees in_versions.tree)

  -- the version with this number; one without names, if there is none
  abbrev pub version_at : ℤ → Version
  version_at number = unwrap_or (value_at int_cmp (whole_at in_versions.number) version_in (db.trees in_versions.tree) number) (version [] [])

  -- the result in a row
  abbrev pub verification_in : Row → Verification
  verification_in r = record {
    content = whole (whole_at in_results.content r);
    version = version_at (whole_at in_results.provider_version r);
    pass = truth in_results.pass r;
    checked = has_row_at int_cmp (whole_at in_checked_results.result) (db.trees in_checked_results.tree) (whole_at in_results.number r);
    run = unwrap_or (run_in (whole_at in_results.number r) (column r in_results.run)) None;
  }

  -- the number of the content in the row of a version and a provider
  abbrev number_contracted : Version → Text → Option ℤ
  number_contracted v provider =
      option_and_then (λ n. value_at (by_both int_cmp text_cmp) (λ r. (whole_at in_contracts.version_number r, text in_contracts.provider r))
      (whole_at in_contracts.content) (db.trees in_contracts.tree) (pos n, provider)) (number_of versions_in v)

  -- what the tables say, with the digest of the office's token
  abbrev pub state_in : Text → Broker
  state_in office = record {
    office = office;
    teams = value_at text_cmp (text in_teams.name) (text in_teams.token_digest) (db.trees in_teams.tree);
    pacticipants = value_at text_cmp (text in_pacticipants.name) (text in_pacticipants.team) (db.trees in_pacticipants.tree);
    versions = versions_in;
    branches = λ k. option_map_or (λ n. has_row_at (by_both int_cmp text_cmp) (λ r. (whole_at in_branches.version_number r, text in_branches.branch r)) (db.trees in_branches.tree) (pos n, k.1)) (number_of versions_in k.0) false;
    environments = value_at text_cmp (text in_environments.name) (marks_in (db.trees in_strict_environments.tree)) (db.trees in_environments.tree);
    grants = has_row_at (by_both text_cmp text_cmp) (λ r. (text in_grants.team r, text in_grants.environment r)) (db.trees in_grants.tree);
    contents = map (text in_contents.body) (db.trees in_contents.tree);
    contracts = λ k. option_map whole (number_contracted k.0 k.1);
    results = map verification_in (db.trees in_results.tree);
    deployed = λ place. option_map (λ number. (version_at number).name) (number_at_place (db.trees in_deployed.tree) (place.0, (place.1, place.2)));
    released = λ k. option_map_or (λ n. has_row_at (by_both text_cmp int_cmp) (λ r. (text in_released.environment r, whole_at in_released.version_number r)) (db.trees in_released.tree) (k.0, pos n)) (number_of versions_in k.1) false;
  }

-- ---- lists and options

-- two functions make the same of a list, if they make the same of each of its elements
map-same : {X Y : Type 0} (f g : X → Y) (xs : List X) → ((x : X) → Has xs x → f x ≡ g x) → map f xs ≡ map g xs
map-same f g [] each = refl
map-same f g (x ∷ xs) each = λ i. each x (inl refl) i ∷ map-same f g xs (λ y has. each y (inr has)) i

-- what is there is what is taken out
unwrap_or-IsSome : {X : Type 0} (o : Option X) (d : X) → IsSome o → o ≡ Some (unwrap_or o d)
unwrap_or-IsSome None d some = absurd cc
unwrap_or-IsSome (Some x) d some = refl

-- ---- a column that CHECK makes one number

-- whether = is true of two whole numbers is whether they tie
binary-Eq_is_eq : (a b : ℤ) → binary (Compare Eq Binary) (Int a) (Int b) ≡ from_truth (Some (is_eq (int_cmp a b)))
unfolding binary
binary-Eq_is_eq a b = ap (λ o. from_truth (Some (is_eq o))) (value_cmp-Int a b)

-- what isn't false is true, if it isn't NULL
not_is_false-true : (b : Bool) → not (is_false (from_truth (Some b))) ≡ true → b ≡ true
not_is_false-true true t = refl
not_is_false-true false t = absurd cc

-- it is that number
is_number-same : (row : Row) (place n : ℕ) (z : ℤ) → column row place ≡ Int z → not (is_false (eval (is_number place n) ([] ∷ row ∷ []))) ≡ true → z ≡ pos n
is_number-same row place n z is t =
    let one = subst (λ v. not (is_false (binary (Compare Eq Binary) v (Int (pos n)))) ≡ true) is t in
    let two = subst (λ v. not (is_false v) ≡ true) (binary-Eq_is_eq z (pos n)) one in
    int_cmp-IsAntisymmetric z (pos n) ((Equal-is (int_cmp z (pos n))).0 (not_is_false-true (is_eq (int_cmp z (pos n))) two))

module _ (db : Database) (broker : IsBroker db) (audited : IsAudited db) where
  -- ---- meta

  -- its rows rise by their numbers
  IsNumbered-meta : IsNumbered (db.trees in_meta.tree)
  IsNumbered-meta = Placed-IsNumbered at_meta db broker

  -- the number of each row is 1
  whole_at-meta_one : EachOf (db.trees in_meta.tree) (λ r. whole_at in_meta.one r ≡ pos 1)
  whole_at-meta_one r has =
      is_number-same r in_meta.one 1 (whole_at in_meta.one r) (int_is (rowid r) (at_has _ (db.trees in_meta.tree) r IsNumbered-meta.1 has))
      (first_of_both _ true (IsDatabase-passes_checks db broker.kept.sound meta (listed at_meta db broker) r has))

  -- so there is one row, of today's format
  pub IsMeta-of_rules : IsMeta format (text in_meta.office_digest audited.office.0) (db.trees in_meta.tree)
  IsMeta-of_rules =
      let r = audited.office.0 in
      let has : Has (db.trees in_meta.tree) r = audited.office.1 in
      ap (map (λ r. (whole_at in_meta.one r, whole_at in_meta.format r, text in_meta.office_digest r))) (IsNumbered-one_row (db.trees in_meta.tree) IsNumbered-meta whole_at-meta_one r has)
      ∙ (λ i. (whole_at-meta_one r has i, (audited.each rule.Office r has).0 i, text in_meta.office_digest r) ∷ [])

  -- ---- versions

  -- they have their numbers
  pub AreVersions-of_rules : AreVersions (versions_in db) (db.trees in_versions.tree)
  AreVersions-of_rules = map-numbered (db.trees in_versions.tree) (IsNumbered-versions db broker) (λ r has. (audited.each rule.Version r has).0) version_in

  -- the version of a number is the one in its row
  version_at-of_row : (x : Row) → Has (db.trees in_versions.tree) x → (z : ℤ) → whole_at in_versions.number x ≡ z → version_at db z ≡ version_in x
  version_at-of_row x has z is =
      ap (λ k. version_at db k) (sym is)
      ∙ ap (λ o. unwrap_or o (version [] [])) (find-of_row int_cmp_total int_cmp-IsAntisymmetric (whole_at in_versions.number) version_in (db.trees in_versions.tree) x (IsNumbered-whole_at_unique (db.trees in_versions.tree) (IsNumbered-versions db broker)) has)

  -- and has that number
  number_of-row : (x : Row) → Has (db.trees in_versions.tree) x → (z : ℤ) → whole_at in_versions.number x ≡ z → option_map pos (number_of (versions_in db) (version_in x)) ≡ Some z
  number_of-row x has z is = let it = number_of-version_row db broker (versions_in db) AreVersions-of_rules x has in ap (option_map pos) it.1 ∙ ap Some (sym it.2 ∙ is)

  -- ---- contents and contracts

  -- each content has its number and its digest
  pub AreContents-of_rules : AreContents (map (text in_contents.body) (db.trees in_contents.tree)) (db.trees in_contents.tree)
  AreContents-of_rules =
      map-numbered (db.trees in_contents.tree) (Placed-IsNumbered at_contents db broker) (λ r has. (audited.each rule.Content r has).0) (λ r. (text in_contents.digest r, text in_contents.body r))
      ∙ ap numbered (map-same (λ r. (text in_contents.digest r, text in_contents.body r)) (λ r. with_digest (text in_contents.body r)) (db.trees in_contents.tree) (λ r has i. ((audited.each rule.Content r has).1.1 i, text in_contents.body r))
      ∙ sym (map-map with_digest (text in_contents.body) (db.trees in_contents.tree)))

  -- a number that refers to a content is a natural one
  whole_at-of_content : (t : Table) → Has db.schema.tables t → (p : ℕ) → Has t.references (to p (codes "contents") (codes "number")) → (r : Row) → Has (db.trees t.tree) r → column r p ≡ Int (whole_at p r)
      → whole_at p r ≡ pos (whole (whole_at p r))
  whole_at-of_content t listed p among r has typed =
      let x = references-content db broker t listed p among r has typed in
      let it = (audited.each rule.Content x.0 x.1).0 in
      whole-is (whole_at p r) it.0 (sym x.2 ∙ it.1)

  -- such a number is in the row of a contract
  whole_at-contract_content : (r : Row) → Has (db.trees in_contracts.tree) r → whole_at in_contracts.content r ≡ pos (whole (whole_at in_contracts.content r))
  whole_at-contract_content r has =
      whole_at-of_content contracts (listed at_contracts db broker) in_contracts.content (inr (inr (inl refl))) r has (column-whole_numbers at_contracts db broker in_contracts.content refl r has)

  -- so each contract has the number of a content
  pub AreContracts-of_rules : AreContracts (versions_in db) (λ k. option_map whole (number_contracted db k.0 k.1)) (db.trees in_contracts.tree)
  AreContracts-of_rules v provider = go (number_contracted db v provider) refl
    where
      go : (o : Option ℤ) → number_contracted db v provider ≡ o → o ≡ option_map pos (option_map whole o)
      go None e = refl
      go (Some z) e =
          let found = option_and_then-Some (number_of (versions_in db) v) _ z e in
          let row = find-has_row by_both-total_int_text by_both-exact_int_text (λ r. (whole_at in_contracts.version_number r, text in_contracts.provider r)) (whole_at in_contracts.content) (pos found.0, provider) z (db.trees in_contracts.tree) found.2 in
          subst (λ n. Some n ≡ option_map pos (option_map whole (Some n))) row.3 (ap Some (whole_at-contract_content row.0 row.1))

  -- ---- results

  -- the row of the version that a result is for
  version_of-result : (r : Row) → Has (db.trees in_results.tree) r → (x : Row) × Has (db.trees in_versions.tree) x × (whole_at in_versions.number x ≡ whole_at in_results.provider_version r)
  version_of-result r has =
      references-version db broker results (listed at_results db broker) in_results.provider_version (inr (inr (inl refl))) r has (column-whole_numbers at_results db broker in_results.provider_version refl r has)

  -- this version has the number in the row of the result
  pub number_of-verification : (r : Row) → Has (db.trees in_results.tree) r → option_map pos (number_of (versions_in db) (verification_in db r).version) ≡ Some (whole_at in_results.provider_version r)
  number_of-verification r has =
      let x = version_of-result r has in
      ap (λ v. option_map pos (number_of (versions_in db) v)) (version_at-of_row x.0 x.1 (whole_at in_results.provider_version r) x.2) ∙ number_of-row x.0 x.1 (whole_at in_results.provider_version r) x.2

  -- and is one of the provider in the row
  provider-verification : (r : Row) → Has (db.trees in_results.tree) r → text in_results.provider r ≡ (verification_in db r).version.pacticipant
  provider-verification r has =
      let x = version_of-result r has in
      sym (audited.each rule.Provider r has x.0 x.1 x.2) ∙ ap (λ (v : Version). v.pacticipant) (sym (version_at-of_row x.0 x.1 (whole_at in_results.provider_version r) x.2))

  -- the number of the content is a natural one
  pub whole_at-content : (r : Row) → Has (db.trees in_results.tree) r → whole_at in_results.content r ≡ pos (verification_in db r).content
  whole_at-content r has = whole_at-of_content results (listed at_results db broker) in_results.content (inl refl) r has (column-whole_numbers at_results db broker in_results.content refl r has)

  -- so the row says what the result says
  result_in-verification : (r : Row) → Has (db.trees in_results.tree) r → result_in (db.trees in_checked_results.tree) r ≡ result_of (versions_in db) (verification_in db r)
  result_in-verification r has = λ i. record {
    content = whole_at-content r has i;
    provider = provider-verification r has i;
    version = sym (number_of-verification r has) i;
    pass = truth in_results.pass r;
    checked = (verification_in db r).checked;
    run = unwrap_or-IsSome (run_in (whole_at in_results.number r) (column r in_results.run)) None (audited.each rule.Result r has).1 i;
  }

  -- each result has its number
  pub AreResults-of_rules : AreResults (versions_in db) (map (verification_in db) (db.trees in_results.tree)) (db.trees in_results.tree) (db.trees in_checked_results.tree)
  AreResults-of_rules =
      map-numbered (db.trees in_results.tree) (Placed-IsNumbered at_results db broker) (λ r has. (audited.each rule.Result r has).0) (result_in (db.trees in_checked_results.tree))
      ∙ ap numbered (map-same (result_in (db.trees in_checked_results.tree)) (λ r. result_of (versions_in db) (verification_in db r)) (db.trees in_results.tree) result_in-verification
      ∙ sym (map-map (result_of (versions_in db)) (verification_in db) (db.trees in_results.tree)))

  -- ---- what is deployed

  -- the row of a place, if a number is there
  pub row-at_place : (e p instance : Text) (z : ℤ) → number_at_place (db.trees in_deployed.tree) (e, (p, instance)) ≡ Some z
      → (d : Row) × Has (db.trees in_deployed.tree) d × (p ≡ text in_deployed.pacticipant d) × (instance ≡ text in_deployed.instance d) × (whole_at in_deployed.version_number d ≡ z)
  row-at_place e p instance z is =
      let it = find-has_row by_both-total_texts by_both-exact_texts (λ r. (text in_deployed.environment r, (text in_deployed.pacticipant r, text in_deployed.instance r))) (whole_at in_deployed.version_number) (e, (p, instance)) z (db.trees in_deployed.tree) is in
      (it.0, it.1, ap (λ (k : Text × (Text × Text)). k.1.0) it.2, ap (λ (k : Text × (Text × Text)). k.1.1) it.2, it.3)

  -- the number in it is that of the version of this pacticipant with the name of the version of this number
  number_named-deployed : (d : Row) → Has (db.trees in_deployed.tree) d → number_named (versions_in db) (text in_deployed.pacticipant d) (version_at db (whole_at in_deployed.version_number d)).name ≡ Some (whole_at in_deployed.version_number d)
  number_named-deployed d has =
      let x = references-version db broker deployed (listed at_deployed db broker) in_deployed.version_number (inr (inr (inl refl))) d has (column-whole_numbers at_deployed db broker in_deployed.version_number refl d has) in
      let named = version_at-of_row x.0 x.1 (whole_at in_deployed.version_number d) x.2 in
      let owner = (audited.each rule.Deployed d has).0 x.0 x.1 x.2 in
      (λ i. number_named (versions_in db) (sym owner i) (named i).name) ∙ number_of-row x.0 x.1 (whole_at in_deployed.version_number d) x.2

  -- so each place has the number of the version that is there
  pub AreDeployed-of_rules : AreDeployed (versions_in db) (λ place. option_map (λ number. (version_at db number).name) (number_at_place (db.trees in_deployed.tree) (place.0, (place.1, place.2)))) (db.trees in_deployed.tree)
  AreDeployed-of_rules e p instance = go (number_at_place (db.trees in_deployed.tree) (e, (p, instance))) refl
    where
      go : (o : Option ℤ) → number_at_place (db.trees in_deployed.tree) (e, (p, instance)) ≡ o → option_map Some o ≡ option_map (number_named (versions_in db) p) (option_map (λ number. (version_at db number).name) o)
      go None is = refl
      go (Some z) is =
          let d = row-at_place e p instance z is in
          ap Some (sym ((λ i. number_named (versions_in db) (d.2 i) (version_at db (sym d.4 i)).name) ∙ number_named-deployed d.0 d.1 ∙ ap Some d.4))
