-- The tables of a state that a database holds are finite.
use Rattle.std.specs.{Prelude.{Contains, is_some, option_map, option_and_then}, Option.{option_map_or}, Ordering.{int_cmp}}
use Rattle.std.specs.Cmp.Lexicographic.{nat_list_cmp_total}
use Rattle.std.proofs.Common.{◌≡◌, ℕ, ℤ, pos, List, [], ◌∷◌, ◌++◌, map, true, false, inl, inr, refl, sym, ap, subst, ◌∙◌, Some, None, Option, codes}
use Rattle.std.proofs.{lemmas.List.Elements.{Contains-append_left, Contains-append_right}, lemmas.Map.Views.{Contains-from_any}}
use Rattle.sqlite.specs.{Order.{Row}, Effect.{Database}}
use Rattle.sqlite_rules.specs.Lists.{Has}
use Rattle.table_access.{specs.Columns.{text, text_cmp, whole_at, by_both}, proofs.Maps.{find-has_row}}
use Rattle.broker_core.specs.{declared.command.Version.{Version}, Listed.{Covers, IsListed}, State.{State as Broker}, Text.{Text, version}}
use Rattle.broker_core.proofs.{Judgement.{same_version-equal}, Lists.{Contains-empty, Contains-cons_cases, Contains-here, Contains-later}}
use Rattle.broker_tables.specs.{Schema.{in_teams, in_contracts, in_deployed, in_released}, Holds.{Holds}, Numbers.{number_of}}
use Rattle.broker_tables.{specs.Rows.{rows_of, value_at, has_row_at}, proofs.NumberLemmas.{number_of-is_some}}
use Rattle.broker_tables.proofs.Orders.{text_cmp-antisymmetric, by_both-total_int_text, by_both-exact_int_text, by_both-total_texts, by_both-exact_texts, by_both-total_text_int, by_both-exact_text_int}
use Rattle.broker_tables.proofs.Present.{value_at-is_some}

-- ---- lists

-- what a row has is among what the rows have
Contains-map_rows : {K : Type 0} (f : Row → K) (rows : List Row) (r : Row) → Has rows r → Contains (map f rows) (f r)
Contains-map_rows f [] r has = absurd has
Contains-map_rows f (x ∷ rows) r (inl is) = subst (λ (y : Row). Contains (f x ∷ map f rows) (f y)) (sym is) (Contains-here (f x) (map f rows))
Contains-map_rows f (x ∷ rows) r (inr later) = Contains-later (f x) (map f rows) (f r) (Contains-map_rows f rows r later)

Contains-map : {A B : Type 0} (f : A → B) (xs : List A) (x : A) → Contains xs x → Contains (map f xs) (f x)
Contains-map f [] x c = absurd (Contains-empty x c)
Contains-map {A} f (y ∷ ys) x c = elim (Contains-cons_cases y ys x c) [
  | inl here ↦ subst (λ (z : A). Contains (f y ∷ map f ys) (f z)) here (Contains-here (f y) (map f ys))
  | inr later ↦ Contains-later (f y) (map f ys) (f x) (Contains-map f ys x later)
]

-- each element of one list with each of another
abbrev with_each : {A B : Type 0} → List A → List B → List (A × B)
with_each [] ys = []
with_each {A} {B} (x ∷ xs) ys = map {B = A × B} (λ y. (x, y)) ys ++ with_each xs ys

Contains-with_each : {A B : Type 0} (xs : List A) (ys : List B) (x : A) (y : B) → Contains xs x → Contains ys y → Contains (with_each xs ys) (x, y)
Contains-with_each [] ys x y c d = absurd (Contains-empty x c)
Contains-with_each {A} {B} (w ∷ xs) ys x y c d = elim (Contains-cons_cases w xs x c) [
  | inl here ↦ Contains-append_left (map {B = A × B} (λ q. (w, q)) ys) (with_each xs ys) (x, y) (subst (λ (z : A). Contains (map {B = A × B} (λ q. (w, q)) ys) (z, y)) here (Contains-map (λ q. (w, q)) ys y d))
  | inr later ↦ Contains-append_right (map {B = A × B} (λ q. (w, q)) ys) (with_each xs ys) (x, y) (Contains-with_each xs ys x y later d)
]

-- a version that has a number is there
Contains-numbered_version : (s : Broker) (v : Version) (n : ℕ) → number_of s.versions v ≡ Some n → Contains s.versions v
Contains-numbered_version s v n is = Contains-from_any same_version-equal v s.versions (sym (number_of-is_some s v) ∙ ap is_some is)

-- ---- the tables

module _ (db : Database) (s : Broker) (held : Holds db s) where
  abbrev teams : List Row
  teams = rows_of db (codes "teams")

  abbrev contracts : List Row
  contracts = rows_of db (codes "contracts")

  abbrev deployed : List Row
  deployed = rows_of db (codes "deployed")

  abbrev released : List Row
  released = rows_of db (codes "released")

  abbrev contract_key : Row → ℤ × Text
  contract_key r = (whole_at in_contracts.version_number r, text in_contracts.provider r)

  abbrev place : Row → Text × (Text × Text)
  place r = (text in_deployed.environment r, (text in_deployed.pacticipant r, text in_deployed.instance r))

  abbrev flat : Text × (Text × Text) → Text × Text × Text
  flat k = (k.0, k.1.0, k.1.1)

  abbrev release_key : Row → Text × ℤ
  release_key r = (text in_released.environment r, whole_at in_released.version_number r)

  all_teams : Covers s.teams (map (text in_teams.name) teams)
  all_teams team digest is =
      let row = find-has_row nat_list_cmp_total text_cmp-antisymmetric (text in_teams.name) (text in_teams.token_digest) team digest teams (held.teams team ∙ is) in
      subst (Contains (map (text in_teams.name) teams)) (sym row.2) (Contains-map_rows (text in_teams.name) teams row.0 row.1)

  all_contracts : Covers s.contracts (with_each s.versions (map (text in_contracts.provider) contracts))
  all_contracts (v, provider) content is = go (number_of s.versions v) refl (held.contracts v provider ∙ ap (option_map pos) is)
    where
      go : (o : Option ℕ) → number_of s.versions v ≡ o
          → option_and_then (λ (n : ℕ). value_at (by_both int_cmp text_cmp) contract_key (whole_at in_contracts.content) contracts (pos n, provider)) o ≡ Some (pos content)
          → Contains (with_each s.versions (map (text in_contracts.provider) contracts)) (v, provider)
      go None none e = absurd cc
      go (Some n) numbered e =
          let row = find-has_row by_both-total_int_text by_both-exact_int_text contract_key (whole_at in_contracts.content) (pos n, provider) (pos content) contracts e in
          Contains-with_each s.versions (map (text in_contracts.provider) contracts) v provider (Contains-numbered_version s v n numbered)
          (subst (Contains (map (text in_contracts.provider) contracts)) (sym (ap (λ (k : ℤ × Text). k.1) row.2)) (Contains-map_rows (text in_contracts.provider) contracts row.0 row.1))

  all_deployed : Covers s.deployed (map (λ r. flat (place r)) deployed)
  all_deployed (e, p, instance) name is =
      go (value_at (by_both text_cmp (by_both text_cmp text_cmp)) place (whole_at in_deployed.version_number) deployed (e, (p, instance))) refl
      (held.deployed e p instance ∙ ap (option_map (λ (q : Text). option_map pos (number_of s.versions (version p q)))) is)
    where
      go : (o : Option ℤ) → value_at (by_both text_cmp (by_both text_cmp text_cmp)) place (whole_at in_deployed.version_number) deployed (e, (p, instance)) ≡ o
          → option_map Some o ≡ Some (option_map pos (number_of s.versions (version p name))) → Contains (map (λ r. flat (place r)) deployed) (e, p, instance)
      go None none wrong = absurd cc
      go (Some n) found right =
          let row = find-has_row by_both-total_texts by_both-exact_texts place (whole_at in_deployed.version_number) (e, (p, instance)) n deployed found in
          subst (Contains (map (λ r. flat (place r)) deployed)) (sym (ap flat row.2)) (Contains-map_rows (λ r. flat (place r)) deployed row.0 row.1)

  all_released : (k : Text × Version) → s.released k ≡ true → Contains (with_each (map (text in_released.environment) released) s.versions) k
  all_released (e, v) is = go (number_of s.versions v) refl (held.released e v ∙ is)
    where
      go : (o : Option ℕ) → number_of s.versions v ≡ o
          → option_map_or (λ (n : ℕ). has_row_at (by_both text_cmp int_cmp) release_key released (e, pos n)) o false ≡ true
          → Contains (with_each (map (text in_released.environment) released) s.versions) (e, v)
      go None none wrong = absurd cc
      go (Some n) numbered is_present =
          at_row (value_at (by_both text_cmp int_cmp) release_key release_key released (e, pos n)) refl (value_at-is_some (by_both text_cmp int_cmp) release_key release_key released (e, pos n) ∙ is_present)
        where
          at_row : (o : Option (Text × ℤ)) → value_at (by_both text_cmp int_cmp) release_key release_key released (e, pos n) ≡ o → is_some o ≡ true
              → Contains (with_each (map (text in_released.environment) released) s.versions) (e, v)
          at_row None none wrong = absurd cc
          at_row (Some k) found there =
              let row = find-has_row by_both-total_text_int by_both-exact_text_int release_key release_key (e, pos n) k released found in
              Contains-with_each (map (text in_released.environment) released) s.versions e v
              (subst (Contains (map (text in_released.environment) released)) (sym (ap (λ (q : Text × ℤ). q.0) row.2)) (Contains-map_rows (text in_released.environment) released row.0 row.1)) (Contains-numbered_version s v n numbered)

  pub IsListed-holds : IsListed s
  IsListed-holds = record {
    keys = record {
      contracts = with_each s.versions (map (text in_contracts.provider) contracts);
      deployed = map (λ r. flat (place r)) deployed;
      released = with_each (map (text in_released.environment) released) s.versions;
      all_contracts = all_contracts;
      all_deployed = all_deployed;
      all_released = all_released;
    };
    teams = map (text in_teams.name) teams;
    all_teams = all_teams;
  }
