-- The rows of contracts: by their keys, listed by a version and by a content, and one more.
use Rattle.std.specs.{Prelude.{option_map, option_and_then, is_some, ◌↔◌}, Ordering.{eq_by_cmp, int_cmp, nat_cmp, ordering_then}}
use Rattle.std.specs.Cmp.Lexicographic.{texts_ties}
use Rattle.std.proofs.Common.{◌≡◌, arith, ℕ, ℤ, pos, codes, List, [], ◌∷◌, Bool, true, false, cond, ◌&&◌, refl, sym, subst, ap, ◌∙◌, slice_get, Some, None, Option, Ok}
use Rattle.std.proofs.lemmas.Bool.{and_left}
use Rattle.sqlite.specs.{Edit.{id_in}, Effect.{Database}, State.{State, Executes}, Collation.TheVariants.{Binary}, Listing.{understood}}
use Rattle.sqlite.specs.{declared.types.Value.TheVariants.{Null, Int, Text}, Order.{Row, column, value_cmp}, Term.{Term, col, lit, op2}}
use Rattle.sqlite_rules.specs.Lists.{Has}
use Rattle.sqlite_tied.specs.Compute.{everything}
use Rattle.sqlite_sql.specs.{declared.ops.BinaryOp.TheVariants.{Compare}, declared.ops.CompareOp.TheVariants.{Eq}}
use Rattle.sqlite_value.{specs.Keys.{ascending}, proofs.OrderLemmas.{value_cmp-Text}}
use Rattle.table_access.specs.{Columns.{text, text_cmp, whole_at, by_both}, Sound.{IsNumbered, text_in, whole}}
use Rattle.table_access.{specs.{Statements.{from_table, from_both, by_two, keeps_both}, Reading.{AreRead}}, proofs.Values.{cast-Int}}
use Rattle.table_access.proofs.{Maps.{find-IsAdded, find-has_row, find-of_row}, Keys.{is_param}, ReadLemmas.{number_found, option_map-pos_injective}}
use Rattle.broker_core.specs.{Text.{Text as Words, version, same_text, same_version}, declared.command.Version.{Version}, Listing.{Lists}}
use Rattle.broker_core.specs.{Machine.{version_cmp}, State.{State as Broker}}
use Rattle.broker_tables.specs.{Schema.{in_versions, in_contracts}, Rows.{value_at}, Numbers.{number_of}, Holds.{Holds, HoldsAfter, IsBroker}}
use Rattle.broker_tables.proofs.VersionRows.{binary-Eq_same_Int, binary-Eq_same_Text, version_number, IsNumbered-versions, column-version_pacticipant, names, number_of-version_row, number_of-has_row, IsAscending-one_row, option_and_then-Some, versions-unique_names as one_version}
use Rattle.broker_tables.proofs.{Keyed.{contracts_by_key, finds, IsFree-of_has_row_at, IsAscending-keys_of_table}, Frames.{Holds-contracts}}
use Rattle.broker_tables.proofs.Orders.{by_both-total_int_text, by_both-exact_int_text, text_cmp-antisymmetric, pair_cmp-IsAntisymmetric}
use Rattle.broker_tables.proofs.{Ties.{both_eq, and-same}, Present.{value_at-is_some}, NumberLemmas.{number_of-same_version, same_version-unknown}}
use Rattle.broker_tables.proofs.{Placed.{at_contracts, Placed-IsNumbered, column-texts, column-whole_numbers}, References.{LeadsTo-each}}
use Rattle.broker_tables.proofs.TableQuery.{TableQuery, IsShown}
use Rattle.broker_tables.proofs.Inserted.{EndsFrom, Adds, HoldsAfter-added, EndsOnly-added, added, IsThere-version, IsThere-pacticipant}
use Rattle.contract_tables.specs.{Verified.{AddsContract}, declared.listings.Contract.{Contract}, Listings.{contract_cmp, IsContractRow, IsConsumerRow}}
use Rattle.contract_tables.proofs.ReferredRows.{has_parent-number, HasRowWith-content}
use Rattle.contract_tables.proofs.ItemLists.{and-two_tests, and-true_test, value_cmp-last_Text, IsShown-Answers, Lists-of_rows, Lists-of_pairs}

abbrev pub key : Row → ℤ × List ℕ
key r = (whole_at in_contracts.version_number r, text in_contracts.provider r)

-- the content of the contract of a version's number with a provider
abbrev pub content_at : List Row → ℕ → List ℕ → Option ℤ
content_at rows n p = value_at (by_both int_cmp text_cmp) key (whole_at in_contracts.content) rows (pos n, p)

module _ (db : Database) (broker : IsBroker db) where
  pub IsNumbered-contracts : IsNumbered (db.trees in_contracts.tree)
  IsNumbered-contracts = Placed-IsNumbered at_contracts db broker

  pub column-contract_version_number : (r : Row) → Has (db.trees in_contracts.tree) r → column r in_contracts.version_number ≡ Int (whole_at in_contracts.version_number r)
  column-contract_version_number = column-whole_numbers at_contracts db broker in_contracts.version_number refl

  pub column-contract_provider : (r : Row) → Has (db.trees in_contracts.tree) r → column r in_contracts.provider ≡ Text (text in_contracts.provider r)
  column-contract_provider = column-texts at_contracts db broker in_contracts.provider refl

  pub contents : (r : Row) → Has (db.trees in_contracts.tree) r → column r in_contracts.content ≡ Int (whole_at in_contracts.content r)
  contents = column-whole_numbers at_contracts db broker in_contracts.content refl

-- ---- the content of a contract

pub content : (n : ℕ) (p : List ℕ) → TableQuery (codes "SELECT content FROM contracts WHERE version_number = ?1 AND provider = ?2")
    (Int (pos n) ∷ Text p ∷ []) (from_table in_contracts.tree (by_two in_contracts.version_number in_contracts.provider) (col 1 in_contracts.content ∷ []) [])
unfolding understood everything
content n p = record { names = _; means = record { is = refl; plain = (refl, refl); unlisted = refl }; runs = record { whole = refl; typed = refl; sumless = refl } }

pub option_map-cond : {A B : Type 0} (f : A → B) (b : Bool) (a : A) (o : Option A) → option_map f (cond b (Some a) o) ≡ cond b (Some (f a)) (option_map f o)
option_map-cond f true a o = refl
option_map-cond f false a o = refl

-- what the state has is what the row has
pub content_at-contracts : (db : Database) (s : Broker) (v : Version) (n : ℕ) (p : List ℕ) → Holds db s → number_of s.versions v ≡ Some n → content_at (db.trees in_contracts.tree) n p ≡ option_map pos (s.contracts (v, p))
content_at-contracts db s v n p held is = sym (ap (option_and_then (λ k. content_at (db.trees in_contracts.tree) k p)) is) ∙ held.contracts v p

pub IsShown-contract_content : (n : ℕ) (p : List ℕ) (db : Database) (s : Broker) (v : Version) → Holds db s → number_of s.versions v ≡ Some n → (rows : List Row) → IsShown (content n p) db rows
    → (found : Option ℕ) → option_map (λ n. Int (pos n)) found ≡ option_map (λ r. column r 0) (slice_get rows 0) → found ≡ s.contracts (v, p)
IsShown-contract_content n p db s v held is rows h found read = option_map-pos_injective found (s.contracts (v, p)) (
    number_found found rows read
    ∙ finds contracts_by_key db held.broker (Int (pos n) ∷ Text p ∷ []) (pos n, p) refl (whole_at in_contracts.content) (whole_at 0) (λ r. refl) rows h
    ∙ content_at-contracts db s v n p held is
    )

module _ (db : Database) (s : Broker) (held : Holds db s) (v : Version) (n : ℕ) (is : number_of s.versions v ≡ Some n) where
  -- a row of the version says what its contract is
  pub contracts-of_row : (r : Row) (p : List ℕ) (content : ℕ) → Has (db.trees in_contracts.tree) r → whole_at in_contracts.version_number r ≡ pos n
      → text in_contracts.provider r ≡ p → whole_at in_contracts.content r ≡ pos content
      → s.contracts (v, p) ≡ Some content
  contracts-of_row r p content has number provider returned = option_map-pos_injective (s.contracts (v, p)) (Some content) (
      sym (content_at-contracts db s v n p held is)
      ∙ ap (value_at (by_both int_cmp text_cmp) key (whole_at in_contracts.content) (db.trees in_contracts.tree)) (λ i. (sym number i, sym provider i))
      ∙ find-of_row by_both-total_int_text by_both-exact_int_text key (whole_at in_contracts.content) (db.trees in_contracts.tree) r (IsAscending-keys_of_table contracts_by_key db held.broker) has ∙ ap Some returned
      )

  -- and the version has a row for its contract
  pub contracts-has_content_row : (p : List ℕ) (content : ℕ) → s.contracts (v, p) ≡ Some content
      → (r : Row) × Has (db.trees in_contracts.tree) r × (whole_at in_contracts.version_number r ≡ pos n) × (text in_contracts.provider r ≡ p) × (whole_at in_contracts.content r ≡ pos content)
  contracts-has_content_row p content there =
      let all = content_at-contracts db s v n p held is ∙ ap (option_map pos) there in
      let it = find-has_row by_both-total_int_text by_both-exact_int_text key (whole_at in_contracts.content) (pos n, p) (pos content) (db.trees in_contracts.tree) all in
      (it.0, it.1, sym (ap (λ k. k.0) it.2), sym (ap (λ k. k.1) it.2), it.3)

-- ---- the contracts of a version

abbrev pub terms : List Term
terms = is_param 1 0 ∷ []

abbrev pub project : List Term
project = col 1 in_contracts.content ∷ col 1 in_contracts.provider ∷ []

pub own : (n : ℕ) → TableQuery (codes "SELECT content, provider FROM contracts WHERE version_number = ?1 ORDER BY provider")
    (Int (pos n) ∷ []) (from_table in_contracts.tree terms project ((col 1 in_contracts.provider, ascending Binary) ∷ []))
unfolding understood everything
own n = record { names = _; means = record { is = refl; plain = (refl, refl); unlisted = refl }; runs = record { whole = refl; typed = refl; sumless = refl } }

module _ (db : Database) (s : Broker) (held : Holds db s) (v : Version) (n : ℕ) (is : number_of s.versions v ≡ Some n) where
  abbrev Is : Contract → Type 0
  Is c = (s.contracts (v, c.provider) ≡ Some c.content)

  pub Lists-contracts : (rows : List Row) (items : List Contract) → IsShown (own n) db rows → AreRead IsContractRow rows items → Lists contract_cmp Is items
  Lists-contracts = Lists-of_rows db IsContractRow contract_cmp Is text_cmp-antisymmetric (λ c. c.provider)
      (λ x y. ap (λ o. ordering_then o (nat_cmp x.content y.content))) (own n) (λ r. whole_at in_contracts.version_number r ≡ pos n) (IsNumbered-contracts db held.broker)
      (λ r has. and-true_test (binary-Eq_same_Int (column r in_contracts.version_number) (Int (pos n)) (whole_at in_contracts.version_number r) (pos n) (column-contract_version_number db held.broker r has) refl)) (record {
        key = text in_contracts.provider;
        sorted = λ a b one two. value_cmp-last_Text (column a in_contracts.provider) (column b in_contracts.provider) (text in_contracts.provider a) (text in_contracts.provider b)
            (column-contract_provider db held.broker a one.0) (column-contract_provider db held.broker b two.0);
        one = λ a b one two same. IsAscending-one_row by_both-total_int_text key (db.trees in_contracts.tree) (IsAscending-keys_of_table contracts_by_key db held.broker) a b one.0 two.0 (λ i. ((one.1 ∙ sym two.1) i, same i));
        read = λ r x read. ap text_in read.1;
        sound = λ r x it read. contracts-of_row db s held v n is r x.provider x.content it.0 it.1 (ap text_in read.1) (ap id_in read.0);
        complete = λ x there.
            let r = contracts-has_content_row db s held v n is x.provider x.content there in
            (r.0, (r.1, r.2), λ y read i. record { provider = (sym (ap text_in read.1) ∙ r.3) i; content = whole ((sym (ap id_in read.0) ∙ r.4) i) });
      })

-- ---- the consumers that have a contract of a content with a provider

abbrev pub users_terms : List Term
users_terms = op2 (Compare Eq Binary) (col 2 0) (col 1 in_contracts.version_number) ∷ op2 (Compare Eq Binary) (col 1 in_contracts.content) (col 0 0)
    ∷ op2 (Compare Eq Binary) (col 1 in_contracts.provider) (col 0 1) ∷ []

abbrev pub users_project : List Term
users_project = col 2 in_versions.pacticipant ∷ col 2 in_versions.version ∷ []

pub users : (n : ℕ) (p : Words)
    → TableQuery (codes "SELECT v.pacticipant, v.version FROM contracts c JOIN versions v ON v.number = c.version_number WHERE c.content = ?1 AND c.provider = ?2 ORDER BY v.pacticipant, v.version")
    (Int (pos n) ∷ Text p ∷ []) (from_both in_contracts.tree in_versions.tree users_terms users_project
    ((col 2 in_versions.pacticipant, ascending Binary) ∷ (col 2 in_versions.version, ascending Binary) ∷ []))
unfolding understood everything
users n p = record { names = _; means = record { is = refl; plain = (refl, refl); unlisted = refl }; runs = record { whole = refl; typed = refl; sumless = refl } }

module _ (db : Database) (s : Broker) (held : Holds db s) (content : ℕ) (p : Words) where
  abbrev IsKept : Row → Row → Type 0
  IsKept c v = (whole_at 0 v ≡ whole_at in_contracts.version_number c) × ((whole_at in_contracts.content c ≡ pos content) × (text in_contracts.provider c ≡ p))

  -- what ON and WHERE test
  keeps_both-users_terms : (c v : Row) → Has (db.trees in_contracts.tree) c → Has (db.trees in_versions.tree) v
      → (keeps_both users_terms (Int (pos content) ∷ Text p ∷ []) c v ≡ true) ↔ IsKept c v
  keeps_both-users_terms c v hc hv =
      and-two_tests (binary-Eq_same_Int (column v 0) (column c in_contracts.version_number) (whole_at 0 v) (whole_at in_contracts.version_number c)
      (version_number db held.broker v hv) (column-contract_version_number db held.broker c hc))
      (and-two_tests (binary-Eq_same_Int (column c in_contracts.content) (Int (pos content)) (whole_at in_contracts.content c) (pos content) (contents db held.broker c hc) refl)
      (and-true_test (binary-Eq_same_Text (column c in_contracts.provider) (Text p) (text in_contracts.provider c) p (column-contract_provider db held.broker c hc) refl)))

  abbrev IsUser : Version → Type 0
  IsUser w = (s.contracts (w, p) ≡ Some content)

  pub Lists-users : (rows : List Row) (items : List Version) → IsShown (users content p) db rows → AreRead IsConsumerRow rows items → Lists version_cmp IsUser items
  Lists-users = Lists-of_pairs db IsConsumerRow version_cmp IsUser pair_cmp-IsAntisymmetric (λ w. (w.pacticipant, w.name))
      (λ x y less. less) (IsShown-Answers (users content p) db) IsKept (IsNumbered-contracts db held.broker) (IsNumbered-versions db held.broker) keeps_both-users_terms (record {
        key = λ q. (text in_versions.pacticipant q.1, text in_versions.version q.1);
        sorted = λ a b one two.
            let last = value_cmp-last_Text (column a.1 in_versions.version) (column b.1 in_versions.version) (text in_versions.version a.1) (text in_versions.version b.1)
            (names db held.broker a.1 one.1) (names db held.broker b.1 two.1) in
            let first = (λ i. value_cmp (column-version_pacticipant db held.broker a.1 one.1 i) (column-version_pacticipant db held.broker b.1 two.1 i)) ∙ value_cmp-Text (text in_versions.pacticipant a.1) (text in_versions.pacticipant b.1) in
            λ i. ordering_then (first i) (last i);
        one = λ a b one two same.
            let same_row : a.1 ≡ b.1 = one_version db held.broker a.1 b.1 one.1 two.1 (ap (λ k. k.0) same) (ap (λ k. k.1) same) in
            let number : whole_at in_contracts.version_number a.0 ≡ whole_at in_contracts.version_number b.0 = sym one.2.0 ∙ ap (whole_at 0) same_row ∙ two.2.0 in
            let keyed : key a.0 ≡ key b.0 = λ i. (number i, (one.2.1.1 ∙ sym two.2.1.1) i) in
            λ i. (IsAscending-one_row by_both-total_int_text key (db.trees in_contracts.tree) (IsAscending-keys_of_table contracts_by_key db held.broker) a.0 b.0 one.0 two.0 keyed i, same_row i);
        read = λ q x read i. (text_in (read.0 i), text_in (read.1 i));
        sound = λ q x it read.
            let at = number_of-version_row db held.broker s.versions held.versions q.1 it.1 in
            let is : number_of s.versions x ≡ Some at.0 = (λ i. number_of s.versions (version (text_in (sym read.0 i)) (text_in (sym read.1 i)))) ∙ at.1 in
            contracts-of_row db s held x at.0 is q.0 p content it.0 (sym it.2.0 ∙ at.2) it.2.1.1 it.2.1.0;
        complete = λ x there.
            let at = option_and_then-Some (number_of s.versions x) (λ k. content_at (db.trees in_contracts.tree) k p) (pos content) (held.contracts x p ∙ ap (option_map pos) there) in
            let c = contracts-has_content_row db s held x at.0 at.1 p content there in
            let v = number_of-has_row db held.broker s.versions x at.0 held.versions at.1 in (
              (c.0, v.0),
              (c.1, v.1, (v.4 ∙ sym c.2, (c.4, c.3))),
              λ y read i. record { pacticipant = (sym (ap text_in read.0) ∙ v.2) i; name = (sym (ap text_in read.1) ∙ v.3) i },
            );
      })

-- ---- a contract is put in

abbrev pub add_sql : List ℕ
add_sql = codes "INSERT INTO contracts (version_number, provider, content) VALUES (?1, ?2, ?3)"

Adds-contract : (n : ℕ) (p : List ℕ) (content : ℕ) → Adds at_contracts add_sql (Int (pos n) ∷ Text p ∷ Int (pos content) ∷ []) (Int (pos n) ∷ Text p ∷ Int (pos content) ∷ [])
unfolding understood everything
Adds-contract n p content = record {
  puts = record { terms = lit Null ∷ col 0 0 ∷ col 0 1 ∷ col 0 2 ∷ []; width = 4; means = record { is = refl; plain = (refl, refl); unlisted = refl }; whole = refl; kinds = refl; one = refl };
  stored = λ i. cast-Int (pos n) i ∷ Text p ∷ cast-Int (pos content) i ∷ [];
}

module _ (n : ℕ) (p : List ℕ) (content : ℕ) (old new : State) where
  abbrev params : Row
  params = Int (pos n) ∷ Text p ∷ Int (pos content) ∷ []

  abbrev rows : List Row
  rows = old.now.trees in_contracts.tree

  -- content_at-None has its key
  content_at-None : (s : Broker) (v : Version) → Holds old.now s → number_of s.versions v ≡ Some n → s.contracts (v, p) ≡ None → content_at rows n p ≡ None
  content_at-None s v held is free = content_at-contracts old.now s v n p held is ∙ ap (option_map pos) free

  pub HoldsAfter-AddsContract : (s : Broker) → Holds old.now s → (t : Broker) → AddsContract n p content s t → (count : ℕ) → Executes add_sql params old new (Ok count) → HoldsAfter 2 old new t
  HoldsAfter-AddsContract s held t (v, is, free, there, low, high, next) count h = HoldsAfter-added (Adds-contract n p content) old new held.broker (omega arith) count h (λ frame it.
      let put = find-IsAdded by_both-total_int_text by_both-exact_int_text key (whole_at in_contracts.content) rows (new.now.trees in_contracts.tree) _ it (content_at-None s v held is free) in
      subst (Holds new.now) (sym next) (Holds-contracts old.now new.now s _ held frame (λ w q.
      each w q (number_of s.versions w) refl (λ k. put (pos k, q)) ∙ sym (option_map-cond pos (same_version w v && same_text q p) content (s.contracts (w, q))))))
    where
      after : Bool → Option ℤ → Option ℤ
      after b was = cond b (Some (pos content)) was

      each : (w : Version) (q : List ℕ) (o : Option ℕ) → number_of s.versions w ≡ o
          → ((k : ℕ) → content_at (new.now.trees in_contracts.tree) k q ≡ after (eq_by_cmp (by_both int_cmp text_cmp) (pos k, q) (pos n, p)) (content_at rows k q))
          → option_and_then (λ k. content_at (new.now.trees in_contracts.tree) k q) (number_of s.versions w)
          ≡ after (same_version w v && same_text q p) (option_map pos (s.contracts (w, q)))
      each w q None e put =
          let apart = and_left (same_version w v) (same_text q p) (same_version-unknown s.versions w v n e is) in
          let was = sym (ap (option_and_then (λ k. content_at (old.now.trees in_contracts.tree) k q)) e) ∙ held.contracts w q in
          ap (option_and_then (λ k. content_at (new.now.trees in_contracts.tree) k q)) e ∙ (λ i. after (sym apart i) (was i))
      each w q (Some k) e put =
          let same = and-same _ _ _ _ (number_of-same_version s.versions w v k n e is) (texts_ties q p) ∙ both_eq (int_cmp (pos k) (pos n)) (text_cmp q p) in
          ap (option_and_then (λ m. content_at (new.now.trees in_contracts.tree) m q)) e ∙ put k
          ∙ (λ i. after (sym same i) (content_at-contracts old.now s w k q held e i))

  -- it fails only as the store fails, or since the name is too long
  pub EndsFrom-AddsContract : EndsFrom (codes "contracts" ∷ []) (p ∷ []) add_sql params old new (λ s. (t : Broker) × AddsContract n p content s t)
  EndsFrom-AddsContract s here (t, (v, is, free, known, low, high, next)) room =
      let held = here.held in
      let made = added (Adds-contract n p content) old new held.broker in
      EndsOnly-added (Adds-contract n p content) old new held.broker room.0 (record { typed = refl; present = refl; checked = refl }) (
        IsFree-of_has_row_at contracts_by_key old.now held.broker made refl
            (sym (value_at-is_some (by_both int_cmp text_cmp) key (whole_at in_contracts.content) rows (pos n, p)) ∙ ap is_some (content_at-None s v held is free)),
        tt,
      )
      (IsThere-version old.now s held made in_contracts.version_number v n is refl, (IsThere-pacticipant old.now s held made in_contracts.provider p known refl, (has_parent-number _ old.now made in_contracts.content content refl (LeadsTo-each in_contracts.content).1 (HasRowWith-content old.now s held content low high), tt)))
      (p ∷ []) (λ are. (tt, (are.0, (tt, tt)))) (omega arith) (omega arith) here.unlimited
