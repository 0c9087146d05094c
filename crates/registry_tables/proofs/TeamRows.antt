-- The statements on teams and pacticipants.
use Rattle.std.specs.{Prelude.{option_map, is_some}, Cmp.Lexicographic.{nat_list_cmp_total, texts_ties}}
use Rattle.std.proofs.Common.{◌≡◌, ℕ, codes, List, [], ◌∷◌, false, refl, sym, subst, ap, ◌∙◌, cond, slice_get, Some, None, Ok, MatchOption, Option, arith}
use Rattle.sqlite.specs.{declared.types.Value.TheVariants.{Null, Text}, Order.{Row}, Term.{col, op2, lit}, Query.{Query}, Collation.TheVariants.{Binary}}
use Rattle.sqlite.specs.{Effect.{Database}, State.{State, Executes}, Listing.{understood}}
use Rattle.sqlite_sql.specs.{declared.ops.BinaryOp.TheVariants.{Compare}, declared.ops.CompareOp.TheVariants.{Eq}}
use Rattle.sqlite_tied.specs.Compute.{everything}
use Rattle.table_access.specs.{Columns.{text, text_cmp}, Statements.{from_table}, Reading.{IsTextAt}}
use Rattle.table_access.proofs.Maps.{find-IsAdded, find-inverse, find-inverse_None}
use Rattle.broker_core.specs.{State.{State as Broker}, Laws.{TeamsDiffer}}
use Rattle.broker_tables.specs.{Schema.{in_teams, in_pacticipants}, Rows.{value_at}, Holds.{Holds, HoldsAfter}}
use Rattle.broker_tables.proofs.{TableQuery.{TableQuery, IsShown, FirstShown, FirstReads, FirstShown-IsTextAt}, Frames.{Holds-teams, Holds-pacticipants}}
use Rattle.broker_tables.proofs.Orders.{text_cmp-antisymmetric}
use Rattle.broker_tables.proofs.Keyed.{finds, IsFree-of_has_row_at, IsAscending-keys_of_table, teams_by_digest, teams_by_name, pacticipants_by_name}
use Rattle.broker_tables.proofs.{Placed.{at_teams, column-texts, at_pacticipants}, Present.{value_at-is_some}}
use Rattle.broker_tables.proofs.Inserted.{EndsFrom, Adds, HoldsAfter-added, EndsOnly-added, added, IsThere-team}
use Rattle.registry_tables.specs.Registry.{AddsTeam, AddsPacticipant}

-- ---- the digest of a team

pub token : (team : List ℕ)
    → TableQuery (codes "SELECT token_digest FROM teams WHERE name = ?1")
    (Text team ∷ []) (from_table in_teams.tree (op2 (Compare Eq Binary) (col 1 in_teams.name) (col 0 0) ∷ []) (col 1 in_teams.token_digest ∷ []) [])
unfolding understood everything
token team = record { names = _; means = record { is = refl; plain = (refl, refl); unlisted = refl }; runs = record { whole = refl; typed = refl; sumless = refl } }

pub IsShown-token : (team : List ℕ) (db : Database) (rows : List Row) (s : Broker) → Holds db s → IsShown (token team) db rows → option_map (text 0) (slice_get rows 0) ≡ s.teams team
IsShown-token team db rows s held h =
    finds teams_by_name db held.broker (Text team ∷ []) team refl (text in_teams.token_digest) (text 0) (λ r. refl) rows h ∙ held.teams team

-- the digest of a team's token can be read, as it is a text in UTF-8
pub FirstReads-token : (team : List ℕ) (db : Database) → FirstReads (token team) db (IsTextAt 0)
FirstReads-token team db s held readable =
    FirstShown-IsTextAt (token team) db (column-texts at_teams db held.broker in_teams.token_digest refl) (λ rows h row head. (readable.teams team (text 0 row) (sym (IsShown-token team db rows s held h) ∙ ap (option_map (text 0)) head)).1)

-- if the first row of no answer has a text, no row is shown
pub FirstShown-no_text : {sql : List ℕ} {params : Row} {query : Query} (asked : TableQuery sql params query) (db : Database)
    → ((rows : List Row) → IsShown asked db rows → option_map (text 0) (slice_get rows 0) ≡ None) → FirstShown asked db (λ row. ⊥)
FirstShown-no_text asked db none rows h row head = let clash : Some (text 0 row) ≡ None = ap (option_map (text 0)) (sym head) ∙ none rows h in cc

-- ---- the team of a digest

pub holder : (digest : List ℕ)
    → TableQuery (codes "SELECT name FROM teams WHERE token_digest = ?1")
    (Text digest ∷ []) (from_table in_teams.tree (op2 (Compare Eq Binary) (col 1 in_teams.token_digest) (col 0 0) ∷ []) (col 1 in_teams.name ∷ []) [])
unfolding understood everything
holder digest = record { names = _; means = record { is = refl; plain = (refl, refl); unlisted = refl }; runs = record { whole = refl; typed = refl; sumless = refl } }

-- that team has it, or no team has it
abbrev pub IsTeamOf : Broker → List ℕ → Option (List ℕ) → Type 0
IsTeamOf s digest found = MatchOption found ((t : List ℕ) → ¬ (s.teams t ≡ Some digest)) (λ name. s.teams name ≡ Some digest)

pub IsShown-team_of_digest : (digest : List ℕ) (db : Database) (rows : List Row) (s : Broker) → Holds db s → IsShown (holder digest) db rows → IsTeamOf s digest (option_map (text 0) (slice_get rows 0))
IsShown-team_of_digest digest db rows s held h =
    subst (IsTeamOf s digest) (sym (finds teams_by_digest db held.broker (Text digest ∷ []) digest refl (text in_teams.name) (text 0) (λ r. refl) rows h))
    (go (value_at text_cmp (text in_teams.token_digest) (text in_teams.name) (db.trees in_teams.tree) digest) refl)
  where
    go : (o : Option (List ℕ)) → value_at text_cmp (text in_teams.token_digest) (text in_teams.name) (db.trees in_teams.tree) digest ≡ o → IsTeamOf s digest o
    go None e = λ t has. find-inverse_None nat_list_cmp_total text_cmp-antisymmetric nat_list_cmp_total text_cmp-antisymmetric (text in_teams.name) (text in_teams.token_digest) (db.trees in_teams.tree) t digest e (held.teams t ∙ has)
    go (Some name) e = sym (held.teams name) ∙ find-inverse nat_list_cmp_total text_cmp-antisymmetric nat_list_cmp_total text_cmp-antisymmetric (text in_teams.name) (text in_teams.token_digest) (db.trees in_teams.tree) name digest (IsAscending-keys_of_table teams_by_name db held.broker) e

-- the team's name can be read, as it is a text in UTF-8
pub FirstReads-team_of_digest : (digest : List ℕ) (db : Database) → FirstReads (holder digest) db (IsTextAt 0)
FirstReads-team_of_digest digest db s held readable =
    FirstShown-IsTextAt (holder digest) db (column-texts at_teams db held.broker in_teams.name refl) (λ rows h row head. (readable.teams (text 0 row) digest (subst (IsTeamOf s digest) (ap (option_map (text 0)) head) (IsShown-team_of_digest digest db rows s held h))).0.0)

-- if no team has this digest, no row is shown
pub FirstShown-no_team_of_digest : (digest : List ℕ) (db : Database) (s : Broker) → Holds db s → ((t : List ℕ) → ¬ (s.teams t ≡ Some digest)) → FirstShown (holder digest) db (λ row. ⊥)
FirstShown-no_team_of_digest digest db s held none rows h row head = none (text 0 row) (subst (IsTeamOf s digest) (ap (option_map (text 0)) head) (IsShown-team_of_digest digest db rows s held h))

pub IsTeamOf-by_view : {X : Type 0} (view : X → List ℕ) (s : Broker) (digest : List ℕ) (found : Option X) → IsTeamOf s digest (option_map view found) → MatchOption found ((t : List ℕ) → ¬ (s.teams t ≡ Some digest)) (λ name. s.teams (view name) ≡ Some digest)
IsTeamOf-by_view view s digest None h = h
IsTeamOf-by_view view s digest (Some name) h = h

-- a digest is that of one team's token
pub teams_differ : (db : Database) (s : Broker) → Holds db s → TeamsDiffer s
teams_differ db s held digest a b has_a has_b = let both : Some a ≡ Some b = sym (team_with a has_a) ∙ team_with b has_b in cc
  where
    team_with : (team : List ℕ) → s.teams team ≡ Some digest
        → value_at text_cmp (text in_teams.token_digest) (text in_teams.name) (db.trees in_teams.tree) digest ≡ Some team
    team_with team has = find-inverse nat_list_cmp_total text_cmp-antisymmetric nat_list_cmp_total text_cmp-antisymmetric (text in_teams.token_digest) (text in_teams.name) (db.trees in_teams.tree) digest team (IsAscending-keys_of_table teams_by_digest db held.broker) (held.teams team ∙ has)

-- ---- a new team

abbrev pub add_sql : List ℕ
add_sql = codes "INSERT INTO teams (name, token_digest) VALUES (?1, ?2)"

Adds-team : (team digest : List ℕ) → Adds at_teams add_sql (Text team ∷ Text digest ∷ []) (Text team ∷ Text digest ∷ [])
unfolding understood everything
Adds-team team digest = record {
  puts = record { terms = lit Null ∷ col 0 0 ∷ col 0 1 ∷ []; width = 3; means = record { is = refl; plain = (refl, refl); unlisted = refl }; whole = refl; kinds = refl; one = refl };
  stored = refl;
}

module _ (team digest : List ℕ) (old new : State) where
  pub HoldsAfter-AddsTeam : (s : Broker) → Holds old.now s → (t : Broker) → AddsTeam team digest s t → (count : ℕ) → Executes add_sql (Text team ∷ Text digest ∷ []) old new (Ok count) → HoldsAfter 2 old new t
  HoldsAfter-AddsTeam s held t next count h = HoldsAfter-added (Adds-team team digest) old new held.broker (omega arith) count h (λ frame it.
      subst (Holds new.now) (sym next.2) (Holds-teams old.now new.now s _ held frame (λ u.
      find-IsAdded nat_list_cmp_total text_cmp-antisymmetric (text in_teams.name) (text in_teams.token_digest) (old.now.trees in_teams.tree) (new.now.trees in_teams.tree) _ it (held.teams team ∙ next.0) u ∙ (λ i. cond (sym (texts_ties u team) i) (Some digest) (held.teams u i)))))

  value_at-unknown_digest : (s : Broker) → Holds old.now s → ((other : List ℕ) → ¬ (s.teams other ≡ Some digest)) → (found : Option (List ℕ)) → value_at text_cmp (text in_teams.token_digest) (text in_teams.name) (old.now.trees in_teams.tree) digest ≡ found → is_some found ≡ false
  value_at-unknown_digest s held none None is = refl
  value_at-unknown_digest s held none (Some other) is = absurd (none other (sym (held.teams other) ∙ find-inverse nat_list_cmp_total text_cmp-antisymmetric nat_list_cmp_total text_cmp-antisymmetric (text in_teams.name) (text in_teams.token_digest) (old.now.trees in_teams.tree) other digest (IsAscending-keys_of_table teams_by_name old.now held.broker) is))

  -- it fails only as the store fails, or since one of its texts is too long
  pub EndsFrom-AddsTeam : EndsFrom (codes "teams" ∷ []) (team ∷ digest ∷ []) add_sql (Text team ∷ Text digest ∷ []) old new (λ s. (t : Broker) × AddsTeam team digest s t)
  EndsFrom-AddsTeam s here (t, next) numbers =
      let made = added (Adds-team team digest) old new here.held.broker in
      let free_name = sym (value_at-is_some text_cmp (text in_teams.name) (text in_teams.token_digest) (old.now.trees in_teams.tree) team) ∙ ap is_some (here.held.teams team ∙ next.0) in
      let free_digest = sym (value_at-is_some text_cmp (text in_teams.token_digest) (text in_teams.name) (old.now.trees in_teams.tree) digest) ∙ value_at-unknown_digest s here.held next.1 _ refl in
      EndsOnly-added (Adds-team team digest) old new here.held.broker numbers.0 (record { typed = refl; present = refl; checked = refl })
      (IsFree-of_has_row_at teams_by_name old.now here.held.broker made refl free_name, (IsFree-of_has_row_at teams_by_digest old.now here.held.broker made refl free_digest, tt)) tt
      (team ∷ digest ∷ []) (λ are. are) (omega arith) (omega arith) here.unlimited

-- ---- the owner of a pacticipant

pub owner : (p : List ℕ)
    → TableQuery (codes "SELECT team FROM pacticipants WHERE name = ?1")
    (Text p ∷ []) (from_table in_pacticipants.tree (op2 (Compare Eq Binary) (col 1 in_pacticipants.name) (col 0 0) ∷ []) (col 1 in_pacticipants.team ∷ []) [])
unfolding understood everything
owner p = record { names = _; means = record { is = refl; plain = (refl, refl); unlisted = refl }; runs = record { whole = refl; typed = refl; sumless = refl } }

pub IsShown-owner : (p : List ℕ) (db : Database) (rows : List Row) (s : Broker) → Holds db s → IsShown (owner p) db rows → option_map (text 0) (slice_get rows 0) ≡ s.pacticipants p
IsShown-owner p db rows s held h =
    finds pacticipants_by_name db held.broker (Text p ∷ []) p refl (text in_pacticipants.team) (text 0) (λ r. refl) rows h ∙ held.pacticipants p

-- the owner can be read, as it is a text in UTF-8
pub FirstReads-owner : (p : List ℕ) (db : Database) → FirstReads (owner p) db (IsTextAt 0)
FirstReads-owner p db s held readable =
    FirstShown-IsTextAt (owner p) db (column-texts at_pacticipants db held.broker in_pacticipants.team refl) (λ rows h row head. (readable.pacticipants p (text 0 row) (sym (IsShown-owner p db rows s held h) ∙ ap (option_map (text 0)) head)).1.0)

-- ---- a new pacticipant

abbrev pub add_pacticipant_sql : List ℕ
add_pacticipant_sql = codes "INSERT INTO pacticipants (name, team) VALUES (?1, ?2)"

Adds-pacticipant : (p team : List ℕ) → Adds at_pacticipants add_pacticipant_sql (Text p ∷ Text team ∷ []) (Text p ∷ Text team ∷ [])
unfolding understood everything
Adds-pacticipant p team = record {
  puts = record { terms = lit Null ∷ col 0 0 ∷ col 0 1 ∷ []; width = 3; means = record { is = refl; plain = (refl, refl); unlisted = refl }; whole = refl; kinds = refl; one = refl };
  stored = refl;
}

module _ (p team : List ℕ) (old new : State) where
  pub HoldsAfter-AddsPacticipant : (s : Broker) → Holds old.now s → (t : Broker) → AddsPacticipant p team s t → (count : ℕ) → Executes add_pacticipant_sql (Text p ∷ Text team ∷ []) old new (Ok count) → HoldsAfter 2 old new t
  HoldsAfter-AddsPacticipant s held t next count h = HoldsAfter-added (Adds-pacticipant p team) old new held.broker (omega arith) count h (λ frame it.
      subst (Holds new.now) (sym next.2) (Holds-pacticipants old.now new.now s _ held frame (λ q.
      find-IsAdded nat_list_cmp_total text_cmp-antisymmetric (text in_pacticipants.name) (text in_pacticipants.team) (old.now.trees in_pacticipants.tree) (new.now.trees in_pacticipants.tree) _ it (held.pacticipants p ∙ next.0) q ∙ (λ i. cond (sym (texts_ties q p) i) (Some team) (held.pacticipants q i)))))

  -- it fails only as the store fails, or since one of its names is too long
  pub EndsFrom-AddsPacticipant : EndsFrom (codes "pacticipants" ∷ []) (p ∷ team ∷ []) add_pacticipant_sql (Text p ∷ Text team ∷ []) old new (λ s. (t : Broker) × AddsPacticipant p team s t)
  EndsFrom-AddsPacticipant s here (t, next) numbers =
      let made = added (Adds-pacticipant p team) old new here.held.broker in
      let free = sym (value_at-is_some text_cmp (text in_pacticipants.name) (text in_pacticipants.team) (old.now.trees in_pacticipants.tree) p) ∙ ap is_some (here.held.pacticipants p ∙ next.0) in
      EndsOnly-added (Adds-pacticipant p team) old new here.held.broker numbers.0 (record { typed = refl; present = refl; checked = refl }) (IsFree-of_has_row_at pacticipants_by_name old.now here.held.broker made refl free, tt)
      (IsThere-team old.now s here.held made in_pacticipants.team team next.1 refl, tt) (p ∷ team ∷ []) (λ are. are) (omega arith) (omega arith) here.unlimited
