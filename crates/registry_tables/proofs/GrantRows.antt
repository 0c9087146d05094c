-- The statements on grants.
use Rattle.std.{specs.Prelude.{is_some}, proofs.Common.{◌≡◌, ℕ, codes, List, [], ◌∷◌, true, false, not, refl, sym, subst, ◌∙◌, cond, slice_get, Ok, arith}}
use Rattle.std.proofs.Math.Bool.{or-true}
use Rattle.sqlite.specs.{declared.types.Value.TheVariants.{Null, Text}, Order.{Row}, Term.{col, lit}, Effect.{Database}, State.{State, Executes}}
use Rattle.sqlite.specs.Listing.{understood}
use Rattle.sqlite_tied.specs.Compute.{everything}
use Rattle.table_access.specs.{Columns.{text, pair_cmp}, Statements.{from_table, by_two, keeps}}
use Rattle.broker_core.specs.State.{State as Broker}
use Rattle.broker_tables.{specs.{Schema.{in_grants}, Holds.{Holds, HoldsAfter}}, proofs.{TableQuery.{TableQuery, IsShown}, Frames.{Holds-grants}}}
use Rattle.broker_tables.proofs.{Keyed.{finds_row, grants_by_key, IsFree-of_has_row_at, kept_by}, Orders.{pair_cmp-IsTotalOrder, pair_cmp-IsAntisymmetric}}
use Rattle.broker_tables.proofs.{Ties.{same_pair-text_cmp}, Present.{has_row_at-set, has_row_at-removed}, Placed.{at_grants}}
use Rattle.broker_tables.proofs.Removed.{TakesFrom, HoldsAfter-deleted}
use Rattle.broker_tables.proofs.Inserted.{EndsFrom, Adds, HoldsAfter-added, EndsOnly-added, added, IsThere-team, IsThere-environment}
use Rattle.registry_tables.specs.Registry.{AddsGrant, RemovesGrant}

abbrev key : Row → List ℕ × List ℕ
key r = (text in_grants.team r, text in_grants.environment r)

-- ---- whether there is a grant

pub granted : (team e : List ℕ)
    → TableQuery (codes "SELECT team FROM grants WHERE team = ?1 AND environment = ?2")
    (Text team ∷ Text e ∷ []) (from_table in_grants.tree (by_two in_grants.team in_grants.environment) (col 1 in_grants.team ∷ []) [])
unfolding understood everything
granted team e = record { names = _; means = record { is = refl; plain = (refl, refl); unlisted = refl }; runs = record { whole = refl; typed = refl; sumless = refl } }

pub IsShown-grant : (team e : List ℕ) (db : Database) (rows : List Row) (s : Broker) → Holds db s → IsShown (granted team e) db rows → is_some (slice_get rows 0) ≡ s.grants (team, e)
IsShown-grant team e db rows s held h = finds_row grants_by_key db held.broker (Text team ∷ Text e ∷ []) (team, e) refl rows h ∙ held.grants team e

-- ---- a new grant

abbrev pub add_sql : List ℕ
add_sql = codes "INSERT INTO grants (team, environment) VALUES (?1, ?2)"

pub Adds-grant : (team e : List ℕ) → Adds at_grants add_sql (Text team ∷ Text e ∷ []) (Text team ∷ Text e ∷ [])
unfolding understood everything
Adds-grant team e = record {
  puts = record { terms = lit Null ∷ col 0 0 ∷ col 0 1 ∷ []; width = 3; means = record { is = refl; plain = (refl, refl); unlisted = refl }; whole = refl; kinds = refl; one = refl };
  stored = refl;
}

pub HoldsAfter-AddsGrant : (team e : List ℕ) (old new : State) (s : Broker) → Holds old.now s → (t : Broker) → AddsGrant team e s t → (count : ℕ) → Executes add_sql (Text team ∷ Text e ∷ []) old new (Ok count) → HoldsAfter 2 old new t
HoldsAfter-AddsGrant team e old new s held t next count h = HoldsAfter-added (Adds-grant team e) old new held.broker (omega arith) count h (λ frame it.
    subst (Holds new.now) (sym next.3) (Holds-grants old.now new.now s _ held frame (λ u f.
    has_row_at-set pair_cmp key (old.now.trees in_grants.tree) (new.now.trees in_grants.tree) _ it (u, f) ∙ (λ i. cond (sym (same_pair-text_cmp (u, f) (team, e)) i) true (held.grants u f i)))))

-- a new grant fails only as the store fails, or since one of its names is too long
pub EndsFrom-AddsGrant : (team e : List ℕ) (old new : State) → EndsFrom (codes "grants" ∷ []) (team ∷ e ∷ []) add_sql (Text team ∷ Text e ∷ []) old new (λ s. (t : Broker) × AddsGrant team e s t)
EndsFrom-AddsGrant team e old new s here (t, next) numbers =
    let made = added (Adds-grant team e) old new here.held.broker in
    EndsOnly-added (Adds-grant team e) old new here.held.broker numbers.0 (record { typed = refl; present = refl; checked = refl })
    (IsFree-of_has_row_at grants_by_key old.now here.held.broker made refl (here.held.grants team e ∙ next.2), tt)
    (IsThere-team old.now s here.held made in_grants.team team next.0 refl, (IsThere-environment old.now s here.held made in_grants.environment e next.1 refl, tt)) (team ∷ e ∷ []) (λ are. are) (omega arith) (omega arith) here.unlimited

-- ---- a grant is taken back

abbrev pub remove_sql : List ℕ
remove_sql = codes "DELETE FROM grants WHERE team = ?1 AND environment = ?2"

pub TakesFrom-grant : (team e : List ℕ) → TakesFrom at_grants remove_sql (Text team ∷ Text e ∷ []) (by_two in_grants.team in_grants.environment)
unfolding understood everything
TakesFrom-grant team e = record { means = record { is = refl; plain = (refl, refl); unlisted = refl }; runs = record { whole = refl; typed = refl; sumless = refl }; alone = refl; fits = λ b. or-true (not b) }

pub HoldsAfter-RemovesGrant : (team e : List ℕ) (old new : State) (s : Broker) → Holds old.now s → (t : Broker) → RemovesGrant team e s t → (count : ℕ) → Executes remove_sql (Text team ∷ Text e ∷ []) old new (Ok count) → HoldsAfter 2 old new t
HoldsAfter-RemovesGrant team e old new s held t next count h = HoldsAfter-deleted (TakesFrom-grant team e) old new held.broker (omega arith) count h (λ frame is.
    subst (Holds new.now) (sym next.1) (Holds-grants old.now new.now s _ held frame (λ u f.
    has_row_at-removed pair_cmp-IsTotalOrder pair_cmp-IsAntisymmetric key (team, e) (keeps (by_two in_grants.team in_grants.environment) (Text team ∷ Text e ∷ [])) (old.now.trees in_grants.tree) (new.now.trees in_grants.tree)
    (kept_by grants_by_key old.now held.broker (Text team ∷ Text e ∷ []) (team, e) refl) is (u, f) ∙ (λ i. cond (sym (same_pair-text_cmp (u, f) (team, e)) i) false (held.grants u f i)))))
