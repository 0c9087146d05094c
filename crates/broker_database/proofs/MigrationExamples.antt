-- worked examples of a migration: what the rows of format 1 say of results, and what its gate said
use Rattle.std.{specs.Prelude.{codes, Some, None}, proofs.Common.{◌≡◌, refl, Bool, true, false, List, [], ◌∷◌, pos, if◌then◌else◌}}
use Rattle.sqlite.specs.{declared.types.Value.TheVariants.{Null, Int, Text as Words}, Order.{Row}}
use Rattle.broker_core.specs.{declared.answer.Answer.TheVariants.{Shown}, declared.answer.Shown.TheVariants.{Gate}, declared.command.Marks.{Marks}}
use Rattle.broker_core.specs.{declared.command.Version.{Version}, declared.need.Kind.{Kind}, declared.need.Kind.TheVariants.{Missing, Failed}}
use Rattle.broker_core.specs.{declared.need.PairFault.{PairFault}, Change.{unchanged_with}}
use Rattle.broker_core.specs.{State.{State as Broker, Verification, opening, claimed_result, checked_result}, Text.{Text, same_text, put_at, version}}
use Rattle.broker_core.proofs.Judgement.{Rows, with_rows, row_keys, Judges-is_permitted}
use Rattle.broker_tables.specs.{Format1.{IsUnmarked}, Holds.{AreResults}}
use Rattle.broker_database.{specs.Migration.{Showed}, proofs.MigrationLemmas.{JudgesAsBefore-unmarked}}

abbrev shop : Version
shop = version (codes "shop") (codes "1")

abbrev stock : Version
stock = version (codes "stock") (codes "1")

abbrev live : Text
live = codes "live"

abbrev gated : Marks
gated = record { gated = true; strict = false }

-- shop 1 has a contract with stock, and stock 1 is deployed in live
abbrev rows : Rows
rows = record { contracts = ((shop, codes "stock"), 1) ∷ []; deployed = ((live, codes "stock", []), codes "1") ∷ []; released = [] }

-- with these results
abbrev with_results : List Verification → Broker
with_results results =
    with_rows (record (opening (codes "office")) { versions = shop ∷ stock ∷ []; environments = put_at same_text (λ _. None) live (Some gated); contents = codes "first" ∷ []; results = results }) rows

-- a result of stock 1 for that contract: its number, the content, the provider, the number of stock 1, and what it says
abbrev result_row : Bool → Row
result_row pass = Int (pos 1) ∷ Null ∷ Int (pos 1) ∷ Words (codes "stock") ∷ Int (pos 2) ∷ Int (if pass then pos 1 else pos 0) ∷ Null ∷ []

pub AreResults-format_1_row_is_claim : AreResults (shop ∷ stock ∷ []) (claimed_result 1 stock true None ∷ []) (result_row true ∷ []) []
AreResults-format_1_row_is_claim = refl

-- after the migration the same row is still a claim, and a row that is listed among the checked ones isn't
pub AreResults-checked_row : AreResults (shop ∷ stock ∷ []) (checked_result 1 stock false None ∷ []) (result_row false ∷ []) ((Int (pos 1) ∷ Null ∷ []) ∷ [])
AreResults-checked_row = refl

lenient : (results : List Verification) (e : Text) (marks : Marks) → (with_results results).environments e ≡ Some marks → marks.strict ≡ false
lenient results e marks h =
    elim (same_text e live) as (λ b. (if b then Some gated else None) ≡ Some marks → marks.strict ≡ false) [
      | true ↦ λ is. (let same : gated ≡ marks = cc in cc)
      | false ↦ λ is. absurd (cc)
    ] h

IsUnmarked-claimed : (pass : Bool) → IsUnmarked (with_results (claimed_result 1 stock pass None ∷ []))
IsUnmarked-claimed pass = record { claimed = (refl, tt); lenient = lenient (claimed_result 1 stock pass None ∷ []) }

IsUnmarked-no_results : IsUnmarked (with_results [])
IsUnmarked-no_results = record { claimed = tt; lenient = lenient [] }

-- what is between shop 1 and stock 1
abbrev lacks : Kind → PairFault
lacks kind = record { consumer = codes "shop"; consumer_version = codes "1"; provider = codes "stock"; provider_version = Some (codes "1"); kind = kind }

pub Showed-pass : let s = with_results (claimed_result 1 stock true None ∷ []) in Showed s shop live (unchanged_with s (Shown (Gate live gated true [])))
Showed-pass =
    let s = with_results (claimed_result 1 stock true None ∷ []) in
    ((JudgesAsBefore-unmarked s (IsUnmarked-claimed true)).shows shop live _).0 (gated, refl, (true, [], Judges-is_permitted s (row_keys s rows) shop live, refl))

pub Showed-failure : let s = with_results (claimed_result 1 stock false None ∷ []) in Showed s shop live (unchanged_with s (Shown (Gate live gated false (lacks Failed ∷ []))))
Showed-failure =
    let s = with_results (claimed_result 1 stock false None ∷ []) in
    ((JudgesAsBefore-unmarked s (IsUnmarked-claimed false)).shows shop live _).0 (gated, refl, (false, lacks Failed ∷ [], Judges-is_permitted s (row_keys s rows) shop live, refl))

pub Showed-missing_result : let s = with_results [] in Showed s shop live (unchanged_with s (Shown (Gate live gated false (lacks Missing ∷ []))))
Showed-missing_result =
    let s = with_results [] in
    ((JudgesAsBefore-unmarked s IsUnmarked-no_results).shows shop live _).0 (gated, refl, (false, lacks Missing ∷ [], Judges-is_permitted s (row_keys s rows) shop live, refl))
