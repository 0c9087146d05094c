-- The contents that a database holds, by any digest, and how a call on them is stated.
use Rattle.std.specs.Prelude.{◌≡◌, ◌⊎◌, ◌==◌, ◌-◌, ◌+◌, ◌||◌, ◌<◌, ◌≤◌, ◌^◌, ℕ, List, [], ◌∷◌, ◌++◌, map, Bool, true, false, Option, Some, None, Result, IfErr, codes, slice_get, length, MatchOption, if◌then◌else◌}
use Rattle.std.specs.List.{AllByRecursion, list_any, position_or_len}
use Rattle.sqlite.specs.Order.{Row}
use Rattle.sqlite.specs.Effect.{Database}
use Rattle.sqlite.specs.Held.{Held, state}
use Rattle.sqlite.specs.State.{State, HasCleanDisk}
use Rattle.sqlite_trees.specs.declared.store.Store.{Ghosts}
use Rattle.hex.specs.Hex.{encode_lower}
use Rattle.sqlite_rules.specs.Lists.{Has}
use Rattle.table_access.specs.Calls.{HasFailed}
use Rattle.table_access.specs.declared.StoreFault.{StoreFault}
use Rattle.table_access.specs.declared.StoreFault.TheVariants.{Store}
use Rattle.table_access.specs.Columns.{text, whole_at}
use Rattle.table_access.specs.Reading.{IsNumberRow, IsTextAt}
use Rattle.broker_core.specs.Text.{Text, same_text}
use Rattle.broker_core.specs.State.{State as Broker}
use Rattle.broker_core.specs.Limit.{has_room}
use Rattle.broker_core.specs.Change.{content_number, with_content}
use Rattle.broker_tables.specs.Schema.{broker_schema, in_contents}
use Rattle.broker_tables.specs.Rows.{rows_of}
use Rattle.broker_tables.specs.Numbers.{numbered}
use Rattle.broker_tables.specs.Holds.{IsBroker}
use Rattle.broker_tables.specs.Failures.{ShowsState}

-- a function from bytes to bytes, as the table has what it answers: 2 digits for each byte
abbrev pub hex_of : (List ℕ → List ℕ) → Text → Text
hex_of digest body = encode_lower (digest body)

-- ---- the table

-- a text with its digest
abbrev pub with_digest_by : (Text → Text) → Text → Text × Text
with_digest_by digest body = (digest body, body)

-- the texts in the order of their numbers, from 1 without gaps, each with its digest
abbrev pub AreContentsBy : (Text → Text) → List Text → List Row → Type 0
AreContentsBy digest texts rows =
    map (λ r. (whole_at in_contents.number r, (text in_contents.digest r, text in_contents.body r))) rows
    ≡ numbered (map (with_digest_by digest) texts)

-- The tables are the broker's, and the one of contents has these texts. All of them were stored by this digest.
pub record ContentsBy (digest : Text → Text) (db : Database) (texts : List Text) : Type 0 where
  pub broker : IsBroker db
  pub are : AreContentsBy digest texts (rows_of db (codes "contents"))

-- each table but this one is as it was
abbrev pub KeepsOthers : List ℕ → Database → Database → Type 0
KeepsOthers name old new =
    AllByRecursion (λ t. same_text t.name name ≡ false → rows_of new t.name ≡ rows_of old t.name) broker_schema.tables

-- ---- texts and their numbers

-- the text is one of them
abbrev pub is_among : List Text → Text → Bool
is_among texts body = list_any (same_text body) texts

-- the number of the first that is this text; the next number if none is
abbrev pub number_in : List Text → Text → ℕ
number_in texts body = position_or_len (same_text body) texts + 1

-- its number, if it is one of them
abbrev pub found_in : List Text → Text → Option ℕ
found_in texts body = if is_among texts body then Some (number_in texts body) else None

-- the text with this number
abbrev pub text_in : List Text → ℕ → Option Text
text_in texts number = if number == 0 then None else slice_get texts (number - 1)

-- it is the text with this number; SQLite has no number from 2^63 on
abbrev pub IsTextOf : List Text → ℕ → Option Text → Type 0
IsTextOf texts number found = (number < 2 ^ 63 → found ≡ text_in texts number) × (2 ^ 63 ≤ number → found ≡ None)

-- the texts with this one: put at the end, if it isn't one of them
abbrev pub with_text : List Text → Text → List Text
with_text texts body = if is_among texts body then texts else texts ++ body ∷ []

-- ---- how a call is stated

-- Store, if one of these rows has no number below 2^32, or no text in UTF-8 after it
abbrev pub ReportsUnreadable : List Row → StoreFault → Type 0
ReportsUnreadable rows fault =
    (fault ≡ Store) × ((row : Row) × Has rows row × (¬ (IsNumberRow row × IsTextAt 1 row)))

-- an answer about the contents, all stored by this digest; nothing changes
abbrev pub IsReadBy : {A : Type 0} → (Text → Text) → State → State → (A → List Text → Type 0) → A → Type 0
IsReadBy digest old new P a = (texts : List Text) → ContentsBy digest old.now texts → P a texts × (new.now ≡ old.now)

-- the same, for any digest
abbrev pub IsReadByAny : {A : Type 0} → State → State → (A → List Text → Type 0) → A → Type 0
IsReadByAny old new P a = (digest : Text → Text) → IsReadBy digest old new P a

-- The text has this number, and it is one of the contents now. If it was one before, nothing changes; else it is the
-- last. All other tables are as they were.
pub record IsPut (digest : Text → Text) (body : Text) (texts : List Text) (number : ℕ)
    (old new : Database) : Type 0 where
  pub number_is : number ≡ number_in texts body
  pub contents : ContentsBy digest new (with_text texts body)
  pub others : KeepsOthers (codes "contents") old new
  pub same : is_among texts body ≡ true → new ≡ old

-- a text is put among the contents, all stored by this digest
abbrev pub IsPutBy : (Text → Text) → Text → State → State → ℕ → Type 0
IsPutBy digest body old new number =
    (texts : List Text) → ContentsBy digest old.now texts → IsPut digest body texts number old.now new.now

-- ---- for private clauses: the steps of a put

-- a text that isn't there is put among them, and this is its number
abbrev pub IsNewBy : (Text → Text) → Text → State → State → ℕ → Type 0
IsNewBy digest body old new number =
    (texts : List Text) → ContentsBy digest old.now texts → is_among texts body ≡ false
    → IsPut digest body texts number old.now new.now

-- a text that isn't there is put among them under the number that is its own
abbrev pub IsPutUnder : (Text → Text) → Text → State → State → ℕ → Type 0
IsPutUnder digest body old new number =
    (texts : List Text) → ContentsBy digest old.now texts → is_among texts body ≡ false
    → number ≡ length texts + 1 → IsPut digest body texts number old.now new.now

-- a text that isn't there is put among them, if they are so many
abbrev pub IsNewAfter : (Text → Text) → Text → ℕ → State → State → ℕ → Type 0
IsNewAfter digest body count old new number =
    (texts : List Text) → ContentsBy digest old.now texts → is_among texts body ≡ false
    → count ≡ length texts → IsPut digest body texts number old.now new.now

-- a text that isn't there is put among them, or there is no room for one more and nothing changes
abbrev pub IsNewIfRoom : (Text → Text) → Text → State → State → Option ℕ → Type 0
IsNewIfRoom digest body old new found =
    (texts : List Text) → ContentsBy digest old.now texts → is_among texts body ≡ false
    → MatchOption found ((has_room texts ≡ false) × (new.now ≡ old.now))
    (λ number. (has_room texts ≡ true) × IsPut digest body texts number old.now new.now)

-- a broker's database stays as it is
abbrev pub StaysBroker : State → State → Type 0
StaysBroker old new = IsBroker old.now → new.now ≡ old.now

-- the number is the next one, and there is room for one more
abbrev pub IsNextContent : ℕ → Broker → Type 0
IsNextContent number s = (number ≡ length s.contents + 1) × (has_room s.contents ≡ true)

-- ---- a put for which there may be no place

-- the text is one of them, or there is room for one more
abbrev pub has_place : List Text → Text → Bool
has_place texts body = is_among texts body || has_room texts

-- a text is put among the contents, all stored by this digest, or there is no place for it and nothing changes
abbrev pub IsPutIfRoom : (Text → Text) → Text → State → State → Option ℕ → Type 0
IsPutIfRoom digest body old new found =
    (texts : List Text) → ContentsBy digest old.now texts
    → MatchOption found ((has_place texts body ≡ false) × (new.now ≡ old.now))
    (λ number. (has_place texts body ≡ true) × IsPut digest body texts number old.now new.now)

-- the same of a state: the text is one of its contents and has this number, or there is no place for it
abbrev pub StoresIfRoom : Text → Option ℕ → Broker → Broker → Type 0
StoresIfRoom body (Some number) s t =
    (number ≡ content_number s body) × (t ≡ with_content s body) × (has_place s.contents body ≡ true)
StoresIfRoom body None s t = (t ≡ s) × (has_place s.contents body ≡ false)

-- the text isn't one of them, and there is room for it
abbrev pub CanBeAdded : Text → List Text → Type 0
CanBeAdded body texts = (is_among texts body ≡ false) × (has_room texts ≡ true)

-- Why a put fails, if a state is shown that can be read back, whose contents were all stored by this digest: the store
-- failed, or a row was refused, which is only made if the contents are such.
abbrev pub FailsToAddBetween : {A : Type 0} → State → State → (Text → Text) → Result A StoreFault → (List Text → Type 0)
    → Type 0
FailsToAddBetween old new digest r Adds =
    HasCleanDisk new → (s : Broker) → ShowsState old s → ContentsBy digest old.now s.contents
    → IfErr r (λ fault. HasFailed old new fault ⊎ Adds s.contents)

-- the same of a connection over this store
module _ {X : Type 0} (store : Ghosts X) (old new : Held X) where
  abbrev pub FailsToAdd : {A : Type 0} → (Text → Text) → Result A StoreFault → (List Text → Type 0) → Type 0
  FailsToAdd digest r Adds = FailsToAddBetween (state store old) (state store new) digest r Adds
