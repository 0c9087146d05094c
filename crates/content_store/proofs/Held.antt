-- The calls on contents, where all were stored by SHA-256 and the database holds a state of the broker.
use Rattle.std.specs.{Prelude.{⊤}, List.{AllByRecursion}}
use Rattle.std.proofs.Common.{◌≡◌, ℕ, Option, Some, None, List, [], ◌∷◌, ◌++◌, map, Bool, true, false, not, ◌||◌, cond, codes, refl, sym, ◌∙◌, Result, arith, Ok, subst}
use Rattle.std.proofs.lemmas.Result.{IfErr-weaker}
use Rattle.sqlite.specs.{Table.{Table}, Effect.{Database}, State.{State, HasCleanDisk}}
use Rattle.sha2.specs.Sha256.{sha256}
use Rattle.table_access.specs.{declared.StoreFault.{StoreFault}, Calls.{CallsTablesBetween, CallsStoreBetween}}
use Rattle.table_access.proofs.CallLemmas.{CallsBetween-weaken, EndsBy-later_call}
use Rattle.broker_core.specs.{Text.{Text, same_text}, State.{State as Broker}, Change.{is_stored, content_number, with_content}}
use Rattle.broker_tables.specs.{Schema.{broker_schema}, Rows.{rows_of}, Holds.{Holds, HoldsAfter, QueriesBetween, ChangesAndAnswersBetween}}
use Rattle.broker_tables.{specs.ChangeRefusals.{HoldsOpen, FailsByStoreUnlessBetween}, proofs.Frames.{Frame, is_other, Holds-contents}}
use Rattle.broker_tables.proofs.{QueryLemmas.{Holds-same_database}, RoomLemmas.{TakesRoom-same, HoldsAfter-one_table}}
use Rattle.content_store.specs.Contents.{hex_of, ContentsBy, IsReadByAny, IsPut, IsPutIfRoom, StoresIfRoom}

-- what a state says of contents is that they are stored by SHA-256
pub Holds-ContentsBy : (db : Database) (s : Broker) → Holds db s → ContentsBy (hex_of sha256) db s.contents
Holds-ContentsBy db s held = record { broker = held.broker; are = held.contents }

-- ---- a read

-- a query about the contents whose answer holds for any digest answers of those of the state that the database holds
pub QueriesBetween-contents : {A : Type 0} (old new : State) (r : Result A StoreFault) (P : A → List Text → Type 0) → CallsTablesBetween old new r (IsReadByAny old new P) → QueriesBetween true old new r (λ a s. P a s.contents)
QueriesBetween-contents old new r P = CallsBetween-weaken old new r _ _ (λ a read s held. read (hex_of sha256) s.contents (Holds-ContentsBy old.now s held))

-- ---- a text is put

is_other-not_same_text : (name other : List ℕ) → is_other (other ∷ []) name ≡ true → same_text name other ≡ false
is_other-not_same_text name other h = elim (same_text name other) as (λ b. not (b || false) ≡ true → b ≡ false) [ true ↦ λ e. absurd cc | false ↦ λ e. refl ] h

AllByRecursion-other_names : (name : List ℕ) (ts : List Table) (old new : Database) → AllByRecursion (λ t. same_text t.name name ≡ false → rows_of new t.name ≡ rows_of old t.name) ts → AllByRecursion (λ n. is_other (name ∷ []) n ≡ true → rows_of new n ≡ rows_of old n) (map (λ t. t.name) ts)
AllByRecursion-other_names name [] old new all = tt
AllByRecursion-other_names name (t ∷ ts) old new all = (λ other. all.0 (is_other-not_same_text t.name name other), AllByRecursion-other_names name ts old new all.1)

pub IsPut-Frame : (digest : Text → Text) (body : Text) (texts : List Text) (number : ℕ) (old new : Database) → ContentsBy digest old texts → IsPut digest body texts number old new → Frame (codes "contents" ∷ []) old new
IsPut-Frame digest body texts number old new held put = record {
  schema = put.contents.broker.schema ∙ sym held.broker.schema;
  kept = λ _. put.contents.broker.kept;
  others = AllByRecursion-other_names (codes "contents") broker_schema.tables old new put.others;
}

-- what is held afterwards, by the machine's own words; the text's row brings its number
pub IsPut-HoldsAfter : (old new : State) (s : Broker) (body : Text) (number : ℕ) → Holds old.now s → IsPut (hex_of sha256) body s.contents number old.now new.now → (number ≡ content_number s body) × HoldsAfter 2 old new (with_content s body)
IsPut-HoldsAfter old new s body number held put = (put.number_is, HoldsAfter-one_table 2 (omega arith) (codes "contents") old new _ frame (λ no. absurd cc) (go (is_stored s body) refl put.contents))
  where
    frame : Frame (codes "contents" ∷ []) old.now new.now
    frame = IsPut-Frame (hex_of sha256) body s.contents number old.now new.now (Holds-ContentsBy old.now s held) put

    go : (b : Bool) → is_stored s body ≡ b → ContentsBy (hex_of sha256) new.now (cond b s.contents (s.contents ++ body ∷ [])) → Holds new.now (cond b s (record s { contents = s.contents ++ body ∷ [] }))
    go true e are = Holds-same_database old new s (put.same e) held
    go false e are = Holds-contents old.now new.now s (s.contents ++ body ∷ []) held frame are.are

-- a text that is put, if there is room for it, gets its number in the state, and the state with it stored is held afterwards
pub IsPutIfRoom-StoresIfRoom : (old new : State) (r : Result (Option ℕ) StoreFault) (body : Text) → CallsStoreBetween old new r (IsPutIfRoom (hex_of sha256) body old new) → ChangesAndAnswersBetween old new r (λ s. ⊤) (StoresIfRoom body)
IsPutIfRoom-StoresIfRoom old new r body = CallsBetween-weaken old new r _ _ by_found
  where
    by_found : (found : Option ℕ) → IsPutIfRoom (hex_of sha256) body old new found → (s : Broker) → Holds old.now s → ⊤ → (t : Broker) × StoresIfRoom body found s t × HoldsAfter 2 old new t
    by_found (Some number) puts s held free =
        let it = puts s.contents (Holds-ContentsBy old.now s held) in
        let made = IsPut-HoldsAfter old new s body number held it.1 in
        (with_content s body, (made.0, refl, it.0), made.1)
    by_found None puts s held free =
        let it = puts s.contents (Holds-ContentsBy old.now s held) in
        (s, (refl, it.0), (Holds-same_database old new s it.1 held, TakesRoom-same 2 old.now new.now it.1))

-- ---- a text is put after a look-up: it fails only as the store fails, if both do

pub FailsByStoreUnlessBetween-then : {A B : Type 0} (old mid new : State) (a : A) (r : Result B StoreFault) (P : A → Type 0) (Q : B → Type 0) (TooBig : Type 0) (Allows Then : Broker → Type 0) → CallsStoreBetween old mid (Ok a) P → CallsStoreBetween mid new r Q
    → (P a → (s : Broker) → Holds old.now s → Allows s → Then s × (mid.now ≡ old.now)) → FailsByStoreUnlessBetween mid new r [] TooBig Then → FailsByStoreUnlessBetween old new r [] TooBig Allows
FailsByStoreUnlessBetween-then old mid new a r P Q TooBig Allows Then one two more failure clean s here allowed room =
    let mid_clean : HasCleanDisk mid = omega (arith, two.survives.clean, clean) in
    let on = one.goes_on mid_clean here.inside in
    let returned = more (one.ok mid_clean) s here.held allowed in
    let now : HoldsOpen mid s = record { inside = on.0; unlimited = one.survives.limit ∙ here.unlimited; held = subst (λ d. Holds d s) (sym returned.1) here.held } in
    IfErr-weaker r _ _ (λ e why. EndsBy-later_call old mid new e on one.survives.counts why) (failure clean s now returned.0 room)
