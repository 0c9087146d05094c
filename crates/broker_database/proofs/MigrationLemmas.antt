-- What a migration finds, and what it leaves of a state.
use Rattle.std.specs.{Prelude.{if◌then◌else◌, option_map, IsTrue, ◌↔◌, IsSomeAnd, Result, Ok, Err, OnOk, IfErr}, Option.{option_map_or}}
use Rattle.std.proofs.Common.{◌≡◌, ◌≢◌, ◌==◌, ◌∷◌, [], ◌⊎◌, inl, inr, ℕ, List, Bool, true, false, not, ◌&&◌, refl, sym, ap, subst, ◌∙◌, drop, find, slice_get, arith, Option, Some, None, Result, Ok, Err}
use Rattle.std.proofs.lemmas.Bool.{eqb-true, eqb-false}
use Rattle.sqlite.specs.{Effect.{Database}, Held.{Held}, Schema.{Schema}, State.{State}, Table.{Table}, declared.types.Value.TheVariants.{Int}}
use Rattle.sqlite_rules.specs.Lists.{Has}
use Rattle.table_access.{specs.{declared.StoreFault.{StoreFault}, Durability.{HoldsDurably}}, proofs.SoundLemmas.{has_place, column-Int}}
use Rattle.broker_core.specs.{declared.answer.Answer.TheVariants.{Shown}, declared.answer.Shown.TheVariants.{Gate}}
use Rattle.broker_core.specs.{declared.command.Command.TheVariants.{CanIDeploy}, declared.command.Marks.{Marks}, declared.command.Version.{Version}}
use Rattle.broker_core.specs.{declared.need.Kind.TheVariants.{Failed, Claimed}, declared.need.Latest.{Latest}, declared.need.Need.{Need}}
use Rattle.broker_core.specs.{declared.need.PairFault.{PairFault}, Change.{Transition, unchanged_with}, Faults.{fault_of, kind_of}}
use Rattle.broker_core.specs.{Gate.{IsGood, IsPermitted, IsFault, Judges}, Machine.{TakesEffect}, State.{State as Broker, is_strict}, Text.{Text}}
use Rattle.sqlite_schema.specs.{declared.schema.Column.{Column}, Names.{same_name}}
use Rattle.broker_tables.specs.{Schema.{no_schema, schema_of, in_meta}, Holds.{IsMeta}, Making.{IsBlank, IsMarked}}
use Rattle.broker_tables.{specs.Format1.{HoldsFormat1, IsUnmarked, format_1_tables, format_1}, proofs.Format1.{unmarked}}
use Rattle.registry_tables.specs.Format.{AreLike, AreKeys, CompareBytes, HasForm, HasFormat1Tables, HasNoFormat, SharesTree, IsOfFormat}
use Rattle.command_facts.specs.Primitives.{broker_primitives}
use Rattle.broker_database.specs.{Calls.{Migrated}, Ends.{IsUnchangedUnless}}
use Rattle.broker_database.specs.Migration.{DeclaresToday, StoresFormat1, MigratesOrNot, FindsFormat1Alone, HasFormat1Alone, KeepsFormat1Room, MigratesOrRefuses, WasGood, WasPermitted, WasFault, WasJudged, Showed, JudgesAsBefore, format_1_kind, format_1_fault, format_1_marks}
use Rattle.broker_database.specs.{Opening.{Refuses, IsUnchangedUnlessStore, judgement, open_fault}, Stored.{Stores, HoldsState}}
use Rattle.broker_database.specs.{declared.opening.OpenFault.{OpenFault}, declared.opening.OpenFault.TheVariants.{Format}}
use Rattle.broker_database.proofs.{Judgements.{IsMeta-format, table_of-meta_unique, Finds-blank_none, Finds-marked}, OpenFailures.{judgement-not_store}}
use Rattle.table_access.specs.declared.StoreFault.TheVariants as store_fault
use Rattle.broker_tables.specs.Schema as tables

-- what is held durably is seen, while the connection is open
pub HoldsDurably-now : (P : Database → Type 0) (c : State) → HoldsDurably P c → IsTrue c.is_open → P c.now
HoldsDurably-now P c keeps now = let was = keeps.held now in subst P (sym was.same) was.has

-- ---- the format that is found

-- a database of format 1 has meta as its first table, with its one row
pub IsMarked-of_format_1 : (db : Database) (s : Broker) → HoldsFormat1 db s → IsMarked format_1 s.office db
IsMarked-of_format_1 db s held = record { tables = drop 1 (schema_of format_1_tables).tables; indexes = (schema_of format_1_tables).indexes; schema = held.schema; row = held.meta }

-- each column is like itself
AreLike-refl : (cs : List Column) → AreLike cs cs
AreLike-refl [] = tt
AreLike-refl (c ∷ cs) = ((refl, refl), AreLike-refl cs)

AreKeys-refl : (keys : List (List ℕ)) → AreKeys keys keys
AreKeys-refl [] = tt
AreKeys-refl (places ∷ keys) = (refl, AreKeys-refl keys)

-- a table has its own HasForm-own, whichever tree has its rows, if its columns compare bytes
HasForm-own : (t : Table) (tree : ℕ) → CompareBytes t.columns → HasForm t (record t { tree = tree })
HasForm-own t tree bytes = (AreLike-refl t.columns, bytes, (refl, refl, AreKeys-refl t.uniques))

HasFormat1Tables-format_1_schema : HasFormat1Tables (schema_of format_1_tables)
unfolding same_name
HasFormat1Tables-format_1_schema = (HasForm-own tables.meta 0 (refl, (refl, (refl, tt))), (HasForm-own tables.teams 1 (refl, (refl, tt)), (HasForm-own tables.pacticipants 4 (refl, (refl, tt)), (HasForm-own tables.versions 6 (refl, (refl, (refl, tt))), (HasForm-own tables.branches 8 (refl, (refl, tt)), (HasForm-own tables.environments 10 (refl, (refl, tt)), (HasForm-own tables.grants 12 (refl, (refl, tt)), (HasForm-own tables.contents 14 (refl, (refl, (refl, tt))), (HasForm-own tables.contracts 15 (refl, (refl, (refl, tt))), (HasForm-own tables.results 17 (refl, (refl, (refl, (refl, (refl, (refl, tt)))))), (HasForm-own tables.latest 19 (refl, (refl, (refl, tt))), (HasForm-own tables.deployed 21 (refl, (refl, (refl, (refl, tt)))), (HasForm-own tables.released 23 (refl, (refl, tt)), tt)))))))))))))

pub HasFormat1Alone-of_format_1 : (db : Database) (s : Broker) → HoldsFormat1 db s → HasFormat1Alone db.schema
HasFormat1Alone-of_format_1 db s held = subst HasFormat1Alone (sym held.schema) (HasFormat1Tables-format_1_schema, refl, refl, refl)

pub FindsFormat1Alone-format_1 : (db : Database) (s : Broker) (found : Option ℕ) → HoldsFormat1 db s → FindsFormat1Alone db found → found ≡ Some format_1
FindsFormat1Alone-format_1 db s None held (inl foreign) = Finds-marked format_1 s.office db None (IsMarked-of_format_1 db s held) foreign
FindsFormat1Alone-format_1 db s None held (inr (reports, lacks)) = absurd (lacks (HasFormat1Alone-of_format_1 db s held))
FindsFormat1Alone-format_1 db s (Some n) held it = Finds-marked format_1 s.office db (Some n) (IsMarked-of_format_1 db s held) it.0

-- and its format can be found
pub HoldsFormat1-has_format : (db : Database) (s : Broker) → HoldsFormat1 db s → ¬ (HasNoFormat db ⊎ SharesTree db)
HoldsFormat1-has_format db s held (inl (table, at, is, (row, rows, none))) =
    let one : db.trees in_meta.tree ≡ row ∷ [] = subst (λ (t : Table). db.trees t.tree ≡ row ∷ []) (table_of-meta_unique format_1 s.office db (IsMarked-of_format_1 db s held) table at) rows in
    let there = has_place db.schema.tables 0 tables.meta (ap (λ (c : Schema). slice_get c.tables 0) held.schema) in
    let number = column-Int db held.kept.sound tables.meta there row (subst (λ xs. Has xs row) (sym one) (inl refl)) 1 _ refl refl refl refl refl in
    none format_1 (number ∙ ap Int (IsMeta-format format_1 s.office row (subst (IsMeta format_1 s.office) one held.meta))) (omega arith)
HoldsFormat1-has_format db s held (inr (table, at, is, other)) =
    other (subst (λ (t : Table). find (λ u. u.tree == t.tree) db.schema.tables ≡ Some t) (sym (table_of-meta_unique format_1 s.office db (IsMarked-of_format_1 db s held) table at)) (ap (λ (c : Schema). find (λ u. u.tree == in_meta.tree) c.tables) held.schema))

-- the judgement by what is found is right
MigratesOrRefuses-judgement : (db : Database) (found : Option ℕ) → FindsFormat1Alone db found → MigratesOrRefuses db (judgement format_1 found)
MigratesOrRefuses-judgement db None it = it
MigratesOrRefuses-judgement db (Some n) it = go (n == format_1) refl
  where
    go : (b : Bool) → (n == format_1) ≡ b → MigratesOrRefuses db (if b then Ok tt else Err (Format n))
    go true e =
        let same : n ≡ format_1 = eqb-true n format_1 e in
        (subst (λ k. IsOfFormat k db) same it.0, it.1 same)
    go false e = (it.0, eqb-false n format_1 e)

FindsFormat1Alone-blank : (db : Database) (found : Option ℕ) → db.schema ≡ no_schema → FindsFormat1Alone db found → found ≡ None
FindsFormat1Alone-blank db None blank it = refl
FindsFormat1Alone-blank db (Some n) blank it = Finds-blank_none db (Some n) blank it.0

FindsFormat1Alone-marked : (n : ℕ) (office : Text) (db : Database) (found : Option ℕ) → n ≢ format_1 → IsMarked n office db → FindsFormat1Alone db found → found ≡ Some n
FindsFormat1Alone-marked n office db None other marked (inl foreign) = Finds-marked n office db None marked foreign
FindsFormat1Alone-marked n office db None other marked (inr (reports, lacks)) =
    let is : Some format_1 ≡ Some n = Finds-marked n office db (Some format_1) marked reports in
    absurd (other (let same : n ≡ format_1 = cc in same))
FindsFormat1Alone-marked n office db (Some k) other marked it = Finds-marked n office db (Some k) marked it.0

-- ---- the gate's words

IsGood-was : (need : Need) → IsGood false need → WasGood need
IsGood-was need good = (good.0, passes need.latest good.1)
  where
    passes : (o : Option Latest) → IsSomeAnd o (λ latest. IsTrue latest.pass × (IsTrue false → IsTrue latest.checked)) → IsSomeAnd o (λ latest. IsTrue latest.pass)
    passes None h = h
    passes (Some latest) h = h.0

IsGood-now : (need : Need) → WasGood need → IsGood false need
IsGood-now need good = (good.0, passes need.latest good.1)
  where
    passes : (o : Option Latest) → IsSomeAnd o (λ latest. IsTrue latest.pass) → IsSomeAnd o (λ latest. IsTrue latest.pass × (IsTrue false → IsTrue latest.checked))
    passes None h = h
    passes (Some latest) h = (h, λ never. absurd cc)

kind_of-format_1_kind : (w : Option Text) (latest : Option Latest) → kind_of false w latest ≡ format_1_kind w latest
kind_of-format_1_kind None latest = refl
kind_of-format_1_kind (Some w) None = refl
kind_of-format_1_kind (Some w) (Some latest) = by_pass latest.pass
  where
    by_pass : (pass : Bool) → (if not pass then Some Failed else if false && not latest.checked then Some Claimed else None) ≡ (if pass then None else Some Failed)
    by_pass true = refl
    by_pass false = refl

fault_of-format_1_fault : (need : Need) → fault_of false need ≡ format_1_fault need
fault_of-format_1_fault need = ap (option_map (λ kind. record {
  consumer = need.consumer;
  consumer_version = need.consumer_version;
  provider = need.provider;
  provider_version = need.provider_version;
  kind = kind;
})) (kind_of-format_1_kind need.provider_version need.latest)

-- ---- if no environment is strict

module _ (s : Broker) (are : IsUnmarked s) where
  lenient : (e : Text) → is_strict s e ≡ false
  lenient e = go (s.environments e) refl
    where
      go : (o : Option Marks) → s.environments e ≡ o → option_map_or (λ (marks : Marks). marks.strict) o false ≡ false
      go None is = refl
      go (Some marks) is = are.lenient e marks is

  IsPermitted-was_permitted : (v : Version) (e : Text) → IsPermitted s v e ↔ WasPermitted s v e
  IsPermitted-was_permitted v e = (forward, back)
    where
      forward : IsPermitted s v e → WasPermitted s v e
      forward (inl all) = inl (λ need is. IsGood-was need (subst (λ strict. IsGood strict need) (lenient e) (all need is)))
      forward (inr ungated) = inr ungated

      back : WasPermitted s v e → IsPermitted s v e
      back (inl all) = inl (λ need is. subst (λ strict. IsGood strict need) (sym (lenient e)) (IsGood-now need (all need is)))
      back (inr ungated) = inr ungated

  fault_of-is_strict_format_1 : (e : Text) (need : Need) → fault_of (is_strict s e) need ≡ format_1_fault need
  fault_of-is_strict_format_1 e need = ap (λ strict. fault_of strict need) (lenient e) ∙ fault_of-format_1_fault need

  IsFault-was_fault : (v : Version) (e : Text) (fault : PairFault) → IsFault s v e fault ↔ WasFault s v e fault
  IsFault-was_fault v e fault = (
    λ it. (it.0, it.1, sym (fault_of-is_strict_format_1 e it.0) ∙ it.2),
    λ it. (it.0, it.1, fault_of-is_strict_format_1 e it.0 ∙ it.2),
  )

  Judges-was : (v : Version) (e : Text) (permitted : Bool) (faults : List PairFault) → Judges s v e permitted faults → WasJudged s v e permitted faults
  Judges-was v e permitted faults it = record {
    verdict = (λ yes. (IsPermitted-was_permitted v e).0 (it.verdict.0 yes), λ was. it.verdict.1 ((IsPermitted-was_permitted v e).1 was));
    faults_are = record {
      sorted = it.faults_are.sorted;
      exactly = λ f. (λ c. (IsFault-was_fault v e f).0 ((it.faults_are.exactly f).0 c), λ is. (it.faults_are.exactly f).1 ((IsFault-was_fault v e f).1 is));
    };
  }

  Judges-now : (v : Version) (e : Text) (permitted : Bool) (faults : List PairFault) → WasJudged s v e permitted faults → Judges s v e permitted faults
  Judges-now v e permitted faults it = record {
    verdict = (λ yes. (IsPermitted-was_permitted v e).1 (it.verdict.0 yes), λ is. it.verdict.1 ((IsPermitted-was_permitted v e).0 is));
    faults_are = record {
      sorted = it.faults_are.sorted;
      exactly = λ f. (λ c. (IsFault-was_fault v e f).1 ((it.faults_are.exactly f).0 c), λ is. (it.faults_are.exactly f).1 ((IsFault-was_fault v e f).0 is));
    };
  }

  format_1_marks-same : (e : Text) (marks : Marks) → s.environments e ≡ Some marks → marks ≡ format_1_marks marks.gated
  format_1_marks-same e marks is = ap (λ strict. record marks { strict = strict }) (are.lenient e marks is)

  Showed-of_effect : (v : Version) (e : Text) (out : Transition) → TakesEffect broker_primitives s (CanIDeploy v e) out → Showed s v e out
  Showed-of_effect v e out (marks, is, (permitted, faults, judged, shown)) = (
    marks.gated,
    ap (option_map (λ (m : Marks). m.gated)) is,
    (permitted, faults, Judges-was v e permitted faults judged, shown ∙ ap (λ m. unchanged_with s (Shown (Gate e m permitted faults))) (format_1_marks-same e marks is)),
  )

  TakesEffect-of_showed : (v : Version) (e : Text) (out : Transition) → Showed s v e out → TakesEffect broker_primitives s (CanIDeploy v e) out
  TakesEffect-of_showed v e out (gated, is, (permitted, faults, judged, shown)) = go (s.environments e) refl
    where
      go : (o : Option Marks) → s.environments e ≡ o → TakesEffect broker_primitives s (CanIDeploy v e) out
      go None none = absurd (let some = is in cc)
      go (Some marks) some =
          let same : marks.gated ≡ gated = (let both : Some marks.gated ≡ Some gated = sym (ap (option_map (λ (m : Marks). m.gated)) some) ∙ is in cc) in
          (marks, some, (permitted, faults, Judges-now v e permitted faults judged, shown ∙ ap (λ m. unchanged_with s (Shown (Gate e m permitted faults))) (ap format_1_marks (sym same) ∙ sym (format_1_marks-same e marks some))))

  pub JudgesAsBefore-unmarked : JudgesAsBefore s
  JudgesAsBefore-unmarked = record { unmarked = are; permits = IsPermitted-was_permitted; faults = IsFault-was_fault; shows = λ v e out. (Showed-of_effect v e out, TakesEffect-of_showed v e out) }

-- of each state that a database of format 1 holds
pub judges_format_1 : (db : Database) (s : Broker) → HoldsFormat1 db s → JudgesAsBefore s
judges_format_1 db s held = JudgesAsBefore-unmarked s (unmarked format_1 [] db s held)

-- ---- the record of a migration, from what its transaction leaves

pub OnOk-const : (r : Result (Unit {0}) OpenFault) (P : Type 0) → P → OnOk r P
OnOk-const (Ok u) P it = it
OnOk-const (Err fault) P it = tt

-- if the judgement refuses, no database of format 1 was found
judgement-refused_unchanged : (old new : State) (found : Option ℕ) → IsUnchangedUnless (λ f. f ≡ Some format_1) old new (Ok found) → IfErr (judgement format_1 found) (IsUnchangedUnlessStore old new)
judgement-refused_unchanged old new None it = it (λ is. cc)
judgement-refused_unchanged old new (Some n) it = go (n == format_1) refl
  where
    go : (b : Bool) → (n == format_1) ≡ b → IfErr {T = Unit {0}} (if b then Ok tt else Err (Format n)) (IsUnchangedUnlessStore old new)
    go true e = tt
    go false e = it (λ is. eqb-false n format_1 e (let same : n ≡ format_1 = cc in same))

-- what holds if the format is 1
OnOk-judgement : (found : Option ℕ) (P : Type 0) → (found ≡ Some format_1 → P) → OnOk (judgement format_1 found) P
OnOk-judgement None P it = tt
OnOk-judgement (Some n) P it = go (n == format_1) refl
  where
    go : (b : Bool) → (n == format_1) ≡ b → OnOk {T = Unit {0}} {E = OpenFault} (if b then Ok tt else Err (Format n)) P
    go true e = it (ap Some (eqb-true n format_1 e))
    go false e = tt

-- a format was found
pub Migrated-found : {X : Type 0} (shown : Held X → State) (old new : Held X) (found : Option ℕ) → MigratesOrNot shown old new (Ok found) → Migrated shown old new (judgement format_1 found)
Migrated-found shown old new found up = record {
  migrates = λ clean s keeps. OnOk-const (judgement format_1 found) (HoldsState s (shown new)) (up.ends clean s keeps).1;
  room = λ clean s keeps. OnOk-const (judgement format_1 found) (KeepsFormat1Room (shown old) (shown new)) (up.ends clean s keeps).2;
  refuses = λ clean s keeps.
      let is : Ok tt ≡ judgement format_1 found = sym (ap (judgement format_1) (up.ends clean s keeps).0) in
      subst (λ (r : Result (Unit {0}) OpenFault). IfErr r (Refuses (λ db. StoresFormat1 db s) (λ db. Stores db s) (shown new))) is tt;
  today = λ clean. OnOk-judgement found (HoldsDurably DeclaresToday (shown new)) (up.today clean);
  judges = λ clean. MigratesOrRefuses-judgement (shown old).now found (up.found clean).1;
  failure = λ clean fresh is. absurd (judgement-not_store format_1 found is);
  failure_format_1 = λ s fit clean fresh holds is. absurd (judgement-not_store format_1 found is);
  blank = λ clean keeps.
      let it = up.found clean in
      inl (ap (judgement format_1) (FindsFormat1Alone-blank (shown old).now found (HoldsDurably-now IsBlank (shown old) keeps it.0).schema it.1));
  marked = λ clean n office other keeps.
      let it = up.found clean in
      inl (ap (judgement format_1) (FindsFormat1Alone-marked n office (shown old).now found other (HoldsDurably-now (IsMarked n office) (shown old) keeps it.0) it.1));
  unchanged = λ clean. judgement-refused_unchanged (shown old) (shown new) found (up.unchanged clean);
  over = up.over;
  survives = up.survives;
  spares = up.spares;
}

-- the database failed
pub Migrated-failed : {X : Type 0} (shown : Held X → State) (old new : Held X) (why : StoreFault) → MigratesOrNot shown old new (Err why) → Migrated shown old new (Err (open_fault why))
Migrated-failed shown old new store_fault.Memory up = record {
  migrates = λ _ _ _. tt;
  room = λ _ _ _. tt;
  refuses = up.ends;
  today = λ _. tt;
  judges = λ _. tt;
  failure = λ clean fresh is. absurd (cc);
  failure_format_1 = λ s fit clean fresh holds is. absurd (cc);
  blank = λ _ _. inr (inl refl);
  marked = λ _ _ _ _ _. inr (inl refl);
  unchanged = up.unchanged;
  over = up.over;
  survives = up.survives;
  spares = up.spares;
}
Migrated-failed shown old new store_fault.Store up = record {
  migrates = λ _ _ _. tt;
  room = λ _ _ _. tt;
  refuses = up.ends;
  today = λ _. tt;
  judges = λ _. tt;
  failure = λ clean fresh is. up.failure clean fresh refl;
  failure_format_1 = λ s fit clean fresh holds is. up.failure_format_1 s fit clean fresh holds refl;
  blank = λ _ _. inr (inr refl);
  marked = λ _ _ _ _ _. inr (inr refl);
  unchanged = up.unchanged;
  over = up.over;
  survives = up.survives;
  spares = up.spares;
}
