-- What a change of some tables leaves of the others, and a read of all.
use Rattle.std.specs.{Prelude.{MatchBool}, List.{AllByRecursion, list_any, list_all}, Cmp.{nat_eq_equiv}, Option.{option_map_or}}
use Rattle.std.proofs.Common.{◌≡◌, ◌≢◌, ◌==◌, ℕ, List, [], ◌∷◌, ◌++◌, map, codes, Bool, true, false, not, ◌&&◌, ◌||◌, refl, sym, ap, subst, subst₂, ◌∙◌, Some, Option}
use Rattle.std.proofs.{lemmas.Bool.{not-true, not_from_false, or_parts}, lemmas.List.Folds.{list_any-append}}
use Rattle.sqlite.specs.{Schema.{Schema}, Order.{Row}, Command.{Command}, Effect.{Database}, State.{State, Shown}, Query.{Query}, Table.{Table}}
use Rattle.table_access.{specs.{Statements.{ChangesOnly}, Sound.{IsKept}}, proofs.{Steps.{Means, Shown-IsUnchanged}, Answered.{Runs}}}
use Rattle.broker_core.specs.{declared.command.Version.{Version}, declared.command.Marks.{Marks}, Text.{Text, same_text}, State.{State as Broker, Verification}}
use Rattle.broker_tables.specs.{Schema.{broker_schema}, Rows.{rows_of, tree_of}}
use Rattle.broker_tables.specs.Holds.{Holds, IsBroker, IsMeta, AreTeams, ArePacticipants, AreVersions, AreBranches, AreEnvironments, AreGrants, AreContents, AreContracts, AreResults, AreLatest, AreDeployed, AreReleased, format}
use Rattle.sqlite_keyed.proofs.RuleLemmas.{first_of_both, second_of_both}

-- ---- a text's meaning, and a read

-- a text means what it means over the broker's schema
pub Means-over_broker_schema : {command : Command} (db : Database) → IsBroker db → (sql : List ℕ) → Means broker_schema sql command → Means db.schema sql command
Means-over_broker_schema {command} db broker sql means = subst (λ s. Means s sql command) (sym broker.schema) means

-- and a query that can be run over the broker's schema can be run over this one
pub Runs-over_broker_schema : (db : Database) → IsBroker db → (sql : List ℕ) (params : Row) (q : Query) → Runs broker_schema sql params q → Runs db.schema sql params q
Runs-over_broker_schema db broker sql params q runs = subst (λ s. Runs s sql params q) (sym broker.schema) runs

-- after a query the same is held
pub Shown-Holds_same : {command : Command} (sql : List ℕ) (params : Row) (old new : State) (rows : List Row) (s : Broker) → Means old.now.schema sql command → Shown sql params old new rows → Holds old.now s → Holds new.now s
Shown-Holds_same sql params old new rows s means shown held = subst (λ d. Holds d s) (sym (Shown-IsUnchanged sql params old new rows means.plain shown).0.now_is) held

-- ---- the tables that a change leaves as they were

abbrev pub table_names : List (List ℕ)
table_names = map (λ t. t.name) broker_schema.tables

-- whether the table is none of these
abbrev pub is_other : List (List ℕ) → List ℕ → Bool
is_other changed name = not (list_any (same_text name) changed)

-- the tables with these names may have changed, and each other one is as it was
pub record Frame (changed : List (List ℕ)) (old new : Database) : Type 0 where
  pub schema : new.schema ≡ old.schema
  pub kept : IsKept old → IsKept new
  pub others : AllByRecursion (λ name. is_other changed name ≡ true → rows_of new name ≡ rows_of old name) table_names

-- each table is found by its name
pub tree_of-broker_schema : AllByRecursion (λ t. tree_of t.name ≡ Some t.tree) broker_schema.tables
tree_of-broker_schema = (refl, (refl, (refl, (refl, (refl, (refl, (refl, (refl, (refl, (refl, (refl, (refl, (refl, (refl, (refl, tt)))))))))))))))

-- that the table at this tree is among the changed ones
abbrev pub is_among : List (List ℕ) → ℕ → Bool
is_among changed tree = list_all (λ t. not (t.tree == tree) || not (is_other changed t.name)) broker_schema.tables

module _ (changed : List (List ℕ)) (tree : ℕ) (old new : Database) where
  rows_of-other_table : (t : Table) → tree_of t.name ≡ Some t.tree → (t.tree ≢ tree → new.trees t.tree ≡ old.trees t.tree) → (not (t.tree == tree) || not (is_other changed t.name)) ≡ true → is_other changed t.name ≡ true
      → rows_of new t.name ≡ rows_of old t.name
  rows_of-other_table t named other among free =
      let apart : t.tree ≢ tree = λ same. let e : (t.tree == tree) ≡ true = ap (λ n. t.tree == n) (sym same) ∙ nat_eq_equiv.refl t.tree in absurd (let bad = rw (e, free) at among in cc) in
      ap (λ o. option_map_or new.trees o []) named ∙ other apart ∙ ap (λ o. option_map_or old.trees o []) (sym named)

  names : (ts : List Table) → AllByRecursion (λ t. tree_of t.name ≡ Some t.tree) ts → AllByRecursion (λ t. t.tree ≢ tree → new.trees t.tree ≡ old.trees t.tree) ts
      → list_all (λ t. not (t.tree == tree) || not (is_other changed t.name)) ts ≡ true → AllByRecursion (λ name. is_other changed name ≡ true → rows_of new name ≡ rows_of old name) (map (λ t. t.name) ts)
  names [] n o a = tt
  names (t ∷ ts) n o a = (rows_of-other_table t n.0 o.0 (first_of_both _ _ a), names ts n.1 o.1 (second_of_both _ _ a))

-- of a statement that changed one table
pub ChangesOnly-Frame : (changed : List (List ℕ)) (tree : ℕ) → is_among changed tree ≡ true → (old new : State) → IsBroker old.now → ChangesOnly tree old new → Frame changed old.now new.now
ChangesOnly-Frame changed tree among old new broker only = record {
  schema = only.schema;
  kept = only.kept;
  others = names changed tree old.now new.now broker_schema.tables tree_of-broker_schema (subst (λ (s : Schema). AllByRecursion (λ t. t.tree ≢ tree → new.now.trees t.tree ≡ old.now.trees t.tree) s.tables) broker.schema only.others) among;
}

-- of one change after another
pub Frame-trans : (one two : List (List ℕ)) (old mid new : Database) → Frame one old mid → Frame two mid new → Frame (one ++ two) old new
Frame-trans one two old mid new first second = record {
  schema = second.schema ∙ first.schema;
  kept = λ kept. second.kept (first.kept kept);
  others = go table_names first.others second.others;
}
  where
    go : (names : List (List ℕ)) → AllByRecursion (λ name. is_other one name ≡ true → rows_of mid name ≡ rows_of old name) names → AllByRecursion (λ name. is_other two name ≡ true → rows_of new name ≡ rows_of mid name) names
        → AllByRecursion (λ name. is_other (one ++ two) name ≡ true → rows_of new name ≡ rows_of old name) names
    go [] a b = tt
    go (name ∷ names) a b =
        ((λ other. let both = or_parts _ _ (sym (list_any-append (same_text name) one two) ∙ not-true _ other) in b.0 (not_from_false _ both.1) ∙ a.0 (not_from_false _ both.0)), go names a.1 b.1)

-- a broker's database is one still, after a change of some tables
pub Frame-IsBroker : (changed : List (List ℕ)) (old new : Database) → Frame changed old new → IsBroker old → IsBroker new
Frame-IsBroker changed old new frame broker = record { schema = frame.schema ∙ broker.schema; kept = frame.kept broker.kept }

-- ---- the state that is held after a change

module _ (changed : List (List ℕ)) (old new : Database) where
  -- what is Known-next of a field: if its table is as it was, that the rows have the next value if they had the old one;
  -- else that they have it now
  abbrev Known : List ℕ → (List Row → Type 0) → (List Row → Type 0) → Type 0
  Known name Was Is = MatchBool (is_other changed name) (Was (rows_of old name) → Is (rows_of old name)) (Is (rows_of new name))

  -- the same of a field that is read from two tables
  abbrev KnownOfBoth : List ℕ → List ℕ → (List Row → List Row → Type 0) → (List Row → List Row → Type 0) → Type 0
  KnownOfBoth one two Was Is = MatchBool (is_other changed one && is_other changed two) (Was (rows_of old one) (rows_of old two) → Is (rows_of old one) (rows_of old two)) (Is (rows_of new one) (rows_of new two))

  abbrev pub Stays : List ℕ → Type 0
  Stays name = is_other changed name ≡ true → rows_of new name ≡ rows_of old name

  Known-next : (name : List ℕ) (Was Is : List Row → Type 0) (b : Bool) → is_other changed name ≡ b → MatchBool b (Was (rows_of old name) → Is (rows_of old name)) (Is (rows_of new name)) → Stays name → Was (rows_of old name) → Is (rows_of new name)
  Known-next name Was Is true other returned stays was = subst Is (sym (stays other)) (returned was)
  Known-next name Was Is false other returned stays was = returned

  KnownOfBoth-next : (one two : List ℕ) (Was Is : List Row → List Row → Type 0) (b : Bool) → (is_other changed one && is_other changed two) ≡ b → MatchBool b (Was (rows_of old one) (rows_of old two) → Is (rows_of old one) (rows_of old two)) (Is (rows_of new one) (rows_of new two))
      → Stays one → Stays two → Was (rows_of old one) (rows_of old two) → Is (rows_of new one) (rows_of new two)
  KnownOfBoth-next one two Was Is true other returned first second was = subst₂ Is (sym (first (first_of_both _ _ other))) (sym (second (second_of_both _ _ other))) (returned was)
  KnownOfBoth-next one two Was Is false other returned first second was = returned

  -- all fields of the next state
  abbrev pub Next : Broker → Broker → Type 0
  Next s t =
      Known (codes "meta") (IsMeta format s.office) (IsMeta format t.office)
      × Known (codes "teams") (AreTeams s.teams) (AreTeams t.teams)
      × Known (codes "pacticipants") (ArePacticipants s.pacticipants) (ArePacticipants t.pacticipants)
      × Known (codes "versions") (AreVersions s.versions) (AreVersions t.versions)
      × Known (codes "branches") (AreBranches s.versions s.branches) (AreBranches t.versions t.branches)
      × KnownOfBoth (codes "environments") (codes "strict_environments") (AreEnvironments s.environments) (AreEnvironments t.environments)
      × Known (codes "grants") (AreGrants s.grants) (AreGrants t.grants)
      × Known (codes "contents") (AreContents s.contents) (AreContents t.contents)
      × Known (codes "contracts") (AreContracts s.versions s.contracts) (AreContracts t.versions t.contracts)
      × KnownOfBoth (codes "results") (codes "checked_results") (AreResults s.versions s.results) (AreResults t.versions t.results)
      × Known (codes "latest") (AreLatest s) (AreLatest t)
      × Known (codes "deployed") (AreDeployed s.versions s.deployed) (AreDeployed t.versions t.deployed)
      × Known (codes "released") (AreReleased s.versions s.released) (AreReleased t.versions t.released)

  pub Holds-next : (s t : Broker) → Holds old s → Frame changed old new → Next s t → Holds new t
  Holds-next s t held frame next = let all = frame.others in record {
    broker = Frame-IsBroker changed old new frame held.broker;
    meta = Known-next (codes "meta") (IsMeta format s.office) (IsMeta format t.office) _ refl next.0 all.0 held.meta;
    teams = Known-next (codes "teams") (AreTeams s.teams) (AreTeams t.teams) _ refl next.1 all.1.0 held.teams;
    pacticipants = Known-next (codes "pacticipants") (ArePacticipants s.pacticipants) (ArePacticipants t.pacticipants) _ refl next.2 all.1.1.0 held.pacticipants;
    versions = Known-next (codes "versions") (AreVersions s.versions) (AreVersions t.versions) _ refl next.3 all.1.1.1.0 held.versions;
    branches = Known-next (codes "branches") (AreBranches s.versions s.branches) (AreBranches t.versions t.branches) _ refl next.4 all.1.1.1.1.0 held.branches;
    environments = KnownOfBoth-next (codes "environments") (codes "strict_environments") (AreEnvironments s.environments) (AreEnvironments t.environments) _ refl next.5 all.1.1.1.1.1.0 all.1.1.1.1.1.1.1.1.1.1.1.1.1.1.0 held.environments;
    grants = Known-next (codes "grants") (AreGrants s.grants) (AreGrants t.grants) _ refl next.6 all.1.1.1.1.1.1.0 held.grants;
    contents = Known-next (codes "contents") (AreContents s.contents) (AreContents t.contents) _ refl next.7 all.1.1.1.1.1.1.1.0 held.contents;
    contracts = Known-next (codes "contracts") (AreContracts s.versions s.contracts) (AreContracts t.versions t.contracts) _ refl next.8 all.1.1.1.1.1.1.1.1.0 held.contracts;
    results = KnownOfBoth-next (codes "results") (codes "checked_results") (AreResults s.versions s.results) (AreResults t.versions t.results) _ refl next.9 all.1.1.1.1.1.1.1.1.1.0 all.1.1.1.1.1.1.1.1.1.1.1.1.1.0 held.results;
    latest = Known-next (codes "latest") (AreLatest s) (AreLatest t) _ refl next.10 all.1.1.1.1.1.1.1.1.1.1.0 held.latest;
    deployed = Known-next (codes "deployed") (AreDeployed s.versions s.deployed) (AreDeployed t.versions t.deployed) _ refl next.11 all.1.1.1.1.1.1.1.1.1.1.1.0 held.deployed;
    released = Known-next (codes "released") (AreReleased s.versions s.released) (AreReleased t.versions t.released) _ refl next.12 all.1.1.1.1.1.1.1.1.1.1.1.1.0 held.released;
  }

-- the field has the value that it had
pub same : {A : Type 0} → A → A
same h = h

-- ---- one field of the state changes: if only these tables changed, the state with the field as the rows say is held

module _ (old new : Database) (s : Broker) where
  pub Holds-teams : (next : Text → Option Text) → Holds old s → Frame (codes "teams" ∷ []) old new → AreTeams next (rows_of new (codes "teams")) → Holds new (record s { teams = next })
  Holds-teams next held frame is = Holds-next _ old new s _ held frame (same, is, same, same, same, same, same, same, same, same, same, same, same)

  pub Holds-pacticipants : (next : Text → Option Text) → Holds old s → Frame (codes "pacticipants" ∷ []) old new → ArePacticipants next (rows_of new (codes "pacticipants")) → Holds new (record s { pacticipants = next })
  Holds-pacticipants next held frame is = Holds-next _ old new s _ held frame (same, same, is, same, same, same, same, same, same, same, same, same, same)

  pub Holds-branches : (next : Version × Text → Bool) → Holds old s → Frame (codes "branches" ∷ []) old new → AreBranches s.versions next (rows_of new (codes "branches")) → Holds new (record s { branches = next })
  Holds-branches next held frame is = Holds-next _ old new s _ held frame (same, same, same, same, is, same, same, same, same, same, same, same, same)

  pub Holds-environments : (next : Text → Option Marks) → Holds old s → Frame (codes "environments" ∷ codes "strict_environments" ∷ []) old new → AreEnvironments next (rows_of new (codes "environments")) (rows_of new (codes "strict_environments")) → Holds new (record s { environments = next })
  Holds-environments next held frame is = Holds-next _ old new s _ held frame (same, same, same, same, same, is, same, same, same, same, same, same, same)

  pub Holds-grants : (next : Text × Text → Bool) → Holds old s → Frame (codes "grants" ∷ []) old new → AreGrants next (rows_of new (codes "grants")) → Holds new (record s { grants = next })
  Holds-grants next held frame is = Holds-next _ old new s _ held frame (same, same, same, same, same, same, is, same, same, same, same, same, same)

  pub Holds-contents : (next : List Text) → Holds old s → Frame (codes "contents" ∷ []) old new → AreContents next (rows_of new (codes "contents")) → Holds new (record s { contents = next })
  Holds-contents next held frame is = Holds-next _ old new s _ held frame (same, same, same, same, same, same, same, is, same, same, same, same, same)

  pub Holds-contracts : (next : Version × Text → Option ℕ) → Holds old s → Frame (codes "contracts" ∷ []) old new → AreContracts s.versions next (rows_of new (codes "contracts")) → Holds new (record s { contracts = next })
  Holds-contracts next held frame is = Holds-next _ old new s _ held frame (same, same, same, same, same, same, same, same, is, same, same, same, same)

  pub Holds-results : (next : List Verification) → Holds old s → Frame (codes "results" ∷ codes "checked_results" ∷ codes "latest" ∷ []) old new → AreResults s.versions next (rows_of new (codes "results")) (rows_of new (codes "checked_results")) → AreLatest (record s { results = next }) (rows_of new (codes "latest")) → Holds new (record s { results = next })
  Holds-results next held frame are newest = Holds-next _ old new s _ held frame (same, same, same, same, same, same, same, same, same, are, newest, same, same)

  pub Holds-deployed : (next : Text × Text × Text → Option Text) → Holds old s → Frame (codes "deployed" ∷ []) old new → AreDeployed s.versions next (rows_of new (codes "deployed")) → Holds new (record s { deployed = next })
  Holds-deployed next held frame is = Holds-next _ old new s _ held frame (same, same, same, same, same, same, same, same, same, same, same, is, same)

  pub Holds-released : (next : Text × Version → Bool) → Holds old s → Frame (codes "released" ∷ []) old new → AreReleased s.versions next (rows_of new (codes "released")) → Holds new (record s { released = next })
  Holds-released next held frame is = Holds-next _ old new s _ held frame (same, same, same, same, same, same, same, same, same, same, same, same, is)
