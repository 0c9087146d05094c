-- INSERT .. ON CONFLICT DO UPDATE of one row, over a table to which no other refers, is refused by nothing while the
-- store works, if the row fits the table and what it refers to is there.
use Rattle.std.specs.Ordering.{is_eq}
use Rattle.std.proofs.Common.{◌≡◌, inl, inr, ℕ, ℤ, List, [], ◌∷◌, ◌++◌, map, filter, length, slice_get, Bool, true, false, not, ◌&&◌, ◌||◌, Some, None, Option, Ok, Err, refl, sym, ap, subst, ◌∙◌, ◌/◌, append-nil, bytes_eq, nat_lt}
use Rattle.std.proofs.{lemmas.Slice.Eq.{bytes_eq-Decides}, lemmas.Bool.{both_ways, false_from_ne_true, and_parts, and_from, or_right, or_cases, not-true}}
use Rattle.sqlite.specs.{declared.types.Value.{Value}, declared.types.Value.TheVariants.{Null, Int}, Order.{Row, column, value_cmp}}
use Rattle.sqlite.specs.{Tree.{IsAscending, rowid, has_rowid}, Table.{Table}, Term.{Term, col}, Cast.{cast_row, cast_all}, Command.{Command}}
use Rattle.sqlite.specs.{Command.TheVariants.{InsertOr}, Source.TheVariants.{Values}, Rowids.TheVariants.{Chosen, Given}}
use Rattle.sqlite.specs.{Edit.{next_rowid, without_all, id_in, is_taken, with_rowid}, declared.error.Error.{Error}, Effect.{value_rows, Answers}}
use Rattle.sqlite.specs.{Rows.{Written, Task, InsertsOr, Tries, TriesEach, Puts, Updates, Queried, shown, nothing, count_of}, Does.{Does}}
use Rattle.sqlite.specs.{State.{State, Executes, Fails, mode_of}, Listing.{understood}}
use Rattle.sqlite_sql.specs.Ops.{fits_i64}
use Rattle.sqlite_typing.specs.Types.{accepts_terms, accepts_program}
use Rattle.sqlite_value.specs.{Keys.{plain}, declared.keys.Order.{Order}}
use Rattle.sqlite_schema.specs.{declared.schema.Index.{Index}, declared.schema.Column.{Column}, declared.schema.Reference.{Reference}}
use Rattle.sqlite_schema.specs.{declared.schema.Among.TheVariants.{All}, declared.schema.Constraint.{Constraint}}
use Rattle.sqlite_schema.specs.{declared.schema.Constraint.TheVariants.{Datatype, NotNull, Check, Unique}, declared.program.Program.{Program}}
use Rattle.sqlite_schema.specs.{declared.command.Upsert.{Upsert}, declared.command.Conflict.TheVariants.{Abort}}
use Rattle.sqlite_schema.specs.Rules.{Refers, Keeps, agree, differ, guards, has_parent, references_fit}
use Rattle.sqlite_rules.specs.{Calls.{ids_of}, Lists.{Has}, Keys.{AreConflicts, conflicts, shares}, Steps.{PassAlone, IsJudged}}
use Rattle.sqlite_rules.specs.{Edit.{Edit, IsOversized, edit_of, is_off}, declared.error.Refusal.{Refusal}}
use Rattle.sqlite_rules.specs.declared.error.Refusal.TheVariants.{Violates, Mismatch}
use Rattle.sqlite_rules.proofs.{ListLemmas.{some_has, some_from, test_has, has_filtered, has_kept}, RuleLemmas.{keeps_at}, KeyLemmas.{agree_back, agree_chain}}
use Rattle.sqlite_rules.proofs.{TableLemmas.{int_is}, PlaceLemmas.{next_is_free}}
use Rattle.table_access.{specs.{Sound.{IsNumbered}, Statements.{plain_table, shows, HasNoActions}}, proofs.Answered.{is_whole, Queried-never_stops}}
use Rattle.table_access.proofs.{Edits.{Suits, IsAlone, goes, refers, are_unique-put_row, differ-Int}, Members.{has_map, map_has}}
use Rattle.table_access.proofs.Refused.{EndsAs-stopped, Sourced-never_stops, OnTable-stops, Executes-change_fails, Fails-weaken, IsMisplaced-never_anywhere}
use Rattle.table_access.proofs.{SoundLemmas.{at_has}, Steps.{Means, Ok-not_stopped, Ok-injective, shows-one_row}}
use Rattle.table_access.proofs.{Upsert.{by_rowid, setting, Either, upserts, AreConflicts-kept_row}, Values.{cast-Null, cast_row-kept}}

-- what fits if rows are put in and taken out fits too if none is taken out
and_or-no_removal : (a b removes : Bool) → (a && (not true || b)) ≡ true → (a && (not removes || b)) ≡ true
and_or-no_removal a b true h = h
and_or-no_removal a b false h = and_from _ _ (and_parts _ _ h).0 refl

-- the order of an index, and its places
abbrev pub key_of : Index → Order × List ℕ
key_of i = (i.order, i.columns)

module _ (name : List ℕ) (tree : ℕ) (columns : List Column) (key : Option ℕ) (primary : List ℕ) (uniques : List (List ℕ)) (orders : List Order) (checks : List Term) (references : List Reference)
    (sql : List ℕ) (params : Row) (old new : State) (at : ℕ) (target : List ℕ) (n : ℕ) (project terms : List Term) (width : ℕ) (rest : Row) (TooBig : Type 0) where
  abbrev here : Table
  here = plain_table name tree columns key primary uniques orders checks references

  abbrev rows : List Row
  rows = old.now.trees tree

  -- the row as it is put in
  abbrev it : Row
  it = Int (next_rowid rows) ∷ rest

  abbrev command : Command
  command = InsertOr at Abort (Values terms width) (record { target = Some target; update = Some (record { lets = []; body = setting tree n project }) } ∷ [])

  -- the parameters of the UPDATE
  abbrev with : Row → Row
  with r = params ++ rowid r ∷ shown here it

  -- The database obeys its schema, no reference leads to the table, the target is its one key, and it has a number for the
  -- row. The row has the same columns whether it is put in or is what a row with its key becomes, fits the table, and what
  -- it refers to is there. TooBig is what is so if it can't be stored.
  pub record Takes : Type 0 where
    pub found : slice_get old.now.schema.tables at ≡ Some here
    pub listed : Has old.now.schema.tables here
    pub apart : IsAscending (λ a b. a.tree ≡ b.tree → ⊥) old.now.schema.tables
    pub no_actions : HasNoActions old.now.schema.tables
    pub rules : (rule : Constraint) → Keeps rule old.now.schema old.now.trees
    pub numbered : IsNumbered rows
    pub alone : IsAlone old.now.schema tree
    pub fits : references_fit old.now.schema here true true ≡ true
    pub keys : map key_of (filter (λ i. guards i here) old.now.schema.indexes) ≡ (plain, target) ∷ []
    pub no_rowid : bytes_eq target (0 ∷ []) ≡ false
    pub no_first : (v w : Value) (r : Row) → agree plain target r target (v ∷ rest) ≡ agree plain target r target (w ∷ rest)
    pub means : Means old.now.schema sql command
    pub whole : is_whole sql (length params) (understood old.now.schema sql) ≡ true
    pub kinds : accepts_terms terms params ≡ true
    pub one : value_rows params width (length terms / width) terms ≡ (Null ∷ rest) ∷ []
    pub placed : (v : Value) (more : Row) → column (params ++ v ∷ more) n ≡ v
    pub typed : (z : ℤ) → accepts_program old.now.schema [] (setting tree n project) (params ++ Int z ∷ shown here it) ≡ true
    pub cast : cast_all columns rest ≡ rest
    pub changed : (r : Row) → Has rows r → conflicts (Some target) old.now.schema.indexes here it r ≡ true → shows project (with r) r ≡ rowid r ∷ rest
    pub room : fits_i64 (next_rowid rows) ≡ true
    pub numbers : (r : Row) → Has rows r → fits_i64 (id_in (rowid r)) ≡ true
    pub storable : (z : ℤ) → IsOversized old.now.schema here (Int z ∷ rest) → TooBig
    pub pass : (v : Value) → PassAlone here ((v ∷ rest) ∷ [])
    pub parents : (v : Value) (ref : Reference) → Has references ref → has_parent old.now.schema.tables old.now.trees (v ∷ rest) ref ≡ true

  module _ (takes : Takes) where
    numbered_by : (r : Row) → Has rows r → rowid r ≡ Int (id_in (rowid r))
    numbered_by r has = int_is (rowid r) (at_has _ rows r takes.numbered.1 has)

    -- ---- the key

    -- an index that guards the table is that of the target
    guarded : (i : Index) → Has old.now.schema.indexes i → guards i here ≡ true → key_of i ≡ (plain, target)
    guarded i known guard = elim (subst (λ ks. Has ks (key_of i)) takes.keys (has_map key_of _ i (has_kept (λ j. guards j here) old.now.schema.indexes i known guard))) [ inl same ↦ same | inr none ↦ absurd none ]

    agrees : (i : Index) → Has old.now.schema.indexes i → guards i here ≡ true → (a b : Row) → agree i.order i.columns a i.columns b ≡ agree plain target a target b
    agrees i known guard a b = ap (λ (k : Order × List ℕ). agree k.0 k.1 a k.1 b) (guarded i known guard)

    guard_of : (i : Index) × Has old.now.schema.indexes i × (guards i here ≡ true)
    guard_of =
        let it = map_has key_of _ (plain, target) (subst (λ ks. Has ks (plain, target)) (sym takes.keys) (inl refl)) in
        let is = has_filtered (λ j. guards j here) old.now.schema.indexes it.0 it.1 in
        (it.0, is.0, is.1)

    -- a row is met if and only if it has the key
    met : (r : Row) → conflicts (Some target) old.now.schema.indexes here it r ≡ true → agree plain target r target it ≡ true
    met r hit = elim (or_cases _ _ hit) [
      | inl number ↦ absurd (both_ways _ takes.no_rowid (and_parts _ _ number).0)
      | inr some ↦
          let i = some_has (shares (Some target) here it r) old.now.schema.indexes some in
          let parts = and_parts _ _ i.2 in
          sym (agrees i.0 i.1 (and_parts _ _ parts.0).0 r it) ∙ parts.1
    ]

    meets_all : (r : Row) → agree plain target r target it ≡ true → conflicts (Some target) old.now.schema.indexes here it r ≡ true
    meets_all r same =
        let i = guard_of in
        or_right _ _ (some_from (shares (Some target) here it r) old.now.schema.indexes i.0 i.1
        (and_from _ _ (and_from _ _ i.2 (ap (λ (k : Order × List ℕ). bytes_eq target k.1) (guarded i.0 i.1 i.2) ∙ (bytes_eq-Decides target target).1 refl)) (agrees i.0 i.1 i.2 r it ∙ same)))

    -- ---- the two edits

    -- an edit that takes these rows out, and puts the row in with a number that none has that stays
    suited : (ids : List ℤ) (z : ℤ) → fits_i64 z ≡ true → is_taken (without_all rows ids) (Int z ∷ rest) ≡ false → ((r : Row) → Has (without_all rows ids) r → agree plain target r target (Int z ∷ rest) ≡ false)
        → Suits TooBig old.now.schema (mode_of old).keys old.now.trees (record { table = here; gone = ids; news = (Int z ∷ rest) ∷ [] })
    suited ids z fits fresh free = record {
      apart = takes.apart;
      no_actions = takes.no_actions;
      listed = takes.listed;
      ordered = takes.numbered.0;
      rules = takes.rules;
      storable = λ row new big. elim new [ inl same ↦ takes.storable z (subst (IsOversized old.now.schema here) same big) | inr none ↦ absurd none ];
      pass = takes.pass (Int z);
      keyed = refl;
      fits = ap (λ b. b && true) fits;
      fresh = ap (λ b. not b && true) fresh;
      unique = are_unique-put_row old.now.schema old.now.trees here (without_all rows ids) (Int z ∷ rest) refl (λ i known guard r has. agrees i known guard r (Int z ∷ rest) ∙ free r has);
      referred = or_right (is_off (mode_of old).keys) _ (and_or-no_removal _ _ (nat_lt 0 (length ids)) takes.fits);
      parents = λ row new ref named. elim new [ inl same ↦ subst (λ x. has_parent old.now.schema.tables old.now.trees x ref ≡ true) (sym same) (takes.parents (Int z) ref named) | inr none ↦ absurd none ];
      alone = inr takes.alone;
    }

    abbrev putting : Edit
    putting = edit_of old.now.trees here [] Given 0 (it ∷ [])

    put_suits : AreConflicts (Some target) old.now.schema.indexes here rows it [] → Suits TooBig old.now.schema (mode_of old).keys old.now.trees putting
    put_suits none =
        subst (λ x. Suits TooBig old.now.schema (mode_of old).keys old.now.trees (record { table = here; gone = []; news = x ∷ [] })) (sym (cast_row-kept here it refl takes.cast))
        (suited [] (next_rowid rows) takes.room (next_is_free Chosen rows rest takes.numbered.0 takes.numbered.1) (λ r has. false_from_ne_true _ (λ same. none.complete r has (meets_all r same))))

    module _ (r : Row) (has : Has rows r) (hit : conflicts (Some target) old.now.schema.indexes here it r ≡ true) where
      abbrev z : ℤ
      z = id_in (rowid r)

      -- each other row stays
      other : (x : Row) → Has (without_all rows (z ∷ [])) x → Has rows x × (has_rowid z x ≡ false)
      other x there = let it = has_filtered (λ y. not (has_rowid z y)) rows x there in (it.0, not-true _ it.1)

      -- and has another key
      free : (x : Row) → Has (without_all rows (z ∷ [])) x → agree plain target x target (Int z ∷ rest) ≡ false
      free x there = false_from_ne_true _ (λ same.
          let was = other x there in
          let i = guard_of in
          let alike = agree_chain plain target target target x it r (takes.no_first _ _ x ∙ same) (agree_back plain target target r it (met r hit)) in
          let apart : differ (rowid x) (rowid r) ≡ true =
          (λ j. differ (numbered_by x was.0 j) (numbered_by r has j)) ∙ differ-Int _ _ ∙ ap (λ v. not (is_eq (value_cmp v (Int z)))) (sym (numbered_by x was.0)) ∙ ap not was.1 in
          let clash = and_from _ _ i.2 (some_from (λ y. agree i.0.order i.0.columns y i.0.columns r && differ (rowid y) (rowid r)) rows x was.0 (and_from _ _ (agrees i.0 i.1 i.2 x r ∙ alike) apart)) in
          both_ways _ (not-true _ (test_has _ old.now.schema.indexes i.0 (keeps_at Unique old.now.schema old.now.trees here r (takes.rules Unique) takes.listed has) i.1)) clash)

      abbrev changing : Edit
      changing = edit_of old.now.trees here (z ∷ []) Given 1 (shows (col 1 0 ∷ project) (with r) r ∷ [])

      change_suits : Suits TooBig old.now.schema (mode_of old).keys old.now.trees changing
      change_suits =
          let made : cast_row here (shows project (with r) r) ≡ Int z ∷ rest = ap (cast_row here) (takes.changed r has hit ∙ ap (λ v. v ∷ rest) (numbered_by r has)) ∙ cast_row-kept here (Int z ∷ rest) refl takes.cast in
          subst (λ x. Suits TooBig old.now.schema (mode_of old).keys old.now.trees (record { table = here; gone = z ∷ []; news = x ∷ [] })) (sym made)
          (suited (z ∷ []) z (takes.numbers r has) (false_from_ne_true _ (λ taken.
          let y = some_has (λ y. is_eq (value_cmp (rowid y) (Int z))) (without_all rows (z ∷ [])) taken in both_ways _ (other y.0 y.1).1 y.2)) free)

    -- ---- the statement

    module _ (unlimited : old.step_limit ≡ None) where
      abbrev task : Task
      task = record { limit = old.step_limit; keys = (mode_of old).keys; schema = old.now.schema; table = here; params = params }

      abbrev update : Program
      update = record { lets = []; body = setting tree n project }

      abbrev clause : Upsert
      clause = record { target = Some target; update = Some update }

      -- a part that stops, does so at a row that is too big
      abbrev Stops : Option Error → Type 0
      Stops stop = (stop ≡ None) × TooBig

      puts : AreConflicts (Some target) old.now.schema.indexes here rows it [] → (stop : Option Error) → Puts task it old.now.trees (Err stop) → Stops stop
      puts none stop h = elim (EndsAs-stopped stop h) [ inl edited ↦ goes TooBig old.now.schema (mode_of old).keys old.now.trees putting (put_suits none) stop edited | inr done ↦ absurd (let h = done.2 in cc) ]

      -- what the UPDATE shows of the row that is met makes an edit that suits
      updating : (there : Row) (more : List Row) → AreConflicts (Some target) old.now.schema.indexes here rows it (there ∷ more) → (out : List Row) → Answers old.now update (params ++ rowid there ∷ shown here it) out
          → Suits TooBig old.now.schema (mode_of old).keys old.now.trees (edit_of old.now.trees here (ids_of out) Given 1 out)
      updating there more some out answers =
          let hit = AreConflicts-kept_row name tree columns key primary uniques orders checks references sql params old new at target n project takes.placed takes.numbered there more it some in
          let one = shows-one_row old.now (params ++ rowid there ∷ shown here it) tree (by_rowid n) (col 1 0 ∷ project) [] out answers hit.0 hit.4 in
          subst (λ xs. Suits TooBig old.now.schema (mode_of old).keys old.now.trees (edit_of old.now.trees here (ids_of xs) Given 1 xs))
          (sym (one ∙ ap (λ v. shows (col 1 0 ∷ project) (params ++ v ∷ shown here it) hit.0 ∷ []) hit.3)) (change_suits hit.0 hit.1 hit.2)

      queried : (there : Row) (more : List Row) → AreConflicts (Some target) old.now.schema.indexes here rows it (there ∷ more) → (stop : Option Error) → Queried task.limit old.now update (params ++ rowid there ∷ shown here it) (Err stop) → ⊥
      queried there more some stop h =
          let there_is = some.sound there (inl refl) in
          let number : rowid there ≡ Int (id_in (rowid there_is.0)) = ap rowid there_is.3 ∙ numbered_by there_is.0 there_is.1 in
          Queried-never_stops (params ++ rowid there ∷ shown here it) old.now (setting tree n project) (ap (λ v. accepts_program old.now.schema [] (setting tree n project) (params ++ v ∷ shown here it)) number ∙ takes.typed _) refl old.step_limit unlimited stop h

      updates : (there : Row) (more : List Row) → AreConflicts (Some target) old.now.schema.indexes here rows it (there ∷ more) → (stop : Option Error) → Updates task update (params ++ rowid there ∷ shown here it) old.now.trees (Err stop) → Stops stop
      updates there more some stop h = elim (EndsAs-stopped stop h) [
        | inl asked ↦ absurd (queried there more some stop asked)
        | inr given ↦ elim (EndsAs-stopped stop given.2) [ inl edited ↦ goes TooBig old.now.schema (mode_of old).keys old.now.trees _ (updating there more some given.0 given.1) stop edited | inr done ↦ absurd (let h = done.2 in cc) ]
      ]

      judged : (why : Refusal) → IsJudged here it (Some why) → ⊥
      judged Mismatch h = let clash : true ≡ false = h in cc
      judged (Violates Datatype) h = both_ways _ h (and_parts _ _ (takes.pass (Int (next_rowid rows))).typed).0
      judged (Violates NotNull) h = both_ways _ h (and_parts _ _ (takes.pass (Int (next_rowid rows))).present).0
      judged (Violates Check) h = both_ways _ h (and_parts _ _ (takes.pass (Int (next_rowid rows))).checked).0
      judged _ h = h

      tried : (stop : Option Error) → Tries task Abort (clause ∷ []) it old.now.trees (Err stop) → Stops stop
      tried stop (inl unfit) = absurd (both_ways _ unfit.0 takes.room)
      tried stop (inr (Some why, is, h)) = absurd (judged why is)
      tried stop (inr (None, is, ([], none, ([], others, h)))) = puts none stop h
      tried stop (inr (None, is, ([], none, (x ∷ more, others, h)))) = puts none stop h
      tried stop (inr (None, is, (there ∷ more, some, h))) = updates there more some stop h

      stored : with_rowid Chosen rows (cast_row here (Null ∷ rest)) ≡ it
      stored = λ i. with_rowid Chosen rows (cast-Null i ∷ takes.cast i)

      inserted : (stop : Option Error) → InsertsOr task Abort (clause ∷ []) (Values terms width) old.now.trees (Err stop) → Stops stop
      inserted stop h = elim (EndsAs-stopped stop h) [
        | inl source ↦ absurd (Sourced-never_stops name tree columns key primary uniques orders checks references old.now params terms width takes.kinds old.step_limit unlimited stop source)
        | inr given ↦ elim (EndsAs-stopped stop given.2) [
          | inl counter ↦ absurd (let h = counter in cc)
          | inr counted ↦ elim (EndsAs-stopped stop counted.2) [
            | inl each ↦
                let rows_are = given.1.1 ∙ ap (λ ps. value_rows ps width (length terms / width) terms) (append-nil params) ∙ takes.one in
                elim (EndsAs-stopped stop (subst (λ rs. TriesEach task Abort (clause ∷ []) rs (count_of counted.0) (nothing old.now.trees) (Err stop)) rows_are each)) [
                  | inl one ↦ tried stop (subst (λ x. Tries task Abort (clause ∷ []) x old.now.trees (Err stop)) stored one)
                  | inr done ↦ absurd (let h = done.2 in cc)
                ]
            | inr done ↦ elim (EndsAs-stopped stop done.2) [ inl counts ↦ absurd (let h = counts in cc) | inr last ↦ absurd (let h = last.2 in cc) ]
          ]
        ]
      ]

      left_sound : (w : Written) → InsertsOr task Abort (clause ∷ []) (Values terms width) old.now.trees (Ok w) → Refers All old.now.schema w.trees
      left_sound w h =
          let done = upserts name tree columns key primary uniques orders checks references old.step_limit (mode_of old).keys old.now.schema params target update terms width (Null ∷ rest) old.now.trees w takes.one h in
          subst (λ trees. Refers All old.now.schema trees) (sym done.1) (either done.0 (subst (λ x. Either name tree columns key primary uniques orders checks references old.step_limit (mode_of old).keys old.now.schema params target update x old.now.trees done.0) stored done.2))
        where
          either : (d : Written) → Either name tree columns key primary uniques orders checks references old.step_limit (mode_of old).keys old.now.schema params target update it old.now.trees d → Refers All old.now.schema d.trees
          either d (inl (none, put)) =
              let edited = Ok-not_stopped put in
              subst (λ trees. Refers All old.now.schema trees) (sym (ap (λ (w : Written). w.trees) (Ok-injective edited.2))) (refers TooBig old.now.schema (mode_of old).keys old.now.trees putting (put_suits none) edited.0 edited.1)
          either d (inr (there, more, some, update)) =
              let given = Ok-not_stopped update in
              let edited = Ok-not_stopped given.2 in
              subst (λ trees. Refers All old.now.schema trees) (sym (ap (λ (w : Written). w.trees) (Ok-injective edited.2))) (refers TooBig old.now.schema (mode_of old).keys old.now.trees _ (updating there more some given.0 given.1) edited.0 edited.1)

      does : (stop : Option Error) → Does old.step_limit (mode_of old) params old.now sql None command (Err stop) → Stops stop
      does stop h = elim (OnTable-stops name tree columns key primary uniques orders checks references params old at takes.found command stop h) [ inl written ↦ inserted stop written | inr stray ↦ absurd (stray.2 (left_sound stray.0 stray.1)) ]

      -- it fails only as the store fails, or since the row is too big
      pub upsert_fails : (e : Error) → Executes sql params old new (Err e) → Fails old new TooBig e
      upsert_fails e h = elim (Executes-change_fails sql params old new command (λ e. ⊥) takes.means takes.whole refl refl (λ e is same. IsMisplaced-never_anywhere old command refl e is) (λ e writes h. let it = does (Some e) h in let clash : Some e ≡ None = it.0 in cc) e h) [ inl fails ↦ Fails-weaken old new e (λ big. (does None big).1) fails | inr never ↦ absurd never ]
