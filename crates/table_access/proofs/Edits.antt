-- An edit that suits its table is refused by no rule, and leaves only rows that refer to rows that are there.
use Rattle.std.specs.{List.{AllByRecursion, list_any, list_all}, Ordering.{is_eq, is_ne}, Cmp.{nat_eq_equiv, tied_itself}}
use Rattle.std.proofs.Common.{◌≡◌, ◌≢◌, ◌⊎◌, inl, inr, ℕ, ℤ, zero, suc, List, [], ◌∷◌, length, Bool, true, false, not, ◌&&◌, ◌||◌, cond, Ordering, Less, Some, None, Option, option_map, Ok, Err, refl, sym, ap, subst, ◌∙◌, length-append, ◌==◌, arith}
use Rattle.std.proofs.lemmas.Bool.{both_ways, false_from_ne_true, and_parts, or_cases, or_left, or_right, cases_eq, eqb-true}
use Rattle.sqlite.specs.{declared.types.Value.TheVariants.{Int}, Order.{Row, value_cmp}, Tree.{Trees, IsTable, IsAscending, rowid, put_row, with_tree}}
use Rattle.sqlite.specs.{View.{is_int}, Schema.{Schema}, Table.{Table}, declared.error.Error.{Error}, Rows.{Edited}, Effect.{edit_error}}
use Rattle.sqlite.proofs.Callers.{one_step}
use Rattle.sqlite_sql.specs.Ops.{fits_i64, binary, is_true, from_truth}
use Rattle.sqlite_schema.specs.{declared.schema.Keys.{Keys}, declared.schema.Index.{Index}, declared.schema.Reference.{Reference}}
use Rattle.sqlite_schema.specs.{declared.schema.Among.TheVariants.{All}, declared.schema.Constraint.{Constraint}}
use Rattle.sqlite_schema.specs.declared.schema.Constraint.TheVariants.{Datatype, NotNull, Check, PrimaryKey, Unique, ForeignKey}
use Rattle.sqlite_schema.specs.Rules.{Refers, Keeps, ParentKey, agree, differ, clashes, guards, has_parent, has_null, is_held, parent_key}
use Rattle.sqlite_rules.specs.{Lists.{Has}, Keys.{are_unique}, Steps.{PassAlone}}
use Rattle.sqlite_rules.specs.Edit.{Edit, IsRefused, IsOversized, id_in, left_by, edited, taken_by, have_rowids, are_fresh, is_referred, without_all}
use Rattle.sqlite_rules.specs.{Action.{Leads}, declared.error.Refusal.{Refusal}, declared.error.Refusal.TheVariants.{Violates, Mismatch, NoRowid, BadReference}}
use Rattle.sqlite_rules.proofs.ListLemmas.{some_has, some_from, test_has, test_from}
use Rattle.sqlite_rules.proofs.{RuleLemmas.{Turns, unique_kept, parent_is_table, keeps_at, refers_from, origin}, EditLemmas.{turns}}
use Rattle.sqlite_rules.proofs.TableLemmas.{put_has, int_is}
use Rattle.sqlite_value.proofs.OrderLemmas.{value_cmp_total}
use Rattle.table_access.{specs.Statements.{HasNoActions}, proofs.{Removal.{works-HasNoActions}, SoundLemmas.{all_of}}}

-- no reference leads to the table at this tree
abbrev pub leads_elsewhere : ℕ → Option ParentKey → Bool
leads_elsewhere tree None = true
leads_elsewhere tree (Some key) = not (key.0 == tree)

leads_elsewhere-sound : (tree : ℕ) (key : ParentKey) → leads_elsewhere tree (Some key) ≡ true → key.0 ≢ tree
leads_elsewhere-sound tree key h same =
    let is : (key.0 == tree) ≡ true = ap (λ n. n == tree) same ∙ nat_eq_equiv.refl tree in
    let clash : false ≡ true = ap not (sym is) ∙ h in cc

-- no reference of the schema does
abbrev pub IsAlone : Schema → ℕ → Type 0
IsAlone schema tree = list_all (λ t. list_all (λ ref. leads_elsewhere tree (parent_key schema.tables ref)) t.references) schema.tables ≡ true

module _ (TooBig : Type 0) (schema : Schema) (keys : Keys) (db : Trees) (edit : Edit) where
  -- The database obeys its schema, in which no foreign key acts. The new rows fit the columns, the CHECKs and the keys of
  -- the table, and what they refer to is there. None is taken out to which a row may refer. TooBig is what is so if a
  -- new row can't be stored.
  pub record Suits : Type 0 where
    pub apart : IsAscending (λ a b. a.tree ≡ b.tree → ⊥) schema.tables
    pub no_actions : HasNoActions schema.tables
    pub listed : Has schema.tables edit.table
    pub ordered : IsTable (db edit.table.tree)
    pub rules : (rule : Constraint) → Keeps rule schema db
    pub storable : (row : Row) → Has edit.news row → IsOversized schema edit.table row → TooBig
    pub pass : PassAlone edit.table edit.news
    pub keyed : have_rowids edit.news ≡ true
    pub fits : list_all (λ r. fits_i64 (id_in (rowid r))) edit.news ≡ true
    pub fresh : are_fresh (left_by db edit) edit.news ≡ true
    pub unique : are_unique schema.indexes (with_tree db edit.table.tree (edited db edit)) edit.table edit.news ≡ true
    pub referred : is_referred schema keys edit ≡ true
    pub parents : (row : Row) → Has edit.news row → (ref : Reference) → Has edit.table.references ref → has_parent schema.tables db row ref ≡ true
    pub alone : (edit.gone ≡ []) ⊎ IsAlone schema edit.table.tree

  module _ (suits : Suits) where
    turned : (next : Trees) → next edit.table.tree ≡ edited db edit → AllByRecursion (λ t. t.tree ≢ edit.table.tree → next t.tree ≡ db t.tree) schema.tables
        → Turns schema db next edit.table (left_by db edit) (taken_by db edit) edit.news
    turned next rows others = turns schema db next edit suits.apart suits.listed suits.ordered suits.fresh rows others

    -- ---- no rule refuses it

    unique : Keeps Unique schema (with_tree db edit.table.tree (edited db edit))
    unique =
        let rows = edited db edit in
        let turn = turned (with_tree db edit.table.tree rows) (ap (λ b. cond b rows (db edit.table.tree)) (nat_eq_equiv.refl edit.table.tree)) (all_of _ schema.tables (λ t known other.
        ap (λ b. cond b rows (db t.tree)) (false_from_ne_true (t.tree == edit.table.tree) (λ same. other (eqb-true t.tree edit.table.tree same))))) in
        unique_kept schema db (with_tree db edit.table.tree rows) edit.table _ _ edit.news turn suits.unique (suits.rules Unique)

    no_rule : (why : Refusal) → IsRefused schema keys db edit why → ⊥
    no_rule (Violates Datatype) h = both_ways _ h suits.pass.typed
    no_rule (Violates NotNull) h = both_ways _ h suits.pass.present
    no_rule (Violates Check) h = both_ways _ h suits.pass.checked
    no_rule (Violates PrimaryKey) h = both_ways _ h suits.fresh
    no_rule (Violates Unique) h = h unique
    no_rule Mismatch h = both_ways _ h suits.keyed
    no_rule NoRowid h = both_ways _ h suits.fits
    no_rule BadReference h = both_ways _ h suits.referred
    no_rule _ h = h

    -- nothing that is left to do stops
    settled : (n : ℕ) (next : Trees) (stop : Option Refusal) → Leads schema keys n next [] (Err stop) → ⊥
    settled zero next stop h = let e = h.1 in cc
    settled (suc n) next stop h = omega (arith, ap length h.2, length-append h.0 (h.1 ∷ []))

    -- it stops only at a row that is too big
    pub goes : (stop : Option Error) → Edited schema keys db edit (Err stop) → (stop ≡ None) × TooBig
    goes stop (why, inl refused, is) = absurd (no_rule refused.0 refused.1)
    goes stop (why, inr (inl big), is) = let same : why ≡ None = (let h = big.3 in cc) in (is ∙ ap (option_map edit_error) same, suits.storable big.0 big.1 big.2)
    goes stop (why, inr (inr went), is) =
        absurd (settled went.2.0 went.0 why (subst (λ stack. Leads schema keys went.2.0 went.0 stack (Err why)) (works-HasNoActions schema keys 0 edit.table.tree (taken_by db edit) edit.news suits.no_actions) went.2.1))

    -- ---- what it leaves refers to rows that are there

    module _ (next : Trees) (turn : Turns schema db next edit.table (left_by db edit) (taken_by db edit) edit.news) where
      -- a row to which one may refer is there still
      stays : (u : Table) → Has schema.tables u → (IsAlone schema edit.table.tree → u.tree ≢ edit.table.tree) → (r : Row) → Has (db u.tree) r → Has (next u.tree) r
      stays u known far r has = elim (cases_eq u.tree edit.table.tree) [
        | inl same ↦ elim suits.alone [
          | inl none ↦ subst (λ k. Has (next k) r) (sym same) (turn.stays r (subst (λ ids. Has (without_all (db edit.table.tree) ids) r) (sym none) (subst (λ k. Has (db k) r) same has)))
          | inr alone ↦ absurd (far alone same)
        ]
        | inr other ↦ subst (λ rows. Has rows r) (sym (turn.others u known other)) has
      ]

      still_held : (ref : Reference) (row : Row) (o : Option ParentKey) → parent_key schema.tables ref ≡ o → (IsAlone schema edit.table.tree → leads_elsewhere edit.table.tree o ≡ true) → is_held db ref.columns row o ≡ true → is_held next ref.columns row o ≡ true
      still_held ref row None is far h = absurd cc
      still_held ref row (Some key) is far h =
          let u = parent_is_table schema.tables ref key is in
          let found = some_has (λ parent. agree key.2 key.1 parent ref.columns row) (db key.0) h in
          let kept = stays u.0 u.1 (λ alone same. leads_elsewhere-sound edit.table.tree key (far alone) (sym u.2 ∙ same)) found.0 (subst (λ k. Has (db k) found.0) (sym u.2) found.1) in
          some_from (λ parent. agree key.2 key.1 parent ref.columns row) (next key.0) found.0 (subst (λ k. Has (next k) found.0) u.2 kept) found.2

      still_parent : (t : Table) → Has schema.tables t → (ref : Reference) → Has t.references ref → (row : Row) → has_parent schema.tables db row ref ≡ true → has_parent schema.tables next row ref ≡ true
      still_parent t known ref named row h = elim (or_cases (has_null ref.columns row) _ h) [
        | inl null ↦ or_left _ _ null
        | inr held ↦ or_right _ _ (still_held ref row (parent_key schema.tables ref) refl (λ alone.
            test_has (λ (r : Reference). leads_elsewhere edit.table.tree (parent_key schema.tables r)) t.references ref (test_has (λ (u : Table). list_all (λ r. leads_elsewhere edit.table.tree (parent_key schema.tables r)) u.references) schema.tables t alone known) named) held)
      ]

      all_refer : Refers All schema next
      all_refer = refers_from All schema next (λ t ref row known named is there. still_parent t known ref named row (elim (origin schema db next edit.table _ _ edit.news turn t row known there) [
        | inl (same, new) ↦ suits.parents row new ref (subst (λ (x : Table). Has x.references ref) same named)
        | inr was ↦ test_has (has_parent schema.tables db row) t.references ref (keeps_at ForeignKey schema db t row (suits.rules ForeignKey) known was) named
      ]))

    pub refers : (next : Trees) → Edited schema keys db edit (Ok next) → Refers All schema next
    refers next done =
        let step = one_step schema keys db next edit (works-HasNoActions schema keys 0 edit.table.tree (taken_by db edit) edit.news suits.no_actions) done in
        all_refer next (turned next step.rows step.tables)

-- ---- an edit with one new row

is_true-is_ne : (o : Ordering) → is_true (from_truth (Some (is_ne o))) ≡ not (is_eq o)
is_true-is_ne Less = refl
is_true-is_ne _ = refl

-- whole numbers differ in SQL unless they tie
pub differ-Int : (a b : ℤ) → differ (Int a) (Int b) ≡ not (is_eq (value_cmp (Int a) (Int b)))
unfolding binary
differ-Int a b = is_true-is_ne (value_cmp (Int a) (Int b))

-- its keys are unique if no row that stays has one of them
pub are_unique-put_row : (schema : Schema) (db : Trees) (t : Table) (left : List Row) (made : Row) → is_int (rowid made) ≡ true → ((i : Index) → Has schema.indexes i → guards i t ≡ true → (r : Row) → Has left r → agree i.order i.columns r i.columns made ≡ false)
    → are_unique schema.indexes (with_tree db t.tree (put_row made left)) t (made ∷ []) ≡ true
are_unique-put_row schema db t left made keyed free = test_from _ schema.indexes (λ i known. one i known (guards i t) refl)
  where
    here : with_tree db t.tree (put_row made left) t.tree ≡ put_row made left
    here = ap (λ b. cond b (put_row made left) (db t.tree)) (nat_eq_equiv.refl t.tree)

    itself : differ (rowid made) (rowid made) ≡ false
    itself = ap (λ v. differ v v) (int_is (rowid made) keyed) ∙ differ-Int _ _ ∙ ap (λ o. not (is_eq o)) (tied_itself value_cmp_total (Int (id_in (rowid made))))

    no_clash : (i : Index) → Has schema.indexes i → guards i t ≡ true → clashes i.order i.columns (put_row made left) made ≡ false
    no_clash i known guard = false_from_ne_true _ (λ clash.
        let hit = some_has (λ r. agree i.order i.columns r i.columns made && differ (rowid r) (rowid made)) (put_row made left) clash in
        let both = and_parts _ _ hit.2 in
        elim (put_has made left hit.0 hit.1) [
          | inl same ↦ both_ways _ (ap (λ x. differ (rowid x) (rowid made)) same ∙ itself) both.1
          | inr was ↦ both_ways _ (free i known guard hit.0 was) both.0
        ])

    one : (i : Index) → Has schema.indexes i → (b : Bool) → guards i t ≡ b → not (b && list_any (clashes i.order i.columns (with_tree db t.tree (put_row made left) t.tree)) (made ∷ [])) ≡ true
    one i known true guard = ap (λ rows. not (clashes i.order i.columns rows made || false)) here ∙ ap (λ b. not (b || false)) (no_clash i known guard)
    one i known false guard = refl
