-- What is answered about a database, by the format that is found in it.
use Rattle.std.specs.Prelude.{if◌then◌else◌}
use Rattle.std.proofs.Common.{◌≡◌, ◌≢◌, inl, inr, ℕ, ℤ, Bool, pos, List, [], ◌∷◌, map, length, refl, sym, ap, subst, ◌∙◌, Some, None, Option, Ok, Err, true, false, ◌==◌}
use Rattle.std.proofs.{lemmas.Bool.{eqb-true, eqb-false}, lemmas.List.{length-map}}
use Rattle.sqlite.specs.{Table.{Table}, Effect.{Database}, declared.types.Value.TheVariants.{Int}, Order.{Row, column}, Edit.{id_in}}
use Rattle.sqlite_schema.specs.Names.{same_name}
use Rattle.table_access.specs.Columns.{whole_at}
use Rattle.broker_core.specs.Text.{Text}
use Rattle.broker_tables.specs.{Schema.{in_meta, meta, no_schema}, Making.{IsMarked}, Holds.{IsMeta, format}}
use Rattle.registry_tables.specs.Format.{IsOfFormat, Finds, table_of}
use Rattle.broker_database.specs.{declared.opening.OpenFault.TheVariants.{Format}, Opening.{FindsToday, IsMarkedToday, OpensOrRefuses, judgement}}

-- the judgement by the format that is found is right
pub OpensOrRefuses-judgement : (db : Database) (found : Option ℕ) → FindsToday db found → OpensOrRefuses db (judgement format found)
OpensOrRefuses-judgement db None it = it
OpensOrRefuses-judgement db (Some n) it = go (n == format) refl
  where
    go : (b : Bool) → (n == format) ≡ b → OpensOrRefuses db (if b then Ok tt else Err (Format n))
    go true e =
        let same : n ≡ format = eqb-true n format e in
        (subst (λ k. IsOfFormat k db) same it.0, it.1 same)
    go false e = (it.0, eqb-false n format e)

pub Finds-blank_none : (db : Database) (found : Option ℕ) → db.schema ≡ no_schema → Finds db found → found ≡ None
Finds-blank_none db None blank it = refl
Finds-blank_none db (Some n) blank it = let none : table_of meta.name db.schema ≡ None = ap (table_of meta.name) blank in absurd (let found = it.1 in cc)

-- the format in the one row of meta
pub IsMeta-format : (n : ℕ) (office : Text) (r : Row) → IsMeta n office (r ∷ []) → whole_at in_meta.format r ≡ pos n
IsMeta-format n office r one = ap (λ (xs : List (ℤ × ℤ × Text)). first_of xs) one
  where
    first_of : List (ℤ × ℤ × Text) → ℤ
    first_of [] = pos 0
    first_of (x ∷ xs) = x.1

IsMeta-one_format : (n k : ℕ) (office : Text) (rows : List Row) → IsMeta n office rows → map (λ row. column row in_meta.format) rows ≡ Int (pos k) ∷ [] → k ≡ n
IsMeta-one_format n k office [] one is = absurd cc
IsMeta-one_format n k office (r ∷ []) one is =
    let shown : whole_at in_meta.format r ≡ pos k = (let same : column r in_meta.format ≡ Int (pos k) = cc in ap id_in same) in
    (let both : pos k ≡ pos n = sym shown ∙ IsMeta-format n office r one in cc)
IsMeta-one_format n k office (r ∷ q ∷ rows) one is = absurd cc

-- the table of a broker's database that is found by meta's name
table_of-meta : (n : ℕ) (office : Text) (db : Database) → IsMarked n office db → table_of meta.name db.schema ≡ Some meta
unfolding same_name
table_of-meta n office db marked = ap (table_of meta.name) marked.schema

pub table_of-meta_unique : (n : ℕ) (office : Text) (db : Database) → IsMarked n office db → (t : Table) → table_of meta.name db.schema ≡ Some t → t ≡ meta
table_of-meta_unique n office db marked t at = let both : Some t ≡ Some meta = sym at ∙ table_of-meta n office db marked in cc

pub Finds-marked : (n : ℕ) (office : Text) (db : Database) (found : Option ℕ) → IsMarked n office db → Finds db found → found ≡ Some n
Finds-marked n office db None marked it =
    absurd (it meta (table_of-meta n office db marked) (((refl, refl), ((refl, refl), ((refl, refl), tt))), refl) (sym (length-map (db.trees in_meta.tree) _) ∙ ap length marked.row))
Finds-marked n office db (Some k) marked it =
    ap Some (IsMeta-one_format n k office (db.trees in_meta.tree) marked.row (subst (λ (t : Table). map (λ row. column row in_meta.format) (db.trees t.tree) ≡ Int (pos k) ∷ []) (table_of-meta_unique n office db marked it.0 it.1) it.3))

-- ---- of a database that is to be opened

pub FindsToday-blank : (db : Database) (found : Option ℕ) → db.schema ≡ no_schema → FindsToday db found → found ≡ None
FindsToday-blank db None blank it = refl
FindsToday-blank db (Some n) blank it = Finds-blank_none db (Some n) blank it.0

pub FindsToday-other : (n : ℕ) (office : Text) (db : Database) (found : Option ℕ) → n ≢ format → IsMarked n office db → FindsToday db found → found ≡ Some n
FindsToday-other n office db None other marked (inl foreign) = Finds-marked n office db None marked foreign
FindsToday-other n office db None other marked (inr (reports, declares)) =
    let is : Some format ≡ Some n = Finds-marked n office db (Some format) marked reports in
    absurd (other (let same : n ≡ format = cc in same))
FindsToday-other n office db (Some k) other marked it = Finds-marked n office db (Some k) marked it.0

pub FindsToday-today : (office : Text) (db : Database) (found : Option ℕ) → IsMarkedToday office db → FindsToday db found → found ≡ Some format
FindsToday-today office db None today (inl foreign) = Finds-marked format office db None today.0 foreign
FindsToday-today office db None today (inr (reports, other)) = absurd (other today.1)
FindsToday-today office db (Some n) today it = Finds-marked format office db (Some n) today.0 it.0
