-- The tables and the indexes that the code has are those of a broker's schema.
use Rattle.std.{specs.{Borrow.{Bor}, List.{AllZip}}, proofs.Common.{◌≡◌, ◌↔◌, ℕ, Bool, List, [], ◌∷◌, map, refl, sym, subst}}
use Rattle.sqlite.specs.{Table.{Table}, Schema.{Schema}}
use Rattle.sqlite_schema.specs.{declared.schema.Column.{Column}, declared.schema.Index.{Index}, declared.schema.Kind.{Kind}}
use Rattle.sqlite_schema.specs.declared.schema.Reference.{Reference}
use Rattle.sqlite_value.specs.{Keys.{plain}, declared.keys.Order.{Order}}
use Rattle.broker_database.specs.{declared.catalog.IndexForm.{IndexForm}, declared.catalog.TableForm.{TableForm}}
use Rattle.broker_database.specs.Catalog.{IsColumnOf, IsKeyOf, IsPlain, IsReferenceOf, IsTableOf, IsIndexOf, HasForms, made_column, made_reference, made_table, made_index, schema_by}

AllZip-is_map : {A B : Type 0} (R : A → B → Type 0) (f : A → B) → ((a : A) (b : B) → R a b → b ≡ f a) → (xs : List A) (ys : List B) → AllZip R xs ys → ys ≡ map f xs
AllZip-is_map R f one [] [] is = refl
AllZip-is_map R f one [] (y ∷ ys) is = absurd is
AllZip-is_map R f one (x ∷ xs) [] is = absurd is
AllZip-is_map R f one (x ∷ xs) (y ∷ ys) is = let first = one x y is.0 in let more = AllZip-is_map R f one xs ys is.1 in cc

AllZip-map : {A B : Type 0} (R : A → B → Type 0) (f : A → B) → ((a : A) → R a (f a)) → (xs : List A) → AllZip R xs (map f xs)
AllZip-map R f one [] = tt
AllZip-map R f one (x ∷ xs) = (one x, AllZip-map R f one xs)

IsColumnOf-made_column : (form : List ℕ × Kind × Bool) (c : Column) → IsColumnOf form c → c ≡ made_column form
IsColumnOf-made_column form c is = let eta : c ≡ record { name = c.name; kind = c.kind; is_strict = c.is_strict; not_null = c.not_null; default = c.default; collation = c.collation } = refl in let a = is.0 in let b = is.1 in let d = is.2 in let e = is.3 in let f = is.4 in let g = is.5 in cc

IsReferenceOf-made_reference : (form : ℕ × List ℕ × List ℕ) (r : Reference) → IsReferenceOf form r → r ≡ made_reference form
IsReferenceOf-made_reference form r is = let eta : r ≡ record { columns = r.columns; parent = r.parent; parent_columns = r.parent_columns; on_delete = r.on_delete; on_update = r.on_update; is_deferred = r.is_deferred } = refl in let a = is.0 in let b = is.1 in let d = is.2 in let e = is.3 in let f = is.4 in let g = is.5 in cc

IsPlain-plain : (key : Bor (List ℕ)) (order : Order) → IsPlain key order → order ≡ plain
IsPlain-plain key order is = let eta : order ≡ record { digits = order.digits } = refl in let a : order.digits ≡ 0 = is in cc

IsTableOf-unique : (form : TableForm) (t : Table) → IsTableOf form t → t ≡ made_table form
IsTableOf-unique form t is =
    let eta : t ≡ record { name = t.name; tree = t.tree; columns = t.columns; key = t.key; primary = t.primary; uniques = t.uniques; orders = t.orders; checks = t.checks; references = t.references; computed = t.computed; stamps = record { places = t.stamps.places; terms = t.stamps.terms; formats = t.stamps.formats }; is_counted = t.is_counted } = refl in
    let name = is.0 in
    let tree = is.1 in
    let columns = AllZip-is_map IsColumnOf made_column IsColumnOf-made_column _ t.columns is.2 in
    let key = is.3.0 in
    let primary = is.3.1 in
    let uniques = AllZip-is_map IsKeyOf (λ key. key.now) (λ key places same. same) form.uniques.now t.uniques is.3.2 in
    let orders = AllZip-is_map IsPlain (λ _. plain) IsPlain-plain form.uniques.now t.orders is.3.3 in
    let checks = is.4.0 in
    let references = AllZip-is_map IsReferenceOf made_reference IsReferenceOf-made_reference _ t.references is.4.1 in
    let computed = is.4.2 in
    let places = is.4.3.0 in
    let terms = is.4.3.1 in
    let formats = is.4.3.2 in
    let counted = is.4.4 in
    cc

IsTableOf-made_table : (form : TableForm) → IsTableOf form (made_table form)
IsTableOf-made_table form = (
  refl,
  refl,
  AllZip-map IsColumnOf made_column (λ c. (refl, refl, refl, refl, refl, refl)) _,
  (refl, refl, AllZip-map IsKeyOf (λ key. key.now) (λ key. refl) form.uniques.now, AllZip-map IsPlain (λ _. plain) (λ key. refl) form.uniques.now),
  (refl, AllZip-map IsReferenceOf made_reference (λ r. (refl, refl, refl, refl, refl, refl)) _, refl, (refl, refl, refl), refl),
)

IsIndexOf-made_index : (form : IndexForm) (i : Index) → IsIndexOf form i → i ≡ made_index form
IsIndexOf-made_index form i is = let eta : i ≡ record { name = i.name; tree = i.tree; table = i.table; columns = i.columns; order = record { digits = i.order.digits }; is_unique = i.is_unique } = refl in let a = is.0 in let b = is.1 in let c = is.2 in let d = is.3 in let e = is.4 in let f = is.5 in cc

-- the schema of these forms is the one that has them
pub HasForms-schema_by : (tables : List TableForm) (indexes : List IndexForm) (schema : Schema) → HasForms tables indexes schema ↔ (schema ≡ schema_by tables indexes)
HasForms-schema_by tables indexes schema = (to, from)
  where
    to : HasForms tables indexes schema → schema ≡ schema_by tables indexes
    to is =
        let a = AllZip-is_map IsTableOf made_table IsTableOf-unique tables schema.tables is.0 in
        let b = AllZip-is_map IsIndexOf made_index IsIndexOf-made_index indexes schema.indexes is.1 in
        let c = is.2 in
        let eta : schema ≡ record { tables = schema.tables; indexes = schema.indexes; views = schema.views } = refl in
        cc

    from : schema ≡ schema_by tables indexes → HasForms tables indexes schema
    from is =
        subst (HasForms tables indexes) (sym is)
        (AllZip-map IsTableOf made_table IsTableOf-made_table tables, AllZip-map IsIndexOf made_index (λ form. (refl, refl, refl, refl, refl, refl)) indexes, refl)
