-- The list of objects determines the schema.
use Rattle.std.{specs.List.{AllZip}, proofs.Common.{inl, inr, ◌≡◌, ◌∙◌, ℕ, ◌+◌, pos, List, [], ◌∷◌, filter, false, refl, sym, ap, arith}}
use Rattle.sqlite.specs.{declared.types.Value.{Value}, declared.types.Value.TheVariants.{Null, Int, Real, Text, Blob}, Order.{Row, column}, Table.{Table}}
use Rattle.sqlite.specs.{Schema.{Schema}, Tree.{rowid, IsAscending}}
use Rattle.sqlite_schema.specs.{declared.schema.Index.{Index}, declared.schema.View.{View as Stored}, Names.{same_name}}
use Rattle.sqlite_rules.{specs.Lists.{Has}, proofs.ListLemmas.{all_has}}
use Rattle.sqlite_catalog.{specs.Listing.{Lists, IsTableRow, IsIndexRow, IsViewRow, IsDefined, automatic, is_index_row}, proofs.StepLemmas.{same_itself}}
use Rattle.sqlite_catalog.proofs.AlterLemmas.{numbers_differ}

AllZip-unique : {A B : Type 0} (R : A → B → Type 0) (xs : List A) (ys zs : List B) → ((x : A) (y z : B) → R x y → R x z → y ≡ z) → AllZip R xs ys → AllZip R xs zs → ys ≡ zs
AllZip-unique R [] [] [] same h k = refl
AllZip-unique R [] [] (z ∷ zs) same h k = absurd k
AllZip-unique R [] (y ∷ ys) zs same h k = absurd h
AllZip-unique R (x ∷ xs) [] zs same h k = absurd h
AllZip-unique R (x ∷ xs) (y ∷ ys) [] same h k = absurd k
AllZip-unique R (x ∷ xs) (y ∷ ys) (z ∷ zs) same h k =
    let first = same x y z h.0 k.0 in let more = AllZip-unique R xs ys zs same h.1 k.1 in cc

AllZip-empty : {A B : Type 0} (R : A → B → Type 0) (xs : List A) (ys : List B) → AllZip R xs [] → AllZip R xs ys → ys ≡ []
AllZip-empty R [] [] h k = refl
AllZip-empty R [] (y ∷ ys) h k = absurd k
AllZip-empty R (x ∷ xs) ys h k = absurd h

rowid-same_tree : (row : Row) (s t : ℕ) → rowid row ≡ Int (pos (s + 1)) → rowid row ≡ Int (pos (t + 1)) → s ≡ t
rowid-same_tree row s t h k = let e : s + 1 ≡ t + 1 = cc in omega arith

IsTableRow-unique : (row : Row) (s t : Table) → IsTableRow row s → IsTableRow row t → s ≡ t
IsTableRow-unique row s t h k =
    let sql : h.sql ≡ k.sql = let a = h.sql_is in let b = k.sql_is in cc in
    let tree = rowid-same_tree row s.tree t.tree h.described.id k.described.id in
    let first = h.defined.1 in
    let second = k.defined.1 in
    let made : h.defined.0 ≡ k.defined.0 = cc in
    h.defined.2 ∙ ap (λ (n : ℕ). record h.defined.0 { tree = n }) tree ∙ ap (λ (u : Table). record u { tree = t.tree }) made ∙ sym k.defined.2

IsAscending-same_name : (tables : List Table) (s t : Table) → IsAscending (λ (a b : Table). same_name a.name b.name ≡ false) tables → Has tables s → Has tables t → s.name ≡ t.name → s ≡ t
IsAscending-same_name [] s t apart h k same = absurd h
IsAscending-same_name (u ∷ tables) s t apart (inl h) (inl k) same = h ∙ sym k
IsAscending-same_name (u ∷ tables) s t apart (inl h) (inr k) same =
    absurd (let e : u.name ≡ t.name = ap (λ (v : Table). v.name) (sym h) ∙ same in let other = all_has _ tables t apart.0 k in let itself = same_itself t.name in let bad = rw e at other in cc)
IsAscending-same_name (u ∷ tables) s t apart (inr h) (inl k) same =
    absurd (let e : u.name ≡ s.name = ap (λ (v : Table). v.name) (sym k) ∙ sym same in let other = all_has _ tables s apart.0 h in let itself = same_itself s.name in let bad = rw e at other in cc)
IsAscending-same_name (u ∷ tables) s t apart (inr h) (inr k) same = IsAscending-same_name tables s t apart.1 h k same

IsDefined-unique : (table : Table) (i j : Index) (v : Value) → i.tree ≡ j.tree → i.name ≡ j.name → IsDefined table i v → IsDefined table j v → i ≡ j
IsDefined-unique table i j Null tree name h k =
    let called : (automatic table h.0 [] 0).name ≡ (automatic table k.0 [] 0).name = sym (ap (λ (x : Index). x.name) h.3) ∙ name ∙ ap (λ (x : Index). x.name) k.3 in
    let at : h.0 ≡ k.0 = numbers_differ table h.0 k.0 h.4 k.4 (rw called (same_itself _)) in
    let one = h.2 in
    let two = k.2 in
    let key : h.1 ≡ k.1 = cc in
    h.3 ∙ ap (λ (n : ℕ). automatic table n h.1 i.tree) at ∙ ap (λ (xs : List ℕ). automatic table k.0 xs i.tree) key ∙ ap (automatic table k.0 k.1) tree ∙ sym k.3
IsDefined-unique table i j (Int n) tree name h k = absurd h
IsDefined-unique table i j (Real x) tree name h k = absurd h
IsDefined-unique table i j (Text sql) tree name h k =
    let one = h.1 in
    let two = k.1 in
    let made : h.0 ≡ k.0 = cc in
    h.2 ∙ ap (λ (n : ℕ). record h.0 { tree = n; table = table.tree }) tree ∙ ap (λ (x : Index). record x { tree = j.tree; table = table.tree }) made ∙ sym k.2
IsDefined-unique table i j (Blob b) tree name h k = absurd h

IsIndexRow-unique : (tables : List Table) → IsAscending (λ (a b : Table). same_name a.name b.name ≡ false) tables → (row : Row) (i j : Index) → IsIndexRow tables row i → IsIndexRow tables row j → i ≡ j
IsIndexRow-unique tables apart row i j h k =
    let tree = rowid-same_tree row i.tree j.tree h.described.id k.described.id in
    let first = h.described in
    let second = k.described in
    let name : i.name ≡ j.name = let a = first.name_is in let b = second.name_is in cc in
    let owner : h.table.name ≡ k.table.name = let a = first.owner_is in let b = second.owner_is in cc in
    let table = IsAscending-same_name tables h.table k.table apart h.listed k.listed owner in
    IsDefined-unique h.table i j (column row 4) tree name h.defined (rw table k.defined)

-- Where one schema without views is listed, it is the only one.
pub Lists-unique_schema : (objects : List Row) (a b : Schema) → Lists objects a → Lists objects b → a.views ≡ [] → a ≡ b
Lists-unique_schema objects a b p q none =
    let tables : a.tables ≡ b.tables = AllZip-unique IsTableRow _ a.tables b.tables IsTableRow-unique p.listed.tables q.listed.tables in
    let rows : AllZip (IsIndexRow a.tables) (filter is_index_row objects) b.indexes = rw tables q.listed.indexes in
    let indexes : a.indexes ≡ b.indexes = AllZip-unique (IsIndexRow a.tables) _ a.indexes b.indexes (IsIndexRow-unique a.tables p.listed.named) p.listed.indexes rows in
    let views : b.views ≡ [] = AllZip-empty IsViewRow _ b.views (rw none at p.listed.views) q.listed.views in
    ap (λ (x : List Table). record a { tables = x }) tables ∙ ap (λ (x : List Index). record a { tables = b.tables; indexes = x }) indexes
    ∙ ap (λ (x : List Stored). record b { views = x }) (none ∙ sym views)
