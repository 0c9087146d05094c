-- What the router first-table in the table of all routes is the resource that the path names.
use Rattle.std.specs.{Option.{option_map}, Str.{bytes_eq}}
use Rattle.std.proofs.Common.{◌≡◌, ℕ, List, [], ◌∷◌, Option, Some, None, is_some, Bool, true, false, cond, refl, sym, ap, subst, ◌∙◌, ◌&&◌, ◌||◌, not, ◌⊎◌, inl, inr, Result, Ok, Err}
use Rattle.std.proofs.{lemmas.Bool.{and_parts, and_left, and_right, not-true}, lemmas.Slice.Eq.{bytes_eq-Decides}}
use Rattle.matchit.specs.{Order.{placed}, Route.{Scan, parse_route}, Router.{RouteOf, route_from}, Rows.{comes_before}, Seek.{first}}
use Rattle.matchit.{specs.declared.error.InsertError.{InsertError}, proofs.OnLiterals.{matchit_on_literals}}
use Rattle.http_routes.specs.Routes.{segments, is_parameter, fits, all_fit, is_on, resource_in, resource_of, routes}
use Rattle.http_routes.specs.{Table.{Rows, with_route, with_routes, table}, declared.Resource.{Resource}}
use Rattle.http_routes.proofs.WalkLemmas.{is_plain, takes, HasRow, ArePlain, seek-sound, seek-complete}
use Rattle.http_routes.proofs.SplitLemmas.{tokens, are_pieces, segments-parts, takes-tokens}

-- the pieces of no path fit both

abbrev pub differ : List ℕ → List ℕ → Bool
differ p q = not (is_parameter p) && (not (is_parameter q) && not (bytes_eq q p))

abbrev pub clash : List (List ℕ) → List (List ℕ) → Bool
clash [] [] = false
clash [] (q ∷ qs) = true
clash (p ∷ ps) [] = true
clash (p ∷ ps) (q ∷ qs) = differ p q || clash ps qs

fits-other : (p q s : List ℕ) → differ p q ≡ true → fits p s ≡ true → fits q s ≡ false
unfolding fits
fits-other p q s d e =
    let lp = not-true (is_parameter p) (and_parts (not (is_parameter p)) (not (is_parameter q) && not (bytes_eq q p)) d).0 in
    let more = (and_parts (not (is_parameter p)) (not (is_parameter q) && not (bytes_eq q p)) d).1 in
    let lq = not-true (is_parameter q) (and_parts (not (is_parameter q)) (not (bytes_eq q p)) more).0 in
    let qp = not-true (bytes_eq q p) (and_parts (not (is_parameter q)) (not (bytes_eq q p)) more).1 in
    let here : bytes_eq p s ≡ true = rw lp at e in
    let same : p ≡ s = (bytes_eq-Decides p s).0 here in
    rw lq (subst (λ w. bytes_eq q w ≡ false) same qp)

clash-fit : (ps qs segs : List (List ℕ)) → clash ps qs ≡ true → all_fit ps segs ≡ true → all_fit qs segs ≡ false
clash-fit [] [] segs c e = cc
clash-fit [] (q ∷ qs) [] c e = refl
clash-fit [] (q ∷ qs) (s ∷ segs) c e = cc
clash-fit (p ∷ ps) [] [] c e = cc
clash-fit (p ∷ ps) [] (s ∷ segs) c e = refl
clash-fit (p ∷ ps) (q ∷ qs) [] c e = cc
clash-fit (p ∷ ps) (q ∷ qs) (s ∷ segs) c e = by (differ p q) refl c (λ more. clash-fit ps qs segs more (and_parts (fits p s) (all_fit ps segs) e).1)
  where
    by : (v : Bool) → differ p q ≡ v → (v || clash ps qs) ≡ true → (clash ps qs ≡ true → all_fit qs segs ≡ false) → (fits q s && all_fit qs segs) ≡ false
    by true d c ih = and_left (fits q s) (all_fit qs segs) (fits-other p q s d (and_parts (fits p s) (all_fit ps segs) e).0)
    by false d c ih = and_right (fits q s) (all_fit qs segs) (ih c)

-- routes

abbrev pub HasRoute : List (List ℕ × Resource) → List ℕ → Resource → Type 0
HasRoute [] text resource = ⊥
HasRoute (route ∷ more) text resource = ((route.0 ≡ text) × (route.1 ≡ resource)) ⊎ HasRoute more text resource

-- no path is on this route and on one of the others
abbrev pub clashes : List ℕ → List (List ℕ × Resource) → Bool
clashes text [] = true
clashes text (route ∷ more) = clash (segments route.0) (segments text) && clashes text more

abbrev pub are_apart : List (List ℕ × Resource) → Bool
are_apart [] = true
are_apart (route ∷ more) = clashes route.0 more && are_apart more

routes-apart : are_apart routes ≡ true
routes-apart = refl

off-route : (text : List ℕ) (rs : List (List ℕ × Resource)) (other : List ℕ) (resource : Resource) (path : List ℕ) → clashes text rs ≡ true → HasRoute rs other resource → is_on other path ≡ true → is_on text path ≡ false
unfolding is_on
off-route text [] other resource path c h e = elim h [ ]
off-route text (route ∷ more) other resource path c h e = elim h [
  | inl p ↦
      clash-fit (segments route.0) (segments text) (segments path) (and_parts _ (clashes text more) c).0
      (ap (λ t. all_fit (segments t) (segments path)) p.0 ∙ e)
  | inr q ↦ off-route text more other resource path (and_parts _ (clashes text more) c).1 q e
]

-- the resource of a path that is on a route
resource_in-route : (rs : List (List ℕ × Resource)) (text : List ℕ) (resource : Resource) (path : List ℕ) → are_apart rs ≡ true → HasRoute rs text resource → is_on text path ≡ true → resource_in rs path ≡ Some resource
resource_in-route [] text resource path c h e = elim h [ ]
resource_in-route (route ∷ more) text resource path c h e = elim h [
  | inl p ↦ ap (λ v. cond v (Some route.1) (resource_in more path)) (ap (λ t. is_on t path) p.0 ∙ e) ∙ ap Some p.1
  | inr q ↦
      ap (λ v. cond v (Some route.1) (resource_in more path)) (off-route route.0 more text resource path (and_parts _ (are_apart more) c).0 q e)
      ∙ resource_in-route more text resource path (and_parts _ (are_apart more) c).1 q e
]

-- a path that has a resource is on its route
route-of : (rs : List (List ℕ × Resource)) (path : List ℕ) (resource : Resource) → resource_in rs path ≡ Some resource → (text : List ℕ) × HasRoute rs text resource × (is_on text path ≡ true)
route-of [] path resource e = cc
route-of (route ∷ more) path resource e = by (is_on route.0 path) refl e (route-of more path resource)
  where
    some-same : (a b : Resource) → Some a ≡ Some b → a ≡ b
    some-same a b e = cc

    by : (v : Bool) → is_on route.0 path ≡ v → cond v (Some route.1) (resource_in more path) ≡ Some resource
        → (resource_in more path ≡ Some resource → (text : List ℕ) × HasRoute more text resource × (is_on text path ≡ true))
        → (text : List ℕ) × HasRoute (route ∷ more) text resource × (is_on text path ≡ true)
    by true d e ih = (route.0, inl (refl, some-same route.1 resource e), d)
    by false d e ih = (let r = ih e in (r.0, inr r.1, r.2))

-- what the router reads of a route's text

abbrev pub IsRead : Result Scan InsertError → List ℕ → Type 0
IsRead (Ok scan) text = scan.pattern ≡ tokens (segments text)
IsRead (Err e) text = ⊥

abbrev pub IsGood : List ℕ → Type 0
IsGood text = IsRead (parse_route text) text × (are_pieces (segments text) ≡ true) × (is_plain (tokens (segments text)) ≡ true)

abbrev pub AreGood : List (List ℕ × Resource) → Type 0
AreGood [] = Unit {0}
AreGood (route ∷ more) = IsGood route.0 × AreGood more

-- the same, as a test
abbrev pub is_read : Result Scan InsertError → List ℕ → Bool
is_read (Ok scan) text = bytes_eq scan.pattern (tokens (segments text))
is_read (Err e) text = false

abbrev pub are_good : List (List ℕ × Resource) → Bool
are_good [] = true
are_good (route ∷ more) = (is_read (parse_route route.0) route.0 && (are_pieces (segments route.0) && is_plain (tokens (segments route.0)))) && are_good more

read-from : (x : Result Scan InsertError) (text : List ℕ) → is_read x text ≡ true → IsRead x text
read-from (Ok scan) text e = (bytes_eq-Decides scan.pattern (tokens (segments text))).0 e
read-from (Err e) text wrong = cc

good-from : (rs : List (List ℕ × Resource)) → are_good rs ≡ true → AreGood rs
good-from [] e = tt
good-from (route ∷ more) e =
    let both = and_parts _ (are_good more) e in
    let here = and_parts (is_read (parse_route route.0) route.0) _ both.0 in
    let parts = and_parts (are_pieces (segments route.0)) _ here.1 in
    ((read-from (parse_route route.0) route.0 here.0, parts.0, parts.1), good-from more both.1)

routes-good : AreGood routes
unfolding matchit_on_literals
routes-good = good-from routes refl

-- a route's tokens take the paths that are on it
takes-route : (text path : List ℕ) → are_pieces (segments text) ≡ true → takes (tokens (segments text)) path ≡ is_on text path
unfolding is_on
takes-route text path good =
    let parts = segments-parts text in
    let r = takes-tokens _ _ path (ap are_pieces (sym parts) ∙ good) in
    ap (λ pieces. takes (tokens pieces) path) parts ∙ r ∙ ap (λ pieces. all_fit pieces (segments path)) (sym parts)

-- the rows of the table

-- each row's tokens take only paths of its resource
abbrev pub Right : Rows → Type 0
Right [] = Unit {0}
Right ((t, r) ∷ rest) = (is_plain t ≡ true) × ((path : List ℕ) → takes t path ≡ true → resource_of path ≡ Some r.value) × Right rest

Right-placed : (t : List ℕ) (r : RouteOf Resource) (rows : Rows) → is_plain t ≡ true → ((path : List ℕ) → takes t path ≡ true → resource_of path ≡ Some r.value) → Right rows → Right (placed (t, r) rows)
Right-placed t r [] plain returned h = (plain, returned, tt)
Right-placed t r ((u, k) ∷ rest) plain returned h = by (comes_before t u) (Right-placed t r rest plain returned h.2)
  where
    by : (v : Bool) → Right (placed (t, r) rest) → Right (cond v ((t, r) ∷ (u, k) ∷ rest) ((u, k) ∷ placed (t, r) rest))
    by true ih = (plain, returned, h)
    by false ih = (h.0, h.1, ih)

placed-new : (t : List ℕ) (r : RouteOf Resource) (rows : Rows) → HasRow (placed (t, r) rows) t r
placed-new t r [] = inl (refl, refl)
placed-new t r ((u, k) ∷ rest) = by (comes_before t u) (placed-new t r rest)
  where
    by : (v : Bool) → HasRow (placed (t, r) rest) t r → HasRow (cond v ((t, r) ∷ (u, k) ∷ rest) ((u, k) ∷ placed (t, r) rest)) t r
    by true ih = inl (refl, refl)
    by false ih = inr ih

placed-old : (t : List ℕ) (r : RouteOf Resource) (rows : Rows) (w : List ℕ) (j : RouteOf Resource) → HasRow rows w j → HasRow (placed (t, r) rows) w j
placed-old t r [] w j h = elim h [ ]
placed-old t r ((u, k) ∷ rest) w j h = by (comes_before t u) h (placed-old t r rest w j)
  where
    by : (v : Bool) → HasRow ((u, k) ∷ rest) w j → (HasRow rest w j → HasRow (placed (t, r) rest) w j) → HasRow (cond v ((t, r) ∷ (u, k) ∷ rest) ((u, k) ∷ placed (t, r) rest)) w j
    by true h ih = inr h
    by false h ih = elim h [
      | inl p ↦ inl p
      | inr q ↦ inr (ih q)
    ]

Right-plain : (rows : Rows) → Right rows → ArePlain rows
Right-plain [] h = tt
Right-plain ((t, r) ∷ rest) h = (h.0, Right-plain rest h.2)

Right-row : (rows : Rows) (t : List ℕ) (r : RouteOf Resource) (path : List ℕ) → Right rows → HasRow rows t r → takes t path ≡ true → resource_of path ≡ Some r.value
Right-row [] t r path h row e = elim row [ ]
Right-row ((u, k) ∷ rest) t r path h row e = elim row [
  | inl p ↦ h.1 path (ap (λ w. takes w path) p.0 ∙ e) ∙ ap (λ x. Some x.value) p.1
  | inr q ↦ Right-row rest t r path h.2 q e
]

with-right : (rs : List (List ℕ × Resource)) (rows : Rows) → AreGood rs
    → ((text : List ℕ) (resource : Resource) (path : List ℕ) → HasRoute rs text resource → is_on text path ≡ true → resource_of path ≡ Some resource) → Right rows → Right (with_routes rs rows)
with-right [] rows good returned h = h
with-right (route ∷ more) rows good returned h =
    with-right more (with_route (parse_route route.0) route.1 rows) good.1 (λ text resource path has e. returned text resource path (inr has) e) (step (parse_route route.0) good.0.0)
  where
    step : (x : Result Scan InsertError) → IsRead x route.0 → Right (with_route x route.1 rows)
    step (Ok scan) read =
        Right-placed scan.pattern (route_from scan route.1) rows (ap is_plain read ∙ good.0.2)
        (λ path e. returned route.0 route.1 path (inl (refl, refl)) (sym (takes-route route.0 path good.0.1) ∙ ap (λ w. takes w path) (sym read) ∙ e)) h
    step (Err e) read = elim read [ ]

with-kept : (rs : List (List ℕ × Resource)) (rows : Rows) (t : List ℕ) (r : RouteOf Resource) → HasRow rows t r → HasRow (with_routes rs rows) t r
with-kept [] rows t r h = h
with-kept (route ∷ more) rows t r h = with-kept more (with_route (parse_route route.0) route.1 rows) t r (step (parse_route route.0))
  where
    step : (x : Result Scan InsertError) → HasRow (with_route x route.1 rows) t r
    step (Ok scan) = placed-old scan.pattern (route_from scan route.1) rows t r h
    step (Err e) = h

with-has : (rs : List (List ℕ × Resource)) (rows : Rows) (text : List ℕ) (resource : Resource) → AreGood rs → HasRoute rs text resource → (r : RouteOf Resource) × HasRow (with_routes rs rows) (tokens (segments text)) r
with-has [] rows text resource good h = elim h [ ]
with-has (route ∷ more) rows text resource good h = elim h [
  | inl p ↦ (let r = step (parse_route route.0) good.0.0 in (r.0, with-kept more (with_route (parse_route route.0) route.1 rows) (tokens (segments text)) r.0 (subst (λ w. HasRow (with_route (parse_route route.0) route.1 rows) (tokens (segments w)) r.0) p.0 r.1)))
  | inr q ↦ with-has more (with_route (parse_route route.0) route.1 rows) text resource good.1 q
]
  where
    step : (x : Result Scan InsertError) → IsRead x route.0 → (r : RouteOf Resource) × HasRow (with_route x route.1 rows) (tokens (segments route.0)) r
    step (Ok scan) read = (route_from scan route.1, subst (λ w. HasRow (placed (scan.pattern, route_from scan route.1) rows) w (route_from scan route.1)) read (placed-new scan.pattern (route_from scan route.1) rows))
    step (Err e) read = elim read [ ]

table-right : Right table
unfolding table resource_of
table-right = with-right routes [] routes-good (λ text resource path has e. resource_in-route routes text resource path routes-apart has e) tt

good-pieces : (rs : List (List ℕ × Resource)) (text : List ℕ) (resource : Resource) → AreGood rs → HasRoute rs text resource → are_pieces (segments text) ≡ true
good-pieces [] text resource good h = elim h [ ]
good-pieces (route ∷ more) text resource good h = elim h [
  | inl p ↦ ap (λ t. are_pieces (segments t)) (sym p.0) ∙ good.0.1
  | inr q ↦ good-pieces more text resource good.1 q
]

-- a path that has a resource is found
finds-some : (path : List ℕ) (resource : Resource) → resource_of path ≡ Some resource → is_some (first table path) ≡ true
unfolding table resource_of
finds-some path resource e =
    let on = route-of routes path resource e in
    let row = with-has routes [] on.0 resource routes-good on.1 in
    let takes-it = takes-route on.0 path (good-pieces routes on.0 resource routes-good on.1) ∙ on.2 in
    seek-complete 0 (with_routes routes []) path (tokens (segments on.0)) row.0 (Right-plain (with_routes routes []) table-right) row.1 takes-it

-- What the router first-table is the resource that the path names.
pub first-table : (path : List ℕ) → option_map (λ r. r.value) (first table path) ≡ resource_of path
first-table path = by (first table path) refl
  where
    none : (o : Option Resource) → resource_of path ≡ o → first table path ≡ None → None ≡ o
    none None p e = refl
    none (Some resource) p e = (let bad : false ≡ true = sym (ap is_some e) ∙ finds-some path resource p in cc)

    by : (found : Option (RouteOf Resource)) → first table path ≡ found → option_map (λ r. r.value) found ≡ resource_of path
    by (Some r) e =
        let row = seek-sound 0 table path r (Right-plain table table-right) e in
        sym (Right-row table row.0 r path table-right row.1 row.2)
    by None e = none (resource_of path) refl e
