-- The matching rules of a response (Pact Specification, version 3).
use Rattle.std.specs.Prelude.{◌≡◌, ℕ, Bool, true, false, not, ◌||◌, ◌==◌, List, [], ◌∷◌, length, Option}
use Rattle.std.specs.Ordering.{nat_cmp, match_ordering}
use Rattle.std.specs.declared.cmp.Ordering.TheVariants.{Less}
use Rattle.std.specs.Cmp.Lexicographic.{slice_cmp}
use Rattle.std.specs.List.{AllByRecursion, list_any}
use Rattle.std.specs.Str.{str_to_ascii_lowercase}
use Rattle.pact_paths.specs.Paths.{Token}
use Rattle.pact_paths.specs.Spelling.{path_text}

pub data Matcher : Type 0 where
  equality : Matcher
  -- with a least and a greatest length
  same_type : Option ℕ → Option ℕ → Matcher
  regex : List ℕ → Matcher
  include : List ℕ → Matcher
  integer : Matcher
  is_null : Matcher

-- its matchers hold all, or any of them does
pub record Entry : Type 0 where
  pub any : Bool
  pub matchers : List Matcher

pub record BodyRule : Type 0 where
  pub path : List Token
  pub entry : Entry

pub record HeaderRule : Type 0 where
  pub name : List ℕ
  pub entry : Entry

pub record Rules : Type 0 where
  pub body : List BodyRule
  pub headers : List HeaderRule

abbrev pub no_rules : Rules
no_rules = record { body = []; headers = [] }

-- the one text is before the other, by bytes
abbrev pub IsBefore : List ℕ → List ℕ → Type 0
IsBefore a b = slice_cmp nat_cmp a b ≡ Less

-- the text of each is before the texts of those that follow
abbrev pub IsOrderedBy : {A : Type 0} → (A → List ℕ) → List A → Type 0
IsOrderedBy text [] = Unit {0}
IsOrderedBy text (x ∷ xs) = AllByRecursion (λ y. IsBefore (text x) (text y)) xs × IsOrderedBy text xs

-- put in at its place in the order of the texts, instead of one of the same text
abbrev pub put : {A : Type 0} → (A → List ℕ) → A → List A → List A
put text x [] = x ∷ []
put text x (y ∷ ys) = match_ordering (slice_cmp nat_cmp (text x) (text y)) (x ∷ y ∷ ys) (x ∷ ys) (y ∷ put text x ys)

abbrev pub rule_text : BodyRule → List ℕ
rule_text r = path_text r.path

-- header names are compared without ASCII case
abbrev pub name_key : HeaderRule → List ℕ
name_key h = str_to_ascii_lowercase h.name

-- in order of canonical text
abbrev pub IsInOrder : List BodyRule → Type 0
IsInOrder rules = IsOrderedBy rule_text rules

-- an entry without matchers has no effect
abbrev pub has_effect : Entry → Bool
has_effect e = not (length e.matchers == 0)

abbrev pub is_regex : Matcher → Bool
is_regex (regex p) = true
is_regex m = false

abbrev pub IsRegex : Matcher → Type 0
IsRegex m = is_regex m ≡ true

abbrev pub entry_has_regex : Entry → Bool
entry_has_regex e = list_any is_regex e.matchers

-- whether a body or header entry has a Regex matcher
abbrev pub has_regex : Rules → Bool
has_regex rules =
    list_any (λ r. entry_has_regex r.entry) rules.body || list_any (λ h. entry_has_regex h.entry) rules.headers
