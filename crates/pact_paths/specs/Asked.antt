-- What a path asks of the step at an index, and the order of what can be asked (this project's own choice).
use Rattle.std.specs.Prelude.{ℕ, List, [], ◌∷◌, Option, Some, None, option_and_then, slice_get}
use Rattle.std.specs.declared.cmp.Ordering.{Ordering}
use Rattle.std.specs.Ordering.{nat_cmp}
use Rattle.std.specs.Cmp.Lexicographic.{slice_cmp}
use Rattle.pact_paths.specs.Paths.{Token, named, indexed, any, Step, key, item}

-- the one step that counts 2 at a token, while any other counts 0; none at Any
abbrev pub only_step : Token → Option Step
only_step (named n) = Some (key n)
only_step (indexed i) = Some (item i)
only_step any = None

-- the only step at an index that doesn't rule the path out; none at Any and after the path's end
abbrev pub asked : List Token → ℕ → Option Step
asked tokens index = option_and_then only_step (slice_get tokens index)

-- lists of numbers whose order is that of what is asked: nothing, then keys by their bytes, then indexes
abbrev pub sort_key : Option Step → List ℕ
sort_key None = []
sort_key (Some (key k)) = 0 ∷ k
sort_key (Some (item i)) = 1 ∷ i ∷ []

abbrev pub asked_cmp : Option Step → Option Step → Ordering
asked_cmp a b = slice_cmp nat_cmp (sort_key a) (sort_key b)
