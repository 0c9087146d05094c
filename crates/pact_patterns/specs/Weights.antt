-- The weight of a pattern: about how many steps a search for it may take at each byte of a text. It is found in the
-- pattern's own text, and is no less than the places of the pattern with its repetitions written out (this project's
-- own choice; `docs/LIMITS.md` has what was measured).
use Rattle.std.specs.Prelude.{ℕ, ◌+◌, ◌*◌, ◌-◌, min, max, length, Bool, false, true, ◌&&◌, ◌||◌, ◌==◌, nat_le, List, if◌then◌else◌}
use Rattle.std.specs.List.{fold}
use Rattle.pact_patterns.specs.declared.weights.Weighing.{Weighing}

-- nothing is counted beyond this
abbrev pub most : ℕ
most = 1000000000

-- what numbers in braces repeat may be more than one place if `)`, `}`, `*`, `+`, `?` or a blank is before them
abbrev pub may_be_long : ℕ → Bool
may_be_long b = nat_le b 32 || (b == 41 || (b == 125 || (b == 42 || (b == 43 || b == 63))))

-- `\p` and `\P` begin the name of a class, which may be large
abbrev pub names_class : ℕ → ℕ → Bool
names_class before b = before == 92 && (b == 112 || b == 80)

-- how often the numbers in braces repeat, at most
abbrev pub times : Weighing → ℕ
times w = min most (w.sum + w.number + 1)

-- numbers in braces are added up, and at the closing brace they multiply or are added
abbrev pub closed : Weighing → Weighing
closed w = record w {
  total = min most (if w.is_long then w.total * times w else w.total + times w);
  sum = 0;
  number = 0;
  is_inside = false;
  is_long = false;
}

-- each byte counts 1
abbrev pub counted : Weighing → ℕ → Weighing
counted w b =
    if b == 123 then record w {
      total = min most (w.total + 1);
      sum = if w.is_inside then min most (w.sum + w.number) else 0;
      number = 0;
      is_inside = true;
      is_long = w.is_long || may_be_long w.before;
    }
    else (if nat_le 48 b && nat_le b 57 then record w { total = min most (w.total + 1); number = min most (w.number * 10 + (b - 48)) }
    else (if b == 125 && w.is_inside then closed w
    else record w { total = min most (w.total + 1); sum = min most (w.sum + w.number); number = 0 }))

abbrev pub weighed : Weighing → ℕ → Weighing
weighed w b = record (counted w b) { is_wide = w.is_wide || names_class w.before b; before = b }

-- a search counts 8 by itself
abbrev pub at_first : Weighing
at_first = record { total = 8; sum = 0; number = 0; before = 0; is_inside = false; is_long = false; is_wide = false }

abbrev pub found : Weighing → ℕ
found w = if w.is_wide then min most (w.total * 4) else w.total

-- the weight of the pattern of a text
abbrev pub weight : List ℕ → ℕ
weight source = found (fold weighed at_first source)

-- how many steps a search in a text counts; an empty text counts as one byte
abbrev pub steps_of : List ℕ → List ℕ → ℕ
steps_of source text = weight source * max (length text) 1

-- the searches of a check take so many steps together: some two seconds
abbrev pub most_steps : ℕ
most_steps = 300000000
