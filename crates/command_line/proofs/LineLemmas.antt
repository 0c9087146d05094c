-- the values of a line, from the matches of its command, and the command that words name
use Rattle.std.specs.{Prelude.{MatchOption, find, option_map, bytes_eq}, Option.{option_map_or}}
use Rattle.std.proofs.Common.{◌≡◌, ◌∙◌, ◌&&◌, not, List, [], ◌∷◌, Bool, true, false, Option, Some, None, cond, refl, ap, sym, subst, unwrap_or, inl, inr}
use Rattle.std.proofs.lemmas.Slice.Eq.{bytes_eq-Decides}
use Rattle.clap.specs.Words.{App, HasKind, HasMatchesOf, Kinds, Row, Text, fault_of, found_of, is_simple, is_simple_and_free, kind_of, matches_of, rows_of}
use Rattle.clap.specs.{Kinds.{or_else}, declared.error.Error.{Error}, declared.error.kind.ErrorKind.{ErrorKind}}
use Rattle.clap.specs.{declared.error.kind.ErrorKind.TheVariants.{OutOfMemory}, declared.parser.matches.ArgMatches.{ArgMatches}}
use Rattle.command_line.specs.Lines.{BeginsWithName, HasOptions, HasValues, command_at, command_named, command_of, commands, has_none, is_command, is_line, is_taken, mistakes, named_in, unnamed_mistakes, whole_program}
use Rattle.command_line.specs.{declared.line.Line.{Line}, declared.names.CommandName.{CommandName}}
use Rattle.command_line.specs.declared.names.CommandName.TheVariants as names

pub HasOptions-of_matches : (a c : App) (words : List Text) (m : ArgMatches) (line : Line) → c ≡ a → is_simple a ≡ true → HasMatchesOf c words m → fault_of c words ≡ []
    → (command_of line ≡ a) × HasValues (rows_of (found_of m)) line → (command_of line ≡ a) × HasOptions words line
unfolding is_taken
HasOptions-of_matches a c words m line is simple matches is_taken-of_line read =
    let same : c ≡ command_of line = is ∙ sym read.0 in
    let rows : rows_of (found_of m) ≡ matches_of (command_of line) words =
    (matches (ap is_simple is ∙ simple)).0 ∙ ap (λ (k : App). matches_of k words) same in
    (read.0, (sym (ap (λ (k : App). has_none (fault_of k words)) same) ∙ ap has_none is_taken-of_line, subst (λ (rs : List Row). HasValues rs line) rows read.1))

-- if nothing is wrong, only memory can fail
pub HasKind-only_memory : (a c : App) (words : List Text) (e : Error) → c ≡ a → HasKind (fault_of c words) e → is_taken a words ≡ true → kind_of e ≡ OutOfMemory
unfolding is_taken
HasKind-only_memory a c words e is kinds is_taken-of_line = go (fault_of c words) kinds (ap (λ (k : App). has_none (fault_of k words)) is ∙ is_taken-of_line)
  where
    go : (ks : Kinds) → HasKind ks e → has_none ks ≡ true → kind_of e ≡ OutOfMemory
    go [] (inl memory) none = memory
    go [] (inr wrong) none = absurd wrong
    go (k ∷ ks) kinds none = absurd cc

-- the commands have only options with values
pub is_simple-command_named : (name : CommandName) → is_simple (command_named name) ≡ true
is_simple-command_named names.Replay = refl
is_simple-command_named _ = refl

-- and nothing in them excludes or requires another
pub is_simple_and_free-command_named : (name : CommandName) → is_simple_and_free (command_named name) ≡ true
is_simple_and_free-command_named names.Replay = refl
is_simple_and_free-command_named _ = refl

-- what is find-passes passes the test
find-passes : {X : Type 0} (p : X → Bool) (xs : List X) (x : X) → Some x ≡ find p xs → p x ≡ true
find-passes p [] x e = cc
find-passes p (y ∷ ys) x e = first (p y) refl (find-passes p ys x) e
  where
    first : (b : Bool) → p y ≡ b → (Some x ≡ find p ys → p x ≡ true) → Some x ≡ cond b (Some y) (find p ys) → p x ≡ true
    first true is later e = ap p (ap (λ o. unwrap_or o x) e) ∙ is
    first false is later e = later e

pub BeginsWithName-command_at : (word : Text) (rest : List Text) (name : Option CommandName) → option_map command_named name ≡ command_at word
    → MatchOption name (named_in (word ∷ rest) ≡ None) (BeginsWithName (word ∷ rest))
BeginsWithName-command_at word rest None e = sym e
BeginsWithName-command_at word rest (Some name) e =
    let same : word ≡ (command_named name).top.name = (bytes_eq-Decides word (command_named name).top.name).0 (find-passes (λ command. bytes_eq word command.top.name) commands (command_named name) e) in
    (rest, ap (λ w. w ∷ rest) same, sym e)

-- what the words are, by what they name
is_command-named_in : (words : List Text) (o : Option App) → named_in words ≡ o → is_command words ≡ option_map_or (λ command. is_taken command words) o false
is_command-named_in words o e = ap (λ (named : Option App). option_map_or (λ command. is_taken command words) named false) e

pub is_taken-of_line : (words : List Text) (program : Text) (rest : List Text) (name : CommandName) → words ≡ program ∷ rest → BeginsWithName rest name
    → is_line words ≡ true → is_taken (command_named name) rest ≡ true
unfolding is_line
is_taken-of_line words program rest name is BeginsWithName-command_at line =
    sym (is_command-named_in rest (Some (command_named name)) BeginsWithName-command_at.2) ∙ subst (λ (ws : List Text). is_line ws ≡ true) is line

pub is_line-unnamed : (words : List Text) (program : Text) (rest : List Text) → words ≡ program ∷ rest → named_in rest ≡ None → is_line words ≡ true → ⊥
unfolding is_line
is_line-unnamed words program rest is none line =
    let bad : true ≡ false = sym (subst (λ (ws : List Text). is_line ws ≡ true) is line) ∙ is_command-named_in rest None none in
    cc

pub is_line-empty : (words : List Text) → words ≡ [] → is_line words ≡ true → ⊥
unfolding is_line
is_line-empty words is line =
    let bad : false ≡ true = subst (λ (ws : List Text). is_line ws ≡ true) is line in
    cc

-- the words of a line are one
pub is_line-of_options : (words : List Text) (program : Text) (rest : List Text) (name : CommandName) (line : Line) → words ≡ program ∷ rest → BeginsWithName rest name
    → (command_of line ≡ command_named name) × HasOptions rest line → is_line words ≡ true
unfolding is_line
is_line-of_options words program rest name line is BeginsWithName-command_at read =
    subst (λ (ws : List Text). is_line ws ≡ true) (sym is)
    (is_command-named_in rest (Some (command_named name)) BeginsWithName-command_at.2 ∙ ap (λ (k : App). is_taken k rest) (sym read.0) ∙ read.1.0)

-- what clap finds in the words, by what they name
mistakes-named_in : (words : List Text) (program : Text) (rest : List Text) (o : Option App) → words ≡ program ∷ rest → named_in rest ≡ o
    → mistakes words ≡ option_map_or (λ command. fault_of command rest) o (unnamed_mistakes (program ∷ rest))
unfolding mistakes
mistakes-named_in words program rest o is e =
    ap mistakes is ∙ ap (λ (named : Option App). option_map_or (λ command. fault_of command rest) named (unnamed_mistakes (program ∷ rest))) e

pub HasKind-named : (words : List Text) (program : Text) (rest : List Text) (name : CommandName) (e : Error) → words ≡ program ∷ rest → BeginsWithName rest name
    → HasKind (fault_of (command_named name) rest) e → HasKind (mistakes words) e
HasKind-named words program rest name e is BeginsWithName-command_at kind =
    subst (λ (ks : Kinds). HasKind ks e) (sym (mistakes-named_in words program rest (Some (command_named name)) is BeginsWithName-command_at.2)) kind

pub mistakes-unnamed : (words : List Text) (program : Text) (rest : List Text) → words ≡ program ∷ rest → named_in rest ≡ None → mistakes words ≡ unnamed_mistakes words
mistakes-unnamed words program rest is none = mistakes-named_in words program rest None is none ∙ ap unnamed_mistakes (sym is)

pub mistakes-empty : (words : List Text) → words ≡ [] → mistakes words ≡ unnamed_mistakes words
unfolding mistakes
mistakes-empty words is = ap mistakes is ∙ ap unnamed_mistakes (sym is)

-- an error of the whole program is one of words that name no command
pub HasKind-or_else : (kinds next : Kinds) (e : Error) → HasKind kinds e → HasKind (or_else kinds next) e
HasKind-or_else [] next e (inl memory) = inl memory
HasKind-or_else [] next e (inr wrong) = absurd wrong
HasKind-or_else (kind ∷ kinds) next e has = has

-- and so is one of the first kind if clap find-passes none
pub HasKind-first : (kinds : Kinds) (kind : ErrorKind) (e : Error) → kinds ≡ [] → kind_of e ≡ kind → HasKind (or_else kinds (kind ∷ [])) e
HasKind-first kinds kind e none is = subst (λ (ks : Kinds). HasKind (or_else ks (kind ∷ [])) e) (sym none) (inr (inl is))

-- a command without groups that takes no other one has no global option
pub is_simple-no_globals : (a b c d : Bool) → (a && (not b && (not c && d))) ≡ true → c ≡ false
is_simple-no_globals true false false d e = refl
is_simple-no_globals true false true d e = absurd (let bad : false ≡ true = e in cc)
is_simple-no_globals true true c d e = absurd (let bad : false ≡ true = e in cc)
is_simple-no_globals false b c d e = absurd (let bad : false ≡ true = e in cc)

pub is_plain-command_named : (name : CommandName) → (command_named name).top.is_plain ≡ true
is_plain-command_named names.Replay = refl
is_plain-command_named _ = refl

pub is_simple_and_free-whole_program : is_simple_and_free whole_program ≡ true
is_simple_and_free-whole_program = refl
