-- the program's command lines: a word that names a command, and the command's options, each with a value and
-- each required (this project's own choice)
use Rattle.std.specs.Prelude.{◌≡◌, ◌≢◌, ◌⊎◌, ◌≤◌, ⊤, ℕ, List, [], ◌∷◌, Bool, true, false, Option, Some, None}
use Rattle.std.specs.Prelude.{MatchOption, codes, bytes_eq, find, fold, map, pos}
use Rattle.std.specs.Borrow.{Bor}
use Rattle.std.specs.Option.{option_map_or}
use Rattle.std.specs.Str.Parse.{IsNumeral, digits_value, without_leading_plus}
use Rattle.clap.specs.Kinds.{or_else}
use Rattle.clap.specs.Words.{App, Kinds, Row, Rule, Text, fault_of, first_of, matches_of, new_app}
use Rattle.clap.specs.Words.{IsAmong, new_rule, one_of, with_rule, with_subcommand}
use Rattle.clap.specs.declared.error.kind.ErrorKind.{ErrorKind}
use Rattle.clap.specs.declared.error.kind.ErrorKind.TheVariants.{DisplayHelp, DisplayVersion, InvalidSubcommand}
use Rattle.clap.specs.declared.builder.value_parser.ValueParser.TheVariants.{Signed}
use Rattle.command_line.specs.declared.descriptions.CommandOption.{CommandOption}
use Rattle.command_line.specs.declared.descriptions.CommandOption.TheVariants as options
use Rattle.command_line.specs.declared.descriptions.CommandText.{CommandText}
use Rattle.command_line.specs.declared.line.Line.{Line}
use Rattle.command_line.specs.declared.path.FilePath.{FilePath}
use Rattle.command_line.specs.declared.names.CommandName.{CommandName}
use Rattle.command_line.specs.declared.names.CommandName.TheVariants as names
use Rattle.command_line.specs.declared.line.Line.TheVariants.{Audit, CanIDeploy, Check, Init, Migrate}
use Rattle.command_line.specs.declared.line.Line.TheVariants.{Normalise, Replay, Serve}

-- the texts of the words
abbrev pub texts_of : List (Bor Text) → List Text
texts_of words = map (λ word. word.now) words

-- `--name VALUE`
abbrev pub option : Text → Rule
option name = record (new_rule name) { long = Some name; required = true }

-- `--name N`, a whole number from 1 to 1,000,000
abbrev pub number_option : Text → Rule
number_option name = record (option name) { parser = Some (Signed (pos 1) (pos 1000000)) }

-- `replay --office-token T`
abbrev pub replay : App
replay = with_rule (new_app (codes "replay")) (option (codes "office-token"))

-- `init --file F --office-token T`
abbrev pub init : App
init = with_rule (with_rule (new_app (codes "init")) (option (codes "file"))) (option (codes "office-token"))

-- `migrate --file F`
abbrev pub migrate : App
migrate = with_rule (new_app (codes "migrate")) (option (codes "file"))

-- `audit --file F`
abbrev pub audit : App
audit = with_rule (new_app (codes "audit")) (option (codes "file"))

-- `serve --file F --listen A --connections N`
abbrev pub serve : App
serve =
    with_rule (with_rule (with_rule (new_app (codes "serve"))
    (option (codes "file"))) (option (codes "listen"))) (number_option (codes "connections"))

-- `normalise`
abbrev pub normalise : App
normalise = new_app (codes "normalise")

-- `check --pact F --replies G`
abbrev pub check : App
check = with_rule (with_rule (new_app (codes "check")) (option (codes "pact"))) (option (codes "replies"))

-- `can-i-deploy --file F --token T --pacticipant P`
abbrev pub asking : App
asking =
    with_rule (with_rule (with_rule (new_app (codes "can-i-deploy"))
    (option (codes "file"))) (option (codes "token"))) (option (codes "pacticipant"))

-- `can-i-deploy --file F --token T --pacticipant P --version V --to-environment E`
abbrev pub can_i_deploy : App
can_i_deploy = with_rule (with_rule asking (option (codes "version"))) (option (codes "to-environment"))

abbrev pub commands : List App
commands = init ∷ migrate ∷ audit ∷ serve ∷ can_i_deploy ∷ normalise ∷ check ∷ replay ∷ []

-- the command of a line
abbrev pub command_of : Line → App
command_of (Replay token) = replay
command_of (Init file token) = init
command_of (Migrate file) = migrate
command_of (Audit file) = audit
command_of (Serve file listen connections) = serve
command_of Normalise = normalise
command_of (Check pact replies) = check
command_of (CanIDeploy file token pacticipant version environment) = can_i_deploy

abbrev pub name_of : Line → Text
name_of line = (command_of line).top.name

-- the bytes of a path
abbrev pub path_of : FilePath → Text
path_of path = path.text.now

-- the option has this text
abbrev pub HasText : List Row → Text → Text → Type 0
HasText rows name text = first_of name rows ≡ Some text

-- the option has this number, from 1 to 1,000,000: its text writes it in decimal digits, after a plus or without one
abbrev pub HasNumberOption : List Row → Text → ℕ → Type 0
HasNumberOption rows name n =
    (text : Text) × (one_of name rows ≡ Some text) × IsNumeral 10 (without_leading_plus text)
    × (n ≡ digits_value 10 (without_leading_plus text)) × (1 ≤ n) × (n ≤ 1000000)

-- the options have the values of the line
abbrev pub HasValues : List Row → Line → Type 0
HasValues rows (Replay token) = HasText rows (codes "office-token") token.now
HasValues rows (Init file token) = HasText rows (codes "file") (path_of file) × HasText rows (codes "office-token") token.now
HasValues rows (Migrate file) = HasText rows (codes "file") (path_of file)
HasValues rows (Audit file) = HasText rows (codes "file") (path_of file)
HasValues rows (Serve file listen connections) =
    HasText rows (codes "file") (path_of file) × HasText rows (codes "listen") listen.now
    × HasNumberOption rows (codes "connections") connections
HasValues rows Normalise = ⊤
HasValues rows (Check pact replies) = HasText rows (codes "pact") pact.now × HasText rows (codes "replies") replies.now
HasValues rows (CanIDeploy file token pacticipant version environment) =
    HasText rows (codes "file") (path_of file) × HasText rows (codes "token") token.now
    × HasText rows (codes "pacticipant") pacticipant.now × HasText rows (codes "version") version.now
    × HasText rows (codes "to-environment") environment.now

-- the option has no text, or none that writes such a number
abbrev pub HasNoText : List Row → Text → Type 0
HasNoText rows name = first_of name rows ≡ None

abbrev pub HasNoNumber : List Row → Text → Type 0
HasNoNumber rows name = (n : ℕ) → ¬ (HasNumberOption rows name n)

abbrev pub has_none : Kinds → Bool
has_none [] = true
has_none (kind ∷ kinds) = false

-- the command takes the words, which begin with its name: clap finds nothing wrong with them, and they ask for no help
unfoldable pub is_taken : App → List Text → Bool
is_taken command words = has_none (fault_of command words)

-- the command takes the words, which begin with its name, and its options have these values in them
abbrev pub HasOptions : List Text → Line → Type 0
HasOptions words line = (is_taken (command_of line) words ≡ true) × HasValues (matches_of (command_of line) words) line

-- the words are a command line: the program's name, the command's and its options with these values
abbrev pub Says : List Text → Line → Type 0
Says words line =
    (program : Text) × (rest : List Text)
    × (words ≡ program ∷ name_of line ∷ rest) × HasOptions (name_of line ∷ rest) line

-- the first of the commands that a word names
abbrev pub command_among : Text → List App → Option App
command_among word commands = find (λ command. bytes_eq word command.top.name) commands

-- the command that a word names
abbrev pub command_at : Text → Option App
command_at word = command_among word commands

-- the command that the first of the words names
abbrev pub named_in : List Text → Option App
named_in [] = None
named_in (name ∷ rest) = command_at name

-- the words begin with a command's name, and the command takes them
abbrev pub is_command : List Text → Bool
is_command words = option_map_or (λ command. is_taken command words) (named_in words) false

-- the words are a command line of the program: its own name, a command and the command's options
unfoldable pub is_line : List Text → Bool
is_line [] = false
is_line (program ∷ rest) = is_command rest

-- ---- what is reported of words that are no command line

-- the program before it has commands: one of them is required, and `--version` is answered
abbrev pub bare_program : App
bare_program =
    let plain = new_app (codes "broker") in
    record plain { top = record plain.top { has_version = true; subcommand_required = true } }

-- the whole program, with all its commands
abbrev pub with_command : App → App → App
with_command program command = with_subcommand program command.top

abbrev pub whole_program : App
whole_program = fold with_command bare_program commands

-- what clap finds in words that name no command: by the whole program, and else that none is named
abbrev pub unnamed_mistakes : List Text → Kinds
unnamed_mistakes words = or_else (fault_of whole_program words) (InvalidSubcommand ∷ [])

-- what clap finds in the words: by the command that they name, if they name one
unfoldable pub mistakes : List Text → Kinds
mistakes [] = unnamed_mistakes []
mistakes (program ∷ rest) =
    option_map_or (λ command. fault_of command rest) (named_in rest) (unnamed_mistakes (program ∷ rest))

-- one of these kinds is a request for the help or the version
abbrev pub AsksForText : (ErrorKind → Type 0) → Type 0
AsksForText Has = Has DisplayHelp ⊎ Has DisplayVersion

-- one of them is a mistake
abbrev pub IsMistaken : (ErrorKind → Type 0) → Type 0
IsMistaken Has = (kind : ErrorKind) × Has kind × (kind ≢ DisplayHelp) × (kind ≢ DisplayVersion)

-- clap finds this in the words
abbrev pub IsFoundIn : List Text → ErrorKind → Type 0
IsFoundIn words kind = IsAmong kind (mistakes words)

-- the command of a name
abbrev pub command_named : CommandName → App
command_named names.Replay = replay
command_named names.Init = init
command_named names.Migrate = migrate
command_named names.Audit = audit
command_named names.Serve = serve
command_named names.Normalise = normalise
command_named names.Check = check
command_named names.CanIDeploy = can_i_deploy

-- an option of the command has no value
abbrev pub LacksValue : List Row → CommandName → Type 0
LacksValue rows names.Replay = HasNoText rows (codes "office-token")
LacksValue rows names.Init = HasNoText rows (codes "file") ⊎ HasNoText rows (codes "office-token")
LacksValue rows names.Migrate = HasNoText rows (codes "file")
LacksValue rows names.Audit = HasNoText rows (codes "file")
LacksValue rows names.Serve =
    HasNoText rows (codes "file") ⊎ HasNoText rows (codes "listen") ⊎ HasNoNumber rows (codes "connections")
LacksValue rows names.Normalise = ⊥
LacksValue rows names.Check = HasNoText rows (codes "pact") ⊎ HasNoText rows (codes "replies")
LacksValue rows names.CanIDeploy =
    HasNoText rows (codes "file") ⊎ HasNoText rows (codes "token") ⊎ HasNoText rows (codes "pacticipant")
    ⊎ HasNoText rows (codes "version") ⊎ HasNoText rows (codes "to-environment")

-- the words begin with the name
abbrev pub BeginsWithName : List Text → CommandName → Type 0
BeginsWithName words name =
    (rest : List Text) × (words ≡ (command_named name).top.name ∷ rest) × (named_in words ≡ Some (command_named name))

-- for private clauses: the line of the command of this name with its options' values, or none, as one has no value
abbrev pub IsLineOf : CommandName → List Row → Option Line → Type 0
IsLineOf name rows result =
    MatchOption result (LacksValue rows name) (λ line. (command_of line ≡ command_named name) × HasValues rows line)

-- for private clauses: an option and a command, as the program describes them
abbrev pub option_rule : CommandOption → Rule
option_rule (options.Text name help) = option name.now
option_rule (options.Number name help) = number_option name.now

abbrev pub with_option : App → CommandOption → App
with_option command option = with_rule command (option_rule option)

abbrev pub described : CommandText → App
described d = fold with_option (new_app d.name.now) d.options.now
