-- The options of a connection (RFC 9112, section 9.6).
use Rattle.std.specs.Prelude.{ℕ, ◌==◌, Bool, List, codes}
use Rattle.std.specs.List.{slice_split, list_any}
use Rattle.httparse.specs.Grammar.{trim_ows}
use Rattle.http_messages.specs.Fields.{same_name}

abbrev pub comma : ℕ
comma = 44

-- the option close, without the spaces and tabs at its ends and without ASCII case
abbrev pub is_close : List ℕ → Bool
is_close option = same_name (trim_ows option) (codes "close")

-- close is one of the options, which commas part
abbrev pub has_close : List ℕ → Bool
has_close value = list_any is_close (slice_split (λ b. b == comma) value)
