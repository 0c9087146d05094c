-- who sends a command
use Rattle.std.specs.Prelude.{◌≡◌, Option, Some, None, option_map}
use Rattle.std.specs.Borrow.{Bor}
use Rattle.sha2.specs.Sha256.{sha256}
use Rattle.hex.specs.Hex.{encode_lower}
use Rattle.broker_core.specs.Machine.{IsCallerOfDigest}
use Rattle.broker_core.specs.State.{State as Broker}
use Rattle.broker_core.specs.Text.{Text}
use Rattle.broker_core.specs.declared.policy.Caller.{Caller}

-- the token that came with a command, if one did
abbrev pub token_of : Option (Bor Text) → Option Text
token_of token = option_map (λ text. text.now) token

-- a token is known by its SHA-256 (FIPS 180-4) in lower-case hexadecimal digits
abbrev pub token_digest : Text → Text
token_digest token = encode_lower (sha256 token)

-- who sends a command with this token; nobody without one
abbrev pub IsSender : Broker → Option Text → Option Caller → Type 0
IsSender s (Some token) who = IsCallerOfDigest s (token_digest token) who
IsSender s None who = who ≡ None
