use Rattle.std.proofs.{Common.{◌≡◌, ◌<◌, ℕ, IsTrue, subst, arith}, lemmas.Bool.Decides.{nat_tests}, lemmas.Str.{IsUtf8-from_ascii}}
use Rattle.std.proofs.lemmas.Str.Ascii.{IsAscii-from_all}
use Rattle.broker_names.specs.Name.{IsToken, is_token_byte}
use Rattle.http_requests.proofs.TokenLemmas.{IsToken-of_not_not}
use Rattle.http_requests.proofs.tokens.token_of.Goals as goal

-- the bytes of tokens are ASCII
small : (b : ℕ) → IsTrue (is_token_byte b) → b < 128
small b is = grind (arith, nat_tests)

pub returns-in_default-clause-token : goal.returns-in_default-clause-token
returns-in_default-clause-token c = λ token.
    c.in_default.ensures.cases.0 (IsUtf8-from_ascii c.args.bytes.now (IsAscii-from_all c.args.bytes.now (λ k e m. small _ (token.plain k e m))))

pub returns-in-Err-Memory-clause-memory : goal.returns-in-Err-Memory-clause-memory
returns-in-Err-Memory-clause-memory c =
    let same : c.in-Ok.text.now ≡ c.args.bytes.now = c.in-Ok.ensures.cases.0 in
    IsToken-of_not_not c.args.bytes.now (λ no.
    let returned = c.new.ensures.bad.1 (λ token. no (subst IsToken same token)) in
    let memory = c.in-Err-Memory.is in
    let is = c.in-Err-Memory.field-0-is in
    cc)
