-- a worked example of a request, computed from its bytes: the message that they begin with, and the command that it asks
use Rattle.std.specs.{Prelude.{ℕ, List, [], ◌∷◌, ◌++◌, codes, length, All, Some, None, Ok}, List.{list_all}, Str.{IsUtf8}}
use Rattle.std.proofs.{Common.{◌≡◌, ◌<◌, arith, true, false, refl, inr}, lemmas.List.Elements.{All-from_recursion}, lemmas.List.Sums.{AllPass-from_list_all}}
use Rattle.std.proofs.{lemmas.Bool.{ltb-true}, lemmas.Str.{IsUtf8-from_ascii}, lemmas.Str.Ascii.{IsAscii-from_all}, Math.Dec.{ltb}}
use Rattle.httparse.specs.Grammar.{RequestHead, IsRequestHead, Field, IsField, IsToken, crlf, is_token_byte, is_value_byte, is_uri_byte, print_request}
use Rattle.httparse.proofs.OnLiterals.{httparse_on_literals}
use Rattle.percent_encoding.proofs.OnLiterals.{percent_encoding_on_literals}
use Rattle.serde_json.{specs.Data.{Data, string, object, member, no_members}, proofs.OnLiterals.{serde_json_on_literals}}
use Rattle.broker_names.specs.Name.{IsName, is_name, is_token_byte as is_callers_byte}
use Rattle.broker_core.specs.{Text.{Text, version}, declared.command.Command.TheVariants.{Deploy}}
use Rattle.http_messages.specs.Fields.{same_name, values_named}
use Rattle.http_messages.specs.Heads.{IsHeadText, IsJudged, IsBodyLength, judge_head, judge, body_length, served_method, fields_of}
use Rattle.http_messages.specs.{Message.{Message, message}, Messages.{BeginsWithMessage}}
use Rattle.http_routes.specs.Routes.{fits, is_on, resource_of, segment}
use Rattle.http_requests.specs.{Bodies.{IsObject}, Commands.{IsVersionFields, IsCommand}, Names.{IsNamed, IsPathName}, Requests.{IsRequest, path_of, query_of}}
use Rattle.http_requests.specs.{Tokens.{IsTokenOf}, declared.requests.Request.TheVariants.{Asks}}
use Rattle.http_routes.specs.declared.Operation.TheVariants as operation

-- ---- the request: a team asks that version 1 of shop be recorded as deployed to prod

abbrev pub deployment_head : List ℕ
deployment_head = codes "POST /environments/prod/deployments HTTP/1.1\r\nhost: broker\r\nauthorization: Bearer red-team-token-01\r\ncontent-length: 36\r\n\r\n"

abbrev pub deployment_body : List ℕ
deployment_body = codes "{\"pacticipant\":\"shop\",\"version\":\"1\"}"

abbrev pub deployment_message : Message
deployment_message = message deployment_head deployment_body

-- ---- its head

abbrev field : List ℕ → List ℕ → Field
field name raw = record { name = name; raw = raw; end = crlf }

abbrev fields : List Field
fields = field (codes "host") (codes " broker") ∷ field (codes "authorization") (codes " Bearer red-team-token-01") ∷ field (codes "content-length") (codes " 36") ∷ []

abbrev parsed : RequestHead
parsed = record {
  blank = [];
  method = codes "POST";
  target = codes "/environments/prod/deployments";
  minor = 1;
  line_end = crlf;
  fields = fields;
  last = crlf;
}

IsUtf8-of_ascii : (bytes : List ℕ) → list_all (λ b. ltb b 128) bytes ≡ true → IsUtf8 bytes
IsUtf8-of_ascii bytes low =
    IsUtf8-from_ascii bytes (IsAscii-from_all bytes (λ k d m. ltb-true _ 128 (AllPass-from_list_all (λ b. ltb b 128) bytes low k d m)))

IsToken-of_bytes : (bytes : List ℕ) → 0 < length bytes → list_all is_token_byte bytes ≡ true → IsToken bytes
IsToken-of_bytes bytes some passes = (some, AllPass-from_list_all is_token_byte bytes passes)

IsField-of_bytes : (name raw : List ℕ) → 0 < length name → list_all is_token_byte name ≡ true → list_all is_value_byte raw ≡ true → IsField (field name raw)
IsField-of_bytes name raw some named valued = record { name = IsToken-of_bytes name some named; raw = AllPass-from_list_all is_value_byte raw valued }

IsField-deployment : All IsField fields
unfolding httparse_on_literals
IsField-deployment =
    let host = IsField-of_bytes (codes "host") (codes " broker") (omega arith) refl refl in
    let token = IsField-of_bytes (codes "authorization") (codes " Bearer red-team-token-01") (omega arith) refl refl in
    let size = IsField-of_bytes (codes "content-length") (codes " 36") (omega arith) refl refl in
    All-from_recursion IsField fields (host, (token, (size, tt)))

IsRequestHead-deployment : IsRequestHead parsed
unfolding httparse_on_literals
IsRequestHead-deployment = record {
  method = IsToken-of_bytes (codes "POST") (omega arith) refl;
  target = (omega arith, AllPass-from_list_all is_uri_byte (codes "/environments/prod/deployments") refl);
  target_text = IsUtf8-of_ascii (codes "/environments/prod/deployments") refl;
  minor = omega arith;
  fields = IsField-deployment;
}

IsHeadText-deployment : IsHeadText deployment_head parsed
unfolding print_request
IsHeadText-deployment = record { reads = (IsRequestHead-deployment, refl); few = omega arith }

IsJudged-deployment : IsJudged deployment_head (judge_head parsed)
IsJudged-deployment = inr (inr (refl, parsed, IsHeadText-deployment, refl))

pub BeginsWithMessage-deployment : BeginsWithMessage (deployment_head ++ deployment_body) deployment_message []
unfolding IsBodyLength judge body_length served_method same_name httparse_on_literals
BeginsWithMessage-deployment = record { whole = refl; head = refl; body = (judge_head parsed, IsJudged-deployment, refl) }

-- ---- what it asks

named : (text : Text) → list_all (λ b. ltb b 128) text ≡ true → IsName text → IsNamed text (Some text)
named text low name = (refl, IsUtf8-of_ascii text low, name)

abbrev body_fields : Data
body_fields = object (member (codes "pacticipant") (string (codes "shop")) (member (codes "version") (string (codes "1")) no_members))

IsPathName-deployment : IsPathName 2 (path_of parsed.target) (Ok (codes "prod"))
unfolding segment percent_encoding_on_literals is_name
IsPathName-deployment = (Some (codes "prod"), named (codes "prod") refl refl, refl)

IsObject-deployment : IsObject deployment_body (Some body_fields)
unfolding serde_json_on_literals
IsObject-deployment = (Some body_fields, (IsUtf8-of_ascii deployment_body refl, refl), refl)

IsVersionFields-deployment : IsVersionFields body_fields (Ok (version (codes "shop") (codes "1")))
unfolding is_name
IsVersionFields-deployment =
    let shop = named (codes "shop") refl refl in
    (Ok (codes "shop"), (Some (codes "shop"), shop, refl), (Ok (codes "1"), (Some (codes "1"), named (codes "1") refl refl, refl), refl))

IsCommand-deployment : IsCommand operation.Deploy (path_of parsed.target) (query_of parsed.target) deployment_body (Deploy (codes "prod") (version (codes "shop") (codes "1")) None)
IsCommand-deployment = (
  Ok (Deploy (codes "prod") (version (codes "shop") (codes "1")) None),
  (Ok (codes "prod"), IsPathName-deployment, (Ok (version (codes "shop") (codes "1"), None), (Some body_fields, IsObject-deployment, (Ok (version (codes "shop") (codes "1")), IsVersionFields-deployment, (Ok None, refl, refl))), refl)),
  refl,
)

IsTokenOf-deployment : IsTokenOf (values_named (codes "authorization") (fields_of parsed)) (Some (codes "red-team-token-01"))
unfolding same_name httparse_on_literals
IsTokenOf-deployment = (refl, record { long = omega arith; short = omega arith; plain = AllPass-from_list_all is_callers_byte (codes "red-team-token-01") refl })

pub IsRequest-deployment : IsRequest deployment_message (Asks (Some (codes "red-team-token-01")) (Deploy (codes "prod") (version (codes "shop") (codes "1")) None) false)
unfolding IsRequest resource_of is_on fits judge body_length served_method same_name httparse_on_literals
IsRequest-deployment = (
  judge_head parsed,
  IsJudged-deployment,
  (parsed, IsHeadText-deployment, (Deploy (codes "prod") (version (codes "shop") (codes "1")) None, Some (codes "red-team-token-01"), IsCommand-deployment, IsTokenOf-deployment, refl)),
)
