-- The requests of the worked deployment, and what they ask, computed from their bytes.
use Rattle.std.{specs.Prelude.{codes, Some, None, Ok}, proofs.Common.{◌≡◌, sym, arith, List, [], ◌∷◌, true, false, refl}}
use Rattle.std.proofs.lemmas.List.Sums.{AllPass-from_list_all}
use Rattle.serde_json.{specs.{Data.{Data, string, boolean, object, member, no_members}, Read.{read}}, proofs.OnLiterals.{serde_json_on_literals}}
use Rattle.httparse.proofs.OnLiterals.{httparse_on_literals}
use Rattle.percent_encoding.{specs.Percent.{percent_decode}, proofs.OnLiterals.{percent_encoding_on_literals}}
use Rattle.broker_names.specs.Name.{is_name, is_token_byte as is_callers_byte}
use Rattle.broker_core.specs.{Text.{Text, version}, declared.command.Marks.{Marks}, declared.command.PactPath.{PactPath}, declared.command.Report.{Report}}
use Rattle.broker_core.specs.declared.command.Command.TheVariants.{PutTeam, PutPacticipant, PutEnvironment, PutGrant, PutVersion, PutPact, PostResult, Deploy}
use Rattle.http_messages.specs.{Fields.{same_name}, Heads.{judge, body_length, served_method}}
use Rattle.http_routes.specs.Routes.{fits, is_on, resource_of, segment}
use Rattle.http_requests.specs.{Bodies.{IsObject, only_object}, Commands.{IsCommand, IsPactPath}, Requests.{path_of, query_of}}
use Rattle.broker_http.proofs.PlainRequests.{PlainRequest, plain_request, IsComputed, is_ascii, IsUtf8-of_ascii, IsPathName-plain, IsNameField-plain}
use Rattle.broker_http.proofs.DeploymentPact.{shop, stock, pact_file, with_text}
use Rattle.http_routes.specs.declared.Operation.TheVariants as operation

abbrev pub office_token : Text
office_token = codes "office-token-0001"

abbrev pub red_token : Text
red_token = codes "red-team-token-01"

abbrev pub red : Text
red = codes "red"

abbrev pub live : Text
live = codes "live"

abbrev pub one : Text
one = codes "1"

abbrev pub gated : Marks
gated = record { gated = true; strict = false }

abbrev pub path : PactPath
path = record { provider = stock; consumer = shop; version = one }

abbrev pub by_stock_1 : Report
by_stock_1 = record { provider_version = one; run = None }

-- ---- the requests: the method, the target, the caller's token, the length of the body, the body; and what they ask

abbrev pub put_red : PlainRequest
put_red = plain_request (codes "PUT") (codes "/teams/red") office_token (codes "29") (codes "{\"token\":\"red-team-token-01\"}")
    operation.PutTeam (PutTeam red red_token)

abbrev pub put_shop : PlainRequest
put_shop = plain_request (codes "PUT") (codes "/pacticipants/shop") office_token (codes "14") (codes "{\"team\":\"red\"}")
    operation.PutPacticipant (PutPacticipant shop red)

abbrev pub put_stock : PlainRequest
put_stock = plain_request (codes "PUT") (codes "/pacticipants/stock") office_token (codes "14") (codes "{\"team\":\"red\"}")
    operation.PutPacticipant (PutPacticipant stock red)

abbrev pub put_live : PlainRequest
put_live = plain_request (codes "PUT") (codes "/environments/live") office_token (codes "14") (codes "{\"gated\":true}")
    operation.PutEnvironment (PutEnvironment live gated)

abbrev pub grant_live : PlainRequest
grant_live = plain_request (codes "PUT") (codes "/grants/team/red/environment/live") office_token (codes "0") []
    operation.PutGrant (PutGrant red live)

abbrev pub publish : PlainRequest
publish = plain_request (codes "PUT") (codes "/pacts/provider/stock/consumer/shop/version/1") red_token (codes "170") pact_file
    operation.PutPact (PutPact path pact_file)

abbrev pub name_stock_1 : PlainRequest
name_stock_1 = plain_request (codes "PUT") (codes "/pacticipants/stock/versions/1") red_token (codes "0") []
    operation.PutVersion (PutVersion (version stock one) None)

abbrev pub deploy_stock_1 : PlainRequest
deploy_stock_1 = plain_request (codes "POST") (codes "/environments/live/deployments") red_token (codes "37") (codes "{\"pacticipant\":\"stock\",\"version\":\"1\"}")
    operation.Deploy (Deploy live (version stock one) None)

abbrev pub deploy_shop_1 : PlainRequest
deploy_shop_1 = plain_request (codes "POST") (codes "/environments/live/deployments") red_token (codes "36") (codes "{\"pacticipant\":\"shop\",\"version\":\"1\"}")
    operation.Deploy (Deploy live (version shop one) None)

abbrev pub pass_stock_1 : PlainRequest
pass_stock_1 = plain_request (codes "POST") (codes "/pacts/provider/stock/consumer/shop/version/1/results") red_token (codes "49") (codes "{\"providerApplicationVersion\":\"1\",\"success\":true}")
    operation.PostResult (PostResult path by_stock_1 true)

-- and then deploy_shop_1 again
abbrev pub requests : List PlainRequest
requests = put_red ∷ put_shop ∷ put_stock ∷ put_live ∷ grant_live ∷ publish ∷ name_stock_1 ∷ deploy_stock_1 ∷ deploy_shop_1 ∷ pass_stock_1 ∷ deploy_shop_1 ∷ []

-- ---- what the requests ask, computed from their bytes

pub IsComputed-put_red : IsComputed put_red
unfolding httparse_on_literals resource_of is_on fits judge body_length served_method same_name
IsComputed-put_red = refl

pub IsComputed-put_shop : IsComputed put_shop
unfolding httparse_on_literals resource_of is_on fits judge body_length served_method same_name
IsComputed-put_shop = refl

pub IsComputed-put_stock : IsComputed put_stock
unfolding httparse_on_literals resource_of is_on fits judge body_length served_method same_name
IsComputed-put_stock = refl

pub IsComputed-put_live : IsComputed put_live
unfolding httparse_on_literals resource_of is_on fits judge body_length served_method same_name
IsComputed-put_live = refl

pub IsComputed-grant_live : IsComputed grant_live
unfolding httparse_on_literals resource_of is_on fits judge body_length served_method same_name
IsComputed-grant_live = refl

pub IsComputed-publish : IsComputed publish
unfolding httparse_on_literals resource_of is_on fits judge body_length served_method same_name
IsComputed-publish = refl

pub IsComputed-name_stock_1 : IsComputed name_stock_1
unfolding httparse_on_literals resource_of is_on fits judge body_length served_method same_name
IsComputed-name_stock_1 = refl

pub IsComputed-deploy_stock_1 : IsComputed deploy_stock_1
unfolding httparse_on_literals resource_of is_on fits judge body_length served_method same_name
IsComputed-deploy_stock_1 = refl

pub IsComputed-deploy_shop_1 : IsComputed deploy_shop_1
unfolding httparse_on_literals resource_of is_on fits judge body_length served_method same_name
IsComputed-deploy_shop_1 = refl

pub IsComputed-pass_stock_1 : IsComputed pass_stock_1
unfolding httparse_on_literals resource_of is_on fits judge body_length served_method same_name
IsComputed-pass_stock_1 = refl

abbrev IsAsked : PlainRequest → Type 0
IsAsked q = IsCommand q.operation (path_of q.target) (query_of q.target) q.body q.command

-- a body of JSON
IsObject-of_ascii : (body : Text) (fields : Data) → is_ascii body ≡ true → read body ≡ Some fields → only_object (Some fields) ≡ Some fields → IsObject body (Some fields)
IsObject-of_ascii body fields low is whole = (Some fields, (IsUtf8-of_ascii body low, is), sym whole)

pub IsAsked-put_red : IsAsked put_red
unfolding segment percent_encoding_on_literals is_name serde_json_on_literals
IsAsked-put_red = (
  Ok (PutTeam red red_token),
  (
    Ok red,
    IsPathName-plain 2 (path_of put_red.target) red refl refl refl,
    (
      Ok red_token,
      (
        Some (with_text (codes "token") red_token),
        IsObject-of_ascii put_red.body (with_text (codes "token") red_token) refl refl refl,
        (refl, record { long = omega arith; short = omega arith; plain = AllPass-from_list_all is_callers_byte red_token refl }),
      ),
      refl,
    ),
  ),
  refl,
)

pub IsAsked-put_shop : IsAsked put_shop
unfolding segment percent_encoding_on_literals is_name serde_json_on_literals
IsAsked-put_shop = (
  Ok (PutPacticipant shop red),
  (
    Ok shop,
    IsPathName-plain 2 (path_of put_shop.target) shop refl refl refl,
    (
      Ok red,
      (
        Some (with_text (codes "team") red),
        IsObject-of_ascii put_shop.body (with_text (codes "team") red) refl refl refl,
        IsNameField-plain (codes "team") (with_text (codes "team") red) red refl refl refl,
      ),
      refl,
    ),
  ),
  refl,
)

pub IsAsked-put_stock : IsAsked put_stock
unfolding segment percent_encoding_on_literals is_name serde_json_on_literals
IsAsked-put_stock = (
  Ok (PutPacticipant stock red),
  (
    Ok stock,
    IsPathName-plain 2 (path_of put_stock.target) stock refl refl refl,
    (
      Ok red,
      (
        Some (with_text (codes "team") red),
        IsObject-of_ascii put_stock.body (with_text (codes "team") red) refl refl refl,
        IsNameField-plain (codes "team") (with_text (codes "team") red) red refl refl refl,
      ),
      refl,
    ),
  ),
  refl,
)

abbrev marks_fields : Data
marks_fields = object (member (codes "gated") (boolean true) no_members)

pub IsAsked-put_live : IsAsked put_live
unfolding segment percent_encoding_on_literals is_name serde_json_on_literals
IsAsked-put_live = (
  Ok (PutEnvironment live gated),
  (
    Ok live,
    IsPathName-plain 2 (path_of put_live.target) live refl refl refl,
    (Ok gated, (Some marks_fields, IsObject-of_ascii put_live.body marks_fields refl refl refl, (Ok true, refl, (Ok false, refl, refl))), refl),
  ),
  refl,
)

pub IsAsked-grant_live : IsAsked grant_live
unfolding segment percent_encoding_on_literals is_name
IsAsked-grant_live = (
  Ok (PutGrant red live),
  (Ok (red, live), (Ok red, IsPathName-plain 3 (path_of grant_live.target) red refl refl refl, (Ok live, IsPathName-plain 5 (path_of grant_live.target) live refl refl refl, refl)), refl),
  refl,
)

-- the contract that a target names
IsPactPath-path : (target : Text) → percent_decode (segment 3 (path_of target)) ≡ stock → percent_decode (segment 5 (path_of target)) ≡ shop → percent_decode (segment 7 (path_of target)) ≡ one
    → IsPactPath (path_of target) (Ok path)
unfolding is_name
IsPactPath-path target provider consumer last = (
  Ok (stock, shop, one),
  (
    Ok (stock, shop),
    (Ok stock, IsPathName-plain 3 (path_of target) stock provider refl refl, (Ok shop, IsPathName-plain 5 (path_of target) shop consumer refl refl, refl)),
    (Ok one, IsPathName-plain 7 (path_of target) one last refl refl, refl),
  ),
  refl,
)

pub IsAsked-publish : IsAsked publish
unfolding segment percent_encoding_on_literals
IsAsked-publish = (Ok (PutPact path pact_file), (Ok path, IsPactPath-path publish.target refl refl refl, refl), refl)

pub IsAsked-name_stock_1 : IsAsked name_stock_1
unfolding segment percent_encoding_on_literals is_name serde_json_on_literals
IsAsked-name_stock_1 = (
  Ok (PutVersion (version stock one) None),
  (
    Ok (stock, one),
    (Ok stock, IsPathName-plain 2 (path_of name_stock_1.target) stock refl refl refl, (Ok one, IsPathName-plain 4 (path_of name_stock_1.target) one refl refl refl, refl)),
    (Ok None, (Some (object no_members), IsObject-of_ascii (codes "{}") (object no_members) refl refl refl, refl), refl),
  ),
  refl,
)

abbrev move_fields : Text → Data
move_fields pacticipant = object (member (codes "pacticipant") (string pacticipant) (member (codes "version") (string one) no_members))

pub IsAsked-deploy_stock_1 : IsAsked deploy_stock_1
unfolding segment percent_encoding_on_literals is_name serde_json_on_literals
IsAsked-deploy_stock_1 = (
  Ok (Deploy live (version stock one) None),
  (
    Ok live,
    IsPathName-plain 2 (path_of deploy_stock_1.target) live refl refl refl,
    (
      Ok (version stock one, None),
      (
        Some (move_fields stock),
        IsObject-of_ascii deploy_stock_1.body (move_fields stock) refl refl refl,
        (
          Ok (version stock one),
          (Ok stock, IsNameField-plain (codes "pacticipant") (move_fields stock) stock refl refl refl, (Ok one, IsNameField-plain (codes "version") (move_fields stock) one refl refl refl, refl)),
          (Ok None, refl, refl),
        ),
      ),
      refl,
    ),
  ),
  refl,
)

pub IsAsked-deploy_shop_1 : IsAsked deploy_shop_1
unfolding segment percent_encoding_on_literals is_name serde_json_on_literals
IsAsked-deploy_shop_1 = (
  Ok (Deploy live (version shop one) None),
  (
    Ok live,
    IsPathName-plain 2 (path_of deploy_shop_1.target) live refl refl refl,
    (
      Ok (version shop one, None),
      (
        Some (move_fields shop),
        IsObject-of_ascii deploy_shop_1.body (move_fields shop) refl refl refl,
        (
          Ok (version shop one),
          (Ok shop, IsNameField-plain (codes "pacticipant") (move_fields shop) shop refl refl refl, (Ok one, IsNameField-plain (codes "version") (move_fields shop) one refl refl refl, refl)),
          (Ok None, refl, refl),
        ),
      ),
      refl,
    ),
  ),
  refl,
)

abbrev result_fields : Data
result_fields = object (member (codes "providerApplicationVersion") (string one) (member (codes "success") (boolean true) no_members))

pub IsAsked-pass_stock_1 : IsAsked pass_stock_1
unfolding segment percent_encoding_on_literals is_name serde_json_on_literals
IsAsked-pass_stock_1 = (
  Ok (PostResult path by_stock_1 true),
  (
    Ok path,
    IsPactPath-path pass_stock_1.target refl refl refl,
    (
      Ok (by_stock_1, true),
      (
        Some result_fields,
        IsObject-of_ascii pass_stock_1.body result_fields refl refl refl,
        (Ok one, IsNameField-plain (codes "providerApplicationVersion") result_fields one refl refl refl, (Ok true, refl, (Ok None, refl, refl))),
      ),
      refl,
    ),
  ),
  refl,
)
