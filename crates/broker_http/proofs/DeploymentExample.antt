-- A worked example from bytes to bytes, computed from the definitions: a new broker is asked eleven times over one
-- connection. The office names a team, its pacticipants shop and stock, and a gated environment, with a grant for the
-- team. The team publishes the pact of shop 1 with stock and deploys stock 1. Then shop 1 is refused while stock 1 has no
-- result for the pact, and deployed once it has. Nothing is supposed.
use Rattle.std.specs.{Fmt.{digits}, Prelude.{codes, map, take, drop, Some, None}, Cmp.Lexicographic.{other_text}}
use Rattle.std.proofs.Common.{◌≡◌, ◌≢◌, ◌∙◌, sym, Bool, ℕ, List, [], ◌∷◌, ◌++◌, true, false, refl, if◌then◌else◌}
use Rattle.hex.proofs.OnLiterals.{hex_on_literals}
use Rattle.sha2.specs.Sha256.{first_words, schedule, rounds, compress, hash_after, digest_bytes, sha256}
use Rattle.serde_json.proofs.OnLiterals.{serde_json_on_literals}
use Rattle.broker_core.specs.{Text.{Text, same_text, version}, State.{State as Broker, opening, claimed_result}, Laws.{TeamsDiffer}}
use Rattle.broker_core.specs.{Machine.{Request, Step, IsCallerOfDigest}, Machine.Reading.{IsPact}}
use Rattle.broker_core.specs.Change.{put_team, put_pacticipant, put_environment, put_grant, put_version, put_pact, report, deploy}
use Rattle.broker_core.specs.{declared.policy.Caller.TheVariants.{Office, Team}, declared.answer.Answer.{Answer}}
use Rattle.broker_core.specs.{declared.answer.Answer.TheVariants.{Done, NotPermitted}, declared.answer.Detail.TheVariants.{Plain, Content, Result}}
use Rattle.broker_core.specs.{declared.need.PairFault.{PairFault}, declared.need.Kind.TheVariants.{Missing}}
use Rattle.broker_core.proofs.Judgement.{Rows, row_keys, Judges-is_permitted, same_text-equal}
use Rattle.command_facts.specs.Primitives.{broker_primitives}
use Rattle.http_messages.specs.{Limits.{head_limit}, Lines.{head_text}}
use Rattle.http_responses.specs.{Head.{phrase, status_line, content_fields, own_field, close_field}, Responses.{answer_response, sent_part}}
use Rattle.broker_http.specs.{Calls.{ByMachine}, Journal.{Journal, blank}, Serving.{Serves}, Serving.Mode.{Running}, Stream.{Responses, texts}}
use Rattle.broker_http.specs.declared.served.Ended.TheVariants.{AtEnd}
use Rattle.broker_http.proofs.PlainRequests.{PlainRequest, head_of, bytes_of, request_of, after, response, answered}
use Rattle.broker_http.proofs.DeploymentPact.{shop, stock, normal_form, Reads-pact_file}
use Rattle.broker_http.proofs.DeploymentRequests.{office_token, red_token, red, live, one, gated, put_red, put_shop, put_stock, put_live, grant_live, publish, name_stock_1, deploy_stock_1, deploy_shop_1, pass_stock_1, requests, IsComputed-put_red, IsComputed-put_shop, IsComputed-put_stock, IsComputed-put_live, IsComputed-grant_live, IsComputed-publish, IsComputed-name_stock_1, IsComputed-deploy_stock_1, IsComputed-deploy_shop_1, IsComputed-pass_stock_1, IsAsked-put_red, IsAsked-put_shop, IsAsked-put_stock, IsAsked-put_live, IsAsked-grant_live, IsAsked-publish, IsAsked-name_stock_1, IsAsked-deploy_stock_1, IsAsked-deploy_shop_1, IsAsked-pass_stock_1}

-- ---- the answers, and the bytes of their responses

abbrev pub lacks_a_result : PairFault
lacks_a_result = record { consumer = shop; consumer_version = one; provider = stock; provider_version = Some one; kind = Missing }

abbrev pub done_bytes : List ℕ
done_bytes = codes "HTTP/1.1 200 OK\r\ncontent-type: application/json\r\ncontent-length: 17\r\n\r\n{\"answer\":\"done\"}"

abbrev pub content_bytes : List ℕ
content_bytes = codes "HTTP/1.1 200 OK\r\ncontent-type: application/json\r\ncontent-length: 29\r\n\r\n{\"answer\":\"done\",\"content\":1}"

abbrev pub result_bytes : List ℕ
result_bytes = codes "HTTP/1.1 200 OK\r\ncontent-type: application/json\r\ncontent-length: 28\r\n\r\n{\"answer\":\"done\",\"result\":1}"

abbrev pub refused_bytes : List ℕ
refused_bytes = codes "HTTP/1.1 409 Conflict\r\ncontent-type: application/json\r\ncontent-length: 137\r\n\r\n{\"answer\":\"not permitted\",\"faults\":[{\"consumer\":\"shop\",\"consumerVersion\":\"1\",\"kind\":\"missing\",\"provider\":\"stock\",\"providerVersion\":\"1\"}]}"

-- in the order of the requests
abbrev pub sent : List (List ℕ)
sent =
    done_bytes ∷ done_bytes ∷ done_bytes ∷ done_bytes ∷ done_bytes ∷ content_bytes ∷ done_bytes ∷ done_bytes ∷ refused_bytes ∷ result_bytes
    ∷ done_bytes ∷ []

-- ---- the states between them

abbrev pub new_broker : Broker
new_broker = opening (broker_primitives.digest_of office_token)

abbrev pub with_red : Broker
with_red = (put_team new_broker red (broker_primitives.digest_of red_token) false).state

abbrev pub with_shop : Broker
with_shop = (put_pacticipant with_red shop red).state

abbrev pub with_stock : Broker
with_stock = (put_pacticipant with_shop stock red).state

abbrev pub with_live : Broker
with_live = (put_environment with_stock live gated).state

abbrev pub granted : Broker
granted = (put_grant with_live red live).state

abbrev pub published : Broker
published = (put_pact granted (version shop one) stock normal_form).state

abbrev pub named_stock : Broker
named_stock = (put_version published (version stock one) None).state

abbrev pub stock_there : Broker
stock_there = (deploy named_stock live (version stock one) []).state

abbrev pub verified : Broker
verified = (report stock_there (claimed_result 1 (version stock one) true None) Result).state

abbrev pub both_there : Broker
both_there = (deploy verified live (version shop one) []).state

abbrev pub steps : List (Request × Answer)
steps =
    (request_of put_red, Done Plain) ∷ (request_of put_shop, Done Plain) ∷ (request_of put_stock, Done Plain) ∷ (request_of put_live, Done Plain) ∷ (request_of grant_live, Done Plain)
    ∷ (request_of publish, Done (Content 1)) ∷ (request_of name_stock_1, Done Plain) ∷ (request_of deploy_stock_1, Done Plain) ∷ (request_of deploy_shop_1, NotPermitted (lacks_a_result ∷ []))
    ∷ (request_of pass_stock_1, Done (Result 1)) ∷ (request_of deploy_shop_1, Done Plain) ∷ []

-- ---- who asks: the two tokens have two digests (FIPS 180-4)

digest_of-office_token : broker_primitives.digest_of office_token ≡ codes "911136037767135847f042ad4530b5746995d41379f7595f8638550348fe019c"
unfolding first_words schedule rounds compress hash_after digest_bytes sha256 hex_on_literals
digest_of-office_token = refl

digest_of-red_token : broker_primitives.digest_of red_token ≡ codes "e0245048fb374c9d23c4bf9a4a5988cf946926a7183bce773b93b1e4c7a461f6"
unfolding first_words schedule rounds compress hash_after digest_bytes sha256 hex_on_literals
digest_of-red_token = refl

digest_of-office_not_red : broker_primitives.digest_of office_token ≢ broker_primitives.digest_of red_token
digest_of-office_not_red same =
    other_text (codes "911136037767135847f042ad4530b5746995d41379f7595f8638550348fe019c") (codes "e0245048fb374c9d23c4bf9a4a5988cf946926a7183bce773b93b1e4c7a461f6") refl
    (sym digest_of-office_token ∙ same ∙ digest_of-red_token)

IsCallerOfDigest-red_unknown : IsCallerOfDigest new_broker (broker_primitives.digest_of red_token) None
IsCallerOfDigest-red_unknown Office is = digest_of-office_not_red is
IsCallerOfDigest-red_unknown (Team t) is = absurd (cc)

-- no team has a token at first, and then one has
TeamsDiffer-new_broker : TeamsDiffer new_broker
TeamsDiffer-new_broker digest a b is also = absurd (cc)

TeamsDiffer-with_red : TeamsDiffer with_red
TeamsDiffer-with_red digest a b is also = red_alone digest a is ∙ sym (red_alone digest b also)
  where
    red_alone : (digest team : Text) → with_red.teams team ≡ Some digest → team ≡ red
    red_alone digest team has = by (same_text team red) refl has
      where
        by : (b : Bool) → same_text team red ≡ b → (if b then Some (broker_primitives.digest_of red_token) else None) ≡ Some digest → team ≡ red
        by true same is = same_text-equal team red same
        by false same is = absurd (cc)

-- ---- the responses' bytes

response-done : response done_bytes ≡ answer_response (Done Plain) false
unfolding digits phrase status_line content_fields own_field close_field sent_part serde_json_on_literals
response-done = refl

response-content : response content_bytes ≡ answer_response (Done (Content 1)) false
unfolding digits phrase status_line content_fields own_field close_field sent_part serde_json_on_literals
response-content = refl

response-result : response result_bytes ≡ answer_response (Done (Result 1)) false
unfolding digits phrase status_line content_fields own_field close_field sent_part serde_json_on_literals
response-result = refl

response-refused : response refused_bytes ≡ answer_response (NotPermitted (lacks_a_result ∷ [])) false
unfolding digits phrase status_line content_fields own_field close_field sent_part serde_json_on_literals
response-refused = refl

-- ---- the gate

abbrev rows : Rows
rows = record { contracts = ((version shop one, stock), 1) ∷ []; deployed = []; released = [] }

abbrev stock_rows : Rows
stock_rows = record rows { deployed = ((live, stock, []), one) ∷ [] }

-- ---- the stream

abbrev Turn : PlainRequest → Broker → Answer → Broker → Type 0
Turn q s answer t = Step broker_primitives s (Some q.token) q.command (record { answer = answer; state = t })

Turn-put_red : Turn put_red new_broker (Done Plain) with_red
Turn-put_red = (Some Office, refl, (None, refl, (None, IsCallerOfDigest-red_unknown, refl)))

Turn-put_shop : Turn put_shop with_red (Done Plain) with_shop
Turn-put_shop = (Some Office, refl, (None, refl, refl))

Turn-put_stock : Turn put_stock with_shop (Done Plain) with_stock
Turn-put_stock = (Some Office, refl, (None, refl, refl))

Turn-put_live : Turn put_live with_stock (Done Plain) with_live
Turn-put_live = (Some Office, refl, (None, refl, refl))

Turn-grant_live : Turn grant_live with_live (Done Plain) granted
Turn-grant_live = (Some Office, refl, (None, refl, refl))

Turn-publish : Turn publish granted (Done (Content 1)) published
Turn-publish = (Some (Team red), (digest_of-office_not_red, refl), (None, (IsPact shop stock normal_form, Reads-pact_file, refl), (normal_form, Reads-pact_file, refl)))

Turn-name_stock_1 : Turn name_stock_1 published (Done Plain) named_stock
Turn-name_stock_1 = (Some (Team red), (digest_of-office_not_red, refl), (None, refl, refl))

Turn-deploy_stock_1 : Turn deploy_stock_1 named_stock (Done Plain) stock_there
Turn-deploy_stock_1 = (Some (Team red), (digest_of-office_not_red, refl), (None, refl, (true, [], Judges-is_permitted named_stock (row_keys named_stock rows) (version stock one) live, refl)))

Turn-deploy_shop_1_refused : Turn deploy_shop_1 stock_there (NotPermitted (lacks_a_result ∷ [])) stock_there
Turn-deploy_shop_1_refused = (Some (Team red), (digest_of-office_not_red, refl), (None, refl, (false, lacks_a_result ∷ [], Judges-is_permitted stock_there (row_keys stock_there stock_rows) (version shop one) live, refl)))

Turn-pass_stock_1 : Turn pass_stock_1 stock_there (Done (Result 1)) verified
Turn-pass_stock_1 = (Some (Team red), (digest_of-office_not_red, refl), (None, refl, (1, refl, refl)))

Turn-deploy_shop_1 : Turn deploy_shop_1 verified (Done Plain) both_there
Turn-deploy_shop_1 = (Some (Team red), (digest_of-office_not_red, refl), (None, refl, (true, [], Judges-is_permitted verified (row_keys verified stock_rows) (version shop one) live, refl)))

-- ---- the stream

-- Each head ends at the same place, for any bytes after the body.
abbrev Ends : PlainRequest → Type 0
Ends q = (rest : List ℕ) → head_text (take head_limit (head_of q ++ (q.body ++ rest))) ≡ Some (head_of q)

Ends-put_red : Ends put_red
Ends-put_red rest = refl

Ends-put_shop : Ends put_shop
Ends-put_shop rest = refl

Ends-put_stock : Ends put_stock
Ends-put_stock rest = refl

Ends-put_live : Ends put_live
Ends-put_live rest = refl

Ends-grant_live : Ends grant_live
Ends-grant_live rest = refl

Ends-publish : Ends publish
Ends-publish rest = refl

Ends-name_stock_1 : Ends name_stock_1
Ends-name_stock_1 rest = refl

Ends-deploy_stock_1 : Ends deploy_stock_1
Ends-deploy_stock_1 rest = refl

Ends-deploy_shop_1 : Ends deploy_shop_1
Ends-deploy_shop_1 rest = refl

Ends-pass_stock_1 : Ends pass_stock_1
Ends-pass_stock_1 rest = refl

abbrev ending : Journal
ending = after both_there steps

-- the requests after the first n have these answers
abbrev Remain : ℕ → Broker → Type 0
Remain n s = Responses ByMachine (after s (take n steps)) (bytes_of (drop n requests)) (map response (drop n sent)) ending []

Remain-shop_there : Remain 10 verified
Remain-shop_there =
    answered deploy_shop_1 IsComputed-deploy_shop_1 IsAsked-deploy_shop_1 (bytes_of (drop 11 requests)) (Ends-deploy_shop_1 (bytes_of (drop 11 requests))) verified both_there (take 10 steps)
    (Done Plain) refl TeamsDiffer-with_red Turn-deploy_shop_1 done_bytes response-done (map response (drop 11 sent)) ending (refl, refl)

Remain-result : Remain 9 stock_there
Remain-result =
    answered pass_stock_1 IsComputed-pass_stock_1 IsAsked-pass_stock_1 (bytes_of (drop 10 requests)) (Ends-pass_stock_1 (bytes_of (drop 10 requests))) stock_there verified (take 9 steps)
    (Done (Result 1)) refl TeamsDiffer-with_red Turn-pass_stock_1 result_bytes response-result (map response (drop 10 sent)) ending Remain-shop_there

Remain-shop_refused : Remain 8 stock_there
Remain-shop_refused =
    answered deploy_shop_1 IsComputed-deploy_shop_1 IsAsked-deploy_shop_1 (bytes_of (drop 9 requests)) (Ends-deploy_shop_1 (bytes_of (drop 9 requests))) stock_there stock_there (take 8 steps)
    (NotPermitted (lacks_a_result ∷ [])) refl TeamsDiffer-with_red Turn-deploy_shop_1_refused refused_bytes response-refused (map response (drop 9 sent)) ending Remain-result

Remain-stock_there : Remain 7 named_stock
Remain-stock_there =
    answered deploy_stock_1 IsComputed-deploy_stock_1 IsAsked-deploy_stock_1 (bytes_of (drop 8 requests)) (Ends-deploy_stock_1 (bytes_of (drop 8 requests))) named_stock stock_there (take 7 steps)
    (Done Plain) refl TeamsDiffer-with_red Turn-deploy_stock_1 done_bytes response-done (map response (drop 8 sent)) ending Remain-shop_refused

Remain-stock_1 : Remain 6 published
Remain-stock_1 =
    answered name_stock_1 IsComputed-name_stock_1 IsAsked-name_stock_1 (bytes_of (drop 7 requests)) (Ends-name_stock_1 (bytes_of (drop 7 requests))) published named_stock (take 6 steps)
    (Done Plain) refl TeamsDiffer-with_red Turn-name_stock_1 done_bytes response-done (map response (drop 7 sent)) ending Remain-stock_there

Remain-pact : Remain 5 granted
Remain-pact =
    answered publish IsComputed-publish IsAsked-publish (bytes_of (drop 6 requests)) (Ends-publish (bytes_of (drop 6 requests))) granted published (take 5 steps)
    (Done (Content 1)) refl TeamsDiffer-with_red Turn-publish content_bytes response-content (map response (drop 6 sent)) ending Remain-stock_1

Remain-grant : Remain 4 with_live
Remain-grant =
    answered grant_live IsComputed-grant_live IsAsked-grant_live (bytes_of (drop 5 requests)) (Ends-grant_live (bytes_of (drop 5 requests))) with_live granted (take 4 steps)
    (Done Plain) refl TeamsDiffer-with_red Turn-grant_live done_bytes response-done (map response (drop 5 sent)) ending Remain-pact

Remain-live : Remain 3 with_stock
Remain-live =
    answered put_live IsComputed-put_live IsAsked-put_live (bytes_of (drop 4 requests)) (Ends-put_live (bytes_of (drop 4 requests))) with_stock with_live (take 3 steps)
    (Done Plain) refl TeamsDiffer-with_red Turn-put_live done_bytes response-done (map response (drop 4 sent)) ending Remain-grant

Remain-stock : Remain 2 with_shop
Remain-stock =
    answered put_stock IsComputed-put_stock IsAsked-put_stock (bytes_of (drop 3 requests)) (Ends-put_stock (bytes_of (drop 3 requests))) with_shop with_stock (take 2 steps)
    (Done Plain) refl TeamsDiffer-with_red Turn-put_stock done_bytes response-done (map response (drop 3 sent)) ending Remain-live

Remain-shop : Remain 1 with_red
Remain-shop =
    answered put_shop IsComputed-put_shop IsAsked-put_shop (bytes_of (drop 2 requests)) (Ends-put_shop (bytes_of (drop 2 requests))) with_red with_shop (take 1 steps)
    (Done Plain) refl TeamsDiffer-with_red Turn-put_shop done_bytes response-done (map response (drop 2 sent)) ending Remain-stock

Remain-red : Remain 0 new_broker
Remain-red =
    answered put_red IsComputed-put_red IsAsked-put_red (bytes_of (drop 1 requests)) (Ends-put_red (bytes_of (drop 1 requests))) new_broker with_red (take 0 steps)
    (Done Plain) refl TeamsDiffer-new_broker Turn-put_red done_bytes response-done (map response (drop 1 sent)) ending Remain-shop

-- The eleven requests are the whole stream, and their answers are all that is written. Stock 1 is deployed, shop 1 is
-- refused, and deployed once stock 1 has passed.
pub Serves-new_broker_example : Serves ByMachine (blank (Running new_broker)) ending (Some (bytes_of requests)) (Some []) (Some []) (Some (texts (map response sent))) (record { answered = 11; ended = AtEnd })
Serves-new_broker_example = (
  bytes_of requests,
  map response sent,
  [],
  refl,
  Remain-red,
  ((refl, (refl, (refl, (refl, (refl, (refl, (refl, (refl, (refl, (refl, (refl, tt))))))))))), refl),
  refl,
  refl,
)

-- Shop 1 isn't there when it is refused, and is there in the end.
pub deployed-shop_kept_out : stock_there.deployed (live, shop, []) ≡ None
deployed-shop_kept_out = refl

pub deployed-shop_in_the_end : both_there.deployed (live, shop, []) ≡ Some one
deployed-shop_in_the_end = refl
