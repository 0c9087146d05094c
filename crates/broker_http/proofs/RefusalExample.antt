-- A worked example from the bytes of a request to the bytes of its answer, computed from the definitions: a deployment
-- into a strict environment is refused, since the only result between the two versions is a claim, and nothing changes.
use Rattle.std.specs.{Fmt.{digits}, Prelude.{codes, Some, None}}
use Rattle.std.proofs.Common.{◌≡◌, ◌∙◌, ◌⊎◌, ap, ap₂, sym, subst, append-nil, Bool, ℕ, List, [], ◌∷◌, ◌++◌, true, false, refl, inl, inr, if◌then◌else◌}
use Rattle.broker_core.specs.{Change.{Transition}, Laws.{TeamsDiffer}, declared.answer.Answer.{Answer}, declared.command.Command.TheVariants.{Deploy}}
use Rattle.broker_core.specs.{declared.policy.Caller.TheVariants.{Team}, Machine.{Request, Step}, State.{State as Broker, claimed_result}}
use Rattle.broker_core.{specs.Text.{Text, put_at, same_pair, same_place, same_text, same_version, version}, proofs.Once.{StepOnce-holds}}
use Rattle.broker_core.proofs.Judgement.{Rows, row_keys, Judges-is_permitted, same_text-equal}
use Rattle.command_facts.specs.Primitives.{broker_primitives}
use Rattle.answer_texts.proofs.TextExamples.{is_claimed, refused_for_a_claim, answer_text-of_refusal}
use Rattle.http_responses.specs.Head.{phrase, status_line, content_fields, own_field, close_field}
use Rattle.http_responses.specs.Responses.{Response, answer_response, response_of, sent_part}
use Rattle.http_messages.{specs.Messages.{BeginsWithMessage}, proofs.MessagesLemmas.{BeginsWithMessage-unique, HasNoMessage-empty}}
use Rattle.http_requests.specs.{Requests.{IsRequest}, declared.requests.Request.{Request as Asked}, declared.requests.Request.TheVariants.{Asks}}
use Rattle.http_requests.proofs.OneRequest.{IsRequest-unique}
use Rattle.http_requests.proofs.RequestExamples.{deployment_head, deployment_body, deployment_message, BeginsWithMessage-deployment, IsRequest-deployment}
use Rattle.broker_http.specs.{Calls.{ByMachine}, Exchange.{Responds}, Journal.{Journal, JournalStep, blank, written}, Serving.{Mode, ModeStep, Serves}}
use Rattle.broker_http.specs.{Serving.Mode.{Running, IsStopped}, Stream.{Responses, StreamEnds, texts}, declared.served.Ended.{Ended}}
use Rattle.broker_http.specs.{declared.served.Ended.TheVariants.{AtEnd}, declared.served.Served.{Served}}
use Rattle.broker_http.proofs.OneReading.{StreamEnds-no_message, Message-ext}

abbrev pub red : Text
red = codes "red"

abbrev pub red_token : Text
red_token = codes "red-team-token-01"

abbrev pub shop : Text
shop = codes "shop"

abbrev pub stock : Text
stock = codes "stock"

abbrev pub prod : Text
prod = codes "prod"

abbrev pub one : Text
one = codes "1"

-- Red owns shop and has a grant for prod, which is strict. Shop 1 has a contract with stock. Stock 1 is deployed in
-- prod; its sender claims that it passes for this contract, and the broker checked nothing.
abbrev pub claims_only : Text → Broker
claims_only office = record {
  office = office;
  teams = put_at same_text (λ _. None) red (Some (broker_primitives.digest_of red_token));
  pacticipants = put_at same_text (put_at same_text (λ _. None) stock (Some (codes "blue"))) shop (Some red);
  versions = version shop one ∷ version stock one ∷ [];
  branches = λ _. false;
  environments = put_at same_text (λ _. None) prod (Some (record { gated = true; strict = true }));
  grants = put_at (same_pair same_text same_text) (λ _. false) (red, prod) true;
  contents = codes "the pact of shop with stock" ∷ [];
  contracts = put_at (same_pair same_version same_text) (λ _. None) (version shop one, stock) (Some 1);
  results = claimed_result 1 (version stock one) true None ∷ [];
  deployed = put_at same_place (λ _. None) (prod, stock, []) (Some one);
  released = λ _. false;
}

abbrev rows : Rows
rows = record { contracts = ((version shop one, stock), 1) ∷ []; deployed = ((prod, stock, []), one) ∷ []; released = [] }

-- ---- the command and its answer

abbrev pub deploys : Request
deploys = record { token = Some red_token; command = Deploy prod (version shop one) None }

-- red's token isn't the office's
pub Step-claim_refused : (office : Text) → ¬ (office ≡ broker_primitives.digest_of red_token)
    → Step broker_primitives (claims_only office) deploys.token deploys.command (record { answer = refused_for_a_claim; state = claims_only office })
Step-claim_refused office other = (Some (Team red), (other, refl), (None, refl, (false, is_claimed ∷ [], Judges-is_permitted (claims_only office) (row_keys (claims_only office) rows) (version shop one) prod, refl)))

-- ---- the answer's bytes

abbrev pub refusal_bytes : List ℕ
refusal_bytes = codes "HTTP/1.1 409 Conflict\r\ncontent-type: application/json\r\ncontent-length: 137\r\n\r\n{\"answer\":\"not permitted\",\"faults\":[{\"consumer\":\"shop\",\"consumerVersion\":\"1\",\"kind\":\"claimed\",\"provider\":\"stock\",\"providerVersion\":\"1\"}]}"

abbrev refusal : Response
refusal = record { text = refusal_bytes; closes = false }

abbrev body : List ℕ
body = codes "{\"answer\":\"not permitted\",\"faults\":[{\"consumer\":\"shop\",\"consumerVersion\":\"1\",\"kind\":\"claimed\",\"provider\":\"stock\",\"providerVersion\":\"1\"}]}"

refusal-with_head : refusal ≡ response_of 409 [] false false body
unfolding digits phrase status_line content_fields own_field close_field sent_part
refusal-with_head = refl

refusal-answer_response : refusal ≡ answer_response refused_for_a_claim false
refusal-answer_response = refusal-with_head ∙ ap (response_of 409 [] false false) (sym answer_text-of_refusal)

-- one team has a token, so no two have one
teams-red_only : (digest team : Text) → put_at same_text (λ _. None) red (Some (broker_primitives.digest_of red_token)) team ≡ Some digest → team ≡ red
teams-red_only digest team has = by (same_text team red) refl has
  where
    by : (b : Bool) → same_text team red ≡ b → (if b then Some (broker_primitives.digest_of red_token) else None) ≡ Some digest → team ≡ red
    by true same is = same_text-equal team red same
    by false same is = absurd (cc)

TeamsDiffer-claims_only : (office : Text) → TeamsDiffer (claims_only office)
TeamsDiffer-claims_only office digest a b is also = teams-red_only digest a is ∙ sym (teams-red_only digest b also)

-- ---- the stream

abbrev ending : Text → Journal
ending office = record { mode = Running (claims_only office); steps = (deploys, refused_for_a_claim) ∷ [] }

-- The stream is that one request, and its answer is all that is written. The machine is in the state in which it was.
pub Serves-refused_example : (office : Text) → ¬ (office ≡ broker_primitives.digest_of red_token)
    → Serves ByMachine (blank (Running (claims_only office))) (ending office) (Some (deployment_head ++ deployment_body)) (Some []) (Some []) (Some refusal_bytes) (record { answered = 1; ended = AtEnd })
Serves-refused_example office other = (
  deployment_head ++ deployment_body,
  refusal ∷ [],
  [],
  refl,
  (
    deployment_message,
    ending office,
    [],
    BeginsWithMessage-deployment,
    (_, IsRequest-deployment, (refused_for_a_claim, (inl (refl, Step-claim_refused office other, TeamsDiffer-claims_only office), refl), refusal-answer_response)),
    (refl, refl),
  ),
  ((refl, tt), refl),
  refl,
  refl,
)

-- ---- and no other answer is a step

module _ (office : Text) (other : ¬ (office ≡ broker_primitives.digest_of red_token)) where
  abbrev IsRefused : Answer → Mode → List (Request × Answer) → Type 0
  IsRefused answer next steps = (answer ≡ refused_for_a_claim) × (next ≡ Running (claims_only office)) × (steps ≡ (deploys, refused_for_a_claim) ∷ [])

  ModeStep-refused_or_no_step : (answer : Answer) (next : Mode) (steps : List (Request × Answer)) → ModeStep (Running (claims_only office)) deploys.token deploys.command answer next
      → steps ≡ written [] deploys.token deploys.command answer → IsRefused answer next steps ⊎ (steps ≡ [])
  ModeStep-refused_or_no_step answer (Running t) steps (inl it) are =
      elim (StepOnce-holds broker_primitives (λ _. false) deploys.command tt (claims_only office) deploys.token (record { answer = answer; state = t }) (record { answer = refused_for_a_claim; state = claims_only office }) (TeamsDiffer-claims_only office) it.1 (Step-claim_refused office other)) [
        | inl same ↦
            let returned : answer ≡ refused_for_a_claim = ap (λ (out : Transition). out.answer) same in
            inl (returned, ap (λ (out : Transition). Running out.state) same, are ∙ ap (written [] deploys.token deploys.command) returned)
        | inr (inl wrong) ↦ absurd (let never : false ≡ true = wrong.2 in cc)
        | inr (inr wrong) ↦ absurd (let never : false ≡ true = wrong.2 in cc)
      ]
  ModeStep-refused_or_no_step answer (Running t) steps (inr (inl it)) are = inr (are ∙ ap (written [] deploys.token deploys.command) it.0)
  ModeStep-refused_or_no_step answer (Running t) steps (inr (inr it)) are = inr (are ∙ ap (written [] deploys.token deploys.command) it.0)
  ModeStep-refused_or_no_step answer (IsStopped u of failed) steps it are = inr (are ∙ ap (written [] deploys.token deploys.command) it.0)

  abbrev IsRefusedBy : Response → Journal → Type 0
  IsRefusedBy response last = ((response ≡ refusal) × (last ≡ ending office)) ⊎ (last.steps ≡ [])

  -- the message asks for this command, so it is refused, or there is no step
  Responds-refused : (asked : Asked) (response : Response) (last : Journal) → asked ≡ Asks (Some red_token) (Deploy prod (version shop one) None) false
      → Responds JournalStep (blank (Running (claims_only office))) asked response last → IsRefusedBy response last
  Responds-refused asked response last is responds = go (subst (λ a. Responds JournalStep (blank (Running (claims_only office))) a response last) is responds)
    where
      go : Responds JournalStep (blank (Running (claims_only office))) (Asks (Some red_token) (Deploy prod (version shop one) None) false) response last → IsRefusedBy response last
      go (answer, it, sent) = elim (ModeStep-refused_or_no_step answer last.mode last.steps it.0 it.1) [
        | inl refused ↦ inl (
          sent ∙ ap (λ a. answer_response a false) refused.0 ∙ sym refusal-answer_response,
          ap₂ (λ (mode : Mode) (steps : List (Request × Answer)). let made : Journal = record { mode = mode; steps = steps } in made) refused.1 refused.2,
        )
        | inr none ↦ inr none
      ]

  -- the one message is answered, and then there is none
  answered : (stream : List ℕ) (responses : List Response) (last : Journal) (rest : List ℕ) (ended : Ended) → stream ≡ deployment_head ++ deployment_body
      → Responses ByMachine (blank (Running (claims_only office))) stream responses last rest → StreamEnds ended responses rest
      → (response : Response) × (responses ≡ response ∷ []) × IsRefusedBy response last
  answered stream [] last rest ended is it ends =
      absurd (StreamEnds-no_message ended (deployment_head ++ deployment_body) deployment_message [] (subst (StreamEnds ended []) (it.1 ∙ is) ends) BeginsWithMessage-deployment)
  answered stream (response ∷ more) last rest ended is (m, u, after, begins, exchange, tail) ends =
      let unique = BeginsWithMessage-unique (deployment_head ++ deployment_body) after [] m deployment_message (subst (λ l. BeginsWithMessage l m after) is begins) BeginsWithMessage-deployment in
      let same : m ≡ deployment_message = Message-ext m deployment_message unique.0 unique.1 in
      let asked = IsRequest-unique deployment_message exchange.0 _ (subst (λ n. IsRequest n exchange.0) same exchange.1) IsRequest-deployment in
      let over = no_more more u last rest (subst (λ l. Responses ByMachine u l more last rest) unique.2 tail) in
      (response, ap (λ rs. response ∷ rs) over.0, subst (IsRefusedBy response) (sym over.1) (Responds-refused exchange.0 response u asked exchange.2))
    where
      no_more : (more : List Response) (u last : Journal) (rest : List ℕ) → Responses ByMachine u [] more last rest → (more ≡ []) × (last ≡ u)
      no_more [] u last rest it = (refl, it.0)
      no_more (x ∷ xs) u last rest it = absurd (HasNoMessage-empty it.0 it.2 it.3)

  -- However that stream is served, this is all that is written and the state stays; or there was no step, since memory
  -- or the store failed.
  pub Serves-no_other_answer : (served : Served) (last : Journal) (out : List ℕ)
      → Serves ByMachine (blank (Running (claims_only office))) last (Some (deployment_head ++ deployment_body)) (Some []) (Some []) (Some out) served
      → ((out ≡ refusal_bytes) × (last ≡ ending office)) ⊎ (last.steps ≡ [])
  Serves-no_other_answer served last out (stream, responses, rest, consumed, it, ends, count, sent) =
      let found = answered stream responses last rest served.ended (sym (append-nil stream) ∙ sym consumed) it ends in
      elim found.2 [
        | inl refused ↦ inl (sent ∙ ap texts found.1 ∙ ap (λ response. texts (response ∷ [])) refused.0, refused.1)
        | inr none ↦ inr none
      ]
