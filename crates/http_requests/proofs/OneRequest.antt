-- A message asks one thing.
use Rattle.std.specs.Prelude.{codes, ok_or, option_map, option_and_then, MatchOption, MatchResult}
use Rattle.std.proofs.Common.{◌≡◌, ℕ, List, [], ◌∷◌, Bool, refl, sym, ap, ap₂, subst, ◌∙◌, Option, Some, None, Result, Ok, Err}
use Rattle.serde_json.specs.{Data.{Data}, Find.{get, as_str}}
use Rattle.httparse.{specs.Grammar.{RequestHead}, proofs.GrammarLemmas.{request_unique}}
use Rattle.form_urlencoded.specs.Form.{raw_pairs}
use Rattle.percent_encoding.specs.Percent.{percent_decode}
use Rattle.broker_core.specs.{Text.{Text}, declared.command.Command.{Command}, declared.command.FormFault.{FormFault}, declared.command.Version.{Version}}
use Rattle.http_messages.specs.{Fields.{values_named}, Heads.{Judgement, fields_of, served_method, is_last_head}, Message.{Message}}
use Rattle.http_messages.{specs.declared.head.Refusal.{Refusal}, proofs.MessagesLemmas.{IsJudged-unique}}
use Rattle.http_routes.specs.{Routes.{resource_of, segment}, declared.Resource.{Resource}, declared.Operation.{Operation}}
use Rattle.http_requests.specs.{Names.{CommandPart, IsNamed, IsPathName}, Queries.{IsOnce, IsQueryName, values_at}}
use Rattle.http_requests.specs.Bodies.{IsData, only_object, non_null, or_empty, IsTextNamed, IsNameField, IsGivenName, IsOptionalName, IsTokenText, IsTokenField, IsTruthField, IsGivenTruth, IsOptionalTruth}
use Rattle.http_requests.specs.Tokens.{IsTokenOf}
use Rattle.http_requests.specs.Commands.{AndThen, WithFields, IsMade, IsTwoNames, IsPactNames, IsPactPath, IsVersionFields, IsVersionQuery, IsMove, IsSupport, IsGrant, IsParsed, IsCommand, or_malformed}
use Rattle.http_requests.specs.Requests.{IsRequest, ByHead, ByResource, ByAsked, ByOperation, path_of, query_of, operation_asked}
use Rattle.http_requests.specs.declared.requests.Request.{Request}
use Rattle.broker_core.specs.declared.command.Command.TheVariants as command
use Rattle.broker_core.specs.declared.command.FormFault.TheVariants as fault
use Rattle.http_routes.specs.declared.Operation.TheVariants as operation
use Rattle.http_requests.specs.declared.requests.Request.TheVariants as request

-- no two are such
record IsOne {A : Type 0} (P : A → Type 0) : Type 0 where
  pub same : (a b : A) → P a → P b → a ≡ b

-- ---- parts, one after another

module _ {A B : Type 0} (IsPart : CommandPart A) (rest : A → CommandPart B) where
  abbrev GoesOn : Result A FormFault → CommandPart B
  GoesOn part r = MatchResult part (λ a. rest a r) (λ f. r ≡ Err f)

  GoesOn-unique : ((part : A) → IsOne (rest part)) → (part : Result A FormFault) (a b : Result B FormFault) → GoesOn part a → GoesOn part b → a ≡ b
  GoesOn-unique each (Err f) a b p q = p ∙ sym q
  GoesOn-unique each (Ok part) a b p q = (each part).same a b p q

  AndThen-unique : IsOne IsPart → ((part : A) → IsOne (rest part)) → IsOne (AndThen IsPart rest)
  AndThen-unique one each = record { same = λ a b x y. GoesOn-unique each y.0 a b (subst (λ (part : Result A FormFault). GoesOn part a) (one.same x.0 y.0 x.1 y.1) x.2) y.2 }

IsMade-unique : {A : Type 0} (made : A) → IsOne (IsMade made)
IsMade-unique made = record { same = λ a b p q. p ∙ sym q }

-- ---- names

IsNamed-unique : (text : Text) (a b : Option Text) → IsNamed text a → IsNamed text b → a ≡ b
IsNamed-unique text (Some x) (Some y) p q = ap Some (p.0 ∙ sym q.0)
IsNamed-unique text (Some x) None p q = absurd (q p.1 p.2)
IsNamed-unique text None (Some y) p q = absurd (p q.1 q.2)
IsNamed-unique text None None p q = refl

IsPathName-unique : (index : ℕ) (path : Text) → IsOne (IsPathName index path)
IsPathName-unique index path = record { same = λ a b x y. x.2 ∙ ap (λ name. ok_or name fault.Name) (IsNamed-unique (percent_decode (segment index path)) x.0 y.0 x.1 y.1) ∙ sym y.2 }

IsOnce-unique : (values : List (List ℕ)) (a b : Option Text) → IsOnce values a → IsOnce values b → a ≡ b
IsOnce-unique [] a b p q = p ∙ sym q
IsOnce-unique (value ∷ []) a b p q = IsNamed-unique value a b p q
IsOnce-unique (value ∷ other ∷ values) a b p q = p ∙ sym q

IsQueryName-unique : (key query : Text) → IsOne (IsQueryName key query)
IsQueryName-unique key query = record { same = λ a b x y. x.2 ∙ ap (λ name. ok_or name (fault.Query key)) (IsOnce-unique (values_at key (raw_pairs query)) x.0 y.0 x.1 y.1) ∙ sym y.2 }

-- ---- the fields of a body

IsData-unique : (body : List ℕ) (a b : Option Data) → IsData body a → IsData body b → a ≡ b
IsData-unique body (Some d) (Some e) p q = sym p.1 ∙ q.1
IsData-unique body (Some d) None p q = sym p.1 ∙ q p.0
IsData-unique body None (Some e) p q = sym (p q.0) ∙ q.1
IsData-unique body None None p q = refl

module _ {B : Type 0} (body : Text) (rest : Data → CommandPart B) where
  abbrev Reads : Option Data → CommandPart B
  Reads object r = MatchOption object (r ≡ Err fault.Json) (λ fields. rest fields r)

  Reads-unique : ((fields : Data) → IsOne (rest fields)) → (object : Option Data) (a b : Result B FormFault) → Reads object a → Reads object b → a ≡ b
  Reads-unique each None a b p q = p ∙ sym q
  Reads-unique each (Some fields) a b p q = (each fields).same a b p q

  WithFields-unique : ((fields : Data) → IsOne (rest fields)) → IsOne (WithFields body rest)
  WithFields-unique each = record {
    same = λ a b x y.
        let one : x.0 ≡ y.0 = x.1.2 ∙ ap only_object (IsData-unique body x.1.0 y.1.0 x.1.1 y.1.1) ∙ sym y.1.2 in
        Reads-unique each y.0 a b (subst (λ (object : Option Data). Reads object a) one x.2) y.2;
  }

IsTextNamed-unique : (text : Option Text) (a b : Option Text) → IsTextNamed text a → IsTextNamed text b → a ≡ b
IsTextNamed-unique None a b p q = p ∙ sym q
IsTextNamed-unique (Some text) a b p q = IsNamed-unique text a b p q

IsNameField-unique : (key : Text) (fields : Data) → IsOne (IsNameField key fields)
IsNameField-unique key fields = record { same = λ a b x y. x.2 ∙ ap (λ name. ok_or name (fault.Field key)) (IsTextNamed-unique (option_and_then as_str (get key fields)) x.0 y.0 x.1 y.1) ∙ sym y.2 }

IsGivenName-unique : (key : Text) (value : Option Data) (a b : Result (Option Text) FormFault) → IsGivenName key value a → IsGivenName key value b → a ≡ b
IsGivenName-unique key None a b p q = p ∙ sym q
IsGivenName-unique key (Some value) a b x y = x.2 ∙ ap (λ name. ok_or (option_map Some name) (fault.Field key)) (IsTextNamed-unique (as_str value) x.0 y.0 x.1 y.1) ∙ sym y.2

IsOptionalName-unique : (key : Text) (fields : Data) → IsOne (IsOptionalName key fields)
IsOptionalName-unique key fields = record { same = IsGivenName-unique key (non_null (get key fields)) }

IsTokenText-unique : (text : Option Text) (a b : Result Text FormFault) → IsTokenText text a → IsTokenText text b → a ≡ b
IsTokenText-unique None a b p q = p ∙ sym q
IsTokenText-unique (Some text) (Ok x) (Ok y) p q = ap Ok (p.0 ∙ sym q.0)
IsTokenText-unique (Some text) (Ok x) (Err f) p q = absurd (q.1 p.1)
IsTokenText-unique (Some text) (Err e) (Ok y) p q = absurd (p.1 q.1)
IsTokenText-unique (Some text) (Err e) (Err f) p q = ap Err (p.0 ∙ sym q.0)

IsTokenField-unique : (fields : Data) → IsOne (IsTokenField fields)
IsTokenField-unique fields = record { same = IsTokenText-unique (option_and_then as_str (get (codes "token") fields)) }

IsTruthField-unique : (key : Text) (fields : Data) → IsOne (IsTruthField key fields)
IsTruthField-unique key fields = record { same = λ a b p q. p ∙ sym q }

IsGivenTruth-unique : (key : Text) (value : Option Data) (a b : Result Bool FormFault) → IsGivenTruth key value a → IsGivenTruth key value b → a ≡ b
IsGivenTruth-unique key None a b p q = p ∙ sym q
IsGivenTruth-unique key (Some value) a b p q = p ∙ sym q

IsOptionalTruth-unique : (key : Text) (fields : Data) → IsOne (IsOptionalTruth key fields)
IsOptionalTruth-unique key fields = record { same = IsGivenTruth-unique key (non_null (get key fields)) }

-- ---- commands

IsTwoNames-unique : (first second : ℕ) (path : Text) → IsOne (IsTwoNames first second path)
IsTwoNames-unique first second path =
    AndThen-unique _ _ (IsPathName-unique first path) (λ a. AndThen-unique _ _ (IsPathName-unique second path) (λ b. IsMade-unique _))

IsPactNames-unique : (third : ℕ) (path : Text) → IsOne (IsPactNames third path)
IsPactNames-unique third path =
    AndThen-unique _ _ (IsTwoNames-unique 3 5 path) (λ of. AndThen-unique _ _ (IsPathName-unique third path) (λ last. IsMade-unique _))

IsPactPath-unique : (path : Text) → IsOne (IsPactPath path)
IsPactPath-unique path = AndThen-unique _ _ (IsPactNames-unique 7 path) (λ names. IsMade-unique _)

IsVersionFields-unique : (fields : Data) → IsOne (IsVersionFields fields)
IsVersionFields-unique fields =
    AndThen-unique _ _ (IsNameField-unique (codes "pacticipant") fields) (λ pacticipant. AndThen-unique _ _ (IsNameField-unique (codes "version") fields) (λ v. IsMade-unique _))

IsVersionQuery-unique : (query : Text) → IsOne (IsVersionQuery query)
IsVersionQuery-unique query =
    AndThen-unique _ _ (IsQueryName-unique (codes "pacticipant") query) (λ pacticipant. AndThen-unique _ _ (IsQueryName-unique (codes "version") query) (λ v. IsMade-unique _))

IsGrant-unique : (make : Text → Text → Command) (path : Text) → IsOne (IsGrant make path)
IsGrant-unique make path = AndThen-unique _ _ (IsTwoNames-unique 3 5 path) (λ names. IsMade-unique _)

IsMove-unique : (make : Text → Version → Option Text → Command) (path body : Text) → IsOne (IsMove make path body)
IsMove-unique make path body =
    AndThen-unique _ _ (IsPathName-unique 2 path) (λ environment.
    AndThen-unique _ _ (WithFields-unique body _ (λ fields. AndThen-unique _ _ (IsVersionFields-unique fields) (λ v. AndThen-unique _ _ (IsOptionalName-unique (codes "instance") fields) (λ i. IsMade-unique _))))
    (λ moved. IsMade-unique _))

IsSupport-unique : (make : Text → Version → Command) (path body : Text) → IsOne (IsSupport make path body)
IsSupport-unique make path body =
    AndThen-unique _ _ (IsPathName-unique 2 path) (λ environment. AndThen-unique _ _ (WithFields-unique body _ IsVersionFields-unique) (λ v. IsMade-unique _))

IsParsed-unique : (asked : Operation) (path query body : Text) → IsOne (IsParsed asked path query body)
IsParsed-unique operation.PutTeam path query body =
    AndThen-unique _ _ (IsPathName-unique 2 path) (λ team. AndThen-unique _ _ (WithFields-unique body _ IsTokenField-unique) (λ token. IsMade-unique _))
IsParsed-unique operation.PutPacticipant path query body =
    AndThen-unique _ _ (IsPathName-unique 2 path) (λ pacticipant. AndThen-unique _ _ (WithFields-unique body _ (IsNameField-unique (codes "team"))) (λ team. IsMade-unique _))
IsParsed-unique operation.PutEnvironment path query body =
    AndThen-unique _ _ (IsPathName-unique 2 path) (λ environment.
    AndThen-unique _ _ (WithFields-unique body _ (λ fields. AndThen-unique _ _ (IsTruthField-unique (codes "gated") fields) (λ gated. AndThen-unique _ _ (IsOptionalTruth-unique (codes "strict") fields) (λ strict. IsMade-unique _))))
    (λ marked. IsMade-unique _))
IsParsed-unique operation.PutGrant path query body = IsGrant-unique command.PutGrant path
IsParsed-unique operation.DeleteGrant path query body = IsGrant-unique command.DeleteGrant path
IsParsed-unique operation.PutVersion path query body =
    AndThen-unique _ _ (IsTwoNames-unique 2 4 path) (λ names. AndThen-unique _ _ (WithFields-unique (or_empty body) _ (IsOptionalName-unique (codes "branch"))) (λ branch. IsMade-unique _))
IsParsed-unique operation.PutPact path query body = AndThen-unique _ _ (IsPactPath-unique path) (λ of. IsMade-unique _)
IsParsed-unique operation.GetPact path query body = AndThen-unique _ _ (IsPactPath-unique path) (λ of. IsMade-unique _)
IsParsed-unique operation.GetBranchPact path query body = AndThen-unique _ _ (IsPactNames-unique 7 path) (λ names. IsMade-unique _)
IsParsed-unique operation.PostResult path query body =
    AndThen-unique _ _ (IsPactPath-unique path) (λ of.
    AndThen-unique _ _ (WithFields-unique body _ (λ fields.
    AndThen-unique _ _ (IsNameField-unique (codes "providerApplicationVersion") fields) (λ v.
    AndThen-unique _ _ (IsTruthField-unique (codes "success") fields) (λ success.
    AndThen-unique _ _ (IsOptionalName-unique (codes "run") fields) (λ run. IsMade-unique _)))))
    (λ returned. IsMade-unique _))
IsParsed-unique operation.PostReplies path query body =
    AndThen-unique _ _ (IsPactPath-unique path) (λ of.
    AndThen-unique _ _ (WithFields-unique body _ (λ fields.
    AndThen-unique _ _ (IsNameField-unique (codes "providerApplicationVersion") fields) (λ v.
    AndThen-unique _ _ (IsOptionalName-unique (codes "run") fields) (λ run. IsMade-unique _))))
    (λ report. IsMade-unique _))
IsParsed-unique operation.Deploy path query body = IsMove-unique command.Deploy path body
IsParsed-unique operation.Undeploy path query body = IsMove-unique command.Undeploy path body
IsParsed-unique operation.Release path query body = IsSupport-unique command.Release path body
IsParsed-unique operation.EndSupport path query body = IsSupport-unique command.EndSupport path body
IsParsed-unique operation.GetEnvironment path query body = AndThen-unique _ _ (IsPathName-unique 2 path) (λ environment. IsMade-unique _)
IsParsed-unique operation.CanIDeploy path query body =
    AndThen-unique _ _ (IsVersionQuery-unique query) (λ v. AndThen-unique _ _ (IsQueryName-unique (codes "environment") query) (λ environment. IsMade-unique _))
IsParsed-unique operation.GetMatrix path query body = AndThen-unique _ _ (IsVersionQuery-unique query) (λ v. IsMade-unique _)

IsCommand-unique : (asked : Operation) (path query body : Text) (a b : Command) → IsCommand asked path query body a → IsCommand asked path query body b → a ≡ b
IsCommand-unique asked path query body a b x y = x.2 ∙ ap or_malformed ((IsParsed-unique asked path query body).same x.0 y.0 x.1 y.1) ∙ sym y.2

-- ---- requests

IsTokenOf-unique : (values : List (List ℕ)) (a b : Option (List ℕ)) → IsTokenOf values a → IsTokenOf values b → a ≡ b
IsTokenOf-unique values (Some x) (Some y) p q = sym p.0 ∙ q.0
IsTokenOf-unique values (Some x) None p q = absurd (q x p.0 p.1)
IsTokenOf-unique values None (Some y) p q = absurd (p y q.0 q.1)
IsTokenOf-unique values None None p q = refl

module _ (h : RequestHead) (body : List ℕ) where
  ByOperation-unique : (asked : Operation) (a b : Request) → ByOperation h body asked a → ByOperation h body asked b → a ≡ b
  ByOperation-unique asked a b x y =
      x.4
      ∙ ap₂ (λ (token : Option (List ℕ)) (c : Command). request.Asks token c (is_last_head h)) (IsTokenOf-unique (values_named (codes "authorization") (fields_of h)) x.1 y.1 x.3 y.3)
      (IsCommand-unique asked (path_of h.target) (query_of h.target) body x.0 y.0 x.2 y.2)
      ∙ sym y.4

  ByAsked-unique : (resource : Resource) (asked : Option Operation) (a b : Request) → ByAsked h body resource asked a → ByAsked h body resource asked b → a ≡ b
  ByAsked-unique resource None a b p q = p ∙ sym q
  ByAsked-unique resource (Some asked) a b p q = ByOperation-unique asked a b p q

  ByResource-unique : (resource : Option Resource) (a b : Request) → ByResource h body resource a → ByResource h body resource b → a ≡ b
  ByResource-unique None a b p q = p ∙ sym q
  ByResource-unique (Some resource) a b p q = ByAsked-unique resource (operation_asked resource (served_method h.method)) a b p q

ByHead-unique : (m : Message) (is_bodiless : Bool) (size : Result ℕ Refusal) (a b : Request) → ByHead m is_bodiless size a → ByHead m is_bodiless size b → a ≡ b
ByHead-unique m is_bodiless (Err refusal) a b p q = p ∙ sym q
ByHead-unique m is_bodiless (Ok size) a b x y =
    let head : x.0 ≡ y.0 = (request_unique m.head x.0 y.0 [] [] x.1.reads y.1.reads).0 in
    ByResource-unique y.0 m.body (resource_of (path_of y.0.target)) a b
    (subst (λ (h : RequestHead). ByResource h m.body (resource_of (path_of h.target)) a) head x.2) y.2

-- a message asks one thing
pub IsRequest-unique : (m : Message) (a b : Request) → IsRequest m a → IsRequest m b → a ≡ b
unfolding IsRequest
IsRequest-unique m a b x y =
    ByHead-unique m y.0.is_bodiless y.0.body a b
    (subst (λ (judged : Judgement). ByHead m judged.is_bodiless judged.body a) (IsJudged-unique m.head x.0 y.0 x.1 y.1) x.2) y.2
