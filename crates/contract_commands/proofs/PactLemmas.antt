-- What the commands on contracts lead to, from what was read.
use Rattle.std.specs.{List.{position_or_len}, Option.{option_map_or}, Prelude.{filter_map, option_and_then, Result, Ok, Err}}
use Rattle.std.proofs.Common.{◌≡◌, ℕ, ◌+◌, ◌≤◌, List, [], ◌∷◌, ◌++◌, length, Bool, true, false, not, ◌&&◌, ◌||◌, cond, is_some, Option, Some, None, refl, sym, ap, ◌∙◌, subst, arith, if◌then◌else◌}
use Rattle.broker_core.specs.{Text.{Text, same_text, same_pair, same_version, put_at}, State.{State}, Policy.{allows}, Limit.{has_room}}
use Rattle.broker_core.specs.Change.{Transition, unchanged_with, put_pact, republished, text_of, can_name, with_version, with_content, is_stored, content_number}
use Rattle.broker_core.specs.Request.{consumer_version, Access, contract_of, first_absent, unless, refused, refusal, has_grant, is_allowed, first_missing}
use Rattle.broker_core.specs.{Machine.{FindsFault, StepOfCaller, fault_of_reading}, Machine.Reading.{IsPact}, declared.policy.Caller.{Caller}}
use Rattle.broker_core.specs.{declared.policy.Rule.TheVariants.{OwnerToPublish, OwnerOrOfficeToRead}, declared.command.Command.{Command}}
use Rattle.broker_core.specs.{declared.command.Command.TheVariants.{PutPact, GetPact}, declared.command.PactPath.{PactPath}, declared.command.Version.{Version}}
use Rattle.broker_core.specs.{declared.command.FormFault.{FormFault}, declared.answer.Answer.{Answer}, declared.answer.Answer.TheVariants.{Done, Full, BadForm}}
use Rattle.broker_core.specs.{declared.answer.Detail.TheVariants.{Content}, declared.policy.Rule.{Rule}}
use Rattle.broker_core.proofs.Effects.{versions_with, contents_with, with_version-versions_with, with_content-contents_with}
use Rattle.content_store.{specs.Contents.{is_among}, proofs.TextNumbers.{same_itself, position_or_len-absent}}
use Rattle.contract_tables.specs.Verified.{AddsContract}
use Rattle.command_facts.specs.{declared.reading.FileReadFault.TheVariants.{Form}, Primitives.{broker_primitives}}
use Rattle.command_facts.proofs.CallerSteps.{StepOfCaller-refused, StepOfCaller-effect}
use Rattle.contract_commands.specs.Numbering.{NamesAs}
use Rattle.contract_commands.specs.Pacts.{AreSidesRead, missing_side, missing_part, Admits, IsPlaceRead, CanPublish, CanRecord, with_contract, Publishes, AsksContract, Reaches, ShowsReached}
use Rattle.contract_commands.specs.{declared.numbers.VersionNumber.{VersionNumber}, declared.sides.ContractPlace.{ContractPlace}, declared.sides.Sides.{Sides}}
use Rattle.broker_core.specs.declared.command.FormFault.TheVariants as fault
use Rattle.broker_core.specs.declared.answer.Missing.TheVariants as missing

-- ---- refusals

module _ (s : State) (caller : Caller) (path : PactPath) (text : Text) where
  -- a publication is refused as its two sides say
  pub refusal-put_pact : (file : Text) (sides : Sides) → AreSidesRead s caller OwnerToPublish (path.consumer ∷ []) path.provider path.consumer sides
      → refusal s caller (PutPact path file) ≡ refused (PutPact path file) (missing_side sides None) sides.is_allowed
  refusal-put_pact file sides h =
      λ i. refused (PutPact path file) (unless (h.provider_is i) missing.Pacticipant (unless (h.consumer_is i) missing.Pacticipant None)) (h.may_is (has_grant s caller None) i)

  cond-both_true : (b c : Bool) → b ≡ true → c ≡ true → ◌≡◌ {A = Option FormFault} None (cond (b && c) None (Some fault.Names))
  cond-both_true b c h k = λ i. cond (sym h i && sym k i) None (Some fault.Names)

  FindsFault-none : (file : Text) → broker_primitives.Reads file (IsPact path.consumer path.provider text) → FindsFault broker_primitives (PutPact path file) None
  FindsFault-none file reads = (IsPact path.consumer path.provider text, reads, cond-both_true (same_text path.consumer path.consumer) (same_text path.provider path.provider) (same_itself path.consumer) (same_itself path.provider))

  pub Publishes-refused : (answer : Answer) → ((file : Text) → refusal s caller (PutPact path file) ≡ Some answer) → Publishes s caller path text (unchanged_with s answer)
  Publishes-refused answer is file reads = StepOfCaller-refused s caller (PutPact path file) (FindsFault-none file reads) answer (is file)

  pub Publishes-put_pact : (out : Transition) → ((file : Text) → refusal s caller (PutPact path file) ≡ None) → out ≡ put_pact s (consumer_version path) path.provider text → Publishes s caller path text out
  Publishes-put_pact out none is file reads = StepOfCaller-effect s caller (PutPact path file) (FindsFault-none file reads) out (none file) (text, reads, is)

-- the form is at fault
pub StepOfCaller-form_fault : (s : State) (caller : Caller) (path : PactPath) (file : Text) (found : FormFault) → FindsFault broker_primitives (PutPact path file) (Some found) → StepOfCaller broker_primitives s caller (PutPact path file) (unchanged_with s (BadForm found))
StepOfCaller-form_fault s caller path file found is = (Some found, is, refl)

-- if nothing StepOfCaller-refused, the two sides are there
pub refused-sides_present : (command : Command) (p c may : Bool) → None ≡ refused command (unless p missing.Pacticipant (unless c missing.Pacticipant None)) may → (p ≡ true) × (c ≡ true)
refused-sides_present command true true may h = (refl, refl)
refused-sides_present command false c may h = absurd cc
refused-sides_present command true false may h = absurd cc

-- ---- the names of a file

pub fault_of_reading-names_differ : (c p consumer provider text : Text) → (same_text c consumer && same_text p provider) ≡ false → Some fault.Names ≡ fault_of_reading consumer provider (IsPact c p text)
fault_of_reading-names_differ c p consumer provider text h = sym (ap (λ b. cond b None (Some fault.Names)) h)

-- ---- the change

abbrev pub published : State → Version → Text → Text → State
published s v provider text = record (with_content (with_version s v) text) {
  contracts = put_at (same_pair same_version same_text) s.contracts (v, provider) (Some (content_number s text));
}

abbrev pub first_put : State → Version → Text → Text → Transition
first_put s v provider text =
    cond (can_name s v && (is_stored s text || has_room s.contents))
    (record { answer = Done (Content (content_number s text)); state = published s v provider text })
    (unchanged_with s Full)

pub put_pact-first : (s : State) (v : Version) (provider text : Text) (b : Bool) → s.contracts (v, provider) ≡ None → (can_name s v && (is_stored s text || has_room s.contents)) ≡ b
    → cond b (record { answer = Done (Content (content_number s text)); state = published s v provider text }) (unchanged_with s Full) ≡ put_pact s v provider text
put_pact-first s v provider text b none is =
    sym (ap (λ (q : Option ℕ). option_map_or (λ n. unchanged_with s (republished s text n)) q (first_put s v provider text)) none
    ∙ ap (λ t. cond t (record { answer = Done (Content (content_number s text)); state = published s v provider text }) (unchanged_with s Full)) is)

pub put_pact-again : (s : State) (v : Version) (provider text : Text) (content : ℕ) (answer : Answer) → s.contracts (v, provider) ≡ Some content → answer ≡ republished s text content → unchanged_with s answer ≡ put_pact s v provider text
put_pact-again s v provider text content answer is returned = ap (unchanged_with s) returned ∙ sym (ap (λ (q : Option ℕ). option_map_or (λ n. unchanged_with s (republished s text n)) q (first_put s v provider text)) is)

-- the number of a text that is stored is one of those that there are
position_or_len-below_length : (texts : List Text) (body : Text) → is_among texts body ≡ true → position_or_len (same_text body) texts + 1 ≤ length texts
position_or_len-below_length [] body e = absurd cc
position_or_len-below_length (t ∷ texts) body e = go (same_text body t) refl e (position_or_len-below_length texts body) where
  go : (b : Bool) → same_text body t ≡ b → (b || is_among texts body) ≡ true → (is_among texts body ≡ true → position_or_len (same_text body) texts + 1 ≤ length texts) → cond (not b) (1 + position_or_len (same_text body) texts) 0 + 1 ≤ length (t ∷ texts)
  go true f h more = omega arith
  go false f h more = let low = more h in omega (arith, low)

-- ---- a contract that is asked for

module _ (s : State) (caller : Caller) (path : PactPath) (rule : Rule) (owned : List Text) (place : ContractPlace) (h : IsPlaceRead s caller rule owned path place) where
  first_absent-missing_part : first_absent s (contract_of path) ≡ missing_part place
  first_absent-missing_part = λ i. unless (h.0.provider_is i) missing.Pacticipant (unless (h.0.consumer_is i) missing.Pacticipant (unless (h.1.known_is i) missing.Version (unless (is_some (h.1.content_is i)) missing.Contract None)))

  -- a command that asks for the contract is refused as its sides and its contract say
  refusal-asks_contract : (command : Command) → AsksContract path rule owned command → refusal s caller command ≡ refused command (missing_part place) place.sides.is_allowed
  refusal-asks_contract command is =
      let lets = λ (a : Access). allows a.rule caller (filter_map s.pacticipants a.sides) (has_grant s caller a.target) in
      let may : is_allowed s caller command ≡ place.sides.is_allowed = ap lets is ∙ h.0.may_is (has_grant s caller None) in
      let lacks : first_missing s command ≡ missing_part place = ap (λ (a : Access). first_absent s a.required) is ∙ first_absent-missing_part in
      λ i. refused command (lacks i) (may i)

  pub Reaches-of_admits : (r : Result ℕ Answer) → Admits rule place.contract.content (missing_part place) place.sides.is_allowed r → Reaches s caller path rule owned r
  Reaches-of_admits (Ok found) is = (h.1.content_is ∙ is.0, λ command asking. refusal-asks_contract command asking ∙ is.1 command (ap (λ (a : Access). a.rule) asking))
  Reaches-of_admits (Err answer) is = λ command asking. refusal-asks_contract command asking ∙ is command (ap (λ (a : Access). a.rule) asking)

-- ---- what naming a version and storing a text leave

module _ (s : State) (v : Version) where
  pub with_version-contracts : (with_version s v).contracts ≡ s.contracts
  with_version-contracts = ap (λ t. t.contracts) (with_version-versions_with s v)

  pub with_version-pacticipants : (with_version s v).pacticipants ≡ s.pacticipants
  with_version-pacticipants = ap (λ t. t.pacticipants) (with_version-versions_with s v)

  pub with_version-contents : (with_version s v).contents ≡ s.contents
  with_version-contents = ap (λ t. t.contents) (with_version-versions_with s v)

  pub with_version-results : (with_version s v).results ≡ s.results
  with_version-results = ap (λ t. t.results) (with_version-versions_with s v)

length-append_longer : (xs : List Text) (x : Text) → length xs + 1 ≤ length (xs ++ x ∷ [])
length-append_longer [] x = omega arith
length-append_longer (y ∷ xs) x = let more = length-append_longer xs x in omega (arith, more)

module _ (s : State) (text : Text) where
  content_number-le_length : (b : Bool) → is_stored s text ≡ b → content_number s text ≤ length (if b then s.contents else s.contents ++ text ∷ [])
  content_number-le_length true e = position_or_len-below_length s.contents text e
  content_number-le_length false e =
      let last : content_number s text ≡ length s.contents + 1 = ap (λ n. n + 1) (position_or_len-absent s.contents text e) in
      subst (λ n. n ≤ length (s.contents ++ text ∷ [])) (sym last) (length-append_longer s.contents text)

  -- once the text is stored, its contract may be recorded
  pub CanRecord-after_stored : (path : PactPath) (version : VersionNumber) (content : ℕ) → content ≡ content_number s text → CanPublish path version s → CanRecord path version content (with_content s text)
  CanRecord-after_stored path version content is can =
      let low : 1 ≤ content_number s text = omega arith in
      subst (CanRecord path version content) (sym (with_content-contents_with s text)) (
        (record { number_is = can.0.number_is; known_is = can.0.known_is; owned = can.0.owned }, can.1, can.2),
        subst (λ n. 1 ≤ n) (sym is) low,
        subst (λ n. n ≤ length (contents_with s.contents text)) (sym is) (content_number-le_length (is_stored s text) refl),
      )

  module _ (v : Version) where
    -- storing a text and naming a version give the same state in either order
    commutes : with_version (with_content s text) v ≡ with_content (with_version s v) text
    commutes =
        ap (λ t. with_version t v) (with_content-contents_with s text) ∙ with_version-versions_with (record s { contents = contents_with s.contents text }) v
        ∙ sym (ap (λ t. with_content t text) (with_version-versions_with s v) ∙ with_content-contents_with (record s { versions = versions_with s v }) text)

    pub now_published : (provider : Text) (content : ℕ) → content ≡ content_number s text → with_contract (with_version (with_content s text) v) v provider content ≡ published s v provider text
    now_published provider content is =
        let contracts_are : (with_version (with_content s text) v).contracts ≡ s.contracts = with_version-contracts (with_content s text) v ∙ ap (λ t. t.contracts) (with_content-contents_with s text) in
        λ i. record (commutes i) { contracts = put_at (same_pair same_version same_text) (contracts_are i) (v, provider) (Some (is i)) }

-- if its version was named, a contract is added
pub AddsContract-with_contract : (s t : State) (path : PactPath) (provider : Text) (version : VersionNumber) (number content : ℕ) → provider ≡ path.provider → CanRecord path version content s → NamesAs (consumer_version path) number s t
    → AddsContract number provider content t (with_contract t (consumer_version path) provider content)
AddsContract-with_contract s t path provider version number content is can names =
    let v = consumer_version path in (
      v,
      names.1,
      (λ i. (names.0 i).contracts (v, is i)) ∙ ap (λ contracts. contracts (v, path.provider)) (with_version-contracts s v) ∙ can.0.1,
      (λ i. is_some ((names.0 i).pacticipants (is i))) ∙ ap (λ table. is_some (table path.provider)) (with_version-pacticipants s v) ∙ can.0.2.0,
      can.1,
      subst (λ (texts : List Text). content ≤ length texts) (sym (ap (λ (u : State). u.contents) names.0 ∙ with_version-contents s v)) can.2,
      refl,
    )

-- ---- small tests

pub Form-injective : (f e : FormFault) → Form f ≡ Form e → f ≡ e
Form-injective f e h = cc

-- ---- what is shown of a contract that was reached

pub StepOfCaller-get_pact : (s : State) (caller : Caller) (path : PactPath) (place : Result ℕ Answer) (answer : Answer) → Reaches s caller path OwnerOrOfficeToRead (path.provider ∷ path.consumer ∷ []) place → ShowsReached s place answer
    → StepOfCaller broker_primitives s caller (GetPact path) (unchanged_with s answer)
StepOfCaller-get_pact s caller path (Ok content) answer reach it =
    StepOfCaller-effect s caller (GetPact path) refl (unchanged_with s answer) (reach.1 (GetPact path) refl) (it.0, ap (option_and_then (text_of s)) reach.0 ∙ it.1, ap (unchanged_with s) it.2)
StepOfCaller-get_pact s caller path (Err refusal) answer reach it =
    subst (λ a. StepOfCaller broker_primitives s caller (GetPact path) (unchanged_with s a)) (sym it) (StepOfCaller-refused s caller (GetPact path) refl refusal (reach (GetPact path) refl))
