-- What replies that are well formed lead to, from what was read.
use Rattle.std.specs.Prelude.{option_and_then}
use Rattle.std.proofs.Common.{◌≡◌, ◌==◌, ℕ, suc, false, arith, List, [], ◌∷◌, length, Some, None, Result, Ok, Err, refl, ap, sym, subst, ◌∙◌, inl, inr}
use Rattle.std.proofs.lemmas.Bool.Decides.{nat_tests}
use Rattle.broker_core.specs.{Text.{Text}, State.{State}, Contents.{HasSoundContents}, Change.{Transition, text_of, unchanged_with}}
use Rattle.broker_core.specs.{Request.{consumer_version, refusal}, Machine.{FindsFault, StepOfCaller, is_empty}, Machine.Reading.{IsPact}}
use Rattle.broker_core.specs.{declared.policy.Caller.{Caller}, declared.command.Command.TheVariants.{PostReplies}, declared.command.FormFault.{FormFault}}
use Rattle.broker_core.specs.{declared.command.PactPath.{PactPath}, declared.command.Report.{Report}, declared.answer.Answer.{Answer}}
use Rattle.broker_core.specs.{declared.answer.Answer.TheVariants.{BadForm, Done}, declared.answer.Detail.{Detail}}
use Rattle.pact_file.specs.{Normal.{Normal}, Pact.{Pact}, declared.fault.PactFault.{PactFault}}
use Rattle.reply_check.specs.{Recorded.{Reply}, Replies.{RepliesRead}}
use Rattle.command_facts.specs.{Readings.{Matches, reading_of}, declared.checking.Comparison.{Comparison}}
use Rattle.command_facts.specs.{declared.checking.Comparison.TheVariants.{Failing, UnknownReply, Pattern, NoPact}, Performs.{CallersStep}}
use Rattle.command_facts.{specs.Primitives.{broker_primitives}, proofs.CallerSteps.{StepOfCaller-effect, StepOfCaller-refused}}
use Rattle.contract_commands.specs.Checks.{Leads, Checks}
use Rattle.broker_core.specs.declared.answer.Answer.TheVariants as answer

module _ (s : State) (caller : Caller) (path : PactPath) (r : Report) (body : Text) where
  -- the form of the replies is at fault
  pub CallersStep-replies_fault : (found : FormFault) → FindsFault broker_primitives (PostReplies path r body) (Some found) → CallersStep caller (PostReplies path r body) s (unchanged_with s (BadForm found))
  CallersStep-replies_fault found is = λ sound. inl (Some found, is, refl)

  module _ (replies : List Reply) (reads : RepliesRead body (Ok replies)) where
    well_formed : FindsFault broker_primitives (PostReplies path r body) None
    well_formed = (Ok replies, reads, refl)

    -- they are refused
    pub replies_refused : (answer : Answer) → refusal s caller (PostReplies path r body) ≡ Some answer → CallersStep caller (PostReplies path r body) s (unchanged_with s answer)
    replies_refused answer is = λ sound. inl (StepOfCaller-refused s caller (PostReplies path r body) well_formed answer is)

    by_returned : (out : Transition) (content : ℕ) (text : Text) (returned : Comparison) → s.contracts (consumer_version path, path.provider) ≡ Some content → refusal s caller (PostReplies path r body) ≡ None → text_of s content ≡ Some text
        → Matches text replies returned → Leads s path.provider r content returned out → CallersStep caller (PostReplies path r body) s out
    by_returned out content text (Failing places) is none has reports leads = λ sound. inl (StepOfCaller-effect s caller (PostReplies path r body) well_formed out none (content, is, (text, has, (Some places, (replies, reads, reports), leads))))
    by_returned out content text UnknownReply is none has reports leads = λ sound. inl (StepOfCaller-effect s caller (PostReplies path r body) well_formed out none (content, is, (text, has, (None, (replies, reads, reports), leads))))
    by_returned out content text Pattern is none has reports leads = λ sound. inr (leads, (none, (text, ap (option_and_then (text_of s)) is ∙ has, (replies, reads, reports.1))))
    by_returned out content text NoPact is none has reports leads = absurd leads

    -- they are compared with the contract
    pub replies_checked : (out : Transition) (content : ℕ) → s.contracts (consumer_version path, path.provider) ≡ Some content → refusal s caller (PostReplies path r body) ≡ None → Checks s path.provider r content replies out
        → CallersStep caller (PostReplies path r body) s out
    replies_checked out content is none it = by_returned out content it.0 it.2.0 is none it.1 it.2.1 it.2.2

    -- if something is to change, it is a step
    pub step_checked : (detail : Detail) (t : State) (content : ℕ) → HasSoundContents broker_primitives s → s.contracts (consumer_version path, path.provider) ≡ Some content → refusal s caller (PostReplies path r body) ≡ None
        → Checks s path.provider r content replies (record { answer = Done detail; state = t }) → StepOfCaller broker_primitives s caller (PostReplies path r body) (record { answer = Done detail; state = t })
    step_checked detail t content sound is none it = elim (replies_checked (record { answer = Done detail; state = t }) content is none it sound) [
      | inl step ↦ step
      | inr StepOfCaller-refused ↦ absurd (let clash : Done detail ≡ answer.Pattern = ap (λ (out : Transition). out.answer) StepOfCaller-refused.0 in cc)
    ]

-- a content with a text that is read as a pact, as that of each contract is
pub HasSoundContents-pact : (s : State) (path : PactPath) (content : ℕ) → HasSoundContents broker_primitives s → s.contracts (consumer_version path, path.provider) ≡ Some content → (text : Text) × (text_of s content ≡ Some text) × ((p : Pact) × Normal text (Ok p))
HasSoundContents-pact s path content sound is =
    let it = sound.contracts (consumer_version path) path.provider content is in
    (it.0, it.1, by_answer it.2.0 it.2.1 it.2.2)
  where
    by_answer : {text consumer provider : Text} (answer : Result Pact PactFault) → Normal text answer → IsPact consumer provider text ≡ reading_of answer → (p : Pact) × Normal text (Ok p)
    by_answer (Ok p) reads is = (p, reads)
    by_answer (Err found) reads is = absurd cc

-- a comparison with it doesn't answer `NoPact`
pub Matches-not_NoPact : (s : State) (content : ℕ) (text : Text) (replies : List Reply) (returned : Comparison) → text_of s content ≡ Some text → ((old : Text) × (text_of s content ≡ Some old) × ((p : Pact) × Normal old (Ok p))) → Matches text replies returned → ¬ (returned ≡ NoPact)
Matches-not_NoPact s content text replies returned stored has reports is =
    let both : Some has.0 ≡ Some text = sym has.1 ∙ stored in
    let same : has.0 ≡ text = cc in
    subst (λ (c : Comparison). Matches text replies c) is reports has.2.0 (subst (λ t. Normal t (Ok has.2.0)) same has.2.1)

-- no interaction fails if the list of those that do is empty
pub length-zero_is_empty : (failing : List ℕ) → (length failing == 0) ≡ is_empty failing
length-zero_is_empty [] = refl
length-zero_is_empty (place ∷ failing) = suc-not_zero (length failing) where
  suc-not_zero : (n : ℕ) → (suc n == 0) ≡ false
  suc-not_zero n = grind (arith, nat_tests)
