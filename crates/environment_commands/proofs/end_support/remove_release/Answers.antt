use Rattle.std.{specs.Prelude.{if◌then◌else◌}, proofs.Common.{◌≡◌, ℕ, Bool, true, false, Some, refl, sym, ap, ◌∙◌, arith}}
use Rattle.sqlite.specs.Held.{state}
use Rattle.broker_core.specs.{Change.{end_support as unsupported, done, unchanged_with}, State.{State}, Text.{Text, put_at, same_pair, same_text, same_version}}
use Rattle.broker_core.specs.{declared.answer.Answer.TheVariants.{Done, Unknown}, declared.answer.Detail.TheVariants.{Plain}}
use Rattle.broker_core.{specs.declared.command.Version.{Version}, proofs.Judgement.{same_pair-mark_equal}}
use Rattle.broker_tables.{specs.Numbers.{number_of}, proofs.NumberLemmas.{number_of-injective}}
use Rattle.deploy_tables.specs.Releases.{EndsSupport}
use Rattle.command_facts.proofs.PerformLemmas.{PerformsWhereBetween-change_answer}
use Rattle.broker_core.specs.declared.answer.Missing.TheVariants as missing
use Rattle.environment_commands.proofs.end_support.remove_release.Goals as goal

-- what isn't released may be ended again
put_again : (table : Text × Version → Bool) (key : Text × Version) → table key ≡ false → put_at (same_pair same_text same_version) table key false ≡ table
put_again table key none = λ i k. go k i
  where
    go : (k : Text × Version) → put_at (same_pair same_text same_version) table key false k ≡ table k
    go k = elim (same_pair same_text same_version k key) as (λ b. same_pair same_text same_version k key ≡ b → (if b then false else table k) ≡ table k) [
      | true ↦ λ is. sym (ap table (same_pair-mark_equal k key is) ∙ none)
      | false ↦ λ _. refl
    ] refl

-- the answer says whether it was released there
ended : (s t : State) (e f : Text) (v : Version) (number : ℕ) (stood b : Bool) → f ≡ e → number_of s.versions v ≡ Some number → EndsSupport f number s t → ((w : Version) → number_of s.versions w ≡ Some number → stood ≡ s.released (f, w)) → stood ≡ b
    → record { answer = (if b then Done Plain else Unknown missing.Released); state = t } ≡ unsupported s e v
ended s t e f v number stood b env is ends returned was =
    let after = record s { released = put_at (same_pair same_text same_version) s.released (e, v) false } in
    let same : t ≡ after = ends.2 ∙ (λ i. record s { released = put_at (same_pair same_text same_version) s.released (env i, number_of-injective s.versions ends.0 v number ends.1 is i) false }) in
    elim b as (λ b. s.released (e, v) ≡ b → record { answer = (if b then Done Plain else Unknown missing.Released); state = t } ≡ unsupported s e v) [
      | true ↦ λ there. ap done same ∙ sym (ap (λ (b : Bool). if b then done after else unchanged_with s (Unknown missing.Released)) there)
      | false ↦ λ there. ap (λ (u : State). unchanged_with u (Unknown missing.Released)) (same ∙ (λ i. record s { released = put_again s.released (e, v) there i })) ∙ sym (ap (λ (b : Bool). if b then done after else unchanged_with s (Unknown missing.Released)) there)
    ] (sym (returned v is ∙ (λ i. s.released (env i, v))) ∙ was)

pub returns-then-value-clause-answers : goal.returns-then-value-clause-answers
returns-then-value-clause-answers g c =
    let e = c.args.environment.now in
    let v = c.args.version.now in
    PerformsWhereBetween-change_answer 2 (omega arith) (state g.S.Store c.args.conn.now) (state g.S.Store c.end_support.new.conn) c.in-Ok.value (Done Plain) (λ s. number_of s.versions v ≡ Some c.args.number) _ _ (λ s out. out ≡ unsupported s e v)
    (λ s number. ((v, number), λ t next. ended s t e c.as_str.result.now v c.args.number c.in-Ok.value true c.as_str.ensures number next.0 next.1 c.if-value.true)) c.in-Ok.ensures.ended

pub returns-else-value-clause-answers : goal.returns-else-value-clause-answers
returns-else-value-clause-answers g c =
    let e = c.args.environment.now in
    let v = c.args.version.now in
    PerformsWhereBetween-change_answer 2 (omega arith) (state g.S.Store c.args.conn.now) (state g.S.Store c.end_support.new.conn) c.in-Ok.value (Unknown missing.Released) (λ s. number_of s.versions v ≡ Some c.args.number) _ _ (λ s out. out ≡ unsupported s e v)
    (λ s number. ((v, number), λ t next. ended s t e c.as_str.result.now v c.args.number c.in-Ok.value false c.as_str.ensures number next.0 next.1 c.if-value.false)) c.in-Ok.ensures.ended
