use Rattle.std.proofs.Common.{◌≡◌, ◌⊎◌, ◌∷◌, [], ◌∙◌, ◌≤◌, ◌^◌, length, Result, Err, refl, sym, ap, subst}
use Rattle.sqlite.specs.{Held.{state}, State.{State}}
use Rattle.broker_core.specs.{State.{opening}, Text.{Text}}
use Rattle.table_access.specs.{Calls.{HasFailed}, declared.StoreFault.{StoreFault}}
use Rattle.broker_tables.specs.{Making.{IsBlank}, ChangeRefusals.{AreShort}, Schema.{no_schema}}
use Rattle.command_facts.{specs.Primitives.{broker_primitives}, proofs.ShortTexts.{digest_of-short}}
use Rattle.broker_database.specs.{Ends.{IsUnchangedUnless}, Opening.{Refuses, IsUncommitted, IsUnchangedUnlessStore, open_fault}, Stored.{Stores}}
use Rattle.broker_database.specs.{Transaction.{fault_of}, declared.opening.OpenFault.{OpenFault}}
use Rattle.broker_database.proofs.{MakeLemmas.{OnlyIfStoreFailed-of_refused, Refuses-of_fails}, OpenFailures.{open_fault-store}}
use Rattle.broker_database.proofs.Transaction.{IsAsBefore-refl, CommitsAtMostOnce-of_survives, Survives-refl}
use Rattle.table_access.specs.declared.StoreFault.TheVariants as fault
use Rattle.broker_database.specs.declared.opening.OpenFault.TheVariants as returned
use Rattle.broker_database.proofs.opening.create.Goals as goal

-- no failure says that something is there
never_not_empty : (why : StoreFault) → ◌≡◌ {A = Result (Unit {0}) OpenFault} (Err (open_fault why)) (Err returned.NotEmpty) → ⊥
never_not_empty fault.Memory is = cc
never_not_empty fault.Store is = cc

unchanged_as : (old new : State) (why : StoreFault) → IsUnchangedUnless {A = Unit {0}} (λ _. Unit {0}) old new (Err why) → IsUnchangedUnlessStore old new (open_fault why)
unchanged_as old new fault.Memory it = it
unchanged_as old new fault.Store it = it

pub returns-then-not-is_blank : goal.returns-then-not-is_blank
returns-then-not-is_blank g c =
    let here = state g.S.Store c.args.conn.now in
    let filled : ¬ (here.now.schema ≡ no_schema) = λ none. let yes = c.is_blank.ensures.1 none in let no = c.if-not-is_blank.true in cc in
    record {
      made = tt;
      refuses = λ clean blank none. absurd (filled none);
      failure = λ clean fresh blank is. absurd (cc);
      not_empty = (λ _. filled, λ _. refl);
      same = λ _. refl;
      unchanged = λ clean. IsAsBefore-refl here;
      over = λ clean was. was;
      survives = CommitsAtMostOnce-of_survives here here (Survives-refl here);
    }

-- the tables weren't made
pub returns-in-Ok : goal.returns-in-Ok
returns-in-Ok g c =
    let old = c.args.conn.now in
    let new = c.make.new.conn in
    let digest = c.as_str-in-Ok.result.now in
    let digest_is : digest ≡ broker_primitives.digest_of c.args.office.now = c.as_str-in-Ok.ensures.value ∙ c.in-Ok.ensures.ok ∙ ap broker_primitives.digest_of c.as_str.ensures in
    let short : AreShort (digest ∷ []) = (subst (λ (text : Text). length text ≤ 10 ^ 7) (sym digest_is) (digest_of-short c.args.office.now), tt) in
    let why = fault_of c.in-Err-make.failure in
    let is_returned = c.open_fault.ensures ∙ ap open_fault c.fault.ensures in
    record {
      made = tt;
      refuses = λ clean blank none.
          subst (λ (f : OpenFault). Refuses IsBlank (λ db. Stores db (opening (broker_primitives.digest_of c.args.office.now))) (state g.S.Store new) f) (sym is_returned)
          (subst (λ (text : Text). Refuses IsBlank (λ db. Stores db (opening text)) (state g.S.Store new) (open_fault why)) digest_is
          (Refuses-of_fails digest (state g.S.Store new) why (c.in-Err-make.ensures.ends clean blank)));
      failure = λ clean fresh blank is.
          subst (λ (text : Text). HasFailed (state g.S.Store old) (state g.S.Store new) fault.Store ⊎ IsUncommitted (state g.S.Store) (opening text) old new) digest_is
          (OnlyIfStoreFailed-of_refused (state g.S.Store) IsBlank (opening digest) old new (Err c.in-Err-make.failure) (c.in-Err-make.ensures.failure short) clean fresh blank (ap Err (open_fault-store why (ap Err (sym is_returned) ∙ is))));
      not_empty = (
        λ is. absurd (never_not_empty why (ap Err (sym is_returned) ∙ is)),
        λ filled. absurd (filled (c.is_blank.ensures.0 c.if-not-is_blank.false)),
      );
      same = λ is. absurd (never_not_empty why (ap Err (sym is_returned) ∙ is));
      unchanged = λ clean.
          subst (IsUnchangedUnlessStore (state g.S.Store old) (state g.S.Store new)) (sym is_returned)
          (unchanged_as (state g.S.Store old) (state g.S.Store new) why (c.in-Err-make.ensures.unchanged clean));
      over = c.make.ensures.over;
      survives = c.make.ensures.survives;
    }

-- there was no memory for the digest
pub returns : goal.returns
returns g c =
    let here = state g.S.Store c.args.conn.now in
    let is_memory : c.open_fault-in-Err.result ≡ returned.Memory = c.open_fault-in-Err.ensures ∙ ap open_fault c.in-Err.ensures.cause in
    record {
      made = tt;
      refuses = λ clean blank none.
          subst (λ (f : OpenFault). Refuses IsBlank (λ db. Stores db (opening (broker_primitives.digest_of c.args.office.now))) here f) (sym is_memory) blank;
      failure = λ clean fresh blank is.
          absurd (let clash : fault.Memory ≡ fault.Store = sym c.in-Err.ensures.cause ∙ open_fault-store c.in-Err.fault (ap Err (sym c.open_fault-in-Err.ensures) ∙ is) in cc);
      not_empty = (
        λ is. absurd (never_not_empty c.in-Err.fault (ap Err (sym c.open_fault-in-Err.ensures) ∙ is)),
        λ filled. absurd (filled (c.is_blank.ensures.0 c.if-not-is_blank.false)),
      );
      same = λ _. refl;
      unchanged = λ clean. subst (IsUnchangedUnlessStore here here) (sym is_memory) (IsAsBefore-refl here);
      over = λ clean was. was;
      survives = CommitsAtMostOnce-of_survives here here (Survives-refl here);
    }
