use Rattle.std.proofs.Common.{◌≡◌, true, false, inl, inr, refl, sym, ap, ◌∙◌, arith}
use Rattle.sqlite_trees.specs.View.{View, IsClean}
use Rattle.sqlite_store.specs.{Laws.{not_broken}, FileStore.{view}}
use Rattle.broker_program.proofs.ReopeningLemmas.{IsQuietCall-refl}
use Rattle.broker_program.proofs.reopening.empty_log.Goals as goal

pub returns-then-is_broken : goal.returns-then-is_broken
returns-then-is_broken g c = record {
  quiet = IsQuietCall-refl _;
  same = λ _ _. refl;
  broke = λ bad. absurd (let no : false ≡ true = bad in cc);
}

pub returns-in-Ok : goal.returns-in-Ok
returns-in-Ok g c = record {
  quiet = c.checkpoint.ensures.quiet;
  same = λ _ clean. c.checkpoint.ensures.same (c.in-Ok.ensures.open clean);
  broke = λ bad. absurd (let no : false ≡ true = bad in cc);
}

pub returns-in-Err : goal.returns-in-Err
returns-in-Err g c = record {
  quiet = c.checkpoint.ensures.quiet;
  same = λ whole clean. c.checkpoint.ensures.same (not_broken _ _ (sym (c.is_broken-broke.ensures.shown clean) ∙ whole)).1;
  broke = λ broke. record {
    fails = λ clean.
        let early : IsClean (view c.args.store) = omega (arith, clean, c.checkpoint.ensures.quiet.clean) in
        let sound = sym (c.is_broken.ensures.shown early) ∙ c.if-is_broken.false in
        elim (c.checkpoint.ensures.quiet.closes clean (not_broken _ _ sound).1) [
          | inl is_open ↦ absurd (let bad : true ≡ false = sym broke ∙ c.is_broken-broke.ensures.shown clean ∙ ap (λ (v : View). v.is_broken) (c.checkpoint.ensures.same is_open) ∙ sound in cc)
          | inr more ↦ more
        ];
    step = c.checkpoint.ensures.step;
  };
}
