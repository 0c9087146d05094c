-- The openings of a file, one after another, are periods of its life.
use Rattle.std.proofs.Common.{◌≡◌, ◌⊎◌, ◌∙◌, inl, inr, IsTrue, List, [], ◌∷◌, ◌++◌, Option, None, Some, Ok, Err, refl, ap, subst, sym, arith}
use Rattle.std.proofs.Math.Logic.{∥∥₁_elim, ∥∥₁_map}
use Rattle.sqlite_disk.specs.{declared.Disk.{Ghosts}, declared.Files.{Files}}
use Rattle.sqlite_pool.proofs.StateLemmas.{clean_is, may_leave_is}
use Rattle.sqlite_trees.{specs.View.{View}, proofs.Doubt.{no_doubt}}
use Rattle.sqlite_store.specs.{Calls.{IsQuietCall}, Laws.{settled_at, stays_at}}
use Rattle.sqlite.specs.{Files.{IsOpened, file_state, image_of}, Held.{Held}, Recovery.{Image}, Start.{FindsIn}, State.{HasCleanDisk}}
use Rattle.sqlite.specs.{declared.FileStore.{FileStore}, declared.file.Leftover.{Leftover}, FileStore.{files as store_files, state as store_state, view}}
use Rattle.sqlite.specs.{View.{IsClean}, WalFiles.{outcomes}, WalReads.{AreClean}}
use Rattle.broker_database.specs.BrokerView.{BrokerView}
use Rattle.broker_database.specs.Life.{Kept, Period, PeriodLeads, LifeLeads, PeriodRuns, EndsAs, HoldsAsBefore, IsGivenBack, IsKeptIn, MayLeave, two}
use Rattle.broker_database.specs.{declared.opening.OpenFault.{OpenFault}, Life.Period.{NotOpened, Serving}}
use Rattle.broker_database.proofs.LifeLemmas.{file_leads, OpeningSpares-holds, programs_lead}
use Rattle.program_io.specs.{Entrance.{Visit}, declared.fault.RunFault.{RunFault}}
use Rattle.broker_program.specs.{Cuts.{FindsNoBroker, StaysShut, StaysUnclosed}, Life.{IsUnharmedShut, periods_of, periods_over}, FileRefusals.{IsNotClosed}}
use Rattle.broker_program.specs.{Files.{EndsClean, Leaves, StartsFrom}, Serving.{ServesOver, ServesTo, StartsAfter, Work, Works}, declared.seed.NoSeed.{NoSeed}}
use Rattle.broker_program.proofs.CallLemmas.{RunsCalls-work, HasCleanDisk-before_works}
use Rattle.sqlite.specs.declared.file.Leftover.TheVariants as left

-- one more period
LifeLeads-append : (old mid new : Kept) (life : List Period) (period : Period) → LifeLeads old life mid → PeriodLeads mid period new → LifeLeads old (life ++ (period ∷ [])) new
LifeLeads-append old mid new [] period same leads = (new, subst (λ (k : Kept). PeriodLeads k period new) same leads, refl)
LifeLeads-append old mid new (first ∷ life) period it leads = (it.0, it.1, LifeLeads-append it.0 mid new life period it.2 leads)

module _ {D : Type 0} (g : Ghosts D) (stays : (file : D) → g.may_leave file (g.seen file)) where
  -- what a crash leaves keeps what these lead to
  abbrev pub Keeps : Kept → List Period → Image → Type 0
  Keeps old life image = (new : Kept) × LifeLeads old life new × IsKeptIn new image

  -- the connection was opened on files that keep it
  abbrev pub Begins : Kept → List Period → Held (FileStore D g) → Type 0
  Begins old life conn = (held : Image) × Keeps old life held × IsOpened conn × FindsIn held (file_state conn)

  pub Keeps-append_period : (old : Kept) (life : List Period) (period : Period) (first last : Held (FileStore D g)) (rest : Leftover D g) (image : Image) → ∥ Begins old life first ∥₁
      → PeriodRuns file_state period first last → HasCleanDisk (file_state last) → EndsAs g last rest → MayLeave g rest image → ∥ Keeps old (life ++ (period ∷ [])) image ∥₁
  Keeps-append_period old life period first last rest image begins runs clean ends may =
      ∥∥₁_elim begins squash₁ (λ (one : Begins old life first).
      ∥∥₁_map (file_leads g (λ conn now. stays_at conn.store stays now) (λ conn trees now here. settled_at conn.store stays trees now here)
      one.1.0 one.0 period first last rest image one.1.2 one.2 one.3 runs clean ends may) (λ (led : (new : Kept) × PeriodLeads one.1.0 period new × IsKeptIn new image).
      let r : Keeps old (life ++ (period ∷ [])) image = (led.0, LifeLeads-append old one.1.0 led.0 life period one.1.1 led.1, led.2) in r))

  pub Keeps-append_works : (old : Kept) (work : Work) (works : List Work) (conn : Held (FileStore D g)) (end : BrokerView (FileStore D g)) (rest : Leftover D g) (image : Image) → ∥ Begins old (periods_of works) conn ∥₁
      → Works work conn end → HasCleanDisk (file_state end.connection) → EndsAs g end.connection rest → MayLeave g rest image → ∥ Keeps old (periods_of (work ∷ works)) image ∥₁
  Keeps-append_works old work works conn end rest image begins does clean ends may =
      Keeps-append_period old (periods_of works) (Serving work.calls) conn end.connection rest image begins (Ok does.broker, does.opened, (end, RunsCalls-work work conn end does, refl)) clean ends may

  pub Begins-start : (old : Kept) (held : Image) (conn : Held (FileStore D g)) → IsKeptIn old held → StartsFrom held conn → ∥ Begins old [] conn ∥₁
  Begins-start old held conn are it = ∣ (held, (old, refl, are), it.opened, it.found) ∣₁

  pub Begins-after_works : (old : Kept) (held : Image) (works : List Work) (conn : Held (FileStore D g)) → IsKeptIn old held → StartsAfter held works conn → HasCleanDisk (file_state conn)
      → ∥ Begins old (periods_of works) conn ∥₁
  Begins-after_works old held [] conn are it clean = Begins-start old held conn are (it clean)
  Begins-after_works old held (work ∷ works) conn are it clean =
      let again = it.4 clean in
      let opens = again.after in
      let image = image_of g opens.0 in
      let before = Begins-after_works old held works it.0 are it.2 (HasCleanDisk-before_works work it.0 it.1 it.3 again.clean) in
      ∥∥₁_map (Keeps-append_works old work works it.0 it.1 (left.Store again.store) image before it.3 again.clean again.given opens.1.seen) (λ (one : Keeps old (periods_of (work ∷ works)) image).
      let r : Begins old (periods_of (work ∷ works)) conn = (image, one, opens.2, record { holds = opens.3.holds; reads = opens.3.reads }) in r)

  -- ---- if it isn't opened again, or not closed

  -- as if an opening had failed
  Keeps-append_not_opened : (old : Kept) (life : List Period) (found image : Image) → (image ≡ found) ⊎ HoldsAsBefore found image → ∥ Keeps old life found ∥₁ → ∥ Keeps old (life ++ (NotOpened ∷ [])) image ∥₁
  Keeps-append_not_opened old life found image same keeps =
      ∥∥₁_elim keeps squash₁ (λ (one : Keeps old life found).
      ∥∥₁_map (programs_lead (two g g) one.0 found image (NotOpened ∷ []) one.2 (image, same, refl)) (λ (led : (new : Kept) × LifeLeads one.0 (NotOpened ∷ []) new × IsKeptIn new image).
      let last = subst (λ (k : Kept). PeriodLeads one.0 NotOpened k) (sym led.1.2) led.1.1 in
      let r : Keeps old (life ++ (NotOpened ∷ [])) image = (led.0, LifeLeads-append old one.0 led.0 life NotOpened one.1 last, led.2) in r))

  module _ (old : Kept) (held : Image) (visits : List Visit) (are : IsKeptIn old held) where
    -- what is left of the last connection keeps what was led to
    leads_to : (Ends : Held (FileStore D g) → Type 0) (it : ServesTo g held visits Ends) (rest : Leftover D g) → HasCleanDisk (file_state it.end.connection) → EndsAs g it.end.connection rest → (image : Image) → MayLeave g rest image
        → ∥ Keeps old (periods_over g it) image ∥₁
    leads_to Ends it rest clean ends image may =
        Keeps-append_works old it.last it.before it.connection it.end rest image (Begins-after_works old held it.before it.connection are it.starts (HasCleanDisk-before_works it.last it.connection it.end it.works clean)) it.works clean ends may

    pub serving_leads : (rest : Leftover D g) (it : ServesOver g held visits rest) → EndsClean rest → (image : Image) → MayLeave g rest image → ∥ Keeps old (periods_over g it) image ∥₁
    serving_leads rest it clean = let ends = it.ends.ends clean in leads_to (λ conn. Leaves conn rest) it rest ends.0 ends.1

    pub unclosed_leads : (fault : RunFault) (store : FileStore D g) (it : StaysUnclosed held visits fault store) → IsClean (view store) → IsTrue (view store).is_numbered → (image : Image) → (store_state store).may_leave image
        → ∥ Keeps old (periods_over g it) image ∥₁
    unclosed_leads fault store it clean numbered =
        let early : HasCleanDisk (file_state it.end.connection) = omega (arith, clean, it.ends.closed.quiet.clean) in
        leads_to (λ conn. IsNotClosed conn fault store) it (left.Store store) early (record { numbered = numbered; sound = it.ends.closed.sound clean; outcomes = it.ends.closed.quiet.outcomes })

    pub finding_none_leads : (fault : OpenFault) (store : FileStore D g) (it : FindsNoBroker held visits fault store) → IsClean (view store) → (image : Image) → (store_state store).may_leave image
        → ∥ Keeps old (periods_of it.works ++ (Serving [] ∷ [])) image ∥₁
    finding_none_leads fault store it clean image may =
        let ends = it.left.ends clean in
        let early : HasCleanDisk (file_state it.connection) = omega (arith, ends.0, it.fails.tables.survives.clean) in
        Keeps-append_period old (periods_of it.works) (Serving []) it.connection it.end (left.Store store) image (Begins-after_works old held it.works it.connection are it.starts early)
        (Err (record { fault = fault; connection = it.end }), it.fails, (refl, refl)) ends.0 ends.1 may

    -- a store that came of the one that was given up, by a quiet call
    module _ (store last : FileStore D g) (it : ServesOver g held visits (left.Store store)) (whole : IsClean (view store)) (quiet : IsQuietCall store last) (numbered : IsTrue (view last).is_numbered)
        (files : Files D) (same : (files.log, files.db) ≡ store_files last) (honest : AreClean g files.log files.db) where
      quiet_leads : (image : Image) → outcomes g files.log files.db image → ∥ Keeps old (periods_over g it) image ∥₁
      quiet_leads image out =
          let clean = subst (λ (p : D × D). AreClean g p.0 p.1) same honest in
          let ends = it.ends.ends whole in
          let given : IsGivenBack g it.end.connection last = record { numbered = numbered; sound = λ trees found. ends.1.sound trees (quiet.outcomes trees found); outcomes = λ trees found. ends.1.outcomes trees (quiet.outcomes trees found) } in
          leads_to (λ conn. Leaves conn (left.Store store)) it (left.Store last) ends.0 given image (may_leave_is last.pool image clean (subst (λ (p : D × D). outcomes g p.0 p.1 image) same out))

    pub shut_leads : (store : FileStore D g) (it : ServesOver g held visits (left.Store store)) → IsClean (view store) → (fault : RunFault) (rest : Leftover D g) (seed : Option NoSeed) (shut : StaysShut store fault rest seed)
        → IsUnharmedShut g store fault rest seed shut → (image : Image) → MayLeave g rest image → ∥ Keeps old (periods_over g it ++ (NotOpened ∷ [])) image ∥₁
    shut_leads store it whole fault rest (Some seed) shut unharmed image may =
        Keeps-append_not_opened old (periods_over g it) image image (inl refl) (serving_leads (left.Store store) it whole image (subst (λ (r : Leftover D g). MayLeave g r image) shut.1 may))
    shut_leads store it whole fault rest None (last, quiet, files, same, inl broke) unharmed image may =
        let out = subst (λ (r : Leftover D g). MayLeave g r image) broke.1 may in
        Keeps-append_not_opened old (periods_over g it) image image (inl refl) (quiet_leads store last it whole quiet unharmed.1 files same unharmed.0 image out)
    shut_leads store it whole fault rest None (last, quiet, files, same, inr refused) unharmed image may =
        let clean : IsClean (view last) = no_doubt _ (clean_is last.pool ∙ subst (λ (p : D × D). AreClean g p.0 p.1) same unharmed.0) in
        let numbered = ap (λ (v : View). v.is_numbered) (refused.0 clean) ∙ (it.ends.ends whole).1.numbered in
        let leads = quiet_leads store last it whole quiet numbered files same unharmed.0 in
        elim (OpeningSpares-holds g files rest (refused.1.left unharmed.1) unharmed.2 image may) [
          | inl before ↦ Keeps-append_not_opened old (periods_over g it) image image (inl refl) (leads image before)
          | inr holds ↦
              let found = image_of g files in
              Keeps-append_not_opened old (periods_over g it) found image (inr holds) (leads found (stays files.log, stays files.db))
        ]
