-- worked examples of what files keep: a broker is made at the second try and serves, and one of format 1 is migrated
use Rattle.std.{specs.Prelude.{codes, None}, proofs.Common.{◌≡◌, ◌∙◌, inl, inr, refl, List, [], ◌∷◌}}
use Rattle.broker_core.specs.{declared.command.Command.TheVariants.{GetEnvironment}, declared.answer.Answer.TheVariants.{Denied}}
use Rattle.broker_core.specs.{declared.policy.Rule.TheVariants.{KnownCaller}, Machine.{Request, Step}, Laws.Exit.{Stepped, WasCut}}
use Rattle.broker_core.specs.{State.{State as Broker, opening}, Text.{Text}}
use Rattle.command_facts.specs.Primitives.{broker_primitives}
use Rattle.broker_database.specs.{Life.{Kept, Period, PeriodLeads, LifeLeads}, Life.Kept.{Blank, OfFormat1, OfToday}}
use Rattle.broker_database.specs.Life.Period.{Serving, Making, Migrating, NotOpened}

-- somebody without a token asks what is in an environment
abbrev asks : Request
asks = record { token = None; command = GetEnvironment (codes "live") }

Step-denied : (s : Broker) → Step broker_primitives s None asks.command (record { answer = Denied KnownCaller; state = s })
Step-denied s = (None, refl, refl)

-- The making is stopped, so there are no tables; the next one is done, and the broker answers. Then the files can't be
-- opened, and then the program serves and is stopped in its second command.
abbrev made_at_the_second_try : Text → List Period
made_at_the_second_try office =
    Making office [] ∷ Making office ((asks, Stepped (Denied KnownCaller)) ∷ []) ∷ NotOpened
    ∷ Serving ((asks, Stepped (Denied KnownCaller)) ∷ (asks, WasCut) ∷ []) ∷ []

pub LifeLeads-made_at_second_try : (office : Text) → LifeLeads Blank (made_at_the_second_try office) (OfToday (opening office))
LifeLeads-made_at_second_try office =
    let s = opening office in
    (Blank, inl (refl, refl), (OfToday s, inr (s, tt, (s, Step-denied s, refl), refl), (OfToday s, (refl, refl), (OfToday s, (s, tt, (s, Step-denied s, (s, inl refl, refl)), refl), refl))))

-- or the making that was stopped had made it, and the next one is refused
pub LifeLeads-made_by_stopped_making : (office : Text) → LifeLeads Blank (Making office [] ∷ Making office [] ∷ []) (OfToday (opening office))
LifeLeads-made_by_stopped_making office = let s = opening office in (OfToday s, inr (s, tt, refl, refl), (OfToday s, (refl, refl), refl))

-- without a making there is no broker, and nothing is served
PeriodLeads-blank_migrating : (old new : Kept) → old ≡ Blank → PeriodLeads old Migrating new → new ≡ Blank
PeriodLeads-blank_migrating Blank new is it = it.1
PeriodLeads-blank_migrating (OfFormat1 s) new is it = absurd (cc)
PeriodLeads-blank_migrating (OfToday s) new is it = absurd (cc)

pub LifeLeads-no_broker_unmade : (s : Broker) → ¬ (LifeLeads Blank (Serving [] ∷ Migrating ∷ []) (OfToday s))
LifeLeads-no_broker_unmade s it = let end = PeriodLeads-blank_migrating it.0 it.2.0 it.1.1 it.2.1 in let same : OfToday s ≡ Blank = it.2.2 ∙ end in absurd (cc)

-- A database of format 1 isn't served; it is migrated at the second try, a third one is refused, and then it is served.
pub LifeLeads-migrated_at_second_try : (s : Broker) → LifeLeads (OfFormat1 s) (Serving [] ∷ Migrating ∷ Migrating ∷ Migrating ∷ Serving ((asks, Stepped (Denied KnownCaller)) ∷ []) ∷ []) (OfToday s)
LifeLeads-migrated_at_second_try s =
    (OfFormat1 s, (refl, refl), (OfFormat1 s, inl refl, (OfToday s, inr refl, (OfToday s, (refl, refl), (OfToday s, (s, tt, (s, Step-denied s, refl), refl), refl)))))
