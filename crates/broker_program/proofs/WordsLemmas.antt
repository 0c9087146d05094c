-- What is reported of words that are no command line.
use Rattle.std.proofs.Common.{◌≡◌, ◌≢◌, ◌⊎◌, ◌↔◌, ℕ, Bool, true, false, IsTrue, List, Option, Result, inl, inr, refl, subst, arith}
use Rattle.sqlite_disk.specs.declared.Disk.{Ghosts}
use Rattle.sqlite.specs.Recovery.{Image}
use Rattle.clap.specs.{Words.{HasKind, IsAmong, Text, kind_of}, declared.error.Error.{Error}, declared.error.kind.ErrorKind.{ErrorKind}}
use Rattle.clap.specs.declared.error.kind.ErrorKind.TheVariants.{DisplayHelp, DisplayVersion, OutOfMemory}
use Rattle.command_line.specs.Lines.{AsksForText, IsFoundIn, is_line, mistakes}
use Rattle.http_responses.specs.declared.writing.WriteFault.{WriteFault}
use Rattle.broker_program.specs.{Running.{Ran}, Words.{LacksMemory, ReportsMistake, ReportsOfWords, ReportsText}, declared.run_end.RunEnd.{RunEnd}}

-- an error has one of the kinds that clap finds in the words
pub IsFoundIn-of_kind : (words : List Text) (e : Error) → HasKind (mistakes words) e → (kind : ErrorKind) → (kind_of e ≢ OutOfMemory) × (kind_of e ≡ kind) → IsFoundIn words kind
IsFoundIn-of_kind words e (inl memory) kind is = absurd (is.0 memory)
IsFoundIn-of_kind words e (inr among) kind is = subst (λ (k : ErrorKind). IsAmong k (mistakes words)) is.1 among

AsksForText-weaker : (Has Had : ErrorKind → Type 0) → ((kind : ErrorKind) → Had kind → Has kind) → AsksForText Had → AsksForText Has
AsksForText-weaker Has Had f (inl help) = inl (f DisplayHelp help)
AsksForText-weaker Has Had f (inr version) = inr (f DisplayVersion version)

module _ {O E : Type 0} (contents : O → Option (List ℕ)) (shows : E → Option (List ℕ)) (Has Had : ErrorKind → Type 0) (f : (kind : ErrorKind) → Had kind → Has kind)
    (old new : O) (silent returned : E) (line : Result (Unit {0}) WriteFault) (status : ℕ) where
  pub ReportsOfWords-weaker : ReportsOfWords contents shows Had old new silent returned line status → ReportsOfWords contents shows Has old new silent returned line status
  ReportsOfWords-weaker (inl mistake) = inl ((mistake.0.0, f mistake.0.0 mistake.0.1, mistake.0.2, mistake.0.3), mistake.1)
  ReportsOfWords-weaker (inr (inl text)) = inr (inl (AsksForText-weaker Has Had f text.0, text.1))
  ReportsOfWords-weaker (inr (inr memory)) = inr (inr memory)

  ReportsOfWords-status : ReportsOfWords contents shows Had old new silent returned line status → (status ≡ 0) ⊎ ((status ≡ 2) ⊎ (status ≡ 3))
  ReportsOfWords-status (inl mistake) = inr (inl mistake.1.0)
  ReportsOfWords-status (inr (inl (asked, inl shown))) = inl shown.0
  ReportsOfWords-status (inr (inl (asked, inr lost))) = inr (inr lost.0)
  ReportsOfWords-status (inr (inr memory)) = inr (inr memory.0)

-- an error that isn't to be reported on standard error is a request
ErrorKind-help_or_version : (kind : ErrorKind) → ¬ ((kind ≢ DisplayHelp) × (kind ≢ DisplayVersion)) → (kind ≡ DisplayHelp) ⊎ (kind ≡ DisplayVersion)
ErrorKind-help_or_version DisplayHelp h = inl refl
ErrorKind-help_or_version DisplayVersion h = inr refl
ErrorKind-help_or_version _ h = absurd (h ((λ e. cc), (λ e. cc)))

-- what is reported of an error, by whether it is a mistake
module _ {O E : Type 0} (contents : O → Option (List ℕ)) (shows : E → Option (List ℕ)) (kind : ErrorKind) (old new : O) (silent returned : E) (line : Result (Unit {0}) WriteFault) (status : ℕ)
    (memory : kind ≢ OutOfMemory) where
  abbrev Has : ErrorKind → Type 0
  Has k = (kind ≢ OutOfMemory) × (kind ≡ k)

  pub ReportsOfWords-by_mistake : (mistake : Bool) → (IsTrue mistake ↔ ((kind ≢ DisplayHelp) × (kind ≢ DisplayVersion))) → (IsTrue mistake → ReportsMistake contents shows old new silent returned line status)
      → (mistake ≡ false → ReportsText contents shows old new silent returned line status) → ReportsOfWords contents shows Has old new silent returned line status
  ReportsOfWords-by_mistake true is reports shown = let both = is.0 refl in inl ((kind, (memory, refl), both.0, both.1), reports refl)
  ReportsOfWords-by_mistake false is reports shown =
      let asked : AsksForText Has = elim (ErrorKind-help_or_version kind (λ both. let bad : false ≡ true = is.1 both in cc)) [ inl help ↦ inl (memory, help) | inr version ↦ inr (memory, version) ] in
      inr (inl (asked, shown refl))

-- what is reported of the words is what a run of them promises
module _ {D I O E : Type 0} {g : Ghosts D} (held : Image) (remaining : I → Option (List ℕ)) (contents : O → Option (List ℕ)) (shows : E → Option (List ℕ)) (words : List Text) (e : Error)
    (taken : is_line words ≡ true → kind_of e ≡ OutOfMemory) (kind : HasKind (mistakes words) e) (before : I) (old new : O) (silent returned : E) (end : RunEnd D g)
    (memory : kind_of e ≡ OutOfMemory → LacksMemory contents shows old new silent returned end.line end.status)
    (reports : ReportsOfWords contents shows (λ (k : ErrorKind). (kind_of e ≢ OutOfMemory) × (kind_of e ≡ k)) old new silent returned end.line end.status) where
  LacksMemory-of_line : is_line words ≡ true → LacksMemory contents shows old new silent returned end.line end.status
  LacksMemory-of_line line = memory (taken line)

  status-not_1 : {P : Type 0} → end.status ≡ 1 → P
  status-not_1 one = elim (ReportsOfWords-status contents shows (IsFoundIn words) _ (IsFoundIn-of_kind words e kind) old new silent returned end.line end.status reports) [
    | inl nought ↦ absurd (omega (arith, one, nought))
    | inr (inl two) ↦ absurd (omega (arith, one, two))
    | inr (inr three) ↦ absurd (omega (arith, one, three))
  ]

  pub Ran-of_words : Ran held remaining contents shows words before before old new silent returned end
  Ran-of_words = record {
    statuses = elim (ReportsOfWords-status contents shows (IsFoundIn words) _ (IsFoundIn-of_kind words e kind) old new silent returned end.line end.status reports) [
      | inl nought ↦ inl nought
      | inr (inl two) ↦ inr (inr (inl two))
      | inr (inr three) ↦ inr (inr (inr three))
    ];
    done = λ nought line. let three = (LacksMemory-of_line line).0 in absurd (omega (arith, nought, three));
    refused = λ one. status-not_1 one;
    quiet = λ nought line. let three = (LacksMemory-of_line line).0 in absurd (omega (arith, nought, three));
    quiet_refused = λ one. status-not_1 one;
    usage = λ two line. let three = (LacksMemory-of_line line).0 in absurd (omega (arith, two, three));
    unread = λ none. refl;
    returned_of = λ none. ReportsOfWords-weaker contents shows (IsFoundIn words) _ (IsFoundIn-of_kind words e kind) old new silent returned end.line end.status reports;
    fails = λ three line. inl (refl, (LacksMemory-of_line line).1);
    reason = λ three line. inl (LacksMemory-of_line line).2;
  }

-- the words that are run are these texts
pub Ran-of_texts : {D I O E : Type 0} {g : Ghosts D} (held : Image) (remaining : I → Option (List ℕ)) (contents : O → Option (List ℕ)) (shows : E → Option (List ℕ)) (words texts : List Text) (before after : I) (old new : O) (silent returned : E) (end : RunEnd D g)
    → words ≡ texts → Ran held remaining contents shows words before after old new silent returned end → Ran held remaining contents shows texts before after old new silent returned end
Ran-of_texts held remaining contents shows words texts before after old new silent returned end same ran =
    subst (λ (these : List Text). Ran held remaining contents shows these before after old new silent returned end) same ran
