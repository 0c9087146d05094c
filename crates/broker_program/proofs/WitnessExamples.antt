-- What two wrong bodies leave: clauses that end in an existential exclude it, for each witness.
use Rattle.std.{specs.Prelude.{Option}, proofs.Common.{◌≡◌, ◌≢◌, inl, inr, ℕ, List, [], ◌∷◌, ◌++◌, length, true, sym, ap, ◌∙◌, arith, length-append}}
use Rattle.sqlite_disk.specs.declared.Disk.{Ghosts}
use Rattle.sqlite.specs.{Recovery.{Image}, declared.FileStore.{FileStore}}
use Rattle.clap.specs.Words.{Text}
use Rattle.broker_database.specs.BrokerView.{BrokerView}
use Rattle.command_line.specs.Lines.{is_line}
use Rattle.program_io.specs.Entrance.{Peer, Queue, IsLetIn}
use Rattle.broker_program.specs.{Running.{Ran}, Serving.{ServesNext}, declared.run_end.RunEnd.{RunEnd}}

append-not_self : {A : Type 0} (xs : List A) (x : A) → ¬ (xs ++ x ∷ [] ≡ xs)
append-not_self xs x same = let counts = ap length same in omega (arith, counts, length-append xs (x ∷ []))

-- `each_second_connection_unserved`: a peer that was let in, and then wasn't let go, was neither lost nor served
module _ {D : Type 0} {g : Ghosts D} (s t : BrokerView (FileStore D g)) (old new : Queue) (peer : Peer) where
  pub IsLetIn-not_dropped : IsLetIn old new peer → ¬ (ServesNext s t old new)
  IsLetIn-not_dropped (rest, first, let_in) (inl (lost, kept)) =
      append-not_self old.came peer (sym (ap (λ (q : Queue). q.came) let_in) ∙ ap (λ (q : Queue). q.came) lost.3)
  IsLetIn-not_dropped (rest, first, let_in) (inr (visit, (mid, comes, let_go), serves)) =
      let went : mid.went ≡ old.went = ap (λ (q : Queue). q.went) comes.2 in
      append-not_self mid.went visit.after (sym (ap (λ (q : Queue). q.went) let_go) ∙ ap (λ (q : Queue). q.went) let_in ∙ sym went)

-- `status_halved_in_process`: words that are no command line don't end with 1, for any streams
module _ {D I O E : Type 0} {g : Ghosts D} (held : Image) (remaining : I → Option (List ℕ)) (contents : O → Option (List ℕ)) (shows : E → Option (List ℕ)) where
  pub Ran-mistake_not_1 : (words : List Text) (before after : I) (old new : O) (silent returned : E) (end : RunEnd D g) → is_line words ≢ true
      → Ran held remaining contents shows words before after old new silent returned end → end.status ≢ 1
  Ran-mistake_not_1 words before after old new silent returned end mistaken ran is = elim (ran.returned_of mistaken) [
    | inl mistake ↦ let clash = sym is ∙ mistake.1.0 in absurd cc
    | inr (inl (asks, inl shown)) ↦ let clash = sym is ∙ shown.0 in absurd cc
    | inr (inl (asks, inr lost)) ↦ let clash = sym is ∙ lost.0 in absurd cc
    | inr (inr lacks) ↦ let clash = sym is ∙ lacks.0 in absurd cc
  ]
