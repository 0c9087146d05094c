-- the states after sessions are those of runs over what is done of them
use Rattle.std.{specs.Prelude.{Option, Some, None}, proofs.Common.{◌≡◌, ◌⊎◌, List, [], ◌∷◌, ◌++◌, refl, sym, ◌∙◌, ap, subst, inl, inr}}
use Rattle.std.proofs.lemmas.List.{append-nil, append_assoc, append_cancel_left}
use Rattle.broker_core.specs.{declared.answer.Answer.{Answer}, State.{State}, Machine.{Primitives, Request, Run, Step}, Laws.{Session, Sessions, CutLeaves}}
use Rattle.broker_core.{specs.Sessions.{with_cut, IsDoneOf, AreDoneOf, RunsDone, SessionsRun}, proofs.SessionLemmas.{Run-append}}

-- ---- what is done of one session

abbrev following : Option Request → List Request
following None = []
following (Some cut) = cut ∷ []

with_cut-append : (requests : List Request) (cut : Option Request) → with_cut requests cut ≡ requests ++ following cut
with_cut-append requests None = sym (append-nil requests)
with_cut-append requests (Some cut) = refl

IsDoneOf-answered : (x : Session) → IsDoneOf x x.answered
IsDoneOf-answered x = record { are_first = (following x.cut, with_cut-append x.answered x.cut); has_answered = ([], sym (append-nil x.answered)) }

IsDoneOf-with_cut : (x : Session) (r : Request) → x.cut ≡ Some r → IsDoneOf x (x.answered ++ r ∷ [])
IsDoneOf-with_cut x r is = record { are_first = ([], ap (with_cut x.answered) is ∙ sym (append-nil (x.answered ++ r ∷ []))); has_answered = (r ∷ [], refl) }

following-append_cases : (cut : Option Request) (more left : List Request) → following cut ≡ more ++ left → (more ≡ []) ⊎ ((r : Request) × (cut ≡ Some r) × (more ≡ r ∷ []))
following-append_cases cut [] left is = inl refl
following-append_cases None (m ∷ ms) left is = absurd (cc)
following-append_cases (Some r) (m ∷ []) left is = let same : r ≡ m = cc in inr (r, refl, ap (λ x. x ∷ []) (sym same))
following-append_cases (Some r) (m ∷ (n ∷ ns)) left is = absurd (cc)

-- exactly the answered ones are done, or the cut one too
IsDoneOf-cases : (x : Session) (first : List Request) → IsDoneOf x first → (first ≡ x.answered) ⊎ ((r : Request) × (x.cut ≡ Some r) × (first ≡ x.answered ++ r ∷ []))
IsDoneOf-cases x first is = by (following-append_cases x.cut more left (append_cancel_left x.answered _ _ all))
  where
    more : List Request
    more = is.has_answered.0

    left : List Request
    left = is.are_first.0

    all : x.answered ++ following x.cut ≡ x.answered ++ (more ++ left)
    all = sym (with_cut-append x.answered x.cut) ∙ is.are_first.1 ∙ ap (λ (d : List Request). d ++ left) is.has_answered.1 ∙ append_assoc x.answered more left

    by : (more ≡ []) ⊎ ((r : Request) × (x.cut ≡ Some r) × (more ≡ r ∷ [])) → (first ≡ x.answered) ⊎ ((r : Request) × (x.cut ≡ Some r) × (first ≡ x.answered ++ r ∷ []))
    by (inl none) = inl (is.has_answered.1 ∙ ap (λ (m : List Request). x.answered ++ m) none ∙ append-nil x.answered)
    by (inr one) = inr (one.0, one.1, is.has_answered.1 ∙ ap (λ (m : List Request). x.answered ++ m) one.2)

-- ---- runs in two parts

Run-split : (parts : Primitives) (s last : State) (rs qs : List Request) (zs : List Answer) → Run parts s (rs ++ qs) zs last
    → (xs : List Answer) × (ys : List Answer) × (mid : State) × Run parts s rs xs mid × Run parts mid qs ys last
Run-split parts s last [] qs zs run = ([], zs, s, refl, run)
Run-split parts s last (r ∷ rs) qs [] run = absurd run
Run-split parts s last (r ∷ rs) qs (z ∷ zs) run =
    let rest = Run-split parts run.0 last rs qs zs run.2 in
    (z ∷ rest.0, rest.1, rest.2, (run.0, run.1, rest.3), rest.4)

Run-empty : (parts : Primitives) (s last : State) (zs : List Answer) → Run parts s [] zs last → last ≡ s
Run-empty parts s last [] run = run
Run-empty parts s last (z ∷ zs) run = absurd run

CutLeaves-of_one_step : (parts : Primitives) (s last : State) (r : Request) (zs : List Answer) → Run parts s (r ∷ []) zs last → CutLeaves parts s (Some r) last
CutLeaves-of_one_step parts s last r [] run = absurd run
CutLeaves-of_one_step parts s last r (z ∷ zs) run = inr (z, subst (λ (t : State). Step parts s r.token r.command (record { answer = z; state = t })) (sym (Run-empty parts run.0 last zs run.2)) run.1)

-- ---- all sessions

module _ (parts : Primitives) where
  CutLeaves-unchanged : (s last : State) (cut : Option Request) → last ≡ s → CutLeaves parts s cut last
  CutLeaves-unchanged s last None same = same
  CutLeaves-unchanged s last (Some r) same = inl same

  -- what is done of one session, and then of the others
  RunsDone-cons : (s mid last : State) (x : Session) (xs : List Session) (first : List Request) (answers : List Answer) → IsDoneOf x first → Run parts s first answers mid → RunsDone parts mid xs last → RunsDone parts s (x ∷ xs) last
  RunsDone-cons s mid last x xs first answers is run rest =
      (first ++ rest.0, answers ++ rest.1, (first, rest.0, is, rest.2, refl), Run-append parts s mid last first rest.0 answers rest.1 run rest.3)

  RunsDone-cons_cut : (s mid next last : State) (x : Session) (xs : List Session) (answers : List Answer) (cut : Option Request) → x.cut ≡ cut → Run parts s x.answered answers mid → CutLeaves parts mid cut next → RunsDone parts next xs last → RunsDone parts s (x ∷ xs) last
  RunsDone-cons_cut s mid next last x xs answers None is run left rest = RunsDone-cons s mid last x xs x.answered answers (IsDoneOf-answered x) run (subst (λ (t : State). RunsDone parts t xs last) left rest)
  RunsDone-cons_cut s mid next last x xs answers (Some r) is run (inl left) rest = RunsDone-cons s mid last x xs x.answered answers (IsDoneOf-answered x) run (subst (λ (t : State). RunsDone parts t xs last) left rest)
  RunsDone-cons_cut s mid next last x xs answers (Some r) is run (inr step) rest =
      RunsDone-cons s next last x xs (x.answered ++ r ∷ []) (answers ++ step.0 ∷ []) (IsDoneOf-with_cut x r is) (Run-append parts s mid next x.answered (r ∷ []) answers (step.0 ∷ []) run (next, step.1, refl)) rest

  RunsDone-of_sessions : (s last : State) (xs : List Session) → Sessions parts s xs last → RunsDone parts s xs last
  RunsDone-of_sessions s last [] all = ([], [], refl, all)
  RunsDone-of_sessions s last (x ∷ xs) all = RunsDone-cons_cut s all.1 all.2 last x xs all.0 x.cut refl all.3 all.4 (RunsDone-of_sessions all.2 last xs all.5)

  Sessions-of_done : (s last : State) (xs : List Session) (done : List Request) (answers : List Answer) → AreDoneOf xs done → Run parts s done answers last → Sessions parts s xs last
  Sessions-of_done s last [] done answers none run = Run-empty parts s last answers (subst (λ (d : List Request). Run parts s d answers last) none run)
  Sessions-of_done s last (x ∷ xs) done answers all run =
      let both = Run-split parts s last all.0 all.1 answers (subst (λ (d : List Request). Run parts s d answers last) all.4 run) in
      by both.0 both.2 both.3 (Sessions-of_done both.2 last xs all.1 both.1 all.3 both.4) (IsDoneOf-cases x all.0 all.2)
    where
      by : (front : List Answer) (mid : State) → Run parts s all.0 front mid → Sessions parts mid xs last → (all.0 ≡ x.answered) ⊎ ((r : Request) × (x.cut ≡ Some r) × (all.0 ≡ x.answered ++ r ∷ [])) → Sessions parts s (x ∷ xs) last
      by front mid first rest (inl same) =
          (front, mid, mid, subst (λ (d : List Request). Run parts s d front mid) same first, CutLeaves-unchanged mid mid x.cut refl, rest)
      by front mid first rest (inr cut) =
          let both = Run-split parts s mid x.answered (cut.0 ∷ []) front (subst (λ (d : List Request). Run parts s d front mid) cut.2 first) in
          (both.0, both.2, mid, both.3, subst (λ (c : Option Request). CutLeaves parts both.2 c mid) (sym cut.1) (CutLeaves-of_one_step parts both.2 mid cut.0 both.1 both.4), rest)

pub SessionsRun-holds : (parts : Primitives) → SessionsRun parts
SessionsRun-holds parts s last xs = (RunsDone-of_sessions parts s last xs, λ done. Sessions-of_done parts s last xs done.0 done.1 done.2 done.3)
