-- a command that comes twice changes what it changes once
use Rattle.std.specs.{Prelude.{Option, Some, None, is_some, IsSome, filter}, List.{last_or, enumerate_from, list_any}}
use Rattle.std.proofs.Common.{◌≡◌, ◌≢◌, ◌⊎◌, inl, inr, ◌∷◌, [], ◌++◌, ◌+◌, ℕ, List, refl, sym, ◌∙◌, ap, Bool, true, false, ◌&&◌, if◌then◌else◌}
use Rattle.std.proofs.lemmas.List.Elements.{Contains-push}
use Rattle.broker_core.specs.{declared.command.Command.{Command}, declared.command.Version.{Version}}
use Rattle.broker_core.specs.{Text.{Text, same_text, same_version, same_pair, same_place, put_at}, State.{State, Verification}}
use Rattle.broker_core.specs.{Request.{is_known, consumer_version}, Change.{Transition, on_branch, result_of_run, is_text, instance_of, content_number}}
use Rattle.broker_core.specs.{Machine.{Primitives, Step}, Laws.{IsRepeatable, Retry}}
use Rattle.broker_core.proofs.Effects.Change.{team, pacticipant, environment, grant, end_of_grant, named_version, contract, claim, check, deployment, end_of_deployment, release, end_of_support}
use Rattle.broker_core.proofs.{Lists.{list_any-of_member}, Judgement.{same_text-refl, same_version-refl}}
use Rattle.broker_core.proofs.{Effects.{Change, Effect, Effect-of_Step, versions_with, branches_with, with_result}, Effects.Effect.{returned, changed}}

-- what was put at a key is there
pub put_at-same : {K X : Type 0} (same : K → K → Bool) (table : K → X) (key : K) (value : X) → same key key ≡ true → put_at same table key value key ≡ value
put_at-same same table key value e = ap (λ b. if b then value else table key) e

pair_text-refl : (x : Text × Text) → same_pair same_text same_text x x ≡ true
pair_text-refl x = ap (λ b. b && same_text x.1 x.1) (same_text-refl x.0) ∙ same_text-refl x.1

branch-refl : (x : Version × Text) → same_pair same_version same_text x x ≡ true
branch-refl x = ap (λ b. b && same_text x.1 x.1) (same_version-refl x.0) ∙ same_text-refl x.1

pub mark-refl : (x : Text × Version) → same_pair same_text same_version x x ≡ true
mark-refl x = ap (λ b. b && same_version x.1 x.1) (same_text-refl x.0) ∙ same_version-refl x.1

pub place-refl : (x : Text × Text × Text) → same_place x x ≡ true
place-refl x = ap (λ b. b && (same_text x.1 x.1 && same_text x.2 x.2)) (same_text-refl x.0) ∙ ap (λ b. b && same_text x.2 x.2) (same_text-refl x.1) ∙ same_text-refl x.2

is_known-again : (s : State) (v : Version) → list_any (same_version v) (versions_with s v) ≡ true
is_known-again s v = by_known (is_known s v) refl
  where
    by_known : (b : Bool) → is_known s v ≡ b → list_any (same_version v) (if b then s.versions else s.versions ++ v ∷ []) ≡ true
    by_known true e = e
    by_known false e = list_any-of_member (same_version v) (s.versions ++ v ∷ []) v (Contains-push s.versions v) (same_version-refl v)

is_on_branch-again : (s : State) (v : Version) (branch : Option Text) → on_branch (record s { branches = branches_with s v branch }) v branch ≡ true
is_on_branch-again s v None = refl
is_on_branch-again s v (Some branch) = put_at-same (same_pair same_version same_text) s.branches (v, branch) true (branch-refl (v, branch))

-- a row that passes and comes last is there
last_row-push : {X : Type 0} (test : X → Bool) (x : X) → test x ≡ true → (o : Option (ℕ × X)) (n : ℕ) (rows : List X)
    → is_some (last_or o (filter (λ (e : ℕ × X). test e.1) (enumerate_from n (rows ++ x ∷ [])))) ≡ true
last_row-push {X} test x e o n [] = ap (λ b. is_some (last_or o (if b then ((n, x) ∷ []) else []))) e
last_row-push {X} test x e o n (y ∷ rows) =
    let rest : List (ℕ × X) = filter (λ (e : ℕ × X). test e.1) (enumerate_from (n + 1) (rows ++ x ∷ [])) in
    elim (test y) as (λ b. is_some (last_or o (if b then ((n, y) ∷ rest) else rest)) ≡ true) [
      | true ↦ last_row-push test x e (Some (n, y)) (n + 1) rows
      | false ↦ last_row-push test x e o (n + 1) rows
    ]

-- a run that has a result isn't free
result_of_run-used : (s : State) (r : Verification) (run : Option Text) → IsSome run → r.run ≡ run → result_of_run (with_result s r) r.version.pacticipant run ≢ None
result_of_run-used s r None some same free = cc
result_of_run-used s r (Some run) some same free =
    let passes : (same_text r.version.pacticipant r.version.pacticipant && is_text run r.run) ≡ true =
    ap (λ b. b && is_text run r.run) (same_text-refl r.version.pacticipant) ∙ ap (is_text run) same ∙ same_text-refl run in
    let there = last_row-push (λ q. same_text q.version.pacticipant r.version.pacticipant && is_text run q.run) r passes None 1 s.results in
    let wrong : false ≡ true = sym (ap is_some free) ∙ there in
    cc

-- a command that changed a state, and may come twice, doesn't change the state that it left
Change-once : (parts : Primitives) (s : State) (c : Command) (t u : State) → IsRepeatable c → Change parts s c t → Change parts t c u → ⊥
Change-once parts s _ _ _ _ (team name token new nobody) (team _ _ free _) =
    let is_present = put_at-same same_text s.teams name (Some (parts.digest_of token)) (same_text-refl name) in cc
Change-once parts s _ _ _ _ (pacticipant p owner new) (pacticipant _ _ free) =
    let is_present = put_at-same same_text s.pacticipants p (Some owner) (same_text-refl p) in cc
Change-once parts s _ _ _ _ (environment e marks new) (environment _ _ free) =
    let is_present = put_at-same same_text s.environments e (Some marks) (same_text-refl e) in cc
Change-once parts s _ _ _ _ (grant name e new) (grant _ _ free) =
    let is_present = put_at-same (same_pair same_text same_text) s.grants (name, e) true (pair_text-refl (name, e)) in cc
Change-once parts s _ _ _ _ (end_of_grant name e stood) (end_of_grant _ _ there) =
    let gone = put_at-same (same_pair same_text same_text) s.grants (name, e) false (pair_text-refl (name, e)) in cc
Change-once parts s _ _ _ _ (named_version v branch new) (named_version _ _ other) =
    let both : (list_any (same_version v) (versions_with s v) && on_branch (record s { branches = branches_with s v branch }) v branch) ≡ true =
    ap (λ b. b && on_branch (record s { branches = branches_with s v branch }) v branch) (is_known-again s v) ∙ is_on_branch-again s v branch in
    cc
Change-once parts s _ _ _ _ (contract path file text new reads) (contract _ _ _ free _) =
    let key : Version × Text = (consumer_version path, path.provider) in
    let is_present = put_at-same (same_pair same_version same_text) s.contracts key (Some (content_number s text)) (branch-refl key) in cc
Change-once parts s _ _ _ some (claim path r success content row new) (claim _ _ _ _ _ free) = result_of_run-used s _ r.run some refl free
Change-once parts s _ _ _ some (check path r replies content failing row new) (check _ _ _ _ _ _ free) = result_of_run-used s _ r.run some refl free
Change-once parts s _ _ _ _ (deployment e v instance new) (deployment _ _ _ other) =
    let place : Text × Text × Text = (e, v.pacticipant, instance_of instance) in
    let is_present = ap (is_text v.name) (put_at-same same_place s.deployed place (Some v.name) (place-refl place)) ∙ same_text-refl v.name in cc
Change-once parts s _ _ _ _ (end_of_deployment e v instance stood) (end_of_deployment _ _ _ there) =
    let place : Text × Text × Text = (e, v.pacticipant, instance_of instance) in
    let gone = ap (is_text v.name) (put_at-same same_place s.deployed place None (place-refl place)) in cc
Change-once parts s _ _ _ _ (release e v new) (release _ _ other) =
    let is_present = put_at-same (same_pair same_text same_version) s.released (e, v) true (mark-refl (e, v)) in cc
Change-once parts s _ _ _ _ (end_of_support e v stood) (end_of_support _ _ there) =
    let gone = put_at-same (same_pair same_text same_version) s.released (e, v) false (mark-refl (e, v)) in cc

-- the law, in every state
pub Retry-holds : (parts : Primitives) → Retry parts (λ s. Unit {0})
Retry-holds parts s token c a b _ repeatable x y = by_first a (Effect-of_Step parts s token c a x) y
  where
    by_second : (t : State) → Change parts s c t → (o : Transition) → Effect parts t c o → o.state ≡ t
    by_second t change _ (returned answer is) = refl
    by_second t change _ (changed u detail more) = absurd (Change-once parts s c t u repeatable change more)

    by_first : (o : Transition) → Effect parts s c o → Step parts o.state token c b → (b.state ≡ o.state) ⊎ ((o.state ≡ s) × Step parts s token c b)
    by_first _ (returned answer is) second = inr (refl, second)
    by_first _ (changed t detail change) second = inl (by_second t change b (Effect-of_Step parts t token c b second))
