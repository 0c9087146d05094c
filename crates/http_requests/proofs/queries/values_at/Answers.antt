use Rattle.std.proofs.Common.{◌≡◌, ◌≤◌, ℕ, Bool, true, false, List, [], ◌∷◌, ◌++◌, length, bytes_eq, append_assoc, append-nil, sym, ap, ◌∙◌, subst}
use Rattle.http_requests.{specs.Queries.{decoded_text, values_at, AreValues}, proofs.QueryLemmas.{values-with, values-without, AreValues-second_value}}
use Rattle.http_requests.proofs.queries.values_at.Goals.{in-Absent+in_ok-decode-in-Absent+in_ok-into_owned-in-Absent, in_default-found}
use Rattle.http_requests.proofs.queries.values_at.Goals as goal

-- one more pair is done
one_more : (done left all old : List (List ℕ × List ℕ)) (pair : List ℕ × List ℕ) → done ++ old ≡ all → old ≡ pair ∷ left → (done ++ pair ∷ []) ++ left ≡ all
one_more done left all old pair so_far step = append_assoc done (pair ∷ []) left ∙ ap (λ l. done ++ l) (sym step) ∙ so_far

-- what the code compares
reports : (name key text cow : List ℕ) (b : Bool) → b ≡ bytes_eq text key → text ≡ cow → cow ≡ decoded_text name → bytes_eq (decoded_text name) key ≡ b
reports name key text cow b eq is dec = ap (λ l. bytes_eq l key) (sym dec ∙ sym is) ∙ sym eq

pub loop-name-preserved-then-eq : goal.loop-name-preserved-then-eq
loop-name-preserved-then-eq c =
    let so_far = c.loop-name.invariant in
    let key = c.args.key.now in
    let pair : List ℕ × List ℕ = (c.in-Some.name.now, c.in-Some.value.now) in
    let same = reports c.in-Some.name.now key c.as_str.result.now _ true c.if-eq.ensures c.as_str.ensures.value c.in_ok-decode.ensures.value.2 in
    let more = values-with key pair so_far.0 same in (
      so_far.0 ++ pair ∷ [],
      one_more so_far.0 _ _ _ pair so_far.1 c.in-Some.ensures.steps,
      elim c.match-found-2.branch [
        | in-Absent+in_ok-decode-in-Absent+in_ok-into_owned-in-Absent w ↦
            let none : values_at key so_far.0 ≡ [] = subst (AreValues (values_at key so_far.0)) w.in-Absent.is so_far.2 in
            let d = w.in_ok-decode-in-Absent.ensures.value.2 in
            let o = w.in_ok-into_owned-in-Absent.ensures in
            rw w.found-is (more ∙ ap (λ l. l ++ decoded_text pair.1 ∷ []) none ∙ ap (λ text. text ∷ []) (sym d ∙ sym o.ok))
        | in_default-found w ↦
            let not = w.in_default-found.not-Absent in
            rw w.found-is (subst (λ l. 2 ≤ length l) (sym more) (AreValues-second_value (values_at key so_far.0) (decoded_text pair.1) c.loop-name.found not so_far.2))
      ],
    )

pub loop-name-preserved : goal.loop-name-preserved
loop-name-preserved c =
    let so_far = c.loop-name.invariant in
    let key = c.args.key.now in
    let pair : List ℕ × List ℕ = (c.in-Some.name.now, c.in-Some.value.now) in
    let same = reports c.in-Some.name.now key c.as_str.result.now _ false c.if-eq.ensures c.as_str.ensures.value c.in_ok-decode.ensures.value.2 in
    let values = values-without key pair so_far.0 same ∙ append-nil (values_at key so_far.0) in (
      so_far.0 ++ pair ∷ [],
      one_more so_far.0 _ _ _ pair so_far.1 c.in-Some.ensures.steps,
      subst (λ l. AreValues l c.loop-name.found) (sym values) so_far.2,
    )
