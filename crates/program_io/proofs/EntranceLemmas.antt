-- A peer of which nothing is known is let in.
use Rattle.std.proofs.{Math.Numerals.{add-one}, lemmas.Grind.{replicate_next}, Common.{◌≡◌, ◌∙◌, ◌+◌, ℕ, suc, List, ap, refl, replicate, subst, sym}}
use Rattle.program_io.specs.Entrance.{IsLetIn, Peer, Queue, queue_of, stranger}

queue_with : (left gone lost : ℕ) → List Peer → Queue
queue_with left gone lost came = record {
  coming = replicate left stranger;
  came = came;
  went = replicate gone stranger;
  lost = lost;
}

IsLetIn-stranger : (left served gone lost : ℕ) → IsLetIn (queue_of (suc left) served gone lost) (queue_of left (served + 1) gone lost) stranger
unfolding queue_with
IsLetIn-stranger left served gone lost =
    (replicate left stranger, refl, ap (queue_with left gone lost) (replicate_next served stranger))

pub IsLetIn-stranger_by_counts : (left served gone lost fewer more same : ℕ) → left ≡ fewer + 1 → more ≡ served + 1 → same ≡ lost
    → IsLetIn (queue_of left served gone lost) (queue_of fewer more gone same) stranger
IsLetIn-stranger_by_counts left served gone lost fewer more same h k e =
    subst (λ n. IsLetIn (queue_of n served gone lost) (queue_of fewer more gone same) stranger) (sym (h ∙ add-one fewer))
    (subst (λ n. IsLetIn (queue_of (suc fewer) served gone lost) (queue_of fewer n gone same) stranger) (sym k)
    (subst (λ n. IsLetIn (queue_of (suc fewer) served gone lost) (queue_of fewer (served + 1) gone n) stranger) (sym e)
    (IsLetIn-stranger fewer served gone lost)))
