-- peers that are let in and let go, one after another
use Rattle.std.proofs.Common.{◌≡◌, ◌<◌, ◌+◌, ℕ, List, [], ◌∷◌, ◌++◌, length, map, append_assoc, append-nil, length-append, sym, ap, ◌∙◌, arith}
use Rattle.std.proofs.lemmas.List.{length-map, length-replicate, map-append}
use Rattle.program_io.specs.Entrance.{AreVisited, IsLetIn, NoneIsIn, IsLost, IsVisited, Peer, Queue, Visit, queue_of, stranger}

pub AreVisited-none : (queue : Queue) → AreVisited queue queue []
AreVisited-none queue = record { came = sym (append-nil queue.came); went = sym (append-nil queue.went); count = omega arith }

-- two lists one after the other, of what is known of each visit
append-map_append : {T : Type 0} (f : Visit → T) (a b c : List T) (first more : List Visit) → b ≡ a ++ map f first → c ≡ b ++ map f more → c ≡ a ++ map f (first ++ more)
append-map_append f a b c first more p q =
    q ∙ ap (λ l. l ++ map f more) p ∙ append_assoc a (map f first) (map f more) ∙ ap (λ l. a ++ l) (sym (map-append f first more))

pub AreVisited-append : (old mid new : Queue) (first more : List Visit) → AreVisited old mid first → AreVisited mid new more → AreVisited old new (first ++ more)
AreVisited-append old mid new first more it next =
    let sum : length (first ++ more) ≡ length first + length more = length-append first more in
    record {
      came = append-map_append (λ v. v.before) old.came mid.came new.came first more it.came next.came;
      went = append-map_append (λ v. v.after) old.went mid.went new.went first more it.went next.went;
      count = omega (arith, it.count, next.count, sum);
    }

pub IsLost-fewer_coming : (old new : Queue) → IsLost old new → length old.coming ≡ length new.coming + 1
IsLost-fewer_coming old new lost = omega (arith, ap (λ (l : List Peer). length l) lost.2, ap (λ (q : Queue). length q.coming) lost.3)

pub AreVisited-then_lost : (old mid new : Queue) (visits : List Visit) → AreVisited old mid visits → IsLost mid new → AreVisited old new visits
AreVisited-then_lost old mid new visits it lost =
    let coming = IsLost-fewer_coming mid new lost in
    let is_lost : new.lost ≡ mid.lost + 1 = ap (λ (q : Queue). q.lost) lost.3 in
    record {
      came = ap (λ (q : Queue). q.came) lost.3 ∙ it.came;
      went = ap (λ (q : Queue). q.went) lost.3 ∙ it.went;
      count = omega (arith, it.count, coming, is_lost);
    }

-- and then one is in
pub IsLetIn-one_in : (old new : Queue) (peer : Peer) → IsLetIn old new peer → NoneIsIn old → length new.went < length new.came
IsLetIn-one_in old new peer it none =
    let came : length new.came ≡ length old.came + 1 = omega (arith, ap (λ (q : Queue). length q.came) it.2, length-append old.came (peer ∷ [])) in
    let went : length new.went ≡ length old.went = ap (λ (q : Queue). length q.went) it.2 in
    omega (arith, came, went, none)

pub IsVisited-fewer_coming : (old new : Queue) (visit : Visit) → IsVisited old new visit → length old.coming ≡ length new.coming + 1
IsVisited-fewer_coming old new visit it =
    omega (arith, ap (λ (l : List Peer). length l) it.1.1, ap (λ (q : Queue). length q.coming) it.1.2, ap (λ (q : Queue). length q.coming) it.2)

pub AreVisited-one : (old new : Queue) (visit : Visit) → IsVisited old new visit → AreVisited old new (visit ∷ [])
AreVisited-one old new visit it =
    let coming = IsVisited-fewer_coming old new visit it in
    let same : new.lost ≡ old.lost = ap (λ (q : Queue). q.lost) it.2 ∙ ap (λ (q : Queue). q.lost) it.1.2 in
    record {
      came = ap (λ (q : Queue). q.came) it.2 ∙ ap (λ (q : Queue). q.came) it.1.2;
      went = ap (λ (q : Queue). q.went) it.2 ∙ ap (λ (q : Queue). q.went ++ visit.after ∷ []) it.1.2;
      count = omega (arith, coming, same);
    }

length-append_map : {T : Type 0} (f : Visit → T) (a b : List T) (visits : List Visit) → b ≡ a ++ map f visits → length b ≡ length a + length visits
length-append_map {T} f a b visits is = omega (arith, ap (λ (l : List T). length l) is, length-append a (map f visits), length-map visits f)

-- so many more were let in, and so many let go
pub AreVisited-came_length : (old new : Queue) (visits : List Visit) → AreVisited old new visits → length new.came ≡ length old.came + length visits
AreVisited-came_length old new visits it = length-append_map (λ v. v.before) old.came new.came visits it.came

pub AreVisited-went_length : (old new : Queue) (visits : List Visit) → AreVisited old new visits → length new.went ≡ length old.went + length visits
AreVisited-went_length old new visits it = length-append_map (λ v. v.after) old.went new.went visits it.went

-- nobody is in afterwards, if nobody was
pub AreVisited-none_is_in : (old new : Queue) (visits : List Visit) → AreVisited old new visits → NoneIsIn old → NoneIsIn new
AreVisited-none_is_in old new visits it idle =
    let came = AreVisited-came_length old new visits it in
    let went = AreVisited-went_length old new visits it in
    omega (arith, came, went, idle)

-- a new queue of peers of which nothing is known
pub queue_of-new_counts : (queue : Queue) (left served lost all : ℕ) → queue ≡ queue_of left 0 0 lost → served ≡ 0 → left + served + lost ≡ all → (length queue.went ≡ 0) × (length queue.coming + queue.lost ≡ all)
queue_of-new_counts queue left served lost all is none sum =
    let coming : length queue.coming ≡ left = ap (λ (q : Queue). length q.coming) is ∙ length-replicate left stranger in
    let same : queue.lost ≡ lost = ap (λ (q : Queue). q.lost) is in
    (ap (λ (q : Queue). length q.went) is, omega (arith, coming, same, none, sum))
