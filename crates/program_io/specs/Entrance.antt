-- peers that are served one after the other, and what is known of them (this project's own choice)
use Rattle.std.specs.Prelude.{◌≡◌, ◌+◌, ℕ, List, [], ◌∷◌, ◌++◌, length, map, replicate, Option, None}

-- what a peer still sends, and what it has taken, if these are known
pub record Peer : Type 0 where
  pub sends : Option (List ℕ)
  pub took : Option (List ℕ)

abbrev pub peer_of : Option (List ℕ) → Option (List ℕ) → Peer
peer_of sends took = record { sends = sends; took = took }

pub record Queue : Type 0 where
  -- who is still to come, in order
  pub coming : List Peer
  -- who was let in, as they came, and who was let go, as they went
  pub came : List Peer
  pub went : List Peer
  -- how many were lost as they came in
  pub lost : ℕ

-- nobody is in
abbrev pub NoneIsIn : Queue → Type 0
NoneIsIn queue = length queue.came ≡ length queue.went

-- nobody was in yet
abbrev pub IsNewQueue : Queue → Type 0
IsNewQueue queue = (queue.came ≡ []) × (queue.went ≡ [])

-- the first of those to come is lost
abbrev pub IsLost : Queue → Queue → Type 0
IsLost old new =
    (first : Peer) × (rest : List Peer) × (old.coming ≡ first ∷ rest)
    × (new ≡ record old { coming = rest; lost = old.lost + 1 })

-- or is let in
abbrev pub IsLetIn : Queue → Queue → Peer → Type 0
IsLetIn old new peer =
    (rest : List Peer) × (old.coming ≡ peer ∷ rest) × (new ≡ record old { coming = rest; came = old.came ++ peer ∷ [] })

-- one that is in is let go
abbrev pub IsLetGo : Queue → Queue → Peer → Type 0
IsLetGo old new peer = new ≡ record old { went = old.went ++ peer ∷ [] }

-- a peer that was let in and let go, as it came and as it went
pub record Visit : Type 0 where
  pub before : Peer
  pub after : Peer

-- the first of those to come was let in and let go
abbrev pub IsVisited : Queue → Queue → Visit → Type 0
IsVisited old new visit =
    (mid : Queue) × IsLetIn old mid visit.before × IsLetGo mid new visit.after

-- so were these, in order, and others were lost
pub record AreVisited (old new : Queue) (visits : List Visit) : Type 0 where
  pub came : new.came ≡ old.came ++ map (λ v. v.before) visits
  pub went : new.went ≡ old.went ++ map (λ v. v.after) visits
  pub count : length old.coming + old.lost ≡ length new.coming + new.lost + length visits

-- a peer of which nothing is known
abbrev pub stranger : Peer
stranger = peer_of None None

-- peers of which nothing is known: so many to come, let in, let go and lost
abbrev pub queue_of : (coming came went lost : ℕ) → Queue
queue_of coming came went lost = record {
  coming = replicate coming stranger;
  came = replicate came stranger;
  went = replicate went stranger;
  lost = lost;
}
