-- What a search for the nodes that reach one another keeps (the path-based algorithm of strong
-- components, Gabow 2000).
use Rattle.std.specs.Prelude.{◌≡◌, ◌≢◌, ℕ, ◌<◌, ◌≤◌, ◌⊎◌, ◌++◌, ◌∷◌, [], Bool, true, List, length, slice_index, Contains}
use Rattle.jd_reach.specs.Paths.{ReachesBy}

-- rows of bits have nothing but what their nodes reach, and each of them has nothing or all of it
pub record AreClosed (nodes : ℕ) (edges rows : ℕ → ℕ → Bool) : Type 0 where
  pub sound : (a b : ℕ) → a < nodes → b < nodes → rows a b ≡ true → ReachesBy edges a b
  pub whole : (a b c : ℕ) → a < nodes → b < nodes → c < nodes → rows a b ≡ true → ReachesBy edges a c → rows a c ≡ true

-- what is set stays set
abbrev pub AreKept : ℕ → (ℕ → ℕ → Bool) → (ℕ → ℕ → Bool) → Type 0
AreKept nodes old new = (a b : ℕ) → b < nodes → old a b ≡ true → new a b ≡ true

-- the members of a group reach one another, and lead to one another and to nodes whose rows are closed
pub record IsGroup (nodes : ℕ) (edges rows : ℕ → ℕ → Bool) (members : List ℕ) : Type 0 where
  pub below : (m : ℕ) → Contains members m → m < nodes
  pub joined : (m k : ℕ) → Contains members m → Contains members k → ReachesBy edges m k
  pub leads : (m v : ℕ) → Contains members m → edges m v ≡ true → Contains members v ⊎ (rows v v ≡ true)

-- the row of one of them has the bits of all, and the whole row of each other node that it has the bit of
pub record IsFilled (nodes : ℕ) (edges rows : ℕ → ℕ → Bool) (members : List ℕ) (row : ℕ) : Type 0 where
  pub group : IsGroup nodes edges rows members
  pub member : Contains members row
  pub sound : (a b : ℕ) → a < nodes → b < nodes → rows a b ≡ true → ReachesBy edges a b
  pub whole : (a b c : ℕ) → a ≢ row → a < nodes → b < nodes → c < nodes
      → rows a b ≡ true → ReachesBy edges a c → rows a c ≡ true
  pub members_set : (m : ℕ) → Contains members m → rows row m ≡ true
  pub others : (v : ℕ) → v < nodes → rows row v ≡ true
      → Contains members v ⊎ ((b : ℕ) → b < nodes → ReachesBy edges v b → rows row b ≡ true)

-- numbers in rising order
pub record IsRising (xs : List ℕ) : Type 0 where
  pub apart : (i j : ℕ) → i < j → j < length xs → slice_index xs i < slice_index xs j

-- the last number
abbrev pub EndsIn : List ℕ → ℕ → Type 0
EndsIn xs x = (front : List ℕ) × (xs ≡ front ++ x ∷ [])

-- no group that starts at or below position i starts above position j: j is in the group of i or above it
abbrev pub IsNotBelow : List ℕ → ℕ → ℕ → Type 0
IsNotBelow starts i j = (s : ℕ) → Contains starts s → s ≤ i → s ≤ j

-- an edge from position i leads to a node whose row is closed, or to one that is open and not in a lower group
abbrev pub IsSettled : (ℕ → ℕ → Bool) → List ℕ → List ℕ → ℕ → ℕ → Type 0
IsSettled rows opened starts i v =
    (rows v v ≡ true)
    ⊎ ((j : ℕ) × (j < length opened) × (slice_index opened j ≡ v) × IsNotBelow starts i j)

-- the row of a node is closed, or the node is open
abbrev pub IsVisited : (ℕ → ℕ → Bool) → List ℕ → ℕ → Type 0
IsVisited rows opened v = (rows v v ≡ true) ⊎ Contains opened v

-- the rows that are closed; the open nodes, in the order in which they were visited, with the positions
-- where groups start and those of nodes whose edges are not all looked at; and for each node its position
-- and the first of its edges that is not looked at
pub record IsSearch (nodes : ℕ) (edges rows : ℕ → ℕ → Bool) (opened starts frames place next : List ℕ) : Type 0 where
  pub closed : AreClosed nodes edges rows
  pub places : length place ≡ nodes
  pub nexts : length next ≡ nodes
  pub below : (i : ℕ) → i < length opened → slice_index opened i < nodes
  pub placed : (i : ℕ) → i < length opened → slice_index place (slice_index opened i) ≡ i
  pub joined : (i j : ℕ) → i < length opened → j < length opened → IsNotBelow starts i j
      → ReachesBy edges (slice_index opened i) (slice_index opened j)
  pub looked : (i v : ℕ) → i < length opened → v < slice_index next (slice_index opened i) → edges (slice_index opened i) v ≡ true
      → IsSettled rows opened starts i v
  pub pending : (i : ℕ) → i < length opened
      → Contains frames i ⊎ ((v : ℕ) → edges (slice_index opened i) v ≡ true → v < slice_index next (slice_index opened i))
  pub framed : (s : ℕ) → Contains starts s → Contains frames s
  pub inside : (f : ℕ) → Contains frames f → f < length opened
  pub bottom : 0 < length opened → Contains starts 0
  pub frames_rise : IsRising frames
  pub starts_rise : IsRising starts
  pub fresh : (v : ℕ) → v < nodes → 0 < slice_index next v → IsVisited rows opened v
