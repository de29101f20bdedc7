-- Ways along edges between nodes below a number.
use Rattle.std.proofs.Common.{◌≡◌, ltb, ℕ, ◌<◌, ◌&&◌, Bool, true}
use Rattle.std.proofs.lemmas.Bool.{and_parts, and_from, lt-ltb, ltb-true}
use Rattle.jd_reach.specs.Paths.{ReachesBy}
use Rattle.jd_reach.specs.Paths.ReachesBy.{reaches_itself, reaches_by_edge}
use Rattle.jd_reach.specs.Rows.{within}

pub reaches_on : (edges : ℕ → ℕ → Bool) (a b c : ℕ) → ReachesBy edges a b → ReachesBy edges b c → ReachesBy edges a c
reaches_on edges a b c (reaches_itself _) q = q
reaches_on edges a b c (reaches_by_edge _ d _ e p) q = reaches_by_edge a d c e (reaches_on edges d b c p q)

pub one_edge : (edges : ℕ → ℕ → Bool) (a b : ℕ) → edges a b ≡ true → ReachesBy edges a b
one_edge edges a b e = reaches_by_edge a b b e (reaches_itself b)

-- edges join nodes below the number
pub record AreBelow (nodes : ℕ) (edges : ℕ → ℕ → Bool) : Type 0 where
  pub ends : (a b : ℕ) → edges a b ≡ true → (a < nodes) × (b < nodes)

pub reached_below : (nodes : ℕ) (edges : ℕ → ℕ → Bool) → AreBelow nodes edges → (a b : ℕ) → a < nodes → ReachesBy edges a b → b < nodes
reached_below nodes edges bounded a b below (reaches_itself _) = below
reached_below nodes edges bounded a b below (reaches_by_edge _ d _ e rest) = reached_below nodes edges bounded d b (bounded.ends a d e).1 rest

module _ (nodes : ℕ) (bits : ℕ → ℕ → Bool) where
  pub are_below : AreBelow nodes (within nodes bits)
  are_below = record {
    ends = λ a b e.
        let parts = and_parts (ltb a nodes && ltb b nodes) (bits a b) e in
        let both = and_parts (ltb a nodes) (ltb b nodes) parts.0 in
        (ltb-true a nodes both.0, ltb-true b nodes both.1);
  }

  pub bit_of : (a b : ℕ) → within nodes bits a b ≡ true → bits a b ≡ true
  bit_of a b e = (and_parts (ltb a nodes && ltb b nodes) (bits a b) e).1

  pub edge_of : (a b : ℕ) → a < nodes → b < nodes → bits a b ≡ true → within nodes bits a b ≡ true
  edge_of a b p q e = and_from _ _ (and_from _ _ (lt-ltb a nodes p) (lt-ltb b nodes q)) e
