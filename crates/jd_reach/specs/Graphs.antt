-- What a graph stands for: how many nodes it has, and the edges between them.
use Rattle.std.specs.Prelude.{ℕ, Bool}
use Rattle.jd_reach.specs.declared.graph.Graph.{Graph}
use Rattle.jd_reach.specs.Rows.{row_bit, within}

-- how many nodes it has
abbrev pub node_count : Graph → ℕ
node_count g = g.nodes

-- whether there is an edge from node a to node b
unfoldable pub edge : Graph → ℕ → ℕ → Bool
edge g = within g.nodes (row_bit g.width g.words.items)
