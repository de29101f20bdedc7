use Rattle.std.proofs.Common.{◌≡◌, ◌+◌, ◌-◌, ◌*◌, ◌<◌, ◌≤◌, ℕ, Bool, List, true, get_or, set, length, sym, ap, ◌∙◌, subst, inl, inr, arith}
use Rattle.std.specs.List.{sum_by}
use Rattle.std.proofs.lemmas.Bool.{cases_lt}
use Rattle.std.proofs.lemmas.List.{get_or_read}
use Rattle.jd_reach.specs.Rows.{row_bit, within}
use Rattle.jd_reach.specs.Searches.{IsSearch}
use Rattle.jd_reach.specs.States.{Settles}
use Rattle.jd_reach.specs.declared.search.Search.{Search}
use Rattle.jd_reach.proofs.Searching.{fewer_left, frame_inside, looked_more}
use Rattle.jd_reach.proofs.search.Search.step.Goals as goal
use Rattle.jd_reach.proofs.search.Search.step.Goals.{In_ok-settle}

pub index-node-requires : goal.index-node-requires
index-node-requires c =
    let inside = frame_inside _ _ _ _ _ _ _ _ c.requires.state.run c.args.position c.requires.frame in
    omega arith

-- the node of the frame
node_read : (nodes : ℕ) (edges rows : ℕ → ℕ → Bool) (opened starts frames place next : List ℕ) (p node : ℕ) → IsSearch nodes edges rows opened starts frames place next → p < length opened
    → node ≡ get_or opened p node → (node ≡ get_or opened p 0) × (node < nodes)
node_read nodes edges rows opened starts frames place next p node run inside read =
    let same : node ≡ get_or opened p 0 = get_or_read opened p node inside read 0 in
    (same, subst (λ (x : ℕ). x < nodes) (sym same) (run.below p inside))

pub index-requires : goal.index-requires
index-requires c =
    let inside = frame_inside _ _ _ _ _ _ _ _ c.requires.state.run c.args.position c.requires.frame in
    let node = node_read _ _ _ _ _ _ _ _ c.args.position c.index-node.result.now c.requires.state.run inside c.index-node.ensures in
    omega (arith, node.1, c.requires.state.run.nexts)

pub next_edge-requires-clause-row : goal.next_edge-requires-clause-row
next_edge-requires-clause-row c =
    let inside = frame_inside _ _ _ _ _ _ _ _ c.requires.state.run c.args.position c.requires.frame in
    (node_read _ _ _ _ _ _ _ _ c.args.position c.index-node.result.now c.requires.state.run inside c.index-node.ensures).1

-- the edge that is settled is looked at
edge_looked : (nodes width : ℕ) (edges : ℕ → ℕ → Bool) (old new : Search) (position node k to : ℕ) → Settles nodes width edges old new position to
    → node ≡ get_or old.opened.items position 0 → k ≡ get_or old.next.items node 0 → k ≤ to → to < nodes → ((b : ℕ) → k ≤ b → edges node b ≡ true → to ≤ b)
    → IsSearch nodes edges (row_bit width new.closed.items) new.opened.items new.starts.items new.frames.items new.place.items (set new.next.items node (to + 1))
edge_looked nodes width edges old new position node k to s is_node is_next from below first =
    let same : get_or new.opened.items position 0 ≡ node = s.node ∙ sym is_node in
    let next_same : get_or new.next.items (get_or new.opened.items position 0) 0 ≡ k =
    ap (λ x. get_or new.next.items x 0) same ∙ ap (λ (l : List ℕ). get_or l node 0) s.next ∙ sym is_next in
    subst (λ (x : ℕ). IsSearch nodes edges (row_bit width new.closed.items) new.opened.items new.starts.items new.frames.items new.place.items (set new.next.items x (to + 1))) same
    (looked_more nodes edges (row_bit width new.closed.items) new.opened.items new.starts.items new.frames.items new.place.items new.next.items s.state.run position to s.inside below
    (omega (arith, next_same, from))
    (λ b le e. first b (omega (arith, next_same, le)) (subst (λ (x : ℕ). edges x b ≡ true) same e))
    s.settled)

-- what is known where an edge was settled
module _ (c : In_ok-settle) where
  abbrev edges : ℕ → ℕ → Bool
  edges = within c.args.nodes (row_bit c.args.width c.args.words.now)

  inside : c.args.position < length c.args.self.now.opened.items
  inside = frame_inside _ _ _ _ _ _ _ _ c.requires.state.run c.args.position c.requires.frame

  node : (c.index-node.result.now ≡ get_or c.args.self.now.opened.items c.args.position 0) × (c.index-node.result.now < c.args.nodes)
  node = node_read _ _ _ _ _ _ _ _ c.args.position c.index-node.result.now c.requires.state.run inside c.index-node.ensures

  node_inside : c.index-node.result.now < length c.args.self.now.next.items
  node_inside = omega (arith, node.1, c.requires.state.run.nexts)

  next_read : c.index.result.now ≡ get_or c.args.self.now.next.items c.index-node.result.now 0
  next_read = get_or_read c.args.self.now.next.items c.index-node.result.now c.index.result.now node_inside c.index.ensures 0

  settles : Settles c.args.nodes c.args.width edges c.args.self.now c.settle.new.self c.args.position c.in-Some.to
  settles = c.in_ok-settle.ensures c.args.nodes c.args.position edges c.requires.state c.requires.frame c.in-Some.ensures.found.1
      (subst (λ (x : ℕ). edges x c.in-Some.to ≡ true) node.0 c.in-Some.ensures.found.2)

  looked : IsSearch c.args.nodes edges (row_bit c.args.width c.settle.new.self.closed.items) c.settle.new.self.opened.items c.settle.new.self.starts.items c.settle.new.self.frames.items
      c.settle.new.self.place.items (set c.settle.new.self.next.items c.index-node.result.now (c.in-Some.to + 1))
  looked = edge_looked c.args.nodes c.args.width edges c.args.self.now c.settle.new.self c.args.position c.index-node.result.now c.index.result.now c.in-Some.to settles node.0 next_read
      c.in-Some.ensures.found.0 c.in-Some.ensures.found.1 c.in-Some.ensures.first

  fewer : 2 * sum_by (λ k. c.args.nodes - k) (set c.settle.new.self.next.items c.index-node.result.now (c.in-Some.to + 1)) + length c.settle.new.self.frames.items
      < 2 * sum_by (λ k. c.args.nodes - k) c.args.self.now.next.items + length c.args.self.now.frames.items
  fewer = fewer_left c.args.nodes c.index-node.result.now c.in-Some.to c.args.self.now.next.items c.settle.new.self.next.items c.args.self.now.frames.items c.settle.new.self.frames.items
      settles.next node_inside (omega (arith, next_read, c.in-Some.ensures.found.0)) c.in-Some.ensures.found.1 settles.frames

pub index_mut-requires : goal.index_mut-requires
index_mut-requires c =
    let d = (goal.at.index_mut-requires c).In_ok-settle in
    omega (arith, node_inside d, ap length (settles d).next)

pub returns-in-Some-clause-state : goal.returns-in-Some-clause-state
returns-in-Some-clause-state c =
    let d = (goal.at.returns-in-Some-clause-state c).In_ok-settle in
    record { size = (settles d).state.size; run = looked d }

pub returns-in-Some-clause-fewer : goal.returns-in-Some-clause-fewer
returns-in-Some-clause-fewer c = fewer (goal.at.returns-in-Some-clause-fewer c).In_ok-settle

pub returns-in-Some-clause-visited : goal.returns-in-Some-clause-visited
returns-in-Some-clause-visited c v below seen = (settles (goal.at.returns-in-Some-clause-visited c).In_ok-settle).visited v seen

pub leave-requires-clause-looked : goal.leave-requires-clause-looked
leave-requires-clause-looked c b edge =
    let edges : ℕ → ℕ → Bool = within c.args.nodes (row_bit c.args.width c.args.words.now) in
    let inside = frame_inside _ _ _ _ _ _ _ _ c.requires.state.run c.args.position c.requires.frame in
    let node = node_read _ _ _ _ _ _ _ _ c.args.position c.index-node.result.now c.requires.state.run inside c.index-node.ensures in
    let next_read = get_or_read c.args.self.now.next.items c.index-node.result.now c.index.result.now (omega (arith, node.1, c.requires.state.run.nexts)) c.index.ensures 0 in
    elim (cases_lt b c.index.result.now) [
      | inl before ↦ omega (arith, before, next_read, ap (λ x. get_or c.args.self.now.next.items x 0) node.0)
      | inr after ↦ absurd (c.in_default.ensures.first b after (subst (λ (x : ℕ). edges x b ≡ true) (sym node.0) edge))
    ]
