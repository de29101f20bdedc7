use Rattle.std.proofs.Common.{ℕ, Bool, List, drop, length, refl, sym, ap, ◌∙◌, subst, arith}
use Rattle.std.specs.List.{Contains}
use Rattle.jd_reach.specs.Rows.{row_bit, within}
use Rattle.jd_reach.specs.Searches.{IsGroup, IsVisited}
use Rattle.jd_reach.proofs.Searching.{group_left, is_group, same_search, still_visited}
use Rattle.jd_reach.proofs.Stacks.{has_last}
use Rattle.jd_reach.proofs.Ways.{are_below}
use Rattle.jd_reach.proofs.search.Search.finish.Goals as goal

pub close_from-requires-clause-some : goal.close_from-requires-clause-some
close_from-requires-clause-some c =
    let inside = c.requires.state.run.inside c.args.position (has_last c.args.self.now.frames.items c.args.position c.requires.frame) in
    omega (arith, inside, ap length c.deref.ensures.value)

pub close_from-requires-clause-group : goal.close_from-requires-clause-group
close_from-requires-clause-group c =
    let edges : ℕ → ℕ → Bool = within c.args.nodes (row_bit c.args.width c.args.words.now) in
    subst (λ (l : List ℕ). IsGroup c.args.nodes edges (row_bit c.args.width c.args.self.now.closed.items) (drop c.args.position l)) (sym c.deref.ensures.value)
    (is_group c.args.nodes edges (row_bit c.args.width c.args.self.now.closed.items) c.args.self.now.opened.items c.args.self.now.starts.items c.args.self.now.frames.items c.args.self.now.place.items c.args.self.now.next.items
    c.requires.state.run c.requires.frame.0 c.args.position c.requires.frame.1 c.requires.looked c.requires.start.0 c.requires.start.1)

pub returns-clause-state : goal.returns-clause-state
returns-clause-state c =
    let edges : ℕ → ℕ → Bool = within c.args.nodes (row_bit c.args.width c.args.words.now) in
    record {
      size = c.close_from.ensures.size ∙ c.requires.state.size;
      run = same_search c.args.nodes edges (row_bit c.args.width c.close_from.new.closed.items) _ _ _ _ _ _ _ _ _ _
          c.truncate.ensures.items (c.drop_last.ensures c.requires.start.0 c.args.position c.requires.start.1) (c.drop_last-2.ensures c.requires.frame.0 c.args.position c.requires.frame.1) refl refl
          (group_left c.args.nodes edges (row_bit c.args.width c.args.self.now.closed.items) c.args.self.now.opened.items c.args.self.now.starts.items c.args.self.now.frames.items c.args.self.now.place.items c.args.self.now.next.items
          c.requires.state.run c.requires.frame.0 c.args.position c.requires.frame.1 c.requires.looked c.requires.start.0 c.requires.start.1
          (row_bit c.args.width c.close_from.new.closed.items) (are_below c.args.nodes (row_bit c.args.width c.args.words.now)) c.close_from.ensures.closed c.close_from.ensures.kept
          (λ m member. c.close_from.ensures.members m (subst (λ (l : List ℕ). Contains (drop c.args.position l) m) (sym c.deref.ensures.value) member)));
    }

pub returns-clause-visited : goal.returns-clause-visited
returns-clause-visited c v below seen =
    let edges : ℕ → ℕ → Bool = within c.args.nodes (row_bit c.args.width c.args.words.now) in
    subst (λ (l : List ℕ). IsVisited (row_bit c.args.width c.close_from.new.closed.items) l v) (sym c.truncate.ensures.items)
    (still_visited c.args.nodes edges (row_bit c.args.width c.args.self.now.closed.items) c.args.self.now.opened.items c.args.self.now.starts.items c.args.self.now.frames.items c.args.self.now.place.items c.args.self.now.next.items
    c.requires.state.run c.requires.frame.0 c.args.position c.requires.frame.1 c.requires.looked c.requires.start.0 c.requires.start.1
    (row_bit c.args.width c.close_from.new.closed.items) (are_below c.args.nodes (row_bit c.args.width c.args.words.now)) c.close_from.ensures.closed c.close_from.ensures.kept
    (λ m member. c.close_from.ensures.members m (subst (λ (l : List ℕ). Contains (drop c.args.position l) m) (sym c.deref.ensures.value) member))
    v below seen)
