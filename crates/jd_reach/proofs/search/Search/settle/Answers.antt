use Rattle.std.proofs.Common.{◌≡◌, ℕ, Bool, List, true, false, length, get_or, refl, sym, ap, ◌∙◌, subst, inl, inr, arith}
use Rattle.std.proofs.lemmas.Bool.{both_ways}
use Rattle.std.proofs.lemmas.List.{length_push}
use Rattle.jd_reach.specs.Rows.{row_bit}
use Rattle.jd_reach.specs.Searches.{IsSettled, IsVisited}
use Rattle.jd_reach.proofs.Opening.{opened_state, still_seen}
use Rattle.jd_reach.proofs.Searching.{contracted, contracted_settles, frame_inside, new_settled, reached_to}
use Rattle.jd_reach.proofs.Stacks.{in_front, place_of}
use Rattle.jd_reach.proofs.search.Search.settle.Goals as goal

pub returns-then-is_set : goal.returns-then-is_set
returns-then-is_set c nodes position edges state frame below edge = record {
  state = record { size = state.size; run = state.run };
  next = refl;
  frames = omega arith;
  inside = frame_inside _ _ _ _ _ _ _ _ state.run position frame;
  node = refl;
  settled = inl (ap (λ (l : List ℕ). row_bit c.args.width l c.args.to c.args.to) (sym c.deref.ensures.value) ∙ sym c.is_set.ensures ∙ c.if-is_set.true);
  visited = λ v seen. seen;
}

pub returns-in-Some : goal.returns-in-Some
returns-in-Some c nodes position edges state frame below edge =
    let at = c.in-Some.ensures.at in
    let edge_at : edges (get_or c.args.self.now.opened.items position 0) (get_or c.args.self.now.opened.items c.in-Some.position 0) ≡ true =
    subst (λ (x : ℕ). edges (get_or c.args.self.now.opened.items position 0) x ≡ true) (sym at.1) edge in
    record {
      state = record {
        size = state.size;
        run = contracted nodes edges (row_bit c.args.width c.args.self.now.closed.items) c.args.self.now.opened.items c.args.self.now.starts.items c.args.self.now.frames.items c.args.self.now.place.items c.args.self.now.next.items
            state.run c.pop_above.new.numbers.items position c.in-Some.position frame at.0 edge_at c.pop_above.ensures.rising c.pop_above.ensures.fewer c.pop_above.ensures.kept;
      };
      next = refl {A = List ℕ};
      frames = omega arith;
      inside = frame_inside _ _ _ _ _ _ _ _ state.run position frame;
      node = refl {A = ℕ};
      settled = subst (IsSettled (row_bit c.args.width c.args.self.now.closed.items) c.args.self.now.opened.items c.pop_above.new.numbers.items position) at.1
          (contracted_settles nodes edges (row_bit c.args.width c.args.self.now.closed.items) c.args.self.now.opened.items c.args.self.now.starts.items c.args.self.now.frames.items c.args.self.now.place.items c.args.self.now.next.items
          state.run c.pop_above.new.numbers.items position c.in-Some.position frame at.0 edge_at c.pop_above.ensures.rising c.pop_above.ensures.fewer c.pop_above.ensures.kept);
      visited = λ v seen. seen;
    }

pub returns : goal.returns
returns c nodes position edges state frame below edge =
    let rows : ℕ → ℕ → Bool = row_bit c.args.width c.args.self.now.closed.items in
    let opened : List ℕ = c.args.self.now.opened.items in
    let starts : List ℕ = c.args.self.now.starts.items in
    let frames : List ℕ = c.args.self.now.frames.items in
    let place : List ℕ = c.args.self.now.place.items in
    let next : List ℕ = c.args.self.now.next.items in
    let o = c.in_ok-visit.ensures in
    let unset : rows c.args.to c.args.to ≡ false =
    ap (λ (l : List ℕ). row_bit c.args.width l c.args.to c.args.to) (sym c.deref.ensures.value) ∙ sym c.is_set.ensures ∙ c.if-is_set.false in
    let unseen : IsVisited rows opened c.args.to → ⊥ =
    λ seen. elim seen [
      | inl closed ↦ both_ways (rows c.args.to c.args.to) unset closed
      | inr there ↦
          let k = place_of opened c.args.to there in
          both_ways false refl (c.in_default.ensures.found k.0 k.1 k.2 (ap (λ x. get_or place x 0) (sym k.2) ∙ state.run.placed k.0 k.1))
    ] in
    record {
      state = opened_state nodes c.args.width edges c.args.self.now c.visit.new.self c.args.to state o below unseen (reached_to nodes edges rows opened starts frames place next state.run position frame c.args.to edge);
      next = o.next;
      frames = omega (arith, ap length o.frames, length_push frames (length opened));
      inside = omega (arith, ap length o.opened, length_push opened c.args.to, frame_inside nodes edges rows opened starts frames place next state.run position frame);
      node = ap (λ (l : List ℕ). get_or l position 0) o.opened ∙ in_front opened c.args.to position (frame_inside nodes edges rows opened starts frames place next state.run position frame);
      settled = rw (o.closed, o.opened, o.starts) (new_settled nodes edges rows opened starts frames place next state.run position frame c.args.to);
      visited = still_seen nodes c.args.width edges c.args.self.now c.visit.new.self c.args.to state o;
    }
