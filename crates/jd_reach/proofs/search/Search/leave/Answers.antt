use Rattle.std.proofs.Common.{ℕ, Bool, List, refl, sym, subst}
use Rattle.std.specs.List.{Contains}
use Rattle.std.proofs.lemmas.Bool.{both_ways}
use Rattle.jd_reach.specs.Rows.{row_bit, within}
use Rattle.jd_reach.specs.Searches.{EndsIn}
use Rattle.jd_reach.proofs.Searching.{frame_left, same_search, starts_up_to}
use Rattle.jd_reach.proofs.Stacks.{ends_at}
use Rattle.jd_reach.proofs.search.Search.leave.Goals as goal

pub returns-clause-state : goal.returns-clause-state
returns-clause-state c =
    let edges : ℕ → ℕ → Bool = within c.args.nodes (row_bit c.args.width c.args.words.now) in
    let rows : ℕ → ℕ → Bool = row_bit c.args.width c.args.self.now.closed.items in
    let no_start : Contains c.args.self.now.starts.items c.args.position → ⊥ =
    λ start. both_ways c.ends_in.result c.if-ends_in.false
    (c.ends_in.ensures.1 (subst (λ (l : List ℕ). EndsIn l c.args.position) (sym c.deref.ensures.value) (ends_at c.args.self.now.starts.items c.args.position c.requires.state.run.starts_rise start
    (starts_up_to c.args.nodes edges rows c.args.self.now.opened.items c.args.self.now.starts.items c.args.self.now.frames.items c.args.self.now.place.items c.args.self.now.next.items c.requires.state.run c.args.position c.requires.frame)))) in
    record {
      size = c.requires.state.size;
      run = same_search c.args.nodes edges rows _ _ _ _ _ _ _ _ _ _
          refl refl (c.drop_last.ensures c.requires.frame.0 c.args.position c.requires.frame.1) refl refl
          (frame_left c.args.nodes edges rows c.args.self.now.opened.items c.args.self.now.starts.items c.args.self.now.frames.items c.args.self.now.place.items c.args.self.now.next.items
          c.requires.state.run c.requires.frame.0 c.args.position c.requires.frame.1 c.requires.looked no_start);
    }
