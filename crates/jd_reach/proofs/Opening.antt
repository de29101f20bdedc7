-- A node that is opened, in the state that a search is in.
use Rattle.std.proofs.Common.{◌≡◌, ◌+◌, ◌*◌, ◌<◌, ◌≤◌, ℕ, Bool, List, true, length, get_or, refl, sym, ap, ◌∙◌, subst, inl, inr, arith}
use Rattle.std.proofs.lemmas.List.{length-replicate}
use Rattle.std.proofs.lemmas.Nat.{row_fits}
use Rattle.jd_reach.specs.Paths.{ReachesBy}
use Rattle.jd_reach.specs.Rows.{row_bit}
use Rattle.jd_reach.specs.Searches.{IsSearch}
use Rattle.jd_reach.specs.States.{HasVisited, IsNew, IsState, Opens}
use Rattle.jd_reach.specs.declared.search.Search.{Search}
use Rattle.jd_reach.proofs.Bits.{bit_of_zeros}
use Rattle.jd_reach.proofs.Searching.{all_finished, none_visited, same_search, seen_more, visited_more}

module _ (nodes width : ℕ) (edges : ℕ → ℕ → Bool) (old new : Search) (node : ℕ) (state : IsState nodes width edges old) (o : Opens old new node) where
  pub opened_state : node < nodes → (HasVisited width old node → ⊥) → ((i : ℕ) → i < length old.opened.items → ReachesBy edges (get_or old.opened.items i 0) node)
      → IsState nodes width edges new
  opened_state below unseen reached = record {
    size = ap length o.closed ∙ state.size;
    run = subst (λ (l : List ℕ). IsSearch nodes edges (row_bit width l) new.opened.items new.starts.items new.frames.items new.place.items new.next.items) (sym o.closed)
        (same_search nodes edges (row_bit width old.closed.items) _ _ _ _ _ _ _ _ _ _ o.opened o.starts o.frames o.place o.next
        (visited_more nodes edges (row_bit width old.closed.items) old.opened.items old.starts.items old.frames.items old.place.items old.next.items state.run node below unseen reached));
  }

  pub still_seen : (v : ℕ) → HasVisited width old v → HasVisited width new v
  still_seen v seen = rw (o.closed, o.opened) (seen_more (row_bit width old.closed.items) old.opened.items node v seen)

-- where no frame is left, what was visited is finished
module _ (nodes width : ℕ) (edges : ℕ → ℕ → Bool) (s : Search) (state : IsState nodes width edges s) (none : length s.frames.items ≡ 0) where
  pub none_opened : length s.opened.items ≡ 0
  none_opened = all_finished nodes edges (row_bit width s.closed.items) s.opened.items s.starts.items s.frames.items s.place.items s.next.items state.run none

  pub seen_is_finished : (v : ℕ) → HasVisited width s v → row_bit width s.closed.items v v ≡ true
  seen_is_finished v seen =
      elim seen [
        | inl closed ↦ closed
        | inr there ↦ absurd (omega (arith, there.1, none_opened))
      ]

-- before the first node is visited
pub new_state : (nodes width size : ℕ) (edges : ℕ → ℕ → Bool) (s : Search) → size ≡ nodes * width → nodes ≤ 64 * width → IsNew nodes size s → IsState nodes width edges s
new_state nodes width size edges s is_size covered fresh = record {
  size = ap length fresh.closed ∙ length-replicate size 0 ∙ is_size;
  run = same_search nodes edges (row_bit width s.closed.items) _ _ _ _ _ _ _ _ _ _ fresh.opened fresh.starts fresh.frames refl refl
      (none_visited nodes edges (row_bit width s.closed.items) s.place.items s.next.items
      (λ a b p q.
      let fits : a * width + width ≤ nodes * width = row_fits a width nodes width p (omega arith) in
      ap (λ (l : List ℕ). row_bit width l a b) fresh.closed ∙ bit_of_zeros width size a b (omega arith))
      fresh.place fresh.next);
}
