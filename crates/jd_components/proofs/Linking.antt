-- The numbers of the roots are those of the components.
use Rattle.std.proofs.Common.{ℕ, ◌<◌, List, length, get_or, Option, None, ◌∙◌, arith}
use Rattle.std.proofs.lemmas.Option.{slice_get_within}
use Rattle.jd_components.specs.Components.{AreComponents, IsFirst}
use Rattle.jd_components.specs.Numberings.{AreInside, AreNumbered, IsNew}
use Rattle.jd_components.specs.Roots.{AreRoots}
use Rattle.jd_components.proofs.Tying.{roots_agree, tied_at_root}

module _ (parents : List (Option ℕ)) (roots : List ℕ) (are_roots : AreRoots parents roots) where
  pub roots_inside : AreInside roots
  roots_inside a lt = omega (arith, slice_get_within parents (get_or roots a 0) None (are_roots.each a (omega (arith, are_roots.count))).on_top, are_roots.count)

  new_root : (a : ℕ) → a < length parents → IsFirst parents a → IsNew roots a
  new_root a inside first b lt same =
      first b lt (tied_at_root parents (get_or roots b 0) (get_or roots a 0) b a (are_roots.each b (omega arith)) (are_roots.each a inside) same)

  pub are_components : (numbers : List ℕ) (count : ℕ) → AreNumbered roots numbers count → AreComponents parents numbers count
  are_components numbers count numbered = record {
    each = numbered.each ∙ are_roots.count;
    same = λ a b lt within.
        let both = numbered.same a b (omega (arith, are_roots.count)) (omega (arith, are_roots.count)) in (
          λ e. tied_at_root parents (get_or roots a 0) (get_or roots b 0) a b (are_roots.each a lt) (are_roots.each b within) (both.0 e),
          λ tied. both.1 (roots_agree parents (get_or roots a 0) (get_or roots b 0) a b (are_roots.each a lt) (are_roots.each b within) tied),
        );
    ordered = λ a b inside within first also lt. numbered.ordered a b lt (omega (arith, are_roots.count)) (new_root b within also);
    below = λ a lt. numbered.below a (omega (arith, are_roots.count));
    reached = λ f lt. let b = numbered.reached f lt in (b.0, omega (arith, b.1, are_roots.count), b.2);
  }
