use Rattle.std.proofs.Common.{◌<◌, ◌∷◌, map, refl, subst, sym, ◌∙◌}
use Rattle.std.proofs.lemmas.List.{length-set}
use Rattle.std.specs.List.{flat_map}
use Rattle.jd_syntax.specs.JavaTrees.{class_view}
use Rattle.jd_jmlparse.specs.Filled.{bare_class, class_blocks}
use Rattle.jd_jmlparse.proofs.Loops.{goes_more, set_same}
use Rattle.jd_jmlparse.proofs.fill.members.fill_classes.Goals as goal

pub loop-i-preserved : goal.loop-i-preserved
loop-i-preserved c =
    let inv = c.loop-i.invariant in (
      length-set c.loop-i.classes c.loop-i.i c.fill_class-first.new.class ∙ inv.0,
      set_same (λ xs. map bare_class (map class_view xs)) (◌∷◌) (λ x. bare_class (class_view x)) (λ x xs. refl) c.loop-i.classes c.loop-i.i c.fill_class-first.new.class c.index-classes-i.result c.fill_class-first.ensures.same ∙ inv.1,
      goes_more (λ xs. flat_map class_blocks (map class_view xs)) (λ x. class_blocks (class_view x)) refl (λ x xs. refl) _ _ _ _ c.loop-i.classes c.loop-i.i c.fill_class-first.new.class (subst (λ n. c.loop-i.i < n) (sym inv.0) c.loop-i-test.true) inv.2 c.fill_class-first.ensures.goes,
    )
