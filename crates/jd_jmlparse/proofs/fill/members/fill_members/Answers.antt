use Rattle.std.proofs.Common.{◌<◌, ◌∷◌, map, refl, subst, sym, ◌∙◌}
use Rattle.std.proofs.lemmas.List.{length-set}
use Rattle.std.specs.List.{flat_map}
use Rattle.jd_syntax.specs.JavaTrees.{member_view}
use Rattle.jd_jmlparse.specs.Filled.{bare_member, member_blocks}
use Rattle.jd_jmlparse.proofs.Loops.{goes_more, set_same}
use Rattle.jd_jmlparse.proofs.fill.members.fill_members.Goals as goal

pub loop-i-preserved : goal.loop-i-preserved
loop-i-preserved c =
    let inv = c.loop-i.invariant in (
      length-set c.loop-i.members c.loop-i.i c.fill_member-first.new.member ∙ inv.0,
      set_same (λ xs. map bare_member (map member_view xs)) (◌∷◌) (λ x. bare_member (member_view x)) (λ x xs. refl) c.loop-i.members c.loop-i.i c.fill_member-first.new.member c.index-members-i.result c.fill_member-first.ensures.same ∙ inv.1,
      goes_more (λ xs. flat_map member_blocks (map member_view xs)) (λ x. member_blocks (member_view x)) refl (λ x xs. refl) _ _ _ _ c.loop-i.members c.loop-i.i c.fill_member-first.new.member (subst (λ n. c.loop-i.i < n) (sym inv.0) c.loop-i-test.true) inv.2 c.fill_member-first.ensures.goes,
    )
