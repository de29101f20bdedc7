use Rattle.std.proofs.Common.{subst, sym}
use Rattle.std.proofs.lemmas.Result.{IfOk-weaker}
use Rattle.jd_components.specs.Components.{AreComponents}
use Rattle.jd_components.specs.Numberings.{AreInside, AreNumbered}
use Rattle.jd_components.specs.Roots.{AreRoots}
use Rattle.jd_components.proofs.Linking.{are_components, roots_inside}
use Rattle.jd_components.proofs.find.components.Goals as goal

pub number_by_first-requires-clause-inside : goal.number_by_first-requires-clause-inside
number_by_first-requires-clause-inside c = subst AreInside (sym c.deref.ensures.value) (roots_inside c.args.parents.now c.in_ok-roots.roots.items c.in_ok-roots.ensures)

pub returns : goal.returns
returns c =
    let roots : AreRoots c.args.parents.now c.deref.result.now = subst (AreRoots c.args.parents.now) (sym c.deref.ensures.value) c.in_ok-roots.ensures in
    IfOk-weaker c.number_by_first.result (λ x. AreNumbered c.deref.result.now x.numbers.items x.count) (λ x. AreComponents c.args.parents.now x.numbers.items x.count)
    (λ x numbered. are_components c.args.parents.now c.deref.result.now roots x.numbers.items x.count numbered) c.number_by_first.ensures
