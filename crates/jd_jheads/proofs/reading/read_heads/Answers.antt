use Rattle.std.proofs.Common.{List, map, ap, ◌∙◌, subst}
use Rattle.jd_syntax.specs.JavaTrees.{unit_view}
use Rattle.jd_jclasses.specs.Classes.{DeclaredClass, declared_classes}
use Rattle.jd_jheads.specs.Firsts.{CycleRefused, NamesAreNew, NoneOnCycle, SuperRefused, SupersAreKnown}
use Rattle.jd_jheads.specs.Heads.{HeadRefuses}
use Rattle.jd_jheads.specs.Names.{parents_with}
use Rattle.jd_jheads.proofs.Standing.{cycles_refuse, passed_on, same_classes, stand, supers_refuse}
use Rattle.jd_jheads.proofs.reading.read_heads.Goals as goal

pub returns-in_err-parents-clause-refused : goal.returns-in_err-parents-clause-refused
returns-in_err-parents-clause-refused c =
    let units = map unit_view c.args.units.now in
    let e = c.in_err-parents.field-0.0 in
    let first = same_classes c.deref.result.now c.in_ok-classes.classes.items (declared_classes units) c.deref.ensures.value c.in_ok-classes.ensures in
    let second = same_classes c.deref-2.result.now c.in_ok-classes.classes.items (declared_classes units) c.deref-2.ensures.value c.in_ok-classes.ensures in
    passed_on (HeadRefuses units) c.from_residual-in_err-parents.result e c.from_residual-in_err-parents.ensures.1
    (supers_refuse units e (subst NamesAreNew first c.in_ok-names.ensures.all_new) (subst (λ (ds : List DeclaredClass). SuperRefused ds e) second c.in_err-parents.ensures.refused))

pub returns-in_err-check_cycles-clause-refused : goal.returns-in_err-check_cycles-clause-refused
returns-in_err-check_cycles-clause-refused c =
    let units = map unit_view c.args.units.now in
    let e = c.in_err-check_cycles.field-0.0 in
    let first = same_classes c.deref.result.now c.in_ok-classes.classes.items (declared_classes units) c.deref.ensures.value c.in_ok-classes.ensures in
    let second = same_classes c.deref-2.result.now c.in_ok-classes.classes.items (declared_classes units) c.deref-2.ensures.value c.in_ok-classes.ensures in
    let third = same_classes c.deref-3.result.now c.in_ok-classes.classes.items (declared_classes units) c.deref-3.ensures.value c.in_ok-classes.ensures in
    passed_on (HeadRefuses units) c.from_residual-in_err-check_cycles.result e c.from_residual-in_err-check_cycles.ensures.1
    (cycles_refuse units e (subst NamesAreNew first c.in_ok-names.ensures.all_new) (subst SupersAreKnown second c.in_ok-parents.ensures.known) (subst (λ (ds : List DeclaredClass). CycleRefused ds e) third c.in_err-check_cycles.ensures.refused))

pub returns-clause-parents : goal.returns-clause-parents
returns-clause-parents c =
    let units = map unit_view c.args.units.now in
    let second = same_classes c.deref-2.result.now c.in_ok-classes.classes.items (declared_classes units) c.deref-2.ensures.value c.in_ok-classes.ensures in
    c.in_ok-parents.ensures.parents ∙ ap parents_with second

pub returns-clause-standing : goal.returns-clause-standing
returns-clause-standing c =
    let units = map unit_view c.args.units.now in
    let first = same_classes c.deref.result.now c.in_ok-classes.classes.items (declared_classes units) c.deref.ensures.value c.in_ok-classes.ensures in
    let second = same_classes c.deref-2.result.now c.in_ok-classes.classes.items (declared_classes units) c.deref-2.ensures.value c.in_ok-classes.ensures in
    let third = same_classes c.deref-3.result.now c.in_ok-classes.classes.items (declared_classes units) c.deref-3.ensures.value c.in_ok-classes.ensures in
    stand units (subst NamesAreNew first c.in_ok-names.ensures.all_new) (subst SupersAreKnown second c.in_ok-parents.ensures.known) (subst NoneOnCycle third c.in_ok-check_cycles.ensures.no_cycle)
