use Rattle.std.proofs.Common.{subst, sym, ◌∙◌}
use Rattle.jd_ancestry.specs.Ancestors.{HasNoCycle}
use Rattle.jd_ancestry.specs.Depths.{IsDepths}
use Rattle.jd_declared.proofs.Assembling.{are_declarations}
use Rattle.jd_declared.proofs.Listing.{class_count}
use Rattle.jd_declared.proofs.FewRoutines.{few_methods_listed}
use Rattle.jd_declared.proofs.Meeting.{no_cycle}
use Rattle.jd_declared.proofs.declared.Declared.of.Goals as goal

pub depths-requires-clause-no_cycle : goal.depths-requires-clause-no_cycle
depths-requires-clause-no_cycle c =
    let units = c.requires.0 in
    let tables = c.requires.1 in
    subst HasNoCycle (tables.parents_ ∙ sym (c.in_ok-parents.ensures units tables) ∙ sym c.deref.ensures.value) (no_cycle _ _ tables.depths_)

pub routines_of-requires : goal.routines_of-requires
routines_of-requires c = few_methods_listed c.requires.0 c.args.classes.now c.requires.1

pub returns : goal.returns
returns c = λ units tables.
    are_declarations units
    (record {
      classes = c.in_ok-numbers.numbers;
      parents = c.in_ok-parents.parents;
      depths = c.in_ok-depths.depths;
      variables = c.in_ok-variables.variables;
      methods = c.in_ok-methods.methods;
      constructors = c.in_ok-constructors.constructors;
      routines = c.in_ok-routines.routines;
    })
    (record {
      stand = tables.stand;
      parents_ = c.in_ok-parents.ensures units tables;
      deep = subst (λ ps. IsDepths ps c.in_ok-depths.depths.items) c.deref.ensures.value c.in_ok-depths.ensures;
      classes_ = c.in_ok-numbers.ensures units tables;
      variables_ = c.in_ok-variables.ensures.each units tables;
      few_variables = c.in_ok-variables.ensures.many ∙ class_count units c.args.classes.now tables;
      methods_ = c.in_ok-methods.ensures.each units tables;
      few_methods = c.in_ok-methods.ensures.many ∙ class_count units c.args.classes.now tables;
      constructors_ = c.in_ok-constructors.ensures units tables;
      routines_ = c.in_ok-routines.ensures units tables;
    })
