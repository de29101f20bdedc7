use Rattle.std.proofs.Common.{[], ◌∷◌, List, IfErr, map, subst, sym}
use Rattle.jd_syntax.specs.JavaTypes.{identifier_view}
use Rattle.jd_syntax.specs.SpecTrees.{clause_view}
use Rattle.jd_syntax.specs.declared.java.Identifier.{Identifier}
use Rattle.jd_syntax.specs.declared.spec.ClauseForm.{ClauseForm}
use Rattle.jd_case_rows.specs.Rows.{only_member}
use Rattle.jd_specifications.specs.WrittenCases as plain
use Rattle.jd_case_clauses.specs.Said.{TellsOfOne}
use Rattle.jd_case_clauses.specs.Signals.{only_in}
use Rattle.jd_case_clauses.proofs.throwing.add_only.Goals as goal

pub returns-in-SignalsOnly-clause-why : goal.returns-in-SignalsOnly-clause-why
returns-in-SignalsOnly-clause-why g c = λ limit.
    let d = g.D.Declares.declarations c.args.d.now in
    subst (λ (f : ClauseForm). IfErr c.add.result (TellsOfOne limit (only_in d (clause_view (record { at = c.args.c.now.at; form = f }))))) (sym c.in-SignalsOnly.is)
    (subst (λ (l : List Identifier). IfErr c.add.result (TellsOfOne limit (only_member (map (plain.class_of d) (map identifier_view l)) ∷ []))) c.deref.ensures.value
    (c.add.ensures.of_one limit _ (c.only.ensures.why limit)))
