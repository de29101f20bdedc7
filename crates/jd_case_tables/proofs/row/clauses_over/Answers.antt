use Rattle.std.proofs.Common.{List, ap, map}
use Rattle.jd_syntax.specs.SpecTrees.{clause_view}
use Rattle.jd_syntax.specs.declared.spec.SpecClause.{SpecClause}
use Rattle.jd_case_tables.proofs.Heads.{says_same}
use Rattle.jd_case_tables.proofs.row.clauses_over.Goals as goal

pub returns-clause-made : goal.returns-clause-made
returns-clause-made g c = λ p k fields says.
    let d = g.D.Declares.declarations c.args.rows.now.declared.now in
    c.clauses.ensures.made p k fields
    (says_same d _ _ _ _ k _ _ _ _ _ _ c.result_value.ensures (c.builds.ensures d) (ap (λ (l : List SpecClause). map clause_view l) c.deref.ensures.value) says)

pub returns-clause-why : goal.returns-clause-why
returns-clause-why g c = λ p k fields says.
    let d = g.D.Declares.declarations c.args.rows.now.declared.now in
    c.clauses.ensures.why p k fields
    (says_same d _ _ _ _ k _ _ _ _ _ _ c.result_value.ensures (c.builds.ensures d) (ap (λ (l : List SpecClause). map clause_view l) c.deref.ensures.value) says)
