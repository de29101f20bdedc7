use Rattle.std.proofs.Common.{List, ap, map, sym, ◌∙◌}
use Rattle.jd_syntax.specs.JavaTrees.{parameter_view, result_view}
use Rattle.jd_syntax.specs.Names.{Name}
use Rattle.jd_syntax.specs.SpecTrees.{clause_view}
use Rattle.jd_syntax.specs.declared.java.Parameter.{Parameter}
use Rattle.jd_syntax.specs.declared.spec.SpecClause.{SpecClause}
use Rattle.jd_case_rows.specs.Rows.{respelled}
use Rattle.jd_jml_written.specs.Marked.{PlainMarks, nullable_parameters}
use Rattle.jd_model.specs.Tables.{constants_of_parameters}
use Rattle.jd_specifications.specs.WrittenCases as plain
use Rattle.jd_case_heads.specs.Parameters.{constant_names}
use Rattle.jd_case_heads.proofs.heads.head.Goals as goal

pub returns : goal.returns
returns g c = λ p b marks names.
    let d = g.D.Declares.declarations c.args.d.now in
    let all = λ (l : List Parameter). map (plain.parameter d) (map parameter_view l) in
    record {
      role = sym (c.role.ensures d marks);
      parameters =
          ap (λ (l : List Name). respelled (constants_of_parameters l) (all c.args.tree.now.parameters.items)) names
          ∙ ap (λ (l : List Parameter). respelled (constant_names c.args.variables.now) (all l)) (sym c.deref.ensures.value)
          ∙ sym (c.in_ok-parameters.ensures (c.deref-2.ensures.value ∙ ap (λ (m : PlainMarks). m.nullable_params) marks ∙ ap (λ (l : List Parameter). nullable_parameters (map parameter_view l)) (sym c.deref.ensures.value)));
      outcome = sym (c.outcome.ensures ∙ ap (λ (m : PlainMarks). plain.result d (result_view c.args.tree.now.result) m.nullable_result) marks);
      behaviour = sym (c.behaviour.ensures ∙ ap (λ (l : List SpecClause). plain.behaviour (map clause_view l)) c.deref-3.ensures.value);
      diverges = sym (c.diverges.ensures ∙ ap (λ (l : List SpecClause). plain.diverges (map clause_view l)) c.deref-4.ensures.value);
    }
