use Rattle.std.proofs.Common.{ap, sym, ◌∙◌}
use Rattle.std.specs.Option.{option_and_then}
use Rattle.jd_schema_instances.specs.Choosing.{instance_by, program_by}
use Rattle.jd_schema_trees.specs.TacletViews.{given_form}
use Rattle.jd_schema_trees.specs.declared.condition.GivenForm.{GivenForm}
use Rattle.jd_syntax.specs.CodeNames.{same_sort}
use Rattle.jd_syntax.specs.Names.{Name}
use Rattle.jd_syntax.specs.Sxs.{sx_view}
use Rattle.jd_taclet_stages.specs.Stages.{name_if, read_as, word_of}
use Rattle.jd_tforms.specs.Naming.{special_of}
use Rattle.jd_tparse.specs.Names.{table_of}
use Rattle.jd_taclet_matching.proofs.Texts.{read_along}
use Rattle.jd_taclet_matching.proofs.reading.read_form.Goals as goal

pub returns-in-NewVariable : goal.returns-in-NewVariable
returns-in-NewVariable c =
    read_along c.variable_given.result _ _
    (ap (λ s. option_and_then (λ v. option_and_then (λ (x : Name). name_if (same_sort x.sort s) x) (special_of v)) (word_of (sx_view c.args.x.now))) c.sort_asked-in-NewVariable.ensures
    ∙ sym (ap (λ (f : GivenForm). read_as (table_of c.args.names.now) (program_by c.args.by.now) (instance_by c.args.by.now) (given_form f) (sx_view c.args.x.now)) c.in-NewVariable.is))
    c.variable_given.ensures
