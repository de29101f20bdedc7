use Rattle.std.proofs.Common.{ap, ◌∙◌}
use Rattle.std.specs.Option.{option_and_then}
use Rattle.jd_syntax.specs.CodeNames.{same_sort}
use Rattle.jd_syntax.specs.Names.{Name}
use Rattle.jd_taclet_stages.specs.Stages.{name_if}
use Rattle.jd_tforms.specs.Naming.{special_of}
use Rattle.jd_taclet_matching.proofs.SingleWords.{told_named}
use Rattle.jd_taclet_matching.proofs.Texts.{of_word}
use Rattle.jd_taclet_matching.proofs.reading.variable_given.Goals as goal

pub returns-in_ok-variable_told-in-Atom : goal.returns-in_ok-variable_told-in-Atom
returns-in_ok-variable_told-in-Atom c =
    c.kept_if.ensures
    ∙ ap (option_and_then (λ (x : Name). name_if (same_sort x.sort c.args.sort) x)) (c.in_ok-variable_told-in-Atom.ensures ∙ told_named c.deref.result.now)
    ∙ of_word (λ v. option_and_then (λ (x : Name). name_if (same_sort x.sort c.args.sort) x) (special_of v)) c.args.x.now c.in-Atom.word c.deref.result.now c.in-Atom.is c.deref.ensures.value
