use Rattle.std.proofs.Common.{if◌then◌else◌, sym, ap, ◌∙◌}
use Rattle.jd_bodies.specs.Bodies.{exit_named}
use Rattle.jd_effect_code.specs.Asking.{label_texts}
use Rattle.jd_statement_parts.specs.Leaving.{exits_view}
use Rattle.jd_statement_parts.proofs.Exiting.{among_labels}
use Rattle.jd_statement_parts.proofs.exits.among.Goals as goal

pub returns-then-has_label : goal.returns-then-has_label
returns-then-has_label c = λ h.
    sym (among_labels (label_texts c.args.labels.now) c.args.number (exits_view c.args.outer.now).loops c.args.name.now ∙ ap (λ b. if b then c.args.number else exit_named (exits_view c.args.outer.now).loops c.args.name.now) (sym c.has_label.ensures ∙ c.if-has_label.true))

pub returns-else-has_label : goal.returns-else-has_label
returns-else-has_label c = λ h.
    h ∙ sym (among_labels (label_texts c.args.labels.now) c.args.number (exits_view c.args.outer.now).loops c.args.name.now ∙ ap (λ b. if b then c.args.number else exit_named (exits_view c.args.outer.now).loops c.args.name.now) (sym c.has_label.ensures ∙ c.if-has_label.false))
