use Rattle.std.proofs.Common.{◌≡◌, sym, ap, ◌∙◌}
use Rattle.jd_bodies.specs.Bodies as plain
use Rattle.jd_effect_code.specs.Asking.{label_texts}
use Rattle.jd_statement_parts.specs.Leaving.{exits_layer, exits_view}
use Rattle.jd_statement_parts.specs.declared.exits.Exits.TheFolds.{fold-roll-Exits}
use Rattle.jd_statement_parts.specs.declared.exits.Exits.TheOpen as layers
use Rattle.jd_statement_parts.specs.declared.exits.Exits.TheVariants as exits
use Rattle.jd_statement_parts.proofs.exits.+resumed.Goals as goal

pub returns-in-Loop : goal.returns-in-Loop
returns-in-Loop t c =
    let inside : exits_view c.args.x.now ≡ plain.loop_exits (label_texts c.in-Loop.labels.now) c.in-Loop.field-2 c.in-Loop.number (exits_view c.in-Loop.outer.now) =
    ap exits_view c.in-Loop.is
    ∙ ap exits_view (sym (exits.rolls-Loop c.in-Loop.outer c.in-Loop.labels c.in-Loop.field-2 c.in-Loop.number))
    ∙ fold-roll-Exits plain.Exits exits_layer (layers.Loop c.in-Loop.outer c.in-Loop.labels c.in-Loop.field-2 c.in-Loop.number) in
    c.among.ensures c.resumed-in-Loop.ensures ∙ ap (λ (e : plain.Exits). plain.exit_named e.loops c.args.name.now) (sym inside)
