-- The view of an effect.
use Rattle.std.specs.Prelude.{option_map}
use Rattle.jd_syntax.specs.CodeViews.{code_view}
use Rattle.jd_term.specs.Formulas.{pair_view}
use Rattle.jd_first_rules.specs.Focus as plain
use Rattle.jd_first_rules.specs.declared.focus.Effect.{Effect}

abbrev pub effect_view : Effect → plain.Effect
effect_view e = record { update = option_map pair_view e.update; code = code_view e.code }
