-- The views of what goals say.
use Rattle.std.specs.Prelude.{option_map}
use Rattle.jd_model.specs.Sequents.{sequent_view}
use Rattle.jd_term.specs.Formulas.{formula_view}
use Rattle.jd_term.specs.TermViews.{term_view}
use Rattle.jd_taclet_premises.specs.Premises as plain
use Rattle.jd_taclet_premises.specs.Premises.{PlainGoal, WithFormula, WithTerm}
use Rattle.jd_taclet_premises.specs.declared.parts.GoalParts.{GoalParts}
use Rattle.jd_taclet_premises.specs.declared.parts.Replacement.{Replacement}
use Rattle.jd_taclet_premises.specs.declared.parts.Replacement.TheVariants as replacements

abbrev pub replacement_view : Replacement → plain.Replacement
replacement_view (replacements.Formula a) = WithFormula (formula_view a)
replacement_view (replacements.Term t) = WithTerm (term_view t)

abbrev pub goal_view : GoalParts → PlainGoal
goal_view n = record { keep = n.keep; replace = option_map replacement_view n.replace; added = sequent_view n.added }
