-- The view of what stands at a place.
use Rattle.jd_term.specs.TermViews.{term_view, loc_view}
use Rattle.jd_term.specs.Formulas.{formula_view}
use Rattle.jd_model.specs.declared.sequent.Node.{Node}
use Rattle.jd_model.specs.declared.sequent.Node.TheVariants as nodes
use Rattle.jd_model.specs.Places.{Part, FormulaPart, TermPart, LocPart}

abbrev pub node_part : Node → Part
node_part (nodes.Formula a) = FormulaPart (formula_view a.now)
node_part (nodes.Term t) = TermPart (term_view t.now)
node_part (nodes.Loc l) = LocPart (loc_view l.now)
