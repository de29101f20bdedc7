use Rattle.jd_jml_meaning.proofs.Scopes.{term_below, formula_below, locations_below}
use Rattle.jd_jml_meaning.proofs.scoped_is_closed.Goals as goal

pub returns : goal.returns
returns c p sp ok = record { terms = term_below p sp ok; formulas = formula_below p sp ok; locations_ = locations_below p sp ok }
