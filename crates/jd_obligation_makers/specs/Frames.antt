-- Parts of frames.
use Rattle.std.specs.Prelude.{Bool, true, false}
use Rattle.jd_base.specs.declared.sort.Sort.TheVariants.{Ref as RefSort}
use Rattle.jd_term.specs.Formulas.{PlainFormula}
use Rattle.jd_term.specs.Terms.{PlainLoc, AllLocations, Bound, Constant}
use Rattle.jd_model.specs.Conjunctions.{created_at}
use Rattle.jd_model.specs.SpecialNames.{entry_heap}

abbrev pub is_all : PlainLoc → Bool
is_all AllLocations = true
is_all l = false

-- the object was created at the entry
abbrev pub was_created : PlainFormula
was_created = created_at (Constant entry_heap) (Bound 1 RefSort)
