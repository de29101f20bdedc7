-- What heads make of their parts.
use Rattle.std.specs.Global.{Box}
use Rattle.jd_term.specs.Terms as terms
use Rattle.jd_term.specs.Terms.{PlainTerm, PlainLoc}
use Rattle.jd_term.specs.TermViews.{loc_view, term_view}
use Rattle.jd_term.specs.declared.term.Loc.{Loc}
use Rattle.jd_term.specs.declared.term.Term.{Term}
use Rattle.jd_tforms.specs.declared.heads.LocHead.{LocHead}
use Rattle.jd_tforms.specs.declared.heads.LocHead.TheVariants as locs
use Rattle.jd_tforms.specs.declared.heads.TermHead.{TermHead}
use Rattle.jd_tforms.specs.declared.heads.TermHead.TheVariants as heads

-- of heads with one part
abbrev pub one_term : TermHead → PlainTerm → PlainTerm
one_term heads.Negation a = terms.Negation a
one_term heads.Wrap a = terms.Wrap a
one_term heads.Length a = terms.Length a
one_term h a = terms.ElementField a

abbrev pub one_loc : LocHead → PlainTerm → PlainLoc
one_loc locs.Object a = terms.ObjectFields a
one_loc h a = terms.ArrayElements a

-- ---- parts in boxes

abbrev pub boxed_term_view : Box Term → PlainTerm
boxed_term_view b = term_view b.value

abbrev pub boxed_loc_view : Box Loc → PlainLoc
boxed_loc_view b = loc_view b.value
