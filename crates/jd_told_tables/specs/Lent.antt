-- What is lent, or the default of its kind.
use Rattle.std.specs.Prelude.{None, Option, Some}
use Rattle.jd_term.specs.Formulas.{PlainFormula, TrueFormula}
use Rattle.jd_term.specs.Terms.{NullTerm, PlainTerm}

abbrev pub term_or : Option PlainTerm → PlainTerm
term_or None = NullTerm
term_or (Some t) = t

abbrev pub formula_or : Option PlainFormula → PlainFormula
formula_or None = TrueFormula
formula_or (Some a) = a
