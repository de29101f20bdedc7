-- The term of a parameter.
use Rattle.jd_term.specs.Terms.{PlainTerm, Constant}
use Rattle.jd_model.specs.Cases.{Parameter}

abbrev pub parameter_term : Parameter → PlainTerm
parameter_term x = Constant x.constant
