-- Simple expressions: the literals and the variables, which are terms.
use Rattle.std.specs.Prelude.{◌≡◌}
use Rattle.jd_base.specs.declared.sort.Sort.{Sort}
use Rattle.jd_base.specs.declared.sort.Sort.TheVariants.{Bool as BoolSort, Int as IntSort, Ref as RefSort}
use Rattle.jd_syntax.specs.Codes.{BoolLiteral, Expr, IntLiteral, NullLiteral, Variable}
use Rattle.jd_term.specs.Terms.{Boolean, NullTerm, Number, PlainTerm, ProgramVariable}

abbrev pub IsSimple : Expr → Type 0
IsSimple (IntLiteral z) = Unit {0}
IsSimple (BoolLiteral z) = Unit {0}
IsSimple NullLiteral = Unit {0}
IsSimple (Variable x) = Unit {0}
IsSimple e = ⊥

-- a simple expression as a term
abbrev pub term_of : Expr → PlainTerm
term_of (IntLiteral z) = Number z
term_of (BoolLiteral z) = Boolean z
term_of (Variable x) = ProgramVariable x
term_of e = NullTerm

-- a simple expression of a sort
abbrev pub SimpleOf : Sort → Expr → Type 0
SimpleOf IntSort (IntLiteral z) = Unit {0}
SimpleOf BoolSort (BoolLiteral z) = Unit {0}
SimpleOf RefSort NullLiteral = Unit {0}
SimpleOf k (Variable x) = x.sort ≡ k
SimpleOf k e = ⊥
