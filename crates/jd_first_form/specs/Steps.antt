-- Straight code: each statement assigns or returns a literal or a variable.
use Rattle.std.specs.Prelude.{Bool, false}
use Rattle.jd_base.specs.declared.sort.Sort.{Sort}
use Rattle.jd_base.specs.declared.sort.Sort.TheVariants as sorts
use Rattle.jd_syntax.specs.CodeNames.{same_sort}
use Rattle.jd_syntax.specs.Codes.{Expr, IntLiteral, BoolLiteral, NullLiteral, Variable, Stmt, Set, Return}

-- it is of this sort
abbrev pub is_simple : Sort → Expr → Bool
is_simple s (IntLiteral z) = same_sort sorts.Int s
is_simple s (BoolLiteral b) = same_sort sorts.Bool s
is_simple s NullLiteral = same_sort sorts.Ref s
is_simple s (Variable x) = same_sort x.sort s
is_simple s e = false

-- the method returns an int
abbrev pub is_step : Stmt → Bool
is_step (Set x e) = is_simple x.sort e
is_step (Return e) = is_simple sorts.Int e
is_step s = false
