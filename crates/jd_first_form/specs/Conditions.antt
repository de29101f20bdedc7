-- Conditions of clauses: comparisons between names, integers and the result, joined by `&&`.
use Rattle.std.specs.Prelude.{ℕ, ◌+◌, ◌-◌, ◌&&◌, nat_le, Bool, true, false, if◌then◌else◌, List, [], ◌∷◌, Option, Some, None}
use Rattle.jd_syntax.specs.declared.java.InfixOperator.{InfixOperator}
use Rattle.jd_syntax.specs.declared.java.InfixOperator.TheVariants as infix_operators
use Rattle.jd_syntax.specs.declared.spec.SpecPrefix.{SpecPrefix}
use Rattle.jd_syntax.specs.declared.spec.SpecPrefix.TheVariants as prefixes
use Rattle.jd_syntax.specs.SpecTrees.{PlainSpec, Integer, Result, Name, Parenthesized, Prefix, Infix, PlainClause, Requires, Ensures}

-- JLS 15.20.1, 15.21
abbrev pub compares : InfixOperator → Bool
compares infix_operators.Equal = true
compares infix_operators.NotEqual = true
compares infix_operators.Less = true
compares infix_operators.LessOrEqual = true
compares infix_operators.Greater = true
compares infix_operators.GreaterOrEqual = true
compares o = false

abbrev pub is_integer : PlainSpec → Bool
is_integer (Integer at n) = true
is_integer e = false

abbrev pub is_signed : SpecPrefix → PlainSpec → Bool
is_signed prefixes.Minus e = is_integer e
is_signed o e = false

abbrev pub is_operand : PlainSpec → Bool
is_operand (Name at x) = true
is_operand (Result at) = true
is_operand (Integer at n) = true
is_operand (Prefix at o e) = is_signed o e
is_operand (Parenthesized at e) = is_operand e
is_operand e = false

abbrev pub both_counted : Option ℕ → Option ℕ → Option ℕ
both_counted (Some m) (Some n) = Some (m + n)
both_counted m n = None

abbrev pub one_if : Bool → Option ℕ
one_if true = Some 1
one_if false = None

abbrev pub infix_comparisons : InfixOperator → PlainSpec → PlainSpec → Option ℕ → Option ℕ → Option ℕ
infix_comparisons infix_operators.AndAlso a b m n = both_counted m n
infix_comparisons o a b m n = one_if (compares o && (is_operand a && is_operand b))

-- of how many comparisons an expression is made; none where it is of another form
abbrev pub comparisons : PlainSpec → Option ℕ
comparisons (Parenthesized at e) = comparisons e
comparisons (Infix at o a b) = infix_comparisons o a b (comparisons a) (comparisons b)
comparisons e = None

-- the same of a clause that requires or ensures it, and of all clauses of a case
abbrev pub comparisons_in : PlainClause → Option ℕ
comparisons_in (Requires at e) = comparisons e
comparisons_in (Ensures at e) = comparisons e
comparisons_in c = None

abbrev pub all_comparisons : List PlainClause → Option ℕ
all_comparisons [] = Some 0
all_comparisons (c ∷ cs) = both_counted (comparisons_in c) (all_comparisons cs)

-- they are counted, and there are so many at most
abbrev pub are_few : ℕ → Option ℕ → Bool
are_few limit None = false
are_few limit (Some n) = nat_le n limit

-- what is left of so many; none where there are more, or where they are not counted
abbrev pub left_of : ℕ → Option ℕ → Option ℕ
left_of limit None = None
left_of limit (Some n) = if nat_le n limit then Some (limit - n) else None
