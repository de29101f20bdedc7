-- What stands for an expression or locations of JML where nothing in it is refused.
use Rattle.std.specs.Prelude.{ℕ, Bool, true, false, List, map, Option, Some, None}
use Rattle.jd_term.specs.declared.term.ArithmeticOp.{ArithmeticOp}
use Rattle.jd_term.specs.declared.term.ArithmeticOp.TheVariants as operations
use Rattle.jd_syntax.specs.SpecTrees.{PlainSpec, PlainLocation}
use Rattle.jd_syntax.specs.declared.java.InfixOperator.{InfixOperator}
use Rattle.jd_syntax.specs.declared.java.InfixOperator.TheVariants as operators
use Rattle.jd_syntax.specs.declared.spec.Quantifier.{Quantifier}
use Rattle.jd_syntax.specs.declared.spec.Quantifier.TheVariants as quantifiers
use Rattle.jd_term.specs.Formulas as formulas
use Rattle.jd_term.specs.Formulas.{PlainFormula}
use Rattle.jd_term.specs.Terms as terms
use Rattle.jd_term.specs.Terms.{PlainTerm, PlainLoc}
use Rattle.jd_bodies.specs.Declarations.{Declarations}
use Rattle.jd_bodies.specs.declared.value.ValueType.{ValueType}
use Rattle.jd_model.specs.Conjunctions.{created_at}
use Rattle.jd_model.specs.Programs.{Program}
use Rattle.jd_jml_meaning.specs.Meaning.{When}
use Rattle.jd_jml_meaning.specs.Resolved.{QuantifiedType}
use Rattle.jd_jml_meaning.specs.Translation as translation
use Rattle.jd_jml_meaning.specs.Translation.{Spelling, if_given, and_given}
use Rattle.jd_specifications.specs.Resolution.{Entry, resolved, location}
use Rattle.jd_jml_formulas.specs.declared.operators.Operands.{Operands}
use Rattle.jd_jml_formulas.specs.declared.operators.Operands.TheVariants as operands

module _ (p : Program) (d : Declarations) (class : ℕ) (value : ValueType) (sp : Spelling) (t : When) (es : List Entry) where
  abbrev pub term_meant : PlainSpec → PlainTerm
  term_meant e = translation.term p sp t (resolved d class value es e)

  abbrev pub formula_meant : PlainSpec → PlainFormula
  formula_meant e = translation.formula p sp t (resolved d class value es e)

  abbrev pub location_meant : PlainLocation → PlainLoc
  location_meant l = translation.location p sp t (location d class value es l)

  abbrev pub locations_meant : List PlainLocation → PlainLoc
  locations_meant ls = translation.locations p sp t (map (location d class value es) ls)

-- ---- operators

-- what stands on both sides of an operator: truth values as formulas, values as terms, or numbers of which the whole is one
abbrev pub operands_of : InfixOperator → Bool → Operands
operands_of operators.OrElse b = operands.Truths
operands_of operators.AndAlso b = operands.Truths
operands_of operators.Equal true = operands.Truths
operands_of operators.Equal false = operands.Values
operands_of operators.NotEqual true = operands.Truths
operands_of operators.NotEqual false = operands.Values
operands_of operators.Less b = operands.Values
operands_of operators.LessOrEqual b = operands.Values
operands_of operators.Greater b = operands.Values
operands_of operators.GreaterOrEqual b = operands.Values
operands_of o b = operands.Numbers

abbrev pub of_truths : InfixOperator → PlainFormula → PlainFormula → PlainFormula
of_truths operators.OrElse x y = formulas.Or x y
of_truths operators.AndAlso x y = formulas.And x y
of_truths operators.NotEqual x y = formulas.Not (formulas.Iff x y)
of_truths o x y = formulas.Iff x y

abbrev pub of_values : InfixOperator → PlainTerm → PlainTerm → PlainFormula
of_values operators.NotEqual x y = formulas.Not (formulas.Equal x y)
of_values operators.Less x y = formulas.Less x y
of_values operators.LessOrEqual x y = formulas.LessOrEqual x y
of_values operators.Greater x y = formulas.Less y x
of_values operators.GreaterOrEqual x y = formulas.LessOrEqual y x
of_values o x y = formulas.Equal x y

-- ---- parts of formulas

-- a boolean value as a formula
abbrev pub is_true : PlainTerm → PlainFormula
is_true x = formulas.Equal x (terms.Boolean true)

abbrev pub choice : PlainFormula → PlainFormula → PlainFormula → PlainFormula
choice c x y = formulas.And (formulas.Implies c x) (formulas.Implies (formulas.Not c) y)

abbrev pub fresh : PlainTerm → PlainTerm → PlainFormula
fresh h x = formulas.And (formulas.Not (formulas.Equal x terms.NullTerm)) (formulas.Not (created_at h x))

-- what a bound variable is given to be, before `\forall` and `\exists`
abbrev pub given : Quantifier → QuantifiedType → PlainTerm → PlainFormula → PlainFormula
given quantifiers.ForAll k h a = if_given k h a
given quantifiers.Exists k h a = and_given k h a

abbrev pub ranged : Quantifier → PlainFormula → PlainFormula → PlainFormula
ranged quantifiers.ForAll r a = formulas.Implies r a
ranged quantifiers.Exists r a = formulas.And r a

abbrev pub arithmetic_by : InfixOperator → Option ArithmeticOp
arithmetic_by operators.Add = Some operations.Add
arithmetic_by operators.Subtract = Some operations.Subtract
arithmetic_by operators.Multiply = Some operations.Multiply
arithmetic_by operators.Divide = Some operations.Divide
arithmetic_by operators.Remainder = Some operations.Remainder
arithmetic_by o = None
