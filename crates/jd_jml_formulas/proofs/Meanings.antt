-- What stands for names, members, operators and quantifiers.
use Rattle.std.proofs.Common.{◌≡◌, ℕ, Bool, true, false, ℤ, neg_ℤ, List, [], ◌∷◌, Option, Some, None, if◌then◌else◌, refl, sym, ap, bytes_eq}
use Rattle.std.proofs.lemmas.Option.{none-some, same_Some}
use Rattle.jd_syntax.specs.declared.java.InfixOperator.{InfixOperator}
use Rattle.jd_syntax.specs.declared.java.InfixOperator.TheVariants as operators
use Rattle.jd_syntax.specs.declared.spec.Quantifier.{Quantifier}
use Rattle.jd_syntax.specs.declared.spec.Quantifier.TheVariants as quantifiers
use Rattle.jd_term.specs.declared.term.ArithmeticOp.{ArithmeticOp}
use Rattle.jd_term.specs.Formulas.{PlainFormula}
use Rattle.jd_term.specs.Terms as terms
use Rattle.jd_term.specs.Terms.{PlainTerm}
use Rattle.jd_bodies.specs.Declarations.{Declarations}
use Rattle.jd_bodies.specs.declared.value.ValueType.{ValueType}
use Rattle.jd_bodies.specs.declared.value.ValueType.TheVariants as types
use Rattle.jd_bodies.specs.declared.value.Variable.{Variable}
use Rattle.jd_bodies.specs.declared.value.Variable.TheVariants as variables
use Rattle.jd_model.specs.Programs.{Program}
use Rattle.jd_jml_meaning.specs.Meaning.{When}
use Rattle.jd_jml_meaning.specs.Resolved as jml
use Rattle.jd_jml_meaning.specs.Resolved.{JmlExpr, QuantifiedType, sort_of_type}
use Rattle.jd_jml_meaning.specs.Translation.{Spelling, term, formula}
use Rattle.jd_specifications.specs.Resolution as resolution
use Rattle.jd_specifications.specs.Resolution.{Entry, Known, AnArgument, AVariable, TheException, ABinder, found, looked_up, named, own_member, operation, quantified, quantified_in}
use Rattle.jd_sized_makers.specs.Made.{bound_by, truth_formula}
use Rattle.jd_jml_known.specs.Members.{literal_of}
use Rattle.jd_jml_formulas.specs.declared.operators.Operands.{Operands}
use Rattle.jd_jml_formulas.specs.declared.operators.Operands.TheVariants as operands
use Rattle.jd_jml_formulas.specs.Meant.{arithmetic_by, given, is_true, of_truths, of_values, operands_of, ranged}

-- an operator by what stands on both sides
abbrev pub by_operands : Operands → InfixOperator → PlainFormula → PlainFormula → PlainTerm → PlainTerm → PlainTerm → PlainFormula
by_operands operands.Truths o a b x y whole = of_truths o a b
by_operands operands.Values o a b x y whole = of_values o x y
by_operands operands.Numbers o a b x y whole = is_true whole

module _ (p : Program) (sp : Spelling) where
  -- ---- numbers

  pub minus_literal : (t : When) (e : JmlExpr) (n : ℤ) → Some n ≡ literal_of e → terms.Number (neg_ℤ n) ≡ term p sp t (jml.Minus e)
  minus_literal t (jml.IntegerLiteral z) n is = ap (λ k. terms.Number (neg_ℤ k)) (same_Some _ _ is)
  minus_literal t e n is = absurd (none-some n (sym is))

  pub minus_other : (t : When) (e : JmlExpr) → None ≡ literal_of e → terms.Negation (term p sp t e) ≡ term p sp t (jml.Minus e)
  minus_other t (jml.IntegerLiteral z) is = absurd (none-some z is)
  minus_other t e is = refl

  pub arithmetic_term : (t : When) (o : InfixOperator) (op : ArithmeticOp) (b : Bool) (x y : JmlExpr) → Some op ≡ arithmetic_by o → terms.Arithmetic op (term p sp t x) (term p sp t y) ≡ term p sp t (operation o b x y)
  arithmetic_term t operators.Add op b x y is = ap (λ f. terms.Arithmetic f (term p sp t x) (term p sp t y)) (same_Some _ _ is)
  arithmetic_term t operators.Subtract op b x y is = ap (λ f. terms.Arithmetic f (term p sp t x) (term p sp t y)) (same_Some _ _ is)
  arithmetic_term t operators.Multiply op b x y is = ap (λ f. terms.Arithmetic f (term p sp t x) (term p sp t y)) (same_Some _ _ is)
  arithmetic_term t operators.Divide op b x y is = ap (λ f. terms.Arithmetic f (term p sp t x) (term p sp t y)) (same_Some _ _ is)
  arithmetic_term t operators.Remainder op b x y is = ap (λ f. terms.Arithmetic f (term p sp t x) (term p sp t y)) (same_Some _ _ is)
  arithmetic_term t o op b x y is = absurd (none-some op (sym is))

  pub no_number : (t : When) (o : InfixOperator) (b : Bool) (x y : JmlExpr) → None ≡ arithmetic_by o → terms.Boolean false ≡ term p sp t (operation o b x y)
  no_number t operators.Add b x y is = absurd (none-some _ is)
  no_number t operators.Subtract b x y is = absurd (none-some _ is)
  no_number t operators.Multiply b x y is = absurd (none-some _ is)
  no_number t operators.Divide b x y is = absurd (none-some _ is)
  no_number t operators.Remainder b x y is = absurd (none-some _ is)
  no_number t operators.Equal true x y is = refl
  no_number t operators.Equal false x y is = refl
  no_number t operators.NotEqual true x y is = refl
  no_number t operators.NotEqual false x y is = refl
  no_number t o b x y is = refl

  -- ---- operators

  pub infix_formula : (t : When) (o : InfixOperator) (b : Bool) (x y : JmlExpr) → by_operands (operands_of o b) o (formula p sp t x) (formula p sp t y) (term p sp t x) (term p sp t y) (term p sp t (operation o b x y)) ≡ formula p sp t (operation o b x y)
  infix_formula t operators.OrElse b x y = refl
  infix_formula t operators.Equal true x y = refl
  infix_formula t operators.Equal false x y = refl
  infix_formula t operators.NotEqual true x y = refl
  infix_formula t operators.NotEqual false x y = refl
  infix_formula t o b x y = refl

  -- ---- a boolean value

  pub literal_formula : (t : When) (b : Bool) → truth_formula b ≡ formula p sp t (jml.BooleanLiteral b)
  literal_formula t true = refl
  literal_formula t false = refl

  pub own_formula : (t : When) (o : JmlExpr) (v : Option Variable) → is_true (term p sp t (own_member o v)) ≡ formula p sp t (own_member o v)
  own_formula t o None = refl
  own_formula t o (Some (variables.Field f u)) = refl
  own_formula t o (Some (variables.Constant n)) = refl

  found_formula : (t : When) (n : ℕ) (name : List ℕ) (k : Known) (u : ValueType) → is_true (term p sp t (found n (record { name = name; known = k; type = u }))) ≡ formula p sp t (found n (record { name = name; known = k; type = u }))
  found_formula t n name (AnArgument i) u = refl
  found_formula t n name (AVariable x) u = refl
  found_formula t n name TheException u = refl
  found_formula t n name ABinder u = refl

  entry_formula : (t : When) (b : Bool) (n : ℕ) (e : Entry) (o : Option JmlExpr) (v : Option Variable) → is_true (term p sp t (named o v)) ≡ formula p sp t (named o v)
      → is_true (term p sp t (named (if b then Some (found n e) else o) v)) ≡ formula p sp t (named (if b then Some (found n e) else o) v)
  entry_formula t true n e o v else_ = found_formula t n e.name e.known e.type
  entry_formula t false n e o v else_ = else_

  pub name_formula : (t : When) (n : ℕ) (es : List Entry) (x : List ℕ) (v : Option Variable) → is_true (term p sp t (named (looked_up n es x) v)) ≡ formula p sp t (named (looked_up n es x) v)
  name_formula t n [] x v = own_formula t jml.This v
  name_formula t n (e ∷ es) x v = entry_formula t (bytes_eq e.name x) n e (looked_up (resolution.binders_then e.known n) es x) v (name_formula t (resolution.binders_then e.known n) es x v)

  pub field_formula : (t : When) (d : Declarations) (class : ℕ) (value : ValueType) (x : List ℕ) (c : Option ℕ) (u : ValueType) (o : JmlExpr) → is_true (term p sp t (resolution.field d class value x c u o)) ≡ formula p sp t (resolution.field d class value x c u o)
  field_formula t d class value x (Some c) u o = own_formula t o (d.variable c x)
  field_formula t d class value x None (types.Class c) o = own_formula t o (d.variable c x)
  field_formula t d class value x None u o = refl

  -- ---- quantifiers

  pub quantified_formula : (t : When) (q : Quantifier) (k : QuantifiedType) (e : JmlExpr) → bound_by q (sort_of_type k) (given q k (sp.heap t) (formula p sp t e)) ≡ formula p sp t (quantified q k e)
  quantified_formula t quantifiers.ForAll k e = refl
  quantified_formula t quantifiers.Exists k e = refl

  pub ranged_formula : (t : When) (q : Quantifier) (k : QuantifiedType) (r e : JmlExpr) → bound_by q (sort_of_type k) (given q k (sp.heap t) (ranged q (formula p sp t r) (formula p sp t e))) ≡ formula p sp t (quantified_in q k r e)
  ranged_formula t quantifiers.ForAll k r e = refl
  ranged_formula t quantifiers.Exists k r e = refl

  pub no_quantified_term : (t : When) (q : Quantifier) (k : QuantifiedType) (e : JmlExpr) → terms.Boolean false ≡ term p sp t (quantified q k e)
  no_quantified_term t quantifiers.ForAll k e = refl
  no_quantified_term t quantifiers.Exists k e = refl

  pub no_ranged_term : (t : When) (q : Quantifier) (k : QuantifiedType) (r e : JmlExpr) → terms.Boolean false ≡ term p sp t (quantified_in q k r e)
  no_ranged_term t quantifiers.ForAll k r e = refl
  no_ranged_term t quantifiers.Exists k r e = refl
