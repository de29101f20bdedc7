-- What stands for expressions by their forms.
use Rattle.std.proofs.Common.{◌≡◌, ℕ, Bool, false, List, ◌∷◌, Some, None, sym, ap, subst, ◌∙◌}
use Rattle.jd_syntax.specs.Codes.{PlainKind}
use Rattle.jd_syntax.specs.JavaTypes.{PlainIdentifier, PlainWritten}
use Rattle.jd_syntax.specs.SpecTrees as trees
use Rattle.jd_syntax.specs.SpecTrees.{PlainSpec, PlainSpecType}
use Rattle.jd_syntax.specs.declared.java.InfixOperator.{InfixOperator}
use Rattle.jd_syntax.specs.declared.spec.Quantifier.{Quantifier}
use Rattle.jd_syntax.specs.declared.spec.SpecPrefix.TheVariants as prefixes
use Rattle.jd_term.specs.declared.term.ArithmeticOp.{ArithmeticOp}
use Rattle.jd_term.specs.Terms as terms
use Rattle.jd_term.specs.Terms.{PlainTerm}
use Rattle.jd_term.specs.Formulas as formulas
use Rattle.jd_term.specs.Formulas.{PlainFormula}
use Rattle.jd_bodies.specs.Declarations.{Declarations, type_by}
use Rattle.jd_bodies.specs.declared.value.ValueType.{ValueType}
use Rattle.jd_bodies.specs.declared.value.ValueType.TheVariants as types
use Rattle.jd_model.specs.Programs.{Program}
use Rattle.jd_jml_meaning.specs.Meaning.{When}
use Rattle.jd_jml_meaning.specs.Resolved.{JmlExpr, QuantifiedType, sort_of_type}
use Rattle.jd_jml_meaning.specs.Translation as translation
use Rattle.jd_jml_meaning.specs.Translation.{Spelling}
use Rattle.jd_specifications.specs.Resolution as resolution
use Rattle.jd_specifications.specs.Resolution.{Entry, is_boolean, resolved, static_type}
use Rattle.jd_sized_makers.specs.Made.{IsFormula, IsTerm, bound_by, truth_formula}
use Rattle.jd_sized_makers.specs.declared.formulas.MadeFormula.{MadeFormula}
use Rattle.jd_sized_makers.specs.declared.terms.MadeTerm.{MadeTerm}
use Rattle.jd_jml_known.specs.Members.{literal_of, read_of}
use Rattle.jd_jml_known.specs.Scopes.{binder_by}
use Rattle.jd_jml_known.specs.declared.members.Member.{Member}
use Rattle.jd_jml_formulas.specs.declared.operators.Operands.{Operands}
use Rattle.jd_jml_formulas.specs.Meant.{arithmetic_by, formula_meant, given, is_true, operands_of, ranged, term_meant}
use Rattle.jd_jml_formulas.proofs.Meanings.{arithmetic_term, by_operands, field_formula, infix_formula, literal_formula, name_formula, no_number, minus_other, quantified_formula, ranged_formula}

module _ (p : Program) (d : Declarations) (class : ℕ) (value : ValueType) (sp : Spelling) (t : When) (es : List Entry) where
  abbrev Term : PlainSpec → PlainTerm
  Term = term_meant p d class value sp t es

  abbrev Formula : PlainSpec → PlainFormula
  Formula = formula_meant p d class value sp t es

  abbrev Plain : PlainSpec → JmlExpr
  Plain = resolved d class value es

  pub term_told : (m : MadeTerm) (e f : PlainSpec) → e ≡ f → IsTerm m (Term f) → IsTerm m (Term e)
  term_told m e f is made = subst (λ x. IsTerm m (Term x)) (sym is) made

  pub formula_told : (m : MadeFormula) (e f : PlainSpec) → e ≡ f → IsFormula m (Formula f) → IsFormula m (Formula e)
  formula_told m e f is made = subst (λ x. IsFormula m (Formula x)) (sym is) made

  -- where this stands for the form
  pub term_as : (m : MadeTerm) (e f : PlainSpec) (x : PlainTerm) → e ≡ f → x ≡ Term f → IsTerm m x → IsTerm m (Term e)
  term_as m e f x is stands made = term_told m e f is (subst (λ y. IsTerm m y) stands made)

  pub formula_as : (m : MadeFormula) (e f : PlainSpec) (x : PlainFormula) → e ≡ f → x ≡ Formula f → IsFormula m x → IsFormula m (Formula e)
  formula_as m e f x is stands made = formula_told m e f is (subst (λ y. IsFormula m y) stands made)

  -- `e.x`, and a minus before what is no literal, with the part lent twice
  pub member_told : (m : MadeTerm) (e o a : PlainSpec) (at : ℕ) (x : PlainIdentifier) (k : Member) → e ≡ trees.Field at o x → a ≡ o
      → ((j : JmlExpr) → read_of k j ≡ resolution.field d class value x.name (resolution.class_before d class value es o) (static_type d class value es o) j)
      → IsTerm m (translation.term p sp t (read_of k (Plain a))) → IsTerm m (Term e)
  member_told m e o a at x k is same read made =
      term_as m e (trees.Field at o x) (translation.term p sp t (read_of k (Plain o))) is (ap (translation.term p sp t) (read (Plain o)))
      (subst (λ z. IsTerm m (translation.term p sp t (read_of k (Plain z)))) same made)

  pub minus_told : (m : MadeTerm) (e o a : PlainSpec) (at : ℕ) → e ≡ trees.Prefix at prefixes.Minus o → a ≡ o → None ≡ literal_of (Plain o) → IsTerm m (terms.Negation (Term a)) → IsTerm m (Term e)
  minus_told m e o a at is same none made =
      term_as m e (trees.Prefix at prefixes.Minus o) (terms.Negation (Term o)) is (minus_other p sp t (Plain o) none) (subst (λ z. IsTerm m (terms.Negation (Term z))) same made)

  -- operators
  pub arithmetic_told : (m : MadeTerm) (e a b : PlainSpec) (at : ℕ) (o : InfixOperator) (op : ArithmeticOp) → e ≡ trees.Infix at o a b → Some op ≡ arithmetic_by o → IsTerm m (terms.Arithmetic op (Term a) (Term b)) → IsTerm m (Term e)
  arithmetic_told m e a b at o op is operates made =
      term_as m e (trees.Infix at o a b) (terms.Arithmetic op (Term a) (Term b)) is (arithmetic_term p sp t o op (is_boolean (static_type d class value es a)) (Plain a) (Plain b) operates) made

  pub no_number_told : (m : MadeTerm) (e a b : PlainSpec) (at : ℕ) (o : InfixOperator) → e ≡ trees.Infix at o a b → None ≡ arithmetic_by o → IsTerm m (terms.Boolean false) → IsTerm m (Term e)
  no_number_told m e a b at o is none made =
      term_as m e (trees.Infix at o a b) (terms.Boolean false) is (no_number p sp t o (is_boolean (static_type d class value es a)) (Plain a) (Plain b) none) made

  pub infix_told : (m : MadeFormula) (e a b : PlainSpec) (at : ℕ) (o : InfixOperator) (u : ValueType) (c : Bool) (k : Operands) → e ≡ trees.Infix at o a b → u ≡ static_type d class value es a → c ≡ is_boolean u → k ≡ operands_of o c
      → IsFormula m (by_operands k o (Formula a) (Formula b) (Term a) (Term b) (Term e)) → IsFormula m (Formula e)
  infix_told m e a b at o u c k is typed boolean stands made =
      let all : k ≡ operands_of o (is_boolean (static_type d class value es a)) = stands ∙ ap (operands_of o) (boolean ∙ ap is_boolean typed) in
      formula_as m e (trees.Infix at o a b) (by_operands k o (Formula a) (Formula b) (Term a) (Term b) (Term e)) is
      (ap (λ x. by_operands k o (Formula a) (Formula b) (Term a) (Term b) (Term x)) is
      ∙ ap (λ j. by_operands j o (Formula a) (Formula b) (Term a) (Term b) (Term (trees.Infix at o a b))) all
      ∙ infix_formula p sp t o (is_boolean (static_type d class value es a)) (Plain a) (Plain b))
      made

  pub instance_told : (m : MadeFormula) (e o : PlainSpec) (at : ℕ) (w : PlainWritten) (u : ValueType) (k : PlainKind) → e ≡ trees.InstanceOf at o w → u ≡ type_by d.class_named w.written → k ≡ resolution.kind_of u
      → IsFormula m (formulas.IsInstance k (Term o)) → IsFormula m (Formula e)
  instance_told m e o at w u k is typed kinds made =
      formula_as m e (trees.InstanceOf at o w) (formulas.IsInstance k (Term o)) is (ap (λ j. formulas.IsInstance j (Term o)) (kinds ∙ ap resolution.kind_of typed)) made

  -- a boolean value
  pub truth_told : (m : MadeFormula) (e : PlainSpec) (at : ℕ) (b : Bool) → e ≡ trees.Boolean at b → IsFormula m (truth_formula b) → IsFormula m (Formula e)
  truth_told m e at b is made = formula_as m e (trees.Boolean at b) (truth_formula b) is (literal_formula p sp t b) made

  pub value_told : (m : MadeFormula) (e f : PlainSpec) → e ≡ f → is_true (Term f) ≡ Formula f → IsFormula m (is_true (Term e)) → IsFormula m (Formula e)
  value_told m e f is stands made = formula_as m e f (is_true (Term e)) is (ap (λ x. is_true (Term x)) is ∙ stands) made

  pub name_told : (m : MadeFormula) (e : PlainSpec) (at : ℕ) (x : List ℕ) → e ≡ trees.Name at x → IsFormula m (is_true (Term e)) → IsFormula m (Formula e)
  name_told m e at x is made = value_told m e (trees.Name at x) is (name_formula p sp t 0 es x (d.variable class x)) made

  pub field_told : (m : MadeFormula) (e o : PlainSpec) (at : ℕ) (x : PlainIdentifier) → e ≡ trees.Field at o x → IsFormula m (is_true (Term e)) → IsFormula m (Formula e)
  field_told m e o at x is made =
      value_told m e (trees.Field at o x) is (field_formula p sp t d class value x.name (resolution.class_before d class value es o) (static_type d class value es o) (Plain o)) made

  -- quantifiers
  abbrev Inner : List Entry → PlainSpec → PlainFormula
  Inner inner a = formula_meant p d class value sp t inner a

  pub quantified_told : (m : MadeFormula) (e a : PlainSpec) (at : ℕ) (q : Quantifier) (u : PlainSpecType) (x : PlainIdentifier) (inner : List Entry) (v : ValueType) (k : QuantifiedType)
      → e ≡ trees.Quantified at q u x a → inner ≡ binder_by x v ∷ es → v ≡ resolution.bound_value d u → k ≡ resolution.over_type d u
      → IsFormula m (bound_by q (sort_of_type k) (given q k (sp.heap t) (Inner inner a))) → IsFormula m (Formula e)
  quantified_told m e a at q u x inner v k is names typed ranges made =
      formula_as m e (trees.Quantified at q u x a) (bound_by q (sort_of_type k) (given q k (sp.heap t) (Inner inner a))) is
      (ap (λ l. bound_by q (sort_of_type k) (given q k (sp.heap t) (Inner l a))) (names ∙ ap (λ w. binder_by x w ∷ es) typed)
      ∙ ap (λ j. bound_by q (sort_of_type j) (given q j (sp.heap t) (Inner (binder_by x (resolution.bound_value d u) ∷ es) a))) ranges
      ∙ quantified_formula p sp t q (resolution.over_type d u) (resolved d class value (binder_by x (resolution.bound_value d u) ∷ es) a))
      made

  pub ranged_told : (m : MadeFormula) (e r a : PlainSpec) (at : ℕ) (q : Quantifier) (u : PlainSpecType) (x : PlainIdentifier) (inner : List Entry) (v : ValueType) (k : QuantifiedType)
      → e ≡ trees.QuantifiedIn at q u x r a → inner ≡ binder_by x v ∷ es → v ≡ resolution.bound_value d u → k ≡ resolution.over_type d u
      → IsFormula m (bound_by q (sort_of_type k) (given q k (sp.heap t) (ranged q (Inner inner r) (Inner inner a)))) → IsFormula m (Formula e)
  ranged_told m e r a at q u x inner v k is names typed ranges made =
      formula_as m e (trees.QuantifiedIn at q u x r a) (bound_by q (sort_of_type k) (given q k (sp.heap t) (ranged q (Inner inner r) (Inner inner a)))) is
      (ap (λ l. bound_by q (sort_of_type k) (given q k (sp.heap t) (ranged q (Inner l r) (Inner l a)))) (names ∙ ap (λ w. binder_by x w ∷ es) typed)
      ∙ ap (λ j. bound_by q (sort_of_type j) (given q j (sp.heap t) (ranged q (Inner (binder_by x (resolution.bound_value d u) ∷ es) r) (Inner (binder_by x (resolution.bound_value d u) ∷ es) a)))) ranges
      ∙ ranged_formula p sp t q (resolution.over_type d u) (resolved d class value (binder_by x (resolution.bound_value d u) ∷ es) r) (resolved d class value (binder_by x (resolution.bound_value d u) ∷ es) a))
      made

  pub sum_told : (m : MadeTerm) (e a b c : PlainSpec) (at : ℕ) (x : PlainIdentifier) (inner : List Entry) → e ≡ trees.Sum at x a b c → inner ≡ binder_by x types.Int ∷ es
      → IsTerm m (terms.Sum (Term a) (Term b) (term_meant p d class value sp t inner c)) → IsTerm m (Term e)
  sum_told m e a b c at x inner is names made =
      term_as m e (trees.Sum at x a b c) (terms.Sum (Term a) (Term b) (term_meant p d class value sp t inner c)) is (ap (λ l. terms.Sum (Term a) (Term b) (term_meant p d class value sp t l c)) names) made
