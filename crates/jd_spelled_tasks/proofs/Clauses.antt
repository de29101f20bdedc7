-- Comparisons between parameters, integers and the result, joined by `&&`: what they become is spelled.
use Rattle.std.proofs.Common.{Bool, List, None, Option, Some, [], ap, false, map, neg_ℤ, refl, subst, sym, true, true≢false, ◌&&◌, ◌∷◌, ◌≡◌, ℕ}
use Rattle.std.proofs.lemmas.Bool.{and_parts}
use Rattle.std.proofs.lemmas.Option.{none-some}
use Rattle.std.specs.List.{AllByRecursion as Every}
use Rattle.std.specs.Prelude.{Err, Ok, Result}
use Rattle.jd_bodies.specs.Declarations.{Declarations}
use Rattle.jd_bodies.specs.Expressions.{part_type, whole_type}
use Rattle.jd_bodies.specs.declared.value.ValueType.{ValueType}
use Rattle.jd_bodies.specs.declared.value.ValueType.TheVariants as types
use Rattle.jd_first_form.specs.Conditions.{all_comparisons, both_counted, compares, comparisons, is_operand, one_if}
use Rattle.jd_jml_literals.specs.Fitting.{SpecFits}
use Rattle.jd_jml_meaning.specs.Meaning.{When}
use Rattle.jd_jml_meaning.specs.Resolved.{JmlExpr}
use Rattle.jd_jml_meaning.specs.Translation.{Spelling, formula, term}
use Rattle.jd_model.specs.Programs.{Program}
use Rattle.jd_specifications.specs.Clauses.{Around, before, behind}
use Rattle.jd_specifications.specs.Resolution.{Entry, is_boolean, looked_up, operation, resolved, static_type, typed}
use Rattle.jd_specifications.specs.Scopes.{SpecLocal, SpecPlace}
use Rattle.jd_specifications.specs.Types.{at_of, operation as typed_operation, type_of}
use Rattle.jd_specifications.specs.WrittenCases.{assignable_of, ensures_of, requires_of, signals_of, signals_only_of}
use Rattle.jd_specifications.specs.declared.fault.SpecFault.{SpecFault}
use Rattle.jd_spelled_tasks.proofs.Formulas.{IntTerm, and_spelled, at_most_spelled, equal_spelled, less_spelled, literal_is_wide, negated_is_wide, number_known}
use Rattle.jd_spelled_tasks.proofs.Scopes.{Fine, NameIsInt}
use Rattle.jd_spelled_trees.specs.Places.{AreSpelled}
use Rattle.jd_spelled_trees.specs.Spelled.{IsSpelled}
use Rattle.jd_syntax.specs.SpecTrees as written
use Rattle.jd_syntax.specs.SpecTrees.{PlainClause, PlainSpec}
use Rattle.jd_syntax.specs.declared.java.InfixOperator.{InfixOperator}
use Rattle.jd_syntax.specs.declared.java.InfixOperator.TheVariants as operators
use Rattle.jd_syntax.specs.declared.spec.SpecPrefix.TheVariants as prefixes
use Rattle.jd_tgrammar.specs.NameTables.{NameTable}

-- ---- what is counted, and what is not refused

both_known : (a b : Option ℕ) (n : ℕ) → both_counted a b ≡ Some n → (j : ℕ) × (k : ℕ) × (a ≡ Some j) × (b ≡ Some k)
both_known (Some j) (Some k) n e = (j, k, refl, refl)
both_known (Some j) None n e = absurd (none-some n e)
both_known None b n e = absurd (none-some n e)

is_counted : (b : Bool) (n : ℕ) → one_if b ≡ Some n → b ≡ true
is_counted true n e = refl
is_counted false n e = absurd (none-some n e)

operation_fine : (d : Declarations) (want : Option ValueType) (whole : ValueType) (at first : ℕ) (a : Result ValueType SpecFault) (second : ℕ) (b : Result ValueType SpecFault) → Fine (typed_operation d want whole at first a second b) → Fine a × Fine b
operation_fine d (Some want) whole at first (Ok t) second (Ok u) h = (tt, tt)
operation_fine d None whole at first (Ok t) second (Ok u) h = (tt, tt)
operation_fine d (Some want) whole at first (Ok t) second (Err e) h = absurd h
operation_fine d None whole at first (Ok t) second (Err e) h = absurd h
operation_fine d (Some want) whole at first (Err e) second b h = absurd h
operation_fine d None whole at first (Err e) second b h = absurd h

-- of a clause of a case: its literals fit, and no token of it is refused
abbrev pub IsGood : Declarations → Around → PlainClause → Type 0
IsGood d a (written.Requires at e) = SpecFits e × Fine (type_of d (before a) false a.locals e)
IsGood d a (written.Ensures at e) = SpecFits e × Fine (type_of d (behind a) false a.locals e)
IsGood d a c = Unit {0}

module _ (names : NameTable) (p : Program) (sp : Spelling) (d : Declarations) (class : ℕ) (result : ValueType) (es : List Entry) (integer : result ≡ types.Int) (given : IntTerm names sp.result) where
  -- a name that is not refused is an int's
  abbrev pub ScopeIsInts : SpecPlace → List SpecLocal → Type 0
  ScopeIsInts place ls = (at : ℕ) (x : List ℕ) → Fine (type_of d place false ls (written.Name at x)) → NameIsInt names p sp d (looked_up 0 es x) (typed es x) (d.variable class x)

  abbrev OperandIsInt : PlainSpec → Type 0
  OperandIsInt e = ((when : When) → IntTerm names (term p sp when (resolved d class result es e))) × (is_boolean (static_type d class result es e) ≡ false)

  operand_is_int : (place : SpecPlace) (ls : List SpecLocal) → ScopeIsInts place ls → (e : PlainSpec) → is_operand e ≡ true → SpecFits e → Fine (type_of d place false ls e) → OperandIsInt e
  operand_is_int place ls scope (written.Name at x) h fits fine = scope at x fine
  operand_is_int place ls scope (written.Result at) h fits fine = (λ when. given, ap is_boolean integer)
  operand_is_int place ls scope (written.Integer at n) h fits fine = (λ when. number_known names n (literal_is_wide n fits), refl)
  operand_is_int place ls scope (written.Prefix at prefixes.Minus (written.Integer place_of n)) h fits fine = (λ when. number_known names (neg_ℤ n) (negated_is_wide n fits), refl)
  operand_is_int place ls scope (written.Prefix at o e) h fits fine = absurd (true≢false (sym h))
  operand_is_int place ls scope (written.Parenthesized at e) h fits fine = operand_is_int place ls scope e h fits fine
  operand_is_int place ls scope e h fits fine = absurd (true≢false (sym h))

  -- ---- one comparison

  abbrev made : PlainSpec → JmlExpr
  made e = resolved d class result es e

  abbrev Compared : InfixOperator → PlainSpec → PlainSpec → Type 0
  Compared o a b = (when : When) → IsSpelled names (formula p sp when (operation o (is_boolean (static_type d class result es a)) (made a) (made b)))

  compared : (o : InfixOperator) (a b : PlainSpec) (n : ℕ) → one_if (compares o && (is_operand a && is_operand b)) ≡ Some n → (is_operand a ≡ true → OperandIsInt a) → (is_operand b ≡ true → OperandIsInt b) → Compared o a b
  compared operators.Equal a b n e f g when =
      let parts = and_parts (is_operand a) (is_operand b) (is_counted (is_operand a && is_operand b) n e) in
      subst (λ c. IsSpelled names (formula p sp when (operation operators.Equal c (made a) (made b)))) (sym (f parts.0).1)
      (equal_spelled names (term p sp when (made a)) (term p sp when (made b)) ((f parts.0).0 when) ((g parts.1).0 when))
  compared operators.NotEqual a b n e f g when =
      let parts = and_parts (is_operand a) (is_operand b) (is_counted (is_operand a && is_operand b) n e) in
      subst (λ c. IsSpelled names (formula p sp when (operation operators.NotEqual c (made a) (made b)))) (sym (f parts.0).1)
      (equal_spelled names (term p sp when (made a)) (term p sp when (made b)) ((f parts.0).0 when) ((g parts.1).0 when))
  compared operators.Less a b n e f g when =
      let parts = and_parts (is_operand a) (is_operand b) (is_counted (is_operand a && is_operand b) n e) in
      less_spelled names (term p sp when (made a)) (term p sp when (made b)) ((f parts.0).0 when) ((g parts.1).0 when)
  compared operators.LessOrEqual a b n e f g when =
      let parts = and_parts (is_operand a) (is_operand b) (is_counted (is_operand a && is_operand b) n e) in
      at_most_spelled names (term p sp when (made a)) (term p sp when (made b)) ((f parts.0).0 when) ((g parts.1).0 when)
  compared operators.Greater a b n e f g when =
      let parts = and_parts (is_operand a) (is_operand b) (is_counted (is_operand a && is_operand b) n e) in
      less_spelled names (term p sp when (made b)) (term p sp when (made a)) ((g parts.1).0 when) ((f parts.0).0 when)
  compared operators.GreaterOrEqual a b n e f g when =
      let parts = and_parts (is_operand a) (is_operand b) (is_counted (is_operand a && is_operand b) n e) in
      at_most_spelled names (term p sp when (made b)) (term p sp when (made a)) ((g parts.1).0 when) ((f parts.0).0 when)
  compared o a b n e f g when = absurd (none-some n e)

  -- ---- a condition

  condition_spelled : (place : SpecPlace) (ls : List SpecLocal) → ScopeIsInts place ls → (e : PlainSpec) (n : ℕ) → comparisons e ≡ Some n → SpecFits e → Fine (type_of d place false ls e) → (when : When) → IsSpelled names (formula p sp when (made e))
  condition_spelled place ls scope (written.Parenthesized at e) n c fits fine when = condition_spelled place ls scope e n c fits fine when
  condition_spelled place ls scope (written.Infix at operators.AndAlso a b) n c fits fine when =
      let k = both_known (comparisons a) (comparisons b) n c in
      let f = operation_fine d (part_type operators.AndAlso) (whole_type operators.AndAlso) at (at_of a) (type_of d place false ls a) (at_of b) (type_of d place false ls b) fine in
      and_spelled names (formula p sp when (made a)) (formula p sp when (made b)) (condition_spelled place ls scope a k.0 k.2 fits.0 f.0 when) (condition_spelled place ls scope b k.1 k.3 fits.1 f.1 when)
  condition_spelled place ls scope (written.Infix at o a b) n c fits fine when =
      let f = operation_fine d (part_type o) (whole_type o) at (at_of a) (type_of d place false ls a) (at_of b) (type_of d place false ls b) fine in
      compared o a b n c (λ h. operand_is_int place ls scope a h fits.0 f.0) (λ h. operand_is_int place ls scope b h fits.1 f.1) when
  condition_spelled place ls scope e n c fits fine when = absurd (none-some n c)

  -- ---- clauses of a case

  pub requires_spelled : (a : Around) → ScopeIsInts (before a) a.locals → (when : When) (cs : List PlainClause) (n : ℕ) → all_comparisons cs ≡ Some n → Every (IsGood d a) cs → AreSpelled names (map (formula p sp when) (requires_of d class result es cs))
  requires_spelled a scope when [] n c g = tt
  requires_spelled a scope when (written.Requires at e ∷ cs) n c g =
      let k = both_known (comparisons e) (all_comparisons cs) n c in
      (condition_spelled (before a) a.locals scope e k.0 k.2 g.0.0 g.0.1 when, requires_spelled a scope when cs k.1 k.3 g.1)
  requires_spelled a scope when (written.Ensures at e ∷ cs) n c g = let k = both_known (comparisons e) (all_comparisons cs) n c in requires_spelled a scope when cs k.1 k.3 g.1
  requires_spelled a scope when (x ∷ cs) n c g = absurd (none-some n c)

  pub ensures_spelled : (a : Around) → ScopeIsInts (behind a) a.locals → (when : When) (cs : List PlainClause) (n : ℕ) → all_comparisons cs ≡ Some n → Every (IsGood d a) cs → AreSpelled names (map (formula p sp when) (ensures_of d class result es cs))
  ensures_spelled a scope when [] n c g = tt
  ensures_spelled a scope when (written.Ensures at e ∷ cs) n c g =
      let k = both_known (comparisons e) (all_comparisons cs) n c in
      (condition_spelled (behind a) a.locals scope e k.0 k.2 g.0.0 g.0.1 when, ensures_spelled a scope when cs k.1 k.3 g.1)
  ensures_spelled a scope when (written.Requires at e ∷ cs) n c g = let k = both_known (comparisons e) (all_comparisons cs) n c in ensures_spelled a scope when cs k.1 k.3 g.1
  ensures_spelled a scope when (x ∷ cs) n c g = absurd (none-some n c)

-- ---- what no clause says

module _ (d : Declarations) (class : ℕ) (result : ValueType) (es : List Entry) where
  pub record SaysNoMore (cs : List PlainClause) : Type 0 where
    pub signals : signals_of d class result es cs ≡ []
    pub only : signals_only_of d class result es cs ≡ []
    pub assignable : assignable_of d class result es cs ≡ None

  pub says_no_more : (cs : List PlainClause) (n : ℕ) → all_comparisons cs ≡ Some n → SaysNoMore cs
  says_no_more [] n c = record { signals = refl; only = refl; assignable = refl }
  says_no_more (written.Requires at e ∷ cs) n c =
      let k = both_known (comparisons e) (all_comparisons cs) n c in
      let rest = says_no_more cs k.1 k.3 in
      record { signals = rest.signals; only = rest.only; assignable = rest.assignable }
  says_no_more (written.Ensures at e ∷ cs) n c =
      let k = both_known (comparisons e) (all_comparisons cs) n c in
      let rest = says_no_more cs k.1 k.3 in
      record { signals = rest.signals; only = rest.only; assignable = rest.assignable }
  says_no_more (x ∷ cs) n c = absurd (none-some n c)
