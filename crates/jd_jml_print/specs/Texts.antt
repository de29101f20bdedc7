-- The text of clauses of JML: the texts of their tokens, in the order in which the grammar has these (JML Reference Manual, appendix A).
use Rattle.std.specs.Prelude.{ℕ, List, [], ◌∷◌, ◌++◌, map, Bool, true, false, Option, Some, None, codes}
use Rattle.std.specs.List.{flat_map}
use Rattle.std.specs.Fmt.{signed_decimal}
use Rattle.jd_syntax.specs.JavaTypes.{PlainIdentifier, PlainType, IntType, BooleanType, IntArrayType, NamedType}
use Rattle.jd_syntax.specs.SpecTrees as jml
use Rattle.jd_syntax.specs.SpecTrees.{PlainSpecType, PlainSpec, PlainSpecs, NoSpecs, SpecThen, PlainLocation, PlainClause}
use Rattle.jd_syntax.specs.declared.java.InfixOperator.{InfixOperator}
use Rattle.jd_syntax.specs.declared.java.InfixOperator.TheVariants as operators
use Rattle.jd_syntax.specs.declared.spec.SpecPrefix.{SpecPrefix}
use Rattle.jd_syntax.specs.declared.spec.SpecPrefix.TheVariants as prefixes
use Rattle.jd_syntax.specs.declared.spec.Quantifier.{Quantifier}
use Rattle.jd_syntax.specs.declared.spec.Quantifier.TheVariants as quantifiers

abbrev pub Texts : Type 0
Texts = List (List ℕ)

-- ---- words and signs

abbrev pub truth_text : Bool → List ℕ
truth_text true = codes "true"
truth_text false = codes "false"

-- JLS 15.17 to 15.24
abbrev pub infix_text : InfixOperator → List ℕ
infix_text operators.OrElse = codes "||"
infix_text operators.AndAlso = codes "&&"
infix_text operators.Equal = codes "=="
infix_text operators.NotEqual = codes "!="
infix_text operators.Less = codes "<"
infix_text operators.LessOrEqual = codes "<="
infix_text operators.Greater = codes ">"
infix_text operators.GreaterOrEqual = codes ">="
infix_text operators.Add = codes "+"
infix_text operators.Subtract = codes "-"
infix_text operators.Multiply = codes "*"
infix_text operators.Divide = codes "/"
infix_text operators.Remainder = codes "%"

-- JLS 15.15
abbrev pub prefix_text : SpecPrefix → List ℕ
prefix_text prefixes.Plus = codes "+"
prefix_text prefixes.Minus = codes "-"
prefix_text prefixes.Not = codes "!"

-- 12.4.24
abbrev pub quantifier_text : Quantifier → List ℕ
quantifier_text quantifiers.ForAll = codes "\\forall"
quantifier_text quantifiers.Exists = codes "\\exists"

-- JLS 4.1 to 4.3
abbrev pub type_texts : PlainType → Texts
type_texts IntType = codes "int" ∷ []
type_texts BooleanType = codes "boolean" ∷ []
type_texts IntArrayType = codes "int" ∷ codes "[" ∷ codes "]" ∷ []
type_texts (NamedType x) = x ∷ []

-- 7.1
abbrev pub spec_type_texts : PlainSpecType → Texts
spec_type_texts jml.BigInt = codes "\\bigint" ∷ []
spec_type_texts (jml.Java t) = type_texts t.written

-- ---- expressions (JML Reference Manual, 12; JLS 15)

abbrev mutual
  pub spec_texts : PlainSpec → Texts
  spec_texts (jml.Integer at z) = signed_decimal z ∷ []
  spec_texts (jml.Boolean at b) = truth_text b ∷ []
  spec_texts (jml.Null at) = codes "null" ∷ []
  spec_texts (jml.This at) = codes "this" ∷ []
  spec_texts (jml.Result at) = codes "\\result" ∷ []
  spec_texts (jml.Name at x) = x ∷ []
  spec_texts (jml.Field at e x) = spec_texts e ++ codes "." ∷ x.name ∷ []
  spec_texts (jml.Parenthesized at e) = codes "(" ∷ spec_texts e ++ codes ")" ∷ []
  spec_texts (jml.Call at m es) = m ∷ codes "(" ∷ specs_texts es ++ codes ")" ∷ []
  spec_texts (jml.MethodCall at e m es) = spec_texts e ++ (codes "." ∷ m.name ∷ codes "(" ∷ specs_texts es ++ codes ")" ∷ [])
  spec_texts (jml.Index at a i) = spec_texts a ++ (codes "[" ∷ spec_texts i ++ codes "]" ∷ [])
  spec_texts (jml.Prefix at o e) = prefix_text o ∷ spec_texts e
  spec_texts (jml.Cast at t e) = codes "(" ∷ type_texts t.written ++ codes ")" ∷ spec_texts e
  spec_texts (jml.Infix at o a b) = spec_texts a ++ infix_text o ∷ spec_texts b
  spec_texts (jml.InstanceOf at e t) = spec_texts e ++ codes "instanceof" ∷ type_texts t.written
  spec_texts (jml.Conditional at c a b) = spec_texts c ++ (codes "?" ∷ spec_texts a ++ codes ":" ∷ spec_texts b)
  spec_texts (jml.Implies at a b) = spec_texts a ++ codes "==>" ∷ spec_texts b
  spec_texts (jml.Equivalent at a b) = spec_texts a ++ codes "<==>" ∷ spec_texts b
  spec_texts (jml.Old at e) = codes "\\old" ∷ codes "(" ∷ spec_texts e ++ codes ")" ∷ []
  spec_texts (jml.Fresh at e) = codes "\\fresh" ∷ codes "(" ∷ spec_texts e ++ codes ")" ∷ []
  spec_texts (jml.InvariantFor at e) = codes "\\invariant_for" ∷ codes "(" ∷ spec_texts e ++ codes ")" ∷ []
  spec_texts (jml.Quantified at q t x e) =
      codes "(" ∷ quantifier_text q ∷ spec_type_texts t ++ (x.name ∷ codes ";" ∷ spec_texts e ++ codes ")" ∷ [])
  spec_texts (jml.QuantifiedIn at q t x r e) =
      codes "(" ∷ quantifier_text q ∷ spec_type_texts t ++ (x.name ∷ codes ";" ∷ spec_texts r ++ (codes ";" ∷ spec_texts e ++ codes ")" ∷ []))
  spec_texts (jml.Sum at x a b e) =
      codes "(" ∷ codes "\\sum" ∷ codes "int" ∷ x.name ∷ codes ";"
      ∷ spec_texts a ++ (codes "<=" ∷ x.name ∷ codes "&&" ∷ x.name ∷ codes "<" ∷ spec_texts b ++ (codes ";" ∷ spec_texts e ++ codes ")" ∷ []))

  -- expressions with commas between them
  pub specs_texts : PlainSpecs → Texts
  specs_texts NoSpecs = []
  specs_texts (SpecThen e es) = spec_texts e ++ more_texts es

  -- those behind the first
  pub more_texts : PlainSpecs → Texts
  more_texts NoSpecs = []
  more_texts (SpecThen e es) = codes "," ∷ spec_texts e ++ more_texts es

-- ---- sets of locations (12.7)

abbrev pub location_texts : PlainLocation → Texts
location_texts (jml.Nothing at) = codes "\\nothing" ∷ []
location_texts (jml.Everything at) = codes "\\everything" ∷ []
location_texts (jml.OwnField at x) = x ∷ []
location_texts (jml.FieldOf at e x) = spec_texts e ++ codes "." ∷ x.name ∷ []
location_texts (jml.AllFields at e) = spec_texts e ++ codes "." ∷ codes "*" ∷ []
location_texts (jml.Element at a i) = spec_texts a ++ (codes "[" ∷ spec_texts i ++ codes "]" ∷ [])
location_texts (jml.Range at a i j) = spec_texts a ++ (codes "[" ∷ spec_texts i ++ (codes ".." ∷ spec_texts j ++ codes "]" ∷ []))
location_texts (jml.AllElements at a) = spec_texts a ++ codes "[" ∷ codes "*" ∷ codes "]" ∷ []

-- ---- clauses and words (6.2, 8, 9, 13.2)

-- those with commas between them
abbrev pub separated : List Texts → Texts
separated [] = []
separated (x ∷ xs) = x ++ flat_map (λ y. codes "," ∷ y) xs

-- the variable that is an exception's, where one is named
abbrev pub exception_texts : Option PlainIdentifier → Texts
exception_texts None = []
exception_texts (Some x) = x.name ∷ []

abbrev pub classes_texts : List PlainIdentifier → Texts
classes_texts [] = codes "\\nothing" ∷ []
classes_texts (c ∷ cs) = separated (map (λ x. x.name ∷ []) (c ∷ cs))

abbrev pub clause_texts : PlainClause → Texts
clause_texts (jml.Requires at e) = codes "requires" ∷ spec_texts e ++ codes ";" ∷ []
clause_texts (jml.Ensures at e) = codes "ensures" ∷ spec_texts e ++ codes ";" ∷ []
clause_texts (jml.Signals at c x e) = codes "signals" ∷ codes "(" ∷ c.name ∷ exception_texts x ++ (codes ")" ∷ spec_texts e ++ codes ";" ∷ [])
clause_texts (jml.SignalsOnly at cs) = codes "signals_only" ∷ classes_texts cs ++ codes ";" ∷ []
clause_texts (jml.Assignable at ls) = codes "assignable" ∷ separated (map location_texts ls) ++ codes ";" ∷ []
clause_texts (jml.MeasuredBy at e) = codes "measured_by" ∷ spec_texts e ++ codes ";" ∷ []
clause_texts (jml.Diverges at b) = codes "diverges" ∷ truth_text b ∷ codes ";" ∷ []
clause_texts (jml.LoopInvariant at e) = codes "loop_invariant" ∷ spec_texts e ++ codes ";" ∷ []
clause_texts (jml.Decreases at e) = codes "decreases" ∷ spec_texts e ++ codes ";" ∷ []
clause_texts (jml.Invariant at e) = codes "invariant" ∷ spec_texts e ++ codes ";" ∷ []
clause_texts (jml.NormalBehavior at) = codes "normal_behavior" ∷ []
clause_texts (jml.ExceptionalBehavior at) = codes "exceptional_behavior" ∷ []
clause_texts (jml.Behavior at) = codes "behavior" ∷ []
clause_texts (jml.Also at) = codes "also" ∷ []
clause_texts (jml.Pure at) = codes "pure" ∷ []
clause_texts (jml.Helper at) = codes "helper" ∷ []
clause_texts (jml.Nullable at) = codes "nullable" ∷ []
clause_texts (jml.NonNull at) = codes "non_null" ∷ []
clause_texts (jml.SpecPublic at) = codes "spec_public" ∷ []
clause_texts (jml.SpecProtected at) = codes "spec_protected" ∷ []

-- ---- the whole text

-- each token behind a blank
abbrev pub spaced : Texts → List ℕ
spaced ts = flat_map (λ t. 32 ∷ t) ts

-- a line for each clause, in a comment that is JML (JML Reference Manual, 4.4)
abbrev pub printed : List PlainClause → List ℕ
printed cs = codes "/*@" ++ flat_map (λ c. 10 ∷ spaced (clause_texts c)) cs ++ codes "\n @*/"
