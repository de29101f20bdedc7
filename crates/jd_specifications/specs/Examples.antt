-- Worked examples, in a method `int t(int x, boolean p, A o, int[] a)` of the class B of
--
--     class A { int f; A n; static final int K = 7; .. int m(int x) {..} static int s(int x) {..} .. }
--     class B extends A { boolean b; .. }
--     class C extends B { }
--
-- or in one that is static, or one without result; and in a loop of the first, where a local `int i` is in scope.
use Rattle.std.specs.Prelude.{◌≡◌, ℕ, pos, Bool, true, false, List, [], ◌∷◌, Option, Some, None, Ok, Err, codes}
use Rattle.jd_base.specs.declared.sort.Sort.TheVariants as sorts
use Rattle.jd_term.specs.declared.term.ArithmeticOp.TheVariants as operations
use Rattle.jd_syntax.specs.Codes.{OfClass}
use Rattle.jd_syntax.specs.JavaTypes.{IntType, BooleanType, NamedType}
use Rattle.jd_syntax.specs.SpecTrees.{BigInt, Java, PlainSpec, Integer, Boolean, Null, This, Result as ResultWord, Name, Field, Parenthesized, Call, MethodCall, Index, Prefix, Cast, Infix, InstanceOf, Conditional, Implies, Equivalent, Old, Fresh, InvariantFor, Quantified, QuantifiedIn, Sum, NoSpecs, SpecThen, PlainLocation, Nothing, Everything, OwnField, FieldOf, AllFields, Element, Range, AllElements, PlainClause, Requires, Ensures, Signals, SignalsOnly, Assignable, MeasuredBy, Diverges, LoopInvariant, Decreases, Invariant, NormalBehavior, ExceptionalBehavior, Also}
use Rattle.jd_syntax.specs.declared.java.InfixOperator.TheVariants as operators
use Rattle.jd_syntax.specs.declared.spec.SpecPrefix.TheVariants as prefixes
use Rattle.jd_syntax.specs.declared.spec.Quantifier.TheVariants as quantifiers
use Rattle.jd_bodies.specs.declared.value.ValueType.{ValueType}
use Rattle.jd_bodies.specs.declared.value.ValueType.TheVariants as types
use Rattle.jd_bodies.specs.Examples.{declarations, place, ident, written}
use Rattle.jd_jml_meaning.specs.Resolved as jml
use Rattle.jd_jml_meaning.specs.Resolved.{JmlExpr, JmlLocation, OverInt, OverBigint, OverBoolean, OverReference}
use Rattle.jd_specifications.specs.declared.fault.SpecCause.{SpecCause}
use Rattle.jd_specifications.specs.declared.fault.SpecCause.TheVariants.{UnknownName, TypeMismatch, ResultHere, OldHere, InvariantRecursion, CallInSpec, BadClause}
use Rattle.jd_specifications.specs.Scopes.{AParameter, ALocal, SpecLocal, and_then}
use Rattle.jd_specifications.specs.Clauses.{Around, at_first, clauses}
use Rattle.jd_specifications.specs.Resolution.{AnArgument, Entry, resolved, location}

-- ---- where

abbrev pub parameter : List ℕ → ValueType → SpecLocal
parameter x t = record { name = x; named = AParameter; type = t }

abbrev pub parameters : List SpecLocal
parameters = parameter (codes "a") types.IntArray ∷ parameter (codes "o") (types.Class 10) ∷ parameter (codes "p") types.Boolean ∷ parameter (codes "x") types.Int ∷ []

abbrev pub around : Bool → Option ValueType → List SpecLocal → Around
around static result locals = record { place = place static; result = result; locals = locals }

abbrev pub of_instance : Around
of_instance = around false (Some types.Int) parameters

abbrev pub of_static : Around
of_static = around true (Some types.Int) parameters

abbrev pub of_void : Around
of_void = around false None parameters

abbrev pub of_loop : Around
of_loop = around false None (record { name = codes "i"; named = ALocal; type = types.Int } ∷ parameters)

abbrev pub entry : List ℕ → ℕ → ValueType → Entry
entry x n t = record { name = x; known = AnArgument n; type = t }

abbrev pub entries : List Entry
entries = entry (codes "a") 3 types.IntArray ∷ entry (codes "o") 2 (types.Class 10) ∷ entry (codes "p") 1 types.Boolean ∷ entry (codes "x") 0 types.Int ∷ []

-- ---- what is said of clauses, expressions and locations

-- this token is refused first
abbrev pub IsRefused : Around → List PlainClause → ℕ → SpecCause → Type 0
IsRefused a cs at cause = clauses declarations a at_first cs ≡ Err (record { at = at; cause = cause })

-- none is
abbrev pub IsTaken : Around → List PlainClause → Type 0
IsTaken a cs = and_then (λ s. Ok true) (clauses declarations a at_first cs) ≡ Ok true

abbrev pub StandsFor : PlainSpec → JmlExpr → Type 0
StandsFor e x = resolved declarations 11 types.Int entries e ≡ x

abbrev pub IsOf : PlainLocation → JmlLocation → Type 0
IsOf l x = location declarations 11 types.Int entries l ≡ x

pub record SpecFaultExamples : Type 0 where
  -- `requires y > 0;`
  pub unknown_name : IsRefused of_instance ((Requires 0 (Infix 9 operators.Greater (Name 9 (codes "y")) (Integer 13 (pos 0)))) ∷ []) 9 UnknownName
  -- `requires x;`
  pub no_truth : IsRefused of_instance ((Requires 0 (Name 9 (codes "x"))) ∷ []) 9 TypeMismatch
  -- `requires \result == 1;`
  pub result_before : IsRefused of_instance ((Requires 0 (Infix 9 operators.Equal (ResultWord 9) (Integer 20 (pos 1)))) ∷ []) 9 ResultHere
  -- `ensures \result == 1;`
  pub result_behind : IsTaken of_instance ((Ensures 0 (Infix 8 operators.Equal (ResultWord 8) (Integer 19 (pos 1)))) ∷ [])
  -- `ensures \result;`
  pub result_as_truth : IsRefused of_instance ((Ensures 0 (ResultWord 8)) ∷ []) 8 TypeMismatch
  -- `ensures \result == 1;`
  pub result_of_none : IsRefused of_void ((Ensures 0 (Infix 8 operators.Equal (ResultWord 8) (Integer 19 (pos 1)))) ∷ []) 8 ResultHere
  -- `signals (Exception e) \result == 1;`
  pub result_in_signals : IsRefused of_instance ((Signals 0 (ident 9 (codes "Exception")) (Some (ident 19 (codes "e"))) (Infix 22 operators.Equal (ResultWord 22) (Integer 33 (pos 1)))) ∷ []) 22 ResultHere
  -- `requires \old(p);`
  pub old_before : IsRefused of_instance ((Requires 0 (Old 9 (Name 14 (codes "p")))) ∷ []) 9 OldHere
  -- `ensures \old(p);`
  pub old_behind : IsTaken of_instance ((Ensures 0 (Old 8 (Name 13 (codes "p")))) ∷ [])
  -- `ensures \old(\result == 1);`
  pub result_inside_old : IsTaken of_instance ((Ensures 0 (Old 8 (Infix 13 operators.Equal (ResultWord 13) (Integer 24 (pos 1))))) ∷ [])
  -- `requires \old(u);`
  pub part_of_old_first : IsRefused of_instance ((Requires 0 (Old 9 (Name 14 (codes "u")))) ∷ []) 14 UnknownName
  -- `requires \fresh(o);`
  pub fresh_before : IsRefused of_instance ((Requires 0 (Fresh 9 (Name 16 (codes "o")))) ∷ []) 9 OldHere
  -- `ensures \fresh(x);`
  pub fresh_of_an_int : IsRefused of_instance ((Ensures 0 (Fresh 8 (Name 15 (codes "x")))) ∷ []) 15 TypeMismatch
  -- `requires \fresh(x);`
  pub word_before_its_part : IsRefused of_instance ((Requires 0 (Fresh 9 (Name 16 (codes "x")))) ∷ []) 9 OldHere
  -- `invariant \invariant_for(this);`
  pub recursive_invariant : IsRefused of_instance ((Invariant 0 (InvariantFor 10 (This 25))) ∷ []) 10 InvariantRecursion
  -- `requires \invariant_for(o);`
  pub invariant_of_another : IsTaken of_instance ((Requires 0 (InvariantFor 9 (Name 24 (codes "o")))) ∷ [])
  -- `requires \invariant_for(x);`
  pub invariant_of_an_int : IsRefused of_instance ((Requires 0 (InvariantFor 9 (Name 24 (codes "x")))) ∷ []) 24 TypeMismatch
  -- `invariant \old(b);`
  pub old_in_an_invariant : IsRefused of_instance ((Invariant 0 (Old 10 (Name 15 (codes "b")))) ∷ []) 10 OldHere
  -- `invariant x > 0;`
  pub no_parameter_in_an_invariant : IsRefused of_instance ((Invariant 0 (Infix 10 operators.Greater (Name 10 (codes "x")) (Integer 14 (pos 0)))) ∷ []) 10 UnknownName
  -- `invariant f > 0;`
  pub this_in_an_invariant_before_a_static_method : IsTaken of_static ((Invariant 0 (Infix 10 operators.Greater (Name 10 (codes "f")) (Integer 14 (pos 0)))) ∷ [])
  -- `requires m(x) > 0;`
  pub call : IsRefused of_instance ((Requires 0 (Infix 9 operators.Greater (Call 9 (codes "m") (SpecThen (Name 11 (codes "x")) NoSpecs)) (Integer 16 (pos 0)))) ∷ []) 9 CallInSpec
  -- `requires o.m(x) > 0;`
  pub call_of_another : IsRefused of_instance ((Requires 0 (Infix 9 operators.Greater (MethodCall 9 (Name 9 (codes "o")) (ident 11 (codes "m")) (SpecThen (Name 13 (codes "x")) NoSpecs)) (Integer 18 (pos 0)))) ∷ []) 11 CallInSpec
  -- `requires m(u) > 0;`
  pub argument_before_call : IsRefused of_instance ((Requires 0 (Infix 9 operators.Greater (Call 9 (codes "m") (SpecThen (Name 11 (codes "u")) NoSpecs)) (Integer 16 (pos 0)))) ∷ []) 11 UnknownName
  -- `requires A.s(x) > 0;`
  pub call_of_a_class : IsRefused of_instance ((Requires 0 (Infix 9 operators.Greater (MethodCall 9 (Name 9 (codes "A")) (ident 11 (codes "s")) (SpecThen (Name 13 (codes "x")) NoSpecs)) (Integer 18 (pos 0)))) ∷ []) 11 CallInSpec
  -- `requires (p ? x : x) > 0;`
  pub choice_of_ints : IsRefused of_instance ((Requires 0 (Infix 9 operators.Greater (Parenthesized 9 (Conditional 10 (Name 10 (codes "p")) (Name 14 (codes "x")) (Name 18 (codes "x")))) (Integer 23 (pos 0)))) ∷ []) 10 BadClause
  -- `requires (p ? o : null) == o;`
  pub choice_of_references : IsRefused of_instance ((Requires 0 (Infix 9 operators.Equal (Parenthesized 9 (Conditional 10 (Name 10 (codes "p")) (Name 14 (codes "o")) (Null 18))) (Name 27 (codes "o")))) ∷ []) 10 BadClause
  -- `requires p ? p : x;`
  pub choice_of_unlike : IsRefused of_instance ((Requires 0 (Conditional 9 (Name 9 (codes "p")) (Name 13 (codes "p")) (Name 17 (codes "x")))) ∷ []) 9 TypeMismatch
  -- `requires p ? p : !p;`
  pub choice_of_truths : IsTaken of_instance ((Requires 0 (Conditional 9 (Name 9 (codes "p")) (Name 13 (codes "p")) (Prefix 17 prefixes.Not (Name 18 (codes "p"))))) ∷ [])
  -- `requires x ? p : p;`
  pub choice_by_an_int : IsRefused of_instance ((Requires 0 (Conditional 9 (Name 9 (codes "x")) (Name 13 (codes "p")) (Name 17 (codes "p")))) ∷ []) 9 TypeMismatch
  -- `requires this == o;`
  pub static_this : IsRefused of_static ((Requires 0 (Infix 9 operators.Equal (This 9) (Name 17 (codes "o")))) ∷ []) 9 UnknownName
  -- `requires f > 0;`
  pub static_field : IsRefused of_static ((Requires 0 (Infix 9 operators.Greater (Name 9 (codes "f")) (Integer 13 (pos 0)))) ∷ []) 9 UnknownName
  -- `requires K > 0;`
  pub static_constant : IsTaken of_static ((Requires 0 (Infix 9 operators.Greater (Name 9 (codes "K")) (Integer 13 (pos 0)))) ∷ [])
  -- `requires f > 0;`
  pub own_field : IsTaken of_instance ((Requires 0 (Infix 9 operators.Greater (Name 9 (codes "f")) (Integer 13 (pos 0)))) ∷ [])
  -- `requires o.f > 0;`
  pub field_of_another : IsTaken of_instance ((Requires 0 (Infix 9 operators.Greater (Field 9 (Name 9 (codes "o")) (ident 11 (codes "f"))) (Integer 15 (pos 0)))) ∷ [])
  -- `requires o.g > 0;`
  pub unknown_field : IsRefused of_instance ((Requires 0 (Infix 9 operators.Greater (Field 9 (Name 9 (codes "o")) (ident 11 (codes "g"))) (Integer 15 (pos 0)))) ∷ []) 11 UnknownName
  -- `requires a.length > 0;`
  pub length : IsTaken of_instance ((Requires 0 (Infix 9 operators.Greater (Field 9 (Name 9 (codes "a")) (ident 11 (codes "length"))) (Integer 20 (pos 0)))) ∷ [])
  -- `requires a.size > 0;`
  pub no_length : IsRefused of_instance ((Requires 0 (Infix 9 operators.Greater (Field 9 (Name 9 (codes "a")) (ident 11 (codes "size"))) (Integer 18 (pos 0)))) ∷ []) 11 UnknownName
  -- `requires x.f > 0;`
  pub field_of_an_int : IsRefused of_instance ((Requires 0 (Infix 9 operators.Greater (Field 9 (Name 9 (codes "x")) (ident 11 (codes "f"))) (Integer 15 (pos 0)))) ∷ []) 11 UnknownName
  -- `requires A.K > 0;`
  pub constant_of_a_class : IsTaken of_instance ((Requires 0 (Infix 9 operators.Greater (Field 9 (Name 9 (codes "A")) (ident 11 (codes "K"))) (Integer 15 (pos 0)))) ∷ [])
  -- `requires A.f > 0;`
  pub field_of_a_class : IsRefused of_instance ((Requires 0 (Infix 9 operators.Greater (Field 9 (Name 9 (codes "A")) (ident 11 (codes "f"))) (Integer 15 (pos 0)))) ∷ []) 11 UnknownName
  -- `requires x == p;`
  pub unlike_compared : IsRefused of_instance ((Requires 0 (Infix 9 operators.Equal (Name 9 (codes "x")) (Name 14 (codes "p")))) ∷ []) 9 TypeMismatch
  -- `requires a == o;`
  pub unrelated_compared : IsRefused of_instance ((Requires 0 (Infix 9 operators.Equal (Name 9 (codes "a")) (Name 14 (codes "o")))) ∷ []) 9 TypeMismatch
  -- `requires o == null;`
  pub compared_with_null : IsTaken of_instance ((Requires 0 (Infix 9 operators.Equal (Name 9 (codes "o")) (Null 14))) ∷ [])
  -- `requires p == (x > 0);`
  pub truths_compared : IsTaken of_instance ((Requires 0 (Infix 9 operators.Equal (Name 9 (codes "p")) (Parenthesized 14 (Infix 15 operators.Greater (Name 15 (codes "x")) (Integer 19 (pos 0)))))) ∷ [])
  -- `requires a[p] > 0;`
  pub index_of_another_type : IsRefused of_instance ((Requires 0 (Infix 9 operators.Greater (Index 9 (Name 9 (codes "a")) (Name 11 (codes "p"))) (Integer 16 (pos 0)))) ∷ []) 11 TypeMismatch
  -- `requires o[x] > 0;`
  pub no_array : IsRefused of_instance ((Requires 0 (Infix 9 operators.Greater (Index 9 (Name 9 (codes "o")) (Name 11 (codes "x"))) (Integer 16 (pos 0)))) ∷ []) 9 TypeMismatch
  -- `requires (\forall int i; i > 0);`
  pub all_ints : IsTaken of_instance ((Requires 0 (Quantified 9 quantifiers.ForAll (Java (written 18 IntType)) (ident 22 (codes "i")) (Infix 25 operators.Greater (Name 25 (codes "i")) (Integer 29 (pos 0))))) ∷ [])
  -- `requires (\forall Q q; true);`
  pub unknown_class_bound : IsRefused of_instance ((Requires 0 (Quantified 9 quantifiers.ForAll (Java (written 18 (NamedType (codes "Q")))) (ident 20 (codes "q")) (Boolean 23 true))) ∷ []) 18 UnknownName
  -- `requires (\forall int i; i);`
  pub body_of_another_type : IsRefused of_instance ((Requires 0 (Quantified 9 quantifiers.ForAll (Java (written 18 IntType)) (ident 22 (codes "i")) (Name 25 (codes "i")))) ∷ []) 25 TypeMismatch
  -- `requires (\exists int i; i; true);`
  pub range_of_another_type : IsRefused of_instance ((Requires 0 (QuantifiedIn 9 quantifiers.Exists (Java (written 18 IntType)) (ident 22 (codes "i")) (Name 25 (codes "i")) (Boolean 28 true))) ∷ []) 25 TypeMismatch
  -- `requires (\exists int i; u; v);`
  pub range_before_body : IsRefused of_instance ((Requires 0 (QuantifiedIn 9 quantifiers.Exists (Java (written 18 IntType)) (ident 22 (codes "i")) (Name 25 (codes "u")) (Name 28 (codes "v")))) ∷ []) 25 UnknownName
  -- `requires (\forall boolean x; x);`
  pub bound_hides : IsTaken of_instance ((Requires 0 (Quantified 9 quantifiers.ForAll (Java (written 18 BooleanType)) (ident 26 (codes "x")) (Name 29 (codes "x")))) ∷ [])
  -- `requires (\forall \bigint i; i * x > 0);`
  pub integers : IsTaken of_instance ((Requires 0 (Quantified 9 quantifiers.ForAll BigInt (ident 26 (codes "i")) (Infix 29 operators.Greater (Infix 29 operators.Multiply (Name 29 (codes "i")) (Name 33 (codes "x"))) (Integer 37 (pos 0))))) ∷ [])
  -- `requires (\sum int i; 0 <= i && i < x; i * i) > 0;`
  pub sum : IsTaken of_instance ((Requires 0 (Infix 9 operators.Greater (Sum 9 (ident 19 (codes "i")) (Integer 22 (pos 0)) (Name 36 (codes "x")) (Infix 39 operators.Multiply (Name 39 (codes "i")) (Name 43 (codes "i")))) (Integer 48 (pos 0)))) ∷ [])
  -- `requires (\sum int i; i <= i && i < x; i) > 0;`
  pub bounds_outside : IsRefused of_instance ((Requires 0 (Infix 9 operators.Greater (Sum 9 (ident 19 (codes "i")) (Name 22 (codes "i")) (Name 36 (codes "x")) (Name 39 (codes "i"))) (Integer 44 (pos 0)))) ∷ []) 22 UnknownName
  -- `requires (\sum int i; 0 <= i && i < x; p) > 0;`
  pub sum_of_truths : IsRefused of_instance ((Requires 0 (Infix 9 operators.Greater (Sum 9 (ident 19 (codes "i")) (Integer 22 (pos 0)) (Name 36 (codes "x")) (Name 39 (codes "p"))) (Integer 44 (pos 0)))) ∷ []) 39 TypeMismatch
  -- `signals (Exception e) e != null;`
  pub exception : IsTaken of_instance ((Signals 0 (ident 9 (codes "Exception")) (Some (ident 19 (codes "e"))) (Infix 22 operators.NotEqual (Name 22 (codes "e")) (Null 27))) ∷ [])
  -- `signals (A e) true;`
  pub no_exception : IsRefused of_instance ((Signals 0 (ident 9 (codes "A")) (Some (ident 11 (codes "e"))) (Boolean 14 true)) ∷ []) 9 TypeMismatch
  -- `signals (Q e) true;`
  pub unknown_exception : IsRefused of_instance ((Signals 0 (ident 9 (codes "Q")) (Some (ident 11 (codes "e"))) (Boolean 14 true)) ∷ []) 9 UnknownName
  -- `normal_behavior signals (Exception e) true;`
  pub signals_in_a_normal_case : IsRefused of_instance ((NormalBehavior 0) ∷ (Signals 16 (ident 25 (codes "Exception")) (Some (ident 35 (codes "e"))) (Boolean 38 true)) ∷ []) 16 BadClause
  -- `normal_behavior signals (Exception e) u;`
  pub part_before_its_clause : IsRefused of_instance ((NormalBehavior 0) ∷ (Signals 16 (ident 25 (codes "Exception")) (Some (ident 35 (codes "e"))) (Name 38 (codes "u"))) ∷ []) 38 UnknownName
  -- `normal_behavior signals_only \nothing;`
  pub signals_only_in_a_normal_case : IsRefused of_instance ((NormalBehavior 0) ∷ (SignalsOnly 16 ([])) ∷ []) 16 BadClause
  -- `exceptional_behavior ensures p;`
  pub ensures_in_an_exceptional_case : IsRefused of_instance ((ExceptionalBehavior 0) ∷ (Ensures 21 (Name 29 (codes "p"))) ∷ []) 21 BadClause
  -- `exceptional_behavior signals (Exception e) p; also ensures p;`
  pub ensures_in_the_next_case : IsTaken of_instance ((ExceptionalBehavior 0) ∷ (Signals 21 (ident 30 (codes "Exception")) (Some (ident 40 (codes "e"))) (Name 43 (codes "p"))) ∷ (Also 46) ∷ (Ensures 51 (Name 59 (codes "p"))) ∷ [])
  -- `signals_only Exception, Q;`
  pub unknown_exception_only : IsRefused of_instance ((SignalsOnly 0 ((ident 13 (codes "Exception")) ∷ (ident 24 (codes "Q")) ∷ [])) ∷ []) 24 UnknownName
  -- `measured_by x; measured_by x;`
  pub second_measure : IsRefused of_instance ((MeasuredBy 0 (Name 12 (codes "x"))) ∷ (MeasuredBy 15 (Name 27 (codes "x"))) ∷ []) 15 BadClause
  -- `measured_by x; also measured_by x;`
  pub measure_of_the_next_case : IsTaken of_instance ((MeasuredBy 0 (Name 12 (codes "x"))) ∷ (Also 15) ∷ (MeasuredBy 20 (Name 32 (codes "x"))) ∷ [])
  -- `measured_by p;`
  pub measure_as_truth : IsRefused of_instance ((MeasuredBy 0 (Name 12 (codes "p"))) ∷ []) 12 TypeMismatch
  -- `measured_by \old(x);`
  pub old_in_a_measure : IsRefused of_instance ((MeasuredBy 0 (Old 12 (Name 17 (codes "x")))) ∷ []) 12 OldHere
  -- `diverges true; diverges true;`
  pub second_diverges : IsRefused of_instance ((Diverges 0 true) ∷ (Diverges 15 true) ∷ []) 15 BadClause
  -- `assignable f, o.f, o.*, a[x], a[0..x], a[*];`
  pub locations : IsTaken of_instance ((Assignable 0 ((OwnField 11 (codes "f")) ∷ (FieldOf 14 (Name 14 (codes "o")) (ident 16 (codes "f"))) ∷ (AllFields 19 (Name 19 (codes "o"))) ∷ (Element 24 (Name 24 (codes "a")) (Name 26 (codes "x"))) ∷ (Range 30 (Name 30 (codes "a")) (Integer 32 (pos 0)) (Name 35 (codes "x"))) ∷ (AllElements 39 (Name 39 (codes "a"))) ∷ [])) ∷ [])
  -- `assignable x;`
  pub parameter_is_no_location : IsRefused of_instance ((Assignable 0 ((OwnField 11 (codes "x")) ∷ [])) ∷ []) 11 UnknownName
  -- `assignable K;`
  pub constant_is_no_location : IsRefused of_instance ((Assignable 0 ((OwnField 11 (codes "K")) ∷ [])) ∷ []) 11 UnknownName
  -- `assignable o.K;`
  pub constant_of_another_is_none : IsRefused of_instance ((Assignable 0 ((FieldOf 11 (Name 11 (codes "o")) (ident 13 (codes "K"))) ∷ [])) ∷ []) 13 UnknownName
  -- `assignable a.length;`
  pub length_is_no_location : IsRefused of_instance ((Assignable 0 ((FieldOf 11 (Name 11 (codes "a")) (ident 13 (codes "length"))) ∷ [])) ∷ []) 13 UnknownName
  -- `assignable x.*;`
  pub all_fields_of_an_int : IsRefused of_instance ((Assignable 0 ((AllFields 11 (Name 11 (codes "x"))) ∷ [])) ∷ []) 11 TypeMismatch
  -- `assignable o[0];`
  pub elements_of_no_array : IsRefused of_instance ((Assignable 0 ((Element 11 (Name 11 (codes "o")) (Integer 13 (pos 0))) ∷ [])) ∷ []) 11 TypeMismatch
  -- `assignable a[0..p];`
  pub end_of_another_type : IsRefused of_instance ((Assignable 0 ((Range 11 (Name 11 (codes "a")) (Integer 13 (pos 0)) (Name 16 (codes "p"))) ∷ [])) ∷ []) 16 TypeMismatch
  -- `assignable f;`
  pub static_location : IsRefused of_static ((Assignable 0 ((OwnField 11 (codes "f")) ∷ [])) ∷ []) 11 UnknownName
  -- `assignable o.g, u.f;`
  pub first_of_two : IsRefused of_instance ((Assignable 0 ((FieldOf 11 (Name 11 (codes "o")) (ident 13 (codes "g"))) ∷ (FieldOf 16 (Name 16 (codes "u")) (ident 18 (codes "f"))) ∷ [])) ∷ []) 13 UnknownName
  -- `requires x ==> p;`
  pub unlike_sides : IsRefused of_instance ((Requires 0 (Implies 9 (Name 9 (codes "x")) (Name 15 (codes "p")))) ∷ []) 9 TypeMismatch
  -- `requires p <==> x;`
  pub other_side : IsRefused of_instance ((Requires 0 (Equivalent 9 (Name 9 (codes "p")) (Name 16 (codes "x")))) ∷ []) 16 TypeMismatch
  -- `requires x ==> u;`
  pub second_part_first : IsRefused of_instance ((Requires 0 (Implies 9 (Name 9 (codes "x")) (Name 15 (codes "u")))) ∷ []) 15 UnknownName
  -- `requires (int) p > 0;`
  pub cast_of_a_truth : IsRefused of_instance ((Requires 0 (Infix 9 operators.Greater (Cast 9 (written 10 IntType) (Name 15 (codes "p"))) (Integer 19 (pos 0)))) ∷ []) 9 TypeMismatch
  -- `requires (B) o == this;`
  pub cast_down : IsTaken of_instance ((Requires 0 (Infix 9 operators.Equal (Cast 9 (written 10 (NamedType (codes "B"))) (Name 13 (codes "o"))) (This 18))) ∷ [])
  -- `requires (Q) o == this;`
  pub unknown_cast : IsRefused of_instance ((Requires 0 (Infix 9 operators.Equal (Cast 9 (written 10 (NamedType (codes "Q"))) (Name 13 (codes "o"))) (This 18))) ∷ []) 10 UnknownName
  -- `requires o instanceof Q;`
  pub unknown_instance : IsRefused of_instance ((Requires 0 (InstanceOf 9 (Name 9 (codes "o")) (written 22 (NamedType (codes "Q"))))) ∷ []) 22 UnknownName
  -- `requires a instanceof A;`
  pub unrelated_instance : IsRefused of_instance ((Requires 0 (InstanceOf 9 (Name 9 (codes "a")) (written 22 (NamedType (codes "A"))))) ∷ []) 9 TypeMismatch
  -- `requires !x;`
  pub instance_of_a_truth : IsRefused of_instance ((Requires 0 (Prefix 9 prefixes.Not (Name 10 (codes "x")))) ∷ []) 10 TypeMismatch
  -- `requires y > 0; requires x;`
  pub first_clause_first : IsRefused of_instance ((Requires 0 (Infix 9 operators.Greater (Name 9 (codes "y")) (Integer 13 (pos 0)))) ∷ (Requires 16 (Name 25 (codes "x"))) ∷ []) 9 UnknownName
  -- `requires p; requires x;`
  pub second_clause : IsRefused of_instance ((Requires 0 (Name 9 (codes "p"))) ∷ (Requires 12 (Name 21 (codes "x"))) ∷ []) 21 TypeMismatch
  -- `loop_invariant \old(i) > 0;`
  pub local_inside_old : IsRefused of_loop ((LoopInvariant 0 (Infix 15 operators.Greater (Old 15 (Name 20 (codes "i"))) (Integer 25 (pos 0)))) ∷ []) 20 OldHere
  -- `loop_invariant \old(x) > i;`
  pub parameter_inside_old : IsTaken of_loop ((LoopInvariant 0 (Infix 15 operators.Greater (Old 15 (Name 20 (codes "x"))) (Name 25 (codes "i")))) ∷ [])
  -- `loop_invariant (\forall int i; \old(i) == i);`
  pub bound_inside_old : IsTaken of_loop ((LoopInvariant 0 (Quantified 15 quantifiers.ForAll (Java (written 24 IntType)) (ident 28 (codes "i")) (Infix 31 operators.Equal (Old 31 (Name 36 (codes "i"))) (Name 42 (codes "i"))))) ∷ [])
  -- `loop_invariant \old(x) > 0 && i > 0;`
  pub local_beside_old : IsTaken of_loop ((LoopInvariant 0 (Infix 15 operators.AndAlso (Infix 15 operators.Greater (Old 15 (Name 20 (codes "x"))) (Integer 25 (pos 0))) (Infix 30 operators.Greater (Name 30 (codes "i")) (Integer 34 (pos 0))))) ∷ [])
  -- `loop_invariant \result == 0;`
  pub result_in_a_loop : IsRefused of_loop ((LoopInvariant 0 (Infix 15 operators.Equal (ResultWord 15) (Integer 26 (pos 0)))) ∷ []) 15 ResultHere
  -- `decreases i; decreases x;`
  pub second_decreases : IsRefused of_loop ((Decreases 0 (Name 10 (codes "i"))) ∷ (Decreases 13 (Name 23 (codes "x"))) ∷ []) 13 BadClause
  -- `decreases p;`
  pub decreases_as_truth : IsRefused of_loop ((Decreases 0 (Name 10 (codes "p"))) ∷ []) 10 TypeMismatch
  -- `loop_invariant \fresh(o);`
  pub fresh_in_a_loop : IsTaken of_loop ((LoopInvariant 0 (Fresh 15 (Name 22 (codes "o")))) ∷ [])
  -- `assignable a[i], f;`
  pub locations_of_a_loop : IsTaken of_loop ((Assignable 0 ((Element 11 (Name 11 (codes "a")) (Name 13 (codes "i"))) ∷ (OwnField 17 (codes "f")) ∷ [])) ∷ [])

pub record MeaningExamples : Type 0 where
  -- `x`
  pub parameter : StandsFor (Name 0 (codes "x")) (jml.Argument 0)
  -- `7`
  pub number : StandsFor (Integer 0 (pos 7)) (jml.IntegerLiteral (pos 7))
  -- `f`
  pub own_field : StandsFor (Name 0 (codes "f")) (jml.FieldAccess jml.This 0)
  -- `b`
  pub own_truth : StandsFor (Name 0 (codes "b")) (jml.FieldAccess jml.This 2)
  -- `o.n.f`
  pub field_of_another : StandsFor (Field 0 (Field 0 (Name 0 (codes "o")) (ident 2 (codes "n"))) (ident 4 (codes "f"))) (jml.FieldAccess (jml.FieldAccess (jml.Argument 2) 1) 0)
  -- `a.length`
  pub length : StandsFor (Field 0 (Name 0 (codes "a")) (ident 2 (codes "length"))) (jml.LengthOf (jml.Argument 3))
  -- `K`
  pub constant : StandsFor (Name 0 (codes "K")) (jml.IntegerLiteral (pos 7))
  -- `A.K`
  pub constant_of_a_class : StandsFor (Field 0 (Name 0 (codes "A")) (ident 2 (codes "K"))) (jml.IntegerLiteral (pos 7))
  -- `o.K`
  pub constant_of_an_object : StandsFor (Field 0 (Name 0 (codes "o")) (ident 2 (codes "K"))) (jml.IntegerLiteral (pos 7))
  -- `a[x]`
  pub element : StandsFor (Index 0 (Name 0 (codes "a")) (Name 2 (codes "x"))) (jml.ElementAccess (jml.Argument 3) (jml.Argument 0))
  -- `-5`
  pub negative_literal : StandsFor (Prefix 0 prefixes.Minus (Integer 1 (pos 5))) (jml.Minus (jml.IntegerLiteral (pos 5)))
  -- `-(5)`
  pub minus_before_parentheses : StandsFor (Prefix 0 prefixes.Minus (Parenthesized 1 (Integer 2 (pos 5)))) (jml.Minus (jml.Cast (jml.IntegerLiteral (pos 5))))
  -- `x + 2 * x`
  pub precedence : StandsFor (Infix 0 operators.Add (Name 0 (codes "x")) (Infix 4 operators.Multiply (Integer 4 (pos 2)) (Name 8 (codes "x")))) (jml.Arithmetic operations.Add (jml.Argument 0) (jml.Arithmetic operations.Multiply (jml.IntegerLiteral (pos 2)) (jml.Argument 0)))
  -- `x == 1`
  pub ints_compared : StandsFor (Infix 0 operators.Equal (Name 0 (codes "x")) (Integer 5 (pos 1))) (jml.Equal (jml.Argument 0) (jml.IntegerLiteral (pos 1)))
  -- `p == (x > 0)`
  pub truths_compared : StandsFor (Infix 0 operators.Equal (Name 0 (codes "p")) (Parenthesized 5 (Infix 6 operators.Greater (Name 6 (codes "x")) (Integer 10 (pos 0))))) (jml.Equivalent (jml.Argument 1) (jml.Cast (jml.Greater (jml.Argument 0) (jml.IntegerLiteral (pos 0)))))
  -- `p != b`
  pub truths_differ : StandsFor (Infix 0 operators.NotEqual (Name 0 (codes "p")) (Name 5 (codes "b"))) (jml.Inequivalent (jml.Argument 1) (jml.FieldAccess jml.This 2))
  -- `o.n != null`
  pub references_differ : StandsFor (Infix 0 operators.NotEqual (Field 0 (Name 0 (codes "o")) (ident 2 (codes "n"))) (Null 7)) (jml.Unequal (jml.FieldAccess (jml.Argument 2) 1) jml.NullLiteral)
  -- `\result >= x`
  pub result_word : StandsFor (Infix 0 operators.GreaterOrEqual (ResultWord 0) (Name 11 (codes "x"))) (jml.GreaterOrEqual jml.Result (jml.Argument 0))
  -- `\old(o.f) < o.f`
  pub earlier_state : StandsFor (Infix 0 operators.Less (Old 0 (Field 5 (Name 5 (codes "o")) (ident 7 (codes "f")))) (Field 12 (Name 12 (codes "o")) (ident 14 (codes "f")))) (jml.Less (jml.Old (jml.FieldAccess (jml.Argument 2) 0)) (jml.FieldAccess (jml.Argument 2) 0))
  -- `p ==> p ==> b`
  pub implication : StandsFor (Implies 0 (Name 0 (codes "p")) (Implies 6 (Name 6 (codes "p")) (Name 12 (codes "b")))) (jml.Implies (jml.Argument 1) (jml.Implies (jml.Argument 1) (jml.FieldAccess jml.This 2)))
  -- `p ? b : !b`
  pub choice : StandsFor (Conditional 0 (Name 0 (codes "p")) (Name 4 (codes "b")) (Prefix 8 prefixes.Not (Name 9 (codes "b")))) (jml.Conditional (jml.Argument 1) (jml.FieldAccess jml.This 2) (jml.Not (jml.FieldAccess jml.This 2)))
  -- `o instanceof B`
  pub instance : StandsFor (InstanceOf 0 (Name 0 (codes "o")) (written 13 (NamedType (codes "B")))) (jml.InstanceOf (OfClass 11) (jml.Argument 2))
  -- `(B) o == this`
  pub cast : StandsFor (Infix 0 operators.Equal (Cast 0 (written 1 (NamedType (codes "B"))) (Name 4 (codes "o"))) (This 9)) (jml.Equal (jml.Cast (jml.Argument 2)) jml.This)
  -- `\fresh(o)`
  pub fresh : StandsFor (Fresh 0 (Name 7 (codes "o"))) (jml.Fresh (jml.Argument 2))
  -- `\invariant_for(o.n)`
  pub invariant_of : StandsFor (InvariantFor 0 (Field 15 (Name 15 (codes "o")) (ident 17 (codes "n")))) (jml.InvariantFor (jml.FieldAccess (jml.Argument 2) 1))
  -- `(\forall int i; 0 <= i && i < a.length; a[i] > x)`
  pub every_int : StandsFor (QuantifiedIn 0 quantifiers.ForAll (Java (written 9 IntType)) (ident 13 (codes "i")) (Infix 16 operators.AndAlso (Infix 16 operators.LessOrEqual (Integer 16 (pos 0)) (Name 21 (codes "i"))) (Infix 26 operators.Less (Name 26 (codes "i")) (Field 30 (Name 30 (codes "a")) (ident 32 (codes "length"))))) (Infix 40 operators.Greater (Index 40 (Name 40 (codes "a")) (Name 42 (codes "i"))) (Name 47 (codes "x")))) (jml.ForallIn OverInt (jml.And (jml.LessOrEqual (jml.IntegerLiteral (pos 0)) (jml.BoundVariable 0 sorts.Int)) (jml.Less (jml.BoundVariable 0 sorts.Int) (jml.LengthOf (jml.Argument 3)))) (jml.Greater (jml.ElementAccess (jml.Argument 3) (jml.BoundVariable 0 sorts.Int)) (jml.Argument 0)))
  -- `(\exists A q; q.n == o)`
  pub some_object : StandsFor (Quantified 0 quantifiers.Exists (Java (written 9 (NamedType (codes "A")))) (ident 11 (codes "q")) (Infix 14 operators.Equal (Field 14 (Name 14 (codes "q")) (ident 16 (codes "n"))) (Name 21 (codes "o")))) (jml.Exists (OverReference (OfClass 10)) (jml.Equal (jml.FieldAccess (jml.BoundVariable 0 sorts.Ref) 1) (jml.Argument 2)))
  -- `(\forall \bigint i; (\exists boolean c; c || i > x))`
  pub two_binders : StandsFor (Quantified 0 quantifiers.ForAll BigInt (ident 17 (codes "i")) (Quantified 20 quantifiers.Exists (Java (written 29 BooleanType)) (ident 37 (codes "c")) (Infix 40 operators.OrElse (Name 40 (codes "c")) (Infix 45 operators.Greater (Name 45 (codes "i")) (Name 49 (codes "x")))))) (jml.Forall OverBigint (jml.Exists OverBoolean (jml.Or (jml.BoundVariable 0 sorts.Bool) (jml.Greater (jml.BoundVariable 1 sorts.Int) (jml.Argument 0)))))
  -- `(\forall int x; (\forall int x; x > 0))`
  pub inner_hides : StandsFor (Quantified 0 quantifiers.ForAll (Java (written 9 IntType)) (ident 13 (codes "x")) (Quantified 16 quantifiers.ForAll (Java (written 25 IntType)) (ident 29 (codes "x")) (Infix 32 operators.Greater (Name 32 (codes "x")) (Integer 36 (pos 0))))) (jml.Forall OverInt (jml.Forall OverInt (jml.Greater (jml.BoundVariable 0 sorts.Int) (jml.IntegerLiteral (pos 0)))))
  -- `(\sum int i; x <= i && i < 9; a[i])`
  pub sum : StandsFor (Sum 0 (ident 10 (codes "i")) (Name 13 (codes "x")) (Integer 27 (pos 9)) (Index 30 (Name 30 (codes "a")) (Name 32 (codes "i")))) (jml.Sum (jml.Argument 0) (jml.IntegerLiteral (pos 9)) (jml.ElementAccess (jml.Argument 3) (jml.BoundVariable 0 sorts.Int)))
  -- `(\forall boolean c; c == p)`
  pub bound_truth_compared : StandsFor (Quantified 0 quantifiers.ForAll (Java (written 9 BooleanType)) (ident 17 (codes "c")) (Infix 20 operators.Equal (Name 20 (codes "c")) (Name 25 (codes "p")))) (jml.Forall OverBoolean (jml.Equivalent (jml.BoundVariable 0 sorts.Bool) (jml.Argument 1)))
  -- `\everything`
  pub every_location : IsOf (Everything 0) (jml.Everything)
  -- `\nothing`
  pub no_location : IsOf (Nothing 0) (jml.Nothing)
  -- `f`
  pub own_location : IsOf (OwnField 0 (codes "f")) (jml.FieldLocation jml.This 0)
  -- `o.n`
  pub location_of_another : IsOf (FieldOf 0 (Name 0 (codes "o")) (ident 2 (codes "n"))) (jml.FieldLocation (jml.Argument 2) 1)
  -- `o.*`
  pub all_fields : IsOf (AllFields 0 (Name 0 (codes "o"))) (jml.AllFields (jml.Argument 2))
  -- `a[x]`
  pub one_element : IsOf (Element 0 (Name 0 (codes "a")) (Name 2 (codes "x"))) (jml.Element (jml.Argument 3) (jml.Argument 0))
  -- `a[0..x]`
  pub elements : IsOf (Range 0 (Name 0 (codes "a")) (Integer 2 (pos 0)) (Name 5 (codes "x"))) (jml.Elements (jml.Argument 3) (jml.IntegerLiteral (pos 0)) (jml.Argument 0))
  -- `a[*]`
  pub all_elements : IsOf (AllElements 0 (Name 0 (codes "a"))) (jml.AllElements (jml.Argument 3))
