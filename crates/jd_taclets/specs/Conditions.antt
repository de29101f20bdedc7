-- The conditions of a row on what its variables stand for, and what they say in a program. There are three classes:
-- - those of the row's `if`: where one fails, a step of the row has no instance;
-- - what fixes a computed part: the row has a variable for it, and the condition says what it stands for. Such variables are the folded
--   number in `foldAdd`, the truth value in `foldLt` and `instExact`, the default in `selCreateDefault` and `frameEmpty`, the class
--   and the typing in `wfStore`, the invariants in `invExact`, and the sort of a field in `setGet`;
-- - what holds of each place of a sorted and closed sequent, so that no step needs to test it: which sort the index has that a quantifier
--   binds, that a select has a sort that entries have, and that a whole formula's body has no other free index.
use Rattle.std.specs.Prelude.{◌≡◌, ◌≢◌, ◌&&◌, ℕ, ℤ, pos, neg_ℤ, Bool, true, false, cond, nat_eq, int_lt, int_le, List, [], ◌∷◌, ◌++◌, ◌^◌}
use Rattle.jd_base.specs.declared.sort.Sort.{Sort}
use Rattle.jd_base.specs.declared.sort.Sort.TheVariants.{Int as IntSort, Bool as BoolSort, Heap as HeapSort}
use Rattle.jd_syntax.specs.CodeNames.{same_name, heap_name}
use Rattle.jd_syntax.specs.Codes.{PlainKind, OfClass, IntArray, Expr, IntLiteral, BoolLiteral, NullLiteral}
use Rattle.jd_term.specs.declared.term.ArithmeticOp.{ArithmeticOp}
use Rattle.jd_term.specs.Terms.{PlainTerm, sort_of_term, Number, Boolean, NullTerm, ProgramVariable, Constant, NamedField, CreatedField, ElementField}
use Rattle.jd_term.specs.Formulas.{PlainFormula, TrueFormula, FalseFormula, And, Or, Equal, InInt, IsInstance}
use Rattle.jd_term.specs.Renamings.{Renaming}
use Rattle.jd_term.specs.Substitutions.{SortsAgree, TermSortsAgree}
use Rattle.jd_heap.specs.HeapLaws.{IsEntrySort}
use Rattle.jd_model.specs.SpecialNames.{receiver}
use Rattle.jd_model.specs.Programs.{Program, ValueType, IntType, BooleanType, ReferenceType, field_sort, is_subclass}
use Rattle.jd_model.specs.Runs.{wrap32}
use Rattle.jd_model.specs.TermValues.{arithmetic}
use Rattle.jd_model.specs.Truth.{Setting}
use Rattle.jd_model.specs.Closed.{BelowIn}
use Rattle.jd_model.specs.Conjunctions.{conjunction, created_at}
use Rattle.jd_model.specs.Renamings.{rename_all}
use Rattle.jd_model.specs.Substitutions.{Steady}
use Rattle.jd_patterns.specs.Patterns.{SchemaVar, SortPattern}
use Rattle.jd_patterns.specs.Instances.{Instance, of_sort}

-- ---- computed numbers

-- a number that is computed of those that variables stand for
pub data Calculation : Type 0 where
  NumberOf : SchemaVar → Calculation
  Numeral : ℤ → Calculation
  Operation : ArithmeticOp → Calculation → Calculation → Calculation
  NegationOf WrapOf : Calculation → Calculation

pub data NumberTest : Type 0 where
  IsLess IsLessOrEqual IsEqual : NumberTest

module _ (σ : Instance) where
  abbrev pub calculated : Calculation → ℤ
  calculated (NumberOf n) = σ.literal n
  calculated (Numeral z) = z
  calculated (Operation op a c) = arithmetic op (calculated a) (calculated c)
  calculated (NegationOf a) = neg_ℤ (calculated a)
  calculated (WrapOf a) = wrap32 (calculated a)

abbrev pub passes : NumberTest → ℤ → ℤ → Bool
passes IsLess x y = int_lt x y
passes IsLessOrEqual x y = int_le x y
passes IsEqual x y = int_le x y && int_le y x

-- literals have 128 signed bits: what does not fit is folded by no step
abbrev pub fits_literal : ℤ → Bool
fits_literal z = int_le (neg_ℤ (pos (2 ^ 127))) z && int_lt z (pos (2 ^ 127))

-- the formula of a truth value
abbrev pub truth_formula : Bool → PlainFormula
truth_formula true = TrueFormula
truth_formula false = FalseFormula

-- ---- fields and kinds

-- `C.f` or `(idx i)`
abbrev pub is_named_field : PlainTerm → Bool
is_named_field (NamedField f) = true
is_named_field (ElementField t) = true
is_named_field t = false

-- both are of the forms of fields, and of different forms or different names
abbrev pub are_apart : PlainTerm → PlainTerm → Bool
are_apart (NamedField f) (NamedField e) = cond (nat_eq f e) false true
are_apart (NamedField f) CreatedField = true
are_apart (NamedField f) (ElementField t) = true
are_apart CreatedField (NamedField e) = true
are_apart CreatedField (ElementField t) = true
are_apart (ElementField t) (NamedField e) = true
are_apart (ElementField t) CreatedField = true
are_apart f e = false

-- a class is the other or stands below it; arrays stand below Object alone (JLS 4.10.2 and 4.10.3)
abbrev pub is_below : Program → PlainKind → PlainKind → Bool
is_below p (OfClass d) (OfClass c) = is_subclass p d c
is_below p IntArray (OfClass c) = nat_eq c p.object
is_below p IntArray IntArray = true
is_below p (OfClass d) IntArray = false

-- an entry's default, as a term and as code (JLS 4.12.5)
abbrev pub default_term : Sort → PlainTerm
default_term IntSort = Number (pos 0)
default_term BoolSort = Boolean false
default_term s = NullTerm

abbrev pub default_expr : Sort → Expr
default_expr IntSort = IntLiteral (pos 0)
default_expr BoolSort = BoolLiteral false
default_expr s = NullLiteral

-- what a well-formed heap says of a value of a type: in range; nothing; null, or a created instance
abbrev pub typing : ValueType → PlainTerm → PlainTerm → PlainFormula
typing IntType h t = InInt t
typing BooleanType h t = TrueFormula
typing (ReferenceType k) h t = Or (Equal t NullTerm) (And (IsInstance k t) (created_at h t))

-- the invariants of a class and of those above it, topmost first, in a heap and for an object; arrays have none
abbrev pub at_heap : PlainTerm → PlainTerm → Renaming
at_heap h o = record {
  con = λ x. cond (same_name x receiver) o (Constant x);
  var = λ x. cond (same_name x heap_name) h (ProgramVariable x);
}

abbrev pub invariants_of : Setting → List ℕ → List PlainFormula
invariants_of g [] = []
invariants_of g (c ∷ cs) = g.invariants c ++ invariants_of g cs

abbrev pub invariant_at : Setting → PlainKind → PlainTerm → PlainTerm → PlainFormula
invariant_at g (OfClass c) h o = conjunction (rename_all (at_heap h o) (invariants_of g (g.program.superclasses c)))
invariant_at g IntArray h o = TrueFormula

-- ---- conditions, by the names of the variables

pub data Condition : Type 0 where
  -- of an `if`: steady(t, A), named(f), apart(f, e), a number from 0 on, the sort of a term
  SteadyIn : SchemaVar → SchemaVar → Condition
  NamedFieldTerm : SchemaVar → Condition
  FieldsApart : SchemaVar → SchemaVar → Condition
  AtLeastZero : SchemaVar → Condition
  TermHasSort : SchemaVar → SortPattern → Condition
  -- the first kind is the second or stands below it; the kinds differ
  KindBelow KindsDiffer : SchemaVar → SchemaVar → Condition
  -- the term is a named field whose type is the kind; it is a named field whose sort is the second term's
  FieldRefersTo FieldTakes : SchemaVar → SchemaVar → Condition
  -- of computed parts: a number, whether numbers pass a test, whether a kind is below another, a sort's default as a term
  Calculated : SchemaVar → Calculation → Condition
  WhetherNumbers : SchemaVar → NumberTest → Calculation → Calculation → Condition
  WhetherBelow : SchemaVar → SchemaVar → SchemaVar → Condition
  DefaultTerm : SchemaVar → SortPattern → Condition
  -- the default of a variable's sort as code, the sort of a field, the class that declares the field that a term is
  DefaultExpr FieldHasSort DeclaredBy : SchemaVar → SchemaVar → Condition
  -- the typing of a value that is stored to a field: the formula, the field's term, the heap, the value
  TypingOf : SchemaVar → SchemaVar → SchemaVar → SchemaVar → Condition
  -- the invariants of a kind: the formula, the kind, the heap, the object
  InvariantsOf : SchemaVar → SchemaVar → SchemaVar → SchemaVar → Condition
  -- of sorted and closed sequents: the index 0 has in a formula, or in a term, a sort that is bound; a select's sort; no other free index
  IndexSort IndexSortInTerm : SchemaVar → SortPattern → Condition
  EntrySort OnlyIndex : SchemaVar → Condition

-- the sort that an index has where terms may be put for it
abbrev pub IsBoundSort : Sort → Type 0
IsBoundSort HeapSort = ⊥
IsBoundSort s = Unit {0}

module _ (g : Setting) (σ : Instance) where
  abbrev pub Holds : Condition → Type 0
  Holds (SteadyIn t a) = Steady 0 (σ.term t) (σ.formula a)
  Holds (NamedFieldTerm f) = is_named_field (σ.term f) ≡ true
  Holds (FieldsApart f e) = are_apart (σ.term f) (σ.term e) ≡ true
  Holds (AtLeastZero m) = int_le (pos 0) (σ.literal m) ≡ true
  Holds (TermHasSort t s) = sort_of_term (σ.term t) ≡ of_sort g.program σ s
  Holds (KindBelow d c) = is_below g.program (σ.kind d) (σ.kind c) ≡ true
  Holds (KindsDiffer d c) = σ.kind d ≢ σ.kind c
  Holds (FieldRefersTo f d) = (n : ℕ) × (σ.term f ≡ NamedField n) × (g.program.field_type n ≡ ReferenceType (σ.kind d))
  Holds (FieldTakes f s) = (n : ℕ) × (σ.term f ≡ NamedField n) × (sort_of_term (σ.term s) ≡ field_sort g.program n)
  Holds (Calculated k c) = (σ.literal k ≡ calculated σ c) × (fits_literal (calculated σ c) ≡ true)
  Holds (WhetherNumbers k q a c) = σ.formula k ≡ truth_formula (passes q (calculated σ a) (calculated σ c))
  Holds (WhetherBelow k d c) = σ.formula k ≡ truth_formula (is_below g.program (σ.kind d) (σ.kind c))
  Holds (DefaultTerm k s) = σ.term k ≡ default_term (of_sort g.program σ s)
  Holds (DefaultExpr k x) = σ.simple k ≡ default_expr (σ.name x).sort
  Holds (FieldHasSort k f) = σ.sort k ≡ field_sort g.program (σ.field f)
  Holds (DeclaredBy k f) = (n c : ℕ) × (σ.term f ≡ NamedField n) × (σ.kind k ≡ OfClass c) × ((d : ℕ) → g.program.has_field d n ≡ is_subclass g.program d c)
  Holds (TypingOf k f h s) = (n : ℕ) × (σ.term f ≡ NamedField n) × (σ.formula k ≡ typing (g.program.field_type n) (σ.term h) (σ.term s))
  Holds (InvariantsOf k c h o) = σ.formula k ≡ invariant_at g (σ.kind c) (σ.term h) (σ.term o)
  Holds (IndexSort a s) = IsBoundSort (of_sort g.program σ s) × SortsAgree 0 (of_sort g.program σ s) (σ.formula a)
  Holds (IndexSortInTerm t s) = IsBoundSort (of_sort g.program σ s) × TermSortsAgree 0 (of_sort g.program σ s) (σ.term t)
  Holds (EntrySort s) = IsEntrySort (σ.sort s)
  Holds (OnlyIndex a) = BelowIn 1 (σ.formula a)

  abbrev pub AllHold : List Condition → Type 0
  AllHold [] = Unit {0}
  AllHold (c ∷ cs) = Holds c × AllHold cs

-- ---- their classes

pub data ConditionClass : Type 0 where
  OfIf OfComputedPart OfSequent : ConditionClass

abbrev pub class_of : Condition → ConditionClass
class_of (SteadyIn t a) = OfIf
class_of (NamedFieldTerm f) = OfIf
class_of (FieldsApart f e) = OfIf
class_of (AtLeastZero m) = OfIf
class_of (TermHasSort t s) = OfIf
class_of (KindBelow d c) = OfIf
class_of (KindsDiffer d c) = OfIf
class_of (FieldRefersTo f d) = OfIf
class_of (FieldTakes f s) = OfIf
class_of (IndexSort a s) = OfSequent
class_of (IndexSortInTerm t s) = OfSequent
class_of (EntrySort s) = OfSequent
class_of (OnlyIndex a) = OfSequent
class_of c = OfComputedPart
