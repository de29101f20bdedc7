-- Small examples of what code does, each with the section of the Java Language Specification (SE 8) that asks for it.
-- Most hold in every program p, at every depth of calls (whatever `run` does with a call), for every number n of turns and in
-- every state s; a and b are any expressions, c and d any code.
use Rattle.std.specs.Prelude.{◌≡◌, ℕ, true, false, ℤ, pos, negsuc, None, codes}
use Rattle.jd_base.specs.declared.sort.Sort.TheVariants.{Int as IntSort, Ref as RefSort}
use Rattle.jd_syntax.specs.Names.{Name}
use Rattle.jd_syntax.specs.CodeNames.{same_name, heap_name}
use Rattle.jd_syntax.specs.declared.code.UnaryOp.TheVariants as unary_ops
use Rattle.jd_syntax.specs.declared.code.BinaryOp.{BinaryOp}
use Rattle.jd_syntax.specs.declared.code.BinaryOp.TheVariants as binary_ops
use Rattle.jd_syntax.specs.Codes.{PlainKind, OfClass, Expr, IntLiteral, BoolLiteral, NullLiteral, Variable, Unary, Binary, AndAlso, OrElse, Conditional, ReadElement, Cast, InstanceOf, StaticCall, DoThen, Exprs, ExprThen, Stmt, Set, WriteElement, PlainCode, Done, Then}
use Rattle.jd_heap.specs.Codings.{same}
use Rattle.jd_heap.specs.References.{Reference, Null, Array, Field, Index, location, is_null, is_created_field}
use Rattle.jd_heap.specs.ReferenceCodings.{reference_coding}
use Rattle.jd_heap.specs.Heaps.{entry, is_created, select_int, SameAt}
use Rattle.jd_heap.specs.Values.{Value, IntValue, BoolValue, RefValue}
use Rattle.jd_model.specs.States.{State, read, write, heap_of}
use Rattle.jd_model.specs.Programs.{Program, is_instance, is_exactly}
use Rattle.jd_model.specs.Outcomes.{Outcome, Normal, Thrown}
use Rattle.jd_model.specs.Runs.{Runner, eval, step, is_outside}

-- ---- what the examples speak of

abbrev pub i : Name
i = record { text = codes "i"; sort = IntSort }

abbrev pub array : Name
array = record { text = codes "array"; sort = RefSort }

abbrev pub other : Name
other = record { text = codes "other"; sort = RefSort }

abbrev pub object : Name
object = record { text = codes "object"; sort = RefSort }

abbrev pub number : ℕ → Expr
number z = IntLiteral (pos z)

abbrev pub only : Stmt → PlainCode
only c = Then c Done

-- the assignment as an expression: `(i = z)`
abbrev pub assigned : ℕ → Expr
assigned z = DoThen (only (Set i (number z))) (Variable i)

-- from s to t the object r of the class c has come: it was not created, it is now, its fields are default; nothing else has changed
pub record ComesNew (c : ℕ) (s : State) (r : Reference) (t : State) : Type 0 where
  pub class : is_exactly (OfClass c) r ≡ true
  pub new : is_created (heap_of s) r ≡ false
  pub created : is_created (heap_of t) r ≡ true
  pub fields : (f : Field) → is_created_field f ≡ false → entry (heap_of t) (location r f) ≡ None
  pub others : (o : Reference) (f : Field) → same reference_coding o r ≡ false → SameAt (heap_of s) (heap_of t) o f
  pub variables : (x : Name) → same_name x heap_name ≡ false → read t x ≡ read s x

-- the run throws a new object of the class, in a state that differs from s by nothing but this object
abbrev pub ThrowsNew : {A : Type 0} → ℕ → State → Outcome A → Type 0
ThrowsNew c s (Thrown r t) = ComesNew c s r t
ThrowsNew c s o = ⊥

-- the run ends normally with the value
abbrev pub Gives : Outcome Value → Value → Type 0
Gives (Normal v t) w = v ≡ w
Gives o w = ⊥

-- ---- arithmetic on 32 bits

abbrev pub smallest : ℤ
smallest = negsuc 2147483647

abbrev pub largest : ℤ
largest = pos 2147483647

-- the operation on the two numbers gives the third
abbrev pub Computes : BinaryOp → ℤ → ℤ → ℤ → Type 0
Computes op x y z = (p : Program) (run : Runner p) (n : ℕ) (s : State) → eval p run n (Binary op (IntLiteral x) (IntLiteral y)) s ≡ Normal (IntValue z) s

-- MIN / -1 = MIN (JLS 15.17.2)
abbrev pub SmallestByMinusOne : Type 0
SmallestByMinusOne = Computes binary_ops.Divide smallest (negsuc 0) smallest

-- MIN % -1 = 0 (JLS 15.17.3)
abbrev pub SmallestRestMinusOne : Type 0
SmallestRestMinusOne = Computes binary_ops.Remainder smallest (negsuc 0) (pos 0)

-- MAX + 1 = MIN (JLS 15.18.2)
abbrev pub LargestPlusOne : Type 0
LargestPlusOne = Computes binary_ops.Add largest (pos 1) smallest

-- MIN - 1 = MAX (JLS 15.18.2)
abbrev pub SmallestLessOne : Type 0
SmallestLessOne = Computes binary_ops.Subtract smallest (pos 1) largest

-- 65536 * 65536 = 0, and MAX * MAX = 1 (JLS 15.17.1)
abbrev pub ProductsAreCut : Type 0
ProductsAreCut = Computes binary_ops.Multiply (pos 65536) (pos 65536) (pos 0) × Computes binary_ops.Multiply largest largest (pos 1)

-- quotients are rounded toward zero: -7 / 2 = -3, 7 / -2 = -3, -7 / -2 = 3 (JLS 15.17.2)
abbrev pub QuotientsTowardZero : Type 0
QuotientsTowardZero = Computes binary_ops.Divide (negsuc 6) (pos 2) (negsuc 2) × Computes binary_ops.Divide (pos 7) (negsuc 1) (negsuc 2) × Computes binary_ops.Divide (negsuc 6) (negsuc 1) (pos 3)

-- remainders have the sign of the dividend: -7 % 2 = -1, 7 % -2 = 1, -7 % -2 = -1 (JLS 15.17.3)
abbrev pub RemaindersLikeDividend : Type 0
RemaindersLikeDividend = Computes binary_ops.Remainder (negsuc 6) (pos 2) (negsuc 0) × Computes binary_ops.Remainder (pos 7) (negsuc 1) (pos 1) × Computes binary_ops.Remainder (negsuc 6) (negsuc 1) (negsuc 0)

-- -MIN = MIN (JLS 15.15.4)
abbrev pub SmallestNegated : Type 0
SmallestNegated =
    (p : Program) (run : Runner p) (n : ℕ) (s : State) →
    eval p run n (Unary unary_ops.Negate (IntLiteral smallest)) s ≡ Normal (IntValue smallest) s

-- ---- a zero divisor

-- a / b and a % b throw a new ArithmeticException where b is 0 (JLS 15.17.2, 15.17.3)
abbrev pub ZeroDivisor : Type 0
ZeroDivisor =
    (p : Program) (run : Runner p) (n : ℕ) (a b : Expr) (s t u : State) (v : Value) →
    eval p run n a s ≡ Normal v t → eval p run n b t ≡ Normal (IntValue (pos 0)) u →
    ThrowsNew p.arithmetic u (eval p run n (Binary binary_ops.Divide a b) s) × ThrowsNew p.arithmetic u (eval p run n (Binary binary_ops.Remainder a b) s)

-- 1 / 0
abbrev pub one_by_zero : Expr
one_by_zero = Binary binary_ops.Divide (number 1) (number 0)

abbrev pub OneByZero : Type 0
OneByZero = (p : Program) (run : Runner p) (n : ℕ) (s : State) → ThrowsNew p.arithmetic s (eval p run n one_by_zero s)

-- ---- operands from left to right

-- what the left operand throws leaves, whatever the right one is: it is not evaluated (JLS 15.7.1)
abbrev pub LeftThrows : Type 0
LeftThrows =
    (p : Program) (run : Runner p) (n : ℕ) (op : BinaryOp) (a b : Expr) (s t : State) (r : Reference) →
    eval p run n a s ≡ Thrown r t →
    eval p run n (Binary op a b) s ≡ Thrown r t

-- `i = 1 / 0 + b` throws the ArithmeticException, whatever b is, and i is not set (JLS 15.7.1)
abbrev pub LeftThrowsInSum : Type 0
LeftThrowsInSum =
    (p : Program) (run : Runner p) (n : ℕ) (b : Expr) (s : State) →
    ThrowsNew p.arithmetic s (step p run n (Set i (Binary binary_ops.Add one_by_zero b)) s)

-- what the right operand throws leaves before the operation: `1 / b` with a b that throws (JLS 15.7.2)
abbrev pub RightThrows : Type 0
RightThrows =
    (p : Program) (run : Runner p) (n : ℕ) (op : BinaryOp) (a b : Expr) (s t u : State) (v : Value) (r : Reference) →
    eval p run n a s ≡ Normal v t → eval p run n b t ≡ Thrown r u →
    eval p run n (Binary op a b) s ≡ Thrown r u

-- `(i = 3) * i` is 9: the right operand sees what the left one does (JLS 15.7.1)
abbrev pub RightSeesLeft : Type 0
RightSeesLeft =
    (p : Program) (run : Runner p) (n : ℕ) (s : State) →
    eval p run n (Binary binary_ops.Multiply (assigned 3) (Variable i)) s ≡ Normal (IntValue (pos 9)) (write s i (IntValue (pos 3)))

-- `i + (i = 3)` is 12 where i is 9: the value of the left operand stays (JLS 15.7.1)
abbrev pub LeftIsKept : Type 0
LeftIsKept =
    (p : Program) (run : Runner p) (n : ℕ) (s : State) →
    read s i ≡ IntValue (pos 9) →
    eval p run n (Binary binary_ops.Add (Variable i) (assigned 3)) s ≡ Normal (IntValue (pos 12)) (write s i (IntValue (pos 3)))

-- what an argument throws leaves before those to its right are evaluated (JLS 15.7.4)
abbrev pub ArgumentThrows : Type 0
ArgumentThrows =
    (p : Program) (run : Runner p) (n m : ℕ) (a : Expr) (bs : Exprs) (s t : State) (r : Reference) →
    eval p run n a s ≡ Thrown r t →
    eval p run n (StaticCall m (ExprThen a bs)) s ≡ Thrown r t

-- `false && b` is false and `true || b` is true, for every b: it is not evaluated (JLS 15.23, 15.24)
abbrev pub ShortCircuits : Type 0
ShortCircuits =
    (p : Program) (run : Runner p) (n : ℕ) (b : Expr) (s : State) →
    (eval p run n (AndAlso (BoolLiteral false) b) s ≡ Normal (BoolValue false) s) × (eval p run n (OrElse (BoolLiteral true) b) s ≡ Normal (BoolValue true) s)

-- of `t ? a : b` one operand is evaluated (JLS 15.25)
abbrev pub OneIsChosen : Type 0
OneIsChosen =
    (p : Program) (run : Runner p) (n : ℕ) (a b : Expr) (s : State) →
    (eval p run n (Conditional (BoolLiteral true) a b) s ≡ eval p run n a s) × (eval p run n (Conditional (BoolLiteral false) a b) s ≡ eval p run n b s)

-- ---- elements of arrays

-- a[b] with a null: the NullPointerException, whatever the index (JLS 15.10.4)
abbrev pub NullBeforeIndex : Type 0
NullBeforeIndex =
    (p : Program) (run : Runner p) (n : ℕ) (a b : Expr) (s t u : State) (w : Value) →
    eval p run n a s ≡ Normal (RefValue Null) t → eval p run n b t ≡ Normal w u →
    ThrowsNew p.null_pointer u (eval p run n (ReadElement a b) s)

-- but what the index throws leaves before, whatever the array is, null too (JLS 15.10.4)
abbrev pub IndexBeforeNull : Type 0
IndexBeforeNull =
    (p : Program) (run : Runner p) (n : ℕ) (a b : Expr) (s t u : State) (v : Value) (r : Reference) →
    eval p run n a s ≡ Normal v t → eval p run n b t ≡ Thrown r u →
    eval p run n (ReadElement a b) s ≡ Thrown r u

-- `a[b] = e`: what e throws leaves before null and the index are tested (JLS 15.26.1)
abbrev pub ValueBeforeNull : Type 0
ValueBeforeNull =
    (p : Program) (run : Runner p) (n : ℕ) (a b e : Expr) (s t u x : State) (v w : Value) (r : Reference) →
    eval p run n a s ≡ Normal v t → eval p run n b t ≡ Normal w u → eval p run n e u ≡ Thrown r x →
    step p run n (WriteElement a b e) s ≡ Thrown r x

-- an index outside the array (JLS 15.10.4)
abbrev pub OutsideIndex : Type 0
OutsideIndex =
    (p : Program) (run : Runner p) (n l k : ℕ) (a b : Expr) (z : ℤ) (s t u : State) →
    eval p run n a s ≡ Normal (RefValue (Array l k)) t → eval p run n b t ≡ Normal (IntValue z) u → is_outside z (Array l k) ≡ true →
    ThrowsNew p.bounds u (eval p run n (ReadElement a b) s)

-- of two elements: -1 and 2 are outside, 0 and 1 are not (JLS 10.4)
abbrev pub IndexesOfTwo : Type 0
IndexesOfTwo =
    (k : ℕ) →
    (is_outside (negsuc 0) (Array 2 k) ≡ true) × (is_outside (pos 2) (Array 2 k) ≡ true) × (is_outside (pos 0) (Array 2 k) ≡ false) × (is_outside (pos 1) (Array 2 k) ≡ false)

-- `array[1] = 7`, and then `array[1]` is 7 (JLS 15.26.1)
abbrev pub ElementIsWritten : Type 0
ElementIsWritten =
    (p : Program) (run : Runner p) (n k : ℕ) (s : State) →
    read s array ≡ RefValue (Array 2 k) →
    Gives (eval p run n (DoThen (only (WriteElement (Variable array) (number 1) (number 7))) (ReadElement (Variable array) (number 1))) s) (IntValue (pos 7))

-- `array[(array = other)[3]]` is 14 where array[3] is 14 and other[3] is 3: the first `array` is the old one (JLS 15.10.4)
abbrev pub ArrayIsKept : Type 0
ArrayIsKept =
    (p : Program) (run : Runner p) (n k m : ℕ) (s : State) →
    read s array ≡ RefValue (Array 4 k) → read s other ≡ RefValue (Array 4 m) →
    select_int (heap_of s) (Array 4 k) (Index (pos 3)) ≡ pos 14 → select_int (heap_of s) (Array 4 m) (Index (pos 3)) ≡ pos 3 →
    eval p run n (ReadElement (Variable array) (ReadElement (DoThen (only (Set array (Variable other))) (Variable array)) (number 3))) s ≡ Normal (IntValue (pos 14)) (write s array (RefValue (Array 4 m)))

-- ---- casts and `instanceof`

-- null can be cast to each class, and to `int[]` (JLS 5.5.3, 15.16)
abbrev pub NullIsCast : Type 0
NullIsCast = (p : Program) (run : Runner p) (n : ℕ) (k : PlainKind) (s : State) → eval p run n (Cast k NullLiteral) s ≡ Normal (RefValue Null) s

-- null is an instance of nothing (JLS 15.20.2)
abbrev pub NullIsNoInstance : Type 0
NullIsNoInstance =
    (p : Program) (run : Runner p) (n : ℕ) (k : PlainKind) (s : State) →
    eval p run n (InstanceOf k NullLiteral) s ≡ Normal (BoolValue false) s

-- what is no instance throws a new ClassCastException (JLS 5.5.3, 15.16)
abbrev pub WrongCast : Type 0
WrongCast =
    (p : Program) (run : Runner p) (n : ℕ) (k : PlainKind) (a : Expr) (r : Reference) (s t : State) →
    eval p run n a s ≡ Normal (RefValue r) t → is_null r ≡ false → is_instance p k r ≡ false →
    ThrowsNew p.cast t (eval p run n (Cast k a) s)
