-- Small examples of how statements and calls end, each with the section of the Java Language Specification (SE 8) that asks for it.
use Rattle.std.specs.Prelude.{◌≡◌, ◌≤◌, ◌<◌, ℕ, zero, suc, true, false, ◌∷◌, [], pos, Option, Some, None, List, nat_eq, codes}
use Rattle.jd_base.specs.declared.sort.Sort.TheVariants.{Int as IntSort, Ref as RefSort}
use Rattle.jd_syntax.specs.Names.{Name}
use Rattle.jd_syntax.specs.declared.code.BinaryOp.TheVariants as binary_ops
use Rattle.jd_syntax.specs.Codes.{OfClass, Expr, BoolLiteral, Variable, Binary, InstanceOf, VirtualCall, StaticCall, Exprs, NoExprs, Set, While, Block, Break, Catch, Finally, Return, Stop, PlainCode, Done, Then}
use Rattle.jd_heap.specs.References.{Reference, Null, Object, is_null}
use Rattle.jd_heap.specs.Values.{Value, IntValue, BoolValue, RefValue}
use Rattle.jd_model.specs.States.{State, read, write}
use Rattle.jd_model.specs.Programs.{IntType, Body, Program, class_of}
use Rattle.jd_model.specs.Outcomes.{Normal, Broke, Returned, Thrown, Stopped, NotEnded}
use Rattle.jd_model.specs.Runs.{Runner, eval, evals, step, exec, exec_at, runner}
use Rattle.jd_model.specs.Examples.{i, object, number, only, one_by_zero, ThrowsNew, Gives}

-- ---- `finally` and `catch`

-- a `return` in `finally` takes the place of a pending exception (JLS 14.20.2)
abbrev pub ReturnReplacesException : Type 0
ReturnReplacesException =
    (p : Program) (run : Runner p) (n z : ℕ) (c d : PlainCode) (s t : State) (r : Reference) →
    exec p run n c s ≡ Thrown r t →
    step p run n (Finally c (Then (Return (number z)) d)) s ≡ Returned (Some (IntValue (pos z))) t

-- a method whose body is `try { i = 1 / 0; } finally { return 7; }` gives 7, in each program that has it
abbrev pub returns_anyway : Body
returns_anyway = record { receiver = None; parameters = []; result = IntSort; code = only (Finally (only (Set i one_by_zero)) (only (Return (number 7)))) }

abbrev pub MethodReturnsAnyway : Type 0
MethodReturnsAnyway =
    (p : Program) (d n m : ℕ) (s : State) →
    p.body m ≡ Some returns_anyway →
    Gives (eval p (runner p (suc d) n) n (StaticCall m NoExprs) s) (IntValue (pos 7))

-- where `finally` ends normally the pending exception goes on, in the state after it (JLS 14.20.2)
abbrev pub ExceptionGoesOn : Type 0
ExceptionGoesOn =
    (p : Program) (run : Runner p) (n : ℕ) (c d : PlainCode) (s t u : State) (r : Reference) →
    exec p run n c s ≡ Thrown r t → exec p run n d t ≡ Normal tt u →
    step p run n (Finally c d) s ≡ Thrown r u

-- an exception in `finally` takes the place of a pending `return` (JLS 14.20.2)
abbrev pub ExceptionReplacesReturn : Type 0
ExceptionReplacesReturn =
    (p : Program) (run : Runner p) (n : ℕ) (c d : PlainCode) (s t u : State) (v : Option Value) (r : Reference) →
    exec p run n c s ≡ Returned v t → exec p run n d t ≡ Thrown r u →
    step p run n (Finally c d) s ≡ Thrown r u

-- `try { return i; } finally { i = 5; }` returns the i from before (JLS 14.17, 14.20.2)
abbrev pub ReturnedValueStays : Type 0
ReturnedValueStays =
    (p : Program) (run : Runner p) (n : ℕ) (s : State) →
    step p run n (Finally (only (Return (Variable i))) (only (Set i (number 5)))) s ≡ Returned (Some (read s i)) (write s i (IntValue (pos 5)))

-- a handler takes what is thrown, and the code ends as it ends; other ends pass it (JLS 14.20.1)
abbrev pub HandlerRuns : Type 0
HandlerRuns =
    (p : Program) (run : Runner p) (n z : ℕ) (c : PlainCode) (s t : State) (r : Reference) →
    exec p run n c s ≡ Thrown r t →
    step p run n (Catch c object (only (Set i (number z)))) s ≡ Normal tt (write (write t object (RefValue r)) i (IntValue (pos z)))

abbrev pub ReturnPassesHandler : Type 0
ReturnPassesHandler =
    (p : Program) (run : Runner p) (n z : ℕ) (c d : PlainCode) (x : Name) (s : State) →
    step p run n (Catch (Then (Return (number z)) c) x d) s ≡ Returned (Some (IntValue (pos z))) s

-- `stop` ends the run: no `finally` and no handler runs
abbrev pub StopPasses : Type 0
StopPasses =
    (p : Program) (run : Runner p) (n : ℕ) (c d : PlainCode) (x : Name) (s : State) →
    (step p run n (Finally (Then Stop c) d) s ≡ Stopped s) × (step p run n (Catch (Then Stop c) x d) s ≡ Stopped s)

-- ---- `break`

-- `l: { try { break l; c } finally { x = z; } d }` runs the `finally` alone, and ends normally (JLS 14.15)
abbrev pub BreakThroughFinally : Type 0
BreakThroughFinally =
    (p : Program) (run : Runner p) (n l z : ℕ) (c d : PlainCode) (x : Name) (s : State) →
    step p run n (Block l (Then (Finally (Then (Break l) c) (only (Set x (number z)))) d)) s ≡ Normal tt (write s x (IntValue (pos z)))

-- a `break` to another label goes on outwards (JLS 14.15)
abbrev pub BreakToOther : Type 0
BreakToOther =
    (p : Program) (run : Runner p) (n k l : ℕ) (d : PlainCode) (s : State) →
    nat_eq k l ≡ false →
    step p run n (Block l (Then (Break k) d)) s ≡ Broke k s

-- ---- loops

-- `while (i < k) { i = i + 1; }`
abbrev pub count_to : ℕ → PlainCode
count_to k = only (While 0 (Binary binary_ops.Less (Variable i) (number k)) (only (Set i (Binary binary_ops.Add (Variable i) (number 1)))))

-- from 0 it has not ended with fewer than k turns, and has ended at k with that many or more (JLS 14.12)
abbrev pub LoopCounts : Type 0
LoopCounts =
    (p : Program) (d k m : ℕ) (s : State) →
    k ≤ 2147483647 →
    (m < k → exec_at p d m (count_to k) (write s i (IntValue (pos 0))) ≡ NotEnded) × (k ≤ m → exec_at p d m (count_to k) (write s i (IntValue (pos 0))) ≡ Normal tt (write s i (IntValue (pos k))))

-- `while (true) { }` has not ended with any number of turns (JLS 14.12)
abbrev pub EndlessLoop : Type 0
EndlessLoop = (p : Program) (d n : ℕ) (s : State) → exec_at p d n (only (While 0 (BoolLiteral true) Done)) s ≡ NotEnded

-- and a `break` ends it in its first turn (JLS 14.15)
abbrev pub LoopIsLeft : Type 0
LoopIsLeft =
    (p : Program) (d n l : ℕ) (s : State) →
    exec_at p d (suc n) (only (Block l (only (While 0 (BoolLiteral true) (only (Break l)))))) s ≡ Normal tt s

-- ---- calls

-- a call runs the method that the class of the object has, whatever class k the call names (JLS 15.12.4.4)
abbrev pub RunTimeClass : Type 0
RunTimeClass =
    (p : Program) (run : Runner p) (n k m j : ℕ) (a : Expr) (bs : Exprs) (r : Reference) (vs : List Value) (s t u : State) →
    eval p run n a s ≡ Normal (RefValue r) t → is_null r ≡ false → evals p run n bs t ≡ Normal vs u → p.lookup (class_of p r) m ≡ Some j →
    eval p run n (VirtualCall k m a bs) s ≡ run j r vs u

-- a call on null throws a new NullPointerException, after its arguments, at every depth (JLS 15.12.4.4)
abbrev pub CallOnNull : Type 0
CallOnNull =
    (p : Program) (d n k m : ℕ) (a : Expr) (bs : Exprs) (vs : List Value) (s t u : State) →
    eval p (runner p d n) n a s ≡ Normal (RefValue Null) t → evals p (runner p d n) n bs t ≡ Normal vs u →
    ThrowsNew p.null_pointer u (eval p (runner p d n) n (VirtualCall k m a bs) s)

-- what an argument throws leaves before null is tested (JLS 15.12.4.2)
abbrev pub ArgumentBeforeNull : Type 0
ArgumentBeforeNull =
    (p : Program) (run : Runner p) (n k m : ℕ) (a : Expr) (bs : Exprs) (v : Value) (r : Reference) (s t u : State) →
    eval p run n a s ≡ Normal v t → evals p run n bs t ≡ Thrown r u →
    eval p run n (VirtualCall k m a bs) s ≡ Thrown r u

-- at depth 0 no call on an object has ended
abbrev pub CallAtDepthZero : Type 0
CallAtDepthZero =
    (p : Program) (n k m : ℕ) (a : Expr) (bs : Exprs) (r : Reference) (vs : List Value) (s t u : State) →
    eval p (runner p 0 n) n a s ≡ Normal (RefValue r) t → is_null r ≡ false → evals p (runner p 0 n) n bs t ≡ Normal vs u →
    eval p (runner p 0 n) n (VirtualCall k m a bs) s ≡ NotEnded

-- a call of a method that the object's class does not have ends at no depth; the types of Java refuse such a call
abbrev pub NoSuchMethod : Type 0
NoSuchMethod =
    (p : Program) (d n k m : ℕ) (a : Expr) (bs : Exprs) (r : Reference) (vs : List Value) (s t u : State) →
    eval p (runner p d n) n a s ≡ Normal (RefValue r) t → is_null r ≡ false → evals p (runner p d n) n bs t ≡ Normal vs u → p.lookup (class_of p r) m ≡ None →
    eval p (runner p d n) n (VirtualCall k m a bs) s ≡ NotEnded

-- a method that calls itself first ends at no depth
abbrev pub EndlessRecursion : Type 0
EndlessRecursion =
    (p : Program) (d n m : ℕ) (s : State) →
    p.body m ≡ Some (record { receiver = None; parameters = []; result = IntSort; code = only (Return (StaticCall m NoExprs)) }) →
    eval p (runner p d n) n (StaticCall m NoExprs) s ≡ NotEnded

-- ---- a program with two classes
-- class Animal { int legs() { return 4; } int feet() { return this.legs() + 10; } }
-- class Bird extends Animal { int legs() { return 2; } }
-- Object is 0, Animal 1, Bird 2; Throwable and what the machine throws are 3 to 8; the methods are `legs`, 0, and `feet`, 1.

abbrev pub this : Name
this = record { text = codes "this"; sort = RefSort }

abbrev pub body_of : Expr → Body
body_of a = record { receiver = Some this; parameters = []; result = IntSort; code = only (Return a) }

abbrev pub animal_superclasses : ℕ → List ℕ
animal_superclasses zero = 0 ∷ []
animal_superclasses (suc zero) = 0 ∷ 1 ∷ []
animal_superclasses (suc (suc zero)) = 0 ∷ 1 ∷ 2 ∷ []
animal_superclasses (suc (suc (suc zero))) = 0 ∷ 3 ∷ []
animal_superclasses c = 0 ∷ 3 ∷ c ∷ []

-- the bodies are those of Animal.legs, 0, Bird.legs, 1, and Animal.feet, 2
abbrev pub animal_lookup : ℕ → ℕ → Option ℕ
animal_lookup (suc zero) zero = Some 0
animal_lookup (suc (suc zero)) zero = Some 1
animal_lookup (suc zero) (suc zero) = Some 2
animal_lookup (suc (suc zero)) (suc zero) = Some 2
animal_lookup c m = None

abbrev pub animal_body : ℕ → Option Body
animal_body zero = Some (body_of (number 4))
animal_body (suc zero) = Some (body_of (number 2))
animal_body (suc (suc zero)) = Some (body_of (Binary binary_ops.Add (VirtualCall 1 0 (Variable this) NoExprs) (number 10)))
animal_body m = None

abbrev pub animals : Program
animals = record {
  superclasses = animal_superclasses;
  object = 0;
  throwable = 3;
  null_pointer = 4;
  arithmetic = 5;
  bounds = 6;
  cast = 7;
  negative_size = 8;
  field_type = λ f. IntType;
  has_field = λ c f. false;
  lookup = animal_lookup;
  body = animal_body;
}

-- in a run of this program the call `object.m()` of a method of Animal gives the number and changes nothing
abbrev pub CallGives : ℕ → ℕ → State → ℕ → Type 0
CallGives d m s z = (n : ℕ) → eval animals (runner animals d n) n (VirtualCall 1 m (Variable object) NoExprs) s ≡ Normal (IntValue (pos z)) s

-- `object.legs()` is 4 for an Animal and 2 for a Bird, from depth 1 on (JLS 15.12.4.4)
abbrev pub LegsOfAnimal : Type 0
LegsOfAnimal = (d k : ℕ) (s : State) → read s object ≡ RefValue (Object 1 k) → CallGives (suc d) 0 s 4

abbrev pub LegsOfBird : Type 0
LegsOfBird = (d k : ℕ) (s : State) → read s object ≡ RefValue (Object 2 k) → CallGives (suc d) 0 s 2

-- `object.feet()` runs the inherited body, whose call runs the `legs` of a Bird: 12, from depth 2 on (JLS 8.4.8, 15.12.4.4)
abbrev pub FeetOfBird : Type 0
FeetOfBird = (d k : ℕ) (s : State) → read s object ≡ RefValue (Object 2 k) → CallGives (suc (suc d)) 1 s 12

-- at depth 1 it has not ended
abbrev pub FeetNeedDepth : Type 0
FeetNeedDepth =
    (n k : ℕ) (s : State) →
    read s object ≡ RefValue (Object 2 k) →
    eval animals (runner animals 1 n) n (VirtualCall 1 1 (Variable object) NoExprs) s ≡ NotEnded

-- a Bird is an instance of Animal, an Animal none of Bird (JLS 15.20.2)
abbrev pub BirdIsAnimal : Type 0
BirdIsAnimal =
    (run : Runner animals) (n k : ℕ) (s : State) →
    read s object ≡ RefValue (Object 2 k) →
    eval animals run n (InstanceOf (OfClass 1) (Variable object)) s ≡ Normal (BoolValue true) s

abbrev pub AnimalIsNoBird : Type 0
AnimalIsNoBird =
    (run : Runner animals) (n k : ℕ) (s : State) →
    read s object ≡ RefValue (Object 1 k) →
    eval animals run n (InstanceOf (OfClass 2) (Variable object)) s ≡ Normal (BoolValue false) s
