-- What JML says, on heaps and values (JML Reference Manual, 12; The KeY Book, 8.1). Integers are unbounded. "Some" and "or" are said by
-- their denial, so that each meaning is stable.
use Rattle.std.specs.Prelude.{◌≡◌, ℕ, Bool, true, false, ℤ, pos, neg_ℤ, int_lt, int_le, List, [], ◌∷◌}
use Rattle.jd_syntax.specs.Names.{Name}
use Rattle.jd_heap.specs.References.{Reference, Null, Field, Named, Created, Index}
use Rattle.jd_heap.specs.Heaps.{Heap, is_created, select_int, length_of}
use Rattle.jd_heap.specs.Values.{Value, IntValue, BoolValue, RefValue, as_int, as_ref, select_at}
use Rattle.jd_model.specs.States.{read, empty_state, with_heap}
use Rattle.jd_model.specs.Programs.{Program, field_sort, is_instance}
use Rattle.jd_model.specs.TermValues.{arithmetic, bound_at, sum_range}
use Rattle.jd_model.specs.WellFormedHeaps.{in_int}
use Rattle.jd_model.specs.Truth.{EitherOf}
use Rattle.jd_jml_meaning.specs.Resolved.{QuantifiedType, OverInt, OverBigint, OverBoolean, OverReference, JmlExpr, IntegerLiteral, BooleanLiteral, NullLiteral, This, Result, Thrown, Argument, Local, BoundVariable, FieldAccess, ElementAccess, LengthOf, Arithmetic, Minus, Plus, Sum, Cast, Old, Equal, Unequal, Less, LessOrEqual, Greater, GreaterOrEqual, Not, And, Or, Implies, Equivalent, Inequivalent, Conditional, InstanceOf, Fresh, InvariantFor, Forall, Exists, ForallIn, ExistsIn, JmlLocation, Nothing, Everything, FieldLocation, AllFields, Element, Elements, AllElements}

-- now, or before the method ran
pub data When : Type 0 where
  Now Before : When

-- what an expression speaks of
pub record World : Type 0 where
  pub heap : When → Heap
  pub argument : When → ℕ → Value
  pub local : Name → Value
  pub this : Reference
  pub result : Value
  pub thrown : Reference

-- an invariant's world: one heap, and the object; no variable has a value besides the heap's
abbrev pub world_at : Heap → Reference → World
world_at h o = record {
  heap = λ t. h;
  argument = λ t k. IntValue (pos 0);
  local = read (with_heap empty_state h);
  this = o;
  result = IntValue (pos 0);
  thrown = Null;
}

abbrev pub IndexIn : ℤ → ℤ → Field → Type 0
IndexIn x y (Named f) = ⊥
IndexIn x y Created = ⊥
IndexIn x y (Index k) = (int_le x k ≡ true) × (int_le k y ≡ true)

abbrev pub IsIndex : Field → Type 0
IsIndex (Named f) = ⊥
IsIndex Created = ⊥
IsIndex (Index k) = Unit {0}

module _ (p : Program) where
  -- each value of the type, objects where they are created in the heap
  abbrev pub Each : QuantifiedType → Heap → (Value → Type 0) → Type 0
  Each OverInt h P = (z : ℤ) → in_int z ≡ true → P (IntValue z)
  Each OverBigint h P = (z : ℤ) → P (IntValue z)
  Each OverBoolean h P = (x : Bool) → P (BoolValue x)
  Each (OverReference k) h P = (r : Reference) → is_instance p k r ≡ true → is_created h r ≡ true → P (RefValue r)

  module _ (w : World) where
    -- the value of an expression; a truth value only where it is a name's, a field's or a literal
    abbrev pub meant : When → List Value → JmlExpr → Value
    meant t b (IntegerLiteral z) = IntValue z
    meant t b (BooleanLiteral x) = BoolValue x
    meant t b NullLiteral = RefValue Null
    meant t b This = RefValue w.this
    meant t b Result = w.result
    meant t b Thrown = RefValue w.thrown
    meant t b (Argument k) = w.argument t k
    meant t b (Local x) = w.local x
    meant t b (BoundVariable k s) = bound_at b k s
    meant t b (FieldAccess e f) = select_at (field_sort p f) (w.heap t) (as_ref (meant t b e)) (Named f)
    meant t b (ElementAccess a e) = IntValue (select_int (w.heap t) (as_ref (meant t b a)) (Index (as_int (meant t b e))))
    meant t b (LengthOf a) = IntValue (length_of (as_ref (meant t b a)))
    meant t b (Arithmetic op x y) = IntValue (arithmetic op (as_int (meant t b x)) (as_int (meant t b y)))
    meant t b (Minus e) = IntValue (neg_ℤ (as_int (meant t b e)))
    meant t b (Plus e) = meant t b e
    meant t b (Sum x y e) = IntValue (sum_range (as_int (meant t b x)) (as_int (meant t b y)) (λ z. as_int (meant t (IntValue z ∷ b) e)))
    meant t b (Cast e) = meant t b e
    meant t b (Old e) = meant Before b e
    meant t b e = BoolValue false

    module _ (inv : Heap → Reference → Type 0) where
      abbrev pub Holds : When → List Value → JmlExpr → Type 0
      Holds t b (BooleanLiteral true) = Unit {0}
      Holds t b (BooleanLiteral false) = ⊥
      Holds t b (Cast e) = Holds t b e
      Holds t b (Old e) = Holds Before b e
      Holds t b (Equal x y) = meant t b x ≡ meant t b y
      Holds t b (Unequal x y) = ¬ (meant t b x ≡ meant t b y)
      Holds t b (Less x y) = int_lt (as_int (meant t b x)) (as_int (meant t b y)) ≡ true
      Holds t b (LessOrEqual x y) = int_le (as_int (meant t b x)) (as_int (meant t b y)) ≡ true
      Holds t b (Greater x y) = int_lt (as_int (meant t b y)) (as_int (meant t b x)) ≡ true
      Holds t b (GreaterOrEqual x y) = int_le (as_int (meant t b y)) (as_int (meant t b x)) ≡ true
      Holds t b (Not e) = ¬ (Holds t b e)
      Holds t b (And x y) = Holds t b x × Holds t b y
      Holds t b (Or x y) = EitherOf (Holds t b x) (Holds t b y)
      Holds t b (Implies x y) = Holds t b x → Holds t b y
      Holds t b (Equivalent x y) = (Holds t b x → Holds t b y) × (Holds t b y → Holds t b x)
      Holds t b (Inequivalent x y) = ¬ ((Holds t b x → Holds t b y) × (Holds t b y → Holds t b x))
      Holds t b (Conditional c x y) = (Holds t b c → Holds t b x) × (¬ (Holds t b c) → Holds t b y)
      Holds t b (InstanceOf k e) = is_instance p k (as_ref (meant t b e)) ≡ true
      Holds t b (Fresh e) = ¬ (meant t b e ≡ RefValue Null) × ¬ (is_created (w.heap Before) (as_ref (meant t b e)) ≡ true)
      Holds t b (InvariantFor e) = inv (w.heap t) (as_ref (meant t b e))
      Holds t b (Forall k e) = Each k (w.heap t) (λ v. Holds t (v ∷ b) e)
      Holds t b (ForallIn k r e) = Each k (w.heap t) (λ v. Holds t (v ∷ b) r → Holds t (v ∷ b) e)
      Holds t b (Exists k e) = ¬ (Each k (w.heap t) (λ v. ¬ (Holds t (v ∷ b) e)))
      Holds t b (ExistsIn k r e) = ¬ (Each k (w.heap t) (λ v. ¬ (Holds t (v ∷ b) r × Holds t (v ∷ b) e)))
      Holds t b e = meant t b e ≡ BoolValue true

    -- a field of an object is among the locations
    abbrev pub Among : When → List Value → JmlLocation → Reference → Field → Type 0
    Among t b Nothing o f = ⊥
    Among t b Everything o f = Unit {0}
    Among t b (FieldLocation e q) o f = (o ≡ as_ref (meant t b e)) × (f ≡ Named q)
    Among t b (AllFields e) o f = o ≡ as_ref (meant t b e)
    Among t b (Element a e) o f = (o ≡ as_ref (meant t b a)) × (f ≡ Index (as_int (meant t b e)))
    Among t b (Elements a x y) o f = (o ≡ as_ref (meant t b a)) × IndexIn (as_int (meant t b x)) (as_int (meant t b y)) f
    Among t b (AllElements a) o f = (o ≡ as_ref (meant t b a)) × IsIndex f

    abbrev pub AmongAll : When → List Value → List JmlLocation → Reference → Field → Type 0
    AmongAll t b [] o f = ⊥
    AmongAll t b (l ∷ ls) o f = EitherOf (Among t b l o f) (AmongAll t b ls o f)
