-- What a case asks of a state in which a body starts, and of how it ends (JML Reference Manual, 8.2, 9.6 and 9.9; The KeY Book, 8.2).
use Rattle.std.specs.Prelude.{◌≡◌, ℕ, Bool, true, false, cond, ◌||◌, ◌∷◌, [], Option, Some, None, List}
use Rattle.jd_syntax.specs.Names.{Name}
use Rattle.jd_syntax.specs.Codes.{OfClass}
use Rattle.jd_term.specs.Formulas.{PlainFormula}
use Rattle.jd_heap.specs.References.{Reference, Null, Field, Named, Location, location, is_null}
use Rattle.jd_heap.specs.Heaps.{Heap, is_created, SameAt}
use Rattle.jd_heap.specs.Values.{Value, IntValue, BoolValue, RefValue, HeapValue, FieldValue, default, select_at}
use Rattle.jd_model.specs.SpecialNames.{entry_heap, receiver, thrown_variable, result_variable}
use Rattle.jd_model.specs.States.{State, write, empty_state, with_heap}
use Rattle.jd_model.specs.Programs.{IntType, BooleanType, ReferenceType, type_sort, field_sort, is_instance, is_exactly}
use Rattle.jd_model.specs.Runs.{with_values}
use Rattle.jd_model.specs.TermValues.{value, within}
use Rattle.jd_model.specs.WellFormedHeaps.{in_int, IsWellFormed}
use Rattle.jd_model.specs.Truth.{Setting, Truth, InvTruth}
use Rattle.jd_model.specs.Cases.{DeclaredType, Parameter, Role, Static, Ordinary, Helper, ConstructorOf, Behaviour, AnyEnd, NormalOnly, ExceptionalOnly, Contract}

-- what the clauses of a case speak of: the heaps before and after, the receiver, the arguments, the result and what was thrown
pub record Moment : Type 0 where
  pub before : Heap
  pub after : Heap
  pub this : Reference
  pub arguments : List Value
  pub result : Value
  pub thrown : Reference

abbrev pub constants_of : List Parameter → List Name
constants_of [] = []
constants_of (x ∷ xs) = x.constant ∷ constants_of xs

-- the constants' values at the moment
abbrev pub interpretation_of : Contract → Moment → State
interpretation_of c m = with_values (write (write empty_state entry_heap (HeapValue m.before)) receiver (RefValue m.this)) (constants_of c.parameters) m.arguments

abbrev pub with_result : Option DeclaredType → Value → State → State
with_result None v s = s
with_result (Some t) v s = write s (result_variable (type_sort t.type)) v

-- the variables' values at the moment
abbrev pub state_of : Contract → Moment → State
state_of c m = with_result c.result m.result (write (with_heap empty_state m.after) thrown_variable (RefValue m.thrown))

module _ (g : Setting) where
  -- a clause holds; clauses have no modality, so that the depth of calls does not matter
  abbrev pub Holds : Contract → Moment → PlainFormula → Type 0
  Holds c m a = Truth g 0 (interpretation_of c m) (state_of c m) [] a

  abbrev pub AllHold : Contract → Moment → List PlainFormula → Type 0
  AllHold c m [] = Unit {0}
  AllHold c m (a ∷ as') = Holds c m a × AllHold c m as'

  -- a value of a declared type: in 32-bit range, a truth value, a created instance, or null where it is marked `nullable`
  abbrev pub is_of : Heap → DeclaredType → Value → Bool
  is_of h t (IntValue z) = elim t.type [ IntType ↦ in_int z | BooleanType ↦ false | ReferenceType k ↦ false ]
  is_of h t (BoolValue z) = elim t.type [ IntType ↦ false | BooleanType ↦ true | ReferenceType k ↦ false ]
  is_of h t (RefValue r) = elim t.type [ IntType ↦ false | BooleanType ↦ false | ReferenceType k ↦ cond (is_null r) t.nullable (cond (is_instance g.program k r) (is_created h r) false) ]
  is_of h t (HeapValue z) = false
  is_of h t (FieldValue z) = false

  abbrev pub AreOf : Heap → List Parameter → List Value → Type 0
  AreOf h [] [] = Unit {0}
  AreOf h (x ∷ xs) (v ∷ vs) = (is_of h x.declared v ≡ true) × AreOf h xs vs
  AreOf h xs vs = ⊥

  -- the receiver is of this very class, or at a call an instance of it
  abbrev pub is_receiver : Bool → ℕ → Reference → Bool
  is_receiver exactly c r = cond exactly (is_exactly (OfClass c) r) (is_instance g.program (OfClass c) r)

  -- a static method has none
  abbrev pub Receiver : Bool → Role → ℕ → Heap → Reference → Type 0
  Receiver exactly Static c h r = r ≡ Null
  Receiver exactly Ordinary c h r = (is_receiver exactly c r ≡ true) × (is_created h r ≡ true)
  Receiver exactly Helper c h r = (is_receiver exactly c r ≡ true) × (is_created h r ≡ true)
  Receiver exactly (ConstructorOf a) c h r = (is_receiver exactly c r ≡ true) × (is_created h r ≡ true)

  -- the receiver's invariant, unless the method is static, a helper or a constructor
  abbrev pub RoleInvariant : Role → Heap → Reference → Type 0
  RoleInvariant Static h r = Unit {0}
  RoleInvariant Ordinary h r = InvTruth g 0 h r
  RoleInvariant Helper h r = Unit {0}
  RoleInvariant (ConstructorOf a) h r = Unit {0}

  -- a constructor of A starts with the fields of A and of the classes above it default
  abbrev pub RoleFields : Role → Heap → Reference → Type 0
  RoleFields Static h r = Unit {0}
  RoleFields Ordinary h r = Unit {0}
  RoleFields Helper h r = Unit {0}
  RoleFields (ConstructorOf a) h r = (f : ℕ) → g.program.has_field a f ≡ true → select_at (field_sort g.program f) h r (Named f) ≡ default (field_sort g.program f)

  -- and where it ends normally it has established the invariant, if A is the object's class
  abbrev pub RoleEnd : Role → Heap → Reference → Type 0
  RoleEnd Static h r = Unit {0}
  RoleEnd Ordinary h r = InvTruth g 0 h r
  RoleEnd Helper h r = Unit {0}
  RoleEnd (ConstructorOf a) h r = is_exactly (OfClass a) r ≡ true → InvTruth g 0 h r

  abbrev pub entry_moment : Heap → Reference → List Value → Moment
  entry_moment h r vs = record { before = h; after = h; this = r; arguments = vs; result = RefValue Null; thrown = Null }

  abbrev pub normal_moment : Heap → Reference → List Value → Heap → Value → Moment
  normal_moment h r vs k v = record { before = h; after = k; this = r; arguments = vs; result = v; thrown = Null }

  abbrev pub thrown_moment : Heap → Reference → List Value → Heap → Reference → Moment
  thrown_moment h r vs k x = record { before = h; after = k; this = r; arguments = vs; result = RefValue Null; thrown = x }

  -- what is asked of the heap, the receiver and the arguments where a body starts, and at a call too (exactly is false there)
  pub record EntryAs (exactly : Bool) (c : Contract) (class : ℕ) (h : Heap) (r : Reference) (vs : List Value) : Type 0 where
    pub well_formed : IsWellFormed g.program h
    pub receiver : Receiver exactly c.role class h r
    pub arguments : AreOf h c.parameters vs
    pub required : AllHold c (entry_moment h r vs) c.requires_
    pub invariant : RoleInvariant c.role h r
    pub fields : RoleFields c.role h r

  -- each object that was created is equal outside the locations
  abbrev pub Framed : (Location → Bool) → Heap → Heap → Type 0
  Framed L h k = (o : Reference) (f : Field) → L (location o f) ≡ false → is_created h o ≡ true → SameAt h k o f

  abbrev pub ResultOf : Heap → Option DeclaredType → Value → Type 0
  ResultOf h None v = Unit {0}
  ResultOf h (Some t) v = is_of h t v ≡ true

  -- the behaviour word allows a normal end, or an exceptional one
  abbrev pub MayEnd : Behaviour → Bool → Type 0
  MayEnd AnyEnd normally = Unit {0}
  MayEnd NormalOnly normally = normally ≡ true
  MayEnd ExceptionalOnly normally = normally ≡ false

  -- where the exception is of a clause's class, the clause holds
  abbrev pub AllSignalled : Contract → Moment → List (ℕ × PlainFormula) → Type 0
  AllSignalled c m [] = Unit {0}
  AllSignalled c m (e ∷ es) = (is_instance g.program (OfClass e.0) m.thrown ≡ true → Holds c m e.1) × AllSignalled c m es

  abbrev pub is_one_of : List ℕ → Reference → Bool
  is_one_of [] r = false
  is_one_of (c ∷ cs) r = is_instance g.program (OfClass c) r || is_one_of cs r

  abbrev pub AllOneOf : List (List ℕ) → Reference → Type 0
  AllOneOf [] r = Unit {0}
  AllOneOf (cs ∷ rest) r = (is_one_of cs r ≡ true) × AllOneOf rest r

  -- what a normal end and an exceptional end must meet, but for the frame
  pub record NormalEnd (c : Contract) (m : Moment) : Type 0 where
    pub well_formed : IsWellFormed g.program m.after
    pub typed : ResultOf m.after c.result m.result
    pub ensured : AllHold c m c.ensures_
    pub invariant : RoleEnd c.role m.after m.this
    pub allowed : MayEnd c.behaviour true

  pub record ExceptionalEnd (c : Contract) (m : Moment) : Type 0 where
    pub well_formed : IsWellFormed g.program m.after
    pub thrown : is_instance g.program (OfClass g.program.throwable) m.thrown ≡ true
    pub created : is_created m.after m.thrown ≡ true
    pub signalled : AllSignalled c m c.signals
    pub only : AllOneOf c.signals_only m.thrown
    pub allowed : MayEnd c.behaviour false
    pub invariant : RoleInvariant c.role m.after m.this

  -- the assignable locations and the measure are read at the entry
  abbrev pub assignable_at : Contract → Heap → Reference → List Value → Location → Bool
  assignable_at c h r vs q = within (interpretation_of c (entry_moment h r vs)) (state_of c (entry_moment h r vs)) [] c.assignable q

  abbrev pub measure_at : Contract → Heap → Reference → List Value → Value
  measure_at c h r vs = value (interpretation_of c (entry_moment h r vs)) (state_of c (entry_moment h r vs)) [] c.measure

  abbrev pub NormalExit : Contract → Heap → Reference → List Value → Heap → Value → Type 0
  NormalExit c h r vs k v = NormalEnd c (normal_moment h r vs k v) × Framed (assignable_at c h r vs) h k

  abbrev pub ExceptionalExit : Contract → Heap → Reference → List Value → Heap → Reference → Type 0
  ExceptionalExit c h r vs k x = ExceptionalEnd c (thrown_moment h r vs k x) × Framed (assignable_at c h r vs) h k
