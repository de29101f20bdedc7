-- A case of a contract as JML has it, and what it asks of a state in which a body starts and of how it ends (JML Reference Manual, 8.2,
-- 9.6 and 9.9).
use Rattle.std.specs.Prelude.{◌≡◌, ℕ, zero, suc, Bool, true, false, pos, ℤ, Option, Some, None, List, [], ◌∷◌}
use Rattle.jd_syntax.specs.Codes.{OfClass}
use Rattle.jd_heap.specs.References.{Reference, Null, Object, Array, Field}
use Rattle.jd_heap.specs.Heaps.{Heap, is_created, SameAt}
use Rattle.jd_heap.specs.Values.{Value, IntValue, RefValue, as_int, at_sort, default}
use Rattle.jd_model.specs.SpecialNames.{thrown_variable}
use Rattle.jd_model.specs.States.{read, write, empty_state, with_heap}
use Rattle.jd_model.specs.Programs.{Program, type_sort, is_instance, is_exactly}
use Rattle.jd_model.specs.WellFormedHeaps.{IsWellFormed}
use Rattle.jd_model.specs.Truth.{Setting, no_inv}
use Rattle.jd_model.specs.Cases.{DeclaredType, Parameter, Role, Static, Ordinary, Helper, ConstructorOf, Behaviour}
use Rattle.jd_model.specs.EntryExit.{Moment, entry_moment, normal_moment, thrown_moment, AreOf, Receiver, RoleFields, ResultOf, MayEnd, AllOneOf, with_result}
use Rattle.jd_jml_meaning.specs.Resolved.{JmlExpr, JmlLocation}
use Rattle.jd_jml_meaning.specs.Meaning.{When, Now, Before, World, world_at, meant, Holds, AmongAll}
use Rattle.jd_jml_meaning.specs.InvariantFormulas.{setting_of}

-- one case of a contract: the same for each class that has it
pub record JmlContract : Type 0 where
  pub role : Role
  pub parameters : List Parameter
  pub result : Option DeclaredType
  pub behaviour : Behaviour
  pub requires_ : List JmlExpr
  pub ensures_ : List JmlExpr
  -- an exception's class, and what then holds
  pub signals : List (ℕ × JmlExpr)
  -- each clause the classes that it allows
  pub signals_only : List (List ℕ)
  pub assignable : List JmlLocation
  pub measure : JmlExpr
  pub diverges : Bool

-- the value of the argument at a position, as its parameter takes it; a parameter without an argument has its sort's default
abbrev pub argument_at : List Parameter → List Value → ℕ → Value
argument_at [] vs k = IntValue (pos 0)
argument_at (x ∷ xs) [] zero = default x.constant.sort
argument_at (x ∷ xs) [] (suc k) = argument_at xs [] k
argument_at (x ∷ xs) (v ∷ vs) zero = at_sort x.constant.sort v
argument_at (x ∷ xs) (v ∷ vs) (suc k) = argument_at xs vs k

abbrev pub result_at : Option DeclaredType → Value → Value
result_at None v = IntValue (pos 0)
result_at (Some t) v = at_sort (type_sort t.type) v

-- what the clauses of a case speak of at a moment; they name no local
abbrev pub world_of : JmlContract → Moment → World
world_of c m = record {
  heap = elim [ Now ↦ m.after | Before ↦ m.before ];
  argument = λ t. argument_at c.parameters m.arguments;
  local = read (with_result c.result m.result (write (with_heap empty_state m.after) thrown_variable (RefValue m.thrown)));
  this = m.this;
  result = result_at c.result m.result;
  thrown = m.thrown;
}

module _ (p : Program) (own : ℕ → List JmlExpr) where
  -- ---- invariants: those of an object's class and of the classes above it, in one heap; null and arrays have none, and an invariant names
  -- no other (JML Reference Manual, 8.2)
  module _ (h : Heap) (o : Reference) where
    abbrev pub EachInvariant : List JmlExpr → Type 0
    EachInvariant [] = Unit {0}
    EachInvariant (e ∷ es) = Holds p (world_at h o) no_inv Now [] e × EachInvariant es

    abbrev pub InvariantsFrom : List ℕ → Type 0
    InvariantsFrom [] = Unit {0}
    InvariantsFrom (c ∷ cs) = EachInvariant (own c) × InvariantsFrom cs

  abbrev pub InvariantHolds : Heap → Reference → Type 0
  InvariantHolds h Null = Unit {0}
  InvariantHolds h (Object c n) = InvariantsFrom h (Object c n) (p.superclasses c)
  InvariantHolds h (Array l n) = Unit {0}

  abbrev g : Setting
  g = setting_of p own

  -- ---- clauses

  abbrev pub ClauseHolds : When → JmlContract → Moment → JmlExpr → Type 0
  ClauseHolds t c m e = Holds p (world_of c m) InvariantHolds t [] e

  abbrev pub ClausesHold : When → JmlContract → Moment → List JmlExpr → Type 0
  ClausesHold t c m [] = Unit {0}
  ClausesHold t c m (e ∷ es) = ClauseHolds t c m e × ClausesHold t c m es

  -- where the exception is of a clause's class, the clause holds
  abbrev pub SignalsHold : JmlContract → Moment → List (ℕ × JmlExpr) → Type 0
  SignalsHold c m [] = Unit {0}
  SignalsHold c m (e ∷ es) = (is_instance p (OfClass e.0) m.thrown ≡ true → ClauseHolds Now c m e.1) × SignalsHold c m es

  -- the receiver's invariant, unless the method is static, a helper or a constructor
  abbrev pub ReceiverInvariant : Role → Heap → Reference → Type 0
  ReceiverInvariant Static h r = Unit {0}
  ReceiverInvariant Ordinary h r = InvariantHolds h r
  ReceiverInvariant Helper h r = Unit {0}
  ReceiverInvariant (ConstructorOf a) h r = Unit {0}

  -- and where a constructor ends normally it has established the invariant, if its class is the object's
  abbrev pub InvariantAtEnd : Role → Heap → Reference → Type 0
  InvariantAtEnd Static h r = Unit {0}
  InvariantAtEnd Ordinary h r = InvariantHolds h r
  InvariantAtEnd Helper h r = Unit {0}
  InvariantAtEnd (ConstructorOf a) h r = is_exactly (OfClass a) r ≡ true → InvariantHolds h r

  -- ---- entry and exit

  pub record JmlEntry (exactly : Bool) (c : JmlContract) (class : ℕ) (h : Heap) (r : Reference) (vs : List Value) : Type 0 where
    pub well_formed : IsWellFormed p h
    pub receiver : Receiver g exactly c.role class h r
    pub arguments : AreOf g h c.parameters vs
    pub required : ClausesHold Before c (entry_moment g h r vs) c.requires_
    pub invariant : ReceiverInvariant c.role h r
    pub fields : RoleFields g c.role h r

  -- each object that was created is equal outside the assignable locations, which are read at the entry
  abbrev pub FrameKept : JmlContract → Heap → Reference → List Value → Heap → Type 0
  FrameKept c h r vs k = (o : Reference) (f : Field) → ¬ (AmongAll p (world_of c (entry_moment g h r vs)) Before [] c.assignable o f) → is_created h o ≡ true → SameAt h k o f

  pub record JmlNormalEnd (c : JmlContract) (m : Moment) : Type 0 where
    pub well_formed : IsWellFormed p m.after
    pub typed : ResultOf g m.after c.result m.result
    pub ensured : ClausesHold Now c m c.ensures_
    pub invariant : InvariantAtEnd c.role m.after m.this
    pub allowed : MayEnd g c.behaviour true

  pub record JmlExceptionalEnd (c : JmlContract) (m : Moment) : Type 0 where
    pub well_formed : IsWellFormed p m.after
    pub thrown : is_instance p (OfClass p.throwable) m.thrown ≡ true
    pub created : is_created m.after m.thrown ≡ true
    pub signalled : SignalsHold c m c.signals
    pub only : AllOneOf g c.signals_only m.thrown
    pub allowed : MayEnd g c.behaviour false
    pub invariant : ReceiverInvariant c.role m.after m.this

  abbrev pub JmlNormalExit : JmlContract → Heap → Reference → List Value → Heap → Value → Type 0
  JmlNormalExit c h r vs k v = JmlNormalEnd c (normal_moment g h r vs k v) × FrameKept c h r vs k

  abbrev pub JmlExceptionalExit : JmlContract → Heap → Reference → List Value → Heap → Reference → Type 0
  JmlExceptionalExit c h r vs k x = JmlExceptionalEnd c (thrown_moment g h r vs k x) × FrameKept c h r vs k

  -- the measure at an entry
  abbrev pub measured : JmlContract → Heap → Reference → List Value → ℤ
  measured c h r vs = as_int (meant p (world_of c (entry_moment g h r vs)) Before [] c.measure)
