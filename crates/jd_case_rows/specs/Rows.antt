-- The row of a case: what it asks at the entry and at each end, member by member, in the names of the body that runs (The KeY Book,
-- 8.2; JML Reference Manual, 8.2 and 9).
use Rattle.std.specs.Prelude.{ℕ, Bool, false, cond, Option, Some, None, List, [], ◌∷◌, ◌++◌, map}
use Rattle.jd_base.specs.declared.sort.Sort.{Sort}
use Rattle.jd_base.specs.declared.sort.Sort.TheVariants.{Int as IntSort, Bool as BoolSort, Ref as RefSort, Heap as HeapSort, Field as FieldSort}
use Rattle.std.specs.Prelude.{pos}
use Rattle.jd_syntax.specs.Names.{Name}
use Rattle.jd_syntax.specs.Codes.{OfClass}
use Rattle.jd_syntax.specs.CodeNames.{heap_name}
use Rattle.jd_term.specs.Terms.{PlainTerm, Number, Boolean, NullTerm, ProgramVariable, Constant, Select, NamedField, CreatedField}
use Rattle.jd_term.specs.Formulas.{PlainFormula, FalseFormula, And, Or, Implies, Equal, InInt, WellFormed, Invariant, IsInstance, IsExactInstance}
use Rattle.jd_model.specs.Conjunctions.{created_at}
use Rattle.jd_model.specs.SpecialNames.{entry_heap, receiver, thrown_variable, result_variable}
use Rattle.jd_model.specs.Programs.{Program, ValueType, IntType, BooleanType, ReferenceType, Body, type_sort, field_sort}
use Rattle.jd_model.specs.Cases.{DeclaredType, Parameter, Role, Static, Ordinary, Helper, ConstructorOf, Behaviour, AnyEnd, NormalOnly, ExceptionalOnly, Contract}
use Rattle.jd_model.specs.ContractForms.{PlainCase}
use Rattle.jd_model.specs.Tables.{constants_of_parameters}
use Rattle.jd_jml_meaning.specs.JmlContracts.{JmlContract}
use Rattle.jd_jml_meaning.specs.JmlCases.{JmlCase}
use Rattle.jd_jml_meaning.specs.ContractFormulas.{contract_of}

-- ---- the value of a declared type: in 32-bit range, or a created instance, or null where that is allowed

abbrev pub or_null : Bool → PlainTerm → PlainFormula → PlainFormula
or_null nullable x a = cond nullable (Or (Equal x NullTerm) a) a

abbrev pub value_members : PlainTerm → ValueType → Bool → PlainTerm → List PlainFormula
value_members h IntType nullable x = InInt x ∷ []
value_members h BooleanType nullable x = []
value_members h (ReferenceType k) nullable x = or_null nullable x (And (IsInstance k x) (created_at h x)) ∷ []

abbrev pub typed_members : PlainTerm → DeclaredType → PlainTerm → List PlainFormula
typed_members h t x = value_members h t.type t.nullable x

-- ---- the receiver

abbrev pub receiver_of_class : ℕ → List PlainFormula
receiver_of_class class = IsExactInstance (OfClass class) (Constant receiver) ∷ created_at (Constant entry_heap) (Constant receiver) ∷ []

abbrev pub receiver_members : Role → ℕ → List PlainFormula
receiver_members Static class = []
receiver_members Ordinary class = receiver_of_class class
receiver_members Helper class = receiver_of_class class
receiver_members (ConstructorOf a) class = receiver_of_class class

-- its invariant in a heap, unless the method is static, a helper or a constructor
abbrev pub invariant_members : Role → PlainTerm → List PlainFormula
invariant_members Static h = []
invariant_members Ordinary h = Invariant h (Constant receiver) ∷ []
invariant_members Helper h = []
invariant_members (ConstructorOf a) h = []

-- ---- what a constructor finds: each of the fields default

abbrev pub default_term : Sort → PlainTerm
default_term IntSort = Number (pos 0)
default_term BoolSort = Boolean false
default_term RefSort = NullTerm
default_term HeapSort = NullTerm
default_term FieldSort = CreatedField

abbrev pub field_member : Program → ℕ → PlainFormula
field_member p f = Equal (Select (field_sort p f) (Constant entry_heap) (Constant receiver) (NamedField f)) (default_term (field_sort p f))

abbrev pub field_members : Program → (ℕ → List ℕ) → Role → List PlainFormula
field_members p fields Static = []
field_members p fields Ordinary = []
field_members p fields Helper = []
field_members p fields (ConstructorOf a) = map (field_member p) (fields a)

-- ---- the entry

abbrev pub parameter_members : List Parameter → List PlainFormula
parameter_members [] = []
parameter_members (x ∷ xs) = typed_members (Constant entry_heap) x.declared (Constant x.constant) ++ parameter_members xs

abbrev pub entry_members : Program → (ℕ → List ℕ) → ℕ → Contract → List PlainFormula
entry_members p fields class c =
    WellFormed (Constant entry_heap)
    ∷ (receiver_members c.role class ++ (parameter_members c.parameters ++ (c.requires_ ++ (invariant_members c.role (Constant entry_heap) ++ field_members p fields c.role))))

-- ---- a normal end

abbrev pub result_members : Option DeclaredType → List PlainFormula
result_members None = []
result_members (Some t) = typed_members (ProgramVariable heap_name) t (ProgramVariable (result_variable (type_sort t.type)))

-- a constructor establishes the invariant where its class is the object's
abbrev pub established_members : Role → List PlainFormula
established_members Static = []
established_members Ordinary = []
established_members Helper = []
established_members (ConstructorOf a) = Implies (IsExactInstance (OfClass a) (Constant receiver)) (Invariant (ProgramVariable heap_name) (Constant receiver)) ∷ []

-- no end of this kind is allowed
abbrev pub unless_normal : Behaviour → List PlainFormula
unless_normal AnyEnd = []
unless_normal NormalOnly = []
unless_normal ExceptionalOnly = FalseFormula ∷ []

abbrev pub normal_members : Contract → List PlainFormula
normal_members c = result_members c.result ++ (c.ensures_ ++ (established_members c.role ++ unless_normal c.behaviour))

-- ---- an exceptional end

abbrev pub instance_of_thrown : ℕ → PlainFormula
instance_of_thrown class = IsInstance (OfClass class) (ProgramVariable thrown_variable)

abbrev pub signalled_members : List (ℕ × PlainFormula) → List PlainFormula
signalled_members es = map (λ e. Implies (instance_of_thrown e.0) e.1) es

-- one of the classes, right-nested; of none the clause is false
abbrev pub one_of : ℕ → List ℕ → PlainFormula
one_of c [] = instance_of_thrown c
one_of c (d ∷ cs) = Or (instance_of_thrown c) (one_of d cs)

abbrev pub only_member : List ℕ → PlainFormula
only_member [] = FalseFormula
only_member (c ∷ cs) = one_of c cs

abbrev pub unless_exceptional : Behaviour → List PlainFormula
unless_exceptional AnyEnd = []
unless_exceptional NormalOnly = FalseFormula ∷ []
unless_exceptional ExceptionalOnly = []

abbrev pub exceptional_members : Program → Contract → List PlainFormula
exceptional_members p c =
    instance_of_thrown p.throwable
    ∷ created_at (ProgramVariable heap_name) (ProgramVariable thrown_variable)
    ∷ (signalled_members c.signals ++ (map only_member c.signals_only ++ unless_exceptional c.behaviour))

-- ---- together: parameters stand by the constants of the body that runs

abbrev pub respelled : List Name → List Parameter → List Parameter
respelled xs [] = []
respelled [] ps = ps
respelled (x ∷ xs) (p ∷ ps) = record { constant = x; declared = p.declared } ∷ respelled xs ps

abbrev pub spelled_for : Body → JmlContract → JmlContract
spelled_for b c = record c { parameters = respelled (constants_of_parameters b.parameters) c.parameters }

-- of each class the fields of its objects are listed
abbrev pub row_of : Program → (ℕ → List ℕ) → JmlCase → Body → PlainCase
row_of p fields c b =
    let k = contract_of p (spelled_for b c.contract) in
    record {
      method = c.method;
      class = c.class;
      number = c.number;
      entry = entry_members p fields c.class k;
      exit = normal_members k ++ invariant_members k.role (ProgramVariable heap_name);
      exceptional = exceptional_members p k ++ invariant_members k.role (ProgramVariable heap_name);
      frame = k.assignable;
      measure = k.measure;
      diverges = k.diverges;
    }
