-- The cases of a method's contract and the invariants of a class, as the files' JML says them (JML Reference Manual, 6.2, 8.2, 9).
use Rattle.std.specs.Prelude.{ℕ, suc, pos, Bool, true, false, List, [], ◌∷◌, ◌++◌, map, flat_map, cond, Option, Some, None}
use Rattle.std.specs.List.{list_any}
use Rattle.std.specs.Option.{unwrap_or}
use Rattle.jd_syntax.specs.JavaTypes.{PlainIdentifier, PlainWritten}
use Rattle.jd_syntax.specs.SpecTrees.{PlainClause, Requires, Ensures, Signals, SignalsOnly, Assignable, MeasuredBy, Diverges, Invariant, NormalBehavior, ExceptionalBehavior, Behavior, Also, Pure, Helper, Nullable, PlainSpecBlock}
use Rattle.jd_syntax.specs.JavaTrees.{JavaParameter, JavaResult, Void, Gives, OfConstructor, JavaMethod, JavaMember, FieldMember, ConstantMember, MethodMember, JavaField, JavaClass}
use Rattle.jd_model.specs.Programs as model
use Rattle.jd_model.specs.Cases.{DeclaredType, Parameter, Role, Static, Ordinary, Helper as HelperRole, ConstructorOf, Behaviour, AnyEnd, NormalOnly, ExceptionalOnly}
use Rattle.jd_model.specs.Tables.{parameter_constant}
use Rattle.jd_bodies.specs.declared.value.ValueType.{ValueType}
use Rattle.jd_bodies.specs.declared.value.ValueType.TheVariants as types
use Rattle.jd_bodies.specs.Declarations.{Declarations, type_by}
use Rattle.jd_bodies.specs.Types.{is_reference}
use Rattle.jd_bodies.specs.Variables.{sort_of}
use Rattle.jd_jml_meaning.specs.Resolved as jml
use Rattle.jd_jml_meaning.specs.Resolved.{JmlExpr, JmlLocation}
use Rattle.jd_jml_meaning.specs.JmlContracts.{JmlContract}
use Rattle.jd_specifications.specs.Resolution.{AnArgument, TheException, Entry, resolved, location, kind_of, field_number}

-- ---- marks: words that stand at any place of a declaration

abbrev pub all_clauses : List PlainSpecBlock → List PlainClause
all_clauses bs = flat_map (λ (b : PlainSpecBlock). b.clauses) bs

abbrev pub is_pure : PlainClause → Bool
is_pure (Pure at) = true
is_pure c = false

abbrev pub is_helper : PlainClause → Bool
is_helper (Helper at) = true
is_helper c = false

abbrev pub is_nullable : PlainClause → Bool
is_nullable (Nullable at) = true
is_nullable c = false

abbrev pub has_mark : (PlainClause → Bool) → List PlainSpecBlock → Bool
has_mark is bs = list_any is (all_clauses bs)

-- ---- cases: parted by `also`, which may also stand first; a behaviour word alone is a case

-- the case so far, if one has begun, and those behind it
abbrev pub joined : Option (List PlainClause) → List (List PlainClause) → List (List PlainClause)
joined None cs = cs
joined (Some c) cs = c ∷ cs

abbrev pub more : Option (List PlainClause) → PlainClause → Option (List PlainClause)
more None c = Some (c ∷ [])
more (Some cs) c = Some (cs ++ c ∷ [])

abbrev pub cases_from : Option (List PlainClause) → List PlainClause → List (List PlainClause)
cases_from sofar [] = joined sofar []
cases_from sofar (Also at ∷ cs) = joined sofar (cases_from None cs)
cases_from sofar (Requires at e ∷ cs) = cases_from (more sofar (Requires at e)) cs
cases_from sofar (Ensures at e ∷ cs) = cases_from (more sofar (Ensures at e)) cs
cases_from sofar (Signals at c x e ∷ cs) = cases_from (more sofar (Signals at c x e)) cs
cases_from sofar (SignalsOnly at xs ∷ cs) = cases_from (more sofar (SignalsOnly at xs)) cs
cases_from sofar (Assignable at ls ∷ cs) = cases_from (more sofar (Assignable at ls)) cs
cases_from sofar (MeasuredBy at e ∷ cs) = cases_from (more sofar (MeasuredBy at e)) cs
cases_from sofar (Diverges at b ∷ cs) = cases_from (more sofar (Diverges at b)) cs
cases_from sofar (NormalBehavior at ∷ cs) = cases_from (more sofar (NormalBehavior at)) cs
cases_from sofar (ExceptionalBehavior at ∷ cs) = cases_from (more sofar (ExceptionalBehavior at)) cs
cases_from sofar (Behavior at ∷ cs) = cases_from (more sofar (Behavior at)) cs
cases_from sofar (c ∷ cs) = cases_from sofar cs

-- the clauses of each case of a declaration
abbrev pub cases_of : List PlainSpecBlock → List (List PlainClause)
cases_of bs = cases_from None (all_clauses bs)

-- ---- what a case says of its ends

abbrev pub behaviour : List PlainClause → Behaviour
behaviour [] = AnyEnd
behaviour (NormalBehavior at ∷ cs) = NormalOnly
behaviour (ExceptionalBehavior at ∷ cs) = ExceptionalOnly
behaviour (c ∷ cs) = behaviour cs

abbrev pub diverges : List PlainClause → Bool
diverges [] = false
diverges (Diverges at b ∷ cs) = b
diverges (c ∷ cs) = diverges cs

module _ (d : Declarations) where
  abbrev pub type_written : PlainWritten → ValueType
  type_written w = type_by d.class_named w.written

  abbrev pub class_of : PlainIdentifier → ℕ
  class_of x = unwrap_or (d.class_named x.name) 0

  abbrev pub model_type : ValueType → model.ValueType
  model_type types.Int = model.IntType
  model_type types.Boolean = model.BooleanType
  model_type t = model.ReferenceType (kind_of t)

  abbrev pub declared_type : PlainWritten → Bool → DeclaredType
  declared_type w nullable = record { type = model_type (type_written w); nullable = nullable }

  -- a parameter, whose constant has its name and its sort
  abbrev pub parameter : JavaParameter → Parameter
  parameter p = record {
    constant = parameter_constant (record { text = p.name.name; sort = sort_of (type_written p.ty) });
    declared = declared_type p.ty (has_mark is_nullable p.specs);
  }

  abbrev pub result : JavaResult → Bool → Option DeclaredType
  result Void nullable = None
  result (Gives w) nullable = Some (declared_type w nullable)
  result OfConstructor nullable = None

  abbrev pub result_value : JavaResult → ValueType
  result_value (Gives w) = type_written w
  result_value r = types.Missing

  abbrev pub builds : JavaResult → Bool
  builds OfConstructor = true
  builds r = false

  abbrev pub role : ℕ → JavaMethod → Role
  role class m = cond (builds m.result) (ConstructorOf class) (cond m.is_static Static (cond (has_mark is_helper m.specs) HelperRole Ordinary))

  -- parameters stand by position
  abbrev pub entries : ℕ → List JavaParameter → List Entry → List Entry
  entries n [] es = es
  entries n (p ∷ ps) es = entries (suc n) ps (record { name = p.name.name; known = AnArgument n; type = type_written p.ty } ∷ es)

  abbrev pub with_exception : Option PlainIdentifier → ℕ → List Entry → List Entry
  with_exception None c es = es
  with_exception (Some x) c es = record { name = x.name; known = TheException; type = types.Class c } ∷ es

  -- ---- the clauses of a case

  module _ (class : ℕ) (r : ValueType) (es : List Entry) where
    abbrev pub requires_of : List PlainClause → List JmlExpr
    requires_of [] = []
    requires_of (Requires at e ∷ cs) = resolved d class r es e ∷ requires_of cs
    requires_of (c ∷ cs) = requires_of cs

    abbrev pub ensures_of : List PlainClause → List JmlExpr
    ensures_of [] = []
    ensures_of (Ensures at e ∷ cs) = resolved d class r es e ∷ ensures_of cs
    ensures_of (c ∷ cs) = ensures_of cs

    abbrev pub signals_of : List PlainClause → List (ℕ × JmlExpr)
    signals_of [] = []
    signals_of (Signals at c x e ∷ cs) = (class_of c, resolved d class r (with_exception x (class_of c) es) e) ∷ signals_of cs
    signals_of (c ∷ cs) = signals_of cs

    abbrev pub signals_only_of : List PlainClause → List (List ℕ)
    signals_only_of [] = []
    signals_only_of (SignalsOnly at xs ∷ cs) = map class_of xs ∷ signals_only_of cs
    signals_only_of (c ∷ cs) = signals_only_of cs

    -- all lists, in their order; None where there is no such clause
    abbrev pub with_locations : List JmlLocation → Option (List JmlLocation) → Option (List JmlLocation)
    with_locations ls None = Some ls
    with_locations ls (Some ms) = Some (ls ++ ms)

    abbrev pub assignable_of : List PlainClause → Option (List JmlLocation)
    assignable_of [] = None
    assignable_of (Assignable at ls ∷ cs) = with_locations (map (location d class r es) ls) (assignable_of cs)
    assignable_of (c ∷ cs) = assignable_of cs

    -- one that is missing is 0
    abbrev pub measure_of : List PlainClause → JmlExpr
    measure_of [] = jml.IntegerLiteral (pos 0)
    measure_of (MeasuredBy at e ∷ cs) = resolved d class r es e
    measure_of (c ∷ cs) = measure_of cs

  -- what may be assigned where no clause says so: all, by what is pure nothing, and by a pure constructor the fields of `this`
  abbrev pub assignable_else : Bool → Bool → List JmlLocation
  assignable_else pure constructor = cond pure (cond constructor (jml.AllFields jml.This ∷ []) (jml.Nothing ∷ [])) (jml.Everything ∷ [])

  -- one case of a method or constructor of a class
  abbrev pub contract : ℕ → JavaMethod → List PlainClause → JmlContract
  contract class m cs =
      let es = entries 0 m.parameters [] in
      let r = result_value m.result in
      record {
        role = role class m;
        parameters = map parameter m.parameters;
        result = result m.result (has_mark is_nullable m.specs);
        behaviour = behaviour cs;
        requires_ = requires_of class r es cs;
        ensures_ = ensures_of class r es cs;
        signals = signals_of class r es cs;
        signals_only = signals_only_of class r es cs;
        assignable = unwrap_or (assignable_of class r es cs) (assignable_else (has_mark is_pure m.specs) (builds m.result));
        measure = measure_of class r es cs;
        diverges = diverges cs;
      }

  -- the cases that are written at a method or constructor
  abbrev pub contracts : ℕ → JavaMethod → List JmlContract
  contracts class m = map (contract class m) (cases_of m.specs)

  -- ---- invariants: those that are written, and at the place of each reference field without `nullable` that it is not null

  abbrev pub written_invariants : ℕ → List PlainClause → List JmlExpr
  written_invariants class [] = []
  written_invariants class (Invariant at e ∷ cs) = resolved d class types.Missing [] e ∷ written_invariants class cs
  written_invariants class (c ∷ cs) = written_invariants class cs

  abbrev pub not_null : ℕ → PlainIdentifier → JmlExpr
  not_null class x = jml.Unequal (jml.FieldAccess jml.This (field_number d class types.Missing (d.variable class x.name))) jml.NullLiteral

  abbrev pub field_invariants : ℕ → JavaField → List JmlExpr
  field_invariants class f = cond (is_reference (type_written f.ty)) (cond (has_mark is_nullable f.specs) [] (map (not_null class) f.names)) []

  abbrev pub member_invariants : ℕ → JavaMember → List JmlExpr
  member_invariants class (FieldMember f) = written_invariants class (all_clauses f.specs) ++ field_invariants class f
  member_invariants class (ConstantMember c) = written_invariants class (all_clauses c.specs)
  member_invariants class (MethodMember m) = written_invariants class (all_clauses m.specs)

  abbrev pub members_invariants : ℕ → List JavaMember → List JmlExpr
  members_invariants class [] = []
  members_invariants class (m ∷ ms) = member_invariants class m ++ members_invariants class ms

  abbrev pub end_invariants : ℕ → Option PlainSpecBlock → List JmlExpr
  end_invariants class None = []
  end_invariants class (Some b) = written_invariants class b.clauses

  -- in the order of the text
  abbrev pub invariants : ℕ → JavaClass → List JmlExpr
  invariants class c = members_invariants class c.members ++ end_invariants class c.end
