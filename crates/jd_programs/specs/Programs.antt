-- What the files of a program mean: its classes, its bodies, and what JML says of them.
use Rattle.std.specs.Prelude.{◌≡◌, ◌<◌, ◌≤◌, ℕ, Bool, false, cond, nat_eq, List, [], map, drop, length, reverse, codes, Option, Some, None, MatchOption}
use Rattle.std.specs.Bool.{Decides}
use Rattle.std.specs.List.{list_any, slice_get}
use Rattle.std.specs.Option.{option_and_then}
use Rattle.jd_base.specs.declared.sort.Sort.{Sort}
use Rattle.jd_base.specs.declared.sort.Sort.TheVariants.{Int as IntSort}
use Rattle.jd_syntax.specs.Names.{Name, Declared as DeclaredVariable}
use Rattle.jd_syntax.specs.JavaTypes.{PlainType}
use Rattle.jd_syntax.specs.JavaTrees.{JavaClass, JavaMethod, JavaResult, Void, Gives, OfConstructor, JavaUnit}
use Rattle.jd_reach.specs.Paths.{ReachesBy}
use Rattle.jd_jclasses.specs.CallGraph.{AreFamilyCalls}
use Rattle.jd_jclasses.specs.Classes.{class_named, parents}
use Rattle.jd_jclasses.specs.Members.{Declared, Kind, FieldOf, ConstantOf, RoutineOf}
use Rattle.jd_jclasses.specs.Methods.{AreFamilies, IsSeen, SeesNone, fields, routines}
use Rattle.jd_jinfos.specs.Infos.{class_infos}
use Rattle.jd_classes.specs.Fields.{IsLineage}
use Rattle.jd_model.specs.Programs as model
use Rattle.jd_bodies.specs.Bodies.{begun, body_of, with_parameters}
use Rattle.jd_bodies.specs.Declarations.{AreDeclarations, Declarations, type_by}
use Rattle.jd_bodies.specs.Refused.{place_of}
use Rattle.jd_bodies.specs.Variables.{sort_of, this_name}
use Rattle.jd_jml_meaning.specs.Resolved.{JmlExpr}
use Rattle.jd_jml_meaning.specs.JmlCases.{JmlProgram}
use Rattle.jd_specifications.specs.WrittenCases.{invariants, model_type}
use Rattle.jd_programs.specs.Cases.{all_cases}

-- ---- classes

-- a class and those above it, Object first (JLS 8.1.4); and the classes that are known by name, those of what the machine throws among
-- them (JLS 11.1.3, 15.6)
pub record HasClasses (units : List JavaUnit) (p : model.Program) : Type 0 where
  pub superclasses : (c : ℕ) → c < length (parents units) → IsLineage (parents units) c (reverse (p.superclasses c))
  pub no_class : (c : ℕ) → length (parents units) ≤ c → p.superclasses c ≡ []
  pub object : class_named units (codes "Object") ≡ Some p.object
  pub throwable : class_named units (codes "Throwable") ≡ Some p.throwable
  pub null_pointer : class_named units (codes "NullPointerException") ≡ Some p.null_pointer
  pub arithmetic : class_named units (codes "ArithmeticException") ≡ Some p.arithmetic
  pub bounds : class_named units (codes "ArrayIndexOutOfBoundsException") ≡ Some p.bounds
  pub cast : class_named units (codes "ClassCastException") ≡ Some p.cast
  pub negative_size : class_named units (codes "NegativeArraySizeException") ≡ Some p.negative_size

-- a class has the fields that it or a class above it declares (JLS 8.2)
abbrev pub declared_along : List ℕ → Option Declared → Bool
declared_along lineage None = false
declared_along lineage (Some f) = list_any (nat_eq f.class) lineage

pub record HasFields (units : List JavaUnit) (d : Declarations) (p : model.Program) : Type 0 where
  pub types : (f : ℕ) (one : Declared) (t : PlainType) → slice_get (fields units) f ≡ Some one → one.kind ≡ FieldOf t → p.field_type f ≡ model_type d (type_by d.class_named t)
  -- nothing is asked of a number that no field has; so that a program is one, it is an int's
  pub no_type : (f : ℕ) → slice_get (fields units) f ≡ None → p.field_type f ≡ model.IntType
  pub has_field : (c f : ℕ) → p.has_field c f ≡ declared_along (p.superclasses c) (slice_get (fields units) f)

-- a call runs the method that the object's class sees by the name of the one that is called (JLS 15.12.4.4)
pub record HasLookup (units : List JavaUnit) (p : model.Program) : Type 0 where
  pub seen : (c m : ℕ) (r : Declared) → slice_get (routines units) m ≡ Some r → MatchOption (p.lookup c m) (SeesNone units c r.name.name) (IsSeen units c r.name.name)
  pub none : (c m : ℕ) → slice_get (routines units) m ≡ None → p.lookup c m ≡ None

-- ---- bodies

-- nothing is asked of the sort where there is no result
abbrev pub result_sort : Declarations → JavaResult → Sort
result_sort d Void = IntSort
result_sort d (Gives w) = sort_of (type_by d.class_named w.written)
result_sort d OfConstructor = IntSort

abbrev pub variable_name : DeclaredVariable → Name
variable_name v = v.name

-- those of the parameters stand behind `this`, which a static method has not
abbrev pub parameter_names : Declarations → ℕ → JavaMethod → List Name
parameter_names d class m = drop (cond m.is_static 0 1) (map variable_name (with_parameters d m.parameters (begun (place_of d class m))).variables)

abbrev pub body_with : Declarations → ℕ → JavaMethod → model.Body
body_with d class m = record {
  receiver = cond m.is_static None (Some this_name);
  parameters = parameter_names d class m;
  result = result_sort d m.result;
  code = (body_of d class m).code_;
}

abbrev pub body_of_kind : Declarations → ℕ → Kind → Option model.Body
body_of_kind d class (FieldOf t) = None
body_of_kind d class (ConstantOf n) = None
body_of_kind d class (RoutineOf m) = Some (body_with d class m)

abbrev pub body_of_declared : Declarations → Declared → Option model.Body
body_of_declared d r = body_of_kind d r.class r.kind

-- ---- invariants

abbrev pub class_tree : List JavaUnit → ℕ → Option JavaClass
class_tree units c = option_and_then (λ i. i.decl) (slice_get (class_infos units) c)

abbrev pub invariants_of_tree : Declarations → ℕ → Option JavaClass → List JmlExpr
invariants_of_tree d c None = []
invariants_of_tree d c (Some t) = invariants d c t

-- ---- together

pub record IsProgram (units : List JavaUnit) (j : JmlProgram) : Type 0 where
  -- what names stand for
  pub declarations : Declarations
  pub are_declarations : AreDeclarations units declarations
  -- families of methods, and which of them reach which by calls
  pub family : ℕ → ℕ
  pub are_families : AreFamilies units j.families family
  pub calls : ℕ → ℕ → Bool
  pub are_calls : AreFamilyCalls units family calls
  pub reaches : (a b : ℕ) → Decides (j.reaches a b) (ReachesBy calls a b)
  -- classes and bodies
  pub classes : HasClasses units j.program
  pub fields_ : HasFields units declarations j.program
  pub lookup : HasLookup units j.program
  pub bodies : (m : ℕ) → j.program.body m ≡ option_and_then (body_of_declared declarations) (slice_get (routines units) m)
  -- what is specified
  pub invariants_ : (c : ℕ) → j.own c ≡ invariants_of_tree declarations c (class_tree units c)
  pub cases : (κ : ℕ) → j.case κ ≡ slice_get (all_cases units j.program.superclasses declarations family) κ
