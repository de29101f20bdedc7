-- The declarations of methods and constructors by their numbers, with the classes that have them.
use Rattle.std.specs.Prelude.{◌≡◌, ℕ, List, [], ◌∷◌, cond, drop, length, take, Option, Some, None}
use Rattle.std.specs.List.{slice_get}
use Rattle.jd_syntax.specs.JavaTrees.{JavaMethod, JavaUnit, method_view}
use Rattle.jd_syntax.specs.Names.{Declared as Variable}
use Rattle.jd_jclasses.specs.Members.{Declared, Kind, FieldOf, ConstantOf, RoutineOf}
use Rattle.jd_jclasses.specs.Methods.{routines}
use Rattle.jd_bodies.specs.Bodies.{PlainBody}
use Rattle.jd_jml_written.specs.Marked.{PlainCase, marks_of}
use Rattle.jd_jmlcheck.specs.Specified.{PlainMethodSpec}
use Rattle.jd_case_tables.specs.declared.row.Written.{Written}

-- the class and the tree
abbrev pub Place : Type 0
Place = ℕ × JavaMethod

abbrev pub written_view : Written → Place
written_view w = (w.class.0, method_view w.tree.now)

abbrev pub place_of_kind : ℕ → Kind → Option Place
place_of_kind class (FieldOf t) = None
place_of_kind class (ConstantOf n) = None
place_of_kind class (RoutineOf m) = Some (class, m)

abbrev pub place_of : Option Declared → Option Place
place_of None = None
place_of (Some r) = place_of_kind r.class r.kind

abbrev pub place_at : List JavaUnit → ℕ → Option Place
place_at units m = place_of (slice_get (routines units) m)

-- what is listed of a number; nothing where the list ends before
abbrev pub cases_in : Option PlainMethodSpec → List PlainCase
cases_in None = []
cases_in (Some s) = s.cases

abbrev pub variables_in : Option PlainBody → List Variable
variables_in None = []
variables_in (Some b) = b.variables

-- of variables those of the parameters: behind the receiver, which a static method has not
abbrev pub among_parameters : {X : Type 0} → JavaMethod → List X → List X
among_parameters m vs = take (length m.parameters) (drop (cond m.is_static 0 1) vs)

-- the marks of each of these cases are those of its declaration
abbrev pub MarksStand : List JavaUnit → List PlainCase → Type 0
MarksStand units [] = Unit {0}
MarksStand units (k ∷ ks) = ((w : Place) → place_at units k.declared ≡ Some w → k.marks ≡ marks_of w.1) × MarksStand units ks
