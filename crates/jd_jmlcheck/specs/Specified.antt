-- The specifications of a program: of each method and constructor its cases, those of the methods that it overrides among them, and what is said of
-- the loops in its body; of each class its own invariants (JML Reference Manual, 6.2, 8.2, 9, 13.2).
use Rattle.std.specs.Prelude.{ℕ, List, [], map, length, Option, Some, None}
use Rattle.std.specs.List.{range_with_len, slice_get}
use Rattle.jd_syntax.specs.SpecTrees.{PlainSpec}
use Rattle.jd_syntax.specs.JavaTrees.{JavaClass, JavaMethod, JavaUnit}
use Rattle.jd_jclasses.specs.Members.{Declared, Kind, FieldOf, ConstantOf, RoutineOf}
use Rattle.jd_jclasses.specs.Methods.{routines}
use Rattle.jd_jinfos.specs.Infos.{PlainClassInfo, class_infos}
use Rattle.jd_jml_written.specs.Loops.{PlainLoop, loops_of}
use Rattle.jd_jml_written.specs.Marked.{PlainCase, class_invariants}
use Rattle.jd_jml_cases.specs.Cases.{method_cases}

pub record PlainMethodSpec : Type 0 where
  pub cases : List PlainCase
  pub loops : List PlainLoop

pub record PlainSpecs : Type 0 where
  pub methods : List PlainMethodSpec
  pub classes : List (List PlainSpec)

abbrev pub loops_of_kind : Kind → List PlainLoop
loops_of_kind (FieldOf t) = []
loops_of_kind (ConstantOf n) = []
loops_of_kind (RoutineOf r) = loops_of r.body

abbrev pub loops_of_declared : Option Declared → List PlainLoop
loops_of_declared None = []
loops_of_declared (Some r) = loops_of_kind r.kind

-- the same of a declaration
abbrev pub loops_of_tree : Option JavaMethod → List PlainLoop
loops_of_tree None = []
loops_of_tree (Some t) = loops_of t.body

-- a class that is always there has none
abbrev pub invariants_of_tree : Option JavaClass → List PlainSpec
invariants_of_tree None = []
invariants_of_tree (Some c) = class_invariants c

abbrev pub class_spec : PlainClassInfo → List PlainSpec
class_spec i = invariants_of_tree i.decl

module _ (units : List JavaUnit) where
  abbrev pub loops_at : ℕ → List PlainLoop
  loops_at m = loops_of_declared (slice_get (routines units) m)

  abbrev pub method_spec : ℕ → PlainMethodSpec
  method_spec m = record { cases = method_cases units m; loops = loops_at m }

  -- by the numbers of methods and classes
  abbrev pub specs_of : PlainSpecs
  specs_of = record { methods = map method_spec (range_with_len 0 (length (routines units))); classes = map class_spec (class_infos units) }
