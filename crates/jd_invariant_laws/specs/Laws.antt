-- That the invariants of classes are resolved from what is listed.
use Rattle.std.specs.Prelude.{◌≡◌, ℕ, List, [], map, Some}
use Rattle.jd_syntax.specs.JavaTrees.{JavaClass, JavaUnit}
use Rattle.jd_jclasses.specs.Refusals.{AreClasses}
use Rattle.jd_bodies.specs.declared.value.ValueType.TheVariants.{Missing}
use Rattle.jd_bodies.specs.Declarations.{AreDeclarations, Declarations}
use Rattle.jd_specifications.specs.Resolution.{resolved}
use Rattle.jd_specifications.specs.WrittenCases.{invariants}
use Rattle.jd_programs.specs.Programs.{class_tree}
use Rattle.jd_jml_written.specs.Marked.{class_invariants}

abbrev pub InvariantsAreResolved : Type 0
InvariantsAreResolved = (units : List JavaUnit) → AreClasses units → (d : Declarations) → AreDeclarations units d → (c : ℕ) (t : JavaClass) → class_tree units c ≡ Some t → map (resolved d c Missing []) (class_invariants t) ≡ invariants d c t
