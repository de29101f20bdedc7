-- Trees of files that are read call parameters and locals by words.
use Rattle.std.specs.Prelude.{◌≡◌, List, ℕ, Some}
use Rattle.std.specs.List.{slice_get}
use Rattle.jd_syntax.specs.JavaTrees.{JavaMethod, JavaUnit}
use Rattle.jd_jclasses.specs.Members.{Declared, RoutineOf}
use Rattle.jd_jclasses.specs.Methods.{routines}
use Rattle.jd_files.specs.Files.{AreTrees}
use Rattle.jd_variable_words.specs.Words.{MethodHasWords}

-- those of each method and constructor
abbrev pub VariablesAreCalledByWords : Type 0
VariablesAreCalledByWords =
    (files : List (List ℕ)) (units : List JavaUnit) → AreTrees files units
    → (m : ℕ) (r : Declared) (t : JavaMethod) → slice_get (routines units) m ≡ Some r → r.kind ≡ RoutineOf t → MethodHasWords t
