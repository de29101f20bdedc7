-- Trees of files that are read have names and literals such as tokens give.
use Rattle.std.specs.Prelude.{List, ℕ}
use Rattle.jd_syntax.specs.JavaTrees.{JavaUnit}
use Rattle.jd_bodies.specs.Declarations.{AreDeclarations, Declarations}
use Rattle.jd_files.specs.Files.{AreTrees}
use Rattle.jd_resolved_bodies.specs.Laws.{ConstantsFit}
use Rattle.jd_program_laws.specs.Laws.{AreLexicalMethods, ConstructorsAreNotStatic, HaveParameterNames}

pub record TreesAreLexical : Type 0 where
  pub methods : (files : List (List ℕ)) (units : List JavaUnit) → AreTrees files units → AreLexicalMethods units
  pub parameters : (files : List (List ℕ)) (units : List JavaUnit) → AreTrees files units → HaveParameterNames units
  pub constructors : (files : List (List ℕ)) (units : List JavaUnit) → AreTrees files units → ConstructorsAreNotStatic units
  pub constants : (files : List (List ℕ)) (units : List JavaUnit) → AreTrees files units → (d : Declarations) → AreDeclarations units d → ConstantsFit d
