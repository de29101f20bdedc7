-- What is known of a static method whose body is straight, by the words of its variables.
use Rattle.std.specs.Prelude.{◌≡◌, ◌≤◌, List, Ok, Some, [], ◌∷◌, length, map, true, ℕ, ℤ}
use Rattle.jd_base.specs.declared.sort.Sort.TheVariants.{Int as IntSort}
use Rattle.jd_bodies.specs.Bodies.{body_of}
use Rattle.jd_bodies.specs.Declarations.{Declarations}
use Rattle.jd_bodies.specs.Refused.{method}
use Rattle.jd_bodies.specs.Scopes.{Scope, empty_scope}
use Rattle.jd_first_form.specs.Forms.{is_straight}
use Rattle.jd_model.specs.ResolvedBodies.{IsResolvedCode}
use Rattle.jd_model.specs.WellFormedHeaps.{in_int}
use Rattle.jd_model.specs.Tables.{parameter_constant}
use Rattle.jd_programs.specs.Programs.{parameter_names, variable_name}
use Rattle.jd_spelled_first_steps.specs.TermNames.{AreTermNames}
use Rattle.jd_syntax.specs.Codes.{IntLiteral, PlainCode}
use Rattle.jd_syntax.specs.JavaTrees.{JavaMethod}
use Rattle.jd_syntax.specs.Names.{Name}
use Rattle.jd_tforms.specs.Known.{CodeKnown, ExprKnown, IsVariable}
use Rattle.jd_tforms.specs.Naming.{constant_of}
use Rattle.jd_tforms.specs.Sorted.{Value, code_sorted}
use Rattle.jd_tgrammar.specs.NameTables.{NameTable}
use Rattle.jd_variable_words.specs.Words.{MethodHasWords}

-- each is a variable by its word, and its constant is one
abbrev pub ParametersKnown : NameTable → List Name → Type 0
ParametersKnown names [] = Unit {0}
ParametersKnown names (x ∷ xs) = (IsVariable names x × (constant_of (parameter_constant x).text ≡ Some (parameter_constant x))) × ParametersKnown names xs

pub record IsKnownBody (names : NameTable) (parameters : List Name) (c : PlainCode) : Type 0 where
  pub parameters_ : ParametersKnown names parameters
  pub code : CodeKnown names c
  pub sorted : code_sorted names (Value IntSort) c ≡ true
  -- and terms read the word of each variable as it
  pub variables_ : AreTermNames names.variables

-- where no token of the method is refused, and the names are those of its variables
abbrev pub StraightBodiesAreKnown : Type 0
StraightBodiesAreKnown =
    (names : NameTable) (d : Declarations) (class : ℕ) (m : JavaMethod) (s : Scope) → m.is_static ≡ true → MethodHasWords m → method d class m empty_scope ≡ Ok s
    → length m.parameters ≤ 1000 → is_straight (body_of d class m).code_ ≡ true → IsResolvedCode [] (body_of d class m).code_
    → names.variables ≡ map variable_name (body_of d class m).variables → IsKnownBody names (parameter_names d class m) (body_of d class m).code_

-- literals in range (JLS 3.10.1) are read as they are written
abbrev pub LiteralsOfCodeAreKnown : Type 0
LiteralsOfCodeAreKnown = (names : NameTable) (z : ℤ) → in_int z ≡ true → ExprKnown names (IntLiteral z)
