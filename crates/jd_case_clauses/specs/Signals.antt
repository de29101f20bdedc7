-- What clauses say of what is thrown.
use Rattle.std.specs.Prelude.{ℕ, List, [], ◌∷◌, map}
use Rattle.jd_syntax.specs.SpecTrees.{PlainClause, Signals, SignalsOnly}
use Rattle.jd_term.specs.Formulas.{PlainFormula, Implies}
use Rattle.jd_bodies.specs.Declarations.{Declarations}
use Rattle.jd_bodies.specs.declared.value.ValueType.{ValueType}
use Rattle.jd_model.specs.Programs.{Program}
use Rattle.jd_case_rows.specs.Rows.{instance_of_thrown, only_member}
use Rattle.jd_jml_formulas.specs.Meant.{formula_meant}
use Rattle.jd_jml_meaning.specs.Meaning.{Now}
use Rattle.jd_jml_meaning.specs.Translation.{Spelling}
use Rattle.jd_specifications.specs.Resolution.{Entry}
use Rattle.jd_specifications.specs.WrittenCases.{class_of, with_exception}

-- where what was thrown is of the class, what the clause says, with what was thrown under its name
abbrev pub signalled_in : Program → Declarations → ℕ → ValueType → Spelling → List Entry → PlainClause → List PlainFormula
signalled_in p d class r sp es (Signals at c x e) = Implies (instance_of_thrown (class_of d c)) (formula_meant p d class r sp Now (with_exception d x (class_of d c) es) e) ∷ []
signalled_in p d class r sp es c = []

-- that what was thrown is of one of the classes
abbrev pub only_in : Declarations → PlainClause → List PlainFormula
only_in d (SignalsOnly at xs) = only_member (map (class_of d) xs) ∷ []
only_in d c = []
