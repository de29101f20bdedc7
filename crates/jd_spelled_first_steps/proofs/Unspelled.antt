-- Of a variable that is called `created` an assignment becomes an update that the grammar does not spell.
use Rattle.std.proofs.Common.{Bool, None, Option, Some, [], ap, codes, false, refl, true, true≢false, ◌∷◌, ◌≡◌, ◌≢◌}
use Rattle.jd_base.specs.declared.sort.Sort.TheVariants.{Int as IntSort}
use Rattle.jd_first_steps.specs.Rewrites.{IsSetSimple}
use Rattle.jd_model.specs.Contexts.{Here, one}
use Rattle.jd_spelled_first_steps.specs.Laws.{SetSimpleNeedsTermNames}
use Rattle.jd_spelled_trees.specs.Spelled.{SpelledFormula}
use Rattle.jd_syntax.specs.Codes.{Done, Set, Variable}
use Rattle.jd_syntax.specs.Names.{Name}
use Rattle.jd_term.specs.declared.formula.Modality.TheVariants.{Necessity}
use Rattle.jd_term.specs.Formulas.{Modal, PlainFormula, TrueFormula, Updated}
use Rattle.jd_term.specs.Terms.{CreatedField, PlainTerm, ProgramVariable}
use Rattle.jd_tforms.specs.Naming.{word_term}
use Rattle.jd_tgrammar.specs.NameTables.{NameTable}

abbrev variable : Name
variable = record { text = codes "x"; sort = IntSort }

abbrev created : Name
created = record { text = codes "created"; sort = IntSort }

abbrev names : NameTable
names = record { classes = []; fields = []; routines = []; seen = λ c name. None; variables = variable ∷ (created ∷ []) }

-- x = created;
abbrev before : PlainFormula
before = Modal Necessity (one (Set variable (Variable created))) TrueFormula

abbrev after : PlainFormula
after = Updated ((variable, ProgramVariable created) ∷ []) (Modal Necessity Done TrueFormula)

step : IsSetSimple before after
step = record {
  modality = Necessity;
  context = Here Done;
  variable = variable;
  value = Variable created;
  term = ProgramVariable created;
  body = TrueFormula;
  simple = refl;
  found = refl;
  made = refl;
}

before_is_spelled : SpelledFormula names [] before
before_is_spelled = (((refl, refl), tt), refl, tt)

abbrev is_field : Option PlainTerm → Bool
is_field (Some CreatedField) = true
is_field t = false

read_as_field : word_term names [] (codes "created") ≡ Some (ProgramVariable created) → ⊥
read_as_field e = true≢false (ap is_field e)

pub set_simple_needs_term_names : SetSimpleNeedsTermNames
set_simple_needs_term_names keeps = let h = keeps names before after step before_is_spelled in read_as_field h.1.0.1.1
