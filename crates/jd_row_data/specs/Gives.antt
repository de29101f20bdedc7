-- What makers are given, and what they give: views of what was made, where there was memory.
use Rattle.std.specs.Prelude.{IfOk, List, Ok, Option, map, option_map, ◌++◌, ◌≡◌, ◌∷◌, [], ℕ}
use Rattle.std.specs.Global.{Vec}
use Rattle.std.specs.declared.result.Result.{Result}
use Rattle.jd_base.specs.declared.memory.NoMemory.{NoMemory}
use Rattle.jd_patterns.specs.Patterns.{FormulaPattern, SortPattern, TermPattern}
use Rattle.jd_schema_trees.specs.FormulaViews.{formula_pattern}
use Rattle.jd_schema_trees.specs.HeadViews.{sort_pattern}
use Rattle.jd_model.specs.declared.sequent.Side.{Side}
use Rattle.jd_schema_trees.specs.TacletViews.{assumption, calculation, given_form, goal, pattern}
use Rattle.jd_schema_trees.specs.TermViews.{term_pattern}
use Rattle.jd_schema_trees.specs.declared.condition.Calculation.{Calculation}
use Rattle.jd_schema_trees.specs.declared.condition.GivenForm.{GivenForm}
use Rattle.jd_schema_trees.specs.declared.condition.VarCond.{VarCond}
use Rattle.jd_schema_trees.specs.declared.formula.SFormula.{SFormula}
use Rattle.jd_schema_trees.specs.declared.heads.SSort.{SSort}
use Rattle.jd_schema_trees.specs.declared.taclet.InstVar.{InstVar}
use Rattle.jd_schema_trees.specs.declared.taclet.Pattern.{Pattern}
use Rattle.jd_schema_trees.specs.declared.taclet.TacletGoal.{TacletGoal}
use Rattle.jd_schema_trees.specs.declared.term.STerm.{STerm}
use Rattle.jd_taclets.specs.Conditions as plain
use Rattle.jd_taclets.specs.Taclets as rows
use Rattle.jd_taclets.specs.Taclets.{InstForm}
use Rattle.jd_row_data.specs.Names.{inst_name}
use Rattle.jd_row_data.specs.Said.{Said, said}

abbrev pub GivesName : Result (Vec ℕ) NoMemory → List ℕ → Type 0
GivesName r n = IfOk r (λ v. v.items ≡ n)

abbrev pub GivesSort : Result SSort NoMemory → SortPattern → Type 0
GivesSort r s = IfOk r (λ x. sort_pattern x ≡ s)

abbrev pub GivesTerm : Result STerm NoMemory → TermPattern → Type 0
GivesTerm r t = IfOk r (λ x. term_pattern x ≡ t)

abbrev pub GivesFormula : Result SFormula NoMemory → FormulaPattern → Type 0
GivesFormula r a = IfOk r (λ x. formula_pattern x ≡ a)

abbrev pub GivesNumber : Result Calculation NoMemory → plain.Calculation → Type 0
GivesNumber r c = IfOk r (λ x. calculation x ≡ c)

abbrev pub GivesForm : Result GivenForm NoMemory → InstForm → Type 0
GivesForm r f = IfOk r (λ x. given_form x ≡ f)

abbrev pub Says : Result VarCond NoMemory → Said → Type 0
Says r s = IfOk r (λ x. said x ≡ s)

abbrev pub GivesPattern : Result (Option Pattern) NoMemory → Option rows.Pattern → Type 0
GivesPattern r p = IfOk r (λ x. option_map pattern x ≡ p)

abbrev pub GivesGoals : Result (Vec TacletGoal) NoMemory → List rows.TacletGoal → Type 0
GivesGoals r l = IfOk r (λ v. map goal v.items ≡ l)

abbrev pub GivesGoal : Result TacletGoal NoMemory → rows.TacletGoal → Type 0
GivesGoal r n = IfOk r (λ x. goal x ≡ n)

abbrev pub GivesFormulas : Result (Vec SFormula) NoMemory → List FormulaPattern → Type 0
GivesFormulas r l = IfOk r (λ v. map formula_pattern v.items ≡ l)

abbrev pub GivesAssumption : Result (Side × SFormula) NoMemory → Side × FormulaPattern → Type 0
GivesAssumption r a = IfOk r (λ x. assumption x ≡ a)

abbrev pub GivesAssumptions : Result (Vec (Side × SFormula)) NoMemory → List (Side × FormulaPattern) → Type 0
GivesAssumptions r l = IfOk r (λ v. map assumption v.items ≡ l)

abbrev pub GivesVariable : Result InstVar NoMemory → List ℕ → Type 0
GivesVariable r n = IfOk r (λ x. inst_name x ≡ n)

abbrev pub GivesVariables : Result (Vec InstVar) NoMemory → List (List ℕ) → Type 0
GivesVariables r l = IfOk r (λ v. map inst_name v.items ≡ l)

abbrev pub SayAll : Result (Vec VarCond) NoMemory → List Said → Type 0
SayAll r l = IfOk r (λ v. map said v.items ≡ l)

-- a list with one more item
abbrev pub IsAdded : {A : Type 0} → Result (Vec A) NoMemory → Result A NoMemory → Vec A → Type 0
IsAdded items item v = (old : _) × (x : _) × (items ≡ Ok old) × (item ≡ Ok x) × (v.items ≡ old.items ++ x ∷ [])
