-- What a row's conditions say, one by one: what form a step gives for a variable, or what holds.
use Rattle.std.specs.Prelude.{List, [], ◌∷◌, cond}
use Rattle.std.specs.Str.{bytes_eq}
use Rattle.jd_patterns.specs.Patterns.{SchemaVar}
use Rattle.jd_schema_trees.specs.TacletViews.{condition, given_form}
use Rattle.jd_schema_trees.specs.declared.condition.VarCond.{VarCond}
use Rattle.jd_schema_trees.specs.declared.condition.VarCond.TheVariants as conds
use Rattle.jd_taclets.specs.Conditions.{Condition}
use Rattle.jd_taclets.specs.Taclets.{AFormula, InstForm}
use Rattle.jd_row_data.specs.Data.{condition_data, form_data}
use Rattle.jd_row_data.specs.declared.data.ConditionData.{ConditionData}
use Rattle.jd_row_data.specs.declared.data.GivenData.{GivenData}

pub data Said : Type 0 where
  IsGiven : SchemaVar → InstForm → Said
  Hold : List Condition → Said

abbrev pub said : VarCond → Said
said (conds.Gives n f) = IsGiven n.items (given_form f)
said c = Hold (condition c)

abbrev pub said_of_given : GivenData → Said
said_of_given g = IsGiven g.0.now (form_data g.1)

abbrev pub said_of_condition : ConditionData → Said
said_of_condition c = Hold (condition_data c ∷ [])

-- the form that is said of the variable first
abbrev pub form_in : List Said → SchemaVar → InstForm
form_in [] n = AFormula
form_in (IsGiven m f ∷ l) n = cond (bytes_eq m n) f (form_in l n)
form_in (Hold cs ∷ l) n = form_in l n
