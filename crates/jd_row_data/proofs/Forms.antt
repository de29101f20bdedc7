-- What a row's conditions say, as the row has it.
use Rattle.std.proofs.Common.{List, ap, cond, flat_map, map, refl, ◌++◌, ◌≡◌, ◌∙◌, ◌∷◌, []}
use Rattle.std.specs.Str.{bytes_eq}
use Rattle.jd_patterns.specs.Patterns.{SchemaVar}
use Rattle.jd_schema_trees.specs.TacletViews.{condition, form_by, form_said, inst_var}
use Rattle.jd_schema_trees.specs.declared.condition.VarCond.{VarCond}
use Rattle.jd_schema_trees.specs.declared.condition.VarCond.TheVariants as conds
use Rattle.jd_schema_trees.specs.declared.taclet.InstVar.{InstVar}
use Rattle.jd_taclets.specs.Conditions.{Condition}
use Rattle.jd_taclets.specs.Taclets as rows
use Rattle.jd_taclets.specs.Taclets.{InstForm}
use Rattle.jd_row_data.specs.Data.{condition_data, form_among, form_data, given_data}
use Rattle.jd_row_data.specs.Names.{given_name, inst_name}
use Rattle.jd_row_data.specs.Said.{Hold, IsGiven, Said, form_in, said, said_of_condition, said_of_given}
use Rattle.jd_row_data.specs.declared.data.ConditionData.{ConditionData}
use Rattle.jd_row_data.specs.declared.data.GivenData.{GivenData}

-- ---- of the conditions that were made

abbrev form_of : Said → SchemaVar → InstForm → InstForm
form_of (IsGiven m f) n g = cond (bytes_eq m n) f g
form_of (Hold cs) n g = g

one_form : (c : VarCond) (n : SchemaVar) (g : InstForm) → form_by c n g ≡ form_of (said c) n g
one_form (conds.Gives m f) n g = refl
one_form c n g = refl

forms_in : (s : Said) (l : List Said) (n : SchemaVar) → form_of s n (form_in l n) ≡ form_in (s ∷ l) n
forms_in (IsGiven m f) l n = refl
forms_in (Hold cs) l n = refl

all_forms : (cs : List VarCond) (n : SchemaVar) → form_said cs n ≡ form_in (map said cs) n
all_forms [] n = refl
all_forms (c ∷ cs) n = ap (form_by c n) (all_forms cs n) ∙ one_form c n (form_in (map said cs) n) ∙ forms_in (said c) (map said cs) n

abbrev holding : Said → List Condition
holding (IsGiven m f) = []
holding (Hold cs) = cs

one_holding : (c : VarCond) → condition c ≡ holding (said c)
one_holding (conds.Gives m f) = refl
one_holding c = refl

all_holding : (cs : List VarCond) → flat_map condition cs ≡ flat_map holding (map said cs)
all_holding [] = refl
all_holding (c ∷ cs) = ap (λ l. l ++ flat_map condition cs) (one_holding c) ∙ ap (λ l. holding (said c) ++ l) (all_holding cs)

-- ---- of the data

forms_of_data : (gs : List GivenData) (cs : List ConditionData) (n : SchemaVar) → form_in (map said_of_given gs ++ map said_of_condition cs) n ≡ form_among gs n
forms_of_data [] [] n = refl
forms_of_data [] (c ∷ cs) n = forms_of_data [] cs n
forms_of_data (g ∷ gs) cs n = ap (cond (bytes_eq g.0.now n) (form_data g.1)) (forms_of_data gs cs n)

held_by_data : (gs : List GivenData) (cs : List ConditionData) → flat_map holding (map said_of_given gs ++ map said_of_condition cs) ≡ map condition_data cs
held_by_data [] [] = refl
held_by_data [] (c ∷ cs) = ap (λ l. condition_data c ∷ l) (held_by_data [] cs)
held_by_data (g ∷ gs) cs = held_by_data gs cs

-- ---- together

module _ (gs : List GivenData) (cs : List ConditionData) (made : List VarCond) (is : map said made ≡ map said_of_given gs ++ map said_of_condition cs) where
  pub conditions_are : flat_map condition made ≡ map condition_data cs
  conditions_are = all_holding made ∙ ap (flat_map holding) is ∙ held_by_data gs cs

  form_is : (n : SchemaVar) → form_said made n ≡ form_among gs n
  form_is n = all_forms made n ∙ ap (λ l. form_in l n) is ∙ forms_of_data gs cs n

  abbrev given_by : SchemaVar → rows.InstVar
  given_by n = record { name = n; form = form_among gs n }

  one_var : (n : SchemaVar) → let v : rows.InstVar = record { name = n; form = form_said made n } in v ≡ given_by n
  one_var n = ap (λ f. let v : rows.InstVar = record { name = n; form = f } in v) (form_is n)

  by_names : (vs : List InstVar) → map (inst_var made) vs ≡ map given_by (map inst_name vs)
  by_names [] = refl
  by_names (v ∷ vs) = ap (λ x. x ∷ map (inst_var made) vs) (one_var (inst_name v)) ∙ ap (λ l. given_by (inst_name v) ∷ l) (by_names vs)

  of_names : (l : List GivenData) → map given_by (map given_name l) ≡ map (given_data gs) l
  of_names [] = refl
  of_names (g ∷ l) = ap (λ x. given_data gs g ∷ x) (of_names l)

  pub variables_are : (vs : List InstVar) → map inst_name vs ≡ map given_name gs → map (inst_var made) vs ≡ map (given_data gs) gs
  variables_are vs same = by_names vs ∙ ap (map given_by) same ∙ of_names gs
