-- When a name is new for a sequent of an obligation.
use Rattle.std.specs.Prelude.{◌≡◌, ◌||◌, Bool, false, List, [], ◌∷◌}
use Rattle.std.specs.List.{list_any}
use Rattle.jd_base.specs.declared.sort.Sort.TheVariants.{Int as IntSort, Bool as BoolSort, Ref as RefSort}
use Rattle.jd_syntax.specs.Names.{Name}
use Rattle.jd_syntax.specs.CodeNames.{same_name, heap_name, named_in_code}
use Rattle.jd_term.specs.Occurs.{occurs_var_in, occurs_const_in}
use Rattle.jd_model.specs.ContractForms.{PlainBody}
use Rattle.jd_model.specs.SpecialNames.{thrown_variable, result_variable}
use Rattle.jd_model.specs.Sequents.{PlainSequent}
use Rattle.jd_model.specs.Occurrences.{member}
use Rattle.jd_sequent.specs.Obligations.{PlainObligation, PlainTask}

-- the special variables: they count as standing in every sequent
abbrev pub special_variables : List Name
special_variables = heap_name ∷ result_variable IntSort ∷ result_variable BoolSort ∷ result_variable RefSort ∷ thrown_variable ∷ []

-- a variable stands in a formula of the sequent: it is read, assigned, or stands on the left of an update
abbrev pub variable_stands_in : PlainSequent → Name → Bool
variable_stands_in s x = list_any (occurs_var_in x) s.left || list_any (occurs_var_in x) s.right

-- a constant does
abbrev pub constant_stands_in : PlainSequent → Name → Bool
constant_stands_in s c = list_any (occurs_const_in c) s.left || list_any (occurs_const_in c) s.right

-- a new variable stands nowhere in the sequent and is not special
pub record IsNewVariable (s : PlainSequent) (x : Name) : Type 0 where
  pub absent : variable_stands_in s x ≡ false
  pub not_special : member x special_variables ≡ false

-- and it stands in no body
abbrev pub IsInNoBody : PlainTask → Name → Type 0
IsInNoBody t x = list_any (λ (b : PlainBody). named_in_code x b.code) t.contracts.bodies ≡ false

-- a new constant stands nowhere in the sequent and is no constant of the obligation
pub record IsNewConstant (o : PlainObligation) (s : PlainSequent) (c : Name) : Type 0 where
  pub absent : constant_stands_in s c ≡ false
  pub not_known : list_any (λ k. same_name c k) o.consts ≡ false
