-- In a sequent that is not sorted `simplify` is not sound: {x := null}(x = null) is false where x is of sort int, and null = null is true.
use Rattle.std.proofs.Common.{◌≡◌, ◌≢◌, ℤ, [], ◌∷◌, codes, Some, refl, inr, ◌∙◌, sym}
use Rattle.jd_base.specs.declared.sort.Sort.TheVariants.{Int as IntSort}
use Rattle.jd_syntax.specs.Names.{Name}
use Rattle.jd_term.specs.Terms.{NullTerm, ProgramVariable}
use Rattle.jd_term.specs.Formulas.{PlainFormula, Equal, Updated}
use Rattle.jd_heap.specs.References.{Null}
use Rattle.jd_heap.specs.Values.{IntValue, RefValue}
use Rattle.jd_model.specs.SpecialNames.{entry_measure}
use Rattle.jd_model.specs.States.{write, empty_state}
use Rattle.jd_model.specs.declared.sequent.Side.TheVariants.{Right}
use Rattle.jd_model.specs.Sequents.{PlainSequent}
use Rattle.jd_model.proofs.Writes.{read_here}
use Rattle.jd_sequent.specs.Trees.{PlainStep}
use Rattle.jd_first_steps.specs.declared.rules.FirstRule.TheVariants.{Simplify}
use Rattle.jd_first_steps.specs.Names.{rule_name}
use Rattle.jd_first_steps.specs.Instances.{IsInstance}
use Rattle.jd_first_steps.specs.SoundSteps.{SimplifyNeedsPremise}

abbrev variable : Name
variable = record { text = codes "x"; sort = IntSort }

abbrev unsorted : PlainFormula
unsorted = Updated ((variable, NullTerm) ∷ []) (Equal (ProgramVariable variable) NullTerm)

abbrev pushed : PlainFormula
pushed = Equal NullTerm NullTerm

abbrev only : PlainFormula → PlainSequent
only a = record { left = []; right = a ∷ [] }

abbrev simplify_step : PlainStep
simplify_step = record { rule = rule_name Simplify; place = Some (record { side = Right; index = 1; path = [] }); assumes = []; insts = [] }

other_formula : pushed ≢ unsorted
other_formula e = cc

is_instance : IsInstance (only unsorted) simplify_step (only pushed ∷ [])
is_instance = record {
  rule = Simplify;
  named = refl;
  insts = refl;
  step = inr (inr (record {
    place = record { side = Right; index = 1; path = [] };
    before = unsorted;
    after = pushed;
    placed = refl;
    assumes = refl;
    found = refl;
    rewrites = record { binderless = refl; made = refl; changed = other_formula };
    premises = refl;
  }));
}

no_null : {z : ℤ} → IntValue z ≡ RefValue Null → ⊥
no_null e = cc

pub simplify_needs_premise : SimplifyNeedsPremise
simplify_needs_premise g d m sound =
    sound (only unsorted) simplify_step (only pushed ∷ []) is_instance
    ((λ i s is r. r.1.0 refl), tt)
    (write empty_state entry_measure (IntValue m)) empty_state
    (read_here empty_state entry_measure (IntValue m))
    (tt, (λ e. no_null (sym (read_here empty_state variable (RefValue Null)) ∙ e), tt))
