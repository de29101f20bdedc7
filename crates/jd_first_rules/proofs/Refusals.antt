-- The least cause of a refusal: the causes below it do not hold, since what they ask for was found.
use Rattle.std.proofs.Common.{◌≡◌, ◌≢◌, ℕ, suc, ◌<◌, ◌⊎◌, inl, inr, List, [], All, Some, sym, subst, arith}
use Rattle.std.proofs.lemmas.Bool.{cases_order}
use Rattle.jd_term.specs.Formulas.{PlainFormula}
use Rattle.jd_model.specs.Sequents.{PlainSequent, PlainPlace}
use Rattle.jd_model.specs.Places.{Part, FormulaPart, at_place}
use Rattle.jd_sequent.specs.Trees.{PlainStep}
use Rattle.jd_sequent.specs.Limits.{IsWithinLimits}
use Rattle.jd_sequent.specs.Rules.{IsLeastCause}
use Rattle.jd_first_steps.specs.declared.rules.FirstRule.{FirstRule}
use Rattle.jd_first_steps.specs.declared.rules.FirstRule.TheVariants.{Close}
use Rattle.jd_first_steps.specs.Names.{rule_name}
use Rattle.jd_first_steps.specs.Instances.{IsInstance}
use Rattle.jd_first_rules.specs.Steps.{kind_of}
use Rattle.jd_first_rules.specs.Causes.{IsNotTaken, IsAssumed, AssumesWrongly, Cause}
use Rattle.jd_first_rules.specs.Results.{IsAt, AssumesRightly}
use Rattle.jd_first_rules.specs.Places.{formula_same}
use Rattle.jd_first_rules.specs.NoCause.{formula_there, place_there, right_kind, matched, instance_refutes}

-- no cause with a smaller number, from 1 on
abbrev NoneBelow : (ℕ → Type 0) → ℕ → Type 0
NoneBelow cause n = (k : ℕ) → 0 < k → k < n → cause k → ⊥

first : (cause : ℕ → Type 0) → NoneBelow cause 1
first cause k some lt c = omega (arith, some, lt)

next : (cause : ℕ → Type 0) (n : ℕ) → NoneBelow cause n → (cause n → ⊥) → NoneBelow cause (suc n)
next cause n below none k some lt c = by (cases_order k n)
  where
    by : (k ≡ n) ⊎ ((k < n) ⊎ (n < k)) → ⊥
    by (inl e) = none (subst cause e c)
    by (inr (inl less)) = below k some less c
    by (inr (inr more)) = omega (arith, lt, more)

wrongly : (rule : FirstRule) (s : PlainSequent) (p : PlainStep) (place : PlainPlace) (a : PlainFormula) → IsAt rule s p place a → (AssumesRightly rule s p.assumes a → ⊥) → AssumesWrongly rule s p
wrongly Close s p place a at wrong = λ b is. record {
  place = place;
  part = FormulaPart a;
  placed = at.placed;
  found = at.found;
  holds = λ e. wrong (subst (IsAssumed s p.assumes) (sym (formula_same e)) is);
}
wrongly rule s p place a at wrong = wrong

pub too_large : (s : PlainSequent) (p : PlainStep) (ps : List PlainSequent) → IsInstance s p ps → (All IsWithinLimits ps → ⊥) → IsLeastCause (Cause s p) 13
too_large s p ps is passes =
    (record { premises = ps; is = is; passes = passes }, λ k some lt c. instance_refutes s p ps is k (λ t e. omega (arith, lt, e)) c)

module _ (rule : FirstRule) (s : PlainSequent) (p : PlainStep) (named : p.rule ≡ rule_name rule) where
  below_formula : NoneBelow (Cause s p) 2
  below_formula = next (Cause s p) 1 (first (Cause s p)) (λ c. c rule named)

  below_kind : (place : PlainPlace) (part : Part) → p.place ≡ Some place → at_place s place ≡ Some part → NoneBelow (Cause s p) 4
  below_kind place part placed found =
      next (Cause s p) 3 (next (Cause s p) 2 below_formula (formula_there s p place part placed found)) (place_there s p place part placed found)

  module _ (place : PlainPlace) (a : PlainFormula) (at : IsAt rule s p place a) where
    below_match : NoneBelow (Cause s p) 5
    below_match = next (Cause s p) 4 (below_kind place (FormulaPart a) at.placed at.found) (right_kind rule s p place a named at)

    module _ (taken : IsNotTaken (kind_of rule) rule place.side a → ⊥) where
      below_inst : NoneBelow (Cause s p) 7
      below_inst = next (Cause s p) 6 (next (Cause s p) 5 below_match (matched rule s p place a named at taken)) (λ c. c)

      pub bad_inst : p.insts ≢ [] → IsLeastCause (Cause s p) 7
      bad_inst given = (given, below_inst)

      pub no_assume : p.insts ≡ [] → (AssumesRightly rule s p.assumes a → ⊥) → IsLeastCause (Cause s p) 8
      no_assume none wrong =
          (record { rule = rule; named = named; holds = wrongly rule s p place a at wrong }, next (Cause s p) 7 below_inst (λ given. given none))
