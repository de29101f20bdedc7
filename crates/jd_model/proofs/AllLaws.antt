-- The laws.
use Rattle.std.proofs.Common.{◌≡◌, true, List, [], ◌∷◌, ◌+◌, ◌∙◌, suc, ap, arith}
use Rattle.jd_term.specs.Occurs.{occurs_var_in, occurs_const_in, var_in_term, const_in_term}
use Rattle.jd_heap.specs.Values.{Value}
use Rattle.jd_model.specs.TermValues.{bound_at, updated, value}
use Rattle.jd_model.specs.Truth.{InvTruth, truth}
use Rattle.jd_model.specs.Laws.{AreStable, MayBeTaken, AreCoincident, AreReplaceable, AreSubstituted, AreSubstitutedBySort, AreRenamed, FocusDecides}
use Rattle.jd_model.proofs.Stable.{stable_Truth}
use Rattle.jd_model.proofs.StableCases.{stable_valid, stable_entry, stable_normal_end, stable_exceptional_end, stable_ends, stable_kept_to, stable_kept, stable_usable}
use Rattle.jd_model.proofs.Given.{taken_as_given, one_taken, branch_taken}
use Rattle.jd_model.proofs.Coincidence.{value_agree, truth_agree}
use Rattle.jd_model.proofs.Occurrences.{term_in, formula_in}
use Rattle.jd_model.proofs.Replacement.{plug_same, truth_path}
use Rattle.jd_model.proofs.Holes.{term_same, atom_same}
use Rattle.jd_model.proofs.Substitution.{ReachesTo, subst_value, subst_truth}
use Rattle.jd_model.proofs.BySort.{one_formula, one_term}
use Rattle.jd_model.proofs.Shift.{shift_truth}
use Rattle.jd_model.proofs.Renaming.{rename_value_all, rename_within_all, rename_truth_all}
use Rattle.jd_model.proofs.Contexts.{fill_alike}
use Rattle.jd_model.proofs.Modalities.{both_ways, modal_alike}

pub are_stable : AreStable
are_stable = record {
  truth = stable_Truth;
  valid = stable_valid;
  entry = λ g c k h r vs. stable_entry g true c k h r vs;
  normal_end = stable_normal_end;
  exceptional_end = stable_exceptional_end;
  ends = stable_ends;
  kept_to = stable_kept_to;
  kept = stable_kept;
  usable = stable_usable;
}

pub may_be_taken : MayBeTaken
may_be_taken = record {
  run = λ g d i s b a p c t some use_it. stable_Truth g d i s b a (λ no. some (λ e n over. no (use_it e n over)));
  some = λ g d i s b a x some use_it. one_taken (stable_Truth g d i s b a) some use_it;
  branch = λ g d i s b a x y some on_x on_y. branch_taken (stable_Truth g d i s b a) some on_x on_y;
  kept = λ p c e some use_it. taken_as_given (stable_kept p c) some use_it;
}

pub are_coincident : AreCoincident
are_coincident = record {
  of_terms = λ i j s t b a cs vs. value_agree (λ x. var_in_term x a ≡ true) (λ x. const_in_term x a ≡ true) i j s t cs vs a (term_in _ _ a (λ x e. e) (λ x e. e)) b;
  of_formulas = λ g d i j s t b a cs vs. both_ways (truth_agree g d (InvTruth g d) (λ x. occurs_var_in x a ≡ true) (λ x. occurs_const_in x a ≡ true) i j cs a (formula_in _ _ a (λ x e. e) (λ x e. e)) b s t vs);
}

pub are_replaceable : AreReplaceable
are_replaceable = record {
  of_formulas = λ g d i x y same k s b. both_ways (plug_same g d (InvTruth g d) i x y (λ s b. truth_path g d i s b x y (same s b)) k s b);
  of_terms = λ i s t u same k b. term_same i s t u same k b;
  of_terms_in_formulas = λ g d i s t u same k b. both_ways (atom_same i s t u same g d (InvTruth g d) k b);
}

one_further : (v : Value) (b : List Value) → ReachesTo (v ∷ b) 1 b
one_further v b j k = let e : 1 + j ≡ suc j = omega arith in ap (λ n. bound_at (v ∷ b) n k) e

pub are_substituted : AreSubstituted
are_substituted = record {
  shifted = λ g d i s b v a. both_ways (shift_truth g d (InvTruth g d) i (v ∷ b) b 1 (one_further v b) a [] s);
  of_terms = λ i s b t a. subst_value i s b t a [];
  of_formulas = λ g d i s b t a steady. both_ways (subst_truth g d (InvTruth g d) i b t a [] steady s);
}

pub are_substituted_by_sort : AreSubstitutedBySort
are_substituted_by_sort = record {
  of_terms = λ i s b t a other agree. ap (value i s b) (one_term t other a 0 agree) ∙ subst_value i s b t a [];
  of_formulas = λ g d i s b t a other agree steady. both_ways (ap (truth g d (InvTruth g d) i s b) (one_formula t other a 0 agree) ∙ subst_truth g d (InvTruth g d) i b t a [] steady s);
}

pub are_renamed : AreRenamed
are_renamed = record {
  of_terms = λ r i s j t cs vs a b. rename_value_all r i s j t cs vs a b;
  of_locations = λ r i s j t cs vs l b q. rename_within_all r i s j t cs vs l b q;
  of_formulas = λ r i s j t cs vs g d a o b. both_ways (rename_truth_all r i s j t cs vs g d (InvTruth g d) a o b);
}

pub focus_decides : FocusDecides
focus_decides = record {
  outcome = fill_alike;
  modality = λ g d i s b m k c e a same. both_ways (modal_alike g d (InvTruth g d) i b m k c e a s s same);
  update = λ g d i s b m k c e u a same. both_ways (modal_alike g d (InvTruth g d) i b m k c e a s (updated i s b u s) same);
}
