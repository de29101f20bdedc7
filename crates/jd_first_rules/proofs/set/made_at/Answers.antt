use Rattle.std.proofs.Common.{◌≡◌, ◌∙◌, ◌==◌, ℕ, true, false, sym, subst, arith, map, option_map}
use Rattle.std.proofs.lemmas.Bool.Decides.{nat_tests}
use Rattle.jd_term.specs.Formulas.{formula_view}
use Rattle.jd_model.specs.Sequents.{sequent_view, place_view}
use Rattle.jd_sequent.specs.Steps.{step_view}
use Rattle.jd_first_rules.specs.Steps.{kind_of}
use Rattle.jd_first_rules.specs.Results.{AssumesRightly}
use Rattle.jd_first_rules.proofs.Applying.{made_taken, empty_map, no_map}
use Rattle.jd_first_rules.proofs.Refusals.{bad_inst, no_assume}
use Rattle.jd_first_rules.proofs.set.made_at.Goals as goal

eq-zero : (n : ℕ) → (n == 0) ≡ true → n ≡ 0
eq-zero n e = grind (arith, nat_tests)

zero-eq : (n : ℕ) → n ≡ 0 → true ≡ (n == 0)
zero-eq n e = grind (arith, nat_tests)

true_false : true ≡ false → ⊥
true_false h = cc

pub returns-then-not-is_empty : goal.returns-then-not-is_empty
returns-then-not-is_empty c =
    bad_inst c.args.rule (sequent_view c.args.sequent.now) (step_view c.args.step.now) c.requires (place_view c.in-Ok.found.0.now) (formula_view c.in-Ok.found.1.now) c.in-Ok.ensures
    (made_taken (kind_of c.args.rule) c.in-Some.made c.args.rule c.in-Ok.found.0.now.side (formula_view c.in-Ok.found.1.now) (rw c.in-Some.is at c.in_ok-made.ensures))
    (no_map _ c.args.step.now.insts.items (λ none. true_false (zero-eq _ (c.args.step.now.insts.ok.0 ∙ none) ∙ sym c.is_empty.ensures ∙ c.if-not-is_empty.true)))

pub returns-then-not-assumes_rightly : goal.returns-then-not-assumes_rightly
returns-then-not-assumes_rightly c =
    no_assume c.args.rule (sequent_view c.args.sequent.now) (step_view c.args.step.now) c.requires (place_view c.in-Ok.found.0.now) (formula_view c.in-Ok.found.1.now) c.in-Ok.ensures
    (made_taken (kind_of c.args.rule) c.in-Some.made c.args.rule c.in-Ok.found.0.now.side (formula_view c.in-Ok.found.1.now) (rw c.in-Some.is at c.in_ok-made.ensures))
    (empty_map _ c.args.step.now.insts.items (sym c.args.step.now.insts.ok.0 ∙ eq-zero _ (sym c.is_empty.ensures ∙ c.if-not-is_empty.false)))
    (λ right. true_false (sym (c.assumes_rightly.ensures.1 (subst (λ l. AssumesRightly c.args.rule (sequent_view c.args.sequent.now) (map (option_map place_view) l) (formula_view c.in-Ok.found.1.now)) (sym c.deref.ensures.value) right)) ∙ c.if-not-assumes_rightly.true))

pub returns : goal.returns
returns c =
    record {
      formula = formula_view c.in-Ok.found.1.now;
      at_it = c.in-Ok.ensures;
      is_made = rw c.in-Some.is at c.in_ok-made.ensures;
      no_insts = empty_map _ c.args.step.now.insts.items (sym c.args.step.now.insts.ok.0 ∙ eq-zero _ (sym c.is_empty.ensures ∙ c.if-not-is_empty.false));
      rightly = subst (λ l. AssumesRightly c.args.rule (sequent_view c.args.sequent.now) (map (option_map place_view) l) (formula_view c.in-Ok.found.1.now)) c.deref.ensures.value (c.assumes_rightly.ensures.0 c.if-not-assumes_rightly.false);
    }
