use Rattle.std.proofs.Common.{Bool, false, ◌∙◌, ◌++◌, [], ◌∷◌, ◌<◌, ap, arith, option_map, length, sym, ◌==◌, ◌≡◌, true, ℕ, refl}
use Rattle.std.proofs.lemmas.Bool.Decides.{nat_tests}
use Rattle.jd_sequent.specs.Steps.{step_view, boxed_view}
use Rattle.jd_sequent.specs.Obligations.{task_view}
use Rattle.jd_replay.proofs.Refused.{refused_turn}
use Rattle.jd_replay.proofs.Turns.{boxed_step, start_turn, at_turn, stack_some, open_turn, step_turn, miscounted_turn, end_turn, nothing_left}
use Rattle.jd_replay.proofs.Going.{each_of_all}
use Rattle.jd_replay.proofs.walk.replayed.Goals as goal

pub loop-i-init : goal.loop-i-init
loop-i-init g c =
    record {
      going = start_turn _ _ _ _ c.args.goal _ _ _ c.requires (c.in_ok-push.ensures.items ∙ ap (λ l. l ++ c.args.goal ∷ []) c.new-stack.ensures.items) c.new-goals.ensures.items refl c.args.script.now.is_one_tree;
      below = omega arith;
    }

pub unreachable-requires : goal.unreachable-requires
unreachable-requires g c =
    let some : 0 < length c.loop-i.stack.items = stack_some _ _ _ _ _ _ _ _ _ _ _ _ c.deref-node-items.ensures.value c.node-item.is c.loop-i-test.true c.loop-i.invariant.going in
    let none = c.in_default.ensures in
    omega (arith, some, none.cases.0, c.loop-i.stack.ok.0)

pub loop-i-preserved-in_default-step : goal.loop-i-preserved-in_default-step
loop-i-preserved-in_default-step g c =
    let now = at_turn _ _ _ _ _ _ _ _ c.node-item.result _ _ c.in-Some.sequent _ _ c.deref-node-items.ensures.value c.node-item.is c.loop-i-test.true c.in-Some.ensures.items c.loop-i.invariant.going in
    record {
      going = open_turn _ _ _ _ _ _ _ c.in-Some.sequent _ _ _ _ (ap (option_map boxed_view) c.in_default-step.is) c.in_ok-push-2.ensures.items now;
      below = omega arith;
    }

pub returns-in-Err : goal.returns-in-Err
returns-in-Err g c =
    let now = at_turn _ _ _ _ _ _ _ _ c.node-item.result _ _ c.in-Some.sequent _ _ c.deref-node-items.ensures.value c.node-item.is c.loop-i-test.true c.in-Some.ensures.items c.loop-i.invariant.going in
    refused_turn _ _ _ _ _ _ _ (step_view c.deref.result.now) _ _ _ _ c.in-Err.bad c.refused.result (boxed_step _ _ _ c.in-Some-step.is c.deref.ensures) c.in-Err.ensures c.refused.ensures now

pub returns-then-count-node : goal.returns-then-count-node
returns-then-count-node g c =
    let now = at_turn _ _ _ _ _ _ _ _ c.node-item.result _ _ c.in-Some.sequent _ _ c.deref-node-items.ensures.value c.node-item.is c.loop-i-test.true c.in-Some.ensures.items c.loop-i.invariant.going in
    let many : c.len-count.result ≡ length c.in-Ok.premises.items = omega (arith, c.in-Ok.premises.ok.0, c.len-count.ensures) in
    miscounted_turn _ _ _ _ _ _ _ (step_view c.deref.result.now) _ c.in-Ok.premises.items _ _ _ _ (boxed_step _ _ _ c.in-Some-step.is c.deref.ensures) c.in-Ok.ensures many (λ e. omega (arith, e, c.if-count-node.true)) now

pub loop-i-preserved : goal.loop-i-preserved
loop-i-preserved g c =
    let now = at_turn _ _ _ _ _ _ _ _ c.node-item.result _ _ c.in-Some.sequent _ _ c.deref-node-items.ensures.value c.node-item.is c.loop-i-test.true c.in-Some.ensures.items c.loop-i.invariant.going in
    record {
      going = step_turn _ _ _ _ _ _ _ (step_view c.deref.result.now) _ c.in-Ok.premises.items _ _ _ _ _ (boxed_step _ _ _ c.in-Some-step.is c.deref.ensures) c.in-Ok.ensures (each_of_all _ _ (g.met.R.RuleSet.keeps c.args.rules.now (task_view c.args.task.now) _ _ _ now.taken.0 c.in-Ok.ensures)) (omega (arith, c.in-Ok.premises.ok.0, c.len-count.ensures, c.if-count-node.false)) c.in_ok-push_premises.ensures refl now;
      below = omega arith;
    }

eq-zero : (n : ℕ) → (n == 0) ≡ true → n ≡ 0
eq-zero n e = grind (arith, nat_tests)

pub returns-then-is_empty : goal.returns-then-is_empty
returns-then-is_empty g c =
    let done = end_turn _ _ _ _ _ _ _ _ _ _ _ c.deref-node-items.ensures.value c.loop-i-test.false c.loop-i.invariant.going in
    (nothing_left _ _ _ c.loop-i.goals.items (sym c.loop-i.goals.ok.0 ∙ eq-zero _ (sym c.is_empty.ensures ∙ c.if-is_empty.true)) done.0, done.1)

true_not_false : true ≡ false → ⊥
true_not_false h = cc

zero-eq : (n : ℕ) → n ≡ 0 → {b : Bool} → b ≡ (n == 0) → b ≡ false → true ≡ false
zero-eq n z is none = sym (is ∙ grind (arith, nat_tests)) ∙ none

positive : (n : ℕ) → (n ≡ 0 → ⊥) → 0 < n
positive n h = omega arith

pub returns : goal.returns
returns g c =
    let done = end_turn _ _ _ _ _ _ _ _ _ _ _ c.deref-node-items.ensures.value c.loop-i-test.false c.loop-i.invariant.going in
    let some = c.if-is_empty.false in
    let is = c.is_empty.ensures in
    (done.0, positive _ (λ e. true_not_false (zero-eq _ (c.loop-i.goals.ok.0 ∙ e) is some)))
