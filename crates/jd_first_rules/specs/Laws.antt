-- The laws of the rules: their premises are determined and few.
use Rattle.std.proofs.Common.{◌≡◌, ◌<◌, ◌≤◌, ◌^◌, List, [], ◌∷◌, length, map, Some, None, refl, sym, ap, ◌∙◌, subst, arith}
use Rattle.std.proofs.lemmas.List.{length-map}
use Rattle.jd_term.specs.Formulas.{PlainFormula, TrueFormula, Not, And, Implies}
use Rattle.jd_model.specs.declared.sequent.Side.{Side}
use Rattle.jd_model.specs.declared.sequent.Side.TheVariants.{Left, Right}
use Rattle.jd_model.specs.Sequents.{PlainSequent}
use Rattle.jd_model.specs.Places.{on_side, numbered, put_at}
use Rattle.jd_sequent.specs.Trees.{PlainStep}
use Rattle.jd_first_steps.specs.declared.rules.FirstRule.{FirstRule}
use Rattle.jd_first_steps.specs.declared.rules.FirstRule.TheVariants.{Close, CloseTrue, NotLeft, AndLeft, AndRight, ImpRight, EqRefl, SetSimple, FrameReturn, CatchEmpty, EmptyCode, Simplify}
use Rattle.jd_first_rules.specs.declared.rules.Kind.{Kind}
use Rattle.jd_first_rules.specs.declared.rules.Kind.TheVariants.{Closing, Whole, Anywhere}
use Rattle.jd_first_steps.specs.Names.{rule_name, rule_named}
use Rattle.jd_first_steps.specs.Rows.{Goal, row_goals, goal_premise}
use Rattle.jd_first_steps.specs.Rewrites.{Rewrites}
use Rattle.jd_first_rules.specs.Focus.{emptied}
use Rattle.jd_first_rules.specs.Executions.{set_executed, return_executed, catch_executed}
use Rattle.jd_first_steps.specs.Instances.{IsInstance}
use Rattle.jd_first_rules.specs.Steps.{kind_of, IsStep}
use Rattle.jd_first_rules.specs.StepKinds.{IsOfKind, of_kind}
use Rattle.jd_first_rules.specs.Places.{some_same, one_formula}

pub named_back : (r : FirstRule) → rule_named (rule_name r) ≡ Some r
named_back Close = refl
named_back CloseTrue = refl
named_back NotLeft = refl
named_back AndLeft = refl
named_back AndRight = refl
named_back ImpRight = refl
named_back EqRefl = refl
named_back SetSimple = refl
named_back FrameReturn = refl
named_back CatchEmpty = refl
named_back EmptyCode = refl
named_back Simplify = refl

pub same_rule : (p : PlainStep) (q r : FirstRule) → p.rule ≡ rule_name q → p.rule ≡ rule_name r → q ≡ r
same_rule p q r a b = some_same (sym (named_back q) ∙ ap rule_named (sym a ∙ b) ∙ named_back r)

rewrites_one_way : (rule : FirstRule) (a x y : PlainFormula) → Rewrites rule a x → Rewrites rule a y → x ≡ y
rewrites_one_way EqRefl a x y r q = r.made ∙ sym q.made
rewrites_one_way SetSimple a x y r q = some_same (sym (set_executed a x r) ∙ set_executed a y q)
rewrites_one_way FrameReturn a x y r q = some_same (sym (return_executed a x r) ∙ return_executed a y q)
rewrites_one_way CatchEmpty a x y r q = some_same (sym (catch_executed a x r) ∙ catch_executed a y q)
rewrites_one_way EmptyCode a x y r q = some_same (sym (ap emptied r.found) ∙ ap emptied q.found)
rewrites_one_way Simplify a x y r q = r.made ∙ sym q.made
rewrites_one_way rule a x y r q = absurd r

kind_one_way : (k : Kind) (rule : FirstRule) (s : PlainSequent) (p : PlainStep) (ps qs : List PlainSequent) → IsOfKind k rule s p ps → IsOfKind k rule s p qs → ps ≡ qs
kind_one_way Closing rule s p ps qs a b = a.premises ∙ sym b.premises
kind_one_way Whole rule s p ps qs a b =
    let place : a.place ≡ b.place = some_same (sym a.placed ∙ b.placed) in
    let formula : a.formula ≡ b.formula = some_same (sym a.found ∙ ap (λ q. numbered (on_side s q.side) q.index) place ∙ b.found) in
    let goals : a.goals ≡ b.goals = some_same (sym a.row ∙ ap (λ q. row_goals rule q.side a.formula) place ∙ ap (row_goals rule b.place.side) formula ∙ b.row) in
    a.premises
    ∙ ap (λ q. map (goal_premise s q.side q.index) a.goals) place
    ∙ ap (map (goal_premise s b.place.side b.place.index)) goals
    ∙ sym b.premises
kind_one_way Anywhere rule s p ps qs a b =
    let place : a.place ≡ b.place = some_same (sym a.placed ∙ b.placed) in
    let before : a.before ≡ b.before = one_formula s a.place b.place a.before b.before place a.found b.found in
    let after : a.after ≡ b.after = rewrites_one_way rule b.before a.after b.after (subst (λ f. Rewrites rule f a.after) before a.rewrites) b.rewrites in
    a.premises
    ∙ ap (λ q. put_at s q a.after ∷ []) place
    ∙ ap (λ f. put_at s b.place f ∷ []) after
    ∙ sym b.premises

pub one_way : (s : PlainSequent) (p : PlainStep) (ps qs : List PlainSequent) → IsInstance s p ps → IsInstance s p qs → ps ≡ qs
one_way s p ps qs a b =
    let same = same_rule p a.rule b.rule a.named b.named in
    kind_one_way (kind_of b.rule) b.rule s p ps qs (of_kind b.rule s p ps (subst (λ r. IsStep r s p ps) same a.step)) (of_kind b.rule s p qs b.step)

few_goals : (rule : FirstRule) (side : Side) (a : PlainFormula) (gs : List Goal) → row_goals rule side a ≡ Some gs → length gs ≤ 2
few_goals CloseTrue Right TrueFormula gs e = subst (λ l. length l ≤ 2) (some_same e) (omega arith)
few_goals NotLeft Left (Not a) gs e = subst (λ l. length l ≤ 2) (some_same e) (omega arith)
few_goals AndLeft Left (And a b) gs e = subst (λ l. length l ≤ 2) (some_same e) (omega arith)
few_goals AndRight Right (And a b) gs e = subst (λ l. length l ≤ 2) (some_same e) (omega arith)
few_goals ImpRight Right (Implies a b) gs e = subst (λ l. length l ≤ 2) (some_same e) (omega arith)
few_goals rule side a gs e = absurd (no e)
  where
    no : {x : List Goal} → None ≡ Some x → ⊥
    no h = cc

kind_few : (k : Kind) (rule : FirstRule) (s : PlainSequent) (p : PlainStep) (ps : List PlainSequent) → IsOfKind k rule s p ps → length ps ≤ 2
kind_few Closing rule s p ps a = subst (λ l. length l ≤ 2) (sym a.premises) (omega arith)
kind_few Whole rule s p ps a =
    let g = few_goals rule a.place.side a.formula a.goals a.row in
    subst (λ l. length l ≤ 2) (sym a.premises) (omega (arith, g, length-map a.goals (goal_premise s a.place.side a.place.index)))
kind_few Anywhere rule s p ps a = subst (λ l. length l ≤ 2) (sym a.premises) (omega arith)

pub few : (s : PlainSequent) (p : PlainStep) (ps : List PlainSequent) → IsInstance s p ps → length ps < 2 ^ 32
few s p ps a =
    let h = kind_few (kind_of a.rule) a.rule s p ps (of_kind a.rule s p ps a.step) in
    omega (arith, h)
