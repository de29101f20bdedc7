-- Which of the three kinds of steps a rule has.
use Rattle.std.proofs.Common.{◌≡◌, List, None, Some, ⊎_elim, inl, inr}
use Rattle.jd_model.specs.Sequents.{PlainSequent}
use Rattle.jd_sequent.specs.Trees.{PlainStep}
use Rattle.jd_first_steps.specs.declared.rules.FirstRule.{FirstRule}
use Rattle.jd_first_steps.specs.declared.rules.FirstRule.TheVariants.{Close, CloseTrue, NotLeft, AndLeft, AndRight, ImpRight, EqRefl, SetSimple, FrameReturn, CatchEmpty, EmptyCode, Simplify}
use Rattle.jd_first_rules.specs.declared.rules.Kind.{Kind}
use Rattle.jd_first_rules.specs.declared.rules.Kind.TheVariants.{Closing, Whole, Anywhere}
use Rattle.jd_first_steps.specs.Instances.{IsClose, IsRow, IsRewrite}
use Rattle.jd_first_rules.specs.Steps.{kind_of, IsStep}

-- what a step of a kind is
abbrev pub IsOfKind : Kind → FirstRule → PlainSequent → PlainStep → List PlainSequent → Type 0
IsOfKind Closing rule s p ps = IsClose rule s p ps
IsOfKind Whole rule s p ps = IsRow rule s p ps
IsOfKind Anywhere rule s p ps = IsRewrite rule s p ps

none_some : {A : Type 0} {x : A} → None ≡ Some x → ⊥
none_some h = cc

pub to_step : (k : Kind) (rule : FirstRule) (s : PlainSequent) (p : PlainStep) (ps : List PlainSequent) → IsOfKind k rule s p ps → IsStep rule s p ps
to_step Closing rule s p ps h = inl h
to_step Whole rule s p ps h = inr (inl h)
to_step Anywhere rule s p ps h = inr (inr h)

not_close : {rule : FirstRule} {C : Type 0} → (rule ≡ Close → ⊥) → (s : PlainSequent) (p : PlainStep) (ps : List PlainSequent) → IsClose rule s p ps → C
not_close other s p ps r = absurd (other r.is)

whole : (rule : FirstRule) (s : PlainSequent) (p : PlainStep) (ps : List PlainSequent) → (rule ≡ Close → ⊥) → (IsRewrite rule s p ps → ⊥) → IsStep rule s p ps → IsRow rule s p ps
whole rule s p ps other none h = ⊎_elim (λ c. absurd (other c.is)) (λ r. ⊎_elim (λ a. a) (λ b. absurd (none b)) r) h

anywhere : (rule : FirstRule) (s : PlainSequent) (p : PlainStep) (ps : List PlainSequent) → (rule ≡ Close → ⊥) → (IsRow rule s p ps → ⊥) → IsStep rule s p ps → IsRewrite rule s p ps
anywhere rule s p ps other none h = ⊎_elim (λ c. absurd (other c.is)) (λ r. ⊎_elim (λ a. absurd (none a)) (λ b. b) r) h

pub of_kind : (rule : FirstRule) (s : PlainSequent) (p : PlainStep) (ps : List PlainSequent) → IsStep rule s p ps → IsOfKind (kind_of rule) rule s p ps
of_kind Close s p ps h = ⊎_elim (λ c. c) (λ r. ⊎_elim (λ a. absurd (none_some a.row)) (λ b. absurd b.rewrites) r) h
of_kind CloseTrue s p ps h = whole CloseTrue s p ps (λ e. (cc)) (λ b. b.rewrites) h
of_kind NotLeft s p ps h = whole NotLeft s p ps (λ e. (cc)) (λ b. b.rewrites) h
of_kind AndLeft s p ps h = whole AndLeft s p ps (λ e. (cc)) (λ b. b.rewrites) h
of_kind AndRight s p ps h = whole AndRight s p ps (λ e. (cc)) (λ b. b.rewrites) h
of_kind ImpRight s p ps h = whole ImpRight s p ps (λ e. (cc)) (λ b. b.rewrites) h
of_kind EqRefl s p ps h = anywhere EqRefl s p ps (λ e. (cc)) (λ a. none_some a.row) h
of_kind SetSimple s p ps h = anywhere SetSimple s p ps (λ e. (cc)) (λ a. none_some a.row) h
of_kind FrameReturn s p ps h = anywhere FrameReturn s p ps (λ e. (cc)) (λ a. none_some a.row) h
of_kind CatchEmpty s p ps h = anywhere CatchEmpty s p ps (λ e. (cc)) (λ a. none_some a.row) h
of_kind EmptyCode s p ps h = anywhere EmptyCode s p ps (λ e. (cc)) (λ a. none_some a.row) h
of_kind Simplify s p ps h = anywhere Simplify s p ps (λ e. (cc)) (λ a. none_some a.row) h
