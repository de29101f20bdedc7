-- Each rule on a formula at any place puts one of the same truth.
use Rattle.std.proofs.Common.{◌≡◌, Some, [], ◌∷◌, refl, sym, ap, ◌∙◌, subst}
use Rattle.std.specs.Option.{IfSome}
use Rattle.jd_syntax.specs.Names.{Name}
use Rattle.jd_syntax.specs.Codes.{Expr, IntLiteral, BoolLiteral, NullLiteral, Variable, Set, Frame, Return, Catch, PlainCode, Done, Then}
use Rattle.jd_term.specs.declared.formula.Modality.{Modality}
use Rattle.jd_term.specs.declared.formula.Modality.TheVariants as modalities
use Rattle.jd_term.specs.Terms.{PlainTerm}
use Rattle.jd_term.specs.Formulas.{PlainFormula, Modal}
use Rattle.jd_model.specs.SimpleExpressions.{IsSimple, term_of}
use Rattle.jd_model.specs.Contexts.{one}
use Rattle.jd_model.specs.Outcomes.{Normal, Returned, then, after_frame}
use Rattle.jd_model.specs.States.{write}
use Rattle.jd_model.specs.Runs.{step, exec, runner}
use Rattle.jd_model.specs.TermValues.{value, updated}
use Rattle.jd_model.specs.Truth.{InvTruth}
use Rattle.jd_model.proofs.Modalities.{both_ways, modal_alike}
use Rattle.jd_model.proofs.SimpleExpressions.{simple_eval}
use Rattle.jd_model.proofs.Stable.{stable_Truth}
use Rattle.jd_update_truth.specs.SortedFormulas.{SortedFormula}
use Rattle.jd_update_truth.proofs.AllLaws.{simplified_formula}
use Rattle.jd_first_steps.specs.declared.rules.FirstRule.{FirstRule}
use Rattle.jd_first_steps.specs.declared.rules.FirstRule.TheVariants.{EqRefl, SetSimple, FrameReturn, CatchEmpty, EmptyCode, Simplify}
use Rattle.jd_first_steps.specs.Rewrites.{simple_term, Rewrites}
use Rattle.jd_first_steps.specs.SoundSteps.{SameTruth, RunsAfter, FocusKeepsTruth}
use Rattle.jd_first_steps.proofs.Options.{if_found}

-- an expression that has a term is simple, and the term is its own
abbrev HasTerm : Expr → PlainTerm → Type 0
HasTerm e t = IsSimple e × (term_of e ≡ t)

has_term : (e : Expr) → IfSome (simple_term e) (HasTerm e)
has_term (IntLiteral n) = (tt, refl)
has_term (BoolLiteral n) = (tt, refl)
has_term NullLiteral = (tt, refl)
has_term (Variable x) = (tt, refl)
has_term e = tt

term_found : (e : Expr) (t : PlainTerm) → simple_term e ≡ Some t → HasTerm e t
term_found e t is = if_found (HasTerm e) (simple_term e) t is (has_term e)

-- formulas that are these two have the same truth where these two have
same_there : {before after a c : PlainFormula} → before ≡ a → after ≡ c → SameTruth a c → SameTruth before after
same_there {before} {after} {a} {c} is made h = subst (λ x. SameTruth x after) (sym is) (subst (SameTruth a) (sym made) h)

pub focus_keeps_truth : FocusKeepsTruth
focus_keeps_truth = record {
  alone = λ m k c e a runs g d i s b. both_ways (modal_alike g d (InvTruth g d) i b m k c e a s s (runs g i s b));
  after_update = λ m k u c e a runs g d i s b. both_ways (modal_alike g d (InvTruth g d) i b m k c e a s (updated i s b u s) (runs g i s b));
}

set_runs : (x : Name) (e : Expr) → IsSimple e → RunsAfter ((x, term_of e) ∷ []) (one (Set x e)) Done
set_runs x e o g i s b f n = ap (λ r. then (then r (λ v t. Normal tt (write t x v))) (λ _ t. Normal tt t)) (simple_eval g.program i b (runner g.program f n) n e o s)

return_runs : (x : Name) (e : Expr) (rest : PlainCode) → IsSimple e → RunsAfter [] (one (Frame (Some x) (Then (Return e) rest))) (one (Set x e))
return_runs x e rest o g i s b f n =
    ap (λ r. then (after_frame (Some x) (then r (λ _ t. exec g.program (runner g.program f n) n rest t))) (λ _ t. Normal tt t)) leaves
    ∙ sym (set_runs x e o g i s b f n)
  where
    leaves : step g.program (runner g.program f n) n (Return e) s ≡ Returned (Some (value i s b (term_of e))) s
    leaves = ap (λ r. then r (λ v t. Returned (Some v) t)) (simple_eval g.program i b (runner g.program f n) n e o s)

empty_code : (m : Modality) (a : PlainFormula) → SameTruth (Modal m Done a) a
empty_code modalities.Necessity a g d i s b = (λ h. h 0, λ h n. h)
empty_code modalities.Possibility a g d i s b = (λ h. stable_Truth g d i s b a (λ f. h (λ e n. f)), λ h f. f 0 0 h)

pub rewrites_keep_truth : (rule : FirstRule) (before after : PlainFormula) → SortedFormula before → Rewrites rule before after → SameTruth before after
rewrites_keep_truth EqRefl before after w r = same_there r.found r.made (λ g d i s b. (λ h. tt, λ h. refl))
rewrites_keep_truth SetSimple before after w r =
    let o = term_found r.value r.term r.simple in
    same_there r.found r.made (focus_keeps_truth.after_update r.modality r.context ((r.variable, r.term) ∷ []) (one (Set r.variable r.value)) Done r.body (subst (λ t. RunsAfter ((r.variable, t) ∷ []) (one (Set r.variable r.value)) Done) o.1 (set_runs r.variable r.value o.0)))
rewrites_keep_truth FrameReturn before after w r = same_there r.found r.made (focus_keeps_truth.alone r.modality r.context (one (Frame (Some r.variable) (Then (Return r.value) r.dropped))) (one (Set r.variable r.value)) r.body (return_runs r.variable r.value r.dropped (term_found r.value r.term r.simple).0))
rewrites_keep_truth CatchEmpty before after w r = same_there r.found r.made (focus_keeps_truth.alone r.modality r.context (one (Catch Done r.variable r.handler)) Done r.body (λ g i s b f n. refl))
rewrites_keep_truth EmptyCode before after w r = subst (λ x. SameTruth x after) (sym r.found) (empty_code r.modality after)
rewrites_keep_truth Simplify before after w r = subst (SameTruth before) (sym r.made) (λ g d i s b. let h = simplified_formula g d i s b before w in (h.1, h.0))
rewrites_keep_truth rule before after w r = absurd r
