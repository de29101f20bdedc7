-- The premises of an instance are determined.
use Rattle.std.proofs.Common.{◌≡◌, ℕ, Some, [], ◌∷◌, sym, ap, ◌∙◌}
use Rattle.jd_syntax.specs.Codes.{Expr, Stmt, While, PlainCode}
use Rattle.jd_term.specs.declared.formula.Modality.{Modality}
use Rattle.jd_term.specs.Formulas.{PlainFormula, Modal}
use Rattle.jd_model.specs.Contexts.{Context}
use Rattle.jd_model.specs.Places.{put_at}
use Rattle.jd_model.specs.InnermostFocus.{innermost_focus}
use Rattle.jd_loop.specs.LoopNames.{loop_names}
use Rattle.jd_loop.specs.LoopPremises.{first_premise, second_premise}
use Rattle.jd_loop.specs.LoopInstances.{loop_numbered}
use Rattle.jd_loop.specs.LoopLaws.{LoopPremisesAreOne}

some_same : {A : Type 0} {x y : A} → Some x ≡ Some y → x ≡ y
some_same h = cc

same_modal : {m k : Modality} {c d : PlainCode} {a b : PlainFormula} → Modal m c a ≡ Modal k d b → (m ≡ k) × (c ≡ d) × (a ≡ b)
same_modal h = (cc, cc, cc)

same_while : {i j : ℕ} {e f : Expr} {c d : PlainCode} → While i e c ≡ While j f d → (i ≡ j) × (e ≡ f) × (c ≡ d)
same_while h = (cc, cc, cc)

pub loop_premises_are_one : LoopPremisesAreOne
loop_premises_are_one t s p n ps qs o q =
    let f = same_modal (some_same (sym o.at_place.found ∙ q.at_place.found)) in
    let x : (o.context, While o.number o.test o.body) ≡ (q.context, While q.number q.test q.body) = some_same (sym o.at_focus ∙ ap innermost_focus f.1 ∙ q.at_focus) in
    let k : o.context ≡ q.context = ap (λ (y : Context × Stmt). y.0) x in
    let w = same_while (ap (λ (y : Context × Stmt). y.1) x) in
    let l : o.loop ≡ q.loop = some_same (sym o.of_obligation ∙ ap (loop_numbered t.obligation.loops) w.0 ∙ q.of_obligation) in
    o.premises_are
    ∙ (λ i.
    put_at s p (first_premise t.obligation.vars (l i) (loop_names n (w.1 i) (w.2 i)))
    ∷ (put_at s p (second_premise (f.0 i) t.obligation.vars (l i) (loop_names n (w.1 i) (w.2 i)) (k i) (w.1 i) (w.2 i) (f.2 i))
    ∷ []))
    ∙ sym q.premises_are
