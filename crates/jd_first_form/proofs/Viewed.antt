-- What an expression with an operator is seen as, with parts that are lent.
use Rattle.std.proofs.Common.{◌≡◌, ℕ, Box, Global, sym, ap, ◌∙◌}
use Rattle.jd_syntax.specs.declared.java.InfixOperator.{InfixOperator}
use Rattle.jd_syntax.specs.declared.spec.SpecExpr.{SpecExpr}
use Rattle.jd_syntax.specs.declared.spec.SpecForm.{SpecForm}
use Rattle.jd_syntax.specs.declared.spec.SpecForm.TheFolds.{fold-SpecForm, fold-roll-SpecForm, fold_out-SpecExpr}
use Rattle.jd_syntax.specs.declared.spec.SpecForm.TheOpen as layers
use Rattle.jd_syntax.specs.declared.spec.SpecForm.TheVariants as forms
use Rattle.jd_syntax.specs.SpecTrees.{PlainSpec, Infix, spec_form_layer, spec_layer, spec_view}

abbrev form_view : SpecForm → ℕ → PlainSpec
form_view = fold-SpecForm (ℕ → PlainSpec) PlainSpec spec_form_layer spec_layer

pub is_infix : (s : SpecExpr) (o : InfixOperator) (a b : Box SpecExpr Global) (x y : SpecExpr) → s.form ≡ forms.Infix o a b → x ≡ a.value → y ≡ b.value → spec_view s ≡ Infix s.at o (spec_view x) (spec_view y)
is_infix s o a b x y is first second =
    fold_out-SpecExpr (ℕ → PlainSpec) PlainSpec spec_form_layer spec_layer s
    ∙ ap (λ g. form_view g s.at) is
    ∙ ap (λ g. g s.at) (ap form_view (sym (forms.rolls-Infix o a b)) ∙ fold-roll-SpecForm (ℕ → PlainSpec) PlainSpec spec_form_layer spec_layer (layers.Infix o a b))
    ∙ ap (λ (z : SpecExpr). Infix s.at o (spec_view z) (spec_view b.value)) (sym first)
    ∙ ap (λ (z : SpecExpr). Infix s.at o (spec_view x) (spec_view z)) (sym second)
