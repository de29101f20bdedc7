-- From what a function made of a formula to the rule's relation.
use Rattle.std.proofs.Common.{◌≡◌, Option, Some, None, Result, Ok, Err, IfOk, option_map, sym, ap, ◌∙◌}
use Rattle.jd_base.specs.declared.memory.NoMemory.{NoMemory}
use Rattle.jd_syntax.specs.Codes.{Done}
use Rattle.jd_term.specs.declared.formula.Formula.{Formula}
use Rattle.jd_term.specs.Formulas.{PlainFormula, Modal, formula_view}
use Rattle.jd_first_steps.specs.declared.rules.FirstRule.{FirstRule}
use Rattle.jd_first_steps.specs.declared.rules.FirstRule.TheVariants.{SetSimple, FrameReturn, CatchEmpty, EmptyCode}
use Rattle.jd_first_steps.specs.Rewrites.{Rewrites, IsEmptyCode}
use Rattle.jd_first_rules.specs.Focus.{executed, emptied}
use Rattle.jd_first_rules.specs.Results.{IsRewriting}
use Rattle.jd_first_rules.specs.Executions.{set_executed, set_from, return_executed, return_from, catch_executed, catch_from}

no_some : {A : Type 0} {x : A} → None ≡ Some x → ⊥
no_some h = cc

-- a function that a relation is the graph of
by_function : (rule : FirstRule) (f : PlainFormula → Option PlainFormula) → ((b a : PlainFormula) → Rewrites rule b a → f b ≡ Some a) → ((b a : PlainFormula) → f b ≡ Some a → Rewrites rule b a) → (before : PlainFormula) (o : Option Formula) → option_map formula_view o ≡ f before → IsRewriting rule before o
by_function rule f there back before None e = λ after r. no_some (e ∙ there before after r)
by_function rule f there back before (Some after) e = back before (formula_view after) (sym e)

pub in_result : (rule : FirstRule) (f : PlainFormula → Option PlainFormula) → ((b a : PlainFormula) → Rewrites rule b a → f b ≡ Some a) → ((b a : PlainFormula) → f b ≡ Some a → Rewrites rule b a) → (before : PlainFormula) (r : Result (Option Formula) NoMemory) → IfOk r (λ o. option_map formula_view o ≡ f before) → IfOk r (λ o. IsRewriting rule before o)
in_result rule f there back before (Ok o) e = by_function rule f there back before o e
in_result rule f there back before (Err x) e = tt

pub set_result : (before : PlainFormula) (r : Result (Option Formula) NoMemory) → IfOk r (λ o. option_map formula_view o ≡ executed SetSimple before) → IfOk r (λ o. IsRewriting SetSimple before o)
set_result = in_result SetSimple (executed SetSimple) set_executed set_from

pub return_result : (before : PlainFormula) (r : Result (Option Formula) NoMemory) → IfOk r (λ o. option_map formula_view o ≡ executed FrameReturn before) → IfOk r (λ o. IsRewriting FrameReturn before o)
return_result = in_result FrameReturn (executed FrameReturn) return_executed return_from

pub catch_result : (before : PlainFormula) (r : Result (Option Formula) NoMemory) → IfOk r (λ o. option_map formula_view o ≡ executed CatchEmpty before) → IfOk r (λ o. IsRewriting CatchEmpty before o)
catch_result = in_result CatchEmpty (executed CatchEmpty) catch_executed catch_from

pub empty_emptied : (b a : PlainFormula) → IsEmptyCode b a → emptied b ≡ Some a
empty_emptied b a is = ap emptied is.found

pub empty_from : (b a : PlainFormula) → emptied b ≡ Some a → IsEmptyCode b a
empty_from (Modal m Done c) a e = record { modality = m; found = ap (Modal m Done) (some_same e) }
  where
    some_same : {x y : PlainFormula} → Some x ≡ Some y → x ≡ y
    some_same h = cc
empty_from f a e = absurd (no_some e)

pub empty_result : (before : PlainFormula) (r : Result (Option Formula) NoMemory) → IfOk r (λ o. option_map formula_view o ≡ emptied before) → IfOk r (λ o. IsRewriting EmptyCode before o)
empty_result = in_result EmptyCode emptied empty_emptied empty_from
