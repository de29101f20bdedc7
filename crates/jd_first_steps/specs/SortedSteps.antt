-- What is claimed of the sorts in the first rules' steps: the premises of a sorted sequent are sorted.
use Rattle.std.specs.Prelude.{◌≡◌, List, Option, Some, All}
use Rattle.jd_syntax.specs.Names.{Name}
use Rattle.jd_syntax.specs.Codes.{PlainCode}
use Rattle.jd_term.specs.Formulas.{PlainFormula}
use Rattle.jd_model.specs.Contexts.{Context, Here, InBlock, InFrame, InCatch, InFinally, fill}
use Rattle.jd_model.specs.Sequents.{PlainSequent, PlainPlace}
use Rattle.jd_model.specs.Places.{FormulaPart, at_place, put_at}
use Rattle.jd_update_truth.specs.SortedFormulas.{SortedCode, SortedFormula, SortedSequent}
use Rattle.jd_sequent.specs.Trees.{PlainStep}
use Rattle.jd_first_steps.specs.Instances.{IsInstance}

-- the result of the innermost frame around the focus: that of the code itself where the context has no frame
abbrev pub result_at : Option Name → Context → Option Name
result_at r (Here rest) = r
result_at r (InBlock l k rest) = result_at r k
result_at r (InFrame q k rest) = result_at q k
result_at r (InCatch k x h rest) = result_at r k
result_at r (InFinally k f rest) = result_at r k

pub record SequentsStaySorted : Type 0 where
  -- the formula at a place
  pub found : (s : PlainSequent) (p : PlainPlace) (a : PlainFormula) → SortedSequent s → at_place s p ≡ Some (FormulaPart a) → SortedFormula a
  pub put : (s : PlainSequent) (p : PlainPlace) (a new : PlainFormula) → SortedSequent s → at_place s p ≡ Some (FormulaPart a) → SortedFormula new → SortedSequent (put_at s p new)
  -- the code at a focus
  pub focused : (r : Option Name) (k : Context) (c : PlainCode) → SortedCode r (fill k c) → SortedCode (result_at r k) c
  pub filled : (r : Option Name) (k : Context) (c e : PlainCode) → SortedCode r (fill k c) → SortedCode (result_at r k) e → SortedCode r (fill k e)

-- the premises of each instance of the twelve rules
abbrev pub InstancesKeepSorted : Type 0
InstancesKeepSorted = (s : PlainSequent) (p : PlainStep) (ps : List PlainSequent) → SortedSequent s → IsInstance s p ps → All SortedSequent ps
