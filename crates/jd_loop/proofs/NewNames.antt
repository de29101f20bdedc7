-- When the names of an instance are new and apart, and the others old.
use Rattle.std.proofs.Common.{◌≡◌, ℕ, true, false, List, [], ◌∷◌}
use Rattle.jd_base.specs.declared.sort.Sort.TheVariants.{Int as IntSort, Bool as BoolSort, Heap as HeapSort}
use Rattle.jd_syntax.specs.Names.{Name}
use Rattle.jd_syntax.specs.CodeNames.{heap_name}
use Rattle.jd_syntax.specs.Codes.{Expr, While, PlainCode}
use Rattle.jd_term.specs.Terms.{PlainTerm, PlainLoc}
use Rattle.jd_term.specs.Formulas.{PlainFormula}
use Rattle.jd_model.specs.Contexts.{Context, fill, one}
use Rattle.jd_model.specs.Bodies.{NotHeap}
use Rattle.jd_model.specs.Occurrences.{ExprIn, CodeIn, FormulaIn, LocIn, TermIn, Always, AllOf, AllApart, member}
use Rattle.jd_loop.specs.LoopNames.{RenewedVariable, LoopNames, renewed_variables, new_variables, new_constants}

abbrev pub OldVariable : LoopNames → Name → Type 0
OldVariable n x = member x (new_variables n) ≡ false

abbrev pub OldConstant : LoopNames → Name → Type 0
OldConstant n c = member c (new_constants n) ≡ false

-- the new names have the sorts of the variables
abbrev pub SameSorts : List RenewedVariable → Type 0
SameSorts [] = Unit {0}
SameSorts (r ∷ rs) = (r.before.sort ≡ r.variable.sort) × (r.now.sort ≡ r.variable.sort) × SameSorts rs

pub record AreNewNames (n : LoopNames) : Type 0 where
  pub apart_variables : AllApart (new_variables n)
  pub apart_constants : AllApart (new_constants n)
  pub heap_before_sort : n.heap_before.sort ≡ HeapSort
  pub heap_now_sort : n.heap_now.sort ≡ HeapSort
  pub variant_sort : n.variant_before.sort ≡ IntSort
  pub mark_sort : n.mark.sort ≡ BoolSort
  pub sorts : SameSorts n.renewed
  pub heap_old : OldVariable n heap_name
  pub assigned_old : AllOf (OldVariable n) (renewed_variables n.renewed)
  pub no_heap : AllOf NotHeap (renewed_variables n.renewed)

abbrev pub Written : LoopNames → Name → Type 0
Written n x = member x (renewed_variables n.renewed) ≡ true

-- the new names stand nowhere, and the renewed variables are all that the loop assigns
pub record NamesAreOld (n : LoopNames) (k : Context) (j : ℕ) (e : Expr) (c : PlainCode) (a w : PlainFormula) (l : PlainLoc) (v : PlainTerm) : Type 0 where
  pub code_in : CodeIn (OldVariable n) (OldVariable n) (fill k (one (While j e c)))
  pub formula_in : FormulaIn (OldVariable n) (OldConstant n) a
  pub invariant_in : FormulaIn (OldVariable n) (OldConstant n) w
  pub locations_in : LocIn (OldVariable n) (OldConstant n) l
  pub variant_in : TermIn (OldVariable n) (OldConstant n) v
  pub test_writes : ExprIn Always (Written n) e
  pub body_writes : CodeIn Always (Written n) c
