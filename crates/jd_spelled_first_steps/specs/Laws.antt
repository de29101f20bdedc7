-- The first rules lead from sequents whose formulas the grammar spells to such sequents.
use Rattle.std.specs.List.{slice_get}
use Rattle.std.specs.Prelude.{All, List, None, Some, [], codes, true, ◌≡◌, ◌≢◌, ℕ}
use Rattle.jd_base.specs.declared.sort.Sort.{Sort}
use Rattle.jd_first_steps.specs.declared.rules.FirstRule.{FirstRule}
use Rattle.jd_first_steps.specs.Instances.{IsInstance}
use Rattle.jd_first_steps.specs.Rewrites.{IsSetSimple, Rewrites, simple_term}
use Rattle.jd_model.specs.Contexts.{Context, fill}
use Rattle.jd_model.specs.Sequents.{PlainSequent}
use Rattle.jd_names.specs.Identifiers.{AreVariables}
use Rattle.jd_sequent.specs.Limits.{IsWithinLimits}
use Rattle.jd_sequent.specs.Trees.{PlainStep}
use Rattle.jd_spelled_first_steps.specs.Focus.{SpelledCode, returns_at}
use Rattle.jd_spelled_first_steps.specs.TermNames.{AreTermNames}
use Rattle.jd_spelled_trees.specs.Places.{IsSpelledSequent}
use Rattle.jd_spelled_trees.specs.Spelled.{AtSort, SpelledFormula, SpelledPairs, SpelledTerm}
use Rattle.jd_syntax.specs.Codes.{Expr, PlainCode}
use Rattle.jd_syntax.specs.Names.{Name}
use Rattle.jd_term.specs.Formulas.{Pairs, PlainFormula}
use Rattle.jd_term.specs.Terms.{PlainTerm}
use Rattle.jd_tforms.specs.Known.{ExprKnown}
use Rattle.jd_tforms.specs.Sorted.{Free, Returns, code_sorted, is as has_value}
use Rattle.jd_tgrammar.specs.NameTables.{NameTable}
use Rattle.jd_update.specs.Push.{push}
use Rattle.jd_update_truth.specs.SortedFormulas.{SortedCode, SortedFormula, SortedSequent}

-- what is assigned, returned and put by updates has the sort that the first rules ask for
pub record SpelledFormulasAreSorted : Type 0 where
  pub code : (names : NameTable) (c : PlainCode) → code_sorted names Free c ≡ true → SortedCode None c
  pub formula : (names : NameTable) (ctx : List Sort) (a : PlainFormula) → SpelledFormula names ctx a → SortedFormula a
  pub sequent : (names : NameTable) (s : PlainSequent) → IsSpelledSequent names s → SortedSequent s

-- the code at a focus is spelled, and so is the whole with other code there that is
pub record FocusKeepsSpelled : Type 0 where
  pub focused : (names : NameTable) (r : Returns) (k : Context) (c : PlainCode) → SpelledCode names r (fill k c) → SpelledCode names (returns_at r k) c
  pub filled : (names : NameTable) (r : Returns) (k : Context) (c e : PlainCode) → SpelledCode names r (fill k c) → SpelledCode names (returns_at r k) e → SpelledCode names r (fill k e)

-- a simple expression that is known is, as a term, known under any binders, and has its sort
abbrev pub SimpleTermsAreSpelled : Type 0
SimpleTermsAreSpelled = (names : NameTable) → AreTermNames names.variables → (ctx : List Sort) (s : Sort) (e : Expr) (t : PlainTerm) → simple_term e ≡ Some t → ExprKnown names e → has_value names s e ≡ true → AtSort s t (SpelledTerm names ctx t)

-- variables with the words that those of methods have, none of them `created`
abbrev pub VariablesAreTermNames : Type 0
VariablesAreTermNames = (xs : List Name) → AreVariables xs → ((i : ℕ) (x : Name) → slice_get xs i ≡ Some x → x.text ≢ codes "created") → AreTermNames xs

pub record RewritingKeepsSpelled : Type 0 where
  -- an update pushed inward, with or without binders
  pub pushed : (names : NameTable) (ctx : List Sort) (q : Pairs) (a : PlainFormula) → SpelledPairs names ctx q → SpelledFormula names ctx a → SpelledFormula names ctx (push q a)
  -- what a rule puts for a formula at any place
  pub rewritten : (names : NameTable) → AreTermNames names.variables → (rule : FirstRule) (before after : PlainFormula) → Rewrites rule before after → (ctx : List Sort) → SpelledFormula names ctx before → SpelledFormula names ctx after

-- where a variable is called `created`, what an assignment of it becomes need not be spelled: terms read the field there
abbrev pub SetSimpleNeedsTermNames : Type 0
SetSimpleNeedsTermNames = ¬ ((names : NameTable) (before after : PlainFormula) → IsSetSimple before after → SpelledFormula names [] before → SpelledFormula names [] after)

-- the premises of each instance of the twelve rules that are within the limits
abbrev pub FirstInstancesKeepSpelled : Type 0
FirstInstancesKeepSpelled = (names : NameTable) → AreTermNames names.variables → (s : PlainSequent) (p : PlainStep) (ps : List PlainSequent) → IsSpelledSequent names s → IsInstance s p ps → All IsWithinLimits ps → All (IsSpelledSequent names) ps
