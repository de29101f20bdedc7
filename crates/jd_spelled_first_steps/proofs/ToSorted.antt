-- What the grammar spells is sorted as the first rules ask.
use Rattle.std.proofs.Common.{List, None, Option, Some, [], refl, subst, true, ◌∷◌, ◌≡◌}
use Rattle.jd_base.specs.declared.sort.Sort.{Sort}
use Rattle.jd_base.specs.declared.sort.Sort.TheVariants.{Bool as BoolSort, Int as IntSort, Ref as RefSort}
use Rattle.jd_model.specs.Sequents.{PlainSequent}
use Rattle.jd_spelled_first_steps.proofs.Sorts.{all_2, all_3, all_4, one_sort}
use Rattle.jd_spelled_first_steps.specs.Laws.{SpelledFormulasAreSorted}
use Rattle.jd_spelled_trees.proofs.Places.{taken_is_spelled}
use Rattle.jd_spelled_trees.specs.Places.{IsSpelledSequent, SpelledFormulas}
use Rattle.jd_spelled_trees.specs.Spelled.{SpelledFormula, SpelledPairs}
use Rattle.jd_syntax.specs.CodeNames.{same_sort}
use Rattle.jd_syntax.specs.Codes.{Block, BoolLiteral, Catch, Done, Expr, Finally, Frame, If, IntLiteral, NullLiteral, PlainCode, Return, Set, Stmt, Then, Variable, While}
use Rattle.jd_syntax.specs.Names.{Name}
use Rattle.jd_term.specs.Formulas.{And, Exists, Forall, Iff, Implies, Modal, Not, Or, Pairs, PlainFormula, Updated}
use Rattle.jd_tforms.specs.Sorted.{Free, Returns, Value, code_sorted, expr_sort, expr_sorted, is as has_value, is_some_sort, is_value, result_fits, return_sorted, returns_of, stmt_sorted}
use Rattle.jd_tgrammar.specs.NameTables.{NameTable}
use Rattle.jd_update_truth.specs.SortedFormulas.{AllSorted, AreSorted, FitsResult, HasSort, SortedCode, SortedFormula, SortedSequent, SortedStmt}

-- what a `return` has to give is what the frame of this result asks; of none nothing is asked
abbrev AsksFor : Returns → Option Name → Type 0
AsksFor r None = Unit {0}
AsksFor r (Some x) = r ≡ Value x.sort

frame_asks : (q : Option Name) → AsksFor (returns_of q) q
frame_asks None = tt
frame_asks (Some x) = refl

module _ (names : NameTable) where
  value_sorted : (e : Expr) (s : Sort) → has_value names s e ≡ true → HasSort e s
  value_sorted (IntLiteral z) s h = one_sort IntSort s h
  value_sorted (BoolLiteral b) s h = one_sort BoolSort s h
  value_sorted NullLiteral s h = one_sort RefSort s h
  value_sorted (Variable x) s h = one_sort x.sort s h
  value_sorted e s h = tt

  result_sorted : (r : Returns) (q : Option Name) → AsksFor r q → (e : Expr) → return_sorted r (expr_sort names e) ≡ true → FitsResult q e
  result_sorted r None asks e h = tt
  result_sorted r (Some x) asks e h = value_sorted e x.sort (by (expr_sort names e) (subst (λ k. return_sorted k (expr_sort names e) ≡ true) asks h))
    where
      by : (o : Option Sort) → return_sorted (Value x.sort) o ≡ true → is_some_sort x.sort o ≡ true
      by None e = e
      by (Some k) e = e

  mutual
    stmt_is_sorted : (r : Returns) (q : Option Name) → AsksFor r q → (s : Stmt) → stmt_sorted names r s ≡ true → SortedStmt q s
    stmt_is_sorted r q asks (Set x e) h = value_sorted e x.sort (all_3 (is_value x.sort) (has_value names x.sort e) (expr_sorted names r e) h).1
    stmt_is_sorted r q asks (If e c d) h =
        let g = all_4 (has_value names BoolSort e) (expr_sorted names r e) (code_sorted names r c) (code_sorted names r d) h in
        (code_is_sorted r q asks c g.2, code_is_sorted r q asks d g.3)
    stmt_is_sorted r q asks (While k e c) h = code_is_sorted r q asks c (all_3 (has_value names BoolSort e) (expr_sorted names r e) (code_sorted names r c) h).2
    stmt_is_sorted r q asks (Block l c) h = code_is_sorted r q asks c h
    stmt_is_sorted r q asks (Catch c x d) h =
        let g = all_3 (same_sort x.sort RefSort) (code_sorted names r c) (code_sorted names r d) h in
        (code_is_sorted r q asks c g.1, code_is_sorted r q asks d g.2)
    stmt_is_sorted r q asks (Finally c d) h =
        let g = all_2 (code_sorted names r c) (code_sorted names r d) h in
        (code_is_sorted r q asks c g.0, code_is_sorted r q asks d g.1)
    stmt_is_sorted r q asks (Return e) h = result_sorted r q asks e (all_2 (return_sorted r (expr_sort names e)) (expr_sorted names r e) h).0
    stmt_is_sorted r q asks (Frame x c) h = code_is_sorted (returns_of x) x (frame_asks x) c (all_2 (result_fits x) (code_sorted names (returns_of x) c) h).1
    stmt_is_sorted r q asks s h = tt

    code_is_sorted : (r : Returns) (q : Option Name) → AsksFor r q → (c : PlainCode) → code_sorted names r c ≡ true → SortedCode q c
    code_is_sorted r q asks Done h = tt
    code_is_sorted r q asks (Then s c) h =
        let g = all_2 (stmt_sorted names r s) (code_sorted names r c) h in
        (stmt_is_sorted r q asks s g.0, code_is_sorted r q asks c g.1)

  pairs_are_sorted : (ctx : List Sort) (ps : Pairs) → SpelledPairs names ctx ps → AreSorted ps
  pairs_are_sorted ctx [] h = tt
  pairs_are_sorted ctx (p ∷ ps) h = (h.0.1.0, pairs_are_sorted ctx ps h.1)

  formula_is_sorted : (ctx : List Sort) (a : PlainFormula) → SpelledFormula names ctx a → SortedFormula a
  formula_is_sorted ctx (Not a) h = formula_is_sorted ctx a h
  formula_is_sorted ctx (And a b) h = (formula_is_sorted ctx a h.0, formula_is_sorted ctx b h.1)
  formula_is_sorted ctx (Or a b) h = (formula_is_sorted ctx a h.0, formula_is_sorted ctx b h.1)
  formula_is_sorted ctx (Implies a b) h = (formula_is_sorted ctx a h.0, formula_is_sorted ctx b h.1)
  formula_is_sorted ctx (Iff a b) h = (formula_is_sorted ctx a h.0, formula_is_sorted ctx b h.1)
  formula_is_sorted ctx (Forall s a) h = formula_is_sorted (s ∷ ctx) a h.1
  formula_is_sorted ctx (Exists s a) h = formula_is_sorted (s ∷ ctx) a h.1
  formula_is_sorted ctx (Updated ps a) h = (pairs_are_sorted ctx ps h.1, formula_is_sorted ctx a h.2)
  formula_is_sorted ctx (Modal m c a) h = (code_is_sorted Free None tt c h.1, formula_is_sorted ctx a h.2)
  formula_is_sorted ctx a h = tt

  all_are_sorted : (l : List PlainFormula) → SpelledFormulas names l → AllSorted l
  all_are_sorted [] h = tt
  all_are_sorted (a ∷ l) h = (formula_is_sorted [] a h.0, all_are_sorted l h.1)

  sequent_is_sorted : (s : PlainSequent) → IsSpelledSequent names s → SortedSequent s
  sequent_is_sorted s h = let k = taken_is_spelled names s h in record { left = all_are_sorted s.left k.0; right = all_are_sorted s.right k.1 }

pub spelled_formulas_are_sorted : SpelledFormulasAreSorted
spelled_formulas_are_sorted = record {
  code = λ names c h. code_is_sorted names Free None tt c h;
  formula = formula_is_sorted;
  sequent = sequent_is_sorted;
}
