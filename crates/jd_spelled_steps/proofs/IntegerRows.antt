-- Each row of integers keeps trees spelled.
use Rattle.std.proofs.Common.{List, [], arith, negsuc, pos, refl, sym, ◌∙◌, ◌∷◌, ◌≡◌, ℤ, true}
use Rattle.std.specs.Prelude.{codes, neg_ℤ}
use Rattle.jd_base.specs.declared.sort.Sort.{Sort}
use Rattle.jd_base.specs.declared.sort.Sort.TheVariants.{Int as IntSort}
use Rattle.jd_model.specs.Runs.{wrap32}
use Rattle.jd_model.specs.TermValues.{arithmetic}
use Rattle.jd_schema_instances.specs.Fitting.{FormulaPutFits, TermPutFits}
use Rattle.jd_spelled_steps.proofs.Plain.{plain}
use Rattle.jd_spelled_steps.proofs.Puts.{computed_spelled, formula_fits, number_spelled, term_fits, tested_spelled}
use Rattle.jd_spelled_steps.specs.Rows.{AllKeep, RowKeeps}
use Rattle.jd_spelled_trees.proofs.Mapped.{moved}
use Rattle.jd_spelled_trees.proofs.Puts.{put_in_formula, put_in_term, wider_formula, wider_term}
use Rattle.jd_spelled_trees.specs.Spelled.{AtSort, NarrowFormula, NarrowTerm, SpelledFormula, SpelledTerm}
use Rattle.jd_tac_int.proofs.Rows.{◌⊗◌}
use Rattle.jd_tac_int.specs.Integers as row
use Rattle.jd_tac_int.specs.Integers.{integer_rows}
use Rattle.jd_taclets.specs.Conditions.{IsEqual, IsLess, IsLessOrEqual, fits_literal, passes}
use Rattle.jd_term.specs.Formulas.{PlainFormula}
use Rattle.jd_term.specs.Substitutions.{formula_subst, term_subst}
use Rattle.jd_term.specs.Terms.{Arithmetic, Bound, Number, PlainTerm}
use Rattle.jd_term.specs.declared.term.ArithmeticOp.{ArithmeticOp}
use Rattle.jd_term.specs.declared.term.ArithmeticOp.TheVariants.{Add, Divide, Multiply, Remainder, Subtract}
use Rattle.jd_tgrammar.specs.NameTables.{NameTable}

-- a part of sort Int under binders
abbrev IntPart : NameTable → List Sort → PlainTerm → Type 0
IntPart names ctx t = AtSort IntSort t (SpelledTerm names ctx t)

number : (names : NameTable) (ctx : List Sort) (z : ℤ) → fits_literal z ≡ true → IntPart names ctx (Number z)
number names ctx z e = (refl, number_spelled names ctx z e)

-- ---- induction: the index of the innermost binder, and the next number up or down

abbrev next : ArithmeticOp → PlainTerm
next op = Arithmetic op (Bound 0 IntSort) (Number (pos 1))

module _ (names : NameTable) where
  index : IntPart names (IntSort ∷ []) (Bound 0 IntSort)
  index = (refl, refl)

  module _ (a : PlainFormula) (h : SpelledFormula names (IntSort ∷ []) a) where
    zero_put : SpelledFormula names [] (formula_subst 0 0 (Number (pos 0)) a)
    zero_put = put_in_formula names IntSort [] (Number (pos 0)) (number names [] (pos 0) refl) a h

    -- the formula has no other free index, so it may stand below one more binder
    next_put : (op : ArithmeticOp) → SpelledFormula names (IntSort ∷ []) (formula_subst 0 0 (next op) a)
    next_put op = put_in_formula names IntSort (IntSort ∷ []) (next op) (refl, (index, number names (IntSort ∷ []) (pos 1) refl)) a (wider_formula names (IntSort ∷ []) (IntSort ∷ []) a h)

    module _ (small : NarrowFormula a) where
      zero_fits : FormulaPutFits (Number (pos 0)) a
      zero_fits = formula_fits names IntSort [] (Number (pos 0)) refl tt a h small

      next_fits : (op : ArithmeticOp) → FormulaPutFits (next op) a
      next_fits op = formula_fits names IntSort [] (next op) refl (omega arith, tt) a h small

-- ---- sums: the number before the end of a range

abbrev before : PlainTerm → PlainTerm
before j = Arithmetic Subtract j (Number (pos 1))

module _ (names : NameTable) (ctx : List Sort) (j : PlainTerm) where
  last : IntPart names ctx j → IntPart names ctx (before j)
  last h = (refl, (h, number names ctx (pos 1) refl))

  module _ (s : PlainTerm) where
    last_put : IntPart names ctx j → IntPart names (IntSort ∷ ctx) s → IntPart names ctx (term_subst 0 0 (before j) s)
    last_put h k = moved IntSort s (term_subst 0 0 (before j) s) k.0 (put_in_term names IntSort ctx (before j) (last h) s k.1)

    last_fits : IntPart names (IntSort ∷ ctx) s → NarrowTerm j → NarrowTerm s → TermPutFits (before j) s
    last_fits k small body = term_fits names IntSort ctx (before j) refl (small, tt) s k.1 body

-- ---- the rows

fold_add : RowKeeps row.fold_add
fold_add names g σ ctx h = ((refl, computed_spelled names ctx (σ.literal (codes "m+n")) (arithmetic Add (σ.literal (codes "m")) (σ.literal (codes "n"))) h.conds.0), plain g.program σ row.fold_add.goals refl)

fold_sub : RowKeeps row.fold_sub
fold_sub names g σ ctx h = ((refl, computed_spelled names ctx (σ.literal (codes "m-n")) (arithmetic Subtract (σ.literal (codes "m")) (σ.literal (codes "n"))) h.conds.0), plain g.program σ row.fold_sub.goals refl)

fold_mul : RowKeeps row.fold_mul
fold_mul names g σ ctx h = ((refl, computed_spelled names ctx (σ.literal (codes "m*n")) (arithmetic Multiply (σ.literal (codes "m")) (σ.literal (codes "n"))) h.conds.0), plain g.program σ row.fold_mul.goals refl)

fold_neg : RowKeeps row.fold_neg
fold_neg names g σ ctx h = ((refl, computed_spelled names ctx (σ.literal (codes "-m")) (neg_ℤ (σ.literal (codes "m"))) h.conds.0), plain g.program σ row.fold_neg.goals refl)

fold_div : RowKeeps row.fold_div
fold_div names g σ ctx h = ((refl, computed_spelled names ctx (σ.literal (codes "m/n")) (arithmetic Divide (σ.literal (codes "m")) (σ.literal (codes "n"))) h.conds.0), plain g.program σ row.fold_div.goals refl)

fold_mod : RowKeeps row.fold_mod
fold_mod names g σ ctx h = ((refl, computed_spelled names ctx (σ.literal (codes "m%n")) (arithmetic Remainder (σ.literal (codes "m")) (σ.literal (codes "n"))) h.conds.0), plain g.program σ row.fold_mod.goals refl)

fold_wrap : RowKeeps row.fold_wrap
fold_wrap names g σ ctx h = ((refl, computed_spelled names ctx (σ.literal (codes "wrap32(m)")) (wrap32 (σ.literal (codes "m"))) h.conds.0), plain g.program σ row.fold_wrap.goals refl)

fold_lt : RowKeeps row.fold_lt
fold_lt names g σ ctx h = (tested_spelled names ctx (σ.formula (codes "m<n")) (passes IsLess (σ.literal (codes "m")) (σ.literal (codes "n"))) h.conds.0, plain g.program σ row.fold_lt.goals refl)

fold_le : RowKeeps row.fold_le
fold_le names g σ ctx h = (tested_spelled names ctx (σ.formula (codes "m<=n")) (passes IsLessOrEqual (σ.literal (codes "m")) (σ.literal (codes "n"))) h.conds.0, plain g.program σ row.fold_le.goals refl)

fold_eq : RowKeeps row.fold_eq
fold_eq names g σ ctx h = (tested_spelled names ctx (σ.formula (codes "m=n")) (passes IsEqual (σ.literal (codes "m")) (σ.literal (codes "n"))) h.conds.0, plain g.program σ row.fold_eq.goals refl)

add_comm : RowKeeps row.add_comm
add_comm names g σ ctx h = ((refl, (h.found.1, h.found.0)), plain g.program σ row.add_comm.goals refl)

add_assoc : RowKeeps row.add_assoc
add_assoc names g σ ctx h = ((refl, (h.found.0.1.0, (refl, (h.found.0.1.1, h.found.1)))), plain g.program σ row.add_assoc.goals refl)

add_zero : RowKeeps row.add_zero
add_zero names g σ ctx h = (h.found.0, plain g.program σ row.add_zero.goals refl)

mul_comm : RowKeeps row.mul_comm
mul_comm names g σ ctx h = ((refl, (h.found.1, h.found.0)), plain g.program σ row.mul_comm.goals refl)

mul_assoc : RowKeeps row.mul_assoc
mul_assoc names g σ ctx h = ((refl, (h.found.0.1.0, (refl, (h.found.0.1.1, h.found.1)))), plain g.program σ row.mul_assoc.goals refl)

mul_one : RowKeeps row.mul_one
mul_one names g σ ctx h = (h.found.0, plain g.program σ row.mul_one.goals refl)

mul_zero : RowKeeps row.mul_zero
mul_zero names g σ ctx h = (number names ctx (pos 0) refl, plain g.program σ row.mul_zero.goals refl)

distrib : RowKeeps row.distrib
distrib names g σ ctx h = ((refl, ((refl, (h.found.0, h.found.1.1.0)), (refl, (h.found.0, h.found.1.1.1)))), plain g.program σ row.distrib.goals refl)

sub_def : RowKeeps row.sub_def
sub_def names g σ ctx h = ((refl, (h.found.0, (refl, h.found.1))), plain g.program σ row.sub_def.goals refl)

neg_def : RowKeeps row.neg_def
neg_def names g σ ctx h = ((refl, (h.found, number names ctx (negsuc 0) refl)), plain g.program σ row.neg_def.goals refl)

collect : RowKeeps row.collect
collect names g σ ctx h = ((refl, (h.found.0.1.0, (refl, computed_spelled names ctx (σ.literal (codes "m+n")) (arithmetic Add (σ.literal (codes "m")) (σ.literal (codes "n"))) h.conds.0))), plain g.program σ row.collect.goals refl)

collect_one : RowKeeps row.collect_one
collect_one names g σ ctx h = ((refl, (h.found.0, (refl, computed_spelled names ctx (σ.literal (codes "n+1")) (arithmetic Add (σ.literal (codes "n")) (pos 1)) h.conds.0))), plain g.program σ row.collect_one.goals refl)

lt_to_le : RowKeeps row.lt_to_le
lt_to_le names g σ ctx h = (((refl, (h.found.0, number names ctx (pos 1) refl)), h.found.1), plain g.program σ row.lt_to_le.goals refl)

not_le : RowKeeps row.not_le
not_le names g σ ctx h = ((h.found.1, h.found.0), plain g.program σ row.not_le.goals refl)

not_lt : RowKeeps row.not_lt
not_lt names g σ ctx h = ((h.found.1, h.found.0), plain g.program σ row.not_lt.goals refl)

le_refl : RowKeeps row.le_refl
le_refl names g σ ctx h = (tt, plain g.program σ row.le_refl.goals refl)

lt_refl : RowKeeps row.lt_refl
lt_refl names g σ ctx h = (tt, plain g.program σ row.lt_refl.goals refl)

le_trans : RowKeeps row.le_trans
le_trans names g σ ctx h = (((((h.found.0, h.assumed.0.0.1), tt), tt), tt), plain g.program σ row.le_trans.goals refl)

le_antisym : RowKeeps row.le_antisym
le_antisym names g σ ctx h = (((((h.found.0.0 ∙ sym h.found.1.0, h.found.0.1, h.found.1.1), tt), tt), tt), plain g.program σ row.le_antisym.goals refl)

le_sum : RowKeeps row.le_sum
le_sum names g σ ctx h = ((((((refl, (h.found.0, h.assumed.0.0.0)), (refl, (h.found.1, h.assumed.0.0.1))), tt), tt), tt), plain g.program σ row.le_sum.goals refl)

le_scale : RowKeeps row.le_scale
le_scale names g σ ctx h = ((((((refl, (h.found.0, (refl, h.given.0))), (refl, (h.found.1, (refl, h.given.0)))), tt), tt), tt), plain g.program σ row.le_scale.goals refl)

le_weaken : RowKeeps row.le_weaken
le_weaken names g σ ctx h = (((((h.found.0, (refl, (h.found.1, (refl, h.given.0)))), tt), tt), tt), plain g.program σ row.le_weaken.goals refl)

le_shift : RowKeeps row.le_shift
le_shift names g σ ctx h = (((refl, (h.found.0, (h.asked.0, wider_term names [] ctx (σ.term (codes "k")) h.given.0.0))), (refl, (h.found.1, (h.asked.0, wider_term names [] ctx (σ.term (codes "k")) h.given.0.0)))), plain g.program σ row.le_shift.goals refl)

le_eq : RowKeeps row.le_eq
le_eq names g σ ctx h = ((((((h.find_fits.0, h.found.1), (h.find_fits.1, h.found.2)), (((h.find_fits.1, h.found.2), (h.find_fits.0, h.found.1)), tt)), tt), tt), plain g.program σ row.le_eq.goals refl)

le_clash : RowKeeps row.le_clash
le_clash names g σ ctx h = (tt, plain g.program σ row.le_clash.goals refl)

int_cases : RowKeeps row.int_cases
int_cases names g σ ctx h = ((((((h.asked.0, h.given.0.0), (h.asked.1.0, h.given.1.0.0)), tt), tt), ((((h.asked.0 ∙ sym h.asked.1.0, h.given.0.0, h.given.1.0.0), tt), tt), (((((h.asked.1.0, h.given.1.0.0), (h.asked.0, h.given.0.0)), tt), tt), tt))), plain g.program σ row.int_cases.goals refl)

int_ind : RowKeeps row.int_ind
int_ind names g σ ctx h = (((tt, (zero_put names (σ.formula (codes "A")) h.found.1, tt)), ((tt, ((refl, (((number names (IntSort ∷ []) (pos 0) refl, index names), h.found.1), next_put names (σ.formula (codes "A")) h.found.1 Add)), tt)), ((tt, ((refl, (((index names, number names (IntSort ∷ []) (pos 0) refl), h.found.1), next_put names (σ.formula (codes "A")) h.found.1 Subtract)), tt)), tt))), ((tt, tt, ((tt, zero_fits names (σ.formula (codes "A")) h.found.1 h.narrow), tt)), ((tt, tt, ((((tt, tt), tt), ((tt, tt), next_fits names (σ.formula (codes "A")) h.found.1 h.narrow Add)), tt)), ((tt, tt, ((((tt, tt), tt), ((tt, tt), next_fits names (σ.formula (codes "A")) h.found.1 h.narrow Subtract)), tt)), tt))))

in_int_def : RowKeeps row.in_int_def
in_int_def names g σ ctx h = (((number names ctx (negsuc 2147483647) refl, h.found), (h.found, number names ctx (pos 2147483647) refl)), plain g.program σ row.in_int_def.goals refl)

wrap_in : RowKeeps row.wrap_in
wrap_in names g σ ctx h = (h.found, plain g.program σ row.wrap_in.goals refl)

wrap_range : RowKeeps row.wrap_range
wrap_range names g σ ctx h = (((((refl, (h.asked.0, h.given.0.0)), tt), tt), tt), plain g.program σ row.wrap_range.goals refl)

wrap_wrap : RowKeeps row.wrap_wrap
wrap_wrap names g σ ctx h = ((refl, h.found.1), plain g.program σ row.wrap_wrap.goals refl)

wrap_add : RowKeeps row.wrap_add
wrap_add names g σ ctx h = ((refl, (refl, (h.found.1.0.1, h.found.1.1))), plain g.program σ row.wrap_add.goals refl)

wrap_mul : RowKeeps row.wrap_mul
wrap_mul names g σ ctx h = ((refl, (refl, (h.found.1.0.1, h.found.1.1))), plain g.program σ row.wrap_mul.goals refl)

wrap_neg : RowKeeps row.wrap_neg
wrap_neg names g σ ctx h = ((refl, (refl, h.found.1.1)), plain g.program σ row.wrap_neg.goals refl)

mod_def : RowKeeps row.mod_def
mod_def names g σ ctx h = ((refl, (h.found.0, (refl, (h.found.1, (refl, (h.found.0, h.found.1)))))), plain g.program σ row.mod_def.goals refl)

div_neg_left : RowKeeps row.div_neg_left
div_neg_left names g σ ctx h = ((refl, (refl, (h.found.0.1, h.found.1))), plain g.program σ row.div_neg_left.goals refl)

div_neg_right : RowKeeps row.div_neg_right
div_neg_right names g σ ctx h = ((refl, (refl, (h.found.0, h.found.1.1))), plain g.program σ row.div_neg_right.goals refl)

div_bound : RowKeeps row.div_bound
div_bound names g σ ctx h = (((((((number names [] (pos 0) refl, (h.asked.0, h.given.0.0)), (number names [] (pos 0) refl, (h.asked.1.0, h.given.1.0.0))), (((refl, ((h.asked.1.0, h.given.1.0.0), (refl, ((h.asked.0, h.given.0.0), (h.asked.1.0, h.given.1.0.0))))), (h.asked.0, h.given.0.0)), ((h.asked.0, h.given.0.0), (refl, ((refl, ((h.asked.1.0, h.given.1.0.0), (refl, ((h.asked.0, h.given.0.0), (h.asked.1.0, h.given.1.0.0))))), (h.asked.1.0, h.given.1.0.0)))))), tt), tt), tt), plain g.program σ row.div_bound.goals refl)

sum_empty : RowKeeps row.sum_empty
sum_empty names g σ ctx h = (number names ctx (pos 0) refl, plain g.program σ row.sum_empty.goals refl)

sum_last : RowKeeps row.sum_last
sum_last names g σ ctx h = ((refl, ((refl, (h.found.0, last names ctx (σ.term (codes "j")) h.found.1, h.found.2)), last_put names ctx (σ.term (codes "j")) (σ.term (codes "s")) h.found.1 h.found.2)), ((((tt, (tt, tt), tt), ((tt, tt), last_fits names ctx (σ.term (codes "j")) (σ.term (codes "s")) h.found.2 h.narrow.1 h.narrow.2)), tt, tt), tt))

-- all of them
pub all_keep : AllKeep integer_rows
all_keep =
    fold_add ⊗ fold_sub ⊗ fold_mul ⊗ fold_neg ⊗ fold_div ⊗ fold_mod ⊗ fold_wrap ⊗ fold_lt ⊗ fold_le ⊗ fold_eq ⊗ add_comm ⊗ add_assoc ⊗ add_zero ⊗ mul_comm ⊗ mul_assoc ⊗ mul_one ⊗ mul_zero ⊗ distrib ⊗ sub_def ⊗ neg_def ⊗ collect ⊗ collect_one ⊗ lt_to_le ⊗ not_le ⊗ not_lt ⊗ le_refl ⊗ lt_refl ⊗ le_trans ⊗ le_antisym ⊗ le_sum ⊗ le_scale ⊗ le_weaken ⊗ le_shift ⊗ le_eq ⊗ le_clash ⊗ int_cases ⊗ int_ind ⊗ in_int_def ⊗ wrap_in ⊗ wrap_range ⊗ wrap_wrap ⊗ wrap_add ⊗ wrap_mul ⊗ wrap_neg ⊗ mod_def ⊗ div_neg_left ⊗ div_neg_right ⊗ div_bound ⊗ sum_empty ⊗ sum_last ⊗ tt
