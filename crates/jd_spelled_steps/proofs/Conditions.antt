-- The conditions of each row that hold of each sequent which rules take are met.
use Rattle.std.proofs.Common.{[], ◌∷◌}
use Rattle.std.specs.Prelude.{codes}
use Rattle.jd_base.specs.declared.sort.Sort.TheVariants.{Int as IntSort}
use Rattle.jd_spelled_steps.proofs.Puts.{quantified_is_bound}
use Rattle.jd_spelled_steps.specs.Rows.{AllAreMet, ConditionsAreMet}
use Rattle.jd_spelled_trees.proofs.Indices.{below_formula, sorts_in_formula, sorts_in_term}
use Rattle.jd_tac_int.specs.Integers as integer
use Rattle.jd_tac_int.specs.Integers.{integer_rows}
use Rattle.jd_tac_logic.proofs.Rows.{◌⊗◌}
use Rattle.jd_tac_logic.specs.Logic as row
use Rattle.jd_tac_logic.specs.Logic.{logic_rows}

-- ---- logic

close : ConditionsAreMet row.close
close names g σ ctx h = tt

close_true : ConditionsAreMet row.close_true
close_true names g σ ctx h = tt

close_false : ConditionsAreMet row.close_false
close_false names g σ ctx h = tt

not_left : ConditionsAreMet row.not_left
not_left names g σ ctx h = tt

not_right : ConditionsAreMet row.not_right
not_right names g σ ctx h = tt

and_left : ConditionsAreMet row.and_left
and_left names g σ ctx h = tt

and_right : ConditionsAreMet row.and_right
and_right names g σ ctx h = tt

or_left : ConditionsAreMet row.or_left
or_left names g σ ctx h = tt

or_right : ConditionsAreMet row.or_right
or_right names g σ ctx h = tt

imp_left : ConditionsAreMet row.imp_left
imp_left names g σ ctx h = tt

imp_right : ConditionsAreMet row.imp_right
imp_right names g σ ctx h = tt

iff_left : ConditionsAreMet row.iff_left
iff_left names g σ ctx h = tt

iff_right : ConditionsAreMet row.iff_right
iff_right names g σ ctx h = tt

all_right : ConditionsAreMet row.all_right
all_right names g σ ctx h = ((quantified_is_bound (σ.sort (codes "S")) h.0, sorts_in_formula names (σ.sort (codes "S")) [] (σ.formula (codes "A")) h.1), tt)

ex_left : ConditionsAreMet row.ex_left
ex_left names g σ ctx h = ((quantified_is_bound (σ.sort (codes "S")) h.0, sorts_in_formula names (σ.sort (codes "S")) [] (σ.formula (codes "A")) h.1), tt)

all_left : ConditionsAreMet row.all_left
all_left names g σ ctx h = (tt, ((quantified_is_bound (σ.sort (codes "S")) h.0, sorts_in_formula names (σ.sort (codes "S")) [] (σ.formula (codes "A")) h.1), tt))

ex_right : ConditionsAreMet row.ex_right
ex_right names g σ ctx h = (tt, ((quantified_is_bound (σ.sort (codes "S")) h.0, sorts_in_formula names (σ.sort (codes "S")) [] (σ.formula (codes "A")) h.1), tt))

cut : ConditionsAreMet row.cut
cut names g σ ctx h = tt

hide_left : ConditionsAreMet row.hide_left
hide_left names g σ ctx h = tt

hide_right : ConditionsAreMet row.hide_right
hide_right names g σ ctx h = tt

eq_refl : ConditionsAreMet row.eq_refl
eq_refl names g σ ctx h = tt

eq_sym : ConditionsAreMet row.eq_sym
eq_sym names g σ ctx h = tt

apply_eq : ConditionsAreMet row.apply_eq
apply_eq names g σ ctx h = tt

known_left : ConditionsAreMet row.known_left
known_left names g σ ctx h = tt

known_right : ConditionsAreMet row.known_right
known_right names g σ ctx h = tt

bool_cases : ConditionsAreMet row.bool_cases
bool_cases names g σ ctx h = tt

bool_distinct : ConditionsAreMet row.bool_distinct
bool_distinct names g σ ctx h = tt

not_true : ConditionsAreMet row.not_true
not_true names g σ ctx h = tt

not_false : ConditionsAreMet row.not_false
not_false names g σ ctx h = tt

not_not : ConditionsAreMet row.not_not
not_not names g σ ctx h = tt

and_true_left : ConditionsAreMet row.and_true_left
and_true_left names g σ ctx h = tt

and_true_right : ConditionsAreMet row.and_true_right
and_true_right names g σ ctx h = tt

and_false_left : ConditionsAreMet row.and_false_left
and_false_left names g σ ctx h = tt

and_false_right : ConditionsAreMet row.and_false_right
and_false_right names g σ ctx h = tt

or_true_left : ConditionsAreMet row.or_true_left
or_true_left names g σ ctx h = tt

or_true_right : ConditionsAreMet row.or_true_right
or_true_right names g σ ctx h = tt

or_false_left : ConditionsAreMet row.or_false_left
or_false_left names g σ ctx h = tt

or_false_right : ConditionsAreMet row.or_false_right
or_false_right names g σ ctx h = tt

imp_true_left : ConditionsAreMet row.imp_true_left
imp_true_left names g σ ctx h = tt

imp_true_right : ConditionsAreMet row.imp_true_right
imp_true_right names g σ ctx h = tt

imp_false_left : ConditionsAreMet row.imp_false_left
imp_false_left names g σ ctx h = tt

imp_false_right : ConditionsAreMet row.imp_false_right
imp_false_right names g σ ctx h = tt

all_true : ConditionsAreMet row.all_true
all_true names g σ ctx h = tt

ex_false : ConditionsAreMet row.ex_false
ex_false names g σ ctx h = tt

pub logic_are_met : AllAreMet logic_rows
logic_are_met =
    close ⊗ close_true ⊗ close_false ⊗ not_left ⊗ not_right ⊗ and_left ⊗ and_right ⊗ or_left ⊗ or_right ⊗ imp_left ⊗ imp_right ⊗ iff_left ⊗ iff_right ⊗ all_right ⊗ ex_left ⊗ all_left ⊗ ex_right ⊗ cut ⊗ hide_left ⊗ hide_right ⊗ eq_refl ⊗ eq_sym ⊗ apply_eq ⊗ known_left ⊗ known_right ⊗ bool_cases ⊗ bool_distinct ⊗ not_true ⊗ not_false ⊗ not_not ⊗ and_true_left ⊗ and_true_right ⊗ and_false_left ⊗ and_false_right ⊗ or_true_left ⊗ or_true_right ⊗ or_false_left ⊗ or_false_right ⊗ imp_true_left ⊗ imp_true_right ⊗ imp_false_left ⊗ imp_false_right ⊗ all_true ⊗ ex_false ⊗ tt

-- ---- integers

fold_add : ConditionsAreMet integer.fold_add
fold_add names g σ ctx h = (tt, tt)

fold_sub : ConditionsAreMet integer.fold_sub
fold_sub names g σ ctx h = (tt, tt)

fold_mul : ConditionsAreMet integer.fold_mul
fold_mul names g σ ctx h = (tt, tt)

fold_neg : ConditionsAreMet integer.fold_neg
fold_neg names g σ ctx h = (tt, tt)

fold_div : ConditionsAreMet integer.fold_div
fold_div names g σ ctx h = (tt, tt)

fold_mod : ConditionsAreMet integer.fold_mod
fold_mod names g σ ctx h = (tt, tt)

fold_wrap : ConditionsAreMet integer.fold_wrap
fold_wrap names g σ ctx h = (tt, tt)

fold_lt : ConditionsAreMet integer.fold_lt
fold_lt names g σ ctx h = (tt, tt)

fold_le : ConditionsAreMet integer.fold_le
fold_le names g σ ctx h = (tt, tt)

fold_eq : ConditionsAreMet integer.fold_eq
fold_eq names g σ ctx h = (tt, tt)

add_comm : ConditionsAreMet integer.add_comm
add_comm names g σ ctx h = tt

add_assoc : ConditionsAreMet integer.add_assoc
add_assoc names g σ ctx h = tt

add_zero : ConditionsAreMet integer.add_zero
add_zero names g σ ctx h = tt

mul_comm : ConditionsAreMet integer.mul_comm
mul_comm names g σ ctx h = tt

mul_assoc : ConditionsAreMet integer.mul_assoc
mul_assoc names g σ ctx h = tt

mul_one : ConditionsAreMet integer.mul_one
mul_one names g σ ctx h = tt

mul_zero : ConditionsAreMet integer.mul_zero
mul_zero names g σ ctx h = tt

distrib : ConditionsAreMet integer.distrib
distrib names g σ ctx h = tt

sub_def : ConditionsAreMet integer.sub_def
sub_def names g σ ctx h = tt

neg_def : ConditionsAreMet integer.neg_def
neg_def names g σ ctx h = tt

collect : ConditionsAreMet integer.collect
collect names g σ ctx h = (tt, tt)

collect_one : ConditionsAreMet integer.collect_one
collect_one names g σ ctx h = (tt, tt)

lt_to_le : ConditionsAreMet integer.lt_to_le
lt_to_le names g σ ctx h = tt

not_le : ConditionsAreMet integer.not_le
not_le names g σ ctx h = tt

not_lt : ConditionsAreMet integer.not_lt
not_lt names g σ ctx h = tt

le_refl : ConditionsAreMet integer.le_refl
le_refl names g σ ctx h = tt

lt_refl : ConditionsAreMet integer.lt_refl
lt_refl names g σ ctx h = tt

le_trans : ConditionsAreMet integer.le_trans
le_trans names g σ ctx h = tt

le_antisym : ConditionsAreMet integer.le_antisym
le_antisym names g σ ctx h = tt

le_sum : ConditionsAreMet integer.le_sum
le_sum names g σ ctx h = tt

le_scale : ConditionsAreMet integer.le_scale
le_scale names g σ ctx h = (tt, tt)

le_weaken : ConditionsAreMet integer.le_weaken
le_weaken names g σ ctx h = (tt, tt)

le_shift : ConditionsAreMet integer.le_shift
le_shift names g σ ctx h = tt

le_eq : ConditionsAreMet integer.le_eq
le_eq names g σ ctx h = tt

le_clash : ConditionsAreMet integer.le_clash
le_clash names g σ ctx h = tt

int_cases : ConditionsAreMet integer.int_cases
int_cases names g σ ctx h = tt

int_ind : ConditionsAreMet integer.int_ind
int_ind names g σ ctx h = ((tt, sorts_in_formula names IntSort [] (σ.formula (codes "A")) h.1), (below_formula names (IntSort ∷ []) (σ.formula (codes "A")) h.1, tt))

in_int_def : ConditionsAreMet integer.in_int_def
in_int_def names g σ ctx h = tt

wrap_in : ConditionsAreMet integer.wrap_in
wrap_in names g σ ctx h = tt

wrap_range : ConditionsAreMet integer.wrap_range
wrap_range names g σ ctx h = tt

wrap_wrap : ConditionsAreMet integer.wrap_wrap
wrap_wrap names g σ ctx h = tt

wrap_add : ConditionsAreMet integer.wrap_add
wrap_add names g σ ctx h = tt

wrap_mul : ConditionsAreMet integer.wrap_mul
wrap_mul names g σ ctx h = tt

wrap_neg : ConditionsAreMet integer.wrap_neg
wrap_neg names g σ ctx h = tt

mod_def : ConditionsAreMet integer.mod_def
mod_def names g σ ctx h = tt

div_neg_left : ConditionsAreMet integer.div_neg_left
div_neg_left names g σ ctx h = tt

div_neg_right : ConditionsAreMet integer.div_neg_right
div_neg_right names g σ ctx h = tt

div_bound : ConditionsAreMet integer.div_bound
div_bound names g σ ctx h = tt

sum_empty : ConditionsAreMet integer.sum_empty
sum_empty names g σ ctx h = tt

sum_last : ConditionsAreMet integer.sum_last
sum_last names g σ ctx h = ((tt, sorts_in_term names IntSort ctx (σ.term (codes "s")) h.2.1), tt)

pub integers_are_met : AllAreMet integer_rows
integers_are_met =
    fold_add ⊗ fold_sub ⊗ fold_mul ⊗ fold_neg ⊗ fold_div ⊗ fold_mod ⊗ fold_wrap ⊗ fold_lt ⊗ fold_le ⊗ fold_eq ⊗ add_comm ⊗ add_assoc ⊗ add_zero ⊗ mul_comm ⊗ mul_assoc ⊗ mul_one ⊗ mul_zero ⊗ distrib ⊗ sub_def ⊗ neg_def ⊗ collect ⊗ collect_one ⊗ lt_to_le ⊗ not_le ⊗ not_lt ⊗ le_refl ⊗ lt_refl ⊗ le_trans ⊗ le_antisym ⊗ le_sum ⊗ le_scale ⊗ le_weaken ⊗ le_shift ⊗ le_eq ⊗ le_clash ⊗ int_cases ⊗ int_ind ⊗ in_int_def ⊗ wrap_in ⊗ wrap_range ⊗ wrap_wrap ⊗ wrap_add ⊗ wrap_mul ⊗ wrap_neg ⊗ mod_def ⊗ div_neg_left ⊗ div_neg_right ⊗ div_bound ⊗ sum_empty ⊗ sum_last ⊗ tt
