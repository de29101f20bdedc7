-- Each row of logic keeps trees spelled.
use Rattle.std.proofs.Common.{[], refl, sym}
use Rattle.std.specs.Prelude.{codes}
use Rattle.jd_spelled_steps.proofs.Plain.{plain}
use Rattle.jd_spelled_steps.proofs.Puts.{formula_fits}
use Rattle.jd_spelled_steps.specs.Rows.{AllKeep, RowKeeps}
use Rattle.jd_spelled_trees.proofs.Puts.{put_in_formula, wider_term}
use Rattle.jd_tac_logic.proofs.Rows.{◌⊗◌}
use Rattle.jd_tac_logic.specs.Logic as row
use Rattle.jd_tac_logic.specs.Logic.{logic_rows}
use Rattle.jd_term.specs.Terms.{Constant}

close : RowKeeps row.close
close names g σ ctx h = (tt, plain g.program σ row.close.goals refl)

close_true : RowKeeps row.close_true
close_true names g σ ctx h = (tt, plain g.program σ row.close_true.goals refl)

close_false : RowKeeps row.close_false
close_false names g σ ctx h = (tt, plain g.program σ row.close_false.goals refl)

not_left : RowKeeps row.not_left
not_left names g σ ctx h = (((tt, (h.found, tt)), tt), plain g.program σ row.not_left.goals refl)

not_right : RowKeeps row.not_right
not_right names g σ ctx h = ((((h.found, tt), tt), tt), plain g.program σ row.not_right.goals refl)

and_left : RowKeeps row.and_left
and_left names g σ ctx h = ((((h.found.0, (h.found.1, tt)), tt), tt), plain g.program σ row.and_left.goals refl)

and_right : RowKeeps row.and_right
and_right names g σ ctx h = (((tt, (h.found.0, tt)), ((tt, (h.found.1, tt)), tt)), plain g.program σ row.and_right.goals refl)

or_left : RowKeeps row.or_left
or_left names g σ ctx h = ((((h.found.0, tt), tt), (((h.found.1, tt), tt), tt)), plain g.program σ row.or_left.goals refl)

or_right : RowKeeps row.or_right
or_right names g σ ctx h = (((tt, (h.found.0, (h.found.1, tt))), tt), plain g.program σ row.or_right.goals refl)

imp_left : RowKeeps row.imp_left
imp_left names g σ ctx h = (((tt, (h.found.0, tt)), (((h.found.1, tt), tt), tt)), plain g.program σ row.imp_left.goals refl)

imp_right : RowKeeps row.imp_right
imp_right names g σ ctx h = ((((h.found.0, tt), (h.found.1, tt)), tt), plain g.program σ row.imp_right.goals refl)

iff_left : RowKeeps row.iff_left
iff_left names g σ ctx h = ((((h.found.0, (h.found.1, tt)), tt), ((tt, (h.found.0, (h.found.1, tt))), tt)), plain g.program σ row.iff_left.goals refl)

iff_right : RowKeeps row.iff_right
iff_right names g σ ctx h = ((((h.found.0, tt), (h.found.1, tt)), (((h.found.1, tt), (h.found.0, tt)), tt)), plain g.program σ row.iff_right.goals refl)

all_right : RowKeeps row.all_right
all_right names g σ ctx h = (((tt, (put_in_formula names (σ.sort (codes "S")) [] (Constant (σ.name (codes "c"))) (h.asked.0, h.given.0) (σ.formula (codes "A")) h.found.1, tt)), tt), ((tt, tt, ((tt, formula_fits names (σ.sort (codes "S")) [] (Constant (σ.name (codes "c"))) h.asked.0 tt (σ.formula (codes "A")) h.found.1 h.narrow), tt)), tt))

ex_left : RowKeeps row.ex_left
ex_left names g σ ctx h = ((((put_in_formula names (σ.sort (codes "S")) [] (Constant (σ.name (codes "c"))) (h.asked.0, h.given.0) (σ.formula (codes "A")) h.found.1, tt), tt), tt), ((tt, ((tt, formula_fits names (σ.sort (codes "S")) [] (Constant (σ.name (codes "c"))) h.asked.0 tt (σ.formula (codes "A")) h.found.1 h.narrow), tt), tt), tt))

all_left : RowKeeps row.all_left
all_left names g σ ctx h = ((((put_in_formula names (σ.sort (codes "S")) [] (σ.term (codes "t")) (h.asked.0, h.given.0.0) (σ.formula (codes "A")) h.found.1, tt), tt), tt), ((tt, ((tt, formula_fits names (σ.sort (codes "S")) [] (σ.term (codes "t")) h.asked.0 h.given.0.1 (σ.formula (codes "A")) h.found.1 h.narrow), tt), tt), tt))

ex_right : RowKeeps row.ex_right
ex_right names g σ ctx h = (((tt, (put_in_formula names (σ.sort (codes "S")) [] (σ.term (codes "t")) (h.asked.0, h.given.0.0) (σ.formula (codes "A")) h.found.1, tt)), tt), ((tt, tt, ((tt, formula_fits names (σ.sort (codes "S")) [] (σ.term (codes "t")) h.asked.0 h.given.0.1 (σ.formula (codes "A")) h.found.1 h.narrow), tt)), tt))

cut : RowKeeps row.cut
cut names g σ ctx h = ((((h.given.0.0, tt), tt), ((tt, (h.given.0.0, tt)), tt)), plain g.program σ row.cut.goals refl)

hide_left : RowKeeps row.hide_left
hide_left names g σ ctx h = (((tt, tt), tt), plain g.program σ row.hide_left.goals refl)

hide_right : RowKeeps row.hide_right
hide_right names g σ ctx h = (((tt, tt), tt), plain g.program σ row.hide_right.goals refl)

eq_refl : RowKeeps row.eq_refl
eq_refl names g σ ctx h = (tt, plain g.program σ row.eq_refl.goals refl)

eq_sym : RowKeeps row.eq_sym
eq_sym names g σ ctx h = ((sym h.found.0, h.found.2, h.found.1), plain g.program σ row.eq_sym.goals refl)

apply_eq : RowKeeps row.apply_eq
apply_eq names g σ ctx h = ((sym h.assumed.0.0.0, wider_term names [] ctx (σ.term (codes "t")) h.assumed.0.0.2), plain g.program σ row.apply_eq.goals refl)

known_left : RowKeeps row.known_left
known_left names g σ ctx h = (tt, plain g.program σ row.known_left.goals refl)

known_right : RowKeeps row.known_right
known_right names g σ ctx h = (tt, plain g.program σ row.known_right.goals refl)

bool_cases : RowKeeps row.bool_cases
bool_cases names g σ ctx h = (((((h.asked.0, h.given.0.0, tt), tt), tt), ((((h.asked.0, h.given.0.0, tt), tt), tt), tt)), plain g.program σ row.bool_cases.goals refl)

bool_distinct : RowKeeps row.bool_distinct
bool_distinct names g σ ctx h = (tt, plain g.program σ row.bool_distinct.goals refl)

not_true : RowKeeps row.not_true
not_true names g σ ctx h = (tt, plain g.program σ row.not_true.goals refl)

not_false : RowKeeps row.not_false
not_false names g σ ctx h = (tt, plain g.program σ row.not_false.goals refl)

not_not : RowKeeps row.not_not
not_not names g σ ctx h = (h.found, plain g.program σ row.not_not.goals refl)

and_true_left : RowKeeps row.and_true_left
and_true_left names g σ ctx h = (h.found.1, plain g.program σ row.and_true_left.goals refl)

and_true_right : RowKeeps row.and_true_right
and_true_right names g σ ctx h = (h.found.0, plain g.program σ row.and_true_right.goals refl)

and_false_left : RowKeeps row.and_false_left
and_false_left names g σ ctx h = (tt, plain g.program σ row.and_false_left.goals refl)

and_false_right : RowKeeps row.and_false_right
and_false_right names g σ ctx h = (tt, plain g.program σ row.and_false_right.goals refl)

or_true_left : RowKeeps row.or_true_left
or_true_left names g σ ctx h = (tt, plain g.program σ row.or_true_left.goals refl)

or_true_right : RowKeeps row.or_true_right
or_true_right names g σ ctx h = (tt, plain g.program σ row.or_true_right.goals refl)

or_false_left : RowKeeps row.or_false_left
or_false_left names g σ ctx h = (h.found.1, plain g.program σ row.or_false_left.goals refl)

or_false_right : RowKeeps row.or_false_right
or_false_right names g σ ctx h = (h.found.0, plain g.program σ row.or_false_right.goals refl)

imp_true_left : RowKeeps row.imp_true_left
imp_true_left names g σ ctx h = (h.found.1, plain g.program σ row.imp_true_left.goals refl)

imp_true_right : RowKeeps row.imp_true_right
imp_true_right names g σ ctx h = (tt, plain g.program σ row.imp_true_right.goals refl)

imp_false_left : RowKeeps row.imp_false_left
imp_false_left names g σ ctx h = (tt, plain g.program σ row.imp_false_left.goals refl)

imp_false_right : RowKeeps row.imp_false_right
imp_false_right names g σ ctx h = (h.found.0, plain g.program σ row.imp_false_right.goals refl)

all_true : RowKeeps row.all_true
all_true names g σ ctx h = (tt, plain g.program σ row.all_true.goals refl)

ex_false : RowKeeps row.ex_false
ex_false names g σ ctx h = (tt, plain g.program σ row.ex_false.goals refl)

-- all of them
pub all_keep : AllKeep logic_rows
all_keep =
    close ⊗ close_true ⊗ close_false ⊗ not_left ⊗ not_right ⊗ and_left ⊗ and_right ⊗ or_left ⊗ or_right ⊗ imp_left ⊗ imp_right ⊗ iff_left ⊗ iff_right ⊗ all_right ⊗ ex_left ⊗ all_left ⊗ ex_right ⊗ cut ⊗ hide_left ⊗ hide_right ⊗ eq_refl ⊗ eq_sym ⊗ apply_eq ⊗ known_left ⊗ known_right ⊗ bool_cases ⊗ bool_distinct ⊗ not_true ⊗ not_false ⊗ not_not ⊗ and_true_left ⊗ and_true_right ⊗ and_false_left ⊗ and_false_right ⊗ or_true_left ⊗ or_true_right ⊗ or_false_left ⊗ or_false_right ⊗ imp_true_left ⊗ imp_true_right ⊗ imp_false_left ⊗ imp_false_right ⊗ all_true ⊗ ex_false ⊗ tt
