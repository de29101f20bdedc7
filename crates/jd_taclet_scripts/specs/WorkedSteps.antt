-- Worked steps: one closes a sequent by an assumed formula, one replaces a term by its value.
use Rattle.std.specs.Prelude.{List, None, Some, codes, cond, pos, ◌∷◌, []}
use Rattle.std.specs.Str.{bytes_eq}
use Rattle.jd_base.specs.declared.sort.Sort.TheVariants.{Int as IntSort}
use Rattle.jd_model.specs.Contexts.{Here}
use Rattle.jd_model.specs.Sequents.{PlainSequent}
use Rattle.jd_model.specs.declared.sequent.Side.TheVariants.{Left, Right}
use Rattle.jd_patterns.specs.Instances.{Instance}
use Rattle.jd_patterns.specs.Patterns.{FormulaVar}
use Rattle.jd_sequent.specs.Obligations.{PlainTask}
use Rattle.jd_sequent.specs.Trees.{PlainStep}
use Rattle.jd_syntax.specs.CodeNames.{heap_name}
use Rattle.jd_syntax.specs.Codes.{Done, IntArray, NullLiteral, ReturnVoid}
use Rattle.jd_taclet_scripts.specs.Laws.{AllInShape}
use Rattle.jd_taclet_scripts.specs.Steps.{IsTacletStep}
use Rattle.jd_taclets.specs.Taclets.{Taclet}
use Rattle.jd_taclets.specs.WorkedRows.{fold_add}
use Rattle.jd_taclets.specs.Writing.{right_row}
use Rattle.jd_term.specs.Formulas.{Equal, TrueFormula}
use Rattle.jd_term.specs.Terms.{Arithmetic, NoLocations, NullTerm, Number}
use Rattle.jd_term.specs.declared.formula.Modality.TheVariants as modalities
use Rattle.jd_term.specs.declared.term.ArithmeticOp.TheVariants.{Add}

-- close R A; assume L A => closed
abbrev pub close : Taclet
close = right_row (codes "close") (FormulaVar (codes "A")) ((Left, FormulaVar (codes "A")) ∷ []) [] [] []

abbrev pub worked_rows : List Taclet
worked_rows = fold_add ∷ close ∷ []

-- A is `(eq 3 null)`, m is 1, n is 2 and m+n is 3
abbrev pub worked_instance : Instance
worked_instance = record {
  formula = λ n. Equal (Number (pos 3)) NullTerm;
  term = λ n. NullTerm;
  literal = λ n. cond (bytes_eq n (codes "m")) (pos 1) (cond (bytes_eq n (codes "n")) (pos 2) (pos 3));
  locations = λ n. NoLocations;
  kind = λ n. IntArray;
  sort = λ n. IntSort;
  name = λ n. heap_name;
  result = λ n. None;
  field = λ n. 0;
  class = λ n. 0;
  label = λ n. 0;
  code = λ n. Done;
  returned = λ n. ReturnVoid;
  simple = λ n. NullLiteral;
  modality = λ n. modalities.Necessity;
  context = λ n. Here Done;
}

-- `(eq 3 null)` on both sides
abbrev pub with_both : PlainSequent
with_both = record { left = TrueFormula ∷ Equal (Number (pos 3)) NullTerm ∷ []; right = Equal (Number (pos 3)) NullTerm ∷ [] }

-- close R1 [L2]
abbrev pub close_step : PlainStep
close_step = record {
  rule = codes "close";
  place = Some (record { side = Right; index = 1; path = [] });
  assumes = Some (record { side = Left; index = 2; path = [] }) ∷ [];
  insts = [];
}

abbrev pub with_sum : PlainSequent
with_sum = record { left = []; right = TrueFormula ∷ Equal (Arithmetic Add (Number (pos 1)) (Number (pos 2))) NullTerm ∷ [] }

abbrev pub with_value : PlainSequent
with_value = record { left = []; right = TrueFormula ∷ Equal (Number (pos 3)) NullTerm ∷ [] }

-- foldAdd R2.1
abbrev pub fold_step : PlainStep
fold_step = record { rule = codes "foldAdd"; place = Some (record { side = Right; index = 2; path = 1 ∷ [] }); assumes = []; insts = [] }

-- whatever the task: what a step asks can be met
pub record StepsAreWorked : Type 0 where
  pub shapes : AllInShape worked_rows
  pub closed : (t : PlainTask) → IsTacletStep worked_rows t with_both close_step []
  pub folded : (t : PlainTask) → IsTacletStep worked_rows t with_sum fold_step (with_value ∷ [])
