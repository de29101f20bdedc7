-- The tables of a program as lists: a row of each case in the order of the obligations, the invariants of each class, and each body by its
-- number.
use Rattle.std.specs.Prelude.{◌≡◌, ℕ, suc, ◌+◌, cond, List, [], ◌∷◌, ◌++◌, flat_map, map, length, Option, Some, None}
use Rattle.std.specs.List.{range_with_len}
use Rattle.jd_base.specs.declared.sort.Sort.{Sort}
use Rattle.jd_syntax.specs.JavaTrees.{JavaMethod, JavaResult, Void, Gives, OfConstructor, JavaUnit}
use Rattle.jd_jclasses.specs.Classes.{parents}
use Rattle.jd_jclasses.specs.Members.{Declared, Kind, FieldOf, ConstantOf, RoutineOf}
use Rattle.jd_jclasses.specs.Methods.{routines}
use Rattle.jd_bodies.specs.Bodies.{body_of}
use Rattle.jd_bodies.specs.Declarations.{Declarations, type_by}
use Rattle.jd_bodies.specs.Variables.{sort_of}
use Rattle.jd_model.specs.Programs.{Body, Program}
use Rattle.jd_model.specs.ContractForms.{PlainBody, PlainCase, PlainContracts, PlainInvariant}
use Rattle.jd_jml_meaning.specs.InvariantFormulas.{invariant_formulas}
use Rattle.jd_jml_meaning.specs.JmlCases.{JmlCase, JmlProgram}
use Rattle.jd_jml_meaning.specs.Resolved.{JmlExpr}
use Rattle.jd_case_rows.specs.Rows.{row_of}
use Rattle.jd_programs.specs.Cases.{all_cases}
use Rattle.jd_programs.specs.Members.{own}

-- ---- cases

-- the numbers of the fields of a class's objects, those of the topmost class first (JLS 8.2)
abbrev pub fields_along : List JavaUnit → (ℕ → List ℕ) → ℕ → List ℕ
fields_along units lineage c = flat_map (λ a. (own units a).fields) (lineage c)

module _ (p : Program) (fields : ℕ → List ℕ) where
  -- the row of a case, by the body that it runs
  abbrev pub row_by : JmlCase → Option Body → List PlainCase
  row_by c None = []
  row_by c (Some b) = row_of p fields c b ∷ []

  abbrev pub row_at : JmlCase → List PlainCase
  row_at c = row_by c (p.body c.body)

  abbrev pub rows_of : List JmlCase → List PlainCase
  rows_of cs = flat_map row_at cs

-- ---- invariants

abbrev pub invariant_row : Program → (ℕ → List JmlExpr) → ℕ → PlainInvariant
invariant_row p invariants c = record { class = c; formulas = invariant_formulas p (invariants c) }

-- ---- bodies

-- `this`, where there is one, and the parameters
abbrev pub parameter_count : JavaMethod → ℕ
parameter_count m = cond m.is_static 0 1 + length m.parameters

module _ (d : Declarations) where
  abbrev pub result_if : JavaResult → Option Sort
  result_if Void = None
  result_if (Gives w) = Some (sort_of (type_by d.class_named w.written))
  result_if OfConstructor = None

  abbrev pub body_row : ℕ → ℕ → JavaMethod → PlainBody
  body_row number class m = record {
    method = number;
    params = parameter_count m;
    vars = (body_of d class m).variables;
    result = result_if m.result;
    code = (body_of d class m).code_;
  }

  abbrev pub body_rows_of_kind : ℕ → ℕ → Kind → List PlainBody
  body_rows_of_kind number class (FieldOf t) = []
  body_rows_of_kind number class (ConstantOf n) = []
  body_rows_of_kind number class (RoutineOf m) = body_row number class m ∷ []

  -- of routines that are numbered from this number on
  abbrev pub body_rows_from : ℕ → List Declared → List PlainBody
  body_rows_from number [] = []
  body_rows_from number (r ∷ rs) = body_rows_of_kind number r.class r.kind ++ body_rows_from (suc number) rs

-- ---- together

module _ (units : List JavaUnit) (d : Declarations) (p : Program) (invariants : ℕ → List JmlExpr) where
  -- a case's family is no part of its row
  abbrev pub case_rows : List PlainCase
  case_rows = rows_of p (fields_along units p.superclasses) (all_cases units p.superclasses d (λ m. m))

  abbrev pub invariant_rows : List PlainInvariant
  invariant_rows = map (invariant_row p invariants) (range_with_len 0 (length (parents units)))

  abbrev pub body_rows : List PlainBody
  body_rows = body_rows_from d 0 (routines units)

  abbrev pub tables : PlainContracts
  tables = record { cases = case_rows; invariants = invariant_rows; bodies = body_rows }
