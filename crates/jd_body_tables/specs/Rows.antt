-- The row of a body, by what the tables of classes tell of its method.
use Rattle.std.specs.Prelude.{◌≡◌, ℕ, ◌+◌, cond, List, length, option_map, Some}
use Rattle.std.specs.List.{slice_get}
use Rattle.jd_base.specs.declared.sort.Sort.{Sort}
use Rattle.jd_base.specs.declared.sort.Sort.TheVariants as sorts
use Rattle.jd_syntax.specs.JavaTypes.{PlainType, IntType, BooleanType, IntArrayType, NamedType}
use Rattle.jd_syntax.specs.JavaTrees.{JavaUnit}
use Rattle.jd_jinfos.specs.Infos.{PlainMethodInfo, method_infos}
use Rattle.jd_bodies.specs.Bodies as resolved
use Rattle.jd_model.specs.ContractForms.{PlainBody}

-- whatever class a name stands for
abbrev pub sort_written : PlainType → Sort
sort_written IntType = sorts.Int
sort_written BooleanType = sorts.Bool
sort_written IntArrayType = sorts.Ref
sort_written (NamedType x) = sorts.Ref

abbrev pub row_by : ℕ → PlainMethodInfo → resolved.PlainBody → PlainBody
row_by number info b = record {
  method = number;
  params = cond info.static 0 1 + length info.params;
  vars = b.variables;
  result = option_map sort_written info.result;
  code = b.code_;
}

-- it is the row of this body, of the method or constructor of the number
pub record IsRowAt (units : List JavaUnit) (number : ℕ) (b : resolved.PlainBody) (r : PlainBody) : Type 0 where
  pub info : PlainMethodInfo
  pub there : slice_get (method_infos units) number ≡ Some info
  pub row : r ≡ row_by number info b
