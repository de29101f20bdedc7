-- The code of members and calls by what they stand for.
use Rattle.std.specs.Prelude.{ℕ, true, false, List, Option, Some, None}
use Rattle.jd_syntax.specs.Codes as code
use Rattle.jd_syntax.specs.Codes.{Expr, exprs_of}
use Rattle.jd_bodies.specs.declared.value.ValueType.TheVariants as types
use Rattle.jd_bodies.specs.Codes.{Made, Target, ToField, NoTarget, nothing, with_one, with_list, static_call_code, method_by}
use Rattle.jd_bodies.specs.Declarations.{Declarations}
use Rattle.jd_bodies.specs.Variables.{Progress}
use Rattle.jd_expression_code.specs.declared.members.Member.{Member}
use Rattle.jd_expression_code.specs.declared.members.Member.TheVariants as members
use Rattle.jd_expression_code.specs.declared.members.Called.{Called}
use Rattle.jd_expression_code.specs.declared.members.Called.TheVariants as calls
use Rattle.jd_expression_code.specs.declared.members.Targeted.{Targeted}

abbrev pub member_by : Member → Progress → (Progress → Made) → Made
member_by (members.Constant n) q object = (q, code.IntLiteral n)
member_by (members.Field f) q object = with_one (λ e. code.ReadField e f) (object q)
member_by members.Length q object = with_one code.LengthOf (object q)
member_by members.Nothing q object = (q, nothing)

abbrev pub called_by : Declarations → Called → (Progress → Made) → (Progress → Progress × List Expr) → Progress → Made
called_by d (calls.OfClass callee) object arguments q = with_list (λ r. static_call_code d callee (exprs_of r)) (arguments q)
called_by d (calls.Static class m) object arguments q = method_by true class (types.Class class) m (object q) arguments
called_by d (calls.Virtual class m) object arguments q = method_by false class (types.Class class) m (object q) arguments
called_by d calls.Unknown object arguments q = ((object q).0, nothing)
called_by d calls.Nothing object arguments q = (q, nothing)

abbrev pub targeted_by : (Progress → Made) → Option Targeted → Target
targeted_by object None = NoTarget
targeted_by object (Some t) = ToField object t.object t.field t.value
