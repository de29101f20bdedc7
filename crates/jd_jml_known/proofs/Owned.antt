-- Members of classes.
use Rattle.std.proofs.Common.{◌≡◌, ℕ, Option, Some, None, refl}
use Rattle.jd_bodies.specs.Variables.{sort_of}
use Rattle.jd_bodies.specs.declared.value.ValueType.{ValueType}
use Rattle.jd_bodies.specs.declared.value.Variable.{Variable}
use Rattle.jd_bodies.specs.declared.value.Variable.TheVariants as variables
use Rattle.jd_jml_meaning.specs.Resolved.{JmlExpr}
use Rattle.jd_model.specs.Programs.{Program, field_sort}
use Rattle.jd_specifications.specs.Resolution.{own_member}
use Rattle.jd_jml_known.specs.Members.{HasItsSort, own_of, read_of}

pub read_own : (v : Option Variable) (o : JmlExpr) → read_of (own_of v) o ≡ own_member o v
read_own None o = refl
read_own (Some (variables.Field f t)) o = refl
read_own (Some (variables.Constant n)) o = refl

pub sorted_own : (v : Option Variable) (p : Program) → ((f : ℕ) (t : ValueType) → v ≡ Some (variables.Field f t) → field_sort p f ≡ sort_of t) → HasItsSort p (own_of v)
sorted_own None p h = tt
sorted_own (Some (variables.Field f t)) p h = h f t refl
sorted_own (Some (variables.Constant n)) p h = tt
