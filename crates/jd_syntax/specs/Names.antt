-- Names of program variables and constants, and the views of their declarations.
use Rattle.std.specs.Prelude.{ℕ, List, Option, option_map}
use Rattle.jd_base.specs.declared.sort.Sort.{Sort}
use Rattle.jd_base.specs.declared.sort.ConstDecl.{ConstDecl}
use Rattle.jd_base.specs.declared.ids.ClassId.{ClassId}
use Rattle.jd_syntax.specs.declared.variable.VarId.{VarId}
use Rattle.jd_syntax.specs.declared.variable.VarDecl.{VarDecl}

-- a name with its sort: a program variable or a constant
pub record Name : Type 0 where
  pub text : List ℕ
  pub sort : Sort

abbrev pub var_view : VarId → Name
var_view v = record { text = v.name.items; sort = v.sort }

-- a declared variable: its name, and its class where it has one
pub record Declared : Type 0 where
  pub name : Name
  pub class : Option ℕ

abbrev pub decl_view : VarDecl → Declared
decl_view d = record { name = record { text = d.name.items; sort = d.sort }; class = option_map (λ (c : ClassId). c.0) d.class }

abbrev pub const_decl_view : ConstDecl → Name
const_decl_view d = record { text = d.name.items; sort = d.sort }
