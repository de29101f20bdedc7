-- The parameters of a case by the names of the body that runs.
use Rattle.std.specs.Prelude.{ℕ, Bool, List, map, Option, Some, None}
use Rattle.std.specs.List.{slice_get}
use Rattle.jd_syntax.specs.JavaTrees.{JavaParameter}
use Rattle.jd_syntax.specs.Names.{Name, decl_view}
use Rattle.jd_syntax.specs.declared.variable.VarDecl.{VarDecl}
use Rattle.jd_bodies.specs.Declarations.{Declarations}
use Rattle.jd_bodies.specs.Variables.{sort_of}
use Rattle.jd_model.specs.Cases.{Parameter}
use Rattle.jd_model.specs.Tables.{constants_of_parameters, parameter_constant}
use Rattle.jd_specifications.specs.WrittenCases.{declared_type, type_written}

abbrev pub decl_name : VarDecl → Name
decl_name v = (decl_view v).name

-- the constants of these variables
abbrev pub constant_names : List VarDecl → List Name
constant_names vs = constants_of_parameters (map decl_name vs)

abbrev pub own_constant : Declarations → JavaParameter → Name
own_constant d p = parameter_constant (record { text = p.name.name; sort = sort_of (type_written d p.ty) })

abbrev pub respelled_name : Option Name → Parameter → Name
respelled_name None q = q.constant
respelled_name (Some x) q = x

-- the parameter at a position, with its mark
abbrev pub spelled_parameter : Declarations → List Name → ℕ → JavaParameter → Bool → Parameter
spelled_parameter d xs i p nullable = record {
  constant = respelled_name (slice_get xs i) (record { constant = own_constant d p; declared = declared_type d p.ty nullable });
  declared = declared_type d p.ty nullable;
}
