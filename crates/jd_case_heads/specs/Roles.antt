-- Whose the cases of a method are.
use Rattle.std.specs.Prelude.{cond}
use Rattle.jd_syntax.specs.JavaTrees.{JavaMethod}
use Rattle.jd_model.specs.Cases.{Role, Static, Ordinary, Helper}
use Rattle.jd_specifications.specs.WrittenCases.{has_mark, is_helper}

abbrev pub method_role : JavaMethod → Role
method_role m = cond m.is_static Static (cond (has_mark is_helper m.specs) Helper Ordinary)
