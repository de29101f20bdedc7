-- The declarations of methods and constructors by their numbers, in the order of the files.
use Rattle.std.specs.Prelude.{◌≡◌, ℕ, List, [], ◌∷◌, map, flat_map, Option, Some, None}
use Rattle.std.specs.Borrow.{Bor}
use Rattle.std.specs.List.{slice_get}
use Rattle.jd_syntax.specs.declared.java.MethodDecl.{MethodDecl}
use Rattle.jd_syntax.specs.JavaTrees.{JavaClass, JavaMember, FieldMember, ConstantMember, MethodMember, JavaMethod, JavaUnit, method_view}
use Rattle.jd_jinfos.specs.Infos.{PlainClassInfo, class_infos}
use Rattle.jd_jml_written.specs.Marked.{PlainCase, own_cases}

abbrev pub tree_view : Bor MethodDecl → JavaMethod
tree_view t = method_view t.now

abbrev pub method_in : JavaMember → List JavaMethod
method_in (FieldMember f) = []
method_in (ConstantMember c) = []
method_in (MethodMember m) = m ∷ []

abbrev pub methods_in : Option JavaClass → List JavaMethod
methods_in None = []
methods_in (Some c) = flat_map method_in c.members

abbrev pub methods_of_info : PlainClassInfo → List JavaMethod
methods_of_info i = methods_in i.decl

abbrev pub trees_of : List JavaUnit → List JavaMethod
trees_of units = flat_map methods_of_info (class_infos units)

abbrev pub AreTrees : List JavaUnit → List (Bor MethodDecl) → Type 0
AreTrees units trees = map tree_view trees ≡ trees_of units

-- the cases of the method or constructor of a number
abbrev pub cases_of_tree : ℕ → Option JavaMethod → List PlainCase
cases_of_tree m None = []
cases_of_tree m (Some t) = own_cases m t

abbrev pub cases_by : List JavaMethod → ℕ → List PlainCase
cases_by trees m = cases_of_tree m (slice_get trees m)
