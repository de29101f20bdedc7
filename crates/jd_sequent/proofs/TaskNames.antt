-- The names of a task are those that its tables list and its variables have.
use Rattle.std.proofs.Common.{List, [], ap, map, refl, ◌∷◌, ◌≡◌}
use Rattle.jd_classes.specs.declared.classes.Classes.{Classes}
use Rattle.jd_names.specs.Tables.{name_table}
use Rattle.jd_syntax.specs.Names.{Declared, Name, decl_view}
use Rattle.jd_syntax.specs.declared.variable.VarDecl.{VarDecl}
use Rattle.jd_task_classes.specs.Classes.{tables_view}
use Rattle.jd_tparse.specs.Names.{variables}
use Rattle.jd_tparse.specs.Programs.{tables_of}

named : (vs : List VarDecl) → variables vs ≡ map (λ (v : Declared). v.name) (map decl_view vs)
named [] = refl
named (v ∷ vs) = ap (λ (l : List Name). (decl_view v).name ∷ l) (named vs)

pub names_listed : (c : Classes) (vs : List VarDecl) → name_table (tables_of c) (variables vs) ≡ name_table (tables_view c) (map (λ (v : Declared). v.name) (map decl_view vs))
names_listed c vs = ap (name_table (tables_view c)) (named vs)
