-- Classes by their names in the tables that a task has.
use Rattle.std.proofs.Common.{List, Option, ap, map, option_map, sym, ◌≡◌, ◌∙◌, ℕ}
use Rattle.std.proofs.Math.Logic.{∥∥₁_elim}
use Rattle.std.specs.Coded.{Coded-set, coded_ℕ}
use Rattle.std.specs.Option.{unwrap_or}
use Rattle.jd_base.specs.declared.ids.ClassId.{ClassId}
use Rattle.jd_classes.specs.Tables.{AreTables}
use Rattle.jd_classes.specs.declared.classes.Classes.{Classes}
use Rattle.jd_jclasses.specs.Classes.{class_in, class_named}
use Rattle.jd_jinfos.specs.Views.{class_number}
use Rattle.jd_names.proofs.ClassNames.{listed_names}
use Rattle.jd_names.specs.Tables.{class_name}
use Rattle.jd_syntax.specs.JavaTrees.{JavaUnit}
use Rattle.jd_task_classes.specs.Classes.{named_in, tables_view}
use Rattle.jd_tparse.specs.Programs.{AreSomeTables}

module _ (c : Classes) (name : List ℕ) where
  named_is : (units : List JavaUnit) → AreTables units c → named_in (tables_view c) name ≡ class_named units name
  named_is units tables = ap (λ l. class_in (map class_name l) name) tables.classes_ ∙ ap (λ l. class_in l name) (listed_names units)

  -- the number of the class that was found, or 0
  pub number_is : ∥ AreSomeTables c ∥₁ → (o : Option ClassId) → ((units : List JavaUnit) → AreTables units c → option_map class_number o ≡ class_named units name)
      → unwrap_or (option_map class_number o) 0 ≡ unwrap_or (named_in (tables_view c) name) 0
  number_is some o each = ∥∥₁_elim some (Coded-set coded_ℕ _ _) (λ s. ap (λ m. unwrap_or m 0) (each s.0 s.1 ∙ sym (named_is s.0 s.1)))
