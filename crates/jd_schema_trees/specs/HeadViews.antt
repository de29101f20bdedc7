-- The views of what is a schema variable or given.
use Rattle.jd_syntax.specs.Names.{var_view}
use Rattle.jd_syntax.specs.CodeViews.{kind_view}
use Rattle.jd_patterns.specs.Patterns as pattern
use Rattle.jd_patterns.specs.Patterns.{SortPattern, SortVar, SortIs, KindPattern, KindVar, KindIs, ModalityPattern, ModalityVar, ModalityIs, NamePattern, NameVar, NameIs, ResultPattern, NoResult, ResultIn, ResultVar, ClassPattern, ClassVar, ClassOf}
use Rattle.jd_schema_trees.specs.declared.heads.SSort.{SSort}
use Rattle.jd_schema_trees.specs.declared.heads.SSort.TheVariants as sorts
use Rattle.jd_schema_trees.specs.declared.heads.SKind.{SKind}
use Rattle.jd_schema_trees.specs.declared.heads.SKind.TheVariants as kinds
use Rattle.jd_schema_trees.specs.declared.heads.SModality.{SModality}
use Rattle.jd_schema_trees.specs.declared.heads.SModality.TheVariants as modalities
use Rattle.jd_schema_trees.specs.declared.heads.SName.{SName}
use Rattle.jd_schema_trees.specs.declared.heads.SName.TheVariants as names
use Rattle.jd_schema_trees.specs.declared.heads.SResult.{SResult}
use Rattle.jd_schema_trees.specs.declared.heads.SResult.TheVariants as results
use Rattle.jd_schema_trees.specs.declared.heads.MachineClass.{MachineClass}
use Rattle.jd_schema_trees.specs.declared.heads.MachineClass.TheVariants as machine
use Rattle.jd_schema_trees.specs.declared.heads.SClass.{SClass}
use Rattle.jd_schema_trees.specs.declared.heads.SClass.TheVariants as classes

abbrev pub sort_pattern : SSort → SortPattern
sort_pattern (sorts.Variable n) = SortVar n.items
sort_pattern (sorts.Given s) = SortIs s

abbrev pub kind_pattern : SKind → KindPattern
kind_pattern (kinds.Variable n) = KindVar n.items
kind_pattern (kinds.Given k) = KindIs (kind_view k)

abbrev pub modality_pattern : SModality → ModalityPattern
modality_pattern (modalities.Variable n) = ModalityVar n.items
modality_pattern (modalities.Given m) = ModalityIs m

abbrev pub name_pattern : SName → NamePattern
name_pattern (names.Variable n) = NameVar n.items
name_pattern (names.Given x) = NameIs (var_view x)

abbrev pub result_pattern : SResult → ResultPattern
result_pattern results.NoResult = NoResult
result_pattern (results.In x) = ResultIn (name_pattern x)
result_pattern (results.Variable n) = ResultVar n.items

abbrev pub machine_class : MachineClass → pattern.MachineClass
machine_class machine.NullPointer = pattern.NullPointer
machine_class machine.DivisionByZero = pattern.DivisionByZero
machine_class machine.OutOfBounds = pattern.OutOfBounds
machine_class machine.BadCast = pattern.BadCast
machine_class machine.NegativeSize = pattern.NegativeSize

abbrev pub class_pattern : SClass → ClassPattern
class_pattern (classes.Variable n) = ClassVar n.items
class_pattern (classes.Of c) = ClassOf (machine_class c)
