-- What a variable stands for, as the definitions have it.
use Rattle.jd_patterns.specs.Variables.{VarKind, FormulaKind, TermKind, LiteralKind, LocKind, KindKind, SortKind, NameKind, ResultKind, FieldKind, ClassKind, LabelKind, CodeKind, ReturnKind, SimpleKind, ModalityKind, ContextKind}
use Rattle.jd_schema_instances.specs.declared.bound.PartKind.{PartKind}
use Rattle.jd_schema_instances.specs.declared.bound.PartKind.TheVariants as kinds

abbrev pub var_kind : PartKind → VarKind
var_kind kinds.Formula = FormulaKind
var_kind kinds.Term = TermKind
var_kind kinds.Literal = LiteralKind
var_kind kinds.Locations = LocKind
var_kind kinds.Kind = KindKind
var_kind kinds.Sort = SortKind
var_kind kinds.Name = NameKind
var_kind kinds.Result = ResultKind
var_kind kinds.Field = FieldKind
var_kind kinds.Class = ClassKind
var_kind kinds.Label = LabelKind
var_kind kinds.Code = CodeKind
var_kind kinds.Return = ReturnKind
var_kind kinds.Simple = SimpleKind
var_kind kinds.Modality = ModalityKind
var_kind kinds.Context = ContextKind
