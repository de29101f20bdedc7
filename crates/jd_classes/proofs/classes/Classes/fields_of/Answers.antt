use Rattle.std.proofs.Common.{◌<◌, IfOk, List, length, map, sym, ap, subst, ◌∙◌}
use Rattle.std.specs.List.{All}
use Rattle.std.proofs.lemmas.List.{length-map}
use Rattle.jd_syntax.specs.JavaTrees.{JavaUnit}
use Rattle.jd_jclasses.specs.Methods.{fields}
use Rattle.jd_jinfos.specs.Infos.{field_info}
use Rattle.jd_jinfos.specs.Views.{field_info_view, field_number}
use Rattle.jd_classes.specs.Fields.{AreFieldsOf, along, own_fields}
use Rattle.jd_classes.specs.Tables.{AreTables}
use Rattle.jd_classes.proofs.Lineages.{all_within, fields_then, fields_within, listed_fields}
use Rattle.jd_classes.proofs.classes.Classes.fields_of.Goals as goal
use Rattle.jd_classes.proofs.classes.Classes.fields_of.Goals.{After-fields_along}

pub fields_along-requires : goal.fields_along-requires
fields_along-requires c =
    subst (All (λ n. n < length c.deref-3.result.now)) (sym c.deref-4.ensures.value)
    (all_within c.deref.result.now c.args.c.0 (length c.deref-3.result.now) c.in_ok-classes.classes.items (ap length c.deref.ensures.value ∙ c.args.self.now.all_classes ∙ sym (ap length c.deref-3.ensures.value)) c.in_ok-classes.ensures)

-- the fields are those of the class and its ancestors
found : (c : After-fields_along) (units : List JavaUnit) → AreTables units c.args.self.now → IfOk c.fields_along.result (λ v. AreFieldsOf units c.args.c.0 (map field_number v.items))
found c units tables =
    fields_then c.fields_along.result (along (own_fields c.deref-3.result.now) c.deref-4.result.now) (AreFieldsOf units c.args.c.0) c.fields_along.ensures
    (λ fs are.
    listed_fields units c.args.self.now.classes.items tables.classes_ (sym (ap length tables.parents_) ∙ c.args.self.now.all_classes)
    c.deref.result.now c.args.c.0 c.in_ok-classes.classes.items fs (c.deref.ensures.value ∙ tables.parents_) c.in_ok-classes.ensures
    (are ∙ ap (λ is. along (own_fields is) c.deref-4.result.now) c.deref-3.ensures.value ∙ ap (along (own_fields c.args.self.now.classes.items)) c.deref-4.ensures.value))

pub returns-clause-fields : goal.returns-clause-fields
returns-clause-fields c units tables = found ((goal.at.returns-clause-fields c).After-fields_along) units tables

pub returns-clause-within : goal.returns-clause-within
returns-clause-within c units tables =
    fields_within units c.args.c.0 (length c.args.self.now.fields.items) c.fields_along.result
    (sym (length-map (fields units) field_info) ∙ sym (ap length tables.fields_) ∙ length-map c.args.self.now.fields.items field_info_view)
    (found ((goal.at.returns-clause-within c).After-fields_along) units tables)
