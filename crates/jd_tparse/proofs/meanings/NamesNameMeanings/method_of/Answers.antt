use Rattle.std.proofs.Common.{[], None, sym, ap, ◌∙◌}
use Rattle.std.specs.Coded.{coded_option, coded×, coded_ℕ}
use Rattle.jd_tforms.specs.Naming.{seen_method}
use Rattle.jd_names.specs.Tables.{name_table}
use Rattle.jd_tparse.specs.Names.{table_of, variables}
use Rattle.jd_tparse.proofs.Ascii.{behind_is_named, name_bytes}
use Rattle.jd_tparse.proofs.Opening.{same_for_each, tables_are}
use Rattle.jd_tparse.proofs.Seen.{by_parts, no_parts}
use Rattle.jd_tparse.proofs.meanings.NamesNameMeanings.method_of.Goals as goal

pub method_seen-requires-clause-name : goal.method_seen-requires-clause-name
method_seen-requires-clause-name c =
    let names = table_of c.args.self.now in
    behind_is_named names [] c.args.word.now c.in-Some.class.now c.in-Some.name.now
    (name_bytes c.args.word.now (sym c.is_name.ensures ∙ c.if-not-is_name.false))
    (sym (c.in-Some.ensures names))

pub returns-in-None : goal.returns-in-None
returns-in-None c =
    let names = table_of c.args.self.now in
    no_parts names c.args.word.now (sym c.is_name.ensures ∙ c.if-not-is_name.false) (c.in-None.ensures names)

pub returns-in-Some-class_called : goal.returns-in-Some-class_called
returns-in-Some-class_called c =
    let cs = c.args.self.now.classes.now in
    let vs = variables c.args.self.now.vars.now in
    let names = table_of c.args.self.now in
    let name = c.in-Some.name.now in
    let class = c.in-Some-class_called.class.0 in
    same_for_each cs c.args.self.now.program _ _ (coded_option (coded× coded_ℕ coded_ℕ)) (λ units tables.
    c.method_seen.ensures units tables vs ∙ sym (ap (λ t. seen_method (name_table t vs) name class) (tables_are cs units tables)))
    ∙ by_parts names c.args.word.now (sym c.is_name.ensures ∙ c.if-not-is_name.false) c.in-Some.class.now name _ (c.in-Some.ensures names) c.in-Some-class_called.ensures.named

pub returns-in-None-class_called : goal.returns-in-None-class_called
returns-in-None-class_called c =
    let names = table_of c.args.self.now in
    by_parts names c.args.word.now (sym c.is_name.ensures ∙ c.if-not-is_name.false) c.in-Some.class.now c.in-Some.name.now None (c.in-Some.ensures names) c.in-None-class_called.ensures.named
