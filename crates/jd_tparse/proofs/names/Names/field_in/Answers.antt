use Rattle.jd_tparse.proofs.Members.{no_field_in, own_field_of, fields_within}
use Rattle.jd_tparse.proofs.names.Names.field_in.Goals as goal

pub returns-in-None : goal.returns-in-None
returns-in-None c units tables =
    no_field_in units c.args.class c.class-info.result.now (c.class-info.ensures units tables) c.args.word.now c.deref.result.now c.deref.ensures.value c.in-None.ensures

pub first_field-requires : goal.first_field-requires
first_field-requires c =
    fields_within c.args.self.now.classes.now c.args.self.now.program c.args.class c.class-info.result.now c.class-info.ensures c.deref-in-Some.result.now c.deref-in-Some.ensures.value

pub returns-in-Some : goal.returns-in-Some
returns-in-Some c units tables =
    own_field_of units c.args.class c.class-info.result.now (c.class-info.ensures units tables) c.args.word.now c.deref.result.now c.deref.ensures.value
    c.in-Some.name.now c.in-Some.ensures c.first_field.result c.deref-in-Some.result.now c.deref-in-Some.ensures.value (c.first_field.ensures units tables)
