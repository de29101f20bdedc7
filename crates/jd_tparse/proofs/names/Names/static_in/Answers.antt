use Rattle.jd_tparse.proofs.Members.{no_static_in, own_static_of, methods_within}
use Rattle.jd_tparse.proofs.names.Names.static_in.Goals as goal

pub returns-in-None : goal.returns-in-None
returns-in-None c units tables =
    no_static_in units c.args.class c.class-info.result.now (c.class-info.ensures units tables) c.args.word.now c.deref.result.now c.deref.ensures.value c.in-None.ensures

pub first_static-requires : goal.first_static-requires
first_static-requires c =
    methods_within c.args.self.now.classes.now c.args.self.now.program c.args.class c.class-info.result.now c.class-info.ensures c.deref-in-Some.result.now c.deref-in-Some.ensures.value

pub returns-in-Some : goal.returns-in-Some
returns-in-Some c units tables =
    own_static_of units c.args.class c.class-info.result.now (c.class-info.ensures units tables) c.args.word.now c.deref.result.now c.deref.ensures.value
    c.in-Some.name.now c.in-Some.ensures c.first_static.result c.deref-in-Some.result.now c.deref-in-Some.ensures.value (c.first_static.ensures units tables)
