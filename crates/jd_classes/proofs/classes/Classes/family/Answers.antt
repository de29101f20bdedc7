use Rattle.std.proofs.Common.{◌<◌, length, refl, arith}
use Rattle.std.proofs.lemmas.List.{get_or_read_under}
use Rattle.jd_classes.specs.Tables.{family_of}
use Rattle.jd_classes.proofs.Looking.{family_within}
use Rattle.jd_classes.proofs.classes.Classes.family.Goals as goal

pub returns-clause-within : goal.returns-clause-within
returns-clause-within c units tables =
    let numbers = c.args.self.now.families.numbers.items in
    let lt : c.args.m.0 < length numbers = omega (arith, c.requires, c.args.self.now.all_methods) in
    let below = family_within units c.args.self.now.families.count (family_of c.args.self.now) c.args.m.0 tables.families_ (omega (arith, lt, tables.routines_)) in
    omega (arith, below, get_or_read_under numbers c.args.m.0 (length numbers) c.index.result.now 0 c.index.ensures lt refl)
