use Rattle.std.proofs.Common.{sym, ap, ◌∙◌, arith, length}
use Rattle.jd_jheads.specs.Heads.{names_of}
use Rattle.jd_classes.proofs.Looking.{class_within}
use Rattle.jd_classes.proofs.classes.Classes.class_named.Goals as goal

pub returns-in-Some-clause-within : goal.returns-in-Some-clause-within
returns-in-Some-clause-within c units tables =
    omega (arith, class_within units (names_of c.args.self.now.heads) c.args.name.now c.in-Some.number tables.class_names_ (sym c.class_named.ensures ∙ c.in-Some.is), c.args.self.now.all_classes, ap length tables.parents_)
