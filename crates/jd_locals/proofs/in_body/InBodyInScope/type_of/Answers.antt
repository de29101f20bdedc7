use Rattle.std.proofs.Common.{None, Some, ap, sym, ◌∙◌}
use Rattle.std.specs.Option.{option_copied}
use Rattle.jd_locals.proofs.Newest.{found}
use Rattle.jd_locals.proofs.in_body.InBodyInScope.type_of.Goals as goal

pub returns-in-Some : goal.returns-in-Some
returns-in-Some c = found c.args.name.now c.args.self.now.locals.entries (Some c.in-Some.value.now) c.len-count.ensures.unique (ap option_copied (sym c.in-Some.is) ∙ c.get.ensures.value)

pub returns-in-None : goal.returns-in-None
returns-in-None c = found c.args.name.now c.args.self.now.locals.entries None c.len-count.ensures.unique (ap option_copied (sym c.in-None.is) ∙ c.get.ensures.value)
