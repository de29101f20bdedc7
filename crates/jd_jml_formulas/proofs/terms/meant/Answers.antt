use Rattle.std.proofs.Common.{refl}
use Rattle.jd_jml_known.specs.declared.names.Meaning.TheVariants as meanings
use Rattle.jd_jml_formulas.specs.Spellings.{spelling_view, when_view}
use Rattle.jd_jml_formulas.proofs.Named.{bound_meant, other_meant}
use Rattle.jd_jml_formulas.proofs.terms.meant.Goals as goal

pub returns-in-Argument : goal.returns-in-Argument
returns-in-Argument g c = λ p j h. other_meant p (spelling_view c.args.m.now.spelled.now) (when_view c.args.t) c.argument.result c.args.meaning (meanings.Argument c.in-Argument.position) j c.in-Argument.is h refl c.argument.ensures

pub returns-in-Variable : goal.returns-in-Variable
returns-in-Variable g c = λ p j h. other_meant p (spelling_view c.args.m.now.spelled.now) (when_view c.args.t) c.variable.result c.args.meaning (meanings.Variable c.in-Variable.x) j c.in-Variable.is h refl c.variable.ensures

pub returns-in-Exception : goal.returns-in-Exception
returns-in-Exception g c = λ p j h. other_meant p (spelling_view c.args.m.now.spelled.now) (when_view c.args.t) c.copied.result c.args.meaning meanings.Exception j c.in-Exception.is h refl c.copied.ensures

pub returns-in-Bound : goal.returns-in-Bound
returns-in-Bound g c = λ p j h. bound_meant p (spelling_view c.args.m.now.spelled.now) (when_view c.args.t) c.bound_term.result c.args.meaning c.in-Bound.inside c.in-Bound.value c.sort_of_value.result j c.in-Bound.is h c.sort_of_value.ensures c.bound_term.ensures
