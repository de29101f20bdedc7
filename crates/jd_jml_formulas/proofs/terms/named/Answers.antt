use Rattle.std.proofs.Common.{refl}
use Rattle.jd_jml_meaning.specs.Resolved as jml
use Rattle.jd_specifications.specs.Resolution as resolution
use Rattle.jd_jml_known.specs.Scopes.{visible}
use Rattle.jd_jml_formulas.specs.Spellings.{spelling_view, when_view}
use Rattle.jd_jml_formulas.proofs.Named.{name_meant, name_member}
use Rattle.jd_jml_formulas.proofs.terms.named.Goals as goal

pub returns-in-Some : goal.returns-in-Some
returns-in-Some g c = λ p h. name_meant p (spelling_view c.args.m.now.spelled.now) (when_view c.args.t) c.meant.result c.looked_up.result c.in-Some.meaning (resolution.looked_up 0 (visible c.args.names.now) c.args.x.now) ((g.D.Declares.declarations c.args.m.now.sight.declared.now).variable c.args.m.now.sight.class c.args.x.now) c.in-Some.is (c.looked_up.ensures 0 refl) (c.meant.ensures p)

pub returns-in-None : goal.returns-in-None
returns-in-None g c = λ p h. name_member p (spelling_view c.args.m.now.spelled.now) (when_view c.args.t) c.member_term.result c.looked_up.result (resolution.looked_up 0 (visible c.args.names.now) c.args.x.now) ((g.D.Declares.declarations c.args.m.now.sight.declared.now).variable c.args.m.now.sight.class c.args.x.now) c.class_member-member.result c.in-None.is (c.looked_up.ensures 0 refl) c.class_member-member.ensures.read (c.member_term.ensures p jml.This (c.class_member-member.ensures.sorted p h) c.copied.ensures)
