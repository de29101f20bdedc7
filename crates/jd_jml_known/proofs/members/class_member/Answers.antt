use Rattle.std.proofs.Common.{ap, sym, subst, ◌∙◌}
use Rattle.jd_jml_known.specs.Members.{HasItsSort, own_of, read_of}
use Rattle.jd_jml_known.proofs.Owned.{read_own, sorted_own}
use Rattle.jd_jml_known.proofs.members.class_member.Goals as goal

pub returns-clause-read : goal.returns-clause-read
returns-clause-read g c = λ o. ap (λ k. read_of k o) (c.own_read.ensures ∙ ap own_of c.variable.ensures) ∙ read_own ((g.D.Declares.declarations c.args.d.now).variable c.args.class c.args.name.now) o

pub returns-clause-sorted : goal.returns-clause-sorted
returns-clause-sorted g c = λ p h. subst (HasItsSort p) (sym (c.own_read.ensures ∙ ap own_of c.variable.ensures)) (sorted_own ((g.D.Declares.declarations c.args.d.now).variable c.args.class c.args.name.now) p (h c.args.class c.args.name.now))
