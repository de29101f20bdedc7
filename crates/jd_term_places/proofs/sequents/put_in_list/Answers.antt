use Rattle.std.proofs.Common.{◌-◌, arith}
use Rattle.jd_term.specs.TermViews.{term_view}
use Rattle.jd_term_places.proofs.Lists.{changed_in_place}
use Rattle.jd_term_places.proofs.sequents.put_in_list.Goals as goal

pub returns : goal.returns
returns c = changed_in_place c.args.formulas.items c.args.index (c.args.index - 1) c.args.path.now (term_view c.args.new.now) c.index.result.now c.in_ok-changed.changed (omega (arith, c.requires.some)) c.index.ensures (omega (arith, c.requires.some, c.requires.within)) c.in_ok-changed.ensures
