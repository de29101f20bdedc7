use Rattle.std.proofs.Common.{drop, map, length, ◌<◌}
use Rattle.jd_syntax.specs.SpecTrees.{location_view}
use Rattle.jd_term.specs.Makers.{GivesLoc}
use Rattle.jd_model.specs.Programs.{Program}
use Rattle.jd_jml_known.specs.Members.{FieldsHaveSorts}
use Rattle.jd_jml_known.specs.Scopes.{visible}
use Rattle.jd_jml_formulas.specs.Meant.{locations_meant}
use Rattle.jd_jml_formulas.specs.Spellings.{spelling_view, when_view}
use Rattle.jd_jml_formulas.proofs.places.locations_of.Given as goal

-- what is made stands for the sets from `left` on
abbrev pub invariant-loop-left : goal.invariant-loop-left
invariant-loop-left g l =
    (l.left < length l.ls) × ((p : Program) → FieldsHaveSorts (g.D.Declares.declarations l.m.sight.declared.now) p → GivesLoc l.made (locations_meant p (g.D.Declares.declarations l.m.sight.declared.now) l.m.sight.class l.m.sight.result (spelling_view l.m.spelled.now) (when_view l.t) (visible l.names) (map location_view (drop l.left l.ls))))

abbrev pub decreases-loop-left : goal.decreases-loop-left
decreases-loop-left g l = l.left
