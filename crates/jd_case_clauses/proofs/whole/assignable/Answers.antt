use Rattle.std.proofs.Common.{◌≡◌, ◌<◌, Bool, IfOk, cond, map, subst, sym, ◌∙◌}
use Rattle.jd_syntax.specs.SpecTrees.{clause_view}
use Rattle.jd_term.specs.TermSizes.{loc_depth}
use Rattle.jd_term.specs.TermViews.{loc_view}
use Rattle.jd_jml_formulas.specs.Meant.{locations_meant}
use Rattle.jd_jml_formulas.specs.Spellings.{spelling_view}
use Rattle.jd_jml_known.specs.Scopes.{known_of}
use Rattle.jd_jml_meaning.specs.Meaning.{Before}
use Rattle.jd_jml_meaning.specs.Translation.{locations}
use Rattle.jd_specifications.specs.Resolution.{location}
use Rattle.jd_specifications.specs.WrittenCases.{assignable_else}
use Rattle.jd_case_clauses.specs.Frames.{all_assignable}
use Rattle.jd_case_clauses.specs.Said.{level_limit}
use Rattle.jd_case_clauses.proofs.Unions.{handed_on, many_sets}
use Rattle.jd_case_clauses.proofs.whole.assignable.Goals as goal

pub returns-then-not-says_frame-clause-made : goal.returns-then-not-says_frame-clause-made
returns-then-not-says_frame-clause-made g c = λ p fields.
    let d = (g.D.Declares.declarations c.args.m.now.sight.declared.now) in
    let sp = spelling_view c.args.m.now.spelled.now in
    let said = locations_meant p d c.args.m.now.sight.class c.args.m.now.sight.result sp Before (known_of c.args.names.now) (all_assignable (map clause_view c.args.cs.now)) in
    let unsaid = locations p sp Before (assignable_else d c.args.pure c.args.constructor) in
    subst (λ (b : Bool). IfOk c.kept.result (λ l. loc_view l ≡ cond b said unsaid)) (sym c.if-not-says_frame.true ∙ c.says_frame.ensures)
    (handed_on (λ l. loc_view l ≡ unsaid) c.unsaid.result c.kept.result c.kept.ensures.made (c.unsaid.ensures p))

pub returns-then-are_many-clause-why : goal.returns-then-are_many-clause-why
returns-then-are_many-clause-why g c = λ p too_large.
    let d = (g.D.Declares.declarations c.args.m.now.sight.declared.now) in
    let sp = spelling_view c.args.m.now.spelled.now in
    let said = locations_meant p d c.args.m.now.sight.class c.args.m.now.sight.result sp Before (known_of c.args.names.now) (all_assignable (map clause_view c.args.cs.now)) in
    let unsaid = locations p sp Before (assignable_else d c.args.pure c.args.constructor) in
    subst (λ (b : Bool). level_limit < loc_depth (cond b said unsaid)) (sym c.if-not-says_frame.false ∙ c.says_frame.ensures)
    (many_sets p sp Before (location d c.args.m.now.sight.class c.args.m.now.sight.result (known_of c.args.names.now)) (all_assignable (map clause_view c.args.cs.now)) 1000 (c.are_many.ensures c.if-are_many.true))
