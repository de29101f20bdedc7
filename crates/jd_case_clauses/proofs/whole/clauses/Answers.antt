use Rattle.std.proofs.Common.{◌≡◌, ◌<◌, ⊎_elim, map, subst, ◌∙◌}
use Rattle.jd_syntax.specs.SpecTrees.{clause_view}
use Rattle.jd_term.specs.TermSizes.{loc_depth}
use Rattle.jd_jml_formulas.specs.Spellings.{spelling_view}
use Rattle.jd_jml_formulas.specs.declared.whole.Unmade.TheVariants as causes
use Rattle.jd_jml_known.specs.Scopes.{known_of}
use Rattle.jd_jml_meaning.specs.ContractFormulas.{contract_of}
use Rattle.jd_case_clauses.specs.Frames.{assignable_term}
use Rattle.jd_case_clauses.specs.Said.{TellsOfOne, level_limit}
use Rattle.jd_case_clauses.proofs.Contracts.{cause_of, ensured_is, frame_is, measure_is, of_ensured, of_frame, of_memory, of_only, of_required, of_signals, only_is, required_is, signals_is, told}
use Rattle.jd_case_clauses.proofs.Spellings.{made}
use Rattle.jd_case_clauses.proofs.whole.clauses.Goals as goal

pub returns-clause-made : goal.returns-clause-made
returns-clause-made g c = λ p k fields says.
    let whole = c.in_ok-required.ensures.made in
    let states = made _ _ _ whole.0 c.two-states.ensures.made in
    let rest = made _ _ _ whole.1 c.two.ensures.made in
    let thrown = made _ _ _ rest.0 c.two-thrown.ensures.made in
    let others = made _ _ _ rest.1 c.two-others.ensures.made in
    record {
      required = made _ _ _ states.0 (c.formulas.ensures.made p fields) ∙ required_is p (g.D.Declares.declarations c.args.m.now.sight.declared.now) c.args.m.now.sight.class c.args.m.now.sight.result (spelling_view c.args.m.now.spelled.now) (known_of c.args.names.now) c.args.pure c.args.constructor (map clause_view c.args.cs.now) k says;
      ensured = made _ _ _ states.1 (c.formulas-2.ensures.made p fields) ∙ ensured_is p (g.D.Declares.declarations c.args.m.now.sight.declared.now) c.args.m.now.sight.class c.args.m.now.sight.result (spelling_view c.args.m.now.spelled.now) (known_of c.args.names.now) c.args.pure c.args.constructor (map clause_view c.args.cs.now) k says;
      signals = made _ _ _ thrown.0 (c.signals.ensures.made p fields) ∙ signals_is p (g.D.Declares.declarations c.args.m.now.sight.declared.now) c.args.m.now.sight.class c.args.m.now.sight.result (spelling_view c.args.m.now.spelled.now) (known_of c.args.names.now) c.args.pure c.args.constructor (map clause_view c.args.cs.now) k says;
      signals_only = made _ _ _ thrown.1 c.signals_only.ensures.made ∙ only_is p (g.D.Declares.declarations c.args.m.now.sight.declared.now) c.args.m.now.sight.class c.args.m.now.sight.result (spelling_view c.args.m.now.spelled.now) (known_of c.args.names.now) c.args.pure c.args.constructor (map clause_view c.args.cs.now) k says;
      assignable = made _ _ _ others.0 (c.assignable.ensures.made p fields) ∙ frame_is p (g.D.Declares.declarations c.args.m.now.sight.declared.now) c.args.m.now.sight.class c.args.m.now.sight.result (spelling_view c.args.m.now.spelled.now) (known_of c.args.names.now) c.args.pure c.args.constructor (map clause_view c.args.cs.now) k says;
      measure = made _ _ _ (made _ _ _ others.1 c.kept.ensures.made) (c.measure.ensures p fields) ∙ measure_is p (g.D.Declares.declarations c.args.m.now.sight.declared.now) c.args.m.now.sight.class c.args.m.now.sight.result (spelling_view c.args.m.now.spelled.now) (known_of c.args.names.now) c.args.pure c.args.constructor (map clause_view c.args.cs.now) k says;
    }

pub returns-in_err-required-clause-why : goal.returns-in_err-required-clause-why
returns-in_err-required-clause-why g c = λ p k fields says.
    let limit = c.args.m.now.limit in
    let u = c.in_err-required.field-0.0 in
    let whole = contract_of p k in
    told limit whole c.from_residual.result u c.from_residual.ensures.1
    (⊎_elim
    (λ states. ⊎_elim
    (λ is. of_required limit whole u (subst (λ l. TellsOfOne limit l u) (required_is p (g.D.Declares.declarations c.args.m.now.sight.declared.now) c.args.m.now.sight.class c.args.m.now.sight.result (spelling_view c.args.m.now.spelled.now) (known_of c.args.names.now) c.args.pure c.args.constructor (map clause_view c.args.cs.now) k says) (cause_of _ _ u is (c.formulas.ensures.why p fields))))
    (λ is. of_ensured limit whole u (subst (λ l. TellsOfOne limit l u) (ensured_is p (g.D.Declares.declarations c.args.m.now.sight.declared.now) c.args.m.now.sight.class c.args.m.now.sight.result (spelling_view c.args.m.now.spelled.now) (known_of c.args.names.now) c.args.pure c.args.constructor (map clause_view c.args.cs.now) k says) (cause_of _ _ u is (c.formulas-2.ensures.why p fields))))
    (cause_of _ _ u states c.two-states.ensures.why))
    (λ rest. ⊎_elim
    (λ thrown. ⊎_elim
    (λ is. of_signals limit whole u (subst (λ l. TellsOfOne limit l u) (signals_is p (g.D.Declares.declarations c.args.m.now.sight.declared.now) c.args.m.now.sight.class c.args.m.now.sight.result (spelling_view c.args.m.now.spelled.now) (known_of c.args.names.now) c.args.pure c.args.constructor (map clause_view c.args.cs.now) k says) (cause_of _ _ u is (c.signals.ensures.why p fields))))
    (λ is. of_only limit whole u (subst (λ l. TellsOfOne limit l u) (only_is p (g.D.Declares.declarations c.args.m.now.sight.declared.now) c.args.m.now.sight.class c.args.m.now.sight.result (spelling_view c.args.m.now.spelled.now) (known_of c.args.names.now) c.args.pure c.args.constructor (map clause_view c.args.cs.now) k says) (cause_of _ _ u is (c.signals_only.ensures.why limit))))
    (cause_of _ _ u thrown c.two-thrown.ensures.why))
    (λ others. ⊎_elim
    (λ is. of_frame limit whole u (λ large. subst (λ l. level_limit < loc_depth l) (frame_is p (g.D.Declares.declarations c.args.m.now.sight.declared.now) c.args.m.now.sight.class c.args.m.now.sight.result (spelling_view c.args.m.now.spelled.now) (known_of c.args.names.now) c.args.pure c.args.constructor (map clause_view c.args.cs.now) k says) (cause_of (λ e. e ≡ causes.TooLarge → level_limit < loc_depth (assignable_term p (g.D.Declares.declarations c.args.m.now.sight.declared.now) c.args.m.now.sight.class c.args.m.now.sight.result (spelling_view c.args.m.now.spelled.now) (known_of c.args.names.now) c.args.pure c.args.constructor (map clause_view c.args.cs.now))) c.assignable.result u is (c.assignable.ensures.why p) large)))
    (λ is. of_memory limit whole u (cause_of _ _ u is c.kept.ensures.why))
    (cause_of _ _ u others c.two-others.ensures.why))
    (cause_of _ _ u rest c.two.ensures.why))
    (c.in_err-required.ensures.why))
