use Rattle.std.proofs.Common.{ap, map, sym, ◌++◌, ◌∙◌}
use Rattle.std.proofs.lemmas.List.{append-nil, drop_all}
use Rattle.jd_term.specs.Formulas.{pair_view}
use Rattle.jd_term.specs.TermViews.{term_view}
use Rattle.jd_term_places.proofs.Pairs.{all_pairs, pairs_from}
use Rattle.jd_term_places.proofs.formulas.put_pairs.Goals as goal

pub returns : goal.returns
returns c =
    let made = map pair_view c.loop-i.made.items in
    let new = term_view c.args.new.now in
    sym (append-nil made)
    ∙ ap (λ l. made ++ pairs_from c.args.number c.loop-i.i c.args.path.now new (map pair_view l)) (sym (drop_all c.loop-i.i c.args.pairs.now c.loop-i-test.false))
    ∙ c.loop-i.invariant
    ∙ all_pairs c.args.path.now new c.args.number (map pair_view c.args.pairs.now)
