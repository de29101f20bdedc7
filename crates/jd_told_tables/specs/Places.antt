-- What stands for the names that invariants are written with.
use Rattle.std.specs.Prelude.{option_map}
use Rattle.jd_taclets.specs.Conditions.{at_heap}
use Rattle.jd_term.specs.Renamings.{Renaming}
use Rattle.jd_term.specs.TermViews.{term_view}
use Rattle.jd_told_tables.specs.Lent.{term_or}
use Rattle.jd_told_tables.specs.declared.renamed.Place.{Place}

abbrev pub renaming_at : Place → Renaming
renaming_at p = at_heap (term_or (option_map (λ t. term_view t.now) p.heap)) (term_or (option_map (λ t. term_view t.now) p.object))
