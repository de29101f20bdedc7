use Rattle.std.proofs.Common.{Some, option_map, ◌∙◌}
use Rattle.std.specs.Option.{option_and_then}
use Rattle.jd_patterns.specs.Bindings.{TheLiteral}
use Rattle.jd_term.specs.TermViews.{term_view}
use Rattle.jd_tforms.specs.Shapes.{integer_of, wide}
use Rattle.jd_tparse.specs.Names.{table_of}
use Rattle.jd_taclet_matching.proofs.Texts.{number_read, of_word}
use Rattle.jd_taclet_matching.proofs.reading.number_given.Goals as goal

pub returns-in_ok-term-in-Atom : goal.returns-in_ok-term-in-Atom
returns-in_ok-term-in-Atom c =
    c.word_literal.ensures
    ∙ number_read (table_of c.args.names.now) c.deref.result.now (option_map term_view c.in_ok-term-in-Atom.term) c.in_ok-term-in-Atom.ensures
    ∙ of_word (λ v. option_and_then (λ z. Some (TheLiteral z)) (integer_of wide v)) c.args.x.now c.in-Atom.word c.deref.result.now c.in-Atom.is c.deref.ensures.value
