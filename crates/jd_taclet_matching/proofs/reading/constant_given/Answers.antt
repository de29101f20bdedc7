use Rattle.std.proofs.Common.{ap, option_map, sym, ◌∙◌}
use Rattle.std.specs.Option.{option_and_then}
use Rattle.jd_syntax.specs.CodeNames.{same_sort}
use Rattle.jd_syntax.specs.Names.{Name}
use Rattle.jd_taclet_stages.specs.Stages.{name_if}
use Rattle.jd_term.specs.TermViews.{term_view}
use Rattle.jd_tforms.specs.Naming.{constant_of, named}
use Rattle.jd_tparse.specs.Names.{table_of}
use Rattle.jd_taclet_matching.proofs.Texts.{constant_read, of_word, read_along}
use Rattle.jd_taclet_matching.proofs.reading.constant_given.Goals as goal

pub returns-in_ok-term-in-Atom : goal.returns-in_ok-term-in-Atom
returns-in_ok-term-in-Atom c =
    read_along c.named_if.result _ _
    (ap (option_and_then (λ (x : Name). name_if (same_sort x.sort c.args.sort) x))
    (ap (λ b. option_map (named b) c.word_constant.result) (c.deref-in-Atom.ensures.value ∙ sym c.deref.ensures.value)
    ∙ constant_read (table_of c.args.names.now) c.deref.result.now (option_map term_view c.in_ok-term-in-Atom.term) c.word_constant.result c.in_ok-term-in-Atom.ensures c.word_constant.ensures)
    ∙ of_word (λ v. option_and_then (λ (x : Name). name_if (same_sort x.sort c.args.sort) x) (constant_of v)) c.args.x.now c.in-Atom.word c.deref.result.now c.in-Atom.is c.deref.ensures.value)
    c.named_if.ensures
