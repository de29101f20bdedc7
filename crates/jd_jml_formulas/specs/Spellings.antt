-- What code has expressions speak of, as plain terms.
use Rattle.std.specs.Prelude.{ℕ, pos, List, get_or, map}
use Rattle.jd_term.specs.Terms as terms
use Rattle.jd_term.specs.Terms.{PlainTerm}
use Rattle.jd_term.specs.TermViews.{term_view}
use Rattle.jd_term.specs.declared.term.Term.{Term}
use Rattle.jd_jml_meaning.specs.Meaning as meaning
use Rattle.jd_jml_meaning.specs.Translation.{Spelling}
use Rattle.jd_jml_formulas.specs.declared.making.Spelled.{Spelled}
use Rattle.jd_jml_formulas.specs.declared.making.When.{When}
use Rattle.jd_jml_formulas.specs.declared.making.When.TheVariants as times

abbrev pub when_view : When → meaning.When
when_view times.Now = meaning.Now
when_view times.Before = meaning.Before

abbrev pub at_time : {A : Type 0} → A → A → meaning.When → A
at_time now before meaning.Now = now
at_time now before meaning.Before = before

-- where there is none, 0
abbrev pub argument_in : List Term → ℕ → PlainTerm
argument_in ts k = get_or (map term_view ts) k (terms.Number (pos 0))

abbrev pub spelling_view : Spelled → Spelling
spelling_view s = record {
  heap = at_time (term_view s.now) (term_view s.before);
  argument = at_time (argument_in s.arguments.items) (argument_in s.arguments_before.items);
  this = term_view s.this;
  result = term_view s.value;
  thrown = term_view s.thrown;
}
