-- The laws of reading.
use Rattle.std.proofs.Common.{List, sym, ap, ◌∙◌}
use Rattle.jd_base.specs.declared.sort.Sort.{Sort}
use Rattle.jd_syntax.specs.Sxs.{Bracketed}
use Rattle.jd_tgrammar.specs.NameTables.{NameTable}
use Rattle.jd_tforms.specs.Forms.{TermPlace, FormulaPlace}
use Rattle.jd_tforms.specs.HasForm.{has_form}
use Rattle.jd_tforms.specs.Laws.{Sound, Complete, HasForms, ReadIsWritten}
use Rattle.jd_tforms.proofs.Sound.{holds}
use Rattle.jd_tforms.proofs.Complete.{term_complete, loc_complete, formula_complete}
use Rattle.jd_tforms.proofs.Formed.{term_formed, formula_formed}

sound : (names : NameTable) (ctx : List Sort) (x : Bracketed) → Sound names ctx x
sound names ctx x = record {
  term = λ t e. (holds names x).term ctx t e;
  loc = λ l e. (holds names x).loc ctx l e;
  formula = λ a e. (holds names x).formula ctx a e;
}

complete : (names : NameTable) (ctx : List Sort) → Complete names ctx
complete names ctx = record {
  term = λ t k. term_complete names ctx t k;
  loc = λ l k. loc_complete names ctx l k;
  formula = λ a k. formula_complete names ctx a k;
}

forms : (names : NameTable) (ctx : List Sort) (x : Bracketed) → HasForms names ctx x
forms names ctx x = record {
  term = λ t e. let h = (holds names x).term ctx t e in ap (λ y. has_form y TermPlace) (sym h.0) ∙ term_formed names ctx t h.1;
  formula = λ a e. let h = (holds names x).formula ctx a e in ap (λ y. has_form y FormulaPlace) (sym h.0) ∙ formula_formed names ctx a h.1;
}

pub read_is_written : ReadIsWritten
read_is_written = record { sound = sound; complete = complete; forms = forms }
