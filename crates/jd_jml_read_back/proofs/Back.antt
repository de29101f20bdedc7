-- What is printed is read back.
use Rattle.std.proofs.Common.{◌≡◌, ℕ, List, sym, subst, ◌∙◌}
use Rattle.jd_lex.specs.Lexing.{Spells}
use Rattle.jd_syntax.specs.SpecTrees.{PlainClause}
use Rattle.jd_syntax.specs.declared.spec.SpecPlace.{SpecPlace}
use Rattle.jd_jml_reprinted.specs.Reprinted.{PrintedIsRead}
use Rattle.jd_jml_read_back.specs.ReadBack.{HasThem, IsReadAs, PrintedIsReadBack}
use Rattle.jd_jml_read_back.proofs.Apart.{same_text}

pub back : PrintedIsRead → PrintedIsReadBack
back law place cs h =
    let r = law.printed_text h.bytes h.tokens h.among place h.clauses h.spelled h.there h.read in
    record {
      tokens = r.0;
      spelled = subst (λ (text : List ℕ). Spells text r.0) (sym (same_text cs h.clauses h.same)) r.2;
      clauses = r.1;
      read = r.3;
      same = h.same ∙ r.4;
    }
