-- Tokens have one answer.
use Rattle.std.proofs.Common.{◌≡◌, List, sym, ap, ◌∙◌}
use Rattle.jd_lex.specs.Parts as lexed
use Rattle.jd_syntax.specs.SpecTrees.{PlainClause}
use Rattle.jd_syntax.specs.declared.spec.SpecPlace.{SpecPlace}
use Rattle.jd_jml_tokens.specs.Lexemes.{lexemes_of}
use Rattle.jd_jml_trees.specs.Meaning.{clauses_of_tree}
use Rattle.jd_jmlparse.specs.Parses.{Reads, IsTooDeep, told}
use Rattle.jd_jmlparse.specs.OneAnswer.{OneAnswer}
use Rattle.jd_jmlparse.proofs.Deriving.{OneDerivation, one_tree}
use Rattle.jd_jmlparse.proofs.Judging.{not_both}

one_list : OneDerivation → (place : SpecPlace) (ts : List lexed.Token) (cs ds : List PlainClause) → Reads place ts cs → Reads place ts ds → cs ≡ ds
one_list law place ts cs ds r s =
    sym r.is ∙ ap (λ f. clauses_of_tree f (lexemes_of ts)) (one_tree law place ts r.tree s.tree r.spelled.derived s.spelled.derived) ∙ s.is

not_deep : OneDerivation → (place : SpecPlace) (ts : List lexed.Token) (cs : List PlainClause) → Reads place ts cs → IsTooDeep place ts → ⊥
not_deep law place ts cs r d =
    let same = one_tree law place ts d.tree r.tree d.spelled.derived r.spelled.derived in
    not_both (told ts r.tree).high d.at r.within (ap (λ f. (told ts f).high) (sym same) ∙ d.above)

pub one_answer : OneDerivation → OneAnswer
one_answer law = record {
  one_list = one_list law;
  a_spec = λ place ts cs r n. n.by_none r.tree r.spelled;
  not_too_deep = not_deep law;
  no_spec_is_not_deep = λ place ts n d. n.by_none d.tree d.spelled;
}
