-- Tokens have one answer.
use Rattle.std.proofs.Common.{◌≡◌, ℕ, List, Option, Some, None, sym, ap, ◌∙◌}
use Rattle.std.specs.List.{slice_get}
use Rattle.jd_lex.specs.Parts as lexed
use Rattle.jd_syntax.specs.JavaTrees.{JavaUnit}
use Rattle.jd_java_trees.specs.Meaning.{unit_of}
use Rattle.jd_jparse.specs.Parses.{Reads, IsTooDeep, IsUnsupported, first_unsupported, seen, text_of, told}
use Rattle.jd_jparse.specs.OneAnswer.{OneAnswer}
use Rattle.jd_jparse.proofs.Deriving.{OneDerivation, one_file}
use Rattle.jd_jparse.proofs.Judging.{not_both}

one_tree : OneDerivation → (ts : List lexed.Token) (t u : JavaUnit) → Reads ts t → Reads ts u → t ≡ u
one_tree law ts t u r s = sym r.is ∙ ap (λ f. unit_of f (seen ts)) (one_file law ts r.file s.file r.spelled.derived s.spelled.derived) ∙ s.is

not_deep : OneDerivation → (ts : List lexed.Token) (t : JavaUnit) → Reads ts t → IsTooDeep ts → ⊥
not_deep law ts t r d =
    let same = one_file law ts d.file r.file d.spelled.derived r.spelled.derived in
    not_both (told ts r.file).form.high d.place r.within (ap (λ f. (told ts f).form.high) (sym same) ∙ d.above)

same_some : {A : Type 0} (o : Option A) (a b : A) → o ≡ Some a → o ≡ Some b → a ≡ b
same_some (Some c) a b e f = cc
same_some None a b e f = absurd (cc)

one_token : (ts : List lexed.Token) (p q : ℕ) (v w : List ℕ) → IsUnsupported ts p v → IsUnsupported ts q w → (p ≡ q) × (v ≡ w)
one_token ts p q v w r s =
    let number = same_some (first_unsupported ts) r.number s.number r.first s.first in
    let token = same_some (slice_get ts s.number) r.token s.token (sym (ap (λ (n : ℕ). slice_get ts n) number) ∙ r.there) s.there in
    (r.place ∙ ap (λ (t : lexed.Token). t.begins) token ∙ sym s.place, r.text ∙ ap (λ (t : lexed.Token). text_of t.kind) token ∙ sym s.text)

pub one_answer : OneDerivation → OneAnswer
one_answer law = record {
  one_tree = one_tree law;
  supported = λ ts t at what r u. not_both (first_unsupported ts) u.number r.supported u.first;
  a_file = λ ts t r n. n.by_none r.file r.spelled;
  not_too_deep = not_deep law;
  one_token = one_token;
  unsupported_first = λ ts at what u n. not_both (first_unsupported ts) u.number n.supported u.first;
  unsupported_before_depth = λ ts at what u d. not_both (first_unsupported ts) u.number d.supported u.first;
  no_file_is_not_deep = λ ts n d. n.by_none d.file d.spelled;
}
