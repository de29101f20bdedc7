-- What a derivation's attributes tell of its tokens.
use Rattle.std.proofs.Common.{◌≡◌, ℕ, ◌≤◌, min, List, Option, Some, None, sym, ap, subst, ◌∙◌, arith}
use Rattle.jd_lex.specs.Parts as lexed
use Rattle.jd_grammar.specs.Grammars.{Forest}
use Rattle.jd_syntax.specs.SpecTrees.{PlainClause}
use Rattle.jd_syntax.specs.declared.spec.SpecPlace.{SpecPlace}
use Rattle.jd_jml_attributes.specs.Forms.{PlainForm}
use Rattle.jd_jml_attributes.specs.Judging.{form_of}
use Rattle.jd_jml_tokens.specs.Lexemes.{PlainLexeme, lexemes_of}
use Rattle.jd_jml_trees.specs.Meaning.{clauses_of_tree}
use Rattle.jd_jmlparse.specs.Parses.{Derives, IsNoSpec, IsTooDeep, Reads, Shows, asks, end_of, told}
use Rattle.jd_jmlparse.proofs.Deriving.{OneDerivation, one_tree}

pub not_both : {A : Type 0} (o : Option A) (a : A) → o ≡ None → o ≡ Some a → ⊥
not_both (Some b) a e f = cc
not_both None a e f = cc

pub no_spec : OneDerivation → (place : SpecPlace) (ts : List lexed.Token) (f : Forest) (a : PlainForm) (at : ℕ) → Derives place ts f → told ts f ≡ a → a.fault ≡ Some at → IsNoSpec place ts
no_spec law place ts f a at d is fault = record {
  by_none = λ tree s.
      let same = one_tree law place ts tree f s.derived d in
      not_both (told ts f).fault at (ap (λ h. (told ts h).fault) (sym same) ∙ s.faultless) (ap (λ b. b.fault) is ∙ fault);
}

pub deep : (place : SpecPlace) (ts : List lexed.Token) (f : Forest) (a : PlainForm) (at : ℕ) → Derives place ts f → told ts f ≡ a → a.fault ≡ None → a.high ≡ Some at → IsTooDeep place ts
deep place ts f a at d is fault high = record {
  tree = f;
  spelled = record { derived = d; faultless = ap (λ b. b.fault) is ∙ fault };
  at = at;
  above = ap (λ b. b.high) is ∙ high;
}

pub read : (place : SpecPlace) (ts : List lexed.Token) (f : Forest) (a : PlainForm) (cs : List PlainClause) → Derives place ts f → told ts f ≡ a → a.fault ≡ None → a.high ≡ None → clauses_of_tree f (lexemes_of ts) ≡ cs → Reads place ts cs
read place ts f a cs d is fault high clauses = record {
  tree = f;
  spelled = record { derived = d; faultless = ap (λ b. b.fault) is ∙ fault };
  within = ap (λ b. b.high) is ∙ high;
  is = clauses;
}

pub told_is : (ts : List lexed.Token) (ls : List PlainLexeme) (f : Forest) (a : PlainForm) → form_of f ls ≡ a → ls ≡ lexemes_of ts → told ts f ≡ a
told_is ts ls f a is same = ap (form_of f) (sym same) ∙ is

not_behind : (at end : ℕ) → min at end ≤ end
not_behind at end = omega arith

pub faulty : OneDerivation → (place : SpecPlace) (ts : List lexed.Token) (f : Forest) (a : PlainForm) (at m end : ℕ) → Derives place ts f → told ts f ≡ a → a.fault ≡ Some at → m ≡ min at end → end ≡ end_of ts → IsNoSpec place ts × m ≤ end_of ts × Shows place ts m
faulty law place ts f a at m end d is fault least last =
    let there : m ≡ min at (end_of ts) = least ∙ ap (min at) last in (
      no_spec law place ts f a at d is fault,
      subst (λ n. n ≤ end_of ts) (sym there) (not_behind at (end_of ts)),
      subst (Shows place ts) (sym there) (asks f at d (ap (λ b. b.fault) is ∙ fault)),
    )

pub high : (place : SpecPlace) (ts : List lexed.Token) (f : Forest) (a : PlainForm) (at m end : ℕ) → Derives place ts f → told ts f ≡ a → a.fault ≡ None → a.high ≡ Some at → m ≡ min at end → end ≡ end_of ts → IsTooDeep place ts × m ≤ end_of ts
high place ts f a at m end d is fault above least last =
    (deep place ts f a at d is fault above, subst (λ n. n ≤ end_of ts) (sym (least ∙ ap (min at) last)) (not_behind at (end_of ts)))
