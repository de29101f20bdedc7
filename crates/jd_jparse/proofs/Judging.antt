-- What a derivation's attributes tell of its tokens.
use Rattle.std.proofs.Common.{◌≡◌, ℕ, ◌≤◌, min, List, Option, Some, None, sym, ap, subst, ◌∙◌, arith}
use Rattle.jd_lex.specs.Parts as lexed
use Rattle.jd_grammar.specs.Grammars.{Forest}
use Rattle.jd_syntax.specs.JavaTrees.{JavaUnit}
use Rattle.jd_java_attributes.specs.Judging.{PlainAttributes, attributes_of, fault_of}
use Rattle.jd_java_tokens.specs.Contents.{PlainLexeme}
use Rattle.jd_java_trees.specs.Meaning.{unit_of}
use Rattle.jd_jparse.specs.Parses.{Derives, IsNoFile, IsTooDeep, Reads, Shows, Spells, asks, end_of, first_unsupported, seen, told}
use Rattle.jd_jparse.proofs.Deriving.{OneDerivation, one_file}

pub not_both : {A : Type 0} (o : Option A) (a : A) → o ≡ None → o ≡ Some a → ⊥
not_both (Some b) a e f = cc
not_both None a e f = cc

pub no_file : OneDerivation → (ts : List lexed.Token) (f : Forest) (a : PlainAttributes) (at : ℕ) → first_unsupported ts ≡ None → Derives ts f → told ts f ≡ a → fault_of a ≡ Some at → IsNoFile ts
no_file law ts f a at none d is fault = record {
  supported = none;
  by_none = λ file s.
      let same = one_file law ts file f s.derived d in
      not_both (fault_of (told ts f)) at (ap (λ h. fault_of (told ts h)) (sym same) ∙ s.faultless) (ap fault_of is ∙ fault);
}

pub deep : (ts : List lexed.Token) (f : Forest) (a : PlainAttributes) (at : ℕ) → first_unsupported ts ≡ None → Derives ts f → told ts f ≡ a → fault_of a ≡ None → a.form.high ≡ Some at → IsTooDeep ts
deep ts f a at none d is fault high = record {
  supported = none;
  file = f;
  spelled = record { derived = d; faultless = ap fault_of is ∙ fault };
  place = at;
  above = ap (λ b. b.form.high) is ∙ high;
}

pub read : (ts : List lexed.Token) (f : Forest) (a : PlainAttributes) (t : JavaUnit) → first_unsupported ts ≡ None → Derives ts f → told ts f ≡ a → fault_of a ≡ None → a.form.high ≡ None → unit_of f (seen ts) ≡ t → Reads ts t
read ts f a t none d is fault high tree = record {
  supported = none;
  file = f;
  spelled = record { derived = d; faultless = ap fault_of is ∙ fault };
  within = ap (λ b. b.form.high) is ∙ high;
  is = tree;
}

pub told_is : (ts : List lexed.Token) (ls : List PlainLexeme) (f : Forest) (a : PlainAttributes) → attributes_of f ls ≡ a → ls ≡ seen ts → told ts f ≡ a
told_is ts ls f a is same = ap (attributes_of f) (sym same) ∙ is

not_behind : (at end : ℕ) → min at end ≤ end
not_behind at end = omega arith

pub faulty : OneDerivation → (ts : List lexed.Token) (f : Forest) (a : PlainAttributes) (at m end : ℕ) → first_unsupported ts ≡ None → Derives ts f → told ts f ≡ a → fault_of a ≡ Some at → m ≡ min at end → end ≡ end_of ts → IsNoFile ts × m ≤ end_of ts × Shows ts m
faulty law ts f a at m end none d is fault least last =
    let place : m ≡ min at (end_of ts) = least ∙ ap (min at) last in (
      no_file law ts f a at none d is fault,
      subst (λ n. n ≤ end_of ts) (sym place) (not_behind at (end_of ts)),
      subst (Shows ts) (sym place) (asks f at d (ap fault_of is ∙ fault)),
    )

pub high : (ts : List lexed.Token) (f : Forest) (a : PlainAttributes) (at m end : ℕ) → first_unsupported ts ≡ None → Derives ts f → told ts f ≡ a → fault_of a ≡ None → a.form.high ≡ Some at → m ≡ min at end → end ≡ end_of ts → IsTooDeep ts × m ≤ end_of ts
high ts f a at m end none d is fault above least last =
    (deep ts f a at none d is fault above, subst (λ n. n ≤ end_of ts) (sym (least ∙ ap (min at) last)) (not_behind at (end_of ts)))
