-- An expression with nothing behind it has the form of its part.
use Rattle.std.proofs.Common.{◌≡◌, ◌≤◌, ◌+◌, ℕ, List, Option, Some, None, Bool, false, cond, nat_lt, min, max, refl, sym, ap, ap₂, ◌∙◌, arith}
use Rattle.std.proofs.Math.Nat.{min-eq_left, max-zero, zero-max}
use Rattle.std.proofs.lemmas.Bool.{le-ltb}
use Rattle.jd_jml_tokens.specs.Lexemes.{PlainLexeme, place_of}
use Rattle.jd_jml_attributes.specs.declared.rows.Rule.TheVariants as rules
use Rattle.jd_jml_attributes.specs.Forms.{PlainKind, Same, Name, NameInParentheses, Less, AtMost, Below, AndBelow, Between, Other, PlainForm, behind, cast_behind, empty, first_of, in_order, unmet}
use Rattle.jd_jml_attributes.specs.Rules.{all_in_order, closed, high_at, made, with_high}
use Rattle.jd_jml_attributes.specs.Short.{IsLevel, IsSettled, alone}

abbrev form : ℕ → ℕ → PlainKind → Option ℕ → Option ℕ → Option ℕ → PlainForm
form h a k c f g = record { height = h; adds = a; kind = k; cast = c; fault = f; high = g }

same : (a b : PlainForm) → a.height ≡ b.height → a.adds ≡ b.adds → a.kind ≡ b.kind → a.cast ≡ b.cast → a.fault ≡ b.fault → a.high ≡ b.high → a ≡ b
same a b h p k c f g =
    ap (λ x. form x a.adds a.kind a.cast a.fault a.high) h
    ∙ (ap (λ x. form b.height x a.kind a.cast a.fault a.high) p
    ∙ (ap (λ x. form b.height b.adds x a.cast a.fault a.high) k
    ∙ (ap (λ x. form b.height b.adds b.kind x a.fault a.high) c
    ∙ (ap (λ x. form b.height b.adds b.kind b.cast x a.high) f
    ∙ ap (λ x. form b.height b.adds b.kind b.cast b.fault x) g))))

behind_nothing : (k : PlainKind) → behind Same k ≡ k
behind_nothing Same = refl
behind_nothing (Name x) = refl
behind_nothing NameInParentheses = refl
behind_nothing Less = refl
behind_nothing (AtMost x) = refl
behind_nothing (Below x) = refl
behind_nothing (AndBelow x) = refl
behind_nothing (Between x y) = refl
behind_nothing Other = refl

no_cast : (k : PlainKind) → cast_behind k None None ≡ None
no_cast Same = refl
no_cast (Name x) = refl
no_cast NameInParentheses = refl
no_cast Less = refl
no_cast (AtMost x) = refl
no_cast (Below x) = refl
no_cast (AndBelow x) = refl
no_cast (Between x y) = refl
no_cast Other = refl

met_nothing : (k : PlainKind) → unmet k None ≡ None
met_nothing Same = refl
met_nothing (Name x) = refl
met_nothing NameInParentheses = refl
met_nothing Less = refl
met_nothing (AtMost x) = refl
met_nothing (Below x) = refl
met_nothing (AndBelow x) = refl
met_nothing (Between x y) = refl
met_nothing Other = refl

first_alone : (o : Option ℕ) → first_of o None ≡ o
first_alone (Some at) = refl
first_alone None = refl

first_begun : (o : Option ℕ) → first_of None o ≡ o
first_begun (Some at) = refl
first_begun None = refl

-- behind nothing
begun : (f : PlainForm) → IsSettled f → in_order empty f ≡ f
begun f s =
    let p : min (0 + f.adds) 201 ≡ f.adds = ap (λ n. min (0 + n) 201) s.adds_nothing ∙ sym s.adds_nothing in
    let h : max (min (0 + f.adds) 201) f.height ≡ f.height = ap (λ n. max (min (0 + n) 201) f.height) s.adds_nothing ∙ zero-max f.height in
    same (in_order empty f) f h p (behind_nothing f.kind) refl
    (ap (λ o. first_of o None) (first_begun f.fault) ∙ first_alone f.fault) (first_begun f.high)

-- before nothing
ended : (f : PlainForm) → IsSettled f → in_order f empty ≡ f
ended f s =
    let low = s.low in
    let within : f.height + 0 ≤ 201 = omega (arith, low) in
    let h : max (min (f.height + 0) 201) 0 ≡ f.height = max-zero (min (f.height + 0) 201) ∙ (min-eq_left within ∙ (let z : f.height + 0 ≡ f.height = omega arith in z)) in
    let p : min (f.adds + 0) 201 ≡ f.adds = ap (λ n. min (n + 0) 201) s.adds_nothing ∙ sym s.adds_nothing in
    let c : cast_behind f.kind f.cast None ≡ f.cast = ap (λ x. cast_behind f.kind x None) s.casts_nothing ∙ (no_cast f.kind ∙ sym s.casts_nothing) in
    let g : first_of (first_of f.fault None) (unmet f.kind None) ≡ f.fault = ap₂ first_of (first_alone f.fault) (met_nothing f.kind) ∙ first_alone f.fault in
    same (in_order f empty) f h p refl c g (first_alone f.high)

alone_in_order : (f : PlainForm) → IsSettled f → all_in_order empty (alone f) ≡ f
alone_in_order f s =
    let once = ended f s in
    ap (λ x. in_order (in_order (in_order x empty) empty) empty) (begun f s)
    ∙ (ap (λ x. in_order (in_order x empty) empty) once ∙ (ap (λ x. in_order x empty) once ∙ once))

unchanged : (f : PlainForm) → IsSettled f → (ts : List PlainLexeme) → with_high ts f ≡ f
unchanged f s ts = same (with_high ts f) f refl refl refl refl refl (s.marked ts)

pub already_marked : (ts : List PlainLexeme) (height at : ℕ) (o : Option ℕ) → o ≡ Some at → high_at ts height o ≡ o
already_marked ts height at o is = ap (high_at ts height) is ∙ sym is

pub not_too_high : (ts : List PlainLexeme) (height : ℕ) (o : Option ℕ) → height ≤ 200 → high_at ts height o ≡ o
not_too_high ts height (Some at) low = refl
not_too_high ts height None low = ap (λ (b : Bool). cond b (Some (place_of 0 ts)) None) (le-ltb 200 height low)

pub list : IsLevel rules.Parts
list = record { keeps = λ f s ts. ap (with_high ts) (alone_in_order f s) ∙ unchanged f s ts; quiet = λ ts. refl }

pub level : IsLevel rules.Expression
level = record {
  keeps = λ f s ts.
      let shut : closed f ≡ f = same (closed f) f refl (sym s.adds_nothing) refl (sym s.casts_nothing) refl refl in
      ap (λ x. with_high ts (closed x)) (alone_in_order f s) ∙ (ap (with_high ts) shut ∙ unchanged f s ts);
  quiet = λ ts. refl;
}
