-- What is left of the parameters, and the arguments from the end.
use Rattle.std.proofs.Common.{◌≡◌, ℕ, zero, suc, ◌+◌, ◌-◌, ◌<◌, ◌≤◌, List, [], ◌∷◌, length, map, drop, get_or, Result, refl, sym, ap, ◌∙◌, arith}
use Rattle.std.proofs.lemmas.List.{drop_more}
use Rattle.jd_syntax.specs.declared.java.Expr.{Expr}
use Rattle.jd_syntax.specs.JavaTrees.{java_exprs, java_view}
use Rattle.jd_bodies.specs.declared.given.Arguments.{Arguments}
use Rattle.jd_bodies.specs.declared.given.Arguments.TheVariants.{Fit, OtherCount}
use Rattle.jd_bodies.specs.declared.value.ValueType.{ValueType}
use Rattle.jd_bodies.specs.declared.fault.Fault.{Fault}
use Rattle.jd_bodies.specs.declared.given.Given.{Given}
use Rattle.jd_bodies.specs.declared.place.Place.{Place}
use Rattle.jd_bodies.specs.Declarations.{Declarations}
use Rattle.jd_bodies.specs.Scopes.{Local}
use Rattle.jd_bodies.specs.Expressions.{argument_gives, arguments, at_of, given, no_more, value, valued}

-- some are left behind as many as are fewer than all
pub some_left : (n : ℕ) (ts : List ValueType) → n < length ts → OtherCount ≡ no_more (drop n ts)
some_left n [] lt = absurd (omega arith)
some_left zero (t ∷ ts) lt = refl
some_left (suc n) (t ∷ ts) lt = some_left n ts (omega arith)

pub none_left : (n : ℕ) (ts : List ValueType) → length ts ≤ n → Fit ≡ no_more (drop n ts)
none_left n [] le = none_of n
  where
    none_of : (n : ℕ) → Fit ≡ no_more (drop n [])
    none_of zero = refl
    none_of (suc n) = refl
none_left zero (t ∷ ts) le = absurd (omega arith)
none_left (suc n) (t ∷ ts) le = none_left n ts (omega arith)

-- one fewer is left behind one more
one_dropped : (n : ℕ) (ts : List ValueType) → drop 1 (drop n ts) ≡ drop (suc n) ts
one_dropped zero [] = refl
one_dropped (suc n) [] = refl
one_dropped zero (t ∷ ts) = refl
one_dropped (suc n) (t ∷ ts) = one_dropped n ts

next_dropped : (n : ℕ) (ts : List ValueType) → drop 1 (drop n ts) ≡ drop (n + 1) ts
next_dropped n ts = let same : suc n ≡ n + 1 = omega arith in one_dropped n ts ∙ ap (λ k. drop k ts) same

more : (es : List Expr) (i : ℕ) (e : Expr) → i < length es → e ≡ get_or es i e → drop i es ≡ e ∷ drop (i + 1) es
more es i e lt is = drop_more es i e lt ∙ ap (λ y. y ∷ drop (i + 1) es) (sym is)

module _ (d : Declarations) (place : Place) (locals : List Local) where
  abbrev pub judged : List Expr → List ValueType → Result Arguments Fault
  judged es ts = arguments d place locals (java_exprs (map java_view es)) ts

  one_before : (es : List Expr) (ts : List ValueType) (n : ℕ) (fit r : Result Arguments Fault) (e : Expr) → n < length es → fit ≡ judged (drop (n + 1) es) (drop (n + 1) ts) → e ≡ get_or es n e →
      r ≡ argument_gives d (drop n ts) (at_of (java_view e)) (value d place locals (java_view e)) fit → r ≡ judged (drop n es) (drop n ts)
  one_before es ts n fit r e lt rest is told =
      told
      ∙ ap (argument_gives d (drop n ts) (at_of (java_view e)) (value d place locals (java_view e))) (rest ∙ ap (judged (drop (n + 1) es)) (sym (next_dropped n ts)))
      ∙ ap (λ (l : List Expr). judged l (drop n ts)) (sym (more es n e lt is))

  -- the next argument from the end
  pub one_more : (es : List Expr) (ts : List ValueType) (left : ℕ) (fit r : Result Arguments Fault) (e : Expr) (at : ℕ) (g : Result Given Fault) → 0 < left →
      (left ≤ length es) × (fit ≡ judged (drop left es) (drop left ts)) → e ≡ get_or es (left - 1) e → at ≡ at_of (java_view e) → g ≡ given d place locals (java_view e) →
      r ≡ argument_gives d (drop (left - 1) ts) at (valued at g) fit → (left - 1 ≤ length es) × (r ≡ judged (drop (left - 1) es) (drop (left - 1) ts))
  one_more es ts left fit r e at g some rest is here gives told =
      let n : ℕ = left - 1 in
      let whole : left ≡ n + 1 = omega arith in (
        omega arith,
        one_before es ts n fit r e (omega arith) (rest.1 ∙ ap (λ k. judged (drop k es) (drop k ts)) whole) is
            (told ∙ ap (λ p. argument_gives d (drop n ts) p (valued p g) fit) here ∙ ap (λ w. argument_gives d (drop n ts) (at_of (java_view e)) (valued (at_of (java_view e)) w) fit) gives),
      )
