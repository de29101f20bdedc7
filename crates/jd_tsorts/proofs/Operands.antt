-- Operands against the sorts of parameters.
use Rattle.std.proofs.Common.{◌≡◌, ℕ, zero, suc, ◌+◌, ◌<◌, List, [], ◌∷◌, length, map, drop, get_or, Bool, true, false, not, ◌&&◌, Option, Some, None, refl, sym, ap, ◌∙◌, arith}
use Rattle.std.specs.Option.{is_none, is_some}
use Rattle.std.proofs.lemmas.List.{drop_more}
use Rattle.jd_base.specs.declared.sort.Sort.{Sort}
use Rattle.jd_syntax.specs.declared.code.CodeExpr.{CodeExpr}
use Rattle.jd_syntax.specs.CodeViews.{expr_view}
use Rattle.jd_syntax.specs.Codes.{exprs_of}
use Rattle.jd_tgrammar.specs.NameTables.{NameTable}
use Rattle.jd_tforms.specs.Naming.{at_number}
use Rattle.jd_tforms.specs.Sorted.{Returns, is, expr_sorted, operands_sorted}

at_some : {A : Type 0} (xs : List A) (i : ℕ) (x : A) → Some x ≡ at_number xs i → drop i xs ≡ x ∷ drop (suc i) xs
at_some [] i x e = absurd cc
at_some (y ∷ xs) zero x e = let same : x ≡ y = cc in ap (λ z. z ∷ xs) (sym same)
at_some (y ∷ xs) (suc i) x e = at_some xs i x e

at_none : {A : Type 0} (xs : List A) (i : ℕ) → None ≡ at_number xs i → drop i xs ≡ []
at_none [] zero e = refl
at_none [] (suc i) e = refl
at_none (y ∷ xs) zero e = absurd cc
at_none (y ∷ xs) (suc i) e = at_none xs i e

next : {A : Type 0} (xs : List A) (i : ℕ) → drop (suc i) xs ≡ drop (i + 1) xs
next xs i = let same : suc i ≡ i + 1 = omega arith in ap (λ n. drop n xs) same

abbrev pub all_sorted : NameTable → Returns → List Sort → List CodeExpr → Bool
all_sorted names r sorts es = operands_sorted names r sorts (exprs_of (map expr_view es))

-- the operands from that number on
abbrev pub sorted_from : NameTable → Returns → List Sort → List CodeExpr → ℕ → Bool
sorted_from names r sorts es i = all_sorted names r (drop i sorts) (drop i es)

more : (es : List CodeExpr) (i : ℕ) (e : CodeExpr) → i < length es → e ≡ get_or es i e → drop i es ≡ e ∷ drop (i + 1) es
more es i e lt is = drop_more es i e lt ∙ ap (λ y. y ∷ drop (i + 1) es) (sym is)

-- too many operands
pub too_many : (names : NameTable) (r : Returns) (sorts : List Sort) (es : List CodeExpr) (i : ℕ) (e : CodeExpr) (o : Option Sort) → all_sorted names r sorts es ≡ sorted_from names r sorts es i →
    i < length es → e ≡ get_or es i e → o ≡ at_number sorts i → o ≡ None → false ≡ all_sorted names r sorts es
too_many names r sorts es i e o left lt is found none =
    sym (left ∙ (ap (λ (ss : List Sort). operands_sorted names r ss (exprs_of (map expr_view (drop i es)))) (at_none sorts i (sym none ∙ found))
    ∙ ap (λ (l : List CodeExpr). operands_sorted names r [] (exprs_of (map expr_view l))) (more es i e lt is)))

one : (names : NameTable) (r : Returns) (sorts : List Sort) (es : List CodeExpr) (i : ℕ) (e : CodeExpr) (s : Sort) → i < length es → e ≡ get_or es i e → Some s ≡ at_number sorts i →
    sorted_from names r sorts es i ≡ ((is names s (expr_view e) && expr_sorted names r (expr_view e)) && sorted_from names r sorts es (i + 1))
one names r sorts es i e s lt here some =
    ap (λ (ss : List Sort). operands_sorted names r ss (exprs_of (map expr_view (drop i es)))) (at_some sorts i s some ∙ ap (λ (l : List Sort). s ∷ l) (next sorts i))
    ∙ ap (λ (l : List CodeExpr). operands_sorted names r (s ∷ drop (i + 1) sorts) (exprs_of (map expr_view l))) (more es i e lt here)

-- an operand of another sort
pub wrong : (names : NameTable) (r : Returns) (sorts : List Sort) (es : List CodeExpr) (i : ℕ) (e : CodeExpr) (s : Sort) (o : Option Sort) (fits : Bool) → all_sorted names r sorts es ≡ sorted_from names r sorts es i →
    i < length es → e ≡ get_or es i e → o ≡ at_number sorts i → o ≡ Some s → fits ≡ (is names s (expr_view e) && expr_sorted names r (expr_view e)) → fits ≡ false → false ≡ all_sorted names r sorts es
wrong names r sorts es i e s o fits left lt here found some told fails =
    sym (left ∙ (one names r sorts es i e s lt here (sym some ∙ found) ∙ ap (λ b. b && sorted_from names r sorts es (i + 1)) (sym told ∙ fails)))

-- an operand that fits
pub right : (names : NameTable) (r : Returns) (sorts : List Sort) (es : List CodeExpr) (i : ℕ) (e : CodeExpr) (s : Sort) (o : Option Sort) (fits : Bool) → all_sorted names r sorts es ≡ sorted_from names r sorts es i →
    i < length es → e ≡ get_or es i e → o ≡ at_number sorts i → o ≡ Some s → fits ≡ (is names s (expr_view e) && expr_sorted names r (expr_view e)) → fits ≡ true → all_sorted names r sorts es ≡ sorted_from names r sorts es (i + 1)
right names r sorts es i e s o fits left lt here found some told passes =
    left ∙ (one names r sorts es i e s lt here (sym some ∙ found) ∙ ap (λ b. b && sorted_from names r sorts es (i + 1)) (sym told ∙ passes))

all_gone : (es : List CodeExpr) → drop (length es) es ≡ []
all_gone [] = refl
all_gone (e ∷ es) = all_gone es

absent : {A : Type 0} (o : Option A) (none : Bool) → is_some o ≡ not none → none ≡ is_none o
absent None true e = refl
absent None false e = absurd cc
absent (Some x) true e = absurd cc
absent (Some x) false e = refl

-- no operand is left: is none of the parameters
pub all_there : (names : NameTable) (r : Returns) (sorts : List Sort) (es : List CodeExpr) (i : ℕ) (o : Option Sort) (none : Bool) → all_sorted names r sorts es ≡ sorted_from names r sorts es i →
    i ≡ length es → o ≡ at_number sorts (length es) → is_some o ≡ not none → none ≡ all_sorted names r sorts es
all_there names r sorts es i o none left e told asked =
    absent o none asked
    ∙ (ap is_none (told ∙ ap (at_number sorts) (sym e))
    ∙ (by sorts i ∙ (ap (λ (l : List CodeExpr). operands_sorted names r (drop i sorts) (exprs_of (map expr_view l))) (sym (ap (λ n. drop n es) e ∙ all_gone es)) ∙ sym left)))
  where
    by : (ss : List Sort) (k : ℕ) → is_none (at_number ss k) ≡ operands_sorted names r (drop k ss) (exprs_of [])
    by [] zero = refl
    by [] (suc k) = refl
    by (s ∷ ss) zero = refl
    by (s ∷ ss) (suc k) = by ss k
