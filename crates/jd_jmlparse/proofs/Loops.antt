-- A walk over a list: the elements before a place are filled, and nothing else differs.
use Rattle.std.proofs.Common.{◌≡◌, ◌≢◌, ℕ, zero, suc, ◌+◌, ◌<◌, ◌≤◌, List, [], ◌∷◌, ◌++◌, Option, length, take, set, get_or, refl, sym, ap, subst, ◌∙◌, arith}
use Rattle.std.proofs.lemmas.List.{append-nil, append_assoc, get_or-set_other, length-set, take_more_set}
use Rattle.jd_lex.specs.Parts as lexed
use Rattle.jd_syntax.specs.SpecTrees.{PlainSpecBlock}
use Rattle.jd_jmlparse.specs.Filling.{Goes}
use Rattle.jd_jmlparse.specs.declared.fill.refused.Cause.{Cause}
use Rattle.jd_jmlparse.proofs.Going.{goes_on}

-- what a list is without clauses, by its elements
pub set_same : {A X C : Type 0} (bare : List A → C) (cons : X → C → C) (one : A → X) → ((x : A) (xs : List A) → bare (x ∷ xs) ≡ cons (one x) (bare xs)) → (xs : List A) (i : ℕ) (y d : A) → one y ≡ one (get_or xs i d) → bare (set xs i y) ≡ bare xs
set_same bare cons one each [] i y d e = refl
set_same bare cons one each (x ∷ xs) zero y d e = each y xs ∙ ap (λ h. cons h (bare xs)) e ∙ sym (each x xs)
set_same bare cons one each (x ∷ xs) (suc i) y d e = each x (set xs i y) ∙ ap (cons (one x)) (set_same bare cons one each xs i y d e) ∙ sym (each x xs)

-- the blocks of a list with one more element
pub one_more : {A : Type 0} (blocks : List A → List PlainSpecBlock) (one : A → List PlainSpecBlock) → blocks [] ≡ [] → ((x : A) (xs : List A) → blocks (x ∷ xs) ≡ one x ++ blocks xs) → (xs : List A) (y : A) → blocks (xs ++ y ∷ []) ≡ blocks xs ++ one y
one_more blocks one none each [] y = each y [] ∙ ap (λ bs. one y ++ bs) none ∙ append-nil (one y) ∙ sym (ap (λ bs. bs ++ one y) none)
one_more blocks one none each (x ∷ xs) y = each x (xs ++ y ∷ []) ∙ ap (λ bs. one x ++ bs) (one_more blocks one none each xs y) ∙ sym (append_assoc (one x) (blocks xs) (one y)) ∙ sym (ap (λ bs. bs ++ one y) (each x xs))

-- the walk with one more element
pub goes_more : {A : Type 0} (blocks : List A → List PlainSpecBlock) (one : A → List PlainSpecBlock) → blocks [] ≡ [] → ((x : A) (xs : List A) → blocks (x ∷ xs) ≡ one x ++ blocks xs) → (ts : List lexed.Token) (a b c : Option Cause) (xs : List A) (i : ℕ) (y : A) → i < length xs → Goes ts a (blocks (take i xs)) b → Goes ts b (one y) c → Goes ts a (blocks (take (i + 1) (set xs i y))) c
goes_more blocks one none each ts a b c xs i y lt before now =
    subst (λ zs. Goes ts a zs c) (sym (ap blocks (take_more_set xs i y lt) ∙ one_more blocks one none each (take i xs) y)) (goes_on ts a b c (blocks (take i xs)) (one y) before now)

-- the elements that the walk has not reached are those of before
pub unvisited_more : {A : Type 0} (xs ys : List A) (i : ℕ) (y : A) → (length xs ≡ length ys) × ((k : ℕ) (d : A) → i ≤ k → get_or xs k d ≡ get_or ys k d) → (length (set xs i y) ≡ length ys) × ((k : ℕ) (d : A) → i + 1 ≤ k → get_or (set xs i y) k d ≡ get_or ys k d)
unvisited_more xs ys i y (len, rest) = (length-set xs i y ∙ len, λ k d le. let ne : k ≢ i = omega arith in let far : i ≤ k = omega arith in get_or-set_other xs i k y d ne ∙ rest k d far)
