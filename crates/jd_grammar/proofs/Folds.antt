-- A preorder evaluates to the values of its tree.
use Rattle.std.proofs.Common.{◌≡◌, ℕ, zero, suc, ◌+◌, List, [], ◌∷◌, ◌++◌, length, take, drop, refl, sym, ap, ap₂, ◌∙◌, arith, append_assoc, length-append}
use Rattle.jd_grammar.specs.declared.table.Symbol.{Symbol}
use Rattle.jd_grammar.specs.declared.table.Symbol.TheVariants.{Token, Name}
use Rattle.jd_grammar.specs.Grammars.{Production, Forest, Done, Leaf, Node, yield, preorder, IsForest}
use Rattle.jd_grammar.specs.Folds.{values, evaluated, name_count, AritiesFit}

pub take-here : {A : Type 0} (xs ys : List A) → take (length xs) (xs ++ ys) ≡ xs
take-here [] ys = refl
take-here (x ∷ xs) ys = ap (λ zs. x ∷ zs) (take-here xs ys)

pub drop-here : {A : Type 0} (xs ys : List A) → drop (length xs) (xs ++ ys) ≡ ys
drop-here [] ys = refl
drop-here (x ∷ xs) ys = drop-here xs ys

drop-nil : (A : Type 0) (n : ℕ) → drop {A = A} n [] ≡ []
drop-nil A zero = refl
drop-nil A (suc n) = refl

pub drop-more : {A : Type 0} (m n : ℕ) (xs : List A) → drop n (drop m xs) ≡ drop (m + n) xs
drop-more zero n xs = ap (λ k. drop k xs) (let z : n ≡ 0 + n = omega arith in z)
drop-more {A} (suc m) n [] = drop-nil A n ∙ sym (drop-nil A (suc m + n))
drop-more (suc m) n (x ∷ xs) = drop-more m n xs ∙ ap (λ k. drop k (x ∷ xs)) (let z : suc (m + n) ≡ suc m + n = omega arith in z)

length-values : {T V : Type 0} (make : ℕ → List T → List V → V) (g : List Production) (f : Forest) (ss : List Symbol) (after : List ℕ) (ts : List T) → IsForest g f ss after → length (values make f ts) ≡ name_count ss
length-values make g Done [] after ts h = refl
length-values make g Done (x ∷ ss) after ts h = absurd h
length-values make g (Leaf k f) [] after ts h = absurd h
length-values make g (Leaf k f) (Token j ∷ ss) after ts h = length-values make g f ss after (drop 1 ts) h.1
length-values make g (Leaf k f) (Name a ∷ ss) after ts h = absurd h
length-values make g (Node p c f) [] after ts h = absurd h
length-values make g (Node p c f) (Token j ∷ ss) after ts h = absurd h
length-values make g (Node p c f) (Name a ∷ ss) after ts h = let i = length-values make g f ss after (drop (length (yield c)) ts) h.5 in omega (arith, i)

pub evaluated-preorder : {T V : Type 0} (make : ℕ → List T → List V → V) (arity : ℕ → ℕ) (g : List Production) (f : Forest) (ss : List Symbol) (after : List ℕ) (ts : List T) (es : List ℕ) → AritiesFit g arity → IsForest g f ss after → evaluated make arity (preorder f ++ es) ts ≡ values make f ts ++ evaluated make arity es (drop (length (yield f)) ts)
evaluated-preorder make arity g Done [] after ts es fit h = refl
evaluated-preorder make arity g Done (x ∷ ss) after ts es fit h = absurd h
evaluated-preorder make arity g (Leaf k f) [] after ts es fit h = absurd h
evaluated-preorder make arity g (Leaf k f) (Token j ∷ ss) after ts es fit h =
    evaluated-preorder make arity g f ss after (drop 1 ts) es fit h.1
    ∙ ap (λ us. values make f (drop 1 ts) ++ evaluated make arity es us) (drop-more 1 (length (yield f)) ts ∙ ap (λ n. drop n ts) (let z : 1 + length (yield f) ≡ suc (length (yield f)) = omega arith in z))
evaluated-preorder make arity g (Leaf k f) (Name a ∷ ss) after ts es fit h = absurd h
evaluated-preorder make arity g (Node p c f) [] after ts es fit h = absurd h
evaluated-preorder make arity g (Node p c f) (Token j ∷ ss) after ts es fit h = absurd h
evaluated-preorder make arity g (Node p c f) (Name a ∷ ss) after ts es fit h =
    let us = drop (length (yield c)) ts in
    let rest = values make f us ++ evaluated make arity es (drop (length (yield f)) us) in
    let all : evaluated make arity ((preorder c ++ preorder f) ++ es) ts ≡ values make c ts ++ rest =
    ap (λ xs. evaluated make arity xs ts) (append_assoc (preorder c) (preorder f) es)
    ∙ (evaluated-preorder make arity g c h.0.body (yield f ++ after) ts (preorder f ++ es) fit h.4
    ∙ ap (λ xs. values make c ts ++ xs) (evaluated-preorder make arity g f ss after us es fit h.5)) in
    let count : arity p ≡ length (values make c ts) = fit p h.0 h.1 ∙ sym (length-values make g c h.0.body (yield f ++ after) ts h.4) in
    let front : take (arity p) (evaluated make arity ((preorder c ++ preorder f) ++ es) ts) ≡ values make c ts =
    ap₂ (λ n xs. take n xs) count all ∙ take-here (values make c ts) rest in
    let back : drop (arity p) (evaluated make arity ((preorder c ++ preorder f) ++ es) ts) ≡ rest =
    ap₂ (λ n xs. drop n xs) count all ∙ drop-here (values make c ts) rest in
    let whole : drop (length (yield f)) us ≡ drop (length (yield c ++ yield f)) ts =
    drop-more (length (yield c)) (length (yield f)) ts ∙ ap (λ n. drop n ts) (sym (length-append (yield c) (yield f))) in
    ap₂ (λ xs ys. make p ts xs ∷ ys) front (back ∙ ap (λ vs. values make f us ++ evaluated make arity es vs) whole)
