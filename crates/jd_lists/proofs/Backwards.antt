-- Lists whose last part comes first.
use Rattle.std.proofs.Common.{◌≡◌, List, [], ◌∷◌, ◌++◌, map, refl, sym, ap, ◌∙◌}
use Rattle.std.specs.Prelude.{reverse}
use Rattle.std.proofs.lemmas.List.{map-append, reverse-append}
use Rattle.std.specs.declared.vec.Vec.{Vec}
use Rattle.std.specs.declared.alloc.Global.{Global}

pub last_first : {A B : Type 0} (f : A → B) (xs : List A) (x : A) → reverse (map f (xs ++ x ∷ [])) ≡ f x ∷ reverse (map f xs)
last_first f xs x = ap reverse (map-append f xs (x ∷ [])) ∙ reverse-append (map f xs) (f x ∷ [])

pub reversed_append : {A B : Type 0} (f : A → B) (xs ys : List A) → reverse (map f (xs ++ ys)) ≡ reverse (map f ys) ++ reverse (map f xs)
reversed_append f xs ys = ap reverse (map-append f xs ys) ∙ reverse-append (map f xs) (map f ys)

pub reversed_three : {A B : Type 0} (f : A → B) (xs ys zs : List A) → reverse (map f ((xs ++ ys) ++ zs)) ≡ reverse (map f zs) ++ (reverse (map f ys) ++ reverse (map f xs))
reversed_three f xs ys zs = reversed_append f (xs ++ ys) zs ∙ ap (λ ws. reverse (map f zs) ++ ws) (reversed_append f xs ys)

pub map_reverse : {A B : Type 0} (f : A → B) (xs : List A) → map f (reverse xs) ≡ reverse (map f xs)
map_reverse f [] = refl
map_reverse f (x ∷ xs) =
    ap (map f) (reverse-append (x ∷ []) xs) ∙ (map-append f (reverse xs) (x ∷ [])
    ∙ (ap (λ ys. ys ++ f x ∷ []) (map_reverse f xs) ∙ sym (reverse-append (f x ∷ []) (map f xs))))

-- ---- of vectors

-- one more at the end is one more at the head
pub one_more : {A B : Type 0} (f : A → B) (u t : Vec A Global) (x : A) → u.items ≡ t.items ++ x ∷ [] → reverse (map f u.items) ≡ f x ∷ reverse (map f t.items)
one_more f u t x e = ap (λ xs. reverse (map f xs)) e ∙ last_first f t.items x

-- those at the end come first
pub others_first : {A B : Type 0} (f : A → B) (u s t : Vec A Global) → u.items ≡ s.items ++ t.items → reverse (map f u.items) ≡ reverse (map f t.items) ++ reverse (map f s.items)
others_first f u s t e = ap (λ xs. reverse (map f xs)) e ∙ reversed_append f s.items t.items

pub turned : {A B : Type 0} (f : A → B) (u t : Vec A Global) → u.items ≡ reverse t.items → map f u.items ≡ reverse (map f t.items)
turned f u t e = ap (map f) e ∙ map_reverse f t.items
