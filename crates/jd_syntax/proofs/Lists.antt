-- The views of a list's elements.
use Rattle.std.proofs.Common.{◌≡◌, ℕ, ◌+◌, ◌<◌, List, ◌∷◌, length, map, drop, get_or, sym, ap, ◌∙◌, subst, All}
use Rattle.std.proofs.lemmas.List.{drop_more, get_or-map, length-map}
use Rattle.std.proofs.lemmas.List.Elements.{All-get_or}

-- lists with equal views have equal views at each index
pub same_at : {A B : Type 0} (f : A → B) (xs ys : List A) (i : ℕ) (x y : A) → x ≡ get_or xs i x → i < length xs → y ≡ get_or ys i y → i < length ys → map f xs ≡ map f ys → f x ≡ f y
same_at f xs ys i x y ex lx ey ly e =
    ap f ex
    ∙ sym (get_or-map f xs i x (f x) lx)
    ∙ ap (λ l. get_or l i (f x)) e
    ∙ get_or-map f ys i y (f x) ly
    ∙ sym (ap f ey)

pub ruleset at_each = same_at

-- the views of the rest of a list, with its first element apart
pub rest_more : {A B : Type 0} (f : A → B) (xs : List A) (i : ℕ) (d : A) → i < length xs → map f (drop i xs) ≡ f (get_or xs i d) ∷ map f (drop (i + 1) xs)
rest_more f xs i d lt = ap (map f) (drop_more xs i d lt)

pub ruleset rest = rest_more

-- what holds of each view holds of an element's view
pub at_item : {A B : Type 0} (P : B → Type 0) (f : A → B) (xs : List A) (i : ℕ) (x : A) → x ≡ get_or xs i x → i < length xs → All P (map f xs) → P (f x)
at_item P f xs i x e lt all =
    subst P (get_or-map f xs i x (f x) lt ∙ sym (ap f e)) (All-get_or P (map f xs) i (f x) (subst (λ n. i < n) (sym (length-map xs f)) lt) all)
