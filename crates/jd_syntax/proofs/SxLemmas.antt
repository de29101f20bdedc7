-- The equations of the view of bracketed expressions.
use Rattle.jd_syntax.specs.declared.sx.Sx.{the_lemmas}
use Rattle.jd_syntax.specs.declared.sx.Sx.TheViews as views
use Rattle.jd_syntax.specs.Sxs.{Bracketed, BracketedList, BracketedThen, Brackets, NoneBracketed, bracketed_list, sx_view}
use Rattle.std.proofs.Common.{◌≡◌, List, [], ◌∷◌, map, refl, sym, ap, ◌∙◌, rules}

abbrev parts_list : BracketedList → List Bracketed
parts_list NoneBracketed = []
parts_list (BracketedThen x xs) = x ∷ parts_list xs

parts_back : (xs : List Bracketed) → parts_list (bracketed_list xs) ≡ xs
parts_back [] = refl
parts_back (x ∷ xs) = ap (λ ys. x ∷ ys) (parts_back xs)

-- lists are equal where what they make is
pub parts_same : (xs ys : List Bracketed) → bracketed_list xs ≡ bracketed_list ys → xs ≡ ys
parts_same xs ys e = sym (parts_back xs) ∙ ap parts_list e ∙ parts_back ys

pub list_of : (v : _) → sx_view (views.List v) ≡ Brackets (bracketed_list (map sx_view v.items))
list_of v = search (rules, the_lemmas)

pub ruleset lists = (parts_same, list_of)
