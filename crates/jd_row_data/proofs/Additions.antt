-- Lists with one more item.
use Rattle.std.proofs.Common.{Err, IfOk, List, Ok, Vec, ap, map, subst, ◌++◌, ◌≡◌, ◌∙◌, ◌∷◌, []}
use Rattle.std.specs.declared.alloc.Global.{Global}
use Rattle.std.specs.declared.result.Result.{Result}
use Rattle.std.proofs.lemmas.List.{map-append}
use Rattle.jd_base.specs.declared.memory.NoMemory.{NoMemory}
use Rattle.jd_row_data.specs.Gives.{IsAdded}

pub added_is : {A : Type 0} (items r : Result (Vec A Global) NoMemory) (item : Result A NoMemory) (old : Vec A Global) (x : A) → IfOk r (λ v. v.items ≡ old.items ++ x ∷ []) → items ≡ Ok old → item ≡ Ok x
    → IfOk r (λ v. IsAdded items item v)
added_is items (Ok v) item old x all had made = (old, x, had, made, all)
added_is items (Err e) item old x all had made = all

pub one_more : {A B : Type 0} (f : A → B) (items : Result (Vec A Global) NoMemory) (item : Result A NoMemory) (r : Result (Vec A Global) NoMemory) (ys : List B) (y : B)
    → IfOk r (λ v. IsAdded items item v) → IfOk items (λ v. map f v.items ≡ ys) → IfOk item (λ x. f x ≡ y) → IfOk r (λ v. map f v.items ≡ ys ++ y ∷ [])
one_more f items item (Ok v) ys y made is one =
    ap (map f) made.4 ∙ map-append f made.0.items (made.1 ∷ []) ∙ ap (λ l. l ++ f made.1 ∷ []) (subst (λ i. IfOk i (λ u. map f u.items ≡ ys)) made.2 is)
    ∙ ap (λ z. ys ++ z ∷ []) (subst (λ i. IfOk i (λ x. f x ≡ y)) made.3 one)
one_more f items item (Err e) ys y made is one = made
