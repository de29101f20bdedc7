-- Lists that grow.
use Rattle.std.proofs.Common.{◌≡◌, List, [], ◌∷◌, ◌++◌, map, IfOk, Ok, Err, Vec, ap, subst, ◌∙◌}
use Rattle.std.specs.declared.alloc.Global.{Global}
use Rattle.std.specs.declared.result.Result.{Result}
use Rattle.std.proofs.lemmas.List.{map-append}
use Rattle.jd_base.specs.declared.memory.NoMemory.{NoMemory}
use Rattle.jd_code_makers.specs.Makers.{IsAdded, IsJoined}

pub added_is : {A : Type 0} (items r : Result (Vec A Global) NoMemory) (item : Result A NoMemory) (old : Vec A Global) (x : A) → IfOk r (λ v. v.items ≡ old.items ++ x ∷ []) → items ≡ Ok old → item ≡ Ok x
    → IfOk r (λ v. IsAdded items item v)
added_is items (Ok v) item old x all had made = (old, x, had, made, all)
added_is items (Err e) item old x all had made = all

pub joined_is : {A : Type 0} (items others r : Result (Vec A Global) NoMemory) (u w : Vec A Global) → IfOk r (λ v. v.items ≡ u.items ++ w.items) → items ≡ Ok u → others ≡ Ok w
    → IfOk r (λ v. IsJoined items others v)
joined_is items others (Ok v) u w all one other = (u, w, one, other, all)
joined_is items others (Err e) u w all one other = all

module _ {A B : Type 0} (f : A → B) where
  -- one more item
  pub one_more : (items : Result (Vec A Global) NoMemory) (item : Result A NoMemory) (r : Result (Vec A Global) NoMemory) (ys : List B) (y : B)
      → IfOk r (λ v. IsAdded items item v) → IfOk items (λ v. map f v.items ≡ ys) → IfOk item (λ x. f x ≡ y) → IfOk r (λ v. map f v.items ≡ ys ++ y ∷ [])
  one_more items item (Ok v) ys y made is one =
      ap (map f) made.4 ∙ map-append f made.0.items (made.1 ∷ []) ∙ ap (λ l. l ++ f made.1 ∷ []) (subst (λ i. IfOk i (λ u. map f u.items ≡ ys)) made.2 is)
      ∙ ap (λ z. ys ++ z ∷ []) (subst (λ i. IfOk i (λ x. f x ≡ y)) made.3 one)
  one_more items item (Err e) ys y made is one = made

  -- the items of both
  pub both_lists : (items others r : Result (Vec A Global) NoMemory) (xs ys : List B)
      → IfOk r (λ v. IsJoined items others v) → IfOk items (λ v. map f v.items ≡ xs) → IfOk others (λ v. map f v.items ≡ ys) → IfOk r (λ v. map f v.items ≡ xs ++ ys)
  both_lists items others (Ok v) xs ys made is there =
      ap (map f) made.4 ∙ map-append f made.0.items made.1.items ∙ ap (λ l. l ++ map f made.1.items) (subst (λ i. IfOk i (λ u. map f u.items ≡ xs)) made.2 is)
      ∙ ap (λ l. xs ++ l) (subst (λ i. IfOk i (λ u. map f u.items ≡ ys)) made.3 there)
  both_lists items others (Err e) xs ys made is there = made
