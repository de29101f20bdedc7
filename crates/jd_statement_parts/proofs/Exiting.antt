-- The labels of a loop among those that a `continue` can have.
use Rattle.std.proofs.Common.{◌≡◌, ℕ, Bool, true, false, List, [], ◌∷◌, ◌++◌, map, if◌then◌else◌, ◌||◌, ap, refl, ◌∙◌}
use Rattle.std.specs.List.{list_any}
use Rattle.std.specs.Str.{bytes_eq}
use Rattle.jd_bodies.specs.Bodies.{exit_named}

first_or : (b c : Bool) (n m : ℕ) → (if b then n else (if c then n else m)) ≡ (if (b || c) then n else m)
first_or true c n m = refl
first_or false c n m = refl

pub among_labels : (names : List (List ℕ)) (n : ℕ) (loops : List (List ℕ × ℕ)) (l : List ℕ) → exit_named (map (λ x. (x, n)) names ++ loops) l ≡ (if list_any (λ x. bytes_eq x l) names then n else exit_named loops l)
among_labels [] n loops l = refl
among_labels (x ∷ xs) n loops l =
    let e = among_labels xs n loops l in
    ap (λ y. if bytes_eq x l then n else y) e ∙ first_or (bytes_eq x l) (list_any (λ x. bytes_eq x l) xs) n (exit_named loops l)
