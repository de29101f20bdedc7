-- The first that passes one test or another.
use Rattle.std.proofs.Common.{◌≡◌, ℕ, suc, Bool, true, false, cond, ◌||◌, nat_lt, List, [], ◌∷◌, Option, None, Some, option_map, refl, sym, ap, ◌∙◌, arith}
use Rattle.std.proofs.lemmas.Bool.Decides.{nat_tests}
use Rattle.jd_tforms.specs.Naming.{number_where}
use Rattle.jd_tparse.specs.Least.{least}

least_zero : (a : Option ℕ) → least (option_map suc a) (Some 0) ≡ Some 0
least_zero None = refl
least_zero (Some a) = let below : nat_lt 0 (suc a) ≡ true = grind (arith, nat_tests) in ap (λ t. cond t (Some 0) (Some (suc a))) below

zero_least : (b : Option ℕ) → least (Some 0) b ≡ Some 0
zero_least None = refl
zero_least (Some b) = let above : nat_lt b 0 ≡ false = grind (arith, nat_tests) in ap (λ t. cond t (Some b) (Some 0)) above

least_next : (a b : Option ℕ) → least (option_map suc a) (option_map suc b) ≡ option_map suc (least a b)
least_next None b = refl
least_next (Some a) None = refl
least_next (Some a) (Some b) = let same : nat_lt (suc b) (suc a) ≡ nat_lt b a = grind (arith, nat_tests) in ap (λ t. cond t (Some (suc b)) (Some (suc a))) same ∙ by (nat_lt b a)
  where
    by : (t : Bool) → cond t (Some (suc b)) (Some (suc a)) ≡ option_map suc (cond t (Some b) (Some a))
    by true = refl
    by false = refl

pub first_of_two : {A : Type 0} (s t : A → Bool) (xs : List A) → number_where (λ x. s x || t x) xs ≡ least (number_where s xs) (number_where t xs)
first_of_two s t [] = refl
first_of_two s t (x ∷ xs) = by (s x) (t x) (number_where s xs) (number_where t xs) (first_of_two s t xs)
  where
    by : (b c : Bool) (o p : Option ℕ) → number_where (λ x. s x || t x) xs ≡ least o p → cond (b || c) (Some 0) (option_map suc (number_where (λ x. s x || t x) xs)) ≡ least (cond b (Some 0) (option_map suc o)) (cond c (Some 0) (option_map suc p))
    by true c o p same = sym (zero_least (cond c (Some 0) (option_map suc p)))
    by false true o p same = sym (least_zero o)
    by false false o p same = ap (option_map suc) same ∙ sym (least_next o p)
