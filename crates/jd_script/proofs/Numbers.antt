-- Numbers between dots, byte by byte.
use Rattle.std.proofs.Common.{◌≡◌, ◌≢◌, ℕ, ◌+◌, ◌<◌, ◌≤◌, cond, eqb, List, [], ◌∷◌, ◌++◌, length, drop, get_or, Option, Some, None, sym, ap, ◌∙◌}
use Rattle.std.specs.Prelude.{option_and_then}
use Rattle.std.proofs.lemmas.Bool.{eq-eqb, ne_eqb}
use Rattle.std.proofs.lemmas.List.{at_drop_more, at_drop_all}
use Rattle.jd_scripts.specs.ReadPlaces.{numbers, with_digit}

abbrev turn : ℕ → List ℕ → List ℕ → ℕ → Option (List ℕ)
turn b bs done n = cond (eqb b 46) (cond (eqb n 0) None (numbers bs (done ++ n ∷ []) 0)) (option_and_then (numbers bs done) (with_digit n b))

at : (bs : List ℕ) (i : ℕ) (done : List ℕ) (n : ℕ) → i < length bs → numbers (drop i bs) done n ≡ turn (get_or bs i 0) (drop (i + 1) bs) done n
unfolding numbers
at bs i done n lt = at_drop_more (λ l. numbers l done n) bs i 0 lt

pub dot : (bs : List ℕ) (i : ℕ) (done : List ℕ) (n : ℕ) (r : Option (List ℕ)) → i < length bs → get_or bs i 0 ≡ 46 → n ≢ 0 → numbers (drop i bs) done n ≡ r → numbers (drop (i + 1) bs) (done ++ n ∷ []) 0 ≡ r
dot bs i done n r lt b some is =
    sym (at bs i done n lt
    ∙ (ap (λ t. cond t (cond (eqb n 0) None (numbers (drop (i + 1) bs) (done ++ n ∷ []) 0)) (option_and_then (numbers (drop (i + 1) bs) done) (with_digit n (get_or bs i 0)))) (eq-eqb _ _ b)
    ∙ ap (λ t. cond t None (numbers (drop (i + 1) bs) (done ++ n ∷ []) 0)) (ne_eqb _ _ some))) ∙ is

pub dot_early : (bs : List ℕ) (i : ℕ) (done : List ℕ) (n : ℕ) (r : Option (List ℕ)) → i < length bs → get_or bs i 0 ≡ 46 → n ≡ 0 → numbers (drop i bs) done n ≡ r → None ≡ r
dot_early bs i done n r lt b none is =
    sym (at bs i done n lt
    ∙ (ap (λ t. cond t (cond (eqb n 0) None (numbers (drop (i + 1) bs) (done ++ n ∷ []) 0)) (option_and_then (numbers (drop (i + 1) bs) done) (with_digit n (get_or bs i 0)))) (eq-eqb _ _ b)
    ∙ ap (λ t. cond t None (numbers (drop (i + 1) bs) (done ++ n ∷ []) 0)) (eq-eqb _ _ none))) ∙ is

pub digit : (bs : List ℕ) (i : ℕ) (done : List ℕ) (n : ℕ) (o : Option ℕ) (r : Option (List ℕ)) → i < length bs → get_or bs i 0 ≢ 46 → o ≡ with_digit n (get_or bs i 0) → numbers (drop i bs) done n ≡ r → option_and_then (numbers (drop (i + 1) bs) done) o ≡ r
digit bs i done n o r lt b d is =
    ap (option_and_then (numbers (drop (i + 1) bs) done)) d
    ∙ (sym (at bs i done n lt
    ∙ ap (λ t. cond t (cond (eqb n 0) None (numbers (drop (i + 1) bs) (done ++ n ∷ []) 0)) (option_and_then (numbers (drop (i + 1) bs) done) (with_digit n (get_or bs i 0)))) (ne_eqb _ _ b)) ∙ is)

pub at_end : (bs : List ℕ) (i : ℕ) (done : List ℕ) (n : ℕ) (r : Option (List ℕ)) → length bs ≤ i → numbers (drop i bs) done n ≡ r → cond (eqb n 0) None (Some (done ++ n ∷ [])) ≡ r
unfolding numbers
at_end bs i done n r le is = sym (at_drop_all (λ l. numbers l done n) bs i le) ∙ is

pub same : (bs : List ℕ) (done new : List ℕ) (n m : ℕ) (r : Option (List ℕ)) → new ≡ done → m ≡ n → numbers bs done n ≡ r → numbers bs new m ≡ r
same bs done new n m r d e is = ap (λ l. numbers bs l m) d ∙ (ap (numbers bs done) e ∙ is)
