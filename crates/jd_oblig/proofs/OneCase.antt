-- Programs of one case and one body, whose family calls none.
use Rattle.std.proofs.Common.{◌≡◌, ℕ, zero, suc, true, false, nat_eq, Some, None, refl, ap, ◌∙◌, subst, true≢false}
use Rattle.std.proofs.lemmas.Bool.{eq-eqb, eqb-true}
use Rattle.jd_oblig.specs.IdentityExample.{only_first}

-- what holds of the one holds of all that are found
pub of_one : {A : Type 0} (P : A → Type 0) (a : A) → P a → (n : ℕ) (b : A) → only_first a n ≡ Some b → P b
of_one P a h zero b has = subst P (ap (λ o. elim o [ None ↦ a | Some y ↦ y ]) has) h
of_one P a h (suc n) b has = absurd (true≢false (ap (λ o. elim o [ None ↦ true | Some y ↦ false ]) has))

pub itself : (a : ℕ) → nat_eq a a ≡ true
itself a = eq-eqb a a refl

pub onward : (a b c : ℕ) → nat_eq a b ≡ true → nat_eq b c ≡ true → nat_eq a c ≡ true
onward a b c e k = eq-eqb a c (eqb-true a b e ∙ eqb-true b c k)
