-- One of some.
use Rattle.std.proofs.Common.{◌≡◌, ◌⊎◌, ⊎_elim, sym, subst}

-- what is so of each of some is so of one of them
pub among_two : {H : Type 0} {h i j : H} (P : H → Type 0) → (h ≡ i) ⊎ (h ≡ j) → P i → P j → P h
among_two P is p q = ⊎_elim (λ e. subst P (sym e) p) (λ e. subst P (sym e) q) is

pub among_three : {H : Type 0} {h i j k : H} (P : H → Type 0) → (h ≡ i) ⊎ ((h ≡ j) ⊎ (h ≡ k)) → P i → P j → P k → P h
among_three P is p q r = ⊎_elim (λ e. subst P (sym e) p) (⊎_elim (λ e. subst P (sym e) q) (λ e. subst P (sym e) r)) is

pub among_four : {H : Type 0} {h i j k l : H} (P : H → Type 0) → (h ≡ i) ⊎ ((h ≡ j) ⊎ ((h ≡ k) ⊎ (h ≡ l))) → P i → P j → P k → P l → P h
among_four P is p q r s = ⊎_elim (λ e. subst P (sym e) p) (⊎_elim (λ e. subst P (sym e) q) (⊎_elim (λ e. subst P (sym e) r) (λ e. subst P (sym e) s))) is
