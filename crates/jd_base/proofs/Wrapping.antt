-- The number whose 32 bits are the rest of a division by 2^32.
use Rattle.std.proofs.Common.{◌≡◌, ◌<◌, ◌^◌, ◌∙◌, ap, subst, sym, ℤ, pos, to_z, of_z, lit<}
use Rattle.std.specs.Prelude.{unsigned_abs, FitsSigned}
use Rattle.std.specs.Int.{int_rem_euclid, int_wrap, w32, w128}
use Rattle.std.proofs.lemmas.Int.{to_z-of_z, fits_signed_from_abs}
use Rattle.std.proofs.Math.Facts.{sfits_to_z}
use Rattle.std.proofs.Math.Nat.{lt_trans}

pub wrapped : (z r y : ℤ) → unsigned_abs r < 4294967296 → FitsSigned w128 z → r ≡ int_rem_euclid (to_z w128 (of_z w128 z)) (pos 4294967296) → y ≡ to_z w32 (unsigned_abs (to_z w128 (of_z w128 r))) → to_z w32 (of_z w32 y) ≡ int_wrap w32 z
unfolding int_wrap
wrapped z r y below fz e g =
    let same : to_z w128 (of_z w128 r) ≡ r = to_z-of_z w128 r (fits_signed_from_abs w128 r (lt_trans below (lit< tt))) in
    let bits : y ≡ to_z w32 (unsigned_abs r) = g ∙ ap (λ t. to_z w32 (unsigned_abs t)) same in
    to_z-of_z w32 y (subst (FitsSigned w32) (sym bits) (sfits_to_z (record { fits = below }))) ∙ bits
    ∙ ap (λ t. to_z w32 (unsigned_abs t)) e
    ∙ ap (λ t. to_z w32 (unsigned_abs (int_rem_euclid t (pos 4294967296)))) (to_z-of_z w128 z fz)
