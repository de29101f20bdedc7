-- The digits of numbers in places.
use Rattle.std.proofs.Common.{◌≡◌, ◌≢◌, ℕ, zero, suc, List, [], ◌++◌, refl, sym, ap, ◌∙◌}
use Rattle.std.proofs.lemmas.List.{append-nil}
use Rattle.jd_written.specs.Written.{number_text}
use Rattle.jd_scripts.specs.Places.{decimal}

pub no_digits : (n : ℕ) → n ≡ 0 → decimal n ≡ []
unfolding decimal
no_digits n e = ap decimal e

pub same_digits : (n : ℕ) → n ≢ 0 → number_text n ≡ decimal n
unfolding decimal number_text
same_digits zero unless = absurd (unless refl)
same_digits (suc n) unless = refl

pub none_added : (old : List ℕ) (n : ℕ) → n ≡ 0 → old ≡ old ++ decimal n
none_added old n e = sym (append-nil old) ∙ ap (λ l. old ++ l) (sym (no_digits n e))

pub ruleset digits = (none_added, same_digits)
