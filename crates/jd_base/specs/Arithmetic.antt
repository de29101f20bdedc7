-- Division of integers as Java rounds it, made total (JLS 15.17.2 and 15.17.3).
use Rattle.std.specs.Prelude.{zero, suc, ℤ, pos, negsuc, int_div, int_rem}

-- rounded toward zero; by 0 it is 0
abbrev pub quotient : ℤ → ℤ → ℤ
quotient a (pos zero) = pos 0
quotient a (pos (suc n)) = int_div a (pos (suc n))
quotient a (negsuc n) = int_div a (negsuc n)

-- what the quotient leaves, with the sign of the dividend; by 0 it is the dividend
abbrev pub remainder : ℤ → ℤ → ℤ
remainder a (pos zero) = a
remainder a (pos (suc n)) = int_rem a (pos (suc n))
remainder a (negsuc n) = int_rem a (negsuc n)
