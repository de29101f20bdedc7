-- A text has no more tokens than bytes.
use Rattle.std.proofs.Common.{◌≡◌, ℕ, ◌+◌, ◌≤◌, List, [], ◌∷◌, length, arith}
use Rattle.jd_lex.specs.Parts.{Token}
use Rattle.jd_lex.specs.Places.{AreSlices, InOrder}

-- from any place on
few : (bytes : List ℕ) (from : ℕ) (ts : List Token) → from ≤ length bytes → AreSlices bytes ts → InOrder from ts → length ts + from ≤ length bytes
few bytes from [] within slices order = omega (arith, within)
few bytes from (t ∷ ts) within slices order =
    omega (arith, few bytes t.ends ts slices.0.within slices.1 order.2, order.0, order.1)

pub as_few : (bytes : List ℕ) (ts : List Token) (n : ℕ) → length bytes ≤ 1048576 → AreSlices bytes ts → InOrder 0 ts → n ≡ length ts → n ≤ 4294967295
as_few bytes ts n limit slices order is = omega (arith, few bytes 0 ts (omega (arith)) slices order, is, limit)
