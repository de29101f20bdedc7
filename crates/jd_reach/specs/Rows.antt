-- Rows of bits, each in so many words of 64 bits.
use Rattle.std.specs.Prelude.{ℕ, ◌+◌, ◌*◌, ◌/◌, ◌%◌, ◌==◌, ◌&&◌, Bool, List, slice_index, nat_lt}
use Rattle.std.specs.Int.{bit_at}

-- whether bit b of row a is set
unfoldable pub row_bit : ℕ → List ℕ → ℕ → ℕ → Bool
row_bit width words a b = bit_at (slice_index words (a * width + b / 64)) (b % 64) == 1

-- these edges, of nodes below the number
abbrev pub within : ℕ → (ℕ → ℕ → Bool) → ℕ → ℕ → Bool
within nodes edges a b = nat_lt a nodes && nat_lt b nodes && edges a b
