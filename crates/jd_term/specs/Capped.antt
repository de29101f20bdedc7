-- Sizes and depths in 64 bits.
use Rattle.std.specs.Prelude.{ℕ, ◌+◌, ◌-◌, ◌^◌, max, min}
use Rattle.jd_syntax.specs.CodeSizes.{code_depth, code_size}
use Rattle.jd_term.specs.Folds.{Gathering}

-- as `counted_trees`, and at most the greatest number of 64 bits
abbrev pub capped_trees : Gathering ℕ
capped_trees = record {
  none = 0;
  join = λ a b. min (a + b) (2 ^ 64 - 1);
  term = λ t inside. min (inside + 1) (2 ^ 64 - 1);
  loc = λ l inside. min (inside + 1) (2 ^ 64 - 1);
  formula = λ f inside. min (inside + 1) (2 ^ 64 - 1);
  pair = λ x inside. inside;
  code = λ c. min (code_size c) (2 ^ 64 - 1);
}

-- as `counted_levels`, and at most the greatest number of 64 bits
abbrev pub capped_levels : Gathering ℕ
capped_levels = record {
  none = 0;
  join = λ a b. max a b;
  term = λ t inside. min (inside + 1) (2 ^ 64 - 1);
  loc = λ l inside. min (inside + 1) (2 ^ 64 - 1);
  formula = λ f inside. min (inside + 1) (2 ^ 64 - 1);
  pair = λ x inside. inside;
  code = λ c. min (code_depth c) (2 ^ 64 - 1);
}
