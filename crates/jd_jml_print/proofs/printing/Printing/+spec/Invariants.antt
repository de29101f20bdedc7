use Rattle.std.proofs.Common.{◌≡◌, ℕ, List, drop, map, false}
use Rattle.jd_syntax.specs.SpecTrees.{spec_view, specs_of}
use Rattle.jd_jml_print.specs.Writing.{Holds, write_specs}
use Rattle.jd_jml_print.proofs.printing.Printing.+spec.Given as goal

-- what is left is written behind what is written so far
abbrev pub invariant-specs-loop-expr : goal.invariant-specs-loop-expr
invariant-specs-loop-expr l =
    (w : List ℕ) → Holds l.fn.self w
    → (v : List ℕ) × Holds l.out v × (write_specs l.more v (specs_of (map spec_view (drop l.expr-index l.exprs))) ≡ write_specs false w (specs_of (map spec_view l.exprs)))
