use Rattle.std.proofs.Common.{vec_len, ◌≡◌}
use Rattle.jd_syntax.specs.SpecTrees.{PlainSpec}
use Rattle.jd_jml_values.specs.Views.{Gives, backwards, boxed_view, suffix_view}
use Rattle.jd_jml_expressions.specs.Applying as plain
use Rattle.jd_jml_expressions.proofs.applying.all_applied.Given as goal

-- what is made, with what is left behind it, is the operand with all that stood behind it
abbrev pub invariant-loop-suffix : goal.invariant-loop-suffix
invariant-loop-suffix l = (x : PlainSpec) → Gives boxed_view l.fn.e x → (y : PlainSpec) × Gives boxed_view l.e y × (plain.all_applied y (backwards suffix_view l.suffixes) ≡ plain.all_applied x (backwards suffix_view l.fn.suffixes))

abbrev pub decreases-loop-suffix : goal.decreases-loop-suffix
decreases-loop-suffix l = vec_len l.suffixes
