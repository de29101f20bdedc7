-- What is put for an index, and numbers that are computed, in a row's goals.
use Rattle.std.proofs.Common.{Bool, List, Some, arith, false, negsuc, pos, subst, sym, true, ◌∷◌, ◌≡◌, ◌^◌, ℤ}
use Rattle.std.proofs.lemmas.Bool.{and_parts, lt-ltb}
use Rattle.std.proofs.lemmas.Int.{ints}
use Rattle.std.proofs.lemmas.Option.{none-some}
use Rattle.std.specs.Prelude.{int_le, int_lt, neg_ℤ}
use Rattle.jd_base.specs.declared.sort.Sort.{Sort}
use Rattle.jd_base.specs.declared.sort.Sort.TheVariants.{Bool as BoolSort, Field as FieldSort, Heap as HeapSort, Int as IntSort, Ref as RefSort}
use Rattle.jd_schema_instances.specs.Fitting.{FormulaPutFits, TermPutFits}
use Rattle.jd_spelled_trees.proofs.Indices.{sorts_in_formula, sorts_in_term}
use Rattle.jd_spelled_trees.proofs.Leaves.{put_in_formula, put_in_term}
use Rattle.jd_spelled_trees.proofs.Numerals.{integer_is_read}
use Rattle.jd_spelled_trees.proofs.Words.{literal_is_known}
use Rattle.jd_spelled_trees.specs.Spelled.{NarrowFormula, NarrowTerm, SpelledFormula, SpelledTerm}
use Rattle.jd_taclets.specs.Conditions.{IsBoundSort, fits_literal, truth_formula}
use Rattle.jd_term.specs.Formulas.{PlainFormula}
use Rattle.jd_term.specs.Substitutions.{SortsAgree, TermSortsAgree}
use Rattle.jd_term.specs.Terms.{Number, PlainTerm, sort_of_term}
use Rattle.jd_tforms.specs.Naming.{sort_of_word}
use Rattle.jd_tforms.specs.Shapes.{is_below, wide}
use Rattle.jd_tgrammar.specs.NameTables.{NameTable}
use Rattle.jd_tgrammar.specs.Words.{sort_word}

-- ---- puts

module _ (names : NameTable) (s : Sort) (ctx : List Sort) (t : PlainTerm) (is : sort_of_term t ≡ s) (small : NarrowTerm t) where
  pub formula_fits : (a : PlainFormula) → SpelledFormula names (s ∷ ctx) a → NarrowFormula a → FormulaPutFits t a
  formula_fits a h n = (put_in_formula t a small n, subst (λ k. SortsAgree 0 k a) (sym is) (sorts_in_formula names s ctx a h))

  pub term_fits : (u : PlainTerm) → SpelledTerm names (s ∷ ctx) u → NarrowTerm u → TermPutFits t u
  term_fits u h n = (put_in_term t u small n, subst (λ k. TermSortsAgree 0 k u) (sym is) (sorts_in_term names s ctx u h))

-- ---- sorts of quantifiers

-- no heap is quantified
pub quantified_is_bound : (s : Sort) → sort_of_word (sort_word s) ≡ Some s → IsBoundSort s
quantified_is_bound IntSort e = tt
quantified_is_bound BoolSort e = tt
quantified_is_bound RefSort e = tt
quantified_is_bound HeapSort e = none-some HeapSort e
quantified_is_bound FieldSort e = tt

-- ---- numbers and truth values

fits_below : (z : ℤ) → fits_literal z ≡ true → is_below wide z ≡ true
fits_below (pos n) e =
    let h = and_parts (int_le (neg_ℤ (pos (2 ^ 127))) (pos n)) (int_lt (pos n) (pos (2 ^ 127))) e in
    let less = h.1 in
    lt-ltb n wide (omega (arith, ints, less))
fits_below (negsuc n) e =
    let h = and_parts (int_le (neg_ℤ (pos (2 ^ 127))) (negsuc n)) (int_lt (negsuc n) (pos (2 ^ 127))) e in
    let most = h.0 in
    lt-ltb n wide (omega (arith, ints, most))

-- a number that fits is known
pub number_spelled : (names : NameTable) (ctx : List Sort) (z : ℤ) → fits_literal z ≡ true → SpelledTerm names ctx (Number z)
number_spelled names ctx z e = literal_is_known names z (integer_is_read z (fits_below z e))

-- and so what it is equal to
pub computed_spelled : (names : NameTable) (ctx : List Sort) (z y : ℤ) → (z ≡ y) × (fits_literal y ≡ true) → SpelledTerm names ctx (Number z)
computed_spelled names ctx z y c = subst (λ x. SpelledTerm names ctx (Number x)) (sym c.0) (number_spelled names ctx y c.1)

truth_spelled : (names : NameTable) (ctx : List Sort) (b : Bool) → SpelledFormula names ctx (truth_formula b)
truth_spelled names ctx true = tt
truth_spelled names ctx false = tt

pub tested_spelled : (names : NameTable) (ctx : List Sort) (a : PlainFormula) (b : Bool) → a ≡ truth_formula b → SpelledFormula names ctx a
tested_spelled names ctx a b e = subst (SpelledFormula names ctx) (sym e) (truth_spelled names ctx b)
