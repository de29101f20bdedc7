-- Formulas that the grammar spells, put together.
use Rattle.std.proofs.Common.{List, Some, [], arith, int_le, negsuc, neg_ℤ, pos, refl, suc, true, zero, ◌&&◌, ◌++◌, ◌∷◌, ◌≡◌, ◌≤◌, ℤ}
use Rattle.std.proofs.lemmas.Bool.{and_parts, leb-true, lt-ltb}
use Rattle.jd_base.specs.declared.sort.Sort.TheVariants.{Int as IntSort}
use Rattle.jd_jml_literals.specs.Fitting.{LiteralFits}
use Rattle.jd_model.specs.Conjunctions.{conjunction}
use Rattle.jd_model.specs.WellFormedHeaps.{in_int}
use Rattle.jd_spelled_trees.proofs.Numerals.{integer_is_read}
use Rattle.jd_spelled_trees.proofs.Words.{constant_is_known, literal_is_known}
use Rattle.jd_spelled_trees.specs.Places.{AreSpelled}
use Rattle.jd_spelled_trees.specs.Spelled.{IsSpelled}
use Rattle.jd_syntax.specs.CodeNames.{same_sort}
use Rattle.jd_syntax.specs.Names.{Name}
use Rattle.jd_term.specs.Formulas.{And, Equal, Implies, InInt, Less, LessOrEqual, PlainFormula}
use Rattle.jd_term.specs.Terms.{Constant, Number, PlainTerm, sort_of_term}
use Rattle.jd_tforms.specs.Known.{TermKnown}
use Rattle.jd_tforms.specs.Naming.{constant_of}
use Rattle.jd_tforms.specs.Shapes.{is_below, wide}
use Rattle.jd_tforms.specs.Sorted.{term_sorted}
use Rattle.jd_tgrammar.specs.NameTables.{NameTable}

module _ (names : NameTable) where
  -- an integer that is known under no binder
  abbrev pub IntTerm : PlainTerm → Type 0
  IntTerm t = TermKnown names [] t × (sort_of_term t ≡ IntSort) × (term_sorted t ≡ true)

  -- ---- atoms

  pub in_int_spelled : (t : PlainTerm) → IntTerm t → IsSpelled names (InInt t)
  in_int_spelled t h = (h.0, λ i. same_sort (h.1 i) IntSort && h.2 i)

  pub equal_spelled : (t u : PlainTerm) → IntTerm t → IntTerm u → IsSpelled names (Equal t u)
  equal_spelled t u h g = ((h.0, g.0), λ i. same_sort (h.1 i) (g.1 i) && h.2 i && g.2 i)

  pub less_spelled : (t u : PlainTerm) → IntTerm t → IntTerm u → IsSpelled names (Less t u)
  less_spelled t u h g = ((h.0, g.0), λ i. same_sort (h.1 i) IntSort && same_sort (g.1 i) IntSort && h.2 i && g.2 i)

  pub at_most_spelled : (t u : PlainTerm) → IntTerm t → IntTerm u → IsSpelled names (LessOrEqual t u)
  at_most_spelled t u h g = ((h.0, g.0), λ i. same_sort (h.1 i) IntSort && same_sort (g.1 i) IntSort && h.2 i && g.2 i)

  -- ---- connectives

  pub and_spelled : (a b : PlainFormula) → IsSpelled names a → IsSpelled names b → IsSpelled names (And a b)
  and_spelled a b h g = ((h.0, g.0), λ i. h.1 i && g.1 i)

  pub implies_spelled : (a b : PlainFormula) → IsSpelled names a → IsSpelled names b → IsSpelled names (Implies a b)
  implies_spelled a b h g = ((h.0, g.0), λ i. h.1 i && g.1 i)

  pub conjunction_spelled : (l : List PlainFormula) → AreSpelled names l → IsSpelled names (conjunction l)
  conjunction_spelled [] h = (tt, refl)
  conjunction_spelled (a ∷ []) h = h.0
  conjunction_spelled (a ∷ (b ∷ l)) h = and_spelled a (conjunction (b ∷ l)) h.0 (conjunction_spelled (b ∷ l) h.1)

  pub both_spelled : (l more : List PlainFormula) → AreSpelled names l → AreSpelled names more → AreSpelled names (l ++ more)
  both_spelled [] more h g = g
  both_spelled (a ∷ l) more h g = (h.0, both_spelled l more h.1 g)

  -- ---- leaves

  pub number_known : (z : ℤ) → is_below wide z ≡ true → IntTerm (Number z)
  number_known z e = (literal_is_known names z (integer_is_read z e), refl, refl)

  pub constant_known : (c : Name) → constant_of c.text ≡ Some c → c.sort ≡ IntSort → IntTerm (Constant c)
  constant_known c e s = (constant_is_known names c.text c e, s, refl)

-- ---- integers of 128 bits

pub int_is_wide : (z : ℤ) → in_int z ≡ true → is_below wide z ≡ true
int_is_wide (pos n) e =
    let le : n ≤ 2147483647 = leb-true n 2147483647 (and_parts (int_le (negsuc 2147483647) (pos n)) (int_le (pos n) (pos 2147483647)) e).1 in
    lt-ltb n wide (omega (arith, le))
int_is_wide (negsuc n) e =
    let le : n ≤ 2147483647 = leb-true n 2147483647 (and_parts (int_le (negsuc 2147483647) (negsuc n)) (int_le (negsuc n) (pos 2147483647)) e).0 in
    lt-ltb n wide (omega (arith, le))

pub literal_is_wide : (z : ℤ) → LiteralFits z → is_below wide z ≡ true
literal_is_wide (pos n) le = lt-ltb n wide (omega (arith, le))
literal_is_wide (negsuc n) h = absurd h

pub negated_is_wide : (z : ℤ) → LiteralFits z → is_below wide (neg_ℤ z) ≡ true
negated_is_wide (pos zero) le = refl
negated_is_wide (pos (suc n)) le = lt-ltb n wide (omega (arith, le))
negated_is_wide (negsuc n) h = absurd h
