-- What is spelled part by part is known and sorted, where binders and depth are within a billion.
use Rattle.std.proofs.Common.{List, [], arith, length, max, refl, suc, true, ◌&&◌, ◌+◌, ◌∷◌, ◌≡◌, ◌≤◌, ℕ, subst}
use Rattle.jd_base.specs.declared.sort.Sort.{Sort}
use Rattle.jd_base.specs.declared.sort.Sort.TheVariants.{Bool as BoolSort, Field as FieldSort, Heap as HeapSort, Int as IntSort, Ref as RefSort}
use Rattle.jd_spelled_trees.proofs.Words.{at_length, index_is_known, known_under}
use Rattle.jd_spelled_trees.specs.Spelled.{SpelledFormula, SpelledLoc, SpelledPairs, SpelledTerm}
use Rattle.jd_syntax.specs.CodeNames.{same_sort}
use Rattle.jd_syntax.specs.CodeSizes.{code_depth}
use Rattle.jd_term.specs.Folds.{fold_pairs}
use Rattle.jd_term.specs.Formulas.{And, Equal, Exists, FalseFormula, Forall, Iff, Implies, InInt, InLocations, Invariant, IsExactInstance, IsInstance, Less, LessOrEqual, Modal, Not, Or, TrueFormula, Updated, WellFormed, Pairs, PlainFormula}
use Rattle.jd_term.specs.FormulaSizes.{formula_depth}
use Rattle.jd_term.specs.Terms.{AllLocations, ArrayElements, ElementRange, NoLocations, ObjectFields, Single, Union, PlainLoc, PlainTerm, Anon, Arithmetic, Boolean, Bound, Constant, Create, CreatedField, ElementField, Length, NamedField, Negation, NullTerm, Number, ProgramVariable, Select, Store, Sum, Wrap, sort_of_term}
use Rattle.jd_term.specs.TermSizes.{counted_levels, loc_depth, term_depth}
use Rattle.jd_tforms.specs.Known.{FormulaKnown, LocKnown, PairsKnown, TermKnown}
use Rattle.jd_tforms.specs.Sorted.{formula_sorted, has_sort, loc_sorted, pairs_sorted, term_sorted}
use Rattle.jd_tgrammar.specs.NameTables.{NameTable}
use Rattle.jd_tgrammar.specs.Spelling.{field_word}
use Rattle.jd_written.specs.Written.{integer_text}

-- ---- depths: the binders outside and the depth of a tree are within a billion, and so are those of its parts

abbrev Within : ℕ → ℕ → Type 0
Within c n = c + n ≤ 1000000000

deep_1 : (c m : ℕ) → Within c (1 + m) → Within c m
deep_1 c m l = omega (arith, l)

deep_2 : (c m n : ℕ) → Within c (1 + max m n) → Within c m × Within c n
deep_2 c m n l = (omega (arith, l), omega (arith, l))

deep_3 : (c m n k : ℕ) → Within c (1 + max (max m n) k) → Within c m × Within c n × Within c k
deep_3 c m n k l = (omega (arith, l), omega (arith, l), omega (arith, l))

deep_4 : (c m n k j : ℕ) → Within c (1 + max (max (max m n) k) j) → Within c m × Within c n × Within c k × Within c j
deep_4 c m n k j l = (omega (arith, l), omega (arith, l), omega (arith, l), omega (arith, l))

deep_pair : (c m n : ℕ) → Within c (max m n) → Within c m × Within c n
deep_pair c m n l = (omega (arith, l), omega (arith, l))

deep_behind : (c m n : ℕ) → Within c (1 + max m n) → Within c n
deep_behind c m n l = omega (arith, l)

deep_binder : (c m : ℕ) → Within c (1 + m) → Within (suc c) m
deep_binder c m l = omega (arith, l)

deep_sum : (c m n k : ℕ) → Within c (1 + max (max m n) k) → Within c m × Within c n × Within (suc c) k
deep_sum c m n k l = (omega (arith, l), omega (arith, l), omega (arith, l))

abbrev pairs_depth : Pairs → ℕ
pairs_depth ps = fold_pairs counted_levels ps

-- ---- sorts

same_sorts : (r s : Sort) → r ≡ s → same_sort r s ≡ true
same_sorts r s e = subst (λ k. same_sort r k ≡ true) e (itself r)
  where
    itself : (k : Sort) → same_sort k k ≡ true
    itself IntSort = refl
    itself BoolSort = refl
    itself RefSort = refl
    itself HeapSort = refl
    itself FieldSort = refl

has : (s : Sort) (t : PlainTerm) → sort_of_term t ≡ s → has_sort s t ≡ true
has s t e = same_sorts (sort_of_term t) s e

-- ---- trees

module _ (names : NameTable) where
  mutual
    pub known_term : (ctx : List Sort) (t : PlainTerm) → SpelledTerm names ctx t → Within (length ctx) (term_depth t) → TermKnown names ctx t × (term_sorted t ≡ true)
    known_term ctx (Number z) s l = (known_under names ctx (integer_text z) (Number z) s, refl)
    known_term ctx (Boolean z) s l = (tt, refl)
    known_term ctx NullTerm s l = (tt, refl)
    known_term ctx (ProgramVariable x) s l = (known_under names ctx x.text (ProgramVariable x) s, refl)
    known_term ctx (Constant x) s l = (known_under names ctx x.text (Constant x) s, refl)
    known_term ctx (Bound i r) s l = let below = at_length ctx i r s in (index_is_known names ctx i r s (omega (arith, below, l)), refl)
    known_term ctx (Arithmetic op a b) s l = let g = deep_2 (length ctx) (term_depth a) (term_depth b) l in let x = known_term ctx a s.0.1 g.0 in let y = known_term ctx b s.1.1 g.1 in ((x.0, y.0), λ i. has IntSort a s.0.0 i && x.1 i && has IntSort b s.1.0 i && y.1 i)
    known_term ctx (Negation a) s l = let g = deep_1 (length ctx) (term_depth a) l in let x = known_term ctx a s.1 g in (x.0, λ i. has IntSort a s.0 i && x.1 i)
    known_term ctx (Wrap a) s l = let g = deep_1 (length ctx) (term_depth a) l in let x = known_term ctx a s.1 g in (x.0, λ i. has IntSort a s.0 i && x.1 i)
    known_term ctx (Length a) s l = let g = deep_1 (length ctx) (term_depth a) l in let x = known_term ctx a s.1 g in (x.0, λ i. has RefSort a s.0 i && x.1 i)
    known_term ctx (Select r a b d) s l = let g = deep_3 (length ctx) (term_depth a) (term_depth b) (term_depth d) l in let x = known_term ctx a s.1.1 g.0 in let y = known_term ctx b s.2.1 g.1 in let z = known_term ctx d s.3.1 g.2 in ((s.0, x.0, y.0, z.0), λ i. has HeapSort a s.1.0 i && x.1 i && has RefSort b s.2.0 i && y.1 i && has FieldSort d s.3.0 i && z.1 i)
    known_term ctx (Sum a b d) s l = let g = deep_sum (length ctx) (term_depth a) (term_depth b) (term_depth d) l in let x = known_term ctx a s.0.1 g.0 in let y = known_term ctx b s.1.1 g.1 in let z = known_term (IntSort ∷ ctx) d s.2.1 g.2 in ((x.0, y.0, z.0), λ i. has IntSort a s.0.0 i && x.1 i && has IntSort b s.1.0 i && y.1 i && has IntSort d s.2.0 i && z.1 i)
    known_term ctx (Store a b c d) s l = let g = deep_4 (length ctx) (term_depth a) (term_depth b) (term_depth c) (term_depth d) l in let x = known_term ctx a s.0.1 g.0 in let y = known_term ctx b s.1.1 g.1 in let z = known_term ctx c s.2.1 g.2 in let w = known_term ctx d s.3 g.3 in ((x.0, y.0, z.0, w.0), λ i. has HeapSort a s.0.0 i && x.1 i && has RefSort b s.1.0 i && y.1 i && has FieldSort c s.2.0 i && z.1 i && w.1 i)
    known_term ctx (Create a b) s l = let g = deep_2 (length ctx) (term_depth a) (term_depth b) l in let x = known_term ctx a s.0.1 g.0 in let y = known_term ctx b s.1.1 g.1 in ((x.0, y.0), λ i. has HeapSort a s.0.0 i && x.1 i && has RefSort b s.1.0 i && y.1 i)
    known_term ctx (Anon a n d) s l = let g = deep_3 (length ctx) (term_depth a) (loc_depth n) (term_depth d) l in let x = known_term ctx a s.0.1 g.0 in let y = known_loc ctx n s.1 g.1 in let z = known_term ctx d s.2.1 g.2 in ((x.0, y.0, z.0), λ i. has HeapSort a s.0.0 i && x.1 i && y.1 i && has HeapSort d s.2.0 i && z.1 i)
    known_term ctx (NamedField f) s l = (known_under names ctx (field_word names f) (NamedField f) s, refl)
    known_term ctx CreatedField s l = (tt, refl)
    known_term ctx (ElementField a) s l = let g = deep_1 (length ctx) (term_depth a) l in let x = known_term ctx a s.1 g in (x.0, λ i. has IntSort a s.0 i && x.1 i)

    pub known_loc : (ctx : List Sort) (t : PlainLoc) → SpelledLoc names ctx t → Within (length ctx) (loc_depth t) → LocKnown names ctx t × (loc_sorted t ≡ true)
    known_loc ctx NoLocations s l = (tt, refl)
    known_loc ctx AllLocations s l = (tt, refl)
    known_loc ctx (Single a b) s l = let g = deep_2 (length ctx) (term_depth a) (term_depth b) l in let x = known_term ctx a s.0.1 g.0 in let y = known_term ctx b s.1.1 g.1 in ((x.0, y.0), λ i. has RefSort a s.0.0 i && x.1 i && has FieldSort b s.1.0 i && y.1 i)
    known_loc ctx (ObjectFields a) s l = let g = deep_1 (length ctx) (term_depth a) l in let x = known_term ctx a s.1 g in (x.0, λ i. has RefSort a s.0 i && x.1 i)
    known_loc ctx (ArrayElements a) s l = let g = deep_1 (length ctx) (term_depth a) l in let x = known_term ctx a s.1 g in (x.0, λ i. has RefSort a s.0 i && x.1 i)
    known_loc ctx (ElementRange a b d) s l = let g = deep_3 (length ctx) (term_depth a) (term_depth b) (term_depth d) l in let x = known_term ctx a s.0.1 g.0 in let y = known_term ctx b s.1.1 g.1 in let z = known_term ctx d s.2.1 g.2 in ((x.0, y.0, z.0), λ i. has RefSort a s.0.0 i && x.1 i && has IntSort b s.1.0 i && y.1 i && has IntSort d s.2.0 i && z.1 i)
    known_loc ctx (Union m n) s l = let g = deep_2 (length ctx) (loc_depth m) (loc_depth n) l in let x = known_loc ctx m s.0 g.0 in let y = known_loc ctx n s.1 g.1 in ((x.0, y.0), λ i. x.1 i && y.1 i)

  known_pairs : (ctx : List Sort) (ps : Pairs) → SpelledPairs names ctx ps → Within (length ctx) (pairs_depth ps) → PairsKnown names ctx ps × (pairs_sorted names ps ≡ true)
  known_pairs ctx [] s l = (tt, refl)
  known_pairs ctx (p ∷ ps) s l =
      let g = deep_pair (length ctx) (term_depth p.1) (pairs_depth ps) l in
      let x = known_term ctx p.1 s.0.1.1 g.0 in
      let y = known_pairs ctx ps s.1 g.1 in
      (((s.0.0, x.0), y.0), λ i. has p.0.sort p.1 s.0.1.0 i && x.1 i && y.1 i)

  pub known_formula : (ctx : List Sort) (a : PlainFormula) → SpelledFormula names ctx a → Within (length ctx) (formula_depth a) → FormulaKnown names ctx a × (formula_sorted names a ≡ true)
  known_formula ctx TrueFormula s l = (tt, refl)
  known_formula ctx FalseFormula s l = (tt, refl)
  known_formula ctx (Not a) s l = let g = deep_1 (length ctx) (formula_depth a) l in let x = known_formula ctx a s g in (x.0, x.1)
  known_formula ctx (And a b) s l = let g = deep_2 (length ctx) (formula_depth a) (formula_depth b) l in let x = known_formula ctx a s.0 g.0 in let y = known_formula ctx b s.1 g.1 in ((x.0, y.0), λ i. x.1 i && y.1 i)
  known_formula ctx (Or a b) s l = let g = deep_2 (length ctx) (formula_depth a) (formula_depth b) l in let x = known_formula ctx a s.0 g.0 in let y = known_formula ctx b s.1 g.1 in ((x.0, y.0), λ i. x.1 i && y.1 i)
  known_formula ctx (Implies a b) s l = let g = deep_2 (length ctx) (formula_depth a) (formula_depth b) l in let x = known_formula ctx a s.0 g.0 in let y = known_formula ctx b s.1 g.1 in ((x.0, y.0), λ i. x.1 i && y.1 i)
  known_formula ctx (Iff a b) s l = let g = deep_2 (length ctx) (formula_depth a) (formula_depth b) l in let x = known_formula ctx a s.0 g.0 in let y = known_formula ctx b s.1 g.1 in ((x.0, y.0), λ i. x.1 i && y.1 i)
  known_formula ctx (Equal a b) s l = let g = deep_2 (length ctx) (term_depth a) (term_depth b) l in let x = known_term ctx a s.1 g.0 in let y = known_term ctx b s.2 g.1 in ((x.0, y.0), λ i. same_sorts (sort_of_term a) (sort_of_term b) s.0 i && x.1 i && y.1 i)
  known_formula ctx (Less a b) s l = let g = deep_2 (length ctx) (term_depth a) (term_depth b) l in let x = known_term ctx a s.0.1 g.0 in let y = known_term ctx b s.1.1 g.1 in ((x.0, y.0), λ i. has IntSort a s.0.0 i && has IntSort b s.1.0 i && x.1 i && y.1 i)
  known_formula ctx (LessOrEqual a b) s l = let g = deep_2 (length ctx) (term_depth a) (term_depth b) l in let x = known_term ctx a s.0.1 g.0 in let y = known_term ctx b s.1.1 g.1 in ((x.0, y.0), λ i. has IntSort a s.0.0 i && has IntSort b s.1.0 i && x.1 i && y.1 i)
  known_formula ctx (Forall r a) s l = let g = deep_binder (length ctx) (formula_depth a) l in let x = known_formula (r ∷ ctx) a s.1 g in ((s.0, x.0), x.1)
  known_formula ctx (Exists r a) s l = let g = deep_binder (length ctx) (formula_depth a) l in let x = known_formula (r ∷ ctx) a s.1 g in ((s.0, x.0), x.1)
  known_formula ctx (Updated ps a) s l = let g = deep_2 (length ctx) (pairs_depth ps) (formula_depth a) l in let x = known_pairs ctx ps s.1 g.0 in let y = known_formula ctx a s.2 g.1 in ((s.0, x.0, y.0), λ i. x.1 i && y.1 i)
  known_formula ctx (Modal m ss a) s l = let g = deep_behind (length ctx) (code_depth ss) (formula_depth a) l in let x = known_formula ctx a s.2 g in ((s.0, x.0), λ i. s.1 i && x.1 i)
  known_formula ctx (InLocations a b n) s l = let g = deep_3 (length ctx) (term_depth a) (term_depth b) (loc_depth n) l in let x = known_term ctx a s.0.1 g.0 in let y = known_term ctx b s.1.1 g.1 in let z = known_loc ctx n s.2 g.2 in ((x.0, y.0, z.0), λ i. has RefSort a s.0.0 i && has FieldSort b s.1.0 i && x.1 i && y.1 i && z.1 i)
  known_formula ctx (InInt a) s l = let g = deep_1 (length ctx) (term_depth a) l in let x = known_term ctx a s.1 g in (x.0, λ i. has IntSort a s.0 i && x.1 i)
  known_formula ctx (WellFormed a) s l = let g = deep_1 (length ctx) (term_depth a) l in let x = known_term ctx a s.1 g in (x.0, λ i. has HeapSort a s.0 i && x.1 i)
  known_formula ctx (Invariant a b) s l = let g = deep_2 (length ctx) (term_depth a) (term_depth b) l in let x = known_term ctx a s.0.1 g.0 in let y = known_term ctx b s.1.1 g.1 in ((x.0, y.0), λ i. has HeapSort a s.0.0 i && has RefSort b s.1.0 i && x.1 i && y.1 i)
  known_formula ctx (IsInstance j a) s l = let g = deep_1 (length ctx) (term_depth a) l in let x = known_term ctx a s.1.1 g in ((s.0, x.0), λ i. has RefSort a s.1.0 i && x.1 i)
  known_formula ctx (IsExactInstance j a) s l = let g = deep_1 (length ctx) (term_depth a) l in let x = known_term ctx a s.1.1 g in ((s.0, x.0), λ i. has RefSort a s.1.0 i && x.1 i)
