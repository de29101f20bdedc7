-- What is known and sorted is spelled, part by part; and an index that is known has nine digits at most.
use Rattle.std.proofs.Common.{Bool, List, [], refl, sym, true, true≢false, ◌&&◌, ◌∷◌, ◌≡◌, ℕ}
use Rattle.std.proofs.lemmas.Bool.{and_parts}
use Rattle.std.proofs.lemmas.List.Elements.{All-cons, All-nil}
use Rattle.jd_base.specs.declared.sort.Sort.{Sort}
use Rattle.jd_base.specs.declared.sort.Sort.TheVariants.{Bool as BoolSort, Field as FieldSort, Heap as HeapSort, Int as IntSort, Ref as RefSort}
use Rattle.jd_spelled_trees.proofs.Words.{index_known, known_under_none}
use Rattle.jd_spelled_trees.specs.Spelled.{NarrowFormula, NarrowLeaf, NarrowLoc, NarrowPairs, NarrowTerm, SpelledFormula, SpelledLoc, SpelledPairs, SpelledTerm}
use Rattle.jd_syntax.specs.CodeNames.{same_sort}
use Rattle.jd_syntax.specs.Names.{Name}
use Rattle.jd_term.specs.Formulas.{And, Equal, Exists, FalseFormula, Forall, Iff, Implies, InInt, InLocations, Invariant, IsExactInstance, IsInstance, Less, LessOrEqual, Modal, Not, Or, TrueFormula, Updated, WellFormed, Pairs, PlainFormula}
use Rattle.jd_term.specs.Maps.{EachLeaf}
use Rattle.jd_term.specs.Terms.{AllLocations, ArrayElements, ElementRange, NoLocations, ObjectFields, Single, Union, PlainLoc, PlainTerm, Anon, Arithmetic, Boolean, Bound, Constant, Create, CreatedField, ElementField, Length, NamedField, Negation, NullTerm, Number, ProgramVariable, Select, Store, Sum, Wrap, sort_of_term}
use Rattle.jd_tforms.specs.Known.{FormulaKnown, LocKnown, PairsKnown, TermKnown}
use Rattle.jd_tforms.specs.Sorted.{Free, code_sorted, formula_sorted, has_sort, loc_sorted, pairs_sorted, term_sorted}
use Rattle.jd_tgrammar.specs.NameTables.{NameTable}
use Rattle.jd_tgrammar.specs.Spelling.{field_word}
use Rattle.jd_written.specs.Written.{integer_text}

-- ---- tests

all_2 : (a b : Bool) → (a && b) ≡ true → (a ≡ true) × (b ≡ true)
all_2 a b h = and_parts a b h

all_3 : (a b c : Bool) → (a && b && c) ≡ true → (a ≡ true) × (b ≡ true) × (c ≡ true)
all_3 a b c h = let x = and_parts (a && b) c h in let y = all_2 a b x.0 in (y.0, y.1, x.1)

all_4 : (a b c d : Bool) → (a && b && c && d) ≡ true → (a ≡ true) × (b ≡ true) × (c ≡ true) × (d ≡ true)
all_4 a b c d h = let x = and_parts (a && b && c) d h in let y = all_3 a b c x.0 in (y.0, y.1, y.2, x.1)

all_5 : (a b c d e : Bool) → (a && b && c && d && e) ≡ true → (a ≡ true) × (b ≡ true) × (c ≡ true) × (d ≡ true) × (e ≡ true)
all_5 a b c d e h = let x = and_parts (a && b && c && d) e h in let y = all_4 a b c d x.0 in (y.0, y.1, y.2, y.3, x.1)

all_6 : (a b c d e f : Bool) → (a && b && c && d && e && f) ≡ true → (a ≡ true) × (b ≡ true) × (c ≡ true) × (d ≡ true) × (e ≡ true) × (f ≡ true)
all_6 a b c d e f h = let x = and_parts (a && b && c && d && e) f h in let y = all_5 a b c d e x.0 in (y.0, y.1, y.2, y.3, y.4, x.1)

all_7 : (a b c d e f g : Bool) → (a && b && c && d && e && f && g) ≡ true → (a ≡ true) × (b ≡ true) × (c ≡ true) × (d ≡ true) × (e ≡ true) × (f ≡ true) × (g ≡ true)
all_7 a b c d e f g h = let x = and_parts (a && b && c && d && e && f) g h in let y = all_6 a b c d e f x.0 in (y.0, y.1, y.2, y.3, y.4, y.5, x.1)

sorts_are_one : (r s : Sort) → same_sort r s ≡ true → r ≡ s
sorts_are_one IntSort IntSort e = refl
sorts_are_one BoolSort BoolSort e = refl
sorts_are_one RefSort RefSort e = refl
sorts_are_one HeapSort HeapSort e = refl
sorts_are_one FieldSort FieldSort e = refl
sorts_are_one _ _ e = absurd (true≢false (sym e))

of_sort : (s : Sort) (t : PlainTerm) → has_sort s t ≡ true → sort_of_term t ≡ s
of_sort s t e = sorts_are_one (sort_of_term t) s e

module _ (names : NameTable) where
  -- ---- what is known and sorted

  mutual
    pub spelled_term : (ctx : List Sort) (t : PlainTerm) → TermKnown names ctx t → term_sorted t ≡ true → SpelledTerm names ctx t
    spelled_term ctx (Number z) k e = known_under_none names ctx (integer_text z) (Number z) tt k
    spelled_term ctx (Boolean z) k e = tt
    spelled_term ctx NullTerm k e = tt
    spelled_term ctx (ProgramVariable x) k e = known_under_none names ctx x.text (ProgramVariable x) tt k
    spelled_term ctx (Constant x) k e = known_under_none names ctx x.text (Constant x) tt k
    spelled_term ctx (Bound i s) k e = (index_known names ctx i s k).0
    spelled_term ctx (Arithmetic op a b) k e = let h = all_4 (has_sort IntSort a) (term_sorted a) (has_sort IntSort b) (term_sorted b) e in ((of_sort IntSort a h.0, spelled_term ctx a k.0 h.1), (of_sort IntSort b h.2, spelled_term ctx b k.1 h.3))
    spelled_term ctx (Negation a) k e = let h = all_2 (has_sort IntSort a) (term_sorted a) e in (of_sort IntSort a h.0, spelled_term ctx a k h.1)
    spelled_term ctx (Wrap a) k e = let h = all_2 (has_sort IntSort a) (term_sorted a) e in (of_sort IntSort a h.0, spelled_term ctx a k h.1)
    spelled_term ctx (Length a) k e = let h = all_2 (has_sort RefSort a) (term_sorted a) e in (of_sort RefSort a h.0, spelled_term ctx a k h.1)
    spelled_term ctx (Select s a b d) k e = let h = all_6 (has_sort HeapSort a) (term_sorted a) (has_sort RefSort b) (term_sorted b) (has_sort FieldSort d) (term_sorted d) e in (k.0, (of_sort HeapSort a h.0, spelled_term ctx a k.1 h.1), (of_sort RefSort b h.2, spelled_term ctx b k.2 h.3), (of_sort FieldSort d h.4, spelled_term ctx d k.3 h.5))
    spelled_term ctx (Sum a b d) k e = let h = all_6 (has_sort IntSort a) (term_sorted a) (has_sort IntSort b) (term_sorted b) (has_sort IntSort d) (term_sorted d) e in ((of_sort IntSort a h.0, spelled_term ctx a k.0 h.1), (of_sort IntSort b h.2, spelled_term ctx b k.1 h.3), (of_sort IntSort d h.4, spelled_term (IntSort ∷ ctx) d k.2 h.5))
    spelled_term ctx (Store a b c d) k e = let h = all_7 (has_sort HeapSort a) (term_sorted a) (has_sort RefSort b) (term_sorted b) (has_sort FieldSort c) (term_sorted c) (term_sorted d) e in ((of_sort HeapSort a h.0, spelled_term ctx a k.0 h.1), (of_sort RefSort b h.2, spelled_term ctx b k.1 h.3), (of_sort FieldSort c h.4, spelled_term ctx c k.2 h.5), spelled_term ctx d k.3 h.6)
    spelled_term ctx (Create a b) k e = let h = all_4 (has_sort HeapSort a) (term_sorted a) (has_sort RefSort b) (term_sorted b) e in ((of_sort HeapSort a h.0, spelled_term ctx a k.0 h.1), (of_sort RefSort b h.2, spelled_term ctx b k.1 h.3))
    spelled_term ctx (Anon a l d) k e = let h = all_5 (has_sort HeapSort a) (term_sorted a) (loc_sorted l) (has_sort HeapSort d) (term_sorted d) e in ((of_sort HeapSort a h.0, spelled_term ctx a k.0 h.1), spelled_loc ctx l k.1 h.2, (of_sort HeapSort d h.3, spelled_term ctx d k.2 h.4))
    spelled_term ctx (NamedField f) k e = known_under_none names ctx (field_word names f) (NamedField f) tt k
    spelled_term ctx CreatedField k e = tt
    spelled_term ctx (ElementField a) k e = let h = all_2 (has_sort IntSort a) (term_sorted a) e in (of_sort IntSort a h.0, spelled_term ctx a k h.1)

    pub spelled_loc : (ctx : List Sort) (l : PlainLoc) → LocKnown names ctx l → loc_sorted l ≡ true → SpelledLoc names ctx l
    spelled_loc ctx NoLocations k e = tt
    spelled_loc ctx AllLocations k e = tt
    spelled_loc ctx (Single a b) k e = let h = all_4 (has_sort RefSort a) (term_sorted a) (has_sort FieldSort b) (term_sorted b) e in ((of_sort RefSort a h.0, spelled_term ctx a k.0 h.1), (of_sort FieldSort b h.2, spelled_term ctx b k.1 h.3))
    spelled_loc ctx (ObjectFields a) k e = let h = all_2 (has_sort RefSort a) (term_sorted a) e in (of_sort RefSort a h.0, spelled_term ctx a k h.1)
    spelled_loc ctx (ArrayElements a) k e = let h = all_2 (has_sort RefSort a) (term_sorted a) e in (of_sort RefSort a h.0, spelled_term ctx a k h.1)
    spelled_loc ctx (ElementRange a b d) k e = let h = all_6 (has_sort RefSort a) (term_sorted a) (has_sort IntSort b) (term_sorted b) (has_sort IntSort d) (term_sorted d) e in ((of_sort RefSort a h.0, spelled_term ctx a k.0 h.1), (of_sort IntSort b h.2, spelled_term ctx b k.1 h.3), (of_sort IntSort d h.4, spelled_term ctx d k.2 h.5))
    spelled_loc ctx (Union l m) k e = let h = all_2 (loc_sorted l) (loc_sorted m) e in (spelled_loc ctx l k.0 h.0, spelled_loc ctx m k.1 h.1)

  spelled_pairs : (ctx : List Sort) (ps : Pairs) → PairsKnown names ctx ps → pairs_sorted names ps ≡ true → SpelledPairs names ctx ps
  spelled_pairs ctx [] k e = tt
  spelled_pairs ctx (p ∷ ps) k e = let h = all_3 (has_sort p.0.sort p.1) (term_sorted p.1) (pairs_sorted names ps) e in ((k.0.0, (of_sort p.0.sort p.1 h.0, spelled_term ctx p.1 k.0.1 h.1)), spelled_pairs ctx ps k.1 h.2)

  pub spelled_formula : (ctx : List Sort) (a : PlainFormula) → FormulaKnown names ctx a → formula_sorted names a ≡ true → SpelledFormula names ctx a
  spelled_formula ctx TrueFormula k e = tt
  spelled_formula ctx FalseFormula k e = tt
  spelled_formula ctx (Not a) k e = spelled_formula ctx a k e
  spelled_formula ctx (And a b) k e = let h = all_2 (formula_sorted names a) (formula_sorted names b) e in (spelled_formula ctx a k.0 h.0, spelled_formula ctx b k.1 h.1)
  spelled_formula ctx (Or a b) k e = let h = all_2 (formula_sorted names a) (formula_sorted names b) e in (spelled_formula ctx a k.0 h.0, spelled_formula ctx b k.1 h.1)
  spelled_formula ctx (Implies a b) k e = let h = all_2 (formula_sorted names a) (formula_sorted names b) e in (spelled_formula ctx a k.0 h.0, spelled_formula ctx b k.1 h.1)
  spelled_formula ctx (Iff a b) k e = let h = all_2 (formula_sorted names a) (formula_sorted names b) e in (spelled_formula ctx a k.0 h.0, spelled_formula ctx b k.1 h.1)
  spelled_formula ctx (Equal a b) k e = let h = all_3 (same_sort (sort_of_term a) (sort_of_term b)) (term_sorted a) (term_sorted b) e in (sorts_are_one (sort_of_term a) (sort_of_term b) h.0, spelled_term ctx a k.0 h.1, spelled_term ctx b k.1 h.2)
  spelled_formula ctx (Less a b) k e = let h = all_4 (has_sort IntSort a) (has_sort IntSort b) (term_sorted a) (term_sorted b) e in ((of_sort IntSort a h.0, spelled_term ctx a k.0 h.2), (of_sort IntSort b h.1, spelled_term ctx b k.1 h.3))
  spelled_formula ctx (LessOrEqual a b) k e = let h = all_4 (has_sort IntSort a) (has_sort IntSort b) (term_sorted a) (term_sorted b) e in ((of_sort IntSort a h.0, spelled_term ctx a k.0 h.2), (of_sort IntSort b h.1, spelled_term ctx b k.1 h.3))
  spelled_formula ctx (Forall s a) k e = (k.0, spelled_formula (s ∷ ctx) a k.1 e)
  spelled_formula ctx (Exists s a) k e = (k.0, spelled_formula (s ∷ ctx) a k.1 e)
  spelled_formula ctx (Updated ps a) k e = let h = all_2 (pairs_sorted names ps) (formula_sorted names a) e in (k.0, spelled_pairs ctx ps k.1 h.0, spelled_formula ctx a k.2 h.1)
  spelled_formula ctx (Modal m ss a) k e = let h = all_2 (code_sorted names Free ss) (formula_sorted names a) e in (k.0, h.0, spelled_formula ctx a k.1 h.1)
  spelled_formula ctx (InLocations a b l) k e = let h = all_5 (has_sort RefSort a) (has_sort FieldSort b) (term_sorted a) (term_sorted b) (loc_sorted l) e in ((of_sort RefSort a h.0, spelled_term ctx a k.0 h.2), (of_sort FieldSort b h.1, spelled_term ctx b k.1 h.3), spelled_loc ctx l k.2 h.4)
  spelled_formula ctx (InInt a) k e = let h = all_2 (has_sort IntSort a) (term_sorted a) e in (of_sort IntSort a h.0, spelled_term ctx a k h.1)
  spelled_formula ctx (WellFormed a) k e = let h = all_2 (has_sort HeapSort a) (term_sorted a) e in (of_sort HeapSort a h.0, spelled_term ctx a k h.1)
  spelled_formula ctx (Invariant a b) k e = let h = all_4 (has_sort HeapSort a) (has_sort RefSort b) (term_sorted a) (term_sorted b) e in ((of_sort HeapSort a h.0, spelled_term ctx a k.0 h.2), (of_sort RefSort b h.1, spelled_term ctx b k.1 h.3))
  spelled_formula ctx (IsInstance j a) k e = let h = all_2 (has_sort RefSort a) (term_sorted a) e in (k.0, (of_sort RefSort a h.0, spelled_term ctx a k.1 h.1))
  spelled_formula ctx (IsExactInstance j a) k e = let h = all_2 (has_sort RefSort a) (term_sorted a) e in (k.0, (of_sort RefSort a h.0, spelled_term ctx a k.1 h.1))

  -- ---- what is known has narrow indices

  mutual
    pub narrow_term : (ctx : List Sort) (t : PlainTerm) → TermKnown names ctx t → NarrowTerm t
    narrow_term ctx (Number z) k = tt
    narrow_term ctx (Boolean z) k = tt
    narrow_term ctx NullTerm k = tt
    narrow_term ctx (ProgramVariable x) k = tt
    narrow_term ctx (Constant x) k = tt
    narrow_term ctx (Bound i s) k = (index_known names ctx i s k).1
    narrow_term ctx (Arithmetic op a b) k = (narrow_term ctx a k.0, narrow_term ctx b k.1)
    narrow_term ctx (Negation a) k = narrow_term ctx a k
    narrow_term ctx (Wrap a) k = narrow_term ctx a k
    narrow_term ctx (Length a) k = narrow_term ctx a k
    narrow_term ctx (Select s a b d) k = (narrow_term ctx a k.1, narrow_term ctx b k.2, narrow_term ctx d k.3)
    narrow_term ctx (Sum a b d) k = (narrow_term ctx a k.0, narrow_term ctx b k.1, narrow_term (IntSort ∷ ctx) d k.2)
    narrow_term ctx (Store a b c d) k = (narrow_term ctx a k.0, narrow_term ctx b k.1, narrow_term ctx c k.2, narrow_term ctx d k.3)
    narrow_term ctx (Create a b) k = (narrow_term ctx a k.0, narrow_term ctx b k.1)
    narrow_term ctx (Anon a l d) k = (narrow_term ctx a k.0, narrow_loc ctx l k.1, narrow_term ctx d k.2)
    narrow_term ctx (NamedField f) k = tt
    narrow_term ctx CreatedField k = tt
    narrow_term ctx (ElementField a) k = narrow_term ctx a k

    pub narrow_loc : (ctx : List Sort) (l : PlainLoc) → LocKnown names ctx l → NarrowLoc l
    narrow_loc ctx NoLocations k = tt
    narrow_loc ctx AllLocations k = tt
    narrow_loc ctx (Single a b) k = (narrow_term ctx a k.0, narrow_term ctx b k.1)
    narrow_loc ctx (ObjectFields a) k = narrow_term ctx a k
    narrow_loc ctx (ArrayElements a) k = narrow_term ctx a k
    narrow_loc ctx (ElementRange a b d) k = (narrow_term ctx a k.0, narrow_term ctx b k.1, narrow_term ctx d k.2)
    narrow_loc ctx (Union l m) k = (narrow_loc ctx l k.0, narrow_loc ctx m k.1)

  narrow_pairs : (ctx : List Sort) (ps : Pairs) → PairsKnown names ctx ps → NarrowPairs ps
  narrow_pairs ctx [] k = All-nil (λ (p : Name × PlainTerm). EachLeaf (λ (n : ℕ). n) NarrowLeaf 0 p.1)
  narrow_pairs ctx (p ∷ ps) k = All-cons (λ (q : Name × PlainTerm). EachLeaf (λ (n : ℕ). n) NarrowLeaf 0 q.1) p ps (narrow_term ctx p.1 k.0.1) (narrow_pairs ctx ps k.1)

  pub narrow_formula : (ctx : List Sort) (a : PlainFormula) → FormulaKnown names ctx a → NarrowFormula a
  narrow_formula ctx TrueFormula k = tt
  narrow_formula ctx FalseFormula k = tt
  narrow_formula ctx (Not a) k = narrow_formula ctx a k
  narrow_formula ctx (And a b) k = (narrow_formula ctx a k.0, narrow_formula ctx b k.1)
  narrow_formula ctx (Or a b) k = (narrow_formula ctx a k.0, narrow_formula ctx b k.1)
  narrow_formula ctx (Implies a b) k = (narrow_formula ctx a k.0, narrow_formula ctx b k.1)
  narrow_formula ctx (Iff a b) k = (narrow_formula ctx a k.0, narrow_formula ctx b k.1)
  narrow_formula ctx (Equal a b) k = (narrow_term ctx a k.0, narrow_term ctx b k.1)
  narrow_formula ctx (Less a b) k = (narrow_term ctx a k.0, narrow_term ctx b k.1)
  narrow_formula ctx (LessOrEqual a b) k = (narrow_term ctx a k.0, narrow_term ctx b k.1)
  narrow_formula ctx (Forall s a) k = narrow_formula (s ∷ ctx) a k.1
  narrow_formula ctx (Exists s a) k = narrow_formula (s ∷ ctx) a k.1
  narrow_formula ctx (Updated ps a) k = (narrow_pairs ctx ps k.1, narrow_formula ctx a k.2)
  narrow_formula ctx (Modal m ss a) k = narrow_formula ctx a k.1
  narrow_formula ctx (InLocations a b l) k = (narrow_term ctx a k.0, narrow_term ctx b k.1, narrow_loc ctx l k.2)
  narrow_formula ctx (InInt a) k = narrow_term ctx a k
  narrow_formula ctx (WellFormed a) k = narrow_term ctx a k
  narrow_formula ctx (Invariant a b) k = (narrow_term ctx a k.0, narrow_term ctx b k.1)
  narrow_formula ctx (IsInstance j a) k = narrow_term ctx a k.1
  narrow_formula ctx (IsExactInstance j a) k = narrow_term ctx a k.1
