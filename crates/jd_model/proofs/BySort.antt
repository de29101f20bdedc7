-- Where the index has the sort of the term, and none of heaps, both substitutions are one.
use Rattle.std.proofs.Common.{Bool, true, false, cond, if◌then◌else◌, nat_lt, ◌≡◌, ◌≢◌, ◌∙◌, refl, sym, ap, ℕ, ◌+◌, ◌-◌, [], ◌∷◌, zero-add, arith}
use Rattle.std.proofs.lemmas.Bool.{ltb-false}
use Rattle.std.proofs.lemmas.List.Elements.{All-head, All-tail}
use Rattle.jd_base.specs.declared.sort.Sort.{Sort}
use Rattle.jd_base.specs.declared.sort.Sort.TheVariants.{Int as IntSort, Bool as BoolSort, Ref as RefSort, Heap as HeapSort, Field as FieldSort}
use Rattle.jd_heap.specs.Codings.{same_decides, same}
use Rattle.jd_model.specs.NameCodings.{sort_coding}
use Rattle.jd_model.specs.Substitutions.{fitted, plain_term, put_index, subst_term, subst_loc, subst_pairs, subst_formula}
use Rattle.jd_term.specs.Formulas.{Pairs, PlainFormula, TrueFormula, FalseFormula, Not, And, Or, Implies, Iff, Equal, Less, LessOrEqual, Forall, Exists, Updated, Modal, InLocations, InInt, WellFormed, Invariant, IsInstance, IsExactInstance}
use Rattle.jd_term.specs.Shifts.{term_shift}
use Rattle.jd_term.specs.Substitutions.{LocSortsAgree, PairsSortsAgree, SortsAgree, TermSortsAgree, formula_subst, index_subst, loc_subst, pairs_subst, term_subst}
use Rattle.jd_term.specs.Terms.{PlainTerm, sort_of_term, Number, Boolean, NullTerm, ProgramVariable, Constant, Bound, Arithmetic, Negation, Wrap, Length, Select, Sum, Store, Create, Anon, NamedField, CreatedField, ElementField, PlainLoc, NoLocations, AllLocations, Single, ObjectFields, ArrayElements, ElementRange, Union}

module _ (t : PlainTerm) (other : sort_of_term t ≢ HeapSort) where
  chosen : (n : ℕ) (s : Sort) → s ≡ sort_of_term t → cond (same sort_coding s (sort_of_term t)) (term_shift 0 n t) (plain_term s) ≡ term_shift 0 n t
  chosen n s e = ap (λ b. cond b (term_shift 0 n t) (plain_term s)) ((same_decides sort_coding s (sort_of_term t)).1 e)

  fitted_same : (n : ℕ) (s : Sort) → s ≡ sort_of_term t → term_shift 0 n t ≡ fitted n s t
  fitted_same n IntSort e = sym (chosen n IntSort e)
  fitted_same n BoolSort e = sym (chosen n BoolSort e)
  fitted_same n RefSort e = sym (chosen n RefSort e)
  fitted_same n FieldSort e = sym (chosen n FieldSort e)
  fitted_same n HeapSort e = absurd (other (sym e))

  index_same : (n k : ℕ) (s : Sort) → (k ≡ n → s ≡ sort_of_term t) → index_subst n 0 t k s ≡ put_index n t k s
  index_same n k s agree = ap (λ m. if nat_lt k m then Bound k s else (if nat_lt m k then Bound (k - 1) s else term_shift 0 n t)) (zero-add n) ∙ by (nat_lt k n) (nat_lt n k) refl refl
    where
      by : (a b : Bool) → nat_lt k n ≡ a → nat_lt n k ≡ b → (if a then Bound k s else (if b then Bound (k - 1) s else term_shift 0 n t)) ≡ (if a then Bound k s else (if b then Bound (k - 1) s else fitted n s t))
      by true b p q = refl
      by false true p q = refl
      by false false p q = let low = ltb-false k n p in let high = ltb-false n k q in fitted_same n s (agree (omega arith))

  mutual
    pub one_term : (a : PlainTerm) (n : ℕ) → TermSortsAgree n (sort_of_term t) a → term_subst n 0 t a ≡ subst_term n t a
    one_term (Number z) n w = refl
    one_term (Boolean b) n w = refl
    one_term NullTerm n w = refl
    one_term (ProgramVariable x) n w = refl
    one_term (Constant d) n w = refl
    one_term (Bound k s) n w = index_same n k s w
    one_term (Arithmetic op a b) n w = λ i. Arithmetic op (one_term a n w.0 i) (one_term b n w.1 i)
    one_term (Negation a) n w = λ i. Negation (one_term a n w i)
    one_term (Wrap a) n w = λ i. Wrap (one_term a n w i)
    one_term (Length o) n w = λ i. Length (one_term o n w i)
    one_term (Select s h o f) n w = λ i. Select s (one_term h n w.0 i) (one_term o n w.1 i) (one_term f n w.2 i)
    one_term (Sum a b e) n w = λ i. Sum (one_term a n w.0 i) (one_term b n w.1 i) (one_term e (n + 1) w.2 i)
    one_term (Store h o f a) n w = λ i. Store (one_term h n w.0 i) (one_term o n w.1 i) (one_term f n w.2 i) (one_term a n w.3 i)
    one_term (Create h o) n w = λ i. Create (one_term h n w.0 i) (one_term o n w.1 i)
    one_term (Anon h l g) n w = λ i. Anon (one_term h n w.0 i) (one_loc l n w.1 i) (one_term g n w.2 i)
    one_term (NamedField f) n w = refl
    one_term CreatedField n w = refl
    one_term (ElementField a) n w = λ i. ElementField (one_term a n w i)

    one_loc : (l : PlainLoc) (n : ℕ) → LocSortsAgree n (sort_of_term t) l → loc_subst n 0 t l ≡ subst_loc n t l
    one_loc NoLocations n w = refl
    one_loc AllLocations n w = refl
    one_loc (Single o f) n w = λ i. Single (one_term o n w.0 i) (one_term f n w.1 i)
    one_loc (ObjectFields o) n w = λ i. ObjectFields (one_term o n w i)
    one_loc (ArrayElements o) n w = λ i. ArrayElements (one_term o n w i)
    one_loc (ElementRange o a b) n w = λ i. ElementRange (one_term o n w.0 i) (one_term a n w.1 i) (one_term b n w.2 i)
    one_loc (Union l m) n w = λ i. Union (one_loc l n w.0 i) (one_loc m n w.1 i)

  one_pairs : (u : Pairs) (n : ℕ) → PairsSortsAgree n (sort_of_term t) u → pairs_subst n 0 t u ≡ subst_pairs n t u
  one_pairs [] n w = refl
  one_pairs (p ∷ u) n w = λ i. (p.0, one_term p.1 n (All-head (λ q. TermSortsAgree n (sort_of_term t) q.1) p u w) i) ∷ one_pairs u n (All-tail (λ q. TermSortsAgree n (sort_of_term t) q.1) p u w) i

  pub one_formula : (a : PlainFormula) (n : ℕ) → SortsAgree n (sort_of_term t) a → formula_subst n 0 t a ≡ subst_formula n t a
  one_formula TrueFormula n w = refl
  one_formula FalseFormula n w = refl
  one_formula (Not a) n w = λ i. Not (one_formula a n w i)
  one_formula (And a b) n w = λ i. And (one_formula a n w.0 i) (one_formula b n w.1 i)
  one_formula (Or a b) n w = λ i. Or (one_formula a n w.0 i) (one_formula b n w.1 i)
  one_formula (Implies a b) n w = λ i. Implies (one_formula a n w.0 i) (one_formula b n w.1 i)
  one_formula (Iff a b) n w = λ i. Iff (one_formula a n w.0 i) (one_formula b n w.1 i)
  one_formula (Equal a b) n w = λ i. Equal (one_term a n w.0 i) (one_term b n w.1 i)
  one_formula (Less a b) n w = λ i. Less (one_term a n w.0 i) (one_term b n w.1 i)
  one_formula (LessOrEqual a b) n w = λ i. LessOrEqual (one_term a n w.0 i) (one_term b n w.1 i)
  one_formula (Forall s a) n w = λ i. Forall s (one_formula a (n + 1) w i)
  one_formula (Exists s a) n w = λ i. Exists s (one_formula a (n + 1) w i)
  one_formula (Updated u a) n w = λ i. Updated (one_pairs u n w.0 i) (one_formula a n w.1 i)
  one_formula (Modal m k a) n w = λ i. Modal m k (one_formula a n w i)
  one_formula (InLocations o f l) n w = λ i. InLocations (one_term o n w.0 i) (one_term f n w.1 i) (one_loc l n w.2 i)
  one_formula (InInt a) n w = λ i. InInt (one_term a n w i)
  one_formula (WellFormed h) n w = λ i. WellFormed (one_term h n w i)
  one_formula (Invariant h o) n w = λ i. Invariant (one_term h n w.0 i) (one_term o n w.1 i)
  one_formula (IsInstance k o) n w = λ i. IsInstance k (one_term o n w i)
  one_formula (IsExactInstance k o) n w = λ i. IsExactInstance k (one_term o n w i)
