-- What is known of each leaf of a tree gives what else holds of each; so narrow indices fit 32 bits where they are lifted or put.
use Rattle.std.proofs.Common.{[], arith, ◌+◌, ◌<◌, ◌∷◌, ℕ}
use Rattle.std.proofs.lemmas.List.Elements.{All-cons, All-head, All-nil, All-tail}
use Rattle.jd_spelled_trees.specs.Spelled.{NarrowFormula, NarrowLeaf, NarrowLoc, NarrowTerm}
use Rattle.jd_syntax.specs.Names.{Name}
use Rattle.jd_term.specs.Formulas.{And, Equal, Exists, FalseFormula, Forall, Iff, Implies, InInt, InLocations, Invariant, IsExactInstance, IsInstance, Less, LessOrEqual, Modal, Not, Or, TrueFormula, Updated, WellFormed, Pairs, PlainFormula}
use Rattle.jd_term.specs.Maps.{EachLeaf, EachLeafOfFormula, EachLeafOfLoc, EachLeafOfPairs}
use Rattle.jd_term.specs.Shifts.{LeafFits, LocFits, ShiftFits, TermFits}
use Rattle.jd_term.specs.Substitutions.{LeafSubstFits, SubstFits, TermSubstFits}
use Rattle.jd_term.specs.Terms.{AllLocations, ArrayElements, ElementRange, NoLocations, ObjectFields, Single, Union, PlainLoc, PlainTerm, Anon, Arithmetic, Boolean, Bound, Constant, Create, CreatedField, ElementField, Length, NamedField, Negation, NullTerm, Number, ProgramVariable, Select, Store, Sum, Wrap}

module _ (below after : ℕ → ℕ) (Known Fits : ℕ → PlainTerm → Type 0) (leaf : (k j : ℕ) (t : PlainTerm) → Known k t → Fits j t) where
  mutual
    pub leaves_of_term : (k j : ℕ) (t : PlainTerm) → EachLeaf below Known k t → EachLeaf after Fits j t
    leaves_of_term k j (Number z) h = tt
    leaves_of_term k j (Boolean z) h = tt
    leaves_of_term k j NullTerm h = tt
    leaves_of_term k j (ProgramVariable x) h = leaf k j (ProgramVariable x) h
    leaves_of_term k j (Constant x) h = leaf k j (Constant x) h
    leaves_of_term k j (Bound i s) h = leaf k j (Bound i s) h
    leaves_of_term k j (Arithmetic op a b) h = (leaves_of_term k j a h.0, leaves_of_term k j b h.1)
    leaves_of_term k j (Negation a) h = leaves_of_term k j a h
    leaves_of_term k j (Wrap a) h = leaves_of_term k j a h
    leaves_of_term k j (Length a) h = leaves_of_term k j a h
    leaves_of_term k j (Select s a b d) h = (leaves_of_term k j a h.0, leaves_of_term k j b h.1, leaves_of_term k j d h.2)
    leaves_of_term k j (Sum a b d) h = (leaves_of_term k j a h.0, leaves_of_term k j b h.1, leaves_of_term (below k) (after j) d h.2)
    leaves_of_term k j (Store a b c d) h = (leaves_of_term k j a h.0, leaves_of_term k j b h.1, leaves_of_term k j c h.2, leaves_of_term k j d h.3)
    leaves_of_term k j (Create a b) h = (leaves_of_term k j a h.0, leaves_of_term k j b h.1)
    leaves_of_term k j (Anon a l d) h = (leaves_of_term k j a h.0, leaves_of_loc k j l h.1, leaves_of_term k j d h.2)
    leaves_of_term k j (NamedField f) h = tt
    leaves_of_term k j CreatedField h = tt
    leaves_of_term k j (ElementField a) h = leaves_of_term k j a h

    pub leaves_of_loc : (k j : ℕ) (l : PlainLoc) → EachLeafOfLoc below Known k l → EachLeafOfLoc after Fits j l
    leaves_of_loc k j NoLocations h = tt
    leaves_of_loc k j AllLocations h = tt
    leaves_of_loc k j (Single a b) h = (leaves_of_term k j a h.0, leaves_of_term k j b h.1)
    leaves_of_loc k j (ObjectFields a) h = leaves_of_term k j a h
    leaves_of_loc k j (ArrayElements a) h = leaves_of_term k j a h
    leaves_of_loc k j (ElementRange a b d) h = (leaves_of_term k j a h.0, leaves_of_term k j b h.1, leaves_of_term k j d h.2)
    leaves_of_loc k j (Union l m) h = (leaves_of_loc k j l h.0, leaves_of_loc k j m h.1)

  leaves_of_pairs : (k j : ℕ) (ps : Pairs) → EachLeafOfPairs below Known k ps → EachLeafOfPairs after Fits j ps
  leaves_of_pairs k j [] h = All-nil (λ (p : Name × PlainTerm). EachLeaf after Fits j p.1)
  leaves_of_pairs k j (p ∷ ps) h =
      All-cons (λ (q : Name × PlainTerm). EachLeaf after Fits j q.1) p ps (leaves_of_term k j p.1 (All-head (λ (q : Name × PlainTerm). EachLeaf below Known k q.1) p ps h))
      (leaves_of_pairs k j ps (All-tail (λ (q : Name × PlainTerm). EachLeaf below Known k q.1) p ps h))

  pub leaves_of_formula : (k j : ℕ) (a : PlainFormula) → EachLeafOfFormula below Known k a → EachLeafOfFormula after Fits j a
  leaves_of_formula k j TrueFormula h = tt
  leaves_of_formula k j FalseFormula h = tt
  leaves_of_formula k j (Not a) h = leaves_of_formula k j a h
  leaves_of_formula k j (And a b) h = (leaves_of_formula k j a h.0, leaves_of_formula k j b h.1)
  leaves_of_formula k j (Or a b) h = (leaves_of_formula k j a h.0, leaves_of_formula k j b h.1)
  leaves_of_formula k j (Implies a b) h = (leaves_of_formula k j a h.0, leaves_of_formula k j b h.1)
  leaves_of_formula k j (Iff a b) h = (leaves_of_formula k j a h.0, leaves_of_formula k j b h.1)
  leaves_of_formula k j (Equal a b) h = (leaves_of_term k j a h.0, leaves_of_term k j b h.1)
  leaves_of_formula k j (Less a b) h = (leaves_of_term k j a h.0, leaves_of_term k j b h.1)
  leaves_of_formula k j (LessOrEqual a b) h = (leaves_of_term k j a h.0, leaves_of_term k j b h.1)
  leaves_of_formula k j (Forall q a) h = leaves_of_formula (below k) (after j) a h
  leaves_of_formula k j (Exists q a) h = leaves_of_formula (below k) (after j) a h
  leaves_of_formula k j (Updated ps a) h = (leaves_of_pairs k j ps h.0, leaves_of_formula k j a h.1)
  leaves_of_formula k j (Modal m ss a) h = leaves_of_formula k j a h
  leaves_of_formula k j (InLocations a b l) h = (leaves_of_term k j a h.0, leaves_of_term k j b h.1, leaves_of_loc k j l h.2)
  leaves_of_formula k j (InInt a) h = leaves_of_term k j a h
  leaves_of_formula k j (WellFormed a) h = leaves_of_term k j a h
  leaves_of_formula k j (Invariant a b) h = (leaves_of_term k j a h.0, leaves_of_term k j b h.1)
  leaves_of_formula k j (IsInstance w a) h = leaves_of_term k j a h
  leaves_of_formula k j (IsExactInstance w a) h = leaves_of_term k j a h

-- ---- lifts and puts

raised_fits : (n : ℕ) → n < 1000000000 → (k j : ℕ) (t : PlainTerm) → NarrowLeaf k t → LeafFits n j t
raised_fits n lt k j (Bound i s) h = λ le. omega (arith, lt, h)
raised_fits n lt k j t h = tt

pub term_raised : (n : ℕ) → n < 1000000000 → (t : PlainTerm) → NarrowTerm t → TermFits 0 n t
term_raised n lt t h = leaves_of_term (λ k. k) (λ k. k + 1) NarrowLeaf (LeafFits n) (raised_fits n lt) 0 0 t h

pub loc_raised : (n : ℕ) → n < 1000000000 → (l : PlainLoc) → NarrowLoc l → LocFits 0 n l
loc_raised n lt l h = leaves_of_loc (λ k. k) (λ k. k + 1) NarrowLeaf (LeafFits n) (raised_fits n lt) 0 0 l h

pub formula_raised : (n : ℕ) → n < 1000000000 → (a : PlainFormula) → NarrowFormula a → ShiftFits 0 n a
formula_raised n lt a h = leaves_of_formula (λ k. k) (λ k. k + 1) NarrowLeaf (LeafFits n) (raised_fits n lt) 0 0 a h

-- a term is put below no more binders than the number of the index that it stands for
put_fits : (t : PlainTerm) → NarrowTerm t → (k j : ℕ) (u : PlainTerm) → NarrowLeaf k u → LeafSubstFits 0 t j u
put_fits t small k j (Bound i s) h = λ same. term_raised j (omega (arith, h, same)) t small
put_fits t small k j u h = tt

pub put_in_term : (t u : PlainTerm) → NarrowTerm t → NarrowTerm u → TermSubstFits 0 0 t u
put_in_term t u small h = leaves_of_term (λ k. k) (λ k. k + 1) NarrowLeaf (LeafSubstFits 0 t) (put_fits t small) 0 0 u h

pub put_in_formula : (t : PlainTerm) (a : PlainFormula) → NarrowTerm t → NarrowFormula a → SubstFits 0 0 t a
put_in_formula t a small h = leaves_of_formula (λ k. k) (λ k. k + 1) NarrowLeaf (LeafSubstFits 0 t) (put_fits t small) 0 0 a h
