-- Trees with other leaves are spelled again, where each leaf is.
use Rattle.std.proofs.Common.{List, Some, [], map, refl, subst, sym, ◌∙◌, ◌∷◌, ◌≡◌, ◌≢◌, ℕ}
use Rattle.jd_base.specs.declared.sort.Sort.{Sort}
use Rattle.jd_base.specs.declared.sort.Sort.TheVariants.{Field as FieldSort, Heap as HeapSort, Int as IntSort, Ref as RefSort}
use Rattle.jd_spelled_trees.specs.Spelled.{AtSort, SpelledFormula, SpelledLoc, SpelledPairs, SpelledTerm}
use Rattle.jd_syntax.specs.Names.{Name}
use Rattle.jd_term.specs.Formulas.{And, Equal, Exists, FalseFormula, Forall, Iff, Implies, InInt, InLocations, Invariant, IsExactInstance, IsInstance, Less, LessOrEqual, Modal, Not, Or, TrueFormula, Updated, WellFormed, Pairs, PlainFormula}
use Rattle.jd_term.specs.Maps.{LeafMap, map_formula, map_loc, map_pairs, map_term}
use Rattle.jd_term.specs.Terms.{AllLocations, ArrayElements, ElementRange, NoLocations, ObjectFields, Single, Union, PlainLoc, PlainTerm, Anon, Arithmetic, Boolean, Bound, Constant, Create, CreatedField, ElementField, Length, NamedField, Negation, NullTerm, Number, ProgramVariable, Select, Store, Sum, Wrap, sort_of_term}
use Rattle.jd_tforms.specs.Naming.{at_number}
use Rattle.jd_tgrammar.specs.NameTables.{NameTable}

-- what has the sort of another has the other's
pub moved : {P : Type 0} (s : Sort) (t u : PlainTerm) → sort_of_term t ≡ s → AtSort (sort_of_term t) u P → AtSort s u P
moved s t u e p = (p.0 ∙ e, p.1)

no_pairs : (p : Name × PlainTerm) (ps : Pairs) → (p ∷ ps) ≡ [] → ⊥
no_pairs p ps e = cc

-- a map of leaves that leaves variables and constants, between binders that stand in a relation, which each further binder keeps
module _ (names : NameTable) (m : LeafMap) (R : ℕ → List Sort → List Sort → Type 0)
    (under : (k : ℕ) (ctx new : List Sort) (s : Sort) → R k ctx new → R (m.below k) (s ∷ ctx) (s ∷ new))
    (variable : (k : ℕ) (x : Name) → m.leaf k (ProgramVariable x) ≡ ProgramVariable x)
    (constant : (k : ℕ) (x : Name) → m.leaf k (Constant x) ≡ Constant x)
    (index : (k : ℕ) (ctx new : List Sort) → R k ctx new → (i : ℕ) (s : Sort) → at_number ctx i ≡ Some s → AtSort s (m.leaf k (Bound i s)) (SpelledTerm names new (m.leaf k (Bound i s)))) where
  mutual
    pub mapped_term : (k : ℕ) (ctx new : List Sort) → R k ctx new → (t : PlainTerm) → SpelledTerm names ctx t → AtSort (sort_of_term t) (map_term m k t) (SpelledTerm names new (map_term m k t))
    mapped_term k ctx new r (Number z) h = (refl, h)
    mapped_term k ctx new r (Boolean z) h = (refl, tt)
    mapped_term k ctx new r NullTerm h = (refl, tt)
    mapped_term k ctx new r (ProgramVariable x) h = subst (λ t. AtSort x.sort t (SpelledTerm names new t)) (sym (variable k x)) (refl, h)
    mapped_term k ctx new r (Constant x) h = subst (λ t. AtSort x.sort t (SpelledTerm names new t)) (sym (constant k x)) (refl, h)
    mapped_term k ctx new r (Bound i s) h = index k ctx new r i s h
    mapped_term k ctx new r (Arithmetic op a b) h = (refl, (moved IntSort a (map_term m k a) h.0.0 (mapped_term k ctx new r a h.0.1), moved IntSort b (map_term m k b) h.1.0 (mapped_term k ctx new r b h.1.1)))
    mapped_term k ctx new r (Negation a) h = (refl, moved IntSort a (map_term m k a) h.0 (mapped_term k ctx new r a h.1))
    mapped_term k ctx new r (Wrap a) h = (refl, moved IntSort a (map_term m k a) h.0 (mapped_term k ctx new r a h.1))
    mapped_term k ctx new r (Length a) h = (refl, moved RefSort a (map_term m k a) h.0 (mapped_term k ctx new r a h.1))
    mapped_term k ctx new r (Select s a b d) h = (refl, (h.0, moved HeapSort a (map_term m k a) h.1.0 (mapped_term k ctx new r a h.1.1), moved RefSort b (map_term m k b) h.2.0 (mapped_term k ctx new r b h.2.1), moved FieldSort d (map_term m k d) h.3.0 (mapped_term k ctx new r d h.3.1)))
    mapped_term k ctx new r (Sum a b d) h = (refl, (moved IntSort a (map_term m k a) h.0.0 (mapped_term k ctx new r a h.0.1), moved IntSort b (map_term m k b) h.1.0 (mapped_term k ctx new r b h.1.1), moved IntSort d (map_term m (m.below k) d) h.2.0 (mapped_term (m.below k) (IntSort ∷ ctx) (IntSort ∷ new) (under k ctx new IntSort r) d h.2.1)))
    mapped_term k ctx new r (Store a b c d) h = (refl, (moved HeapSort a (map_term m k a) h.0.0 (mapped_term k ctx new r a h.0.1), moved RefSort b (map_term m k b) h.1.0 (mapped_term k ctx new r b h.1.1), moved FieldSort c (map_term m k c) h.2.0 (mapped_term k ctx new r c h.2.1), (mapped_term k ctx new r d h.3).1))
    mapped_term k ctx new r (Create a b) h = (refl, (moved HeapSort a (map_term m k a) h.0.0 (mapped_term k ctx new r a h.0.1), moved RefSort b (map_term m k b) h.1.0 (mapped_term k ctx new r b h.1.1)))
    mapped_term k ctx new r (Anon a l d) h = (refl, (moved HeapSort a (map_term m k a) h.0.0 (mapped_term k ctx new r a h.0.1), mapped_loc k ctx new r l h.1, moved HeapSort d (map_term m k d) h.2.0 (mapped_term k ctx new r d h.2.1)))
    mapped_term k ctx new r (NamedField f) h = (refl, h)
    mapped_term k ctx new r CreatedField h = (refl, tt)
    mapped_term k ctx new r (ElementField a) h = (refl, moved IntSort a (map_term m k a) h.0 (mapped_term k ctx new r a h.1))

    pub mapped_loc : (k : ℕ) (ctx new : List Sort) → R k ctx new → (l : PlainLoc) → SpelledLoc names ctx l → SpelledLoc names new (map_loc m k l)
    mapped_loc k ctx new r NoLocations h = tt
    mapped_loc k ctx new r AllLocations h = tt
    mapped_loc k ctx new r (Single a b) h = (moved RefSort a (map_term m k a) h.0.0 (mapped_term k ctx new r a h.0.1), moved FieldSort b (map_term m k b) h.1.0 (mapped_term k ctx new r b h.1.1))
    mapped_loc k ctx new r (ObjectFields a) h = moved RefSort a (map_term m k a) h.0 (mapped_term k ctx new r a h.1)
    mapped_loc k ctx new r (ArrayElements a) h = moved RefSort a (map_term m k a) h.0 (mapped_term k ctx new r a h.1)
    mapped_loc k ctx new r (ElementRange a b d) h = (moved RefSort a (map_term m k a) h.0.0 (mapped_term k ctx new r a h.0.1), moved IntSort b (map_term m k b) h.1.0 (mapped_term k ctx new r b h.1.1), moved IntSort d (map_term m k d) h.2.0 (mapped_term k ctx new r d h.2.1))
    mapped_loc k ctx new r (Union l m) h = (mapped_loc k ctx new r l h.0, mapped_loc k ctx new r m h.1)

  mapped_pairs : (k : ℕ) (ctx new : List Sort) → R k ctx new → (ps : Pairs) → SpelledPairs names ctx ps → SpelledPairs names new (map_pairs m k ps)
  mapped_pairs k ctx new r [] h = tt
  mapped_pairs k ctx new r (p ∷ ps) h = ((h.0.0, moved p.0.sort p.1 (map_term m k p.1) h.0.1.0 (mapped_term k ctx new r p.1 h.0.1.1)), mapped_pairs k ctx new r ps h.1)

  some_pairs : (k : ℕ) (ps : Pairs) → ps ≢ [] → map_pairs m k ps ≢ []
  some_pairs k [] some e = some refl
  some_pairs k (p ∷ ps) some e = no_pairs (p.0, map_term m k p.1) (map_pairs m k ps) e

  pub mapped_formula : (k : ℕ) (ctx new : List Sort) → R k ctx new → (a : PlainFormula) → SpelledFormula names ctx a → SpelledFormula names new (map_formula m k a)
  mapped_formula k ctx new r TrueFormula h = tt
  mapped_formula k ctx new r FalseFormula h = tt
  mapped_formula k ctx new r (Not a) h = mapped_formula k ctx new r a h
  mapped_formula k ctx new r (And a b) h = (mapped_formula k ctx new r a h.0, mapped_formula k ctx new r b h.1)
  mapped_formula k ctx new r (Or a b) h = (mapped_formula k ctx new r a h.0, mapped_formula k ctx new r b h.1)
  mapped_formula k ctx new r (Implies a b) h = (mapped_formula k ctx new r a h.0, mapped_formula k ctx new r b h.1)
  mapped_formula k ctx new r (Iff a b) h = (mapped_formula k ctx new r a h.0, mapped_formula k ctx new r b h.1)
  mapped_formula k ctx new r (Equal a b) h = let x = mapped_term k ctx new r a h.1 in let y = mapped_term k ctx new r b h.2 in (x.0 ∙ (h.0 ∙ sym y.0), x.1, y.1)
  mapped_formula k ctx new r (Less a b) h = (moved IntSort a (map_term m k a) h.0.0 (mapped_term k ctx new r a h.0.1), moved IntSort b (map_term m k b) h.1.0 (mapped_term k ctx new r b h.1.1))
  mapped_formula k ctx new r (LessOrEqual a b) h = (moved IntSort a (map_term m k a) h.0.0 (mapped_term k ctx new r a h.0.1), moved IntSort b (map_term m k b) h.1.0 (mapped_term k ctx new r b h.1.1))
  mapped_formula k ctx new r (Forall q a) h = (h.0, mapped_formula (m.below k) (q ∷ ctx) (q ∷ new) (under k ctx new q r) a h.1)
  mapped_formula k ctx new r (Exists q a) h = (h.0, mapped_formula (m.below k) (q ∷ ctx) (q ∷ new) (under k ctx new q r) a h.1)
  mapped_formula k ctx new r (Updated ps a) h = (some_pairs k ps h.0, mapped_pairs k ctx new r ps h.1, mapped_formula k ctx new r a h.2)
  mapped_formula k ctx new r (Modal m ss a) h = (h.0, h.1, mapped_formula k ctx new r a h.2)
  mapped_formula k ctx new r (InLocations a b l) h = (moved RefSort a (map_term m k a) h.0.0 (mapped_term k ctx new r a h.0.1), moved FieldSort b (map_term m k b) h.1.0 (mapped_term k ctx new r b h.1.1), mapped_loc k ctx new r l h.2)
  mapped_formula k ctx new r (InInt a) h = moved IntSort a (map_term m k a) h.0 (mapped_term k ctx new r a h.1)
  mapped_formula k ctx new r (WellFormed a) h = moved HeapSort a (map_term m k a) h.0 (mapped_term k ctx new r a h.1)
  mapped_formula k ctx new r (Invariant a b) h = (moved HeapSort a (map_term m k a) h.0.0 (mapped_term k ctx new r a h.0.1), moved RefSort b (map_term m k b) h.1.0 (mapped_term k ctx new r b h.1.1))
  mapped_formula k ctx new r (IsInstance j a) h = (h.0, moved RefSort a (map_term m k a) h.1.0 (mapped_term k ctx new r a h.1.1))
  mapped_formula k ctx new r (IsExactInstance j a) h = (h.0, moved RefSort a (map_term m k a) h.1.0 (mapped_term k ctx new r a h.1.1))
