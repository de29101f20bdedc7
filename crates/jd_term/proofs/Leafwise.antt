-- Leaf maps that give the same at each leaf of a tree give the same tree; and one that leaves all leaves as they are changes nothing.
use Rattle.std.proofs.Common.{ℕ, ◌≡◌, [], ◌∷◌, refl, ap, ap₂, ◌∙◌}
use Rattle.jd_term.specs.Formulas.{PlainFormula, Pairs, TrueFormula, FalseFormula, Not, And, Or, Implies, Iff, Equal, Less, LessOrEqual, Forall, Exists, Updated, Modal, InLocations, InInt, WellFormed, Invariant, IsInstance, IsExactInstance}
use Rattle.jd_term.specs.Terms.{PlainTerm, Number, Boolean, NullTerm, ProgramVariable, Constant, Bound, Arithmetic, Negation, Wrap, Length, Select, Sum, Store, Create, Anon, NamedField, CreatedField, ElementField, PlainLoc, NoLocations, AllLocations, Single, ObjectFields, ArrayElements, ElementRange, Union}
use Rattle.jd_syntax.specs.Names.{Name}
use Rattle.std.proofs.lemmas.List.Elements.{All-cons, All-nil}
use Rattle.jd_term.specs.Renamings.{FirstOrder, Renaming, rename, rename_leaves}
use Rattle.jd_term.specs.Maps.{LeafMap, EachLeafOfLoc, EachLeafOfFormula, EachLeafOfPairs, EachLeaf, map_formula, map_loc, map_pairs, map_term}

ap₃ : {A B C D : Type 0} (f : A → B → C → D) {a a' : A} {b b' : B} {c c' : C} → a ≡ a' → b ≡ b' → c ≡ c' → f a b c ≡ f a' b' c'
ap₃ f {a} {a'} {b} {b'} {c} {c'} p q r = ap₂ (λ x y. f x y c) p q ∙ ap (f a' b') r

ap₄ : {A B C D E : Type 0} (f : A → B → C → D → E) {a a' : A} {b b' : B} {c c' : C} {d d' : D} → a ≡ a' → b ≡ b' → c ≡ c' → d ≡ d' → f a b c d ≡ f a' b' c' d'
ap₄ f {a} {a'} {b} {b'} {c} {c'} {d} {d'} p q r s = ap₃ (λ x y z. f x y z d) p q r ∙ ap (f a' b' c') s

-- what leaves each leaf as it is
module _ (m : LeafMap) (same : (k : ℕ) (t : PlainTerm) → m.leaf k t ≡ t) where
  mutual
    pub same_term : (k : ℕ) (t : PlainTerm) → map_term m k t ≡ t
    same_term k (Number n) = refl
    same_term k (Boolean b) = refl
    same_term k NullTerm = refl
    same_term k (ProgramVariable x) = same k (ProgramVariable x)
    same_term k (Constant c) = same k (Constant c)
    same_term k (Bound i s) = same k (Bound i s)
    same_term k (Arithmetic op a b) = ap₂ (λ a b. Arithmetic op a b) (same_term k a) (same_term k b)
    same_term k (Negation a) = ap (λ a. Negation a) (same_term k a)
    same_term k (Wrap a) = ap (λ a. Wrap a) (same_term k a)
    same_term k (Length a) = ap (λ a. Length a) (same_term k a)
    same_term k (Select s a b d) = ap₃ (λ a b d. Select s a b d) (same_term k a) (same_term k b) (same_term k d)
    same_term k (Sum a b d) = ap₃ (λ a b d. Sum a b d) (same_term k a) (same_term k b) (same_term (m.below k) d)
    same_term k (Store a b d e) = ap₄ (λ a b d e. Store a b d e) (same_term k a) (same_term k b) (same_term k d) (same_term k e)
    same_term k (Create a b) = ap₂ (λ a b. Create a b) (same_term k a) (same_term k b)
    same_term k (Anon a b d) = ap₃ (λ a b d. Anon a b d) (same_term k a) (same_loc k b) (same_term k d)
    same_term k (NamedField f) = refl
    same_term k CreatedField = refl
    same_term k (ElementField a) = ap (λ a. ElementField a) (same_term k a)

    pub same_loc : (k : ℕ) (l : PlainLoc) → map_loc m k l ≡ l
    same_loc k NoLocations = refl
    same_loc k AllLocations = refl
    same_loc k (Single a b) = ap₂ (λ a b. Single a b) (same_term k a) (same_term k b)
    same_loc k (ObjectFields a) = ap (λ a. ObjectFields a) (same_term k a)
    same_loc k (ArrayElements a) = ap (λ a. ArrayElements a) (same_term k a)
    same_loc k (ElementRange a b d) = ap₃ (λ a b d. ElementRange a b d) (same_term k a) (same_term k b) (same_term k d)
    same_loc k (Union a b) = ap₂ (λ a b. Union a b) (same_loc k a) (same_loc k b)

  pub same_pairs : (k : ℕ) (ps : Pairs) → map_pairs m k ps ≡ ps
  same_pairs k [] = refl
  same_pairs k (p ∷ ps) = ap₂ (λ t qs. (p.0, t) ∷ qs) (same_term k p.1) (same_pairs k ps)

  pub same_formula : (k : ℕ) (f : PlainFormula) → map_formula m k f ≡ f
  same_formula k TrueFormula = refl
  same_formula k FalseFormula = refl
  same_formula k (Not a) = ap (λ a. Not a) (same_formula k a)
  same_formula k (And a b) = ap₂ (λ a b. And a b) (same_formula k a) (same_formula k b)
  same_formula k (Or a b) = ap₂ (λ a b. Or a b) (same_formula k a) (same_formula k b)
  same_formula k (Implies a b) = ap₂ (λ a b. Implies a b) (same_formula k a) (same_formula k b)
  same_formula k (Iff a b) = ap₂ (λ a b. Iff a b) (same_formula k a) (same_formula k b)
  same_formula k (Equal a b) = ap₂ (λ a b. Equal a b) (same_term k a) (same_term k b)
  same_formula k (Less a b) = ap₂ (λ a b. Less a b) (same_term k a) (same_term k b)
  same_formula k (LessOrEqual a b) = ap₂ (λ a b. LessOrEqual a b) (same_term k a) (same_term k b)
  same_formula k (Forall s a) = ap (λ a. Forall s a) (same_formula (m.below k) a)
  same_formula k (Exists s a) = ap (λ a. Exists s a) (same_formula (m.below k) a)
  same_formula k (Updated a b) = ap₂ (λ a b. Updated a b) (same_pairs k a) (same_formula k b)
  same_formula k (Modal m c a) = ap (λ a. Modal m c a) (same_formula k a)
  same_formula k (InLocations a b d) = ap₃ (λ a b d. InLocations a b d) (same_term k a) (same_term k b) (same_loc k d)
  same_formula k (InInt a) = ap (λ a. InInt a) (same_term k a)
  same_formula k (WellFormed a) = ap (λ a. WellFormed a) (same_term k a)
  same_formula k (Invariant a b) = ap₂ (λ a b. Invariant a b) (same_term k a) (same_term k b)
  same_formula k (IsInstance w a) = ap (λ a. IsInstance w a) (same_term k a)
  same_formula k (IsExactInstance w a) = ap (λ a. IsExactInstance w a) (same_term k a)

-- what holds of any leaf holds of each leaf of a tree
module _ (below : ℕ → ℕ) (Fits : ℕ → PlainTerm → Type 0) (fits : (k : ℕ) (t : PlainTerm) → Fits k t) where
  mutual
    pub each_leaf : (k : ℕ) (t : PlainTerm) → EachLeaf below Fits k t
    each_leaf k (Number n) = tt
    each_leaf k (Boolean b) = tt
    each_leaf k NullTerm = tt
    each_leaf k (ProgramVariable x) = fits k (ProgramVariable x)
    each_leaf k (Constant c) = fits k (Constant c)
    each_leaf k (Bound i s) = fits k (Bound i s)
    each_leaf k (Arithmetic op a b) = (each_leaf k a, each_leaf k b)
    each_leaf k (Negation a) = each_leaf k a
    each_leaf k (Wrap a) = each_leaf k a
    each_leaf k (Length a) = each_leaf k a
    each_leaf k (Select s a b d) = (each_leaf k a, each_leaf k b, each_leaf k d)
    each_leaf k (Sum a b d) = (each_leaf k a, each_leaf k b, each_leaf (below k) d)
    each_leaf k (Store a b d e) = (each_leaf k a, each_leaf k b, each_leaf k d, each_leaf k e)
    each_leaf k (Create a b) = (each_leaf k a, each_leaf k b)
    each_leaf k (Anon a b d) = (each_leaf k a, each_leaf_of_loc k b, each_leaf k d)
    each_leaf k (NamedField f) = tt
    each_leaf k CreatedField = tt
    each_leaf k (ElementField a) = each_leaf k a

    pub each_leaf_of_loc : (k : ℕ) (l : PlainLoc) → EachLeafOfLoc below Fits k l
    each_leaf_of_loc k NoLocations = tt
    each_leaf_of_loc k AllLocations = tt
    each_leaf_of_loc k (Single a b) = (each_leaf k a, each_leaf k b)
    each_leaf_of_loc k (ObjectFields a) = each_leaf k a
    each_leaf_of_loc k (ArrayElements a) = each_leaf k a
    each_leaf_of_loc k (ElementRange a b d) = (each_leaf k a, each_leaf k b, each_leaf k d)
    each_leaf_of_loc k (Union a b) = (each_leaf_of_loc k a, each_leaf_of_loc k b)

  pub each_leaf_of_pairs : (k : ℕ) (ps : Pairs) → EachLeafOfPairs below Fits k ps
  each_leaf_of_pairs k [] = All-nil (λ (p : Name × PlainTerm). EachLeaf below Fits k p.1)
  each_leaf_of_pairs k (p ∷ ps) = All-cons (λ (q : Name × PlainTerm). EachLeaf below Fits k q.1) p ps (each_leaf k p.1) (each_leaf_of_pairs k ps)

  pub each_leaf_of_formula : (k : ℕ) (f : PlainFormula) → EachLeafOfFormula below Fits k f
  each_leaf_of_formula k TrueFormula = tt
  each_leaf_of_formula k FalseFormula = tt
  each_leaf_of_formula k (Not a) = each_leaf_of_formula k a
  each_leaf_of_formula k (And a b) = (each_leaf_of_formula k a, each_leaf_of_formula k b)
  each_leaf_of_formula k (Or a b) = (each_leaf_of_formula k a, each_leaf_of_formula k b)
  each_leaf_of_formula k (Implies a b) = (each_leaf_of_formula k a, each_leaf_of_formula k b)
  each_leaf_of_formula k (Iff a b) = (each_leaf_of_formula k a, each_leaf_of_formula k b)
  each_leaf_of_formula k (Equal a b) = (each_leaf k a, each_leaf k b)
  each_leaf_of_formula k (Less a b) = (each_leaf k a, each_leaf k b)
  each_leaf_of_formula k (LessOrEqual a b) = (each_leaf k a, each_leaf k b)
  each_leaf_of_formula k (Forall s a) = (each_leaf_of_formula (below k) a)
  each_leaf_of_formula k (Exists s a) = (each_leaf_of_formula (below k) a)
  each_leaf_of_formula k (Updated a b) = (each_leaf_of_pairs k a, each_leaf_of_formula k b)
  each_leaf_of_formula k (Modal m c a) = each_leaf_of_formula k a
  each_leaf_of_formula k (InLocations a b d) = (each_leaf k a, each_leaf k b, each_leaf_of_loc k d)
  each_leaf_of_formula k (InInt a) = each_leaf k a
  each_leaf_of_formula k (WellFormed a) = each_leaf k a
  each_leaf_of_formula k (Invariant a b) = (each_leaf k a, each_leaf k b)
  each_leaf_of_formula k (IsInstance w a) = each_leaf k a
  each_leaf_of_formula k (IsExactInstance w a) = each_leaf k a

-- a formula without updates and modalities, with its names replaced
pub rename_is_map : (r : Renaming) (f : PlainFormula) → FirstOrder f → map_formula (rename_leaves r) 0 f ≡ rename r f
rename_is_map r TrueFormula h = refl
rename_is_map r FalseFormula h = refl
rename_is_map r (Not a) h = ap (λ a. Not a) (rename_is_map r a h)
rename_is_map r (And a b) h = ap₂ (λ a b. And a b) (rename_is_map r a h.0) (rename_is_map r b h.1)
rename_is_map r (Or a b) h = ap₂ (λ a b. Or a b) (rename_is_map r a h.0) (rename_is_map r b h.1)
rename_is_map r (Implies a b) h = ap₂ (λ a b. Implies a b) (rename_is_map r a h.0) (rename_is_map r b h.1)
rename_is_map r (Iff a b) h = ap₂ (λ a b. Iff a b) (rename_is_map r a h.0) (rename_is_map r b h.1)
rename_is_map r (Equal a b) h = refl
rename_is_map r (Less a b) h = refl
rename_is_map r (LessOrEqual a b) h = refl
rename_is_map r (Forall s a) h = ap (λ a. Forall s a) (rename_is_map r a h)
rename_is_map r (Exists s a) h = ap (λ a. Exists s a) (rename_is_map r a h)
rename_is_map r (Updated a b) h = absurd h
rename_is_map r (Modal m c a) h = absurd h
rename_is_map r (InLocations a b d) h = refl
rename_is_map r (InInt a) h = refl
rename_is_map r (WellFormed a) h = refl
rename_is_map r (Invariant a b) h = refl
rename_is_map r (IsInstance w a) h = refl
rename_is_map r (IsExactInstance w a) h = refl
