-- The indices of a tree that is spelled under binders are bound by them.
use Rattle.std.proofs.Common.{List, Some, [], add-one, length, refl, suc, sym, subst, zero, ◌+◌, ◌∙◌, ◌∷◌, ◌≡◌, ℕ}
use Rattle.std.proofs.lemmas.List.Elements.{All-cons, All-nil}
use Rattle.std.proofs.lemmas.Option.{none-some}
use Rattle.jd_base.specs.declared.sort.Sort.{Sort}
use Rattle.jd_base.specs.declared.sort.Sort.TheVariants.{Int as IntSort}
use Rattle.jd_model.specs.Closed.{Below, BelowIn, BelowLoc, BelowUpdate, IsBelow}
use Rattle.jd_spelled_trees.specs.Spelled.{SpelledFormula, SpelledLoc, SpelledPairs, SpelledTerm}
use Rattle.jd_syntax.specs.Names.{Name}
use Rattle.jd_term.specs.Formulas.{And, Equal, Exists, FalseFormula, Forall, Iff, Implies, InInt, InLocations, Invariant, IsExactInstance, IsInstance, Less, LessOrEqual, Modal, Not, Or, TrueFormula, Updated, WellFormed, Pairs, PlainFormula}
use Rattle.jd_term.specs.Maps.{EachLeaf, EachLeafOfFormula, EachLeafOfLoc, EachLeafOfPairs}
use Rattle.jd_term.specs.Substitutions.{LeafSortAgrees, LocSortsAgree, SortsAgree, TermSortsAgree}
use Rattle.jd_term.specs.Terms.{AllLocations, ArrayElements, ElementRange, NoLocations, ObjectFields, Single, Union, PlainLoc, PlainTerm, Anon, Arithmetic, Boolean, Bound, Constant, Create, CreatedField, ElementField, Length, NamedField, Negation, NullTerm, Number, ProgramVariable, Select, Store, Sum, Wrap}
use Rattle.jd_tforms.proofs.Somes.{some_same}
use Rattle.jd_tforms.specs.Naming.{at_number}
use Rattle.jd_tgrammar.specs.NameTables.{NameTable}

-- ---- no index goes past the binders

index_below : (ctx : List Sort) (k : ℕ) (s : Sort) → at_number ctx k ≡ Some s → IsBelow k (length ctx)
index_below [] k s e = absurd (none-some s e)
index_below (r ∷ ctx) zero s e = tt
index_below (r ∷ ctx) (suc k) s e = index_below ctx k s e

module _ (names : NameTable) where
  mutual
    pub below_term : (ctx : List Sort) (t : PlainTerm) → SpelledTerm names ctx t → Below (length ctx) t
    below_term ctx (Number z) h = tt
    below_term ctx (Boolean z) h = tt
    below_term ctx NullTerm h = tt
    below_term ctx (ProgramVariable x) h = tt
    below_term ctx (Constant x) h = tt
    below_term ctx (Bound i s) h = index_below ctx i s h
    below_term ctx (Arithmetic op a b) h = (below_term ctx a h.0.1, below_term ctx b h.1.1)
    below_term ctx (Negation a) h = below_term ctx a h.1
    below_term ctx (Wrap a) h = below_term ctx a h.1
    below_term ctx (Length a) h = below_term ctx a h.1
    below_term ctx (Select s a b d) h = (below_term ctx a h.1.1, below_term ctx b h.2.1, below_term ctx d h.3.1)
    below_term ctx (Sum a b d) h = (below_term ctx a h.0.1, below_term ctx b h.1.1, below_term (IntSort ∷ ctx) d h.2.1)
    below_term ctx (Store a b c d) h = (below_term ctx a h.0.1, below_term ctx b h.1.1, below_term ctx c h.2.1, below_term ctx d h.3)
    below_term ctx (Create a b) h = (below_term ctx a h.0.1, below_term ctx b h.1.1)
    below_term ctx (Anon a l d) h = (below_term ctx a h.0.1, below_loc ctx l h.1, below_term ctx d h.2.1)
    below_term ctx (NamedField f) h = tt
    below_term ctx CreatedField h = tt
    below_term ctx (ElementField a) h = below_term ctx a h.1

    pub below_loc : (ctx : List Sort) (l : PlainLoc) → SpelledLoc names ctx l → BelowLoc (length ctx) l
    below_loc ctx NoLocations h = tt
    below_loc ctx AllLocations h = tt
    below_loc ctx (Single a b) h = (below_term ctx a h.0.1, below_term ctx b h.1.1)
    below_loc ctx (ObjectFields a) h = below_term ctx a h.1
    below_loc ctx (ArrayElements a) h = below_term ctx a h.1
    below_loc ctx (ElementRange a b d) h = (below_term ctx a h.0.1, below_term ctx b h.1.1, below_term ctx d h.2.1)
    below_loc ctx (Union l m) h = (below_loc ctx l h.0, below_loc ctx m h.1)

  below_pairs : (ctx : List Sort) (ps : Pairs) → SpelledPairs names ctx ps → BelowUpdate (length ctx) ps
  below_pairs ctx [] h = tt
  below_pairs ctx (p ∷ ps) h = (below_term ctx p.1 h.0.1.1, below_pairs ctx ps h.1)

  pub below_formula : (ctx : List Sort) (a : PlainFormula) → SpelledFormula names ctx a → BelowIn (length ctx) a
  below_formula ctx TrueFormula h = tt
  below_formula ctx FalseFormula h = tt
  below_formula ctx (Not a) h = below_formula ctx a h
  below_formula ctx (And a b) h = (below_formula ctx a h.0, below_formula ctx b h.1)
  below_formula ctx (Or a b) h = (below_formula ctx a h.0, below_formula ctx b h.1)
  below_formula ctx (Implies a b) h = (below_formula ctx a h.0, below_formula ctx b h.1)
  below_formula ctx (Iff a b) h = (below_formula ctx a h.0, below_formula ctx b h.1)
  below_formula ctx (Equal a b) h = (below_term ctx a h.1, below_term ctx b h.2)
  below_formula ctx (Less a b) h = (below_term ctx a h.0.1, below_term ctx b h.1.1)
  below_formula ctx (LessOrEqual a b) h = (below_term ctx a h.0.1, below_term ctx b h.1.1)
  below_formula ctx (Forall q a) h = below_formula (q ∷ ctx) a h.1
  below_formula ctx (Exists q a) h = below_formula (q ∷ ctx) a h.1
  below_formula ctx (Updated ps a) h = (below_pairs ctx ps h.1, below_formula ctx a h.2)
  below_formula ctx (Modal m ss a) h = below_formula ctx a h.2
  below_formula ctx (InLocations a b l) h = (below_term ctx a h.0.1, below_term ctx b h.1.1, below_loc ctx l h.2)
  below_formula ctx (InInt a) h = below_term ctx a h.1
  below_formula ctx (WellFormed a) h = below_term ctx a h.1
  below_formula ctx (Invariant a b) h = (below_term ctx a h.0.1, below_term ctx b h.1.1)
  below_formula ctx (IsInstance j a) h = below_term ctx a h.1.1
  below_formula ctx (IsExactInstance j a) h = below_term ctx a h.1.1

-- ---- each leaf of a spelled tree is as it has to be, where an index of a binder is

module _ (names : NameTable) (below : ℕ → ℕ) (Fits : ℕ → PlainTerm → Type 0) (R : ℕ → List Sort → Type 0)
    (under : (k : ℕ) (ctx : List Sort) (s : Sort) → R k ctx → R (below k) (s ∷ ctx))
    (variable : (k : ℕ) (x : Name) → Fits k (ProgramVariable x))
    (constant : (k : ℕ) (x : Name) → Fits k (Constant x))
    (index : (k : ℕ) (ctx : List Sort) → R k ctx → (i : ℕ) (s : Sort) → at_number ctx i ≡ Some s → Fits k (Bound i s)) where
  mutual
    pub leaves_of_term : (k : ℕ) (ctx : List Sort) → R k ctx → (t : PlainTerm) → SpelledTerm names ctx t → EachLeaf below Fits k t
    leaves_of_term k ctx r (Number z) h = tt
    leaves_of_term k ctx r (Boolean z) h = tt
    leaves_of_term k ctx r NullTerm h = tt
    leaves_of_term k ctx r (ProgramVariable x) h = variable k x
    leaves_of_term k ctx r (Constant x) h = constant k x
    leaves_of_term k ctx r (Bound i s) h = index k ctx r i s h
    leaves_of_term k ctx r (Arithmetic op a b) h = (leaves_of_term k ctx r a h.0.1, leaves_of_term k ctx r b h.1.1)
    leaves_of_term k ctx r (Negation a) h = leaves_of_term k ctx r a h.1
    leaves_of_term k ctx r (Wrap a) h = leaves_of_term k ctx r a h.1
    leaves_of_term k ctx r (Length a) h = leaves_of_term k ctx r a h.1
    leaves_of_term k ctx r (Select s a b d) h = (leaves_of_term k ctx r a h.1.1, leaves_of_term k ctx r b h.2.1, leaves_of_term k ctx r d h.3.1)
    leaves_of_term k ctx r (Sum a b d) h = (leaves_of_term k ctx r a h.0.1, leaves_of_term k ctx r b h.1.1, leaves_of_term (below k) (IntSort ∷ ctx) (under k ctx IntSort r) d h.2.1)
    leaves_of_term k ctx r (Store a b c d) h = (leaves_of_term k ctx r a h.0.1, leaves_of_term k ctx r b h.1.1, leaves_of_term k ctx r c h.2.1, leaves_of_term k ctx r d h.3)
    leaves_of_term k ctx r (Create a b) h = (leaves_of_term k ctx r a h.0.1, leaves_of_term k ctx r b h.1.1)
    leaves_of_term k ctx r (Anon a l d) h = (leaves_of_term k ctx r a h.0.1, leaves_of_loc k ctx r l h.1, leaves_of_term k ctx r d h.2.1)
    leaves_of_term k ctx r (NamedField f) h = tt
    leaves_of_term k ctx r CreatedField h = tt
    leaves_of_term k ctx r (ElementField a) h = leaves_of_term k ctx r a h.1

    pub leaves_of_loc : (k : ℕ) (ctx : List Sort) → R k ctx → (l : PlainLoc) → SpelledLoc names ctx l → EachLeafOfLoc below Fits k l
    leaves_of_loc k ctx r NoLocations h = tt
    leaves_of_loc k ctx r AllLocations h = tt
    leaves_of_loc k ctx r (Single a b) h = (leaves_of_term k ctx r a h.0.1, leaves_of_term k ctx r b h.1.1)
    leaves_of_loc k ctx r (ObjectFields a) h = leaves_of_term k ctx r a h.1
    leaves_of_loc k ctx r (ArrayElements a) h = leaves_of_term k ctx r a h.1
    leaves_of_loc k ctx r (ElementRange a b d) h = (leaves_of_term k ctx r a h.0.1, leaves_of_term k ctx r b h.1.1, leaves_of_term k ctx r d h.2.1)
    leaves_of_loc k ctx r (Union l m) h = (leaves_of_loc k ctx r l h.0, leaves_of_loc k ctx r m h.1)

  leaves_of_pairs : (k : ℕ) (ctx : List Sort) → R k ctx → (ps : Pairs) → SpelledPairs names ctx ps → EachLeafOfPairs below Fits k ps
  leaves_of_pairs k ctx r [] h = All-nil (λ (p : Name × PlainTerm). EachLeaf below Fits k p.1)
  leaves_of_pairs k ctx r (p ∷ ps) h = All-cons (λ (q : Name × PlainTerm). EachLeaf below Fits k q.1) p ps (leaves_of_term k ctx r p.1 h.0.1.1) (leaves_of_pairs k ctx r ps h.1)

  pub leaves_of_formula : (k : ℕ) (ctx : List Sort) → R k ctx → (a : PlainFormula) → SpelledFormula names ctx a → EachLeafOfFormula below Fits k a
  leaves_of_formula k ctx r TrueFormula h = tt
  leaves_of_formula k ctx r FalseFormula h = tt
  leaves_of_formula k ctx r (Not a) h = leaves_of_formula k ctx r a h
  leaves_of_formula k ctx r (And a b) h = (leaves_of_formula k ctx r a h.0, leaves_of_formula k ctx r b h.1)
  leaves_of_formula k ctx r (Or a b) h = (leaves_of_formula k ctx r a h.0, leaves_of_formula k ctx r b h.1)
  leaves_of_formula k ctx r (Implies a b) h = (leaves_of_formula k ctx r a h.0, leaves_of_formula k ctx r b h.1)
  leaves_of_formula k ctx r (Iff a b) h = (leaves_of_formula k ctx r a h.0, leaves_of_formula k ctx r b h.1)
  leaves_of_formula k ctx r (Equal a b) h = (leaves_of_term k ctx r a h.1, leaves_of_term k ctx r b h.2)
  leaves_of_formula k ctx r (Less a b) h = (leaves_of_term k ctx r a h.0.1, leaves_of_term k ctx r b h.1.1)
  leaves_of_formula k ctx r (LessOrEqual a b) h = (leaves_of_term k ctx r a h.0.1, leaves_of_term k ctx r b h.1.1)
  leaves_of_formula k ctx r (Forall q a) h = leaves_of_formula (below k) (q ∷ ctx) (under k ctx q r) a h.1
  leaves_of_formula k ctx r (Exists q a) h = leaves_of_formula (below k) (q ∷ ctx) (under k ctx q r) a h.1
  leaves_of_formula k ctx r (Updated ps a) h = (leaves_of_pairs k ctx r ps h.1, leaves_of_formula k ctx r a h.2)
  leaves_of_formula k ctx r (Modal m ss a) h = leaves_of_formula k ctx r a h.2
  leaves_of_formula k ctx r (InLocations a b l) h = (leaves_of_term k ctx r a h.0.1, leaves_of_term k ctx r b h.1.1, leaves_of_loc k ctx r l h.2)
  leaves_of_formula k ctx r (InInt a) h = leaves_of_term k ctx r a h.1
  leaves_of_formula k ctx r (WellFormed a) h = leaves_of_term k ctx r a h.1
  leaves_of_formula k ctx r (Invariant a b) h = (leaves_of_term k ctx r a h.0.1, leaves_of_term k ctx r b h.1.1)
  leaves_of_formula k ctx r (IsInstance j a) h = leaves_of_term k ctx r a h.1.1
  leaves_of_formula k ctx r (IsExactInstance j a) h = leaves_of_term k ctx r a h.1.1

-- ---- an index has the sort of its binder

-- the binder of the number has the sort
abbrev HasBinder : Sort → ℕ → List Sort → Type 0
HasBinder s k ctx = at_number ctx k ≡ Some s

next_binder : (s : Sort) (k : ℕ) (ctx : List Sort) (q : Sort) → HasBinder s k ctx → HasBinder s (k + 1) (q ∷ ctx)
next_binder s k ctx q e = subst (λ n. HasBinder s n (q ∷ ctx)) (sym (add-one k)) e

sort_of_index : (s : Sort) (k : ℕ) (ctx : List Sort) → HasBinder s k ctx → (i : ℕ) (r : Sort) → at_number ctx i ≡ Some r → LeafSortAgrees s k (Bound i r)
sort_of_index s k ctx e i r h same = some_same r s (sym (subst (λ n. HasBinder r n ctx) same h) ∙ e)

module _ (names : NameTable) (s : Sort) (ctx : List Sort) where
  pub sorts_in_term : (t : PlainTerm) → SpelledTerm names (s ∷ ctx) t → TermSortsAgree 0 s t
  sorts_in_term t h = leaves_of_term names (λ n. n + 1) (LeafSortAgrees s) (HasBinder s) (next_binder s) (λ k x. tt) (λ k x. tt) (sort_of_index s) 0 (s ∷ ctx) refl t h

  pub sorts_in_loc : (l : PlainLoc) → SpelledLoc names (s ∷ ctx) l → LocSortsAgree 0 s l
  sorts_in_loc l h = leaves_of_loc names (λ n. n + 1) (LeafSortAgrees s) (HasBinder s) (next_binder s) (λ k x. tt) (λ k x. tt) (sort_of_index s) 0 (s ∷ ctx) refl l h

  pub sorts_in_formula : (a : PlainFormula) → SpelledFormula names (s ∷ ctx) a → SortsAgree 0 s a
  sorts_in_formula a h = leaves_of_formula names (λ n. n + 1) (LeafSortAgrees s) (HasBinder s) (next_binder s) (λ k x. tt) (λ k x. tt) (sort_of_index s) 0 (s ∷ ctx) refl a h
