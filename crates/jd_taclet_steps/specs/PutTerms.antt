-- A sequent with another term at a place.
use Rattle.std.specs.Prelude.{◌≡◌, ℕ, zero, suc, cond, nat_eq, List, [], ◌∷◌, ◌++◌, length}
use Rattle.jd_term.specs.Terms.{PlainTerm, Arithmetic, Negation, Wrap, Length, Select, Sum, Store, Create, Anon, ElementField, PlainLoc, Single, ObjectFields, ArrayElements, ElementRange, Union}
use Rattle.jd_term.specs.Formulas.{Pairs, PlainFormula, Updated, Equal, Less, LessOrEqual, InLocations, InInt, WellFormed, Invariant, IsInstance, IsExactInstance, Not, And, Or, Implies, Iff, Forall, Exists, Modal}
use Rattle.jd_model.specs.declared.sequent.Side.{Side}
use Rattle.jd_model.specs.declared.sequent.Side.TheVariants.{Left, Right}
use Rattle.jd_model.specs.Holes.{Around, plug, AtomHole, fill_atom}
use Rattle.jd_model.specs.Sequents.{PlainSequent, PlainPlace}
use Rattle.jd_taclet_steps.specs.Steps.{Spot, whole}
use Rattle.jd_taclet_steps.specs.Places.{path_of, place_of}
use Rattle.jd_taclet_steps.specs.TermPlaces.{atom_path}

-- the tree with another term at the end of a path; a tree without such a place stays
abbrev mutual
  pub put_term : List ℕ → PlainTerm → PlainTerm → PlainTerm
  put_term [] new t = new
  put_term (k ∷ ks) new (Arithmetic op a b) = Arithmetic op (cond (nat_eq k 1) (put_term ks new a) a) (cond (nat_eq k 2) (put_term ks new b) b)
  put_term (k ∷ ks) new (Negation a) = Negation (cond (nat_eq k 1) (put_term ks new a) a)
  put_term (k ∷ ks) new (Wrap a) = Wrap (cond (nat_eq k 1) (put_term ks new a) a)
  put_term (k ∷ ks) new (Length a) = Length (cond (nat_eq k 1) (put_term ks new a) a)
  put_term (k ∷ ks) new (Select s a b c) = Select s (cond (nat_eq k 1) (put_term ks new a) a) (cond (nat_eq k 2) (put_term ks new b) b) (cond (nat_eq k 3) (put_term ks new c) c)
  put_term (k ∷ ks) new (Sum a b c) = Sum (cond (nat_eq k 1) (put_term ks new a) a) (cond (nat_eq k 2) (put_term ks new b) b) (cond (nat_eq k 3) (put_term ks new c) c)
  put_term (k ∷ ks) new (Store a b c d) = Store (cond (nat_eq k 1) (put_term ks new a) a) (cond (nat_eq k 2) (put_term ks new b) b) (cond (nat_eq k 3) (put_term ks new c) c) (cond (nat_eq k 4) (put_term ks new d) d)
  put_term (k ∷ ks) new (Create a b) = Create (cond (nat_eq k 1) (put_term ks new a) a) (cond (nat_eq k 2) (put_term ks new b) b)
  put_term (k ∷ ks) new (Anon a l b) = Anon (cond (nat_eq k 1) (put_term ks new a) a) (cond (nat_eq k 2) (put_loc ks new l) l) (cond (nat_eq k 3) (put_term ks new b) b)
  put_term (k ∷ ks) new (ElementField a) = ElementField (cond (nat_eq k 1) (put_term ks new a) a)
  put_term path new t = t

  pub put_loc : List ℕ → PlainTerm → PlainLoc → PlainLoc
  put_loc (k ∷ ks) new (Single a b) = Single (cond (nat_eq k 1) (put_term ks new a) a) (cond (nat_eq k 2) (put_term ks new b) b)
  put_loc (k ∷ ks) new (ObjectFields a) = ObjectFields (cond (nat_eq k 1) (put_term ks new a) a)
  put_loc (k ∷ ks) new (ArrayElements a) = ArrayElements (cond (nat_eq k 1) (put_term ks new a) a)
  put_loc (k ∷ ks) new (ElementRange a b c) = ElementRange (cond (nat_eq k 1) (put_term ks new a) a) (cond (nat_eq k 2) (put_term ks new b) b) (cond (nat_eq k 3) (put_term ks new c) c)
  put_loc (k ∷ ks) new (Union l m) = Union (cond (nat_eq k 1) (put_loc ks new l) l) (cond (nat_eq k 2) (put_loc ks new m) m)
  put_loc path new l = l

-- the right sides of an update are its first children, from 1
abbrev pub put_pairs : ℕ → List ℕ → PlainTerm → Pairs → Pairs
put_pairs k ks new [] = []
put_pairs zero ks new (p ∷ u) = p ∷ u
put_pairs (suc zero) ks new (p ∷ u) = (p.0, put_term ks new p.1) ∷ u
put_pairs (suc (suc k)) ks new (p ∷ u) = p ∷ put_pairs (suc k) ks new u

abbrev pub put_below : List ℕ → PlainTerm → PlainFormula → PlainFormula
put_below (k ∷ ks) new (Not a) = Not (cond (nat_eq k 1) (put_below ks new a) a)
put_below (k ∷ ks) new (And a b) = And (cond (nat_eq k 1) (put_below ks new a) a) (cond (nat_eq k 2) (put_below ks new b) b)
put_below (k ∷ ks) new (Or a b) = Or (cond (nat_eq k 1) (put_below ks new a) a) (cond (nat_eq k 2) (put_below ks new b) b)
put_below (k ∷ ks) new (Implies a b) = Implies (cond (nat_eq k 1) (put_below ks new a) a) (cond (nat_eq k 2) (put_below ks new b) b)
put_below (k ∷ ks) new (Iff a b) = Iff (cond (nat_eq k 1) (put_below ks new a) a) (cond (nat_eq k 2) (put_below ks new b) b)
put_below (k ∷ ks) new (Forall s a) = Forall s (cond (nat_eq k 1) (put_below ks new a) a)
put_below (k ∷ ks) new (Exists s a) = Exists s (cond (nat_eq k 1) (put_below ks new a) a)
put_below (k ∷ ks) new (Modal m c a) = Modal m c (cond (nat_eq k 1) (put_below ks new a) a)
put_below (k ∷ ks) new (Updated u a) = Updated (put_pairs k ks new u) (cond (nat_eq k (suc (length u))) (put_below ks new a) a)
put_below (k ∷ ks) new (Equal a b) = Equal (cond (nat_eq k 1) (put_term ks new a) a) (cond (nat_eq k 2) (put_term ks new b) b)
put_below (k ∷ ks) new (Less a b) = Less (cond (nat_eq k 1) (put_term ks new a) a) (cond (nat_eq k 2) (put_term ks new b) b)
put_below (k ∷ ks) new (LessOrEqual a b) = LessOrEqual (cond (nat_eq k 1) (put_term ks new a) a) (cond (nat_eq k 2) (put_term ks new b) b)
put_below (k ∷ ks) new (InLocations a b l) = InLocations (cond (nat_eq k 1) (put_term ks new a) a) (cond (nat_eq k 2) (put_term ks new b) b) (cond (nat_eq k 3) (put_loc ks new l) l)
put_below (k ∷ ks) new (InInt a) = InInt (cond (nat_eq k 1) (put_term ks new a) a)
put_below (k ∷ ks) new (WellFormed a) = WellFormed (cond (nat_eq k 1) (put_term ks new a) a)
put_below (k ∷ ks) new (Invariant a b) = Invariant (cond (nat_eq k 1) (put_term ks new a) a) (cond (nat_eq k 2) (put_term ks new b) b)
put_below (k ∷ ks) new (IsInstance j a) = IsInstance j (cond (nat_eq k 1) (put_term ks new a) a)
put_below (k ∷ ks) new (IsExactInstance j a) = IsExactInstance j (cond (nat_eq k 1) (put_term ks new a) a)
put_below path new a = a

abbrev pub put_in_list : List PlainFormula → ℕ → List ℕ → PlainTerm → List PlainFormula
put_in_list [] k path new = []
put_in_list (a ∷ l) zero path new = a ∷ l
put_in_list (a ∷ l) (suc zero) path new = put_below path new a ∷ l
put_in_list (a ∷ l) (suc (suc k)) path new = a ∷ put_in_list l (suc k) path new

abbrev pub put_term_on : Side → PlainSequent → ℕ → List ℕ → PlainTerm → PlainSequent
put_term_on Left s k path new = record { left = put_in_list s.left k path new; right = s.right }
put_term_on Right s k path new = record { left = s.left; right = put_in_list s.right k path new }

abbrev pub put_term_at : PlainSequent → PlainPlace → PlainTerm → PlainSequent
put_term_at s p new = put_term_on p.side s p.index p.path new

-- a term that is put at a place is surrounded as the old one
abbrev pub TermsAreReplaced : Type 0
TermsAreReplaced = (w : Spot) (h : Around) (a : AtomHole) (t u : PlainTerm) → put_term_at (whole w (plug h (fill_atom a t))) (place_of w (path_of h ++ atom_path a)) u ≡ whole w (plug h (fill_atom a u))
