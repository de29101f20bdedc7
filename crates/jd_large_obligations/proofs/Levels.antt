-- A shift keeps the levels of a set of locations.
use Rattle.std.proofs.Common.{◌≡◌, ◌+◌, ℕ, refl, ap}
use Rattle.std.specs.Prelude.{max}
use Rattle.jd_term.specs.Terms.{PlainTerm, Number, Boolean, NullTerm, ProgramVariable, Constant, Bound, Arithmetic, Negation, Wrap, Length, Select, Sum, Store, Create, Anon, NamedField, CreatedField, ElementField, PlainLoc, NoLocations, AllLocations, Single, ObjectFields, ArrayElements, ElementRange, Union}
use Rattle.jd_term.specs.Shifts.{loc_shift, term_shift}
use Rattle.jd_term.specs.TermSizes.{loc_depth, term_depth}

abbrev over : ℕ → ℕ → ℕ
over a b = 1 + max a b

abbrev over_three : ℕ → ℕ → ℕ → ℕ
over_three a b d = 1 + max (max a b) d

abbrev over_four : ℕ → ℕ → ℕ → ℕ → ℕ
over_four a b d e = 1 + max (max (max a b) d) e

two : (a a' b b' : ℕ) → a ≡ a' → b ≡ b' → over a b ≡ over a' b'
two a a' b b' p q = rw (p, q) refl

three : (a a' b b' d d' : ℕ) → a ≡ a' → b ≡ b' → d ≡ d' → over_three a b d ≡ over_three a' b' d'
three a a' b b' d d' p q r = rw (p, q, r) refl

four : (a a' b b' d d' e e' : ℕ) → a ≡ a' → b ≡ b' → d ≡ d' → e ≡ e' → over_four a b d e ≡ over_four a' b' d' e'
four a a' b b' d d' e e' p q r s = rw (p, q, r, s) refl

module _ (by : ℕ) where
  mutual
    term_levels : (k : ℕ) (t : PlainTerm) → term_depth (term_shift k by t) ≡ term_depth t
    term_levels k (Number n) = refl
    term_levels k (Boolean b) = refl
    term_levels k NullTerm = refl
    term_levels k (ProgramVariable x) = refl
    term_levels k (Constant c) = refl
    term_levels k (Bound i s) = refl
    term_levels k (Arithmetic op a b) = two _ _ _ _ (term_levels k a) (term_levels k b)
    term_levels k (Negation a) = ap (λ n. 1 + n) (term_levels k a)
    term_levels k (Wrap a) = ap (λ n. 1 + n) (term_levels k a)
    term_levels k (Length a) = ap (λ n. 1 + n) (term_levels k a)
    term_levels k (Select s a b d) = three _ _ _ _ _ _ (term_levels k a) (term_levels k b) (term_levels k d)
    term_levels k (Sum a b d) = three _ _ _ _ _ _ (term_levels k a) (term_levels k b) (term_levels (k + 1) d)
    term_levels k (Store a b d e) = four _ _ _ _ _ _ _ _ (term_levels k a) (term_levels k b) (term_levels k d) (term_levels k e)
    term_levels k (Create a b) = two _ _ _ _ (term_levels k a) (term_levels k b)
    term_levels k (Anon a b d) = three _ _ _ _ _ _ (term_levels k a) (loc_levels k b) (term_levels k d)
    term_levels k (NamedField f) = refl
    term_levels k CreatedField = refl
    term_levels k (ElementField a) = ap (λ n. 1 + n) (term_levels k a)

    pub loc_levels : (k : ℕ) (l : PlainLoc) → loc_depth (loc_shift k by l) ≡ loc_depth l
    loc_levels k NoLocations = refl
    loc_levels k AllLocations = refl
    loc_levels k (Single a b) = two _ _ _ _ (term_levels k a) (term_levels k b)
    loc_levels k (ObjectFields a) = ap (λ n. 1 + n) (term_levels k a)
    loc_levels k (ArrayElements a) = ap (λ n. 1 + n) (term_levels k a)
    loc_levels k (ElementRange a b d) = three _ _ _ _ _ _ (term_levels k a) (term_levels k b) (term_levels k d)
    loc_levels k (Union a b) = two _ _ _ _ (loc_levels k a) (loc_levels k b)
