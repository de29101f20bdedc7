-- What is closed has no index that a shift raises.
use Rattle.std.proofs.Common.{ℕ, zero, suc, ◌+◌, ◌<◌, ◌≤◌, arith}
use Rattle.jd_term.specs.Shifts.{LocFits, TermFits}
use Rattle.jd_term.specs.Terms.{PlainTerm, Number, Boolean, NullTerm, ProgramVariable, Constant, Bound, Arithmetic, Negation, Wrap, Length, Select, Sum, Store, Create, Anon, NamedField, CreatedField, ElementField, PlainLoc, NoLocations, AllLocations, Single, ObjectFields, ArrayElements, ElementRange, Union}
use Rattle.jd_model.specs.Closed.{Below, BelowLoc, IsBelow}

less : (i c : ℕ) → IsBelow i c → i < c
less i zero h = absurd h
less zero (suc c) h = omega arith
less (suc i) (suc c) h = omega (arith, less i c h)

module _ (by : ℕ) where
  mutual
    term_fits : (c k : ℕ) (t : PlainTerm) → c ≤ k → Below c t → TermFits k by t
    term_fits c k (Number n) le h = tt
    term_fits c k (Boolean b) le h = tt
    term_fits c k NullTerm le h = tt
    term_fits c k (ProgramVariable x) le h = tt
    term_fits c k (Constant x) le h = tt
    term_fits c k (Bound i s) le h = λ at. absurd (omega (arith, le, at, less i c h))
    term_fits c k (Arithmetic op a b) le h = (term_fits c k a le h.0, term_fits c k b le h.1)
    term_fits c k (Negation a) le h = term_fits c k a le h
    term_fits c k (Wrap a) le h = term_fits c k a le h
    term_fits c k (Length a) le h = term_fits c k a le h
    term_fits c k (Select s a b d) le h = (term_fits c k a le h.0, term_fits c k b le h.1, term_fits c k d le h.2)
    term_fits c k (Sum a b d) le h = (term_fits c k a le h.0, term_fits c k b le h.1, term_fits (suc c) (k + 1) d (omega (arith, le)) h.2)
    term_fits c k (Store a b d e) le h = (term_fits c k a le h.0, term_fits c k b le h.1, term_fits c k d le h.2, term_fits c k e le h.3)
    term_fits c k (Create a b) le h = (term_fits c k a le h.0, term_fits c k b le h.1)
    term_fits c k (Anon a b d) le h = (term_fits c k a le h.0, loc_fits c k b le h.1, term_fits c k d le h.2)
    term_fits c k (NamedField f) le h = tt
    term_fits c k CreatedField le h = tt
    term_fits c k (ElementField a) le h = term_fits c k a le h

    pub loc_fits : (c k : ℕ) (l : PlainLoc) → c ≤ k → BelowLoc c l → LocFits k by l
    loc_fits c k NoLocations le h = tt
    loc_fits c k AllLocations le h = tt
    loc_fits c k (Single a b) le h = (term_fits c k a le h.0, term_fits c k b le h.1)
    loc_fits c k (ObjectFields a) le h = term_fits c k a le h
    loc_fits c k (ArrayElements a) le h = term_fits c k a le h
    loc_fits c k (ElementRange a b d) le h = (term_fits c k a le h.0, term_fits c k b le h.1, term_fits c k d le h.2)
    loc_fits c k (Union a b) le h = (loc_fits c k a le h.0, loc_fits c k b le h.1)
