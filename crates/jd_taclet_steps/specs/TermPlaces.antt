-- The places of terms, by paths and by what surrounds them.
use Rattle.std.specs.Prelude.{◌≡◌, ℕ, suc, List, [], ◌∷◌, ◌++◌, length, Some}
use Rattle.jd_term.specs.Terms.{PlainTerm}
use Rattle.jd_model.specs.Holes.{Around, plug, TermHole, WholeTerm, Arith1, Arith2, Neg0, Wrap0, Len0, Select1, Select2, Select3, Sum0, Sum1, Sum2, StoreT0, StoreT1, StoreT2, StoreT3, CreateT0, CreateT1, AnonT0, AnonT1, AnonT2, IdxT0, LocHole, LLoc0, LLoc1, LObj0, LArrAll0, LArr0, LArr1, LArr2, LUnion0, LUnion1, AtomHole, Eq0, Eq1, Lt0, Lt1, Le0, Le1, In0, In1, In2, InInt0, Wf0, Inv0, Inv1, Inst1, Exact1, UpdRight, fill_atom}
use Rattle.jd_model.specs.Places.{TermPart, at_place}
use Rattle.jd_model.specs.Sequents.{PlainSequent, PlainPlace}
use Rattle.jd_taclet_steps.specs.Steps.{Spot, whole}
use Rattle.jd_taclet_steps.specs.Places.{path_of, place_of}

-- the numbers of the children down to the place, in a term, a location set and an atom; those of an update are its right sides first
abbrev mutual
  pub term_path : TermHole → List ℕ
  term_path WholeTerm = []
  term_path (Arith1 op h b) = 1 ∷ term_path h
  term_path (Arith2 op a h) = 2 ∷ term_path h
  term_path (Neg0 h) = 1 ∷ term_path h
  term_path (Wrap0 h) = 1 ∷ term_path h
  term_path (Len0 h) = 1 ∷ term_path h
  term_path (Select1 s h b c) = 1 ∷ term_path h
  term_path (Select2 s a h c) = 2 ∷ term_path h
  term_path (Select3 s a b h) = 3 ∷ term_path h
  term_path (Sum0 h b c) = 1 ∷ term_path h
  term_path (Sum1 a h c) = 2 ∷ term_path h
  term_path (Sum2 a b h) = 3 ∷ term_path h
  term_path (StoreT0 h b c d) = 1 ∷ term_path h
  term_path (StoreT1 a h c d) = 2 ∷ term_path h
  term_path (StoreT2 a b h d) = 3 ∷ term_path h
  term_path (StoreT3 a b c h) = 4 ∷ term_path h
  term_path (CreateT0 h b) = 1 ∷ term_path h
  term_path (CreateT1 a h) = 2 ∷ term_path h
  term_path (AnonT0 h l b) = 1 ∷ term_path h
  term_path (AnonT1 a h b) = 2 ∷ loc_path h
  term_path (AnonT2 a l h) = 3 ∷ term_path h
  term_path (IdxT0 h) = 1 ∷ term_path h

  pub loc_path : LocHole → List ℕ
  loc_path (LLoc0 h b) = 1 ∷ term_path h
  loc_path (LLoc1 a h) = 2 ∷ term_path h
  loc_path (LObj0 h) = 1 ∷ term_path h
  loc_path (LArrAll0 h) = 1 ∷ term_path h
  loc_path (LArr0 h b c) = 1 ∷ term_path h
  loc_path (LArr1 a h c) = 2 ∷ term_path h
  loc_path (LArr2 a b h) = 3 ∷ term_path h
  loc_path (LUnion0 h m) = 1 ∷ loc_path h
  loc_path (LUnion1 l h) = 2 ∷ loc_path h

abbrev pub atom_path : AtomHole → List ℕ
atom_path (Eq0 h b) = 1 ∷ term_path h
atom_path (Eq1 a h) = 2 ∷ term_path h
atom_path (Lt0 h b) = 1 ∷ term_path h
atom_path (Lt1 a h) = 2 ∷ term_path h
atom_path (Le0 h b) = 1 ∷ term_path h
atom_path (Le1 a h) = 2 ∷ term_path h
atom_path (In0 h b l) = 1 ∷ term_path h
atom_path (In1 a h l) = 2 ∷ term_path h
atom_path (In2 a b h) = 3 ∷ loc_path h
atom_path (InInt0 h) = 1 ∷ term_path h
atom_path (Wf0 h) = 1 ∷ term_path h
atom_path (Inv0 h b) = 1 ∷ term_path h
atom_path (Inv1 a h) = 2 ∷ term_path h
atom_path (Inst1 j h) = 1 ∷ term_path h
atom_path (Exact1 j h) = 1 ∷ term_path h
atom_path (UpdRight v y h w a) = suc (length v) ∷ term_path h

-- a place where a term stands is one that something surrounds
pub record IsTermSurrounded (s : PlainSequent) (p : PlainPlace) (t : PlainTerm) : Type 0 where
  pub spot : Spot
  pub around : Around
  pub atom : AtomHole
  pub sequent : s ≡ whole spot (plug around (fill_atom atom t))
  pub place : p ≡ place_of spot (path_of around ++ atom_path atom)

-- and it is what stands there
pub record TermPlacesAreSurrounded : Type 0 where
  pub each : (s : PlainSequent) (p : PlainPlace) (t : PlainTerm) → at_place s p ≡ Some (TermPart t) → IsTermSurrounded s p t
  pub found : (w : Spot) (h : Around) (a : AtomHole) (t : PlainTerm) → at_place (whole w (plug h (fill_atom a t))) (place_of w (path_of h ++ atom_path a)) ≡ Some (TermPart t)
