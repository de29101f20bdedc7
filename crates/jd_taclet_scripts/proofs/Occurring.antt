-- What stands at a place has names that stand in the formula around it.
use Rattle.std.proofs.Common.{[], ◌++◌, ◌∷◌}
use Rattle.jd_syntax.specs.Names.{Name}
use Rattle.jd_term.specs.Formulas.{Pairs, PlainFormula}
use Rattle.jd_term.specs.Terms.{PlainTerm}
use Rattle.jd_model.specs.Holes.{Around, Hole, NotH, AndL, OrL, ImpL, IffL, AndR, OrR, ImpR, IffR, AllH, ExH, UpdH, ModalH, plug, TermHole, WholeTerm, Arith1, Arith2, Neg0, Wrap0, Len0, Select1, Select2, Select3, Sum0, Sum1, Sum2, StoreT0, StoreT1, StoreT2, StoreT3, CreateT0, CreateT1, AnonT0, AnonT1, AnonT2, IdxT0, LocHole, LLoc0, LLoc1, LObj0, LArrAll0, LArr0, LArr1, LArr2, LUnion0, LUnion1, AtomHole, Eq0, Eq1, Lt0, Lt1, Le0, Le1, In0, In1, In2, InInt0, Wf0, Inv0, Inv1, Inst1, Exact1, UpdRight, fill_term, fill_loc, fill_atom}
use Rattle.jd_model.specs.Occurrences.{FormulaIn, LocIn, PairsIn, TermIn}

module _ (P Q : Name → Type 0) where
  mutual
    term_in : (h : TermHole) (t : PlainTerm) → TermIn P Q (fill_term h t) → TermIn P Q t
    term_in WholeTerm t o = o
    term_in (Arith1 op h b) t o = term_in h t o.0
    term_in (Arith2 op a h) t o = term_in h t o.1
    term_in (Neg0 h) t o = term_in h t o
    term_in (Wrap0 h) t o = term_in h t o
    term_in (Len0 h) t o = term_in h t o
    term_in (Select1 s h b c) t o = term_in h t o.0
    term_in (Select2 s a h c) t o = term_in h t o.1
    term_in (Select3 s a b h) t o = term_in h t o.2
    term_in (Sum0 h b c) t o = term_in h t o.0
    term_in (Sum1 a h c) t o = term_in h t o.1
    term_in (Sum2 a b h) t o = term_in h t o.2
    term_in (StoreT0 h b c d) t o = term_in h t o.0
    term_in (StoreT1 a h c d) t o = term_in h t o.1
    term_in (StoreT2 a b h d) t o = term_in h t o.2
    term_in (StoreT3 a b c h) t o = term_in h t o.3
    term_in (CreateT0 h b) t o = term_in h t o.0
    term_in (CreateT1 a h) t o = term_in h t o.1
    term_in (AnonT0 h l b) t o = term_in h t o.0
    term_in (AnonT1 a h b) t o = loc_in h t o.1
    term_in (AnonT2 a l h) t o = term_in h t o.2
    term_in (IdxT0 h) t o = term_in h t o

    loc_in : (h : LocHole) (t : PlainTerm) → LocIn P Q (fill_loc h t) → TermIn P Q t
    loc_in (LLoc0 h b) t o = term_in h t o.0
    loc_in (LLoc1 a h) t o = term_in h t o.1
    loc_in (LObj0 h) t o = term_in h t o
    loc_in (LArrAll0 h) t o = term_in h t o
    loc_in (LArr0 h b c) t o = term_in h t o.0
    loc_in (LArr1 a h c) t o = term_in h t o.1
    loc_in (LArr2 a b h) t o = term_in h t o.2
    loc_in (LUnion0 h m) t o = loc_in h t o.0
    loc_in (LUnion1 l h) t o = loc_in h t o.1

  pair_in : (u : Pairs) (x : Name) (t : PlainTerm) (w : Pairs) → PairsIn P Q (u ++ ((x, t) ∷ w)) → TermIn P Q t
  pair_in [] x t w o = o.0
  pair_in (p ∷ u) x t w o = pair_in u x t w o.1

  pub atom_in : (h : AtomHole) (t : PlainTerm) → FormulaIn P Q (fill_atom h t) → TermIn P Q t
  atom_in (Eq0 h b) t o = term_in h t o.0
  atom_in (Eq1 a h) t o = term_in h t o.1
  atom_in (Lt0 h b) t o = term_in h t o.0
  atom_in (Lt1 a h) t o = term_in h t o.1
  atom_in (Le0 h b) t o = term_in h t o.0
  atom_in (Le1 a h) t o = term_in h t o.1
  atom_in (In0 h b l) t o = term_in h t o.0
  atom_in (In1 a h l) t o = term_in h t o.1
  atom_in (In2 a b h) t o = loc_in h t o.2
  atom_in (InInt0 h) t o = term_in h t o
  atom_in (Wf0 h) t o = term_in h t o
  atom_in (Inv0 h b) t o = term_in h t o.0
  atom_in (Inv1 a h) t o = term_in h t o.1
  atom_in (Inst1 j h) t o = term_in h t o
  atom_in (Exact1 j h) t o = term_in h t o
  atom_in (UpdRight v y h w a) t o = term_in h t (pair_in v y (fill_term h t) w o.0)

  pub plug_in : (h : Around) (a : PlainFormula) → FormulaIn P Q (plug h a) → FormulaIn P Q a
  plug_in Hole a o = o
  plug_in (NotH h) a o = plug_in h a o
  plug_in (AndL h c) a o = plug_in h a o.0
  plug_in (OrL h c) a o = plug_in h a o.0
  plug_in (ImpL h c) a o = plug_in h a o.0
  plug_in (IffL h c) a o = plug_in h a o.0
  plug_in (AndR c h) a o = plug_in h a o.1
  plug_in (OrR c h) a o = plug_in h a o.1
  plug_in (ImpR c h) a o = plug_in h a o.1
  plug_in (IffR c h) a o = plug_in h a o.1
  plug_in (AllH k h) a o = plug_in h a o
  plug_in (ExH k h) a o = plug_in h a o
  plug_in (UpdH u h) a o = plug_in h a o.1
  plug_in (ModalH m c h) a o = plug_in h a o.1
