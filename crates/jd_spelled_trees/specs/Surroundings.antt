-- The binders around a place: those outside, and those of what surrounds it, the innermost first.
use Rattle.std.specs.Prelude.{List, ◌∷◌}
use Rattle.jd_base.specs.declared.sort.Sort.{Sort}
use Rattle.jd_base.specs.declared.sort.Sort.TheVariants.{Int as IntSort}
use Rattle.jd_model.specs.Holes.{AllH, AndL, AndR, AnonT0, AnonT1, AnonT2, Arith1, Arith2, Around, AtomHole, CreateT0, CreateT1, Eq0, Eq1, ExH, Exact1, Hole, IdxT0, IffL, IffR, ImpL, ImpR, In0, In1, In2, InInt0, Inst1, Inv0, Inv1, LArr0, LArr1, LArr2, LArrAll0, LLoc0, LLoc1, LObj0, LUnion0, LUnion1, Le0, Le1, Len0, LocHole, Lt0, Lt1, ModalH, Neg0, NotH, OrL, OrR, Select1, Select2, Select3, StoreT0, StoreT1, StoreT2, StoreT3, Sum0, Sum1, Sum2, TermHole, UpdH, UpdRight, Wf0, WholeTerm, Wrap0}

abbrev pub inside : Around → List Sort → List Sort
inside Hole ctx = ctx
inside (NotH h) ctx = inside h ctx
inside (AndL h c) ctx = inside h ctx
inside (OrL h c) ctx = inside h ctx
inside (ImpL h c) ctx = inside h ctx
inside (IffL h c) ctx = inside h ctx
inside (AndR c h) ctx = inside h ctx
inside (OrR c h) ctx = inside h ctx
inside (ImpR c h) ctx = inside h ctx
inside (IffR c h) ctx = inside h ctx
inside (AllH s h) ctx = inside h (s ∷ ctx)
inside (ExH s h) ctx = inside h (s ∷ ctx)
inside (UpdH u h) ctx = inside h ctx
inside (ModalH m c h) ctx = inside h ctx

-- the body of a sum has an index of its own
abbrev mutual
  pub inside_term : TermHole → List Sort → List Sort
  inside_term WholeTerm ctx = ctx
  inside_term (Arith1 op h b) ctx = inside_term h ctx
  inside_term (Arith2 op a h) ctx = inside_term h ctx
  inside_term (Neg0 h) ctx = inside_term h ctx
  inside_term (Wrap0 h) ctx = inside_term h ctx
  inside_term (Len0 h) ctx = inside_term h ctx
  inside_term (Select1 s h b c) ctx = inside_term h ctx
  inside_term (Select2 s a h c) ctx = inside_term h ctx
  inside_term (Select3 s a b h) ctx = inside_term h ctx
  inside_term (Sum0 h b c) ctx = inside_term h ctx
  inside_term (Sum1 a h c) ctx = inside_term h ctx
  inside_term (Sum2 a b h) ctx = inside_term h (IntSort ∷ ctx)
  inside_term (StoreT0 h b c d) ctx = inside_term h ctx
  inside_term (StoreT1 a h c d) ctx = inside_term h ctx
  inside_term (StoreT2 a b h d) ctx = inside_term h ctx
  inside_term (StoreT3 a b c h) ctx = inside_term h ctx
  inside_term (CreateT0 h b) ctx = inside_term h ctx
  inside_term (CreateT1 a h) ctx = inside_term h ctx
  inside_term (AnonT0 h l b) ctx = inside_term h ctx
  inside_term (AnonT1 a h b) ctx = inside_loc h ctx
  inside_term (AnonT2 a l h) ctx = inside_term h ctx
  inside_term (IdxT0 h) ctx = inside_term h ctx

  pub inside_loc : LocHole → List Sort → List Sort
  inside_loc (LLoc0 h b) ctx = inside_term h ctx
  inside_loc (LLoc1 a h) ctx = inside_term h ctx
  inside_loc (LObj0 h) ctx = inside_term h ctx
  inside_loc (LArrAll0 h) ctx = inside_term h ctx
  inside_loc (LArr0 h b c) ctx = inside_term h ctx
  inside_loc (LArr1 a h c) ctx = inside_term h ctx
  inside_loc (LArr2 a b h) ctx = inside_term h ctx
  inside_loc (LUnion0 h m) ctx = inside_loc h ctx
  inside_loc (LUnion1 l h) ctx = inside_loc h ctx

abbrev pub inside_atom : AtomHole → List Sort → List Sort
inside_atom (Eq0 h b) ctx = inside_term h ctx
inside_atom (Eq1 a h) ctx = inside_term h ctx
inside_atom (Lt0 h b) ctx = inside_term h ctx
inside_atom (Lt1 a h) ctx = inside_term h ctx
inside_atom (Le0 h b) ctx = inside_term h ctx
inside_atom (Le1 a h) ctx = inside_term h ctx
inside_atom (In0 h b l) ctx = inside_term h ctx
inside_atom (In1 a h l) ctx = inside_term h ctx
inside_atom (In2 a b h) ctx = inside_loc h ctx
inside_atom (InInt0 h) ctx = inside_term h ctx
inside_atom (Wf0 h) ctx = inside_term h ctx
inside_atom (Inv0 h b) ctx = inside_term h ctx
inside_atom (Inv1 a h) ctx = inside_term h ctx
inside_atom (Inst1 k h) ctx = inside_term h ctx
inside_atom (Exact1 k h) ctx = inside_term h ctx
inside_atom (UpdRight v y h w a) ctx = inside_term h ctx
