-- What stands in a spelled tree is spelled under the binders around it, and another that is spelled under them may stand there.
use Rattle.std.proofs.Common.{List, [], refl, sym, ◌++◌, ◌∙◌, ◌∷◌, ◌≡◌, ◌≢◌, ℕ}
use Rattle.std.proofs.lemmas.List.Elements.{All-head, All-tail}
use Rattle.jd_base.specs.declared.sort.Sort.{Sort}
use Rattle.jd_base.specs.declared.sort.Sort.TheVariants.{Field as FieldSort, Heap as HeapSort, Int as IntSort, Ref as RefSort}
use Rattle.jd_model.specs.Holes.{AllH, AndL, AndR, Around, AtomHole, AnonT0, AnonT1, AnonT2, Arith1, Arith2, CreateT0, CreateT1, Eq0, Eq1, ExH, Exact1, Hole, IdxT0, IffL, IffR, ImpL, ImpR, In0, In1, In2, InInt0, Inst1, Inv0, Inv1, LArr0, LArr1, LArr2, LArrAll0, LLoc0, LLoc1, LObj0, LUnion0, LUnion1, Le0, Le1, Len0, LocHole, Lt0, Lt1, ModalH, Neg0, NotH, OrL, OrR, Select1, Select2, Select3, StoreT0, StoreT1, StoreT2, StoreT3, Sum0, Sum1, Sum2, TermHole, UpdH, UpdRight, Wf0, WholeTerm, Wrap0, fill_atom, fill_loc, fill_term, plug}
use Rattle.jd_spelled_trees.proofs.Mapped.{moved}
use Rattle.jd_spelled_trees.specs.Spelled.{AtSort, NarrowFormula, NarrowLeaf, NarrowLoc, NarrowPairs, NarrowTerm, SpelledFormula, SpelledLoc, SpelledPairs, SpelledTerm}
use Rattle.jd_spelled_trees.specs.Surroundings.{inside, inside_atom, inside_loc, inside_term}
use Rattle.jd_syntax.specs.Names.{Name}
use Rattle.jd_taclet_steps.specs.Places.{path_of}
use Rattle.jd_term.specs.Formulas.{Pairs, PlainFormula}
use Rattle.jd_term.specs.Maps.{EachLeaf}
use Rattle.jd_term.specs.Terms.{PlainTerm, sort_of_term}
use Rattle.jd_tgrammar.specs.NameTables.{NameTable}

-- ---- formulas in formulas

module _ (names : NameTable) where
  pub there : (ctx : List Sort) (h : Around) (a : PlainFormula) → SpelledFormula names ctx (plug h a) → SpelledFormula names (inside h ctx) a
  there ctx Hole a s = s
  there ctx (NotH h) a s = there ctx h a s
  there ctx (AndL h c) a s = there ctx h a s.0
  there ctx (OrL h c) a s = there ctx h a s.0
  there ctx (ImpL h c) a s = there ctx h a s.0
  there ctx (IffL h c) a s = there ctx h a s.0
  there ctx (AndR c h) a s = there ctx h a s.1
  there ctx (OrR c h) a s = there ctx h a s.1
  there ctx (ImpR c h) a s = there ctx h a s.1
  there ctx (IffR c h) a s = there ctx h a s.1
  there ctx (AllH q h) a s = there (q ∷ ctx) h a s.1
  there ctx (ExH q h) a s = there (q ∷ ctx) h a s.1
  there ctx (UpdH u h) a s = there ctx h a s.2
  there ctx (ModalH m c h) a s = there ctx h a s.2

  pub again : (ctx : List Sort) (h : Around) (a c : PlainFormula) → SpelledFormula names ctx (plug h a) → SpelledFormula names (inside h ctx) c → SpelledFormula names ctx (plug h c)
  again ctx Hole a c s p = p
  again ctx (NotH h) a c s p = again ctx h a c s p
  again ctx (AndL h b) a c s p = (again ctx h a c s.0 p, s.1)
  again ctx (OrL h b) a c s p = (again ctx h a c s.0 p, s.1)
  again ctx (ImpL h b) a c s p = (again ctx h a c s.0 p, s.1)
  again ctx (IffL h b) a c s p = (again ctx h a c s.0 p, s.1)
  again ctx (AndR b h) a c s p = (s.0, again ctx h a c s.1 p)
  again ctx (OrR b h) a c s p = (s.0, again ctx h a c s.1 p)
  again ctx (ImpR b h) a c s p = (s.0, again ctx h a c s.1 p)
  again ctx (IffR b h) a c s p = (s.0, again ctx h a c s.1 p)
  again ctx (AllH q h) a c s p = (s.0, again (q ∷ ctx) h a c s.1 p)
  again ctx (ExH q h) a c s p = (s.0, again (q ∷ ctx) h a c s.1 p)
  again ctx (UpdH u h) a c s p = (s.0, s.1, again ctx h a c s.2 p)
  again ctx (ModalH m k h) a c s p = (s.0, s.1, again ctx h a c s.2 p)

no_cons : {A : Type 0} {x : A} {l : List A} → (x ∷ l) ≡ [] → ⊥
no_cons e = cc

-- a whole formula is under no further binder
pub at_whole : (h : Around) (ctx : List Sort) → path_of h ≡ [] → inside h ctx ≡ ctx
at_whole Hole ctx e = refl
at_whole (NotH h) ctx e = absurd (no_cons e)
at_whole (AndL h c) ctx e = absurd (no_cons e)
at_whole (OrL h c) ctx e = absurd (no_cons e)
at_whole (ImpL h c) ctx e = absurd (no_cons e)
at_whole (IffL h c) ctx e = absurd (no_cons e)
at_whole (AndR c h) ctx e = absurd (no_cons e)
at_whole (OrR c h) ctx e = absurd (no_cons e)
at_whole (ImpR c h) ctx e = absurd (no_cons e)
at_whole (IffR c h) ctx e = absurd (no_cons e)
at_whole (AllH q h) ctx e = absurd (no_cons e)
at_whole (ExH q h) ctx e = absurd (no_cons e)
at_whole (UpdH u h) ctx e = absurd (no_cons e)
at_whole (ModalH m c h) ctx e = absurd (no_cons e)

-- ---- terms in terms and atoms

some_pairs : (v : Pairs) (p : Name × PlainTerm) (w : Pairs) → v ++ (p ∷ w) ≢ []
some_pairs [] p w e = no_cons e
some_pairs (q ∷ v) p w e = no_cons e

module _ (names : NameTable) where
  mutual
    pub there_term : (ctx : List Sort) (h : TermHole) (t : PlainTerm) → SpelledTerm names ctx (fill_term h t) → SpelledTerm names (inside_term h ctx) t
    there_term ctx WholeTerm t s = s
    there_term ctx (Arith1 op h b) t s = there_term ctx h t s.0.1
    there_term ctx (Arith2 op a h) t s = there_term ctx h t s.1.1
    there_term ctx (Neg0 h) t s = there_term ctx h t s.1
    there_term ctx (Wrap0 h) t s = there_term ctx h t s.1
    there_term ctx (Len0 h) t s = there_term ctx h t s.1
    there_term ctx (Select1 q h b d) t s = there_term ctx h t s.1.1
    there_term ctx (Select2 q a h d) t s = there_term ctx h t s.2.1
    there_term ctx (Select3 q a b h) t s = there_term ctx h t s.3.1
    there_term ctx (Sum0 h b d) t s = there_term ctx h t s.0.1
    there_term ctx (Sum1 a h d) t s = there_term ctx h t s.1.1
    there_term ctx (Sum2 a b h) t s = there_term (IntSort ∷ ctx) h t s.2.1
    there_term ctx (StoreT0 h b c d) t s = there_term ctx h t s.0.1
    there_term ctx (StoreT1 a h c d) t s = there_term ctx h t s.1.1
    there_term ctx (StoreT2 a b h d) t s = there_term ctx h t s.2.1
    there_term ctx (StoreT3 a b c h) t s = there_term ctx h t s.3
    there_term ctx (CreateT0 h b) t s = there_term ctx h t s.0.1
    there_term ctx (CreateT1 a h) t s = there_term ctx h t s.1.1
    there_term ctx (AnonT0 h l d) t s = there_term ctx h t s.0.1
    there_term ctx (AnonT1 a h d) t s = there_loc ctx h t s.1
    there_term ctx (AnonT2 a l h) t s = there_term ctx h t s.2.1
    there_term ctx (IdxT0 h) t s = there_term ctx h t s.1

    there_loc : (ctx : List Sort) (h : LocHole) (t : PlainTerm) → SpelledLoc names ctx (fill_loc h t) → SpelledTerm names (inside_loc h ctx) t
    there_loc ctx (LLoc0 h b) t s = there_term ctx h t s.0.1
    there_loc ctx (LLoc1 a h) t s = there_term ctx h t s.1.1
    there_loc ctx (LObj0 h) t s = there_term ctx h t s.1
    there_loc ctx (LArrAll0 h) t s = there_term ctx h t s.1
    there_loc ctx (LArr0 h b d) t s = there_term ctx h t s.0.1
    there_loc ctx (LArr1 a h d) t s = there_term ctx h t s.1.1
    there_loc ctx (LArr2 a b h) t s = there_term ctx h t s.2.1
    there_loc ctx (LUnion0 h m) t s = there_loc ctx h t s.0
    there_loc ctx (LUnion1 l h) t s = there_loc ctx h t s.1

  there_pair : (ctx : List Sort) (v : Pairs) (y : Name) (t : PlainTerm) (w : Pairs) → SpelledPairs names ctx (v ++ ((y, t) ∷ w)) → SpelledTerm names ctx t
  there_pair ctx [] y t w s = s.0.1.1
  there_pair ctx (p ∷ v) y t w s = there_pair ctx v y t w s.1

  pub there_atom : (ctx : List Sort) (h : AtomHole) (t : PlainTerm) → SpelledFormula names ctx (fill_atom h t) → SpelledTerm names (inside_atom h ctx) t
  there_atom ctx (Eq0 h b) t s = there_term ctx h t s.1
  there_atom ctx (Eq1 a h) t s = there_term ctx h t s.2
  there_atom ctx (Lt0 h b) t s = there_term ctx h t s.0.1
  there_atom ctx (Lt1 a h) t s = there_term ctx h t s.1.1
  there_atom ctx (Le0 h b) t s = there_term ctx h t s.0.1
  there_atom ctx (Le1 a h) t s = there_term ctx h t s.1.1
  there_atom ctx (In0 h b l) t s = there_term ctx h t s.0.1
  there_atom ctx (In1 a h l) t s = there_term ctx h t s.1.1
  there_atom ctx (In2 a b h) t s = there_loc ctx h t s.2
  there_atom ctx (InInt0 h) t s = there_term ctx h t s.1
  there_atom ctx (Wf0 h) t s = there_term ctx h t s.1
  there_atom ctx (Inv0 h b) t s = there_term ctx h t s.0.1
  there_atom ctx (Inv1 a h) t s = there_term ctx h t s.1.1
  there_atom ctx (Inst1 j h) t s = there_term ctx h t s.1.1
  there_atom ctx (Exact1 j h) t s = there_term ctx h t s.1.1
  there_atom ctx (UpdRight v y h w a) t s = there_term ctx h t (there_pair ctx v y (fill_term h t) w s.1)

  mutual
    pub again_term : (ctx : List Sort) (h : TermHole) (t u : PlainTerm) → SpelledTerm names ctx (fill_term h t) → AtSort (sort_of_term t) u (SpelledTerm names (inside_term h ctx) u) → AtSort (sort_of_term (fill_term h t)) (fill_term h u) (SpelledTerm names ctx (fill_term h u))
    again_term ctx WholeTerm t u s p = p
    again_term ctx (Arith1 op h b) t u s p = (refl, (moved IntSort (fill_term h t) (fill_term h u) s.0.0 (again_term ctx h t u s.0.1 p), s.1))
    again_term ctx (Arith2 op a h) t u s p = (refl, (s.0, moved IntSort (fill_term h t) (fill_term h u) s.1.0 (again_term ctx h t u s.1.1 p)))
    again_term ctx (Neg0 h) t u s p = (refl, moved IntSort (fill_term h t) (fill_term h u) s.0 (again_term ctx h t u s.1 p))
    again_term ctx (Wrap0 h) t u s p = (refl, moved IntSort (fill_term h t) (fill_term h u) s.0 (again_term ctx h t u s.1 p))
    again_term ctx (Len0 h) t u s p = (refl, moved RefSort (fill_term h t) (fill_term h u) s.0 (again_term ctx h t u s.1 p))
    again_term ctx (Select1 q h b d) t u s p = (refl, (s.0, moved HeapSort (fill_term h t) (fill_term h u) s.1.0 (again_term ctx h t u s.1.1 p), s.2, s.3))
    again_term ctx (Select2 q a h d) t u s p = (refl, (s.0, s.1, moved RefSort (fill_term h t) (fill_term h u) s.2.0 (again_term ctx h t u s.2.1 p), s.3))
    again_term ctx (Select3 q a b h) t u s p = (refl, (s.0, s.1, s.2, moved FieldSort (fill_term h t) (fill_term h u) s.3.0 (again_term ctx h t u s.3.1 p)))
    again_term ctx (Sum0 h b d) t u s p = (refl, (moved IntSort (fill_term h t) (fill_term h u) s.0.0 (again_term ctx h t u s.0.1 p), s.1, s.2))
    again_term ctx (Sum1 a h d) t u s p = (refl, (s.0, moved IntSort (fill_term h t) (fill_term h u) s.1.0 (again_term ctx h t u s.1.1 p), s.2))
    again_term ctx (Sum2 a b h) t u s p = (refl, (s.0, s.1, moved IntSort (fill_term h t) (fill_term h u) s.2.0 (again_term (IntSort ∷ ctx) h t u s.2.1 p)))
    again_term ctx (StoreT0 h b c d) t u s p = (refl, (moved HeapSort (fill_term h t) (fill_term h u) s.0.0 (again_term ctx h t u s.0.1 p), s.1, s.2, s.3))
    again_term ctx (StoreT1 a h c d) t u s p = (refl, (s.0, moved RefSort (fill_term h t) (fill_term h u) s.1.0 (again_term ctx h t u s.1.1 p), s.2, s.3))
    again_term ctx (StoreT2 a b h d) t u s p = (refl, (s.0, s.1, moved FieldSort (fill_term h t) (fill_term h u) s.2.0 (again_term ctx h t u s.2.1 p), s.3))
    again_term ctx (StoreT3 a b c h) t u s p = (refl, (s.0, s.1, s.2, (again_term ctx h t u s.3 p).1))
    again_term ctx (CreateT0 h b) t u s p = (refl, (moved HeapSort (fill_term h t) (fill_term h u) s.0.0 (again_term ctx h t u s.0.1 p), s.1))
    again_term ctx (CreateT1 a h) t u s p = (refl, (s.0, moved RefSort (fill_term h t) (fill_term h u) s.1.0 (again_term ctx h t u s.1.1 p)))
    again_term ctx (AnonT0 h l d) t u s p = (refl, (moved HeapSort (fill_term h t) (fill_term h u) s.0.0 (again_term ctx h t u s.0.1 p), s.1, s.2))
    again_term ctx (AnonT1 a h d) t u s p = (refl, (s.0, again_loc ctx h t u s.1 p, s.2))
    again_term ctx (AnonT2 a l h) t u s p = (refl, (s.0, s.1, moved HeapSort (fill_term h t) (fill_term h u) s.2.0 (again_term ctx h t u s.2.1 p)))
    again_term ctx (IdxT0 h) t u s p = (refl, moved IntSort (fill_term h t) (fill_term h u) s.0 (again_term ctx h t u s.1 p))

    again_loc : (ctx : List Sort) (h : LocHole) (t u : PlainTerm) → SpelledLoc names ctx (fill_loc h t) → AtSort (sort_of_term t) u (SpelledTerm names (inside_loc h ctx) u) → SpelledLoc names ctx (fill_loc h u)
    again_loc ctx (LLoc0 h b) t u s p = (moved RefSort (fill_term h t) (fill_term h u) s.0.0 (again_term ctx h t u s.0.1 p), s.1)
    again_loc ctx (LLoc1 a h) t u s p = (s.0, moved FieldSort (fill_term h t) (fill_term h u) s.1.0 (again_term ctx h t u s.1.1 p))
    again_loc ctx (LObj0 h) t u s p = moved RefSort (fill_term h t) (fill_term h u) s.0 (again_term ctx h t u s.1 p)
    again_loc ctx (LArrAll0 h) t u s p = moved RefSort (fill_term h t) (fill_term h u) s.0 (again_term ctx h t u s.1 p)
    again_loc ctx (LArr0 h b d) t u s p = (moved RefSort (fill_term h t) (fill_term h u) s.0.0 (again_term ctx h t u s.0.1 p), s.1, s.2)
    again_loc ctx (LArr1 a h d) t u s p = (s.0, moved IntSort (fill_term h t) (fill_term h u) s.1.0 (again_term ctx h t u s.1.1 p), s.2)
    again_loc ctx (LArr2 a b h) t u s p = (s.0, s.1, moved IntSort (fill_term h t) (fill_term h u) s.2.0 (again_term ctx h t u s.2.1 p))
    again_loc ctx (LUnion0 h m) t u s p = (again_loc ctx h t u s.0 p, s.1)
    again_loc ctx (LUnion1 l h) t u s p = (s.0, again_loc ctx h t u s.1 p)

  again_pair : (ctx : List Sort) (v : Pairs) (y : Name) (t u : PlainTerm) (w : Pairs) → SpelledPairs names ctx (v ++ ((y, t) ∷ w)) → AtSort (sort_of_term t) u (SpelledTerm names ctx u) → SpelledPairs names ctx (v ++ ((y, u) ∷ w))
  again_pair ctx [] y t u w s p = ((s.0.0, moved y.sort t u s.0.1.0 p), s.1)
  again_pair ctx (q ∷ v) y t u w s p = (s.0, again_pair ctx v y t u w s.1 p)

  pub again_atom : (ctx : List Sort) (h : AtomHole) (t u : PlainTerm) → SpelledFormula names ctx (fill_atom h t) → AtSort (sort_of_term t) u (SpelledTerm names (inside_atom h ctx) u) → SpelledFormula names ctx (fill_atom h u)
  again_atom ctx (Eq0 h b) t u s p = let x = again_term ctx h t u s.1 p in (x.0 ∙ s.0, x.1, s.2)
  again_atom ctx (Eq1 a h) t u s p = let x = again_term ctx h t u s.2 p in (s.0 ∙ sym x.0, s.1, x.1)
  again_atom ctx (Lt0 h b) t u s p = (moved IntSort (fill_term h t) (fill_term h u) s.0.0 (again_term ctx h t u s.0.1 p), s.1)
  again_atom ctx (Lt1 a h) t u s p = (s.0, moved IntSort (fill_term h t) (fill_term h u) s.1.0 (again_term ctx h t u s.1.1 p))
  again_atom ctx (Le0 h b) t u s p = (moved IntSort (fill_term h t) (fill_term h u) s.0.0 (again_term ctx h t u s.0.1 p), s.1)
  again_atom ctx (Le1 a h) t u s p = (s.0, moved IntSort (fill_term h t) (fill_term h u) s.1.0 (again_term ctx h t u s.1.1 p))
  again_atom ctx (In0 h b l) t u s p = (moved RefSort (fill_term h t) (fill_term h u) s.0.0 (again_term ctx h t u s.0.1 p), s.1, s.2)
  again_atom ctx (In1 a h l) t u s p = (s.0, moved FieldSort (fill_term h t) (fill_term h u) s.1.0 (again_term ctx h t u s.1.1 p), s.2)
  again_atom ctx (In2 a b h) t u s p = (s.0, s.1, again_loc ctx h t u s.2 p)
  again_atom ctx (InInt0 h) t u s p = moved IntSort (fill_term h t) (fill_term h u) s.0 (again_term ctx h t u s.1 p)
  again_atom ctx (Wf0 h) t u s p = moved HeapSort (fill_term h t) (fill_term h u) s.0 (again_term ctx h t u s.1 p)
  again_atom ctx (Inv0 h b) t u s p = (moved HeapSort (fill_term h t) (fill_term h u) s.0.0 (again_term ctx h t u s.0.1 p), s.1)
  again_atom ctx (Inv1 a h) t u s p = (s.0, moved RefSort (fill_term h t) (fill_term h u) s.1.0 (again_term ctx h t u s.1.1 p))
  again_atom ctx (Inst1 j h) t u s p = (s.0, moved RefSort (fill_term h t) (fill_term h u) s.1.0 (again_term ctx h t u s.1.1 p))
  again_atom ctx (Exact1 j h) t u s p = (s.0, moved RefSort (fill_term h t) (fill_term h u) s.1.0 (again_term ctx h t u s.1.1 p))
  again_atom ctx (UpdRight v y h w a) t u s p =
      (some_pairs v (y, fill_term h u) w, again_pair ctx v y (fill_term h t) (fill_term h u) w s.1 (again_term ctx h t u (there_pair ctx v y (fill_term h t) w s.1) p), s.2)

-- ---- what stands in a tree with narrow indices has such

pub narrow_in : (h : Around) (a : PlainFormula) → NarrowFormula (plug h a) → NarrowFormula a
narrow_in Hole a s = s
narrow_in (NotH h) a s = narrow_in h a s
narrow_in (AndL h c) a s = narrow_in h a s.0
narrow_in (OrL h c) a s = narrow_in h a s.0
narrow_in (ImpL h c) a s = narrow_in h a s.0
narrow_in (IffL h c) a s = narrow_in h a s.0
narrow_in (AndR c h) a s = narrow_in h a s.1
narrow_in (OrR c h) a s = narrow_in h a s.1
narrow_in (ImpR c h) a s = narrow_in h a s.1
narrow_in (IffR c h) a s = narrow_in h a s.1
narrow_in (AllH q h) a s = narrow_in h a s
narrow_in (ExH q h) a s = narrow_in h a s
narrow_in (UpdH u h) a s = narrow_in h a s.1
narrow_in (ModalH m c h) a s = narrow_in h a s

mutual
  pub narrow_in_term : (h : TermHole) (t : PlainTerm) → NarrowTerm (fill_term h t) → NarrowTerm t
  narrow_in_term WholeTerm t s = s
  narrow_in_term (Arith1 op h b) t s = narrow_in_term h t s.0
  narrow_in_term (Arith2 op a h) t s = narrow_in_term h t s.1
  narrow_in_term (Neg0 h) t s = narrow_in_term h t s
  narrow_in_term (Wrap0 h) t s = narrow_in_term h t s
  narrow_in_term (Len0 h) t s = narrow_in_term h t s
  narrow_in_term (Select1 q h b d) t s = narrow_in_term h t s.0
  narrow_in_term (Select2 q a h d) t s = narrow_in_term h t s.1
  narrow_in_term (Select3 q a b h) t s = narrow_in_term h t s.2
  narrow_in_term (Sum0 h b d) t s = narrow_in_term h t s.0
  narrow_in_term (Sum1 a h d) t s = narrow_in_term h t s.1
  narrow_in_term (Sum2 a b h) t s = narrow_in_term h t s.2
  narrow_in_term (StoreT0 h b c d) t s = narrow_in_term h t s.0
  narrow_in_term (StoreT1 a h c d) t s = narrow_in_term h t s.1
  narrow_in_term (StoreT2 a b h d) t s = narrow_in_term h t s.2
  narrow_in_term (StoreT3 a b c h) t s = narrow_in_term h t s.3
  narrow_in_term (CreateT0 h b) t s = narrow_in_term h t s.0
  narrow_in_term (CreateT1 a h) t s = narrow_in_term h t s.1
  narrow_in_term (AnonT0 h l d) t s = narrow_in_term h t s.0
  narrow_in_term (AnonT1 a h d) t s = narrow_in_loc h t s.1
  narrow_in_term (AnonT2 a l h) t s = narrow_in_term h t s.2
  narrow_in_term (IdxT0 h) t s = narrow_in_term h t s

  narrow_in_loc : (h : LocHole) (t : PlainTerm) → NarrowLoc (fill_loc h t) → NarrowTerm t
  narrow_in_loc (LLoc0 h b) t s = narrow_in_term h t s.0
  narrow_in_loc (LLoc1 a h) t s = narrow_in_term h t s.1
  narrow_in_loc (LObj0 h) t s = narrow_in_term h t s
  narrow_in_loc (LArrAll0 h) t s = narrow_in_term h t s
  narrow_in_loc (LArr0 h b d) t s = narrow_in_term h t s.0
  narrow_in_loc (LArr1 a h d) t s = narrow_in_term h t s.1
  narrow_in_loc (LArr2 a b h) t s = narrow_in_term h t s.2
  narrow_in_loc (LUnion0 h m) t s = narrow_in_loc h t s.0
  narrow_in_loc (LUnion1 l h) t s = narrow_in_loc h t s.1

narrow_pair : (v : Pairs) (y : Name) (t : PlainTerm) (w : Pairs) → NarrowPairs (v ++ ((y, t) ∷ w)) → NarrowTerm t
narrow_pair [] y t w s = All-head (λ (q : Name × PlainTerm). EachLeaf (λ (n : ℕ). n) NarrowLeaf 0 q.1) (y, t) w s
narrow_pair (p ∷ v) y t w s = narrow_pair v y t w (All-tail (λ (q : Name × PlainTerm). EachLeaf (λ (n : ℕ). n) NarrowLeaf 0 q.1) p (v ++ ((y, t) ∷ w)) s)

pub narrow_in_atom : (h : AtomHole) (t : PlainTerm) → NarrowFormula (fill_atom h t) → NarrowTerm t
narrow_in_atom (Eq0 h b) t s = narrow_in_term h t s.0
narrow_in_atom (Eq1 a h) t s = narrow_in_term h t s.1
narrow_in_atom (Lt0 h b) t s = narrow_in_term h t s.0
narrow_in_atom (Lt1 a h) t s = narrow_in_term h t s.1
narrow_in_atom (Le0 h b) t s = narrow_in_term h t s.0
narrow_in_atom (Le1 a h) t s = narrow_in_term h t s.1
narrow_in_atom (In0 h b l) t s = narrow_in_term h t s.0
narrow_in_atom (In1 a h l) t s = narrow_in_term h t s.1
narrow_in_atom (In2 a b h) t s = narrow_in_loc h t s.2
narrow_in_atom (InInt0 h) t s = narrow_in_term h t s
narrow_in_atom (Wf0 h) t s = narrow_in_term h t s
narrow_in_atom (Inv0 h b) t s = narrow_in_term h t s.0
narrow_in_atom (Inv1 a h) t s = narrow_in_term h t s.1
narrow_in_atom (Inst1 j h) t s = narrow_in_term h t s
narrow_in_atom (Exact1 j h) t s = narrow_in_term h t s
narrow_in_atom (UpdRight v y h w a) t s = narrow_in_term h t (narrow_pair v y (fill_term h t) w s.0)
