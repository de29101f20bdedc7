-- A term that is put at a place by its path stands in what surrounds the place.
use Rattle.std.proofs.Common.{◌≡◌, ◌<◌, ℕ, arith, suc, Bool, true, false, cond, nat_eq, List, [], ◌∷◌, ◌++◌, length, refl, ap, ◌∙◌}
use Rattle.std.proofs.lemmas.Bool.{eqb-true, eq-eqb}
use Rattle.jd_syntax.specs.Names.{Name}
use Rattle.jd_term.specs.Terms.{PlainTerm, Arithmetic, Negation, Wrap, Length, Select, Sum, Store, Create, Anon, ElementField, Single, ObjectFields, ArrayElements, ElementRange, Union}
use Rattle.jd_term.specs.Formulas.{Pairs, PlainFormula, Updated, Equal, Less, LessOrEqual, InLocations, InInt, WellFormed, Invariant, IsInstance, IsExactInstance, Not, And, Or, Implies, Iff, Forall, Exists, Modal}
use Rattle.jd_model.specs.Holes.{Around, Hole, UpdH, NotH, AndL, AndR, OrL, OrR, ImpL, ImpR, IffL, IffR, AllH, ExH, ModalH, plug, TermHole, WholeTerm, Arith1, Arith2, Neg0, Wrap0, Len0, Select1, Select2, Select3, Sum0, Sum1, Sum2, StoreT0, StoreT1, StoreT2, StoreT3, CreateT0, CreateT1, AnonT0, AnonT1, AnonT2, IdxT0, LocHole, LLoc0, LLoc1, LObj0, LArrAll0, LArr0, LArr1, LArr2, LUnion0, LUnion1, AtomHole, Eq0, Eq1, Lt0, Lt1, Le0, Le1, In0, In1, In2, InInt0, Wf0, Inv0, Inv1, Inst1, Exact1, UpdRight, fill_term, fill_loc, fill_atom}
use Rattle.jd_taclet_steps.specs.Steps.{AtLeft, AtRight}
use Rattle.jd_taclet_steps.specs.Places.{path_of}
use Rattle.jd_taclet_steps.specs.TermPlaces.{term_path, loc_path, atom_path}
use Rattle.jd_taclet_steps.specs.PutTerms.{put_term, put_loc, put_pairs, put_below, put_in_list, TermsAreReplaced}

mutual
  term_put : (h : TermHole) (t u : PlainTerm) → put_term (term_path h) u (fill_term h t) ≡ fill_term h u
  term_put WholeTerm t u = refl
  term_put (Arith1 op h b) t u = ap (λ z. Arithmetic op z b) (term_put h t u)
  term_put (Arith2 op a h) t u = ap (λ z. Arithmetic op a z) (term_put h t u)
  term_put (Neg0 h) t u = ap (λ z. Negation z) (term_put h t u)
  term_put (Wrap0 h) t u = ap (λ z. Wrap z) (term_put h t u)
  term_put (Len0 h) t u = ap (λ z. Length z) (term_put h t u)
  term_put (Select1 s h b c) t u = ap (λ z. Select s z b c) (term_put h t u)
  term_put (Select2 s a h c) t u = ap (λ z. Select s a z c) (term_put h t u)
  term_put (Select3 s a b h) t u = ap (λ z. Select s a b z) (term_put h t u)
  term_put (Sum0 h b c) t u = ap (λ z. Sum z b c) (term_put h t u)
  term_put (Sum1 a h c) t u = ap (λ z. Sum a z c) (term_put h t u)
  term_put (Sum2 a b h) t u = ap (λ z. Sum a b z) (term_put h t u)
  term_put (StoreT0 h b c d) t u = ap (λ z. Store z b c d) (term_put h t u)
  term_put (StoreT1 a h c d) t u = ap (λ z. Store a z c d) (term_put h t u)
  term_put (StoreT2 a b h d) t u = ap (λ z. Store a b z d) (term_put h t u)
  term_put (StoreT3 a b c h) t u = ap (λ z. Store a b c z) (term_put h t u)
  term_put (CreateT0 h b) t u = ap (λ z. Create z b) (term_put h t u)
  term_put (CreateT1 a h) t u = ap (λ z. Create a z) (term_put h t u)
  term_put (AnonT0 h l b) t u = ap (λ z. Anon z l b) (term_put h t u)
  term_put (AnonT1 a h b) t u = ap (λ z. Anon a z b) (loc_put h t u)
  term_put (AnonT2 a l h) t u = ap (λ z. Anon a l z) (term_put h t u)
  term_put (IdxT0 h) t u = ap (λ z. ElementField z) (term_put h t u)

  loc_put : (h : LocHole) (t u : PlainTerm) → put_loc (loc_path h) u (fill_loc h t) ≡ fill_loc h u
  loc_put (LLoc0 h b) t u = ap (λ z. Single z b) (term_put h t u)
  loc_put (LLoc1 a h) t u = ap (λ z. Single a z) (term_put h t u)
  loc_put (LObj0 h) t u = ap (λ z. ObjectFields z) (term_put h t u)
  loc_put (LArrAll0 h) t u = ap (λ z. ArrayElements z) (term_put h t u)
  loc_put (LArr0 h b c) t u = ap (λ z. ElementRange z b c) (term_put h t u)
  loc_put (LArr1 a h c) t u = ap (λ z. ElementRange a z c) (term_put h t u)
  loc_put (LArr2 a b h) t u = ap (λ z. ElementRange a b z) (term_put h t u)
  loc_put (LUnion0 h m) t u = ap (λ z. Union z m) (loc_put h t u)
  loc_put (LUnion1 l h) t u = ap (λ z. Union l z) (loc_put h t u)

-- ---- updates

past_pairs : (u : Pairs) (ks : List ℕ) (new : PlainTerm) → put_pairs (suc (length u)) ks new u ≡ u
past_pairs [] ks new = refl
past_pairs (p ∷ u) ks new = ap (λ v. p ∷ v) (past_pairs u ks new)

pair_put : (v : Pairs) (y : Name) (t : PlainTerm) (w : Pairs) (ks : List ℕ) (new : PlainTerm) → put_pairs (suc (length v)) ks new (v ++ ((y, t) ∷ w)) ≡ v ++ ((y, put_term ks new t) ∷ w)
pair_put [] y t w ks new = refl
pair_put (p ∷ v) y t w ks new = ap (λ l. p ∷ l) (pair_put v y t w ks new)

shorter : (v : Pairs) (y : Name) (t : PlainTerm) (w : Pairs) → length v < length (v ++ ((y, t) ∷ w))
shorter [] y t w = omega arith
shorter (p ∷ v) y t w = let less = shorter v y t w in omega arith

-- a right side is not the body
no_body : (v : Pairs) (y : Name) (t : PlainTerm) (w : Pairs) → nat_eq (suc (length v)) (suc (length (v ++ ((y, t) ∷ w)))) ≡ false
no_body v y t w = by (nat_eq (suc (length v)) (suc (length (v ++ ((y, t) ∷ w))))) refl
  where
    by : (b : Bool) → nat_eq (suc (length v)) (suc (length (v ++ ((y, t) ∷ w)))) ≡ b → b ≡ false
    by true e = let same = eqb-true (suc (length v)) (suc (length (v ++ ((y, t) ∷ w)))) e in let less = shorter v y t w in absurd (omega arith)
    by false e = refl

-- ---- formulas

atom_put : (h : AtomHole) (t u : PlainTerm) → put_below (atom_path h) u (fill_atom h t) ≡ fill_atom h u
atom_put (Eq0 h b) t u = ap (λ z. Equal z b) (term_put h t u)
atom_put (Eq1 a h) t u = ap (λ z. Equal a z) (term_put h t u)
atom_put (Lt0 h b) t u = ap (λ z. Less z b) (term_put h t u)
atom_put (Lt1 a h) t u = ap (λ z. Less a z) (term_put h t u)
atom_put (Le0 h b) t u = ap (λ z. LessOrEqual z b) (term_put h t u)
atom_put (Le1 a h) t u = ap (λ z. LessOrEqual a z) (term_put h t u)
atom_put (In0 h b l) t u = ap (λ z. InLocations z b l) (term_put h t u)
atom_put (In1 a h l) t u = ap (λ z. InLocations a z l) (term_put h t u)
atom_put (In2 a b h) t u = ap (λ z. InLocations a b z) (loc_put h t u)
atom_put (InInt0 h) t u = ap (λ z. InInt z) (term_put h t u)
atom_put (Wf0 h) t u = ap (λ z. WellFormed z) (term_put h t u)
atom_put (Inv0 h b) t u = ap (λ z. Invariant z b) (term_put h t u)
atom_put (Inv1 a h) t u = ap (λ z. Invariant a z) (term_put h t u)
atom_put (Inst1 j h) t u = ap (λ z. IsInstance j z) (term_put h t u)
atom_put (Exact1 j h) t u = ap (λ z. IsExactInstance j z) (term_put h t u)
atom_put (UpdRight v y h w a) t u =
    ap (λ b. Updated (put_pairs (suc (length v)) (term_path h) u (v ++ ((y, fill_term h t) ∷ w))) (cond b (put_below (term_path h) u a) a)) (no_body v y (fill_term h t) w)
    ∙ ap (λ l. Updated l a) (pair_put v y (fill_term h t) w (term_path h) u ∙ ap (λ z. v ++ ((y, z) ∷ w)) (term_put h t u))

both_put : (h : Around) (k : AtomHole) (t u : PlainTerm) → put_below (path_of h ++ atom_path k) u (plug h (fill_atom k t)) ≡ plug h (fill_atom k u)
both_put Hole k t u = atom_put k t u
both_put (NotH h) k t u = ap (λ z. Not z) (both_put h k t u)
both_put (AndL h b) k t u = ap (λ z. And z b) (both_put h k t u)
both_put (AndR a h) k t u = ap (λ z. And a z) (both_put h k t u)
both_put (OrL h b) k t u = ap (λ z. Or z b) (both_put h k t u)
both_put (OrR a h) k t u = ap (λ z. Or a z) (both_put h k t u)
both_put (ImpL h b) k t u = ap (λ z. Implies z b) (both_put h k t u)
both_put (ImpR a h) k t u = ap (λ z. Implies a z) (both_put h k t u)
both_put (IffL h b) k t u = ap (λ z. Iff z b) (both_put h k t u)
both_put (IffR a h) k t u = ap (λ z. Iff a z) (both_put h k t u)
both_put (AllH s h) k t u = ap (λ z. Forall s z) (both_put h k t u)
both_put (ExH s h) k t u = ap (λ z. Exists s z) (both_put h k t u)
both_put (ModalH m c h) k t u = ap (λ z. Modal m c z) (both_put h k t u)
both_put (UpdH v h) k t u =
    ap (λ b. Updated (put_pairs (suc (length v)) (path_of h ++ atom_path k) u v) (cond b (put_below (path_of h ++ atom_path k) u (plug h (fill_atom k t))) (plug h (fill_atom k t)))) (eq-eqb (suc (length v)) (suc (length v)) refl)
    ∙ (λ i. Updated (past_pairs v (path_of h ++ atom_path k) u i) (both_put h k t u i))

-- ---- on a side

put_here : (f b : List PlainFormula) (h : Around) (k : AtomHole) (t u : PlainTerm) → put_in_list (f ++ (plug h (fill_atom k t) ∷ b)) (suc (length f)) (path_of h ++ atom_path k) u ≡ f ++ (plug h (fill_atom k u) ∷ b)
put_here [] b h k t u = ap (λ y. y ∷ b) (both_put h k t u)
put_here (y ∷ f) b h k t u = ap (λ l. y ∷ l) (put_here f b h k t u)

pub replaced : TermsAreReplaced
replaced (AtLeft f b r) h k t u = λ i. record { left = put_here f b h k t u i; right = r }
replaced (AtRight l f b) h k t u = λ i. record { left = l; right = put_here f b h k t u i }
