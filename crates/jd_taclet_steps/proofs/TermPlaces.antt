-- Places of terms by paths are places by what surrounds them.
use Rattle.std.proofs.Common.{◌≡◌, ◌⊎◌, inl, inr, ℕ, zero, suc, List, [], ◌∷◌, ◌++◌, length, map, Some, None, refl, sym, ap, ◌∙◌, subst}
use Rattle.std.specs.Prelude.{option_and_then, slice_get}
use Rattle.jd_syntax.specs.Names.{Name}
use Rattle.jd_term.specs.Terms.{PlainTerm, Number, Boolean, NullTerm, ProgramVariable, Constant, Bound, NamedField, CreatedField, Arithmetic, Negation, Wrap, Length, Select, Sum, Store, Create, Anon, ElementField, PlainLoc, NoLocations, AllLocations, Single, ObjectFields, ArrayElements, ElementRange, Union}
use Rattle.jd_term.specs.Formulas.{Pairs, PlainFormula, TrueFormula, FalseFormula, Updated, Equal, Less, LessOrEqual, InLocations, InInt, WellFormed, Invariant, IsInstance, IsExactInstance, Not, And, Or, Implies, Iff, Forall, Exists, Modal}
use Rattle.jd_model.specs.declared.sequent.Side.{Side}
use Rattle.jd_model.specs.declared.sequent.Side.TheVariants.{Left, Right}
use Rattle.jd_model.specs.Holes.{Around, Hole, UpdH, NotH, AndL, AndR, OrL, OrR, ImpL, ImpR, IffL, IffR, AllH, ExH, ModalH, plug, TermHole, WholeTerm, Arith1, Arith2, Neg0, Wrap0, Len0, Select1, Select2, Select3, Sum0, Sum1, Sum2, StoreT0, StoreT1, StoreT2, StoreT3, CreateT0, CreateT1, AnonT0, AnonT1, AnonT2, IdxT0, LocHole, LLoc0, LLoc1, LObj0, LArrAll0, LArr0, LArr1, LArr2, LUnion0, LUnion1, AtomHole, Eq0, Eq1, Lt0, Lt1, Le0, Le1, In0, In1, In2, InInt0, Wf0, Inv0, Inv1, Inst1, Exact1, UpdRight, fill_term, fill_loc, fill_atom}
use Rattle.jd_model.specs.Places.{FormulaPart, TermPart, LocPart, part_at, numbered, on_side, at_place}
use Rattle.jd_model.specs.Sequents.{PlainSequent}
use Rattle.jd_taclet_steps.specs.Steps.{Spot, AtLeft, AtRight, whole}
use Rattle.jd_taclet_steps.specs.Places.{path_of, place_of}
use Rattle.jd_taclet_steps.specs.TermPlaces.{term_path, loc_path, atom_path, IsTermSurrounded, TermPlacesAreSurrounded}

no_some : {A : Type 0} {x : A} → None ≡ Some x → ⊥
no_some h = cc

same_term : {t u : PlainTerm} → Some (TermPart t) ≡ Some (TermPart u) → t ≡ u
same_term h = cc

not_loc : {l : PlainLoc} {u : PlainTerm} → Some (LocPart l) ≡ Some (TermPart u) → ⊥
not_loc h = cc

not_formula : {a : PlainFormula} {u : PlainTerm} → Some (FormulaPart a) ≡ Some (TermPart u) → ⊥
not_formula h = cc

-- what surrounds the term x below a tree
record Under {H A : Type 0} (fill : H → PlainTerm → A) (at : H → List ℕ) (path : List ℕ) (a : A) (x : PlainTerm) : Type 0 where
  hole : H
  whole_is : a ≡ fill hole x
  path_is : path ≡ at hole

step : {H A K B : Type 0} {fill : H → PlainTerm → A} {at : H → List ℕ} {fill2 : K → PlainTerm → B} {at2 : K → List ℕ} {ks : List ℕ} {a : A} {x : PlainTerm} (f : H → K) (w : A → B) (n : ℕ) → ((h : H) → w (fill h x) ≡ fill2 (f h) x) → ((h : H) → n ∷ at h ≡ at2 (f h)) → Under fill at ks a x → Under fill2 at2 (n ∷ ks) (w a) x
step f w n same path b = record { hole = f b.hole; whole_is = ap w b.whole_is ∙ same b.hole; path_is = ap (λ l. n ∷ l) b.path_is ∙ path b.hole }

-- ---- below a term and a location set

mutual
  each_term : (path : List ℕ) (t x : PlainTerm) → part_at path (TermPart t) ≡ Some (TermPart x) → Under fill_term term_path path t x
  each_term [] t x e = record { hole = WholeTerm; whole_is = same_term e; path_is = refl }
  each_term (zero ∷ ks) t x e = absurd (no_some e)
  each_term (suc zero ∷ ks) (Arithmetic op a b) x e = step (λ h. Arith1 op h b) (λ y. Arithmetic op y b) 1 (λ h. refl) (λ h. refl) (each_term ks a x e)
  each_term (suc (suc zero) ∷ ks) (Arithmetic op a b) x e = step (λ h. Arith2 op a h) (λ y. Arithmetic op a y) 2 (λ h. refl) (λ h. refl) (each_term ks b x e)
  each_term (suc (suc (suc k)) ∷ ks) (Arithmetic op a b) x e = absurd (no_some e)
  each_term (suc zero ∷ ks) (Negation a) x e = step (λ h. Neg0 h) (λ y. Negation y) 1 (λ h. refl) (λ h. refl) (each_term ks a x e)
  each_term (suc (suc k) ∷ ks) (Negation a) x e = absurd (no_some e)
  each_term (suc zero ∷ ks) (Wrap a) x e = step (λ h. Wrap0 h) (λ y. Wrap y) 1 (λ h. refl) (λ h. refl) (each_term ks a x e)
  each_term (suc (suc k) ∷ ks) (Wrap a) x e = absurd (no_some e)
  each_term (suc zero ∷ ks) (Length a) x e = step (λ h. Len0 h) (λ y. Length y) 1 (λ h. refl) (λ h. refl) (each_term ks a x e)
  each_term (suc (suc k) ∷ ks) (Length a) x e = absurd (no_some e)
  each_term (suc zero ∷ ks) (Select s a b c) x e = step (λ h. Select1 s h b c) (λ y. Select s y b c) 1 (λ h. refl) (λ h. refl) (each_term ks a x e)
  each_term (suc (suc zero) ∷ ks) (Select s a b c) x e = step (λ h. Select2 s a h c) (λ y. Select s a y c) 2 (λ h. refl) (λ h. refl) (each_term ks b x e)
  each_term (suc (suc (suc zero)) ∷ ks) (Select s a b c) x e = step (λ h. Select3 s a b h) (λ y. Select s a b y) 3 (λ h. refl) (λ h. refl) (each_term ks c x e)
  each_term (suc (suc (suc (suc k))) ∷ ks) (Select s a b c) x e = absurd (no_some e)
  each_term (suc zero ∷ ks) (Sum a b c) x e = step (λ h. Sum0 h b c) (λ y. Sum y b c) 1 (λ h. refl) (λ h. refl) (each_term ks a x e)
  each_term (suc (suc zero) ∷ ks) (Sum a b c) x e = step (λ h. Sum1 a h c) (λ y. Sum a y c) 2 (λ h. refl) (λ h. refl) (each_term ks b x e)
  each_term (suc (suc (suc zero)) ∷ ks) (Sum a b c) x e = step (λ h. Sum2 a b h) (λ y. Sum a b y) 3 (λ h. refl) (λ h. refl) (each_term ks c x e)
  each_term (suc (suc (suc (suc k))) ∷ ks) (Sum a b c) x e = absurd (no_some e)
  each_term (suc zero ∷ ks) (Store a b c d) x e = step (λ h. StoreT0 h b c d) (λ y. Store y b c d) 1 (λ h. refl) (λ h. refl) (each_term ks a x e)
  each_term (suc (suc zero) ∷ ks) (Store a b c d) x e = step (λ h. StoreT1 a h c d) (λ y. Store a y c d) 2 (λ h. refl) (λ h. refl) (each_term ks b x e)
  each_term (suc (suc (suc zero)) ∷ ks) (Store a b c d) x e = step (λ h. StoreT2 a b h d) (λ y. Store a b y d) 3 (λ h. refl) (λ h. refl) (each_term ks c x e)
  each_term (suc (suc (suc (suc zero))) ∷ ks) (Store a b c d) x e = step (λ h. StoreT3 a b c h) (λ y. Store a b c y) 4 (λ h. refl) (λ h. refl) (each_term ks d x e)
  each_term (suc (suc (suc (suc (suc k)))) ∷ ks) (Store a b c d) x e = absurd (no_some e)
  each_term (suc zero ∷ ks) (Create a b) x e = step (λ h. CreateT0 h b) (λ y. Create y b) 1 (λ h. refl) (λ h. refl) (each_term ks a x e)
  each_term (suc (suc zero) ∷ ks) (Create a b) x e = step (λ h. CreateT1 a h) (λ y. Create a y) 2 (λ h. refl) (λ h. refl) (each_term ks b x e)
  each_term (suc (suc (suc k)) ∷ ks) (Create a b) x e = absurd (no_some e)
  each_term (suc zero ∷ ks) (Anon a l b) x e = step (λ h. AnonT0 h l b) (λ y. Anon y l b) 1 (λ h. refl) (λ h. refl) (each_term ks a x e)
  each_term (suc (suc zero) ∷ ks) (Anon a l b) x e = step (λ h. AnonT1 a h b) (λ y. Anon a y b) 2 (λ h. refl) (λ h. refl) (each_loc ks l x e)
  each_term (suc (suc (suc zero)) ∷ ks) (Anon a l b) x e = step (λ h. AnonT2 a l h) (λ y. Anon a l y) 3 (λ h. refl) (λ h. refl) (each_term ks b x e)
  each_term (suc (suc (suc (suc k))) ∷ ks) (Anon a l b) x e = absurd (no_some e)
  each_term (suc zero ∷ ks) (ElementField a) x e = step (λ h. IdxT0 h) (λ y. ElementField y) 1 (λ h. refl) (λ h. refl) (each_term ks a x e)
  each_term (suc (suc k) ∷ ks) (ElementField a) x e = absurd (no_some e)
  each_term (suc k ∷ ks) (Number z) x e = absurd (no_some e)
  each_term (suc k ∷ ks) (Boolean z) x e = absurd (no_some e)
  each_term (suc k ∷ ks) NullTerm x e = absurd (no_some e)
  each_term (suc k ∷ ks) (ProgramVariable z) x e = absurd (no_some e)
  each_term (suc k ∷ ks) (Constant z) x e = absurd (no_some e)
  each_term (suc k ∷ ks) (Bound z s) x e = absurd (no_some e)
  each_term (suc k ∷ ks) (NamedField z) x e = absurd (no_some e)
  each_term (suc k ∷ ks) CreatedField x e = absurd (no_some e)

  each_loc : (path : List ℕ) (l : PlainLoc) (x : PlainTerm) → part_at path (LocPart l) ≡ Some (TermPart x) → Under fill_loc loc_path path l x
  each_loc [] l x e = absurd (not_loc e)
  each_loc (zero ∷ ks) l x e = absurd (no_some e)
  each_loc (suc zero ∷ ks) (Single a b) x e = step (λ h. LLoc0 h b) (λ y. Single y b) 1 (λ h. refl) (λ h. refl) (each_term ks a x e)
  each_loc (suc (suc zero) ∷ ks) (Single a b) x e = step (λ h. LLoc1 a h) (λ y. Single a y) 2 (λ h. refl) (λ h. refl) (each_term ks b x e)
  each_loc (suc (suc (suc k)) ∷ ks) (Single a b) x e = absurd (no_some e)
  each_loc (suc zero ∷ ks) (ObjectFields a) x e = step (λ h. LObj0 h) (λ y. ObjectFields y) 1 (λ h. refl) (λ h. refl) (each_term ks a x e)
  each_loc (suc (suc k) ∷ ks) (ObjectFields a) x e = absurd (no_some e)
  each_loc (suc zero ∷ ks) (ArrayElements a) x e = step (λ h. LArrAll0 h) (λ y. ArrayElements y) 1 (λ h. refl) (λ h. refl) (each_term ks a x e)
  each_loc (suc (suc k) ∷ ks) (ArrayElements a) x e = absurd (no_some e)
  each_loc (suc zero ∷ ks) (ElementRange a b c) x e = step (λ h. LArr0 h b c) (λ y. ElementRange y b c) 1 (λ h. refl) (λ h. refl) (each_term ks a x e)
  each_loc (suc (suc zero) ∷ ks) (ElementRange a b c) x e = step (λ h. LArr1 a h c) (λ y. ElementRange a y c) 2 (λ h. refl) (λ h. refl) (each_term ks b x e)
  each_loc (suc (suc (suc zero)) ∷ ks) (ElementRange a b c) x e = step (λ h. LArr2 a b h) (λ y. ElementRange a b y) 3 (λ h. refl) (λ h. refl) (each_term ks c x e)
  each_loc (suc (suc (suc (suc k))) ∷ ks) (ElementRange a b c) x e = absurd (no_some e)
  each_loc (suc zero ∷ ks) (Union l m) x e = step (λ h. LUnion0 h m) (λ y. Union y m) 1 (λ h. refl) (λ h. refl) (each_loc ks l x e)
  each_loc (suc (suc zero) ∷ ks) (Union l m) x e = step (λ h. LUnion1 l h) (λ y. Union l y) 2 (λ h. refl) (λ h. refl) (each_loc ks m x e)
  each_loc (suc (suc (suc k)) ∷ ks) (Union l m) x e = absurd (no_some e)
  each_loc (suc k ∷ ks) NoLocations x e = absurd (no_some e)
  each_loc (suc k ∷ ks) AllLocations x e = absurd (no_some e)

-- ---- below a formula

abbrev fill_both : Around × AtomHole → PlainTerm → PlainFormula
fill_both p x = plug p.0 (fill_atom p.1 x)

abbrev path_both : Around × AtomHole → List ℕ
path_both p = path_of p.0 ++ atom_path p.1

-- a right side of an update, or its body
abbrev InUpdate : Pairs → ℕ → List ℕ → PlainFormula → PlainTerm → Type 0
InUpdate u k ks a x = ((v : Pairs) × (y : Name) × (t : PlainTerm) × (w : Pairs) × (u ≡ v ++ ((y, t) ∷ w)) × (k ≡ length v) × (part_at ks (TermPart t) ≡ Some (TermPart x))) ⊎ ((k ≡ length u) × (part_at ks (FormulaPart a) ≡ Some (TermPart x)))

one_more : (p : Name × PlainTerm) (u : Pairs) (k : ℕ) (ks : List ℕ) (a : PlainFormula) (x : PlainTerm) → InUpdate u k ks a x → InUpdate (p ∷ u) (suc k) ks a x
one_more p u k ks a x (inl r) = inl (p ∷ r.0, r.1, r.2, r.3, ap (λ l. p ∷ l) r.4, ap suc r.5, r.6)
one_more p u k ks a x (inr r) = inr (ap suc r.0, r.1)

in_update : (u : Pairs) (k : ℕ) (ks : List ℕ) (a : PlainFormula) (x : PlainTerm) → option_and_then (part_at ks) (slice_get (map (λ p. TermPart p.1) u ++ (FormulaPart a ∷ [])) k) ≡ Some (TermPart x) → InUpdate u k ks a x
in_update [] zero ks a x e = inr (refl, e)
in_update [] (suc k) ks a x e = absurd (no_some e)
in_update (p ∷ u) zero ks a x e = inl ([], p.0, p.1, u, refl, refl, e)
in_update (p ∷ u) (suc k) ks a x e = one_more p u k ks a x (in_update u k ks a x e)

below_update : (u : Pairs) (k : ℕ) (ks : List ℕ) (a : PlainFormula) (x : PlainTerm) → (part_at ks (FormulaPart a) ≡ Some (TermPart x) → Under fill_both path_both ks a x) → InUpdate u k ks a x → Under fill_both path_both (suc k ∷ ks) (Updated u a) x
below_update u k ks a x more (inl r) = subst (λ n. Under fill_both path_both (suc n ∷ ks) (Updated u a) x) (sym r.5) (subst (λ l. Under fill_both path_both (suc (length r.0) ∷ ks) (Updated l a) x) (sym r.4) (step (λ h. (Hole, UpdRight r.0 r.1 h r.3 a)) (λ y. Updated (r.0 ++ ((r.1, y) ∷ r.3)) a) (suc (length r.0)) (λ h. refl) (λ h. refl) (each_term ks r.2 x r.6)))
below_update u k ks a x more (inr r) = subst (λ n. Under fill_both path_both (suc n ∷ ks) (Updated u a) x) (sym r.0) (step (λ p. (UpdH u p.0, p.1)) (Updated u) (suc (length u)) (λ h. refl) (λ h. refl) (more r.1))

each_formula : (path : List ℕ) (a : PlainFormula) (x : PlainTerm) → part_at path (FormulaPart a) ≡ Some (TermPart x) → Under fill_both path_both path a x
each_formula [] a x e = absurd (not_formula e)
each_formula (zero ∷ ks) a x e = absurd (no_some e)
each_formula (suc zero ∷ ks) (Not a) x e = step (λ p. (NotH p.0, p.1)) (λ y. Not y) 1 (λ h. refl) (λ h. refl) (each_formula ks a x e)
each_formula (suc (suc k) ∷ ks) (Not a) x e = absurd (no_some e)
each_formula (suc zero ∷ ks) (And a b) x e = step (λ p. (AndL p.0 b, p.1)) (λ y. And y b) 1 (λ h. refl) (λ h. refl) (each_formula ks a x e)
each_formula (suc (suc zero) ∷ ks) (And a b) x e = step (λ p. (AndR a p.0, p.1)) (λ y. And a y) 2 (λ h. refl) (λ h. refl) (each_formula ks b x e)
each_formula (suc (suc (suc k)) ∷ ks) (And a b) x e = absurd (no_some e)
each_formula (suc zero ∷ ks) (Or a b) x e = step (λ p. (OrL p.0 b, p.1)) (λ y. Or y b) 1 (λ h. refl) (λ h. refl) (each_formula ks a x e)
each_formula (suc (suc zero) ∷ ks) (Or a b) x e = step (λ p. (OrR a p.0, p.1)) (λ y. Or a y) 2 (λ h. refl) (λ h. refl) (each_formula ks b x e)
each_formula (suc (suc (suc k)) ∷ ks) (Or a b) x e = absurd (no_some e)
each_formula (suc zero ∷ ks) (Implies a b) x e = step (λ p. (ImpL p.0 b, p.1)) (λ y. Implies y b) 1 (λ h. refl) (λ h. refl) (each_formula ks a x e)
each_formula (suc (suc zero) ∷ ks) (Implies a b) x e = step (λ p. (ImpR a p.0, p.1)) (λ y. Implies a y) 2 (λ h. refl) (λ h. refl) (each_formula ks b x e)
each_formula (suc (suc (suc k)) ∷ ks) (Implies a b) x e = absurd (no_some e)
each_formula (suc zero ∷ ks) (Iff a b) x e = step (λ p. (IffL p.0 b, p.1)) (λ y. Iff y b) 1 (λ h. refl) (λ h. refl) (each_formula ks a x e)
each_formula (suc (suc zero) ∷ ks) (Iff a b) x e = step (λ p. (IffR a p.0, p.1)) (λ y. Iff a y) 2 (λ h. refl) (λ h. refl) (each_formula ks b x e)
each_formula (suc (suc (suc k)) ∷ ks) (Iff a b) x e = absurd (no_some e)
each_formula (suc zero ∷ ks) (Forall s a) x e = step (λ p. (AllH s p.0, p.1)) (λ y. Forall s y) 1 (λ h. refl) (λ h. refl) (each_formula ks a x e)
each_formula (suc (suc k) ∷ ks) (Forall s a) x e = absurd (no_some e)
each_formula (suc zero ∷ ks) (Exists s a) x e = step (λ p. (ExH s p.0, p.1)) (λ y. Exists s y) 1 (λ h. refl) (λ h. refl) (each_formula ks a x e)
each_formula (suc (suc k) ∷ ks) (Exists s a) x e = absurd (no_some e)
each_formula (suc zero ∷ ks) (Modal m c a) x e = step (λ p. (ModalH m c p.0, p.1)) (λ y. Modal m c y) 1 (λ h. refl) (λ h. refl) (each_formula ks a x e)
each_formula (suc (suc k) ∷ ks) (Modal m c a) x e = absurd (no_some e)
each_formula (suc k ∷ ks) (Updated u a) x e = below_update u k ks a x (each_formula ks a x) (in_update u k ks a x e)
each_formula (suc zero ∷ ks) (Equal a b) x e = step (λ h. (Hole, Eq0 h b)) (λ y. Equal y b) 1 (λ h. refl) (λ h. refl) (each_term ks a x e)
each_formula (suc (suc zero) ∷ ks) (Equal a b) x e = step (λ h. (Hole, Eq1 a h)) (λ y. Equal a y) 2 (λ h. refl) (λ h. refl) (each_term ks b x e)
each_formula (suc (suc (suc k)) ∷ ks) (Equal a b) x e = absurd (no_some e)
each_formula (suc zero ∷ ks) (Less a b) x e = step (λ h. (Hole, Lt0 h b)) (λ y. Less y b) 1 (λ h. refl) (λ h. refl) (each_term ks a x e)
each_formula (suc (suc zero) ∷ ks) (Less a b) x e = step (λ h. (Hole, Lt1 a h)) (λ y. Less a y) 2 (λ h. refl) (λ h. refl) (each_term ks b x e)
each_formula (suc (suc (suc k)) ∷ ks) (Less a b) x e = absurd (no_some e)
each_formula (suc zero ∷ ks) (LessOrEqual a b) x e = step (λ h. (Hole, Le0 h b)) (λ y. LessOrEqual y b) 1 (λ h. refl) (λ h. refl) (each_term ks a x e)
each_formula (suc (suc zero) ∷ ks) (LessOrEqual a b) x e = step (λ h. (Hole, Le1 a h)) (λ y. LessOrEqual a y) 2 (λ h. refl) (λ h. refl) (each_term ks b x e)
each_formula (suc (suc (suc k)) ∷ ks) (LessOrEqual a b) x e = absurd (no_some e)
each_formula (suc zero ∷ ks) (InLocations a b l) x e = step (λ h. (Hole, In0 h b l)) (λ y. InLocations y b l) 1 (λ h. refl) (λ h. refl) (each_term ks a x e)
each_formula (suc (suc zero) ∷ ks) (InLocations a b l) x e = step (λ h. (Hole, In1 a h l)) (λ y. InLocations a y l) 2 (λ h. refl) (λ h. refl) (each_term ks b x e)
each_formula (suc (suc (suc zero)) ∷ ks) (InLocations a b l) x e = step (λ h. (Hole, In2 a b h)) (λ y. InLocations a b y) 3 (λ h. refl) (λ h. refl) (each_loc ks l x e)
each_formula (suc (suc (suc (suc k))) ∷ ks) (InLocations a b l) x e = absurd (no_some e)
each_formula (suc zero ∷ ks) (InInt a) x e = step (λ h. (Hole, InInt0 h)) (λ y. InInt y) 1 (λ h. refl) (λ h. refl) (each_term ks a x e)
each_formula (suc (suc k) ∷ ks) (InInt a) x e = absurd (no_some e)
each_formula (suc zero ∷ ks) (WellFormed a) x e = step (λ h. (Hole, Wf0 h)) (λ y. WellFormed y) 1 (λ h. refl) (λ h. refl) (each_term ks a x e)
each_formula (suc (suc k) ∷ ks) (WellFormed a) x e = absurd (no_some e)
each_formula (suc zero ∷ ks) (Invariant a b) x e = step (λ h. (Hole, Inv0 h b)) (λ y. Invariant y b) 1 (λ h. refl) (λ h. refl) (each_term ks a x e)
each_formula (suc (suc zero) ∷ ks) (Invariant a b) x e = step (λ h. (Hole, Inv1 a h)) (λ y. Invariant a y) 2 (λ h. refl) (λ h. refl) (each_term ks b x e)
each_formula (suc (suc (suc k)) ∷ ks) (Invariant a b) x e = absurd (no_some e)
each_formula (suc zero ∷ ks) (IsInstance j a) x e = step (λ h. (Hole, Inst1 j h)) (λ y. IsInstance j y) 1 (λ h. refl) (λ h. refl) (each_term ks a x e)
each_formula (suc (suc k) ∷ ks) (IsInstance j a) x e = absurd (no_some e)
each_formula (suc zero ∷ ks) (IsExactInstance j a) x e = step (λ h. (Hole, Exact1 j h)) (λ y. IsExactInstance j y) 1 (λ h. refl) (λ h. refl) (each_term ks a x e)
each_formula (suc (suc k) ∷ ks) (IsExactInstance j a) x e = absurd (no_some e)
each_formula (suc k ∷ ks) TrueFormula x e = absurd (no_some e)
each_formula (suc k ∷ ks) FalseFormula x e = absurd (no_some e)

-- ---- what a path of surroundings reaches

mutual
  found_term : (h : TermHole) (x : PlainTerm) → part_at (term_path h) (TermPart (fill_term h x)) ≡ Some (TermPart x)
  found_term WholeTerm x = refl
  found_term (Arith1 op h b) x = found_term h x
  found_term (Arith2 op a h) x = found_term h x
  found_term (Neg0 h) x = found_term h x
  found_term (Wrap0 h) x = found_term h x
  found_term (Len0 h) x = found_term h x
  found_term (Select1 s h b c) x = found_term h x
  found_term (Select2 s a h c) x = found_term h x
  found_term (Select3 s a b h) x = found_term h x
  found_term (Sum0 h b c) x = found_term h x
  found_term (Sum1 a h c) x = found_term h x
  found_term (Sum2 a b h) x = found_term h x
  found_term (StoreT0 h b c d) x = found_term h x
  found_term (StoreT1 a h c d) x = found_term h x
  found_term (StoreT2 a b h d) x = found_term h x
  found_term (StoreT3 a b c h) x = found_term h x
  found_term (CreateT0 h b) x = found_term h x
  found_term (CreateT1 a h) x = found_term h x
  found_term (AnonT0 h l b) x = found_term h x
  found_term (AnonT1 a h b) x = found_loc h x
  found_term (AnonT2 a l h) x = found_term h x
  found_term (IdxT0 h) x = found_term h x

  found_loc : (h : LocHole) (x : PlainTerm) → part_at (loc_path h) (LocPart (fill_loc h x)) ≡ Some (TermPart x)
  found_loc (LLoc0 h b) x = found_term h x
  found_loc (LLoc1 a h) x = found_term h x
  found_loc (LObj0 h) x = found_term h x
  found_loc (LArrAll0 h) x = found_term h x
  found_loc (LArr0 h b c) x = found_term h x
  found_loc (LArr1 a h c) x = found_term h x
  found_loc (LArr2 a b h) x = found_term h x
  found_loc (LUnion0 h m) x = found_loc h x
  found_loc (LUnion1 l h) x = found_loc h x

right_side : (v : Pairs) (y : Name) (t : PlainTerm) (w : Pairs) (a : PlainFormula) → slice_get (map (λ (p : Name × PlainTerm). TermPart p.1) (v ++ ((y, t) ∷ w)) ++ (FormulaPart a ∷ [])) (length v) ≡ Some (TermPart t)
right_side [] y t w a = refl
right_side (p ∷ v) y t w a = right_side v y t w a

last_child : (u : Pairs) (a : PlainFormula) → slice_get (map (λ (p : Name × PlainTerm). TermPart p.1) u ++ (FormulaPart a ∷ [])) (length u) ≡ Some (FormulaPart a)
last_child [] a = refl
last_child (p ∷ u) a = last_child u a

found_atom : (h : AtomHole) (x : PlainTerm) → part_at (atom_path h) (FormulaPart (fill_atom h x)) ≡ Some (TermPart x)
found_atom (Eq0 h b) x = found_term h x
found_atom (Eq1 a h) x = found_term h x
found_atom (Lt0 h b) x = found_term h x
found_atom (Lt1 a h) x = found_term h x
found_atom (Le0 h b) x = found_term h x
found_atom (Le1 a h) x = found_term h x
found_atom (In0 h b l) x = found_term h x
found_atom (In1 a h l) x = found_term h x
found_atom (In2 a b h) x = found_loc h x
found_atom (InInt0 h) x = found_term h x
found_atom (Wf0 h) x = found_term h x
found_atom (Inv0 h b) x = found_term h x
found_atom (Inv1 a h) x = found_term h x
found_atom (Inst1 j h) x = found_term h x
found_atom (Exact1 j h) x = found_term h x
found_atom (UpdRight v y h w a) x = ap (option_and_then (part_at (term_path h))) (right_side v y (fill_term h x) w a) ∙ found_term h x

found_both : (h : Around) (k : AtomHole) (x : PlainTerm) → part_at (path_of h ++ atom_path k) (FormulaPart (plug h (fill_atom k x))) ≡ Some (TermPart x)
found_both Hole k x = found_atom k x
found_both (NotH h) k x = found_both h k x
found_both (AndL h b) k x = found_both h k x
found_both (AndR a h) k x = found_both h k x
found_both (OrL h b) k x = found_both h k x
found_both (OrR a h) k x = found_both h k x
found_both (ImpL h b) k x = found_both h k x
found_both (ImpR a h) k x = found_both h k x
found_both (IffL h b) k x = found_both h k x
found_both (IffR a h) k x = found_both h k x
found_both (AllH s h) k x = found_both h k x
found_both (ExH s h) k x = found_both h k x
found_both (ModalH m c h) k x = found_both h k x
found_both (UpdH u h) k x = ap (option_and_then (part_at (path_of h ++ atom_path k))) (last_child u (plug h (fill_atom k x))) ∙ found_both h k x

-- ---- on a side

record InList (path : List ℕ) (l : List PlainFormula) (n : ℕ) (x : PlainTerm) : Type 0 where
  before : List PlainFormula
  behind : List PlainFormula
  around : Around
  atom : AtomHole
  list : l ≡ before ++ (plug around (fill_atom atom x) ∷ behind)
  number : n ≡ suc (length before)
  path_is : path ≡ path_of around ++ atom_path atom

each_in : (path : List ℕ) (l : List PlainFormula) (n : ℕ) (x : PlainTerm) → option_and_then (λ a. part_at path (FormulaPart a)) (numbered l n) ≡ Some (TermPart x) → InList path l n x
each_in path l zero x e = absurd (no_some e)
each_in path [] (suc n) x e = absurd (no_some e)
each_in path (a ∷ l) (suc zero) x e = let b = each_formula path a x e in record { before = []; behind = l; around = b.hole.0; atom = b.hole.1; list = ap (λ y. y ∷ l) b.whole_is; number = refl; path_is = b.path_is }
each_in path (a ∷ l) (suc (suc n)) x e = let b = each_in path l (suc n) x e in record { before = a ∷ b.before; behind = b.behind; around = b.around; atom = b.atom; list = ap (λ y. a ∷ y) b.list; number = ap suc b.number; path_is = b.path_is }

found_in : (f b : List PlainFormula) (h : Around) (k : AtomHole) (x : PlainTerm) → option_and_then (λ y. part_at (path_of h ++ atom_path k) (FormulaPart y)) (slice_get (f ++ (plug h (fill_atom k x) ∷ b)) (length f)) ≡ Some (TermPart x)
found_in [] b h k x = found_both h k x
found_in (y ∷ f) b h k x = found_in f b h k x

pub term_places : TermPlacesAreSurrounded
term_places = record {
  each = λ s p t e. by s p.side p.index p.path t e;
  found = λ w h k t. there w h k t;
}
  where
    by : (s : PlainSequent) (side : Side) (n : ℕ) (path : List ℕ) (t : PlainTerm) → option_and_then (λ y. part_at path (FormulaPart y)) (numbered (on_side s side) n) ≡ Some (TermPart t) → IsTermSurrounded s (record { side = side; index = n; path = path }) t
    by s Left n path t e = let b = each_in path s.left n t e in record { spot = AtLeft b.before b.behind s.right; around = b.around; atom = b.atom; sequent = λ i. record { left = b.list i; right = s.right }; place = λ i. record { side = Left; index = b.number i; path = b.path_is i } }
    by s Right n path t e = let b = each_in path s.right n t e in record { spot = AtRight s.left b.before b.behind; around = b.around; atom = b.atom; sequent = λ i. record { left = s.left; right = b.list i }; place = λ i. record { side = Right; index = b.number i; path = b.path_is i } }

    there : (w : Spot) (h : Around) (k : AtomHole) (t : PlainTerm) → at_place (whole w (plug h (fill_atom k t))) (place_of w (path_of h ++ atom_path k)) ≡ Some (TermPart t)
    there (AtLeft f b r) h k t = found_in f b h k t
    there (AtRight l f b) h k t = found_in f b h k t
