-- Places by paths are places by what surrounds them.
use Rattle.std.proofs.Common.{◌≡◌, ℕ, zero, suc, List, [], ◌∷◌, ◌++◌, length, map, Some, None, refl, sym, ap, ◌∙◌, subst}
use Rattle.std.specs.Prelude.{option_and_then, slice_get}
use Rattle.jd_syntax.specs.Names.{Name}
use Rattle.jd_term.specs.Terms.{PlainTerm, Arithmetic, Negation, Wrap, Length, Select, Sum, Store, Create, Anon, ElementField, PlainLoc, Single, ObjectFields, ArrayElements, ElementRange, Union}
use Rattle.jd_term.specs.Formulas.{Pairs, PlainFormula, TrueFormula, FalseFormula, Not, And, Or, Implies, Iff, Equal, Less, LessOrEqual, Forall, Exists, Updated, Modal, InLocations, InInt, WellFormed, Invariant, IsInstance, IsExactInstance}
use Rattle.jd_model.specs.declared.sequent.Side.{Side}
use Rattle.jd_model.specs.declared.sequent.Side.TheVariants.{Left, Right}
use Rattle.jd_model.specs.Holes.{Around, Hole, NotH, AndL, OrL, ImpL, IffL, AndR, OrR, ImpR, IffR, AllH, ExH, UpdH, ModalH, plug}
use Rattle.jd_model.specs.Places.{Part, FormulaPart, TermPart, LocPart, term_children, loc_children, children, part_at, numbered, on_side, at_place, put_formula, put_in, put_at}
use Rattle.jd_model.specs.Sequents.{PlainSequent}
use Rattle.jd_taclet_steps.specs.Steps.{Spot, AtLeft, AtRight, whole}
use Rattle.jd_taclet_steps.specs.Places.{path_of, place_of, IsSurrounded, PlacesAreSurrounded}

no_some : {A : Type 0} {x : A} → None ≡ Some x → ⊥
no_some h = cc

same_formula : {a c : PlainFormula} → Some (FormulaPart a) ≡ Some (FormulaPart c) → a ≡ c
same_formula h = cc

no_formula : {t : PlainTerm} {c : PlainFormula} → Some (TermPart t) ≡ Some (FormulaPart c) → ⊥
no_formula h = cc

no_formula_either : {l : PlainLoc} {c : PlainFormula} → Some (LocPart l) ≡ Some (FormulaPart c) → ⊥
no_formula_either h = cc

-- ---- no formula stands below a term or a location set

abbrev IsNoFormula : Part → Type 0
IsNoFormula (FormulaPart a) = ⊥
IsNoFormula p = Unit {0}

abbrev AreNone : List Part → Type 0
AreNone [] = Unit {0}
AreNone (p ∷ ps) = IsNoFormula p × AreNone ps

none_below_term : (t : PlainTerm) → AreNone (term_children t)
none_below_term (Arithmetic op t u) = (tt, (tt, tt))
none_below_term (Negation t) = (tt, tt)
none_below_term (Wrap t) = (tt, tt)
none_below_term (Length o) = (tt, tt)
none_below_term (Select s h o f) = (tt, (tt, (tt, tt)))
none_below_term (Sum t u v) = (tt, (tt, (tt, tt)))
none_below_term (Store h o f t) = (tt, (tt, (tt, (tt, tt))))
none_below_term (Create h o) = (tt, (tt, tt))
none_below_term (Anon h l g) = (tt, (tt, (tt, tt)))
none_below_term (ElementField t) = (tt, tt)
none_below_term t = tt

none_below_loc : (l : PlainLoc) → AreNone (loc_children l)
none_below_loc (Single o f) = (tt, (tt, tt))
none_below_loc (ObjectFields o) = (tt, tt)
none_below_loc (ArrayElements o) = (tt, tt)
none_below_loc (ElementRange o t u) = (tt, (tt, (tt, tt)))
none_below_loc (Union l m) = (tt, (tt, tt))
none_below_loc l = tt

none_below : (p : Part) → IsNoFormula p → AreNone (children p)
none_below (FormulaPart a) h = absurd h
none_below (TermPart t) h = none_below_term t
none_below (LocPart l) h = none_below_loc l

none_by : (path : List ℕ) (x : PlainFormula) → ((p : Part) → IsNoFormula p → part_at path p ≡ Some (FormulaPart x) → ⊥) → (ps : List Part) → AreNone ps → (k : ℕ) → option_and_then (part_at path) (slice_get ps k) ≡ Some (FormulaPart x) → ⊥
none_by path x none [] h k e = no_some e
none_by path x none (p ∷ ps) h zero e = none p h.0 e
none_by path x none (p ∷ ps) h (suc k) e = none_by path x none ps h.1 k e

none_at : (path : List ℕ) (p : Part) (x : PlainFormula) → IsNoFormula p → part_at path p ≡ Some (FormulaPart x) → ⊥
none_at [] (FormulaPart a) x h e = h
none_at [] (TermPart t) x h e = no_formula e
none_at [] (LocPart l) x h e = no_formula_either e
none_at (zero ∷ ks) p x h e = no_some e
none_at (suc k ∷ ks) p x h e = none_by ks x (λ c i f. none_at ks c x i f) (children p) (none_below p h) k e

none_among : (path : List ℕ) (x : PlainFormula) (ps : List Part) → AreNone ps → (k : ℕ) → option_and_then (part_at path) (slice_get ps k) ≡ Some (FormulaPart x) → ⊥
none_among path x ps h k e = none_by path x (λ c i f. none_at path c x i f) ps h k e

-- ---- below a formula

-- what stands below an update stands below its body
below_update : (u : Pairs) (k : ℕ) (ks : List ℕ) (a x : PlainFormula) → option_and_then (part_at ks) (slice_get (map (λ p. TermPart p.1) u ++ (FormulaPart a ∷ [])) k) ≡ Some (FormulaPart x) → (k ≡ length u) × (part_at ks (FormulaPart a) ≡ Some (FormulaPart x))
below_update [] zero ks a x e = (refl, e)
below_update [] (suc k) ks a x e = absurd (no_some e)
below_update (p ∷ u) zero ks a x e = absurd (none_at ks (TermPart p.1) x tt e)
below_update (p ∷ u) (suc k) ks a x e = let r = below_update u k ks a x e in (ap suc r.0, r.1)

-- what surrounds the place below the formula
record Below (path : List ℕ) (a x : PlainFormula) : Type 0 where
  around : Around
  formula : a ≡ plug around x
  path_is : path ≡ path_of around

below : {ks : List ℕ} {a x : PlainFormula} (f : Around → Around) (w : PlainFormula → PlainFormula) (n : ℕ) → ((h : Around) → w (plug h x) ≡ plug (f h) x) → ((h : Around) → n ∷ path_of h ≡ path_of (f h)) → Below ks a x → Below (n ∷ ks) (w a) x
below f w n same path b = record { around = f b.around; formula = ap w b.formula ∙ same b.around; path_is = ap (λ l. n ∷ l) b.path_is ∙ path b.around }

each_below : (path : List ℕ) (a x : PlainFormula) → part_at path (FormulaPart a) ≡ Some (FormulaPart x) → Below path a x
each_below [] a x e = record { around = Hole; formula = same_formula e; path_is = refl }
each_below (zero ∷ ks) a x e = absurd (no_some e)
each_below (suc zero ∷ ks) (Not a) x e = below NotH Not 1 (λ h. refl) (λ h. refl) (each_below ks a x e)
each_below (suc (suc k) ∷ ks) (Not a) x e = absurd (no_some e)
each_below (suc zero ∷ ks) (And a c) x e = below (λ h. AndL h c) (λ y. And y c) 1 (λ h. refl) (λ h. refl) (each_below ks a x e)
each_below (suc (suc zero) ∷ ks) (And a c) x e = below (λ h. AndR a h) (λ y. And a y) 2 (λ h. refl) (λ h. refl) (each_below ks c x e)
each_below (suc (suc (suc k)) ∷ ks) (And a c) x e = absurd (no_some e)
each_below (suc zero ∷ ks) (Or a c) x e = below (λ h. OrL h c) (λ y. Or y c) 1 (λ h. refl) (λ h. refl) (each_below ks a x e)
each_below (suc (suc zero) ∷ ks) (Or a c) x e = below (λ h. OrR a h) (λ y. Or a y) 2 (λ h. refl) (λ h. refl) (each_below ks c x e)
each_below (suc (suc (suc k)) ∷ ks) (Or a c) x e = absurd (no_some e)
each_below (suc zero ∷ ks) (Implies a c) x e = below (λ h. ImpL h c) (λ y. Implies y c) 1 (λ h. refl) (λ h. refl) (each_below ks a x e)
each_below (suc (suc zero) ∷ ks) (Implies a c) x e = below (λ h. ImpR a h) (λ y. Implies a y) 2 (λ h. refl) (λ h. refl) (each_below ks c x e)
each_below (suc (suc (suc k)) ∷ ks) (Implies a c) x e = absurd (no_some e)
each_below (suc zero ∷ ks) (Iff a c) x e = below (λ h. IffL h c) (λ y. Iff y c) 1 (λ h. refl) (λ h. refl) (each_below ks a x e)
each_below (suc (suc zero) ∷ ks) (Iff a c) x e = below (λ h. IffR a h) (λ y. Iff a y) 2 (λ h. refl) (λ h. refl) (each_below ks c x e)
each_below (suc (suc (suc k)) ∷ ks) (Iff a c) x e = absurd (no_some e)
each_below (suc zero ∷ ks) (Forall s a) x e = below (AllH s) (Forall s) 1 (λ h. refl) (λ h. refl) (each_below ks a x e)
each_below (suc (suc k) ∷ ks) (Forall s a) x e = absurd (no_some e)
each_below (suc zero ∷ ks) (Exists s a) x e = below (ExH s) (Exists s) 1 (λ h. refl) (λ h. refl) (each_below ks a x e)
each_below (suc (suc k) ∷ ks) (Exists s a) x e = absurd (no_some e)
each_below (suc k ∷ ks) (Updated u a) x e = let r = below_update u k ks a x e in subst (λ n. Below (suc n ∷ ks) (Updated u a) x) (sym r.0) (below (UpdH u) (Updated u) (suc (length u)) (λ h. refl) (λ h. refl) (each_below ks a x r.1))
each_below (suc zero ∷ ks) (Modal m c a) x e = below (ModalH m c) (Modal m c) 1 (λ h. refl) (λ h. refl) (each_below ks a x e)
each_below (suc (suc k) ∷ ks) (Modal m c a) x e = absurd (no_some e)
each_below (suc k ∷ ks) TrueFormula x e = absurd (no_some e)
each_below (suc k ∷ ks) FalseFormula x e = absurd (no_some e)
each_below (suc k ∷ ks) (Equal t u) x e = absurd (none_among ks x (TermPart t ∷ TermPart u ∷ []) (tt, (tt, tt)) k e)
each_below (suc k ∷ ks) (Less t u) x e = absurd (none_among ks x (TermPart t ∷ TermPart u ∷ []) (tt, (tt, tt)) k e)
each_below (suc k ∷ ks) (LessOrEqual t u) x e = absurd (none_among ks x (TermPart t ∷ TermPart u ∷ []) (tt, (tt, tt)) k e)
each_below (suc k ∷ ks) (InLocations o f l) x e = absurd (none_among ks x (TermPart o ∷ TermPart f ∷ LocPart l ∷ []) (tt, (tt, (tt, tt))) k e)
each_below (suc k ∷ ks) (InInt t) x e = absurd (none_among ks x (TermPart t ∷ []) (tt, tt) k e)
each_below (suc k ∷ ks) (WellFormed h) x e = absurd (none_among ks x (TermPart h ∷ []) (tt, tt) k e)
each_below (suc k ∷ ks) (Invariant h o) x e = absurd (none_among ks x (TermPart h ∷ TermPart o ∷ []) (tt, (tt, tt)) k e)
each_below (suc k ∷ ks) (IsInstance j o) x e = absurd (none_among ks x (TermPart o ∷ []) (tt, tt) k e)
each_below (suc k ∷ ks) (IsExactInstance j o) x e = absurd (none_among ks x (TermPart o ∷ []) (tt, tt) k e)

-- ---- what a surrounded formula's path reaches, and putting another there

last_child : (u : Pairs) (a : PlainFormula) → slice_get (map (λ (p : Name × PlainTerm). TermPart p.1) u ++ (FormulaPart a ∷ [])) (length u) ≡ Some (FormulaPart a)
last_child [] a = refl
last_child (p ∷ u) a = last_child u a

found_below : (h : Around) (a : PlainFormula) → part_at (path_of h) (FormulaPart (plug h a)) ≡ Some (FormulaPart a)
found_below Hole a = refl
found_below (NotH h) a = found_below h a
found_below (AndL h c) a = found_below h a
found_below (OrL h c) a = found_below h a
found_below (ImpL h c) a = found_below h a
found_below (IffL h c) a = found_below h a
found_below (AndR c h) a = found_below h a
found_below (OrR c h) a = found_below h a
found_below (ImpR c h) a = found_below h a
found_below (IffR c h) a = found_below h a
found_below (AllH s h) a = found_below h a
found_below (ExH s h) a = found_below h a
found_below (UpdH u h) a = ap (option_and_then (part_at (path_of h))) (last_child u (plug h a)) ∙ found_below h a
found_below (ModalH m c h) a = found_below h a

put_below : (h : Around) (a c : PlainFormula) → put_formula (path_of h) c (plug h a) ≡ plug h c
put_below Hole a c = refl
put_below (NotH h) a c = ap Not (put_below h a c)
put_below (AndL h b) a c = ap (λ y. And y b) (put_below h a c)
put_below (OrL h b) a c = ap (λ y. Or y b) (put_below h a c)
put_below (ImpL h b) a c = ap (λ y. Implies y b) (put_below h a c)
put_below (IffL h b) a c = ap (λ y. Iff y b) (put_below h a c)
put_below (AndR b h) a c = ap (And b) (put_below h a c)
put_below (OrR b h) a c = ap (Or b) (put_below h a c)
put_below (ImpR b h) a c = ap (Implies b) (put_below h a c)
put_below (IffR b h) a c = ap (Iff b) (put_below h a c)
put_below (AllH s h) a c = ap (Forall s) (put_below h a c)
put_below (ExH s h) a c = ap (Exists s) (put_below h a c)
put_below (UpdH u h) a c = ap (Updated u) (put_below h a c)
put_below (ModalH m k h) a c = ap (Modal m k) (put_below h a c)

-- ---- on a side

record InList (path : List ℕ) (l : List PlainFormula) (n : ℕ) (x : PlainFormula) : Type 0 where
  before : List PlainFormula
  behind : List PlainFormula
  around : Around
  list : l ≡ before ++ (plug around x ∷ behind)
  number : n ≡ suc (length before)
  path_is : path ≡ path_of around

each_in : (path : List ℕ) (l : List PlainFormula) (n : ℕ) (x : PlainFormula) → option_and_then (λ a. part_at path (FormulaPart a)) (numbered l n) ≡ Some (FormulaPart x) → InList path l n x
each_in path l zero x e = absurd (no_some e)
each_in path [] (suc n) x e = absurd (no_some e)
each_in path (a ∷ l) (suc zero) x e = let b = each_below path a x e in record { before = []; behind = l; around = b.around; list = ap (λ y. y ∷ l) b.formula; number = refl; path_is = b.path_is }
each_in path (a ∷ l) (suc (suc n)) x e = let b = each_in path l (suc n) x e in record { before = a ∷ b.before; behind = b.behind; around = b.around; list = ap (λ y. a ∷ y) b.list; number = ap suc b.number; path_is = b.path_is }

found_in : (f b : List PlainFormula) (h : Around) (a : PlainFormula) → option_and_then (λ y. part_at (path_of h) (FormulaPart y)) (slice_get (f ++ (plug h a ∷ b)) (length f)) ≡ Some (FormulaPart a)
found_in [] b h a = found_below h a
found_in (y ∷ f) b h a = found_in f b h a

put_here : (f b : List PlainFormula) (h : Around) (a c : PlainFormula) → put_in (f ++ (plug h a ∷ b)) (suc (length f)) (path_of h) c ≡ f ++ (plug h c ∷ b)
put_here [] b h a c = ap (λ y. y ∷ b) (put_below h a c)
put_here (y ∷ f) b h a c = ap (λ l. y ∷ l) (put_here f b h a c)

pub places : PlacesAreSurrounded
places = record {
  each = λ s p a e. by s p.side p.index p.path a e;
  found = λ w h a. there w h a;
  put = λ w h a c. put_there w h a c;
}
  where
    by : (s : PlainSequent) (side : Side) (n : ℕ) (path : List ℕ) (a : PlainFormula) → option_and_then (λ y. part_at path (FormulaPart y)) (numbered (on_side s side) n) ≡ Some (FormulaPart a) → IsSurrounded s (record { side = side; index = n; path = path }) a
    by s Left n path a e = let b = each_in path s.left n a e in record { spot = AtLeft b.before b.behind s.right; around = b.around; sequent = λ i. record { left = b.list i; right = s.right }; place = λ i. record { side = Left; index = b.number i; path = b.path_is i } }
    by s Right n path a e = let b = each_in path s.right n a e in record { spot = AtRight s.left b.before b.behind; around = b.around; sequent = λ i. record { left = s.left; right = b.list i }; place = λ i. record { side = Right; index = b.number i; path = b.path_is i } }

    there : (w : Spot) (h : Around) (a : PlainFormula) → at_place (whole w (plug h a)) (place_of w (path_of h)) ≡ Some (FormulaPart a)
    there (AtLeft f b r) h a = found_in f b h a
    there (AtRight l f b) h a = found_in f b h a

    put_there : (w : Spot) (h : Around) (a c : PlainFormula) → put_at (whole w (plug h a)) (place_of w (path_of h)) c ≡ whole w (plug h c)
    put_there (AtLeft f b r) h a c = λ i. record { left = put_here f b h a c i; right = r }
    put_there (AtRight l f b) h a c = λ i. record { left = l; right = put_here f b h a c i }
