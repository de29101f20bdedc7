-- Walking along a path that lies in no update's body and in no modality's formula.
use Rattle.std.proofs.Common.{Bool, List, ap, arith, cond, drop, eqb, false, get_or, length, map, not, refl, suc, sym, true, zero, ◌&&◌, ◌+◌, ◌++◌, ◌<◌, ◌≡◌, ◌∙◌, ◌∷◌, ℕ, []}
use Rattle.std.specs.Option.{option_map_or}
use Rattle.std.specs.List.{slice_get}
use Rattle.std.proofs.lemmas.Bool.{eqb-false, ne_eqb}
use Rattle.std.proofs.lemmas.List.{drop_more}
use Rattle.jd_model.specs.Places.{FormulaPart, LocPart, Part, TermPart, loc_children, numbered, term_children}
use Rattle.jd_taclet_scripts.specs.Places.{is_calm}
use Rattle.jd_term.specs.Formulas.{And, Equal, Exists, FalseFormula, Forall, Iff, Implies, InInt, InLocations, Invariant, IsExactInstance, IsInstance, Less, LessOrEqual, Modal, Not, Or, Pairs, PlainFormula, TrueFormula, Updated, WellFormed}
use Rattle.jd_term.specs.Terms.{AllLocations, Anon, Arithmetic, ArrayElements, Boolean, Bound, Constant, Create, CreatedField, ElementField, ElementRange, Length, NamedField, Negation, NoLocations, NullTerm, Number, ObjectFields, PlainLoc, PlainTerm, ProgramVariable, Select, Single, Store, Sum, Union, Wrap}
use Rattle.jd_taclet_matching.specs.Calm.{Behind, Elsewhere, Inner, Within, in_update, inner_of, only_part, two_parts}

-- ---- terms and locations have no formulas in them

abbrev NoFormulas : List Part → Type 0
NoFormulas [] = Unit {0}
NoFormulas (FormulaPart a ∷ ps) = ⊥
NoFormulas (TermPart t ∷ ps) = NoFormulas ps
NoFormulas (LocPart l ∷ ps) = NoFormulas ps

none_in_term : (t : PlainTerm) → NoFormulas (term_children t)
none_in_term (Number n) = tt
none_in_term (Boolean b) = tt
none_in_term NullTerm = tt
none_in_term (ProgramVariable x) = tt
none_in_term (Constant c) = tt
none_in_term (Bound k s) = tt
none_in_term (Arithmetic op t u) = tt
none_in_term (Negation t) = tt
none_in_term (Wrap t) = tt
none_in_term (Length o) = tt
none_in_term (Select s h o f) = tt
none_in_term (Sum t u v) = tt
none_in_term (Store h o f t) = tt
none_in_term (Create h o) = tt
none_in_term (Anon h l g) = tt
none_in_term (NamedField f) = tt
none_in_term CreatedField = tt
none_in_term (ElementField t) = tt

none_in_loc : (l : PlainLoc) → NoFormulas (loc_children l)
none_in_loc NoLocations = tt
none_in_loc AllLocations = tt
none_in_loc (Single o f) = tt
none_in_loc (ObjectFields o) = tt
none_in_loc (ArrayElements o) = tt
none_in_loc (ElementRange o t u) = tt
none_in_loc (Union l m) = tt

-- all paths through them lie in no update's body and in no modality's formula
abbrev AreCalm : List ℕ → Type 0
AreCalm ks = ((t : PlainTerm) → is_calm ks (TermPart t) ≡ true) × ((l : PlainLoc) → is_calm ks (LocPart l) ≡ true)

calm_at : (ks : List ℕ) → AreCalm ks → (ps : List Part) (k : ℕ) → NoFormulas ps → option_map_or (is_calm ks) (slice_get ps k) true ≡ true
calm_at ks r [] k none = refl
calm_at ks r (FormulaPart a ∷ ps) k none = absurd none
calm_at ks r (TermPart t ∷ ps) zero none = r.0 t
calm_at ks r (TermPart t ∷ ps) (suc k) none = calm_at ks r ps k none
calm_at ks r (LocPart l ∷ ps) zero none = r.1 l
calm_at ks r (LocPart l ∷ ps) (suc k) none = calm_at ks r ps k none

calm_part : (ks : List ℕ) → AreCalm ks → (ps : List Part) (k : ℕ) → NoFormulas ps → option_map_or (is_calm ks) (numbered ps k) true ≡ true
calm_part ks r ps zero none = refl
calm_part ks r ps (suc k) none = calm_at ks r ps k none

are_calm : (ks : List ℕ) → AreCalm ks
are_calm [] = (λ t. refl, λ l. refl)
are_calm (k ∷ ks) =
    let r = are_calm ks in
    (λ t. calm_part ks r (term_children t) k (none_in_term t), λ l. calm_part ks r (loc_children l) k (none_in_loc l))

-- ---- one step

-- whether what is left of the path may lie in what the child is
abbrev pub calm_by : Inner → List ℕ → Bool
calm_by Behind ks = false
calm_by (Within a) ks = is_calm ks (FormulaPart a)
calm_by Elsewhere ks = true

along_one : (a : PlainFormula) (k : ℕ) (ks : List ℕ) → calm_by (only_part a k) ks ≡ option_map_or (is_calm ks) (numbered (FormulaPart a ∷ []) k) true
along_one a zero ks = refl
along_one a (suc zero) ks = refl
along_one a (suc (suc k)) ks = ap (λ b. calm_by (cond b (Within a) Elsewhere) ks) (ne_eqb (suc (suc k)) 1 (λ e. absurd (omega (arith, e))))

along_two : (a c : PlainFormula) (k : ℕ) (ks : List ℕ) → calm_by (two_parts a c k) ks ≡ option_map_or (is_calm ks) (numbered (FormulaPart a ∷ FormulaPart c ∷ []) k) true
along_two a c zero ks = refl
along_two a c (suc zero) ks = refl
along_two a c (suc (suc zero)) ks = refl
along_two a c (suc (suc (suc k))) ks =
    let n : ℕ = suc (suc (suc k)) in
    ap (λ b. calm_by (cond b (Within a) (cond (eqb n 2) (Within c) Elsewhere)) ks) (ne_eqb n 1 (λ e. absurd (omega (arith, e))))
    ∙ ap (λ b. calm_by (cond b (Within c) Elsewhere) ks) (ne_eqb n 2 (λ e. absurd (omega (arith, e))))

abbrev update_parts : Pairs → PlainFormula → List Part
update_parts u a = map (λ p. TermPart p.1) u ++ (FormulaPart a ∷ [])

at_pairs : (ks : List ℕ) → AreCalm ks → (u : Pairs) (a : PlainFormula) (k : ℕ) → (suc k ≡ suc (length u) → ⊥) → option_map_or (is_calm ks) (slice_get (update_parts u a) k) true ≡ true
at_pairs ks r [] a zero other = absurd (other refl)
at_pairs ks r [] a (suc k) other = refl
at_pairs ks r (p ∷ u) a zero other = r.0 p.1
at_pairs ks r (p ∷ u) a (suc k) other = at_pairs ks r u a k (λ e. other (omega (arith, e)))

at_update : (ks : List ℕ) (u : Pairs) (a : PlainFormula) (k : ℕ) → (k ≡ suc (length u) → ⊥) → option_map_or (is_calm ks) (numbered (update_parts u a) k) true ≡ true
at_update ks u a zero other = refl
at_update ks u a (suc k) other = at_pairs ks (are_calm ks) u a k other

along_update : (u : Pairs) (a : PlainFormula) (k : ℕ) (ks : List ℕ) → calm_by (in_update u k) ks ≡ (not (eqb k (suc (length u))) && option_map_or (is_calm ks) (numbered (update_parts u a) k) true)
along_update u a k ks = by (eqb k (suc (length u))) refl
  where
    by : (b : Bool) → eqb k (suc (length u)) ≡ b → calm_by (cond b Behind Elsewhere) ks ≡ (not b && option_map_or (is_calm ks) (numbered (update_parts u a) k) true)
    by true is = refl
    by false is = sym (at_update ks u a k (eqb-false k (suc (length u)) is))

pub calm_along : (a : PlainFormula) (k : ℕ) (ks : List ℕ) → calm_by (inner_of a k) ks ≡ is_calm (k ∷ ks) (FormulaPart a)
calm_along TrueFormula k ks = sym (calm_part ks (are_calm ks) [] k tt)
calm_along FalseFormula k ks = sym (calm_part ks (are_calm ks) [] k tt)
calm_along (Not a) k ks = along_one a k ks
calm_along (And a c) k ks = along_two a c k ks
calm_along (Or a c) k ks = along_two a c k ks
calm_along (Implies a c) k ks = along_two a c k ks
calm_along (Iff a c) k ks = along_two a c k ks
calm_along (Equal t u) k ks = sym (calm_part ks (are_calm ks) (TermPart t ∷ TermPart u ∷ []) k tt)
calm_along (Less t u) k ks = sym (calm_part ks (are_calm ks) (TermPart t ∷ TermPart u ∷ []) k tt)
calm_along (LessOrEqual t u) k ks = sym (calm_part ks (are_calm ks) (TermPart t ∷ TermPart u ∷ []) k tt)
calm_along (Forall s a) k ks = along_one a k ks
calm_along (Exists s a) k ks = along_one a k ks
calm_along (Updated u a) k ks = along_update u a k ks
calm_along (Modal m c a) k ks = refl
calm_along (InLocations o f l) k ks = sym (calm_part ks (are_calm ks) (TermPart o ∷ TermPart f ∷ LocPart l ∷ []) k tt)
calm_along (InInt t) k ks = sym (calm_part ks (are_calm ks) (TermPart t ∷ []) k tt)
calm_along (WellFormed h) k ks = sym (calm_part ks (are_calm ks) (TermPart h ∷ []) k tt)
calm_along (Invariant h o) k ks = sym (calm_part ks (are_calm ks) (TermPart h ∷ TermPart o ∷ []) k tt)
calm_along (IsInstance k' o) k ks = sym (calm_part ks (are_calm ks) (TermPart o ∷ []) k tt)
calm_along (IsExactInstance k' o) k ks = sym (calm_part ks (are_calm ks) (TermPart o ∷ []) k tt)

-- the next number of the path
pub calm_step : (path : List ℕ) (i : ℕ) (a : PlainFormula) (n : Inner) → i < length path → n ≡ inner_of a (get_or path i 0) → calm_by n (drop (i + 1) path) ≡ is_calm (drop i path) (FormulaPart a)
calm_step path i a n lt told =
    ap (λ m. calm_by m (drop (i + 1) path)) told
    ∙ calm_along a (get_or path i 0) (drop (i + 1) path)
    ∙ sym (ap (λ l. is_calm l (FormulaPart a)) (drop_more path i 0 lt))
