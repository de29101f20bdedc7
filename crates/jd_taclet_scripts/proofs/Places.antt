-- Places by paths and what surrounds them: whole formulas, calm places, and the formulas that stand elsewhere.
use Rattle.std.proofs.Common.{Bool, List, None, Some, ap, eq-eqb, false, inl, inr, length, not, refl, suc, sym, true, true≢false, zero, ◌&&◌, ◌++◌, ◌≡◌, ◌∷◌, ℕ, []}
use Rattle.std.specs.Prelude.{option_and_then}
use Rattle.jd_model.specs.Holes.{AllH, AndL, AndR, Around, Calm, ExH, Hole, IffL, IffR, ImpL, ImpR, ModalH, NotH, OrL, OrR, UpdH, plug}
use Rattle.jd_model.specs.Places.{FormulaPart, at_place, numbered, on_side}
use Rattle.jd_model.specs.Sequents.{PlainSequent}
use Rattle.jd_model.specs.declared.sequent.Side.{Side}
use Rattle.jd_model.specs.declared.sequent.Side.TheVariants.{Left, Right}
use Rattle.jd_taclet_scripts.specs.Places.{IsOther, is_calm, is_calm_place}
use Rattle.jd_taclet_scripts.specs.Steps.{instead_of, replaced_at}
use Rattle.jd_taclet_steps.specs.Places.{path_of, place_of}
use Rattle.jd_taclet_steps.specs.Steps.{AtLeft, AtRight, IsAmong, IsOnSide, Spot, others, replaced, whole}
use Rattle.jd_taclets.specs.Taclets.{OnLeft, OnRight}
use Rattle.jd_term.specs.Formulas.{PlainFormula}

no_cons : {x : ℕ} {l : List ℕ} → (x ∷ l) ≡ [] → ⊥
no_cons e = cc

no_some : {x : PlainFormula} → None ≡ Some (FormulaPart x) → ⊥
no_some e = cc

same_formula : {x y : PlainFormula} → Some (FormulaPart x) ≡ Some (FormulaPart y) → y ≡ x
same_formula e = cc

not_left : Right ≡ Left → ⊥
not_left e = cc

not_right : Left ≡ Right → ⊥
not_right e = cc

-- ---- whole formulas

pub hole_of : (h : Around) (a : PlainFormula) → path_of h ≡ [] → plug h a ≡ a
hole_of Hole a e = refl
hole_of (NotH h) a e = absurd (no_cons e)
hole_of (AndL h c) a e = absurd (no_cons e)
hole_of (OrL h c) a e = absurd (no_cons e)
hole_of (ImpL h c) a e = absurd (no_cons e)
hole_of (IffL h c) a e = absurd (no_cons e)
hole_of (AndR c h) a e = absurd (no_cons e)
hole_of (OrR c h) a e = absurd (no_cons e)
hole_of (ImpR c h) a e = absurd (no_cons e)
hole_of (IffR c h) a e = absurd (no_cons e)
hole_of (AllH s h) a e = absurd (no_cons e)
hole_of (ExH s h) a e = absurd (no_cons e)
hole_of (UpdH u h) a e = absurd (no_cons e)
hole_of (ModalH m c h) a e = absurd (no_cons e)

pub path_there : (w : Spot) (path : List ℕ) → (place_of w path).path ≡ path
path_there (AtLeft f b r) path = refl
path_there (AtRight l f b) path = refl

pub on_left : (w : Spot) (path : List ℕ) → (place_of w path).side ≡ Left → IsOnSide OnLeft w
on_left (AtLeft f b r) path e = tt
on_left (AtRight l f b) path e = absurd (not_left e)

pub on_right : (w : Spot) (path : List ℕ) → (place_of w path).side ≡ Right → IsOnSide OnRight w
on_right (AtLeft f b r) path e = absurd (not_right e)
on_right (AtRight l f b) path e = tt

-- ---- what is replaced there

instead : (f b new : List PlainFormula) (a : PlainFormula) → instead_of (f ++ (a ∷ b)) (suc (length f)) new ≡ f ++ (new ++ b)
instead [] b new a = refl
instead (x ∷ f) b new a = ap (λ l. x ∷ l) (instead f b new a)

pub replaced_there : (w : Spot) (a : PlainFormula) (path : List ℕ) (n : PlainSequent) → replaced_at (place_of w path).side (place_of w path).index (whole w a) n ≡ replaced w n
replaced_there (AtLeft f b r) a path n = λ i. record { left = instead f b n.left a i; right = r ++ n.right }
replaced_there (AtRight l f b) a path n = λ i. record { left = l ++ n.left; right = instead f b n.right a i }

-- ---- calm places

not_calm : (c d : Bool) → c ≡ true → (not c && d) ≡ true → ⊥
not_calm true d e f = true≢false (sym f)
not_calm false d e f = true≢false (sym e)

calm_path : (h : Around) (x : PlainFormula) (path : List ℕ) → is_calm (path_of h ++ path) (FormulaPart (plug h x)) ≡ true → Calm h
calm_path Hole x path e = tt
calm_path (NotH h) x path e = calm_path h x path e
calm_path (AndL h c) x path e = calm_path h x path e
calm_path (OrL h c) x path e = calm_path h x path e
calm_path (ImpL h c) x path e = calm_path h x path e
calm_path (IffL h c) x path e = calm_path h x path e
calm_path (AndR c h) x path e = calm_path h x path e
calm_path (OrR c h) x path e = calm_path h x path e
calm_path (ImpR c h) x path e = calm_path h x path e
calm_path (IffR c h) x path e = calm_path h x path e
calm_path (AllH s h) x path e = calm_path h x path e
calm_path (ExH s h) x path e = calm_path h x path e
calm_path (UpdH u h) x path e = not_calm _ _ (eq-eqb (suc (length u)) (suc (length u)) refl) e
calm_path (ModalH m c h) x path e = true≢false (sym e)

pub calm_there : (w : Spot) (h : Around) (x : PlainFormula) (path : List ℕ) → is_calm_place (whole w (plug h x)) (place_of w (path_of h ++ path)) ≡ true → Calm h
calm_there (AtLeft f b r) h x path e = in_list f e
  where
    in_list : (f : List PlainFormula) → is_calm_place (record { left = f ++ (plug h x ∷ b); right = r }) (record { side = Left; index = suc (length f); path = path_of h ++ path }) ≡ true → Calm h
    in_list [] e = calm_path h x path e
    in_list (y ∷ f) e = in_list f e
calm_there (AtRight l f b) h x path e = in_list f e
  where
    in_list : (f : List PlainFormula) → is_calm_place (record { left = l; right = f ++ (plug h x ∷ b) }) (record { side = Right; index = suc (length f); path = path_of h ++ path }) ≡ true → Calm h
    in_list [] e = calm_path h x path e
    in_list (y ∷ f) e = in_list f e

-- ---- formulas elsewhere

pub among : (l : List PlainFormula) (n : ℕ) (x : PlainFormula) → option_and_then (λ y. Some (FormulaPart y)) (numbered l n) ≡ Some (FormulaPart x) → IsAmong x l
among l zero x e = absurd (no_some e)
among [] (suc n) x e = absurd (no_some e)
among (y ∷ l) (suc zero) x e = inl (same_formula e)
among (y ∷ l) (suc (suc n)) x e = inr (among l (suc n) x e)

among_others : (f b : List PlainFormula) (y : PlainFormula) (n : ℕ) (x : PlainFormula) → (suc (length f) ≡ n → ⊥) → option_and_then (λ z. Some (FormulaPart z)) (numbered (f ++ (y ∷ b)) n) ≡ Some (FormulaPart x) → IsAmong x (f ++ b)
among_others f b y zero x o e = absurd (no_some e)
among_others [] b y (suc zero) x o e = absurd (o refl)
among_others [] b y (suc (suc n)) x o e = among b (suc n) x e
among_others (z ∷ f) b y (suc zero) x o e = inl (same_formula e)
among_others (z ∷ f) b y (suc (suc n)) x o e = inr (among_others f b y (suc n) x (λ m. o (ap suc m)) e)

-- a formula that stands elsewhere is among the others
pub elsewhere : (w : Spot) (y : PlainFormula) (path : List ℕ) (side : Side) (n : ℕ) (x : PlainFormula) → at_place (whole w y) (record { side = side; index = n; path = [] }) ≡ Some (FormulaPart x) → IsOther (Some (place_of w path)) (record { side = side; index = n; path = [] }) → IsAmong x (on_side (others w) side)
elsewhere (AtLeft f b r) y path Left n x e o = among_others f b y n x (λ m. o (refl, m)) e
elsewhere (AtLeft f b r) y path Right n x e o = among r n x e
elsewhere (AtRight l f b) y path Left n x e o = among l n x e
elsewhere (AtRight l f b) y path Right n x e o = among_others f b y n x (λ m. o (refl, m)) e
