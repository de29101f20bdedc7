-- Locals in the order in which they were entered, and from the newest on.
use Rattle.std.proofs.Common.{◌≡◌, ℕ, ◌-◌, Bool, true, false, cond, if◌then◌else◌, List, [], ◌∷◌, ◌++◌, length, map, take, drop, reverse, slice_get, option_map, Option, Some, None, refl, sym, ap, ◌∙◌, arith, bytes_eq}
use Rattle.std.specs.Global.{Vec}
use Rattle.std.specs.List.{AllByRecursion, IsDistinct}
use Rattle.std.specs.Map.{keys_of, lookup}
use Rattle.std.proofs.lemmas.Cmp.{nat_list_eq_equiv}
use Rattle.std.proofs.lemmas.List.{length-drop, length-map, length-reverse, map-append, reverse-append, reverse-reverse, take-append-drop, take-map}
use Rattle.std.proofs.lemmas.Option.{slice_get-map}
use Rattle.std.proofs.lemmas.Map.Keys.{IsDistinct-head, IsDistinct-tail}
use Rattle.std.proofs.lemmas.Slice.Eq.{bytes_eq-Decides}
use Rattle.std.proofs.Math.Seq.{drop-append_seam}
use Rattle.jd_bodies.specs.declared.value.ValueType.{ValueType}
use Rattle.jd_bodies.specs.Scopes.{Local, local_named}
use Rattle.jd_locals.specs.Scoped.{local_of, newest_first}

abbrev Entry : Type 0
Entry = Vec ℕ × ValueType

abbrev pub same_name : Vec ℕ → Vec ℕ → Bool
same_name a b = bytes_eq a.items b.items

abbrev Value : Type 0
Value = Option ValueType

-- ---- the order

newest_cons : (e : Entry) (es : List Entry) → newest_first (e ∷ es) ≡ newest_first es ++ local_of e ∷ []
newest_cons e es = reverse-append (local_of e ∷ []) (map local_of es)

-- one that enters
pub entered : (es new : List Entry) (key : Vec ℕ) (name : List ℕ) (value : ValueType) → key.items ≡ name → new ≡ es ++ (key, value) ∷ [] → newest_first new ≡ record { name = name; type = value } ∷ newest_first es
entered es new key name value same is =
    ap newest_first is
    ∙ ap (λ (l : List Local). reverse l) (map-append local_of es ((key, value) ∷ []))
    ∙ reverse-append (map local_of es) (local_of (key, value) ∷ [])
    ∙ ap (λ (n : List ℕ). record { name = n; type = value } ∷ newest_first es) same

reversed : (n : ℕ) (xs : List Local) → reverse (take n xs) ≡ drop (length (reverse xs) - n) (reverse xs)
reversed n xs =
    let count : length (reverse xs) - n ≡ length (reverse (drop n xs)) = omega (arith, length-reverse xs, length-reverse (drop n xs), length-drop n xs) in
    sym (
    ap (λ k. drop k (reverse xs)) count
    ∙ ap (drop (length (reverse (drop n xs)))) (ap (λ (l : List Local). reverse l) (sym (take-append-drop n xs)) ∙ reverse-append (take n xs) (drop n xs))
    ∙ drop-append_seam (reverse (drop n xs)) (reverse (take n xs))
    )

-- those that stay
pub left : (es new : List Entry) (n : ℕ) → new ≡ take n es → newest_first new ≡ drop (length (newest_first es) - n) (newest_first es)
left es new n is = ap newest_first is ∙ ap (λ (l : List Local). reverse l) (sym (take-map local_of n es)) ∙ reversed n (map local_of es)

pub as_many : (es : List Entry) → length (newest_first es) ≡ length es
as_many es = length-reverse (map local_of es) ∙ length-map es local_of

-- ---- looking up

abbrev or_last : Value → Local → List ℕ → Value
or_last (Some t) l name = Some t
or_last None l name = if bytes_eq l.name name then Some l.type else None

named_last : (xs : List Local) (l : Local) (name : List ℕ) → local_named (xs ++ l ∷ []) name ≡ or_last (local_named xs name) l name
named_last [] l name = refl
named_last (x ∷ xs) l name = by (local_named (xs ++ l ∷ []) name) (local_named xs name) (bytes_eq x.name name) (named_last xs l name)
  where
    by : (rest behind : Value) (b : Bool) → rest ≡ or_last behind l name → (if b then Some x.type else rest) ≡ or_last (if b then Some x.type else behind) l name
    by rest behind true e = refl
    by rest behind false e = e

turned : (a b : List ℕ) (c : Bool) → bytes_eq a b ≡ c → bytes_eq b a ≡ c
turned a b c e = sym (nat_list_eq_equiv.symm a b) ∙ e

-- no later one has the name of the first
none_behind : (name : List ℕ) (k : Vec ℕ) (es : List Entry) → bytes_eq name k.items ≡ true → AllByRecursion (λ y. same_name k y ≡ false) (keys_of es) → lookup (λ y. bytes_eq name y.items) es ≡ None
none_behind name k [] e all = refl
none_behind name k (x ∷ es) e all =
    let same : name ≡ k.items = (bytes_eq-Decides name k.items).0 e in
    let other : bytes_eq name x.0.items ≡ false = ap (λ n. bytes_eq n x.0.items) same ∙ all.0 in
    ap (λ b. cond b (Some x.1) (lookup (λ (y : Vec ℕ). bytes_eq name y.items) es)) other ∙ none_behind name k es e all.1

-- the first of the name is the last of it, since no two have one name
pub looked_up : (name : List ℕ) (es : List Entry) → IsDistinct same_name (keys_of es) → local_named (newest_first es) name ≡ lookup (λ y. bytes_eq name y.items) es
looked_up name [] apart = refl
looked_up name (e ∷ es) apart =
    ap (λ l. local_named l name) (newest_cons e es)
    ∙ named_last (newest_first es) (local_of e) name
    ∙ ap (λ r. or_last r (local_of e) name) (looked_up name es (IsDistinct-tail same_name e.0 (keys_of es) apart))
    ∙ choose (bytes_eq name e.0.items) refl
  where
    other : (r : Value) → bytes_eq e.0.items name ≡ false → or_last r (local_of e) name ≡ r
    other None no_ = ap (λ b. if b then Some e.1 else None) no_
    other (Some t) no_ = refl

    choose : (b : Bool) → bytes_eq name e.0.items ≡ b → or_last (lookup (λ y. bytes_eq name y.items) es) (local_of e) name ≡ cond b (Some e.1) (lookup (λ y. bytes_eq name y.items) es)
    choose true is =
        ap (λ r. or_last r (local_of e) name) (none_behind name e.0 es is (IsDistinct-head same_name e.0 (keys_of es) apart))
        ∙ ap (λ b. if b then Some e.1 else None) (turned name e.0.items true is)
    choose false is = other (lookup (λ y. bytes_eq name y.items) es) (turned name e.0.items false is)

-- the value that a map gives by the name
pub found : (name : List ℕ) (es : List Entry) (r : Value) → IsDistinct same_name (keys_of es) → r ≡ lookup (λ y. bytes_eq name y.items) es → r ≡ local_named (newest_first es) name
found name es r apart is = is ∙ sym (looked_up name es apart)

-- and a new name has none
pub is_new : (name : List ℕ) (key : Vec ℕ) (es : List Entry) → IsDistinct same_name (keys_of es) → key.items ≡ name → local_named (newest_first es) name ≡ None → lookup (same_name key) es ≡ None
is_new name key es apart same none = ap (λ n. lookup (λ (y : Vec ℕ). bytes_eq n y.items) es) same ∙ sym (looked_up name es apart) ∙ none

-- ---- one by one, the oldest first

pub listed : (es : List Entry) (i : ℕ) (o : Option Entry) → o ≡ slice_get es i → option_map local_of o ≡ slice_get (reverse (newest_first es)) i
listed es i o is =
    ap (option_map local_of) is
    ∙ sym (slice_get-map local_of es i)
    ∙ ap (λ (l : List Local). slice_get l i) (sym (reverse-reverse (map local_of es)))
