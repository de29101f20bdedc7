-- The names in scope in the order in which they were entered, and from the newest on; and what is known of a name.
use Rattle.std.proofs.Common.{◌≡◌, ◌<◌, ◌≤◌, ◌+◌, ◌-◌, ℕ, Bool, true, false, List, [], ◌∷◌, ◌++◌, get_or, length, map, take, drop, reverse, Option, Some, None, option_map, refl, sym, ap, ◌∙◌, arith, bytes_eq, if◌then◌else◌, take_all}
use Rattle.std.proofs.lemmas.List.{length-drop, length-map, length-reverse, map-append, reverse-append, take-append-drop, take-map, take_more}
use Rattle.std.proofs.Math.Seq.{drop-append_seam}
use Rattle.jd_bodies.specs.declared.value.ValueType.{ValueType}
use Rattle.jd_bodies.specs.declared.value.Variable.{Variable}
use Rattle.jd_specifications.specs.Scopes.{SpecLocal, class_unless, local_named}
use Rattle.jd_specifications.specs.Types.{name_type}
use Rattle.jd_jml_judging.specs.declared.method_names.Entry.{Entry}
use Rattle.jd_jml_judging.specs.declared.method_names.Known.{Known}
use Rattle.jd_jml_judging.specs.Named.{class_by, name_by}
use Rattle.jd_jml_judging.specs.Visible.{entry_local, known_of, local_by, newest_first}

-- ---- the order

pub entered : (es new : List Entry) (e : Entry) (name key : List ℕ) (k : Known) → e.name.items ≡ key → key ≡ name → e.known ≡ k → new ≡ es ++ e ∷ [] → newest_first new ≡ local_by name k ∷ newest_first es
entered es new e name key k named same known is =
    ap newest_first is
    ∙ ap (λ (l : List SpecLocal). reverse l) (map-append entry_local es (e ∷ []))
    ∙ reverse-append (map entry_local es) (entry_local e ∷ [])
    ∙ ap (λ (n : List ℕ). local_by n e.known ∷ newest_first es) (named ∙ same)
    ∙ ap (λ (x : Known). local_by name x ∷ newest_first es) known

reversed : (n : ℕ) (xs : List SpecLocal) → reverse (take n xs) ≡ drop (length (reverse xs) - n) (reverse xs)
reversed n xs =
    let count : length (reverse xs) - n ≡ length (reverse (drop n xs)) = omega (arith, length-reverse xs, length-reverse (drop n xs), length-drop n xs) in
    sym (
    ap (λ k. drop k (reverse xs)) count
    ∙ ap (drop (length (reverse (drop n xs)))) (ap (λ (l : List SpecLocal). reverse l) (sym (take-append-drop n xs)) ∙ reverse-append (take n xs) (drop n xs))
    ∙ drop-append_seam (reverse (drop n xs)) (reverse (take n xs))
    )

-- those that stay
pub left : (es new : List Entry) (n : ℕ) → new ≡ take n es → newest_first new ≡ drop (length (newest_first es) - n) (newest_first es)
left es new n is = ap newest_first is ∙ ap (λ (l : List SpecLocal). reverse l) (sym (take-map entry_local n es)) ∙ reversed n (map entry_local es)

pub as_many : (es : List Entry) → length es ≡ length (newest_first es)
as_many es = sym (length-reverse (map entry_local es) ∙ length-map es entry_local)

-- ---- looking up from the newest on

abbrev pub found_in : List Entry → List ℕ → Option Known
found_in es name = option_map known_of (local_named (newest_first es) name)

newest_cons : (es : List Entry) (e : Entry) → newest_first (es ++ e ∷ []) ≡ entry_local e ∷ newest_first es
newest_cons es e = ap (λ (l : List SpecLocal). reverse l) (map-append entry_local es (e ∷ [])) ∙ reverse-append (map entry_local es) (entry_local e ∷ [])

-- among so many and one more
one_more : (es : List Entry) (n : ℕ) (e : Entry) (name : List ℕ) → n < length es → e ≡ get_or es n e →
    found_in (take (n + 1) es) name ≡ option_map known_of (if bytes_eq e.name.items name then Some (entry_local e) else local_named (newest_first (take n es)) name)
one_more es n e name lt is =
    ap (λ (l : List Entry). found_in l name) (take_more es n e lt ∙ ap (λ x. take n es ++ x ∷ []) (sym is))
    ∙ ap (λ (l : List SpecLocal). option_map known_of (local_named l name)) (newest_cons (take n es) e)

abbrev chosen : Bool → Entry → List Entry → List ℕ → Option Known
chosen b e es name = option_map known_of (if b then Some (entry_local e) else local_named (newest_first es) name)

round : (name : List ℕ) (b : Bool) (t : ValueType) → known_of (local_by name (record { is_local = b; value = t })) ≡ record { is_local = b; value = t }
round name true t = refl
round name false t = refl

local_known : (b : Bool) (e : Entry) (es : List Entry) (name : List ℕ) → b ≡ true → chosen b e es name ≡ Some e.known
local_known b e es name is = ap (λ c. chosen c e es name) is ∙ ap (λ (k : Known). Some k) (round e.name.items e.known.is_local e.known.value)

other_known : (b : Bool) (e : Entry) (es : List Entry) (name : List ℕ) → b ≡ false → chosen b e es name ≡ found_in es name
other_known b e es name is = ap (λ c. chosen c e es name) is

-- the invariant of a search: what is found in all is found among the oldest so many
pub begun : (es : List Entry) (n : ℕ) (name : List ℕ) → n ≡ length es → (n ≤ length es) × (found_in es name ≡ found_in (take n es) name)
begun es n name is = (omega (arith, is), ap (λ (l : List Entry). found_in l name) (sym (ap (λ k. take k es) is ∙ take_all (length es) es (omega arith))))

pub goes_on : (es : List Entry) (n : ℕ) (e : Entry) (name : List ℕ) → 0 < n → (n ≤ length es) × (found_in es name ≡ found_in (take n es) name) → e ≡ get_or es (n - 1) e → bytes_eq e.name.items name ≡ false → (n - 1 ≤ length es) × (found_in es name ≡ found_in (take (n - 1) es) name)
goes_on es n e name some inv is other =
    let m : ℕ = n - 1 in
    let whole : n ≡ m + 1 = omega arith in (
      omega arith,
      inv.1 ∙ ap (λ k. found_in (take k es) name) whole ∙ one_more es m e name (omega arith) is ∙ other_known (bytes_eq e.name.items name) e (take m es) name other,
    )

pub found : (es : List Entry) (n : ℕ) (e : Entry) (name : List ℕ) → 0 < n → (n ≤ length es) × (found_in es name ≡ found_in (take n es) name) → e ≡ get_or es (n - 1) e → bytes_eq e.name.items name ≡ true → Some e.known ≡ found_in es name
found es n e name some inv is same =
    let m : ℕ = n - 1 in
    let whole : n ≡ m + 1 = omega arith in
    sym (inv.1 ∙ ap (λ k. found_in (take k es) name) whole ∙ one_more es m e name (omega arith) is ∙ local_known (bytes_eq e.name.items name) e (take m es) name same)

pub not_found : (es : List Entry) (n : ℕ) (name : List ℕ) → n ≤ 0 → (n ≤ length es) × (found_in es name ≡ found_in (take n es) name) → None ≡ found_in es name
not_found es n name none inv =
    let whole : n ≡ 0 = omega arith in
    sym (inv.1 ∙ ap (λ k. found_in (take k es) name) whole)

-- ---- what is known of a name

pub name_known : (inside static : Bool) (at : ℕ) (l : Option SpecLocal) (k : Option Known) (v : Option Variable) → k ≡ option_map known_of l → name_by inside static at k v ≡ name_type inside static at l v
name_known inside static at None k v is = ap (λ (x : Option Known). name_by inside static at x v) is
name_known inside static at (Some l) k v is = ap (λ (x : Option Known). name_by inside static at x v) is

pub class_known : (l : Option SpecLocal) (k : Option Known) (v : Option Variable) (c : Option ℕ) → k ≡ option_map known_of l → class_by k v c ≡ class_unless l v c
class_known None k None c is = ap (λ (x : Option Known). class_by x None c) is
class_known None k (Some v) c is = ap (λ (x : Option Known). class_by x (Some v) c) is
class_known (Some l) k v c is = ap (λ (x : Option Known). class_by x v c) is
