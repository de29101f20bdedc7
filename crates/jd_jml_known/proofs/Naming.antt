-- Looking up among a method's names, from the newest on.
use Rattle.std.proofs.Common.{◌≡◌, ◌<◌, ◌≤◌, ◌+◌, ◌-◌, ℕ, Bool, true, false, List, [], ◌∷◌, ◌++◌, get_or, length, map, take, reverse, Option, Some, None, refl, sym, ap, ◌∙◌, arith, bytes_eq, if◌then◌else◌, take_all}
use Rattle.std.proofs.lemmas.List.{map-append, reverse-append, take_more}
use Rattle.jd_bodies.specs.declared.value.ValueType.{ValueType}
use Rattle.jd_jml_meaning.specs.Resolved.{JmlExpr}
use Rattle.jd_specifications.specs.Resolution as plain
use Rattle.jd_jml_known.specs.declared.method_names.Entry.{Entry}
use Rattle.jd_jml_known.specs.declared.method_names.Known.{Known}
use Rattle.jd_jml_known.specs.declared.method_names.Known.TheVariants as parts
use Rattle.jd_jml_known.specs.Scopes.{entry_by, entry_view, known_view, newest_first}

-- ---- the order

newest_cons : (es : List Entry) (e : Entry) → newest_first (es ++ e ∷ []) ≡ entry_view e ∷ newest_first es
newest_cons es e = ap (λ (l : List plain.Entry). reverse l) (map-append entry_view es (e ∷ [])) ∙ reverse-append (map entry_view es) (entry_view e ∷ [])

pub entered : (es new : List Entry) (e : Entry) (name key : List ℕ) (k : Known) (t : ValueType) → e.name.items ≡ key → key ≡ name → e.known ≡ k → e.value ≡ t → new ≡ es ++ e ∷ [] → newest_first new ≡ entry_by name k t ∷ newest_first es
entered es new e name key k t named same known typed is =
    ap newest_first is
    ∙ newest_cons es e
    ∙ ap (λ (n : List ℕ). entry_by n e.known e.value ∷ newest_first es) (named ∙ same)
    ∙ ap (λ (x : Known). entry_by name x e.value ∷ newest_first es) known
    ∙ ap (λ (u : ValueType). entry_by name k u ∷ newest_first es) typed

-- ---- looking up

abbrev pub typed_in : List Entry → List ℕ → Option ValueType
typed_in es name = plain.typed (newest_first es) name

abbrev pub found_in : ℕ → List Entry → List ℕ → Option JmlExpr
found_in n es name = plain.looked_up n (newest_first es) name

-- what is found in all is found among the oldest so many
abbrev pub AreLeft : List Entry → ℕ → List ℕ → Type 0
AreLeft es left name = (left ≤ length es) × (typed_in es name ≡ typed_in (take left es) name) × ((n : ℕ) → found_in n es name ≡ found_in n (take left es) name)

-- a method's name is no binder
no_binder : (k : Known) (n : ℕ) → plain.binders_then (known_view k) n ≡ n
no_binder (parts.Argument i) n = refl
no_binder (parts.Variable x) n = refl

split : (es : List Entry) (m : ℕ) (e : Entry) → m < length es → e ≡ get_or es m e → newest_first (take (m + 1) es) ≡ entry_view e ∷ newest_first (take m es)
split es m e lt is = ap newest_first (take_more es m e lt ∙ ap (λ x. take m es ++ x ∷ []) (sym is)) ∙ newest_cons (take m es) e

abbrev typed_by : Bool → Entry → List Entry → List ℕ → Option ValueType
typed_by b e es name = if b then Some e.value else typed_in es name

abbrev found_by : Bool → ℕ → Entry → List Entry → List ℕ → Option JmlExpr
found_by b n e es name = if b then Some (plain.found n (entry_view e)) else plain.looked_up (plain.binders_then (known_view e.known) n) (newest_first es) name

typed_more : (es : List Entry) (m : ℕ) (e : Entry) (name : List ℕ) (b : Bool) → m < length es → e ≡ get_or es m e → bytes_eq e.name.items name ≡ b → typed_in (take (m + 1) es) name ≡ typed_by b e (take m es) name
typed_more es m e name b lt is same = ap (λ (l : List plain.Entry). plain.typed l name) (split es m e lt is) ∙ ap (λ c. typed_by c e (take m es) name) same

found_more : (es : List Entry) (m : ℕ) (e : Entry) (name : List ℕ) (b : Bool) (n : ℕ) → m < length es → e ≡ get_or es m e → bytes_eq e.name.items name ≡ b → found_in n (take (m + 1) es) name ≡ found_by b n e (take m es) name
found_more es m e name b n lt is same = ap (λ (l : List plain.Entry). plain.looked_up n l name) (split es m e lt is) ∙ ap (λ c. found_by c n e (take m es) name) same

pub begun : (es : List Entry) (left : ℕ) (name : List ℕ) → left ≡ length es → AreLeft es left name
begun es left name is =
    let whole : es ≡ take left es = sym (ap (λ k. take k es) is ∙ take_all (length es) es (omega arith)) in
    (omega (arith, is), ap (λ (l : List Entry). typed_in l name) whole, λ n. ap (λ (l : List Entry). found_in n l name) whole)

pub goes_on : (es : List Entry) (left : ℕ) (e : Entry) (name : List ℕ) → 0 < left → AreLeft es left name → e ≡ get_or es (left - 1) e → bytes_eq e.name.items name ≡ false → AreLeft es (left - 1) name
goes_on es left e name some inv is other =
    let m : ℕ = left - 1 in
    let whole : left ≡ m + 1 = omega arith in
    let lt : m < length es = omega (arith, inv.0) in (
      omega (arith, inv.0),
      inv.1 ∙ ap (λ k. typed_in (take k es) name) whole ∙ typed_more es m e name false lt is other,
      λ n. inv.2 n ∙ ap (λ k. found_in n (take k es) name) whole ∙ found_more es m e name false n lt is other ∙ ap (λ k. found_in k (take m es) name) (no_binder e.known n),
    )

pub type_found : (es : List Entry) (left : ℕ) (e : Entry) (name : List ℕ) → 0 < left → AreLeft es left name → e ≡ get_or es (left - 1) e → bytes_eq e.name.items name ≡ true → Some e.value ≡ typed_in es name
type_found es left e name some inv is same =
    let m : ℕ = left - 1 in
    let whole : left ≡ m + 1 = omega arith in
    let lt : m < length es = omega (arith, inv.0) in
    sym (inv.1 ∙ ap (λ k. typed_in (take k es) name) whole ∙ typed_more es m e name true lt is same)

pub meaning_found : (es : List Entry) (left : ℕ) (e : Entry) (name : List ℕ) (n : ℕ) → 0 < left → AreLeft es left name → e ≡ get_or es (left - 1) e → bytes_eq e.name.items name ≡ true → Some (plain.found n (entry_view e)) ≡ found_in n es name
meaning_found es left e name n some inv is same =
    let m : ℕ = left - 1 in
    let whole : left ≡ m + 1 = omega arith in
    let lt : m < length es = omega (arith, inv.0) in
    sym (inv.2 n ∙ ap (λ k. found_in n (take k es) name) whole ∙ found_more es m e name true n lt is same)

pub no_type : (es : List Entry) (left : ℕ) (name : List ℕ) → left ≤ 0 → AreLeft es left name → None ≡ typed_in es name
no_type es left name none inv =
    let whole : left ≡ 0 = omega arith in
    sym (inv.1 ∙ ap (λ k. typed_in (take k es) name) whole)

pub no_meaning : (es : List Entry) (left : ℕ) (name : List ℕ) (n : ℕ) → left ≤ 0 → AreLeft es left name → None ≡ found_in n es name
no_meaning es left name n none inv =
    let whole : left ≡ 0 = omega arith in
    sym (inv.2 n ∙ ap (λ k. found_in n (take k es) name) whole)
