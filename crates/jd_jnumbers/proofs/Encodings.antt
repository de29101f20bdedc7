-- The texts of what members agree in are the same exactly where they agree.
use Rattle.std.proofs.Common.{◌≡◌, ℕ, Bool, true, false, List, [], ◌∷◌, ◌++◌, drop, get_or, Option, Some, None, refl, sym, ap, ap₂, ◌∙◌, append_assoc, arith}
use Rattle.jd_syntax.specs.JavaTypes.{PlainType, IntType, BooleanType, IntArrayType, NamedType}
use Rattle.jd_jclasses.specs.Members.{Declared, parameter_types, result_of, is_static}
use Rattle.jd_jclasses.specs.Numbers.{SameReturn, SameSignature}
use Rattle.jd_jnumbers.specs.Encoding.{encoded_name, encoded_result, encoded_static, encoded_type, encoded_types, return_text, signature_text}

heads : (a b : ℕ) (xs ys : List ℕ) → a ∷ xs ≡ b ∷ ys → a ≡ b
heads a b xs ys h = ap (λ l. get_or l 0 a) h

tails : (a b : ℕ) (xs ys : List ℕ) → a ∷ xs ≡ b ∷ ys → xs ≡ ys
tails a b xs ys h = ap (drop 1) h

-- ---- no text of a name, a type or a result begins another

name_first : (m n xs ys : List ℕ) → encoded_name m ++ xs ≡ encoded_name n ++ ys → (m ≡ n) × (xs ≡ ys)
name_first [] [] xs ys h = (refl, tails 0 0 xs ys h)
name_first [] (b ∷ n) xs ys h = absurd (omega (arith, heads 0 1 xs (b ∷ encoded_name n ++ ys) h))
name_first (a ∷ m) [] xs ys h = absurd (omega (arith, heads 1 0 (a ∷ encoded_name m ++ xs) ys h))
name_first (a ∷ m) (b ∷ n) xs ys h =
    let byte = tails 1 1 (a ∷ encoded_name m ++ xs) (b ∷ encoded_name n ++ ys) h in
    let rest = name_first m n xs ys (tails a b (encoded_name m ++ xs) (encoded_name n ++ ys) byte) in
    (ap₂ ◌∷◌ (heads a b (encoded_name m ++ xs) (encoded_name n ++ ys) byte) rest.0, rest.1)

type_first : (t u : PlainType) (xs ys : List ℕ) → encoded_type t ++ xs ≡ encoded_type u ++ ys → (t ≡ u) × (xs ≡ ys)
type_first IntType IntType xs ys h = (refl, tails 0 0 xs ys h)
type_first IntType BooleanType xs ys h = absurd (omega (arith, heads 0 1 xs ys h))
type_first IntType IntArrayType xs ys h = absurd (omega (arith, heads 0 2 xs ys h))
type_first IntType (NamedType n) xs ys h = absurd (omega (arith, heads 0 3 xs (encoded_name n ++ ys) h))
type_first BooleanType IntType xs ys h = absurd (omega (arith, heads 1 0 xs ys h))
type_first BooleanType BooleanType xs ys h = (refl, tails 1 1 xs ys h)
type_first BooleanType IntArrayType xs ys h = absurd (omega (arith, heads 1 2 xs ys h))
type_first BooleanType (NamedType n) xs ys h = absurd (omega (arith, heads 1 3 xs (encoded_name n ++ ys) h))
type_first IntArrayType IntType xs ys h = absurd (omega (arith, heads 2 0 xs ys h))
type_first IntArrayType BooleanType xs ys h = absurd (omega (arith, heads 2 1 xs ys h))
type_first IntArrayType IntArrayType xs ys h = (refl, tails 2 2 xs ys h)
type_first IntArrayType (NamedType n) xs ys h = absurd (omega (arith, heads 2 3 xs (encoded_name n ++ ys) h))
type_first (NamedType m) IntType xs ys h = absurd (omega (arith, heads 3 0 (encoded_name m ++ xs) ys h))
type_first (NamedType m) BooleanType xs ys h = absurd (omega (arith, heads 3 1 (encoded_name m ++ xs) ys h))
type_first (NamedType m) IntArrayType xs ys h = absurd (omega (arith, heads 3 2 (encoded_name m ++ xs) ys h))
type_first (NamedType m) (NamedType n) xs ys h =
    let name = name_first m n xs ys (tails 3 3 (encoded_name m ++ xs) (encoded_name n ++ ys) h) in
    (ap NamedType name.0, name.1)

-- the first byte of a type is at most 3
abbrev first : List ℕ → ℕ
first l = get_or l 0 4

type_begins : (t : PlainType) (xs ys : List ℕ) → ys ≡ encoded_type t ++ xs → first ys ≡ 4 → ⊥
type_begins IntType xs ys h four = omega (arith, ap first h, four)
type_begins BooleanType xs ys h four = omega (arith, ap first h, four)
type_begins IntArrayType xs ys h four = omega (arith, ap first h, four)
type_begins (NamedType n) xs ys h four = omega (arith, ap first h, four)

result_first : (r s : Option PlainType) (xs ys : List ℕ) → encoded_result r ++ xs ≡ encoded_result s ++ ys → (r ≡ s) × (xs ≡ ys)
result_first None None xs ys h = (refl, tails 4 4 xs ys h)
result_first None (Some u) xs ys h = absurd (type_begins u ys (4 ∷ xs) h refl)
result_first (Some t) None xs ys h = absurd (type_begins t xs (4 ∷ ys) (sym h) refl)
result_first (Some t) (Some u) xs ys h = let same = type_first t u xs ys h in (ap Some same.0, same.1)

types_same : (ts us : List PlainType) → encoded_types ts ≡ encoded_types us → ts ≡ us
types_same [] [] h = refl
types_same [] (u ∷ us) h = absurd (type_begins u (encoded_types us) [] h refl)
types_same (t ∷ ts) [] h = absurd (type_begins t (encoded_types ts) [] (sym h) refl)
types_same (t ∷ ts) (u ∷ us) h =
    let same = type_first t u (encoded_types ts) (encoded_types us) h in
    ap₂ ◌∷◌ same.0 (types_same ts us same.1)

static_same : (b c : Bool) → encoded_static b ≡ encoded_static c → b ≡ c
static_same true true h = refl
static_same true false h = absurd (omega (arith, heads 5 6 [] [] h))
static_same false true h = absurd (omega (arith, heads 6 5 [] [] h))
static_same false false h = refl

-- ---- signatures and results

pub signatures_agree : (a b : Declared) → signature_text a ≡ signature_text b → SameSignature a b
signatures_agree a b h =
    let name = name_first a.name.name b.name.name (encoded_types (parameter_types a.kind)) (encoded_types (parameter_types b.kind)) h in
    (name.0, types_same (parameter_types a.kind) (parameter_types b.kind) name.1)

pub signature_texts : (a b : Declared) → SameSignature a b → signature_text a ≡ signature_text b
signature_texts a b same = ap₂ (λ n ts. encoded_name n ++ encoded_types ts) same.0 same.1

-- the name, and what stands behind it
parts : (d : Declared) → return_text d ≡ encoded_name d.name.name ++ (encoded_result (result_of d.kind) ++ encoded_static (is_static d.kind))
parts d = append_assoc (encoded_name d.name.name) (encoded_result (result_of d.kind)) (encoded_static (is_static d.kind))

pub returns_agree : (a b : Declared) → return_text a ≡ return_text b → SameReturn a b
returns_agree a b h =
    let name = name_first a.name.name b.name.name (encoded_result (result_of a.kind) ++ encoded_static (is_static a.kind)) (encoded_result (result_of b.kind) ++ encoded_static (is_static b.kind)) (sym (parts a) ∙ h ∙ parts b) in
    let given = result_first (result_of a.kind) (result_of b.kind) (encoded_static (is_static a.kind)) (encoded_static (is_static b.kind)) name.1 in
    (name.0, given.0, static_same (is_static a.kind) (is_static b.kind) given.1)

pub return_texts : (a b : Declared) → SameReturn a b → return_text a ≡ return_text b
return_texts a b same = ap₂ ◌++◌ (ap₂ (λ n r. encoded_name n ++ encoded_result r) same.0 same.1) (ap encoded_static same.2)
