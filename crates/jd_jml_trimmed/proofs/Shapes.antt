-- Trees without what stands behind them, and tests of all productions.
use Rattle.std.proofs.Common.{◌≡◌, ◌≢◌, ◌⊎◌, inl, inr, ℕ, zero, suc, ◌+◌, ◌≤◌, Bool, true, false, not, ◌&&◌, ◌||◌, cond, nat_eq, nat_lt, List, [], ◌∷◌, ◌++◌, drop, length, Some, refl, sym, ap, subst, ◌∙◌, arith, append_assoc, length-append}
use Rattle.std.specs.List.{slice_get, list_any}
use Rattle.std.proofs.lemmas.Bool.{false≢true, and_parts, eqb-true, eq-eqb, cond-true}
use Rattle.std.proofs.lemmas.Option.{none-some, same_Some}
use Rattle.jd_grammar.specs.Grammars.{Production, Forest, Done, Leaf, Node, yield, ahead, IsForest}
use Rattle.jd_grammar.specs.Folds.{values, name_count}
use Rattle.jd_grammar.specs.declared.table.Symbol.{Symbol}
use Rattle.jd_grammar.specs.declared.table.Symbol.TheVariants.{Token, Name}
use Rattle.jd_jml_grammar.specs.Productions.{jml_productions}
use Rattle.jd_jml_grammar.specs.declared.names.TheConstants as names

-- ---- one tree for each symbol

abbrev pub IsShape : Forest → List Symbol → Type 0
IsShape Done [] = Unit {0}
IsShape (Leaf k f) (Token j ∷ ss) = (j ≡ k) × IsShape f ss
IsShape (Node p c f) (Name a ∷ ss) = (r : Production) × (slice_get jml_productions p ≡ Some r) × (r.head ≡ a) × IsShape c r.body × IsShape f ss
IsShape _ _ = ⊥

pub shape_of : (f : Forest) (ss : List Symbol) (after : List ℕ) → IsForest jml_productions f ss after → IsShape f ss
shape_of Done [] after h = tt
shape_of Done (s ∷ ss) after h = absurd h
shape_of (Leaf k f) [] after h = absurd h
shape_of (Leaf k f) (Token j ∷ ss) after h = (h.0, shape_of f ss after h.1)
shape_of (Leaf k f) (Name a ∷ ss) after h = absurd h
shape_of (Node p c f) [] after h = absurd h
shape_of (Node p c f) (Token j ∷ ss) after h = absurd h
shape_of (Node p c f) (Name a ∷ ss) after (r, at, is, unless, below, behind) = (r, at, is, shape_of c r.body (yield f ++ after) below, shape_of f ss after behind)

-- ---- tests of all productions, with their numbers

abbrev pub passes : (ℕ → Production → Bool) → ℕ → List Production → Bool
passes test n [] = true
passes test n (r ∷ rs) = test n r && passes test (n + 1) rs

passes_at : (test : ℕ → Production → Bool) (g : List Production) (n p : ℕ) (r : Production) → passes test n g ≡ true → slice_get g p ≡ Some r
    → test (n + p) r ≡ true
passes_at test [] n p r all e = absurd (none-some r e)
passes_at test (x ∷ g) n zero r all e =
    let same : n ≡ n + 0 = omega arith in
    subst (λ m. test m r ≡ true) same (subst (λ y. test n y ≡ true) (same_Some x r e) (and_parts (test n x) (passes test (n + 1) g) all).0)
passes_at test (x ∷ g) n (suc p) r all e =
    let same : n + 1 + p ≡ n + suc p = omega arith in
    subst (λ m. test m r ≡ true) same (passes_at test g (n + 1) p r (and_parts (test n x) (passes test (n + 1) g) all).1 e)

pub tested : (test : ℕ → Production → Bool) (p : ℕ) (r : Production) → passes test 0 jml_productions ≡ true → slice_get jml_productions p ≡ Some r
    → test p r ≡ true
tested test p r all e =
    let same : 0 + p ≡ p = omega arith in
    subst (λ m. test m r ≡ true) same (passes_at test jml_productions 0 p r all e)

abbrev pub implies : Bool → Bool → Bool
implies a b = not a || b

pub implied : (a b : Bool) → implies a b ≡ true → a ≡ true → b ≡ true
implied true b h e = h
implied false b h e = absurd (false≢true e)

-- ---- names

-- those whose nodes are made anew, and those of clauses and words, which stay as they are
abbrev pub inner_names : List ℕ
inner_names =
    names.METHOD_SPECS
    ∷ names.FIELD_SPECS
    ∷ names.MODIFIER_SPECS
    ∷ names.LOOP_SPECS
    ∷ names.CLASS_END_SPECS
    ∷ names.METHOD_SPECS_BEHIND_VISIBILITY
    ∷ names.CONTRACT
    ∷ names.METHOD_SPECS_BEHIND_WORD
    ∷ names.BEHAVIOR_CASE
    ∷ names.MORE_CASES
    ∷ names.MODIFIER_WORDS
    ∷ names.SPEC_CASE
    ∷ names.BARE_CASE
    ∷ names.CLAUSES
    ∷ []

abbrev pub clause_names : List ℕ
clause_names = names.INVARIANT_CLAUSE ∷ names.MODIFIER_WORD ∷ names.LOOP_CLAUSE ∷ names.CLAUSE ∷ []

abbrev pub is_inner : ℕ → Bool
is_inner a = list_any (nat_eq a) inner_names

abbrev pub is_upper : ℕ → Bool
is_upper a = is_inner a || list_any (nat_eq a) clause_names

abbrev pub all_upper : List Symbol → Bool
all_upper [] = true
all_upper (Token k ∷ ss) = all_upper ss
all_upper (Name a ∷ ss) = is_upper a && all_upper ss

-- ---- kinds

abbrev are_kinds : List Symbol → Bool
are_kinds [] = true
are_kinds (Token k ∷ ss) = nat_lt k 255 && are_kinds ss
are_kinds (Name a ∷ ss) = are_kinds ss

abbrev is_known : ℕ → Production → Bool
is_known n r = nat_eq r.unless 255 && are_kinds r.body

known : passes is_known 0 jml_productions ≡ true
known = refl

known_at : (p : ℕ) (r : Production) → slice_get jml_productions p ≡ Some r → (r.unless ≡ 255) × (are_kinds r.body ≡ true)
known_at p r at =
    let (a, b) = and_parts (nat_eq r.unless 255) (are_kinds r.body) (tested is_known p r known at) in
    (eqb-true r.unless 255 a, b)

abbrev IsKind : ℕ → Type 0
IsKind k = nat_lt k 255 ≡ true

ahead_is_kind : (f : Forest) (ss : List Symbol) (after : List ℕ) → IsShape f ss → are_kinds ss ≡ true → IsKind (ahead after)
    → IsKind (ahead (yield f ++ after))
ahead_is_kind Done [] after h u v = v
ahead_is_kind Done (s ∷ ss) after h u v = absurd h
ahead_is_kind (Leaf k f) [] after h u v = absurd h
ahead_is_kind (Leaf k f) (Token j ∷ ss) after h u v = subst IsKind h.0 (and_parts (nat_lt j 255) (are_kinds ss) u).0
ahead_is_kind (Leaf k f) (Name a ∷ ss) after h u v = absurd h
ahead_is_kind (Node p c f) [] after h u v = absurd h
ahead_is_kind (Node p c f) (Token j ∷ ss) after h u v = absurd h
ahead_is_kind (Node p c f) (Name a ∷ ss) after (r, at, is, below, behind) u v =
    subst (λ ks. IsKind (ahead ks)) (sym (append_assoc (yield c) (yield f) after))
    (ahead_is_kind c r.body (yield f ++ after) below (known_at p r at).1 (ahead_is_kind f ss after behind u v))

not_unless : (n k : ℕ) → n ≡ 255 → IsKind k → n ≢ k
not_unless n k e v is = false≢true (subst IsKind (sym is ∙ e) v)

placed_before : (f : Forest) (ss : List Symbol) (after : List ℕ) → IsShape f ss → are_kinds ss ≡ true → IsKind (ahead after)
    → IsForest jml_productions f ss after
placed_before Done [] after h u v = tt
placed_before Done (s ∷ ss) after h u v = absurd h
placed_before (Leaf k f) [] after h u v = absurd h
placed_before (Leaf k f) (Token j ∷ ss) after h u v = (h.0, placed_before f ss after h.1 (and_parts (nat_lt j 255) (are_kinds ss) u).1 v)
placed_before (Leaf k f) (Name a ∷ ss) after h u v = absurd h
placed_before (Node p c f) [] after h u v = absurd h
placed_before (Node p c f) (Token j ∷ ss) after h u v = absurd h
placed_before (Node p c f) (Name a ∷ ss) after (r, at, is, below, behind) u v =
    let k = known_at p r at in
    let w = ahead_is_kind f ss after behind u v in (
      r,
      at,
      is,
      not_unless r.unless (ahead (yield c ++ (yield f ++ after))) k.0 (ahead_is_kind c r.body (yield f ++ after) below k.1 w),
      placed_before c r.body (yield f ++ after) below k.1 w,
      placed_before f ss after behind u v,
    )

-- a tree of a name is a derivation of it
pub placed : (f : Forest) (a : ℕ) → IsShape f (Name a ∷ []) → IsForest jml_productions f (Name a ∷ []) []
placed f a h = placed_before f (Name a ∷ []) [] h refl refl

-- ---- how many

pub count : {T V : Type 0} (make : ℕ → List T → List V → V) (f : Forest) (ss : List Symbol) (ts : List T) → IsShape f ss
    → length (values make f ts) ≡ name_count ss
count make Done [] ts h = refl
count make Done (s ∷ ss) ts h = absurd h
count make (Leaf k f) [] ts h = absurd h
count make (Leaf k f) (Token j ∷ ss) ts h = count make f ss (drop 1 ts) h.1
count make (Leaf k f) (Name a ∷ ss) ts h = absurd h
count make (Node p c f) [] ts h = absurd h
count make (Node p c f) (Token j ∷ ss) ts h = absurd h
count make (Node p c f) (Name a ∷ ss) ts (r, at, is, below, behind) = let n = count make f ss (drop (length (yield c)) ts) behind in omega (arith, n)

abbrev pub token_count : List Symbol → ℕ
token_count [] = 0
token_count (Token k ∷ ss) = 1 + token_count ss
token_count (Name a ∷ ss) = token_count ss

pub long : (f : Forest) (ss : List Symbol) → IsShape f ss → token_count ss ≤ length (yield f)
long Done [] h = omega arith
long Done (s ∷ ss) h = absurd h
long (Leaf k f) [] h = absurd h
long (Leaf k f) (Token j ∷ ss) h = let n = long f ss h.1 in omega (arith, n)
long (Leaf k f) (Name a ∷ ss) h = absurd h
long (Node p c f) [] h = absurd h
long (Node p c f) (Token j ∷ ss) h = absurd h
long (Node p c f) (Name a ∷ ss) (r, at, is, below, behind) =
    let n = long f ss behind in
    let l = length-append (yield c) (yield f) in
    omega (arith, n, l)

-- ---- the productions of a name

abbrev pub numbers_of : ℕ → ℕ → List Production → List ℕ
numbers_of a n [] = []
numbers_of a n (r ∷ rs) = cond (nat_eq r.head a) (n ∷ numbers_of a (n + 1) rs) (numbers_of a (n + 1) rs)

abbrev pub OneOf : ℕ → List ℕ → Type 0
OneOf p [] = ⊥
OneOf p (n ∷ ns) = (p ≡ n) ⊎ OneOf p ns

also_of : (b : Bool) (n p : ℕ) (ns : List ℕ) → OneOf p ns → OneOf p (cond b (n ∷ ns) ns)
also_of true n p ns k = inr k
also_of false n p ns k = k

one_in : (a : ℕ) (g : List Production) (n p : ℕ) (r : Production) → slice_get g p ≡ Some r → r.head ≡ a → OneOf (n + p) (numbers_of a n g)
one_in a [] n p r at is = absurd (none-some r at)
one_in a (x ∷ g) n zero r at is =
    let same : n + 0 ≡ n = omega arith in
    let here : nat_eq x.head a ≡ true = eq-eqb x.head a (ap (λ (y : Production). y.head) (same_Some x r at) ∙ is) in
    subst (OneOf (n + 0)) (sym (cond-true (nat_eq x.head a) (n ∷ numbers_of a (n + 1) g) (numbers_of a (n + 1) g) here)) (inl same)
one_in a (x ∷ g) n (suc p) r at is =
    let same : n + 1 + p ≡ n + suc p = omega arith in
    also_of (nat_eq x.head a) n (n + suc p) (numbers_of a (n + 1) g) (subst (λ m. OneOf m (numbers_of a (n + 1) g)) same (one_in a g (n + 1) p r at is))

pub one_of : (a p : ℕ) (r : Production) → slice_get jml_productions p ≡ Some r → r.head ≡ a → OneOf p (numbers_of a 0 jml_productions)
one_of a p r at is =
    let same : 0 + p ≡ p = omega arith in
    subst (λ m. OneOf m (numbers_of a 0 jml_productions)) same (one_in a jml_productions 0 p r at is)
