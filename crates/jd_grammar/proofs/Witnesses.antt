-- Each name of a table that passes has a tree, so the symbols that are to come always have some.
use Rattle.std.proofs.Common.{◌≡◌, ◌≢◌, ℕ, zero, suc, ◌+◌, ◌<◌, ◌≤◌, true, ◌&&◌, nat_lt, List, [], ◌∷◌, ◌++◌, length, get_or, Option, Some, None, refl, sym, subst, arith, append_assoc, eqb-true, leb-true}
use Rattle.std.specs.Prelude.{slice_index}
use Rattle.std.specs.List.{slice_get}
use Rattle.std.proofs.lemmas.Bool.{and_parts, and_from, ltb-true, lt-ltb}
use Rattle.jd_grammar.specs.declared.table.Symbol.{Symbol}
use Rattle.jd_grammar.specs.declared.table.Symbol.TheVariants.{Token, Name}
use Rattle.jd_grammar.specs.Grammars.{Production, Forest, Done, Leaf, Node, yield, ahead, IsForest}
use Rattle.jd_grammar.specs.Tables.{PlainTable}
use Rattle.jd_grammar.specs.Tests.{Sets, are_known, are_lower, witness_passes, witnesses_pass, productions_pass, starts_pass, is_ll1}
use Rattle.jd_grammar.proofs.Sets.{AllPass}

-- a production of name a that is used before each kind and leads to ranks below n
pub record Witness (s : Sets) (t : PlainTable) (a n : ℕ) : Type 0 where
  pub number : ℕ
  pub production : Production
  pub found : slice_get t.productions number ≡ Some production
  pub head : production.head ≡ a
  pub always : t.width ≤ production.unless
  pub lower : are_lower s n production.body ≡ true

witness-of : (s : Sets) (t : PlainTable) (a n p : ℕ) (o : Option Production) → slice_get t.productions p ≡ o → witness_passes s t a n o ≡ true → Witness s t a n
witness-of s t a n p None e h = absurd (let z : ⊥ = cc in z)
witness-of s t a n p (Some r) e h =
    let h1 = and_parts _ _ h in
    let h2 = and_parts _ _ h1.1 in
    record { number = p; production = r; found = e; head = eqb-true r.head a h1.0; always = leb-true t.width r.unless h2.0; lower = h2.1 }

witnesses-at : (s : Sets) (t : PlainTable) (a : ℕ) (ns : List ℕ) (i q : ℕ) → witnesses_pass s t a ns ≡ true → i < length ns → q ≡ a + i → Witness s t q (get_or ns i 0)
witnesses-at s t a [] i q h l z = absurd (omega (arith, l))
witnesses-at s t a (n ∷ ns) zero q h l z =
    let same : a ≡ q = omega (arith, z) in
    subst (λ x. Witness s t x n) same (witness-of s t a n (slice_index s.witnesses a) (slice_get t.productions (slice_index s.witnesses a)) refl (and_parts _ (witnesses_pass s t (suc a) ns) h).0)
witnesses-at s t a (n ∷ ns) (suc i) q h l z = witnesses-at s t (suc a) ns i q (and_parts _ (witnesses_pass s t (suc a) ns) h).1 (omega (arith, l)) (omega (arith, z))

-- each name has a witness
abbrev pub AllWitnessed : Sets → PlainTable → Type 0
AllWitnessed s t = (a : ℕ) → a < length s.ranks → Witness s t a (slice_index s.ranks a)

pub all_witnessed : (s : Sets) (t : PlainTable) → is_ll1 s t ≡ true → AllWitnessed s t
all_witnessed s t h a l =
    let rest = (and_parts (productions_pass s t 0 t.productions) (witnesses_pass s t 0 s.ranks && (starts_pass s t.starts && nat_lt 0 t.width)) h).1 in
    witnesses-at s t 0 s.ranks a a (and_parts (witnesses_pass s t 0 s.ranks) (starts_pass s t.starts && nat_lt 0 t.width) rest).0 l (omega arith)

lower-more : (s : Sets) (m n : ℕ) (ss : List Symbol) → m ≤ n → are_lower s m ss ≡ true → are_lower s n ss ≡ true
lower-more s m n [] l h = refl
lower-more s m n (Token k ∷ ss) l h = lower-more s m n ss l h
lower-more s m n (Name a ∷ ss) l h =
    let both = and_parts (nat_lt (slice_index s.ranks a) m) (are_lower s m ss) h in
    let less = ltb-true (slice_index s.ranks a) m both.0 in
    and_from (nat_lt (slice_index s.ranks a) n) (are_lower s n ss) (lt-ltb (slice_index s.ranks a) n (omega (arith, less, l))) (lower-more s m n ss l both.1)

-- some number is above all ranks
some-rank : (s : Sets) (ss : List Symbol) → (n : ℕ) × (are_lower s n ss ≡ true)
some-rank s [] = (0, refl)
some-rank s (Token k ∷ ss) = some-rank s ss
some-rank s (Name a ∷ ss) =
    let r = some-rank s ss in
    let n = suc (slice_index s.ranks a + r.0) in
    (n, and_from (nat_lt (slice_index s.ranks a) n) (are_lower s n ss) (lt-ltb (slice_index s.ranks a) n (omega arith)) (lower-more s r.0 n ss (omega arith) r.1))

-- trees of these symbols
abbrev Grown : PlainTable → List Symbol → List ℕ → Type 0
Grown t ss after = (f : Forest) × IsForest t.productions f ss after × (ahead (yield f ++ after) < t.width)

abbrev Grows : Sets → PlainTable → ℕ → Type 0
Grows s t n = (ss : List Symbol) (after : List ℕ) → are_known t.width (length s.ranks) ss ≡ true → are_lower s n ss ≡ true → ahead after < t.width → Grown t ss after

grow-zero : (s : Sets) (t : PlainTable) → Grows s t 0
grow-zero s t [] after k l w = (Done, tt, w)
grow-zero s t (Token j ∷ ss) after k l w =
    let both = and_parts (nat_lt j t.width) (are_known t.width (length s.ranks) ss) k in
    let r = grow-zero s t ss after both.1 l w in
    (Leaf j r.0, (refl, r.1), ltb-true j t.width both.0)
grow-zero s t (Name a ∷ ss) after k l w =
    let less = ltb-true (slice_index s.ranks a) 0 (and_parts (nat_lt (slice_index s.ranks a) 0) (are_lower s 0 ss) l).0 in
    absurd (omega (arith, less))

grow-more : (s : Sets) (t : PlainTable) → AllPass s t → AllWitnessed s t → (n : ℕ) → Grows s t n → Grows s t (suc n)
grow-more s t pass wit n below [] after k l w = (Done, tt, w)
grow-more s t pass wit n below (Token j ∷ ss) after k l w =
    let both = and_parts (nat_lt j t.width) (are_known t.width (length s.ranks) ss) k in
    let r = grow-more s t pass wit n below ss after both.1 l w in
    (Leaf j r.0, (refl, r.1), ltb-true j t.width both.0)
grow-more s t pass wit n below (Name a ∷ ss) after k l w =
    let known = and_parts (nat_lt a (length s.ranks)) (are_known t.width (length s.ranks) ss) k in
    let lower = and_parts (nat_lt (slice_index s.ranks a) (suc n)) (are_lower s (suc n) ss) l in
    let less = ltb-true (slice_index s.ranks a) (suc n) lower.0 in
    let r = grow-more s t pass wit n below ss after known.1 lower.1 w in
    let i = wit a (ltb-true a (length s.ranks) known.0) in
    let c = below i.production.body (yield r.0 ++ after) (pass i.number i.production i.found).known (lower-more s (slice_index s.ranks a) n i.production.body (omega (arith, less)) i.lower) r.2 in
    let free : i.production.unless ≢ ahead (yield c.0 ++ (yield r.0 ++ after)) = λ z. omega (arith, z, c.2, i.always) in (
      Node i.number c.0 r.0,
      (i.production, i.found, i.head, free, c.1, r.1),
      subst (λ ys. ahead ys < t.width) (sym (append_assoc (yield c.0) (yield r.0) after)) c.2,
    )

grow : (s : Sets) (t : PlainTable) → AllPass s t → AllWitnessed s t → (n : ℕ) → Grows s t n
grow s t pass wit zero = grow-zero s t
grow s t pass wit (suc n) = grow-more s t pass wit n (grow s t pass wit n)

-- symbols that are known have trees
pub trees_of : (s : Sets) (t : PlainTable) → AllPass s t → AllWitnessed s t → 0 < t.width → (ss : List Symbol) → are_known t.width (length s.ranks) ss ≡ true → (f : Forest) × IsForest t.productions f ss []
trees_of s t pass wit some ss k =
    let n = some-rank s ss in
    let r = grow s t pass wit n.0 ss [] k n.1 some in
    (r.0, r.1)
