-- How high the values of nodes are, and what they are put together to.
use Rattle.std.proofs.Common.{◌≡◌, ℕ, suc, ◌+◌, ◌≤◌, max, List, [], ◌∷◌, ◌++◌, length, Option, Some, None, refl, sym, ap, ◌∙◌, arith}
use Rattle.jd_syntax.specs.JavaTypes.{PlainIdentifier}
use Rattle.jd_syntax.specs.SpecTrees.{PlainSpec, PlainSpecType, PlainLocation, PlainClause, specs_of}
use Rattle.jd_syntax.specs.declared.spec.Quantifier.{Quantifier}
use Rattle.jd_jml_values.specs.Values as values
use Rattle.jd_jml_values.specs.Values.{PlainSuffix, PlainStart, PlainEnd}
use Rattle.jd_jml_expressions.specs.Applying.{applied, all_applied, named, joined, begun, quantified, sum}
use Rattle.jd_jml_clauses.specs.Locating.{location, located}
use Rattle.jd_jml_texts.specs.Kept.{IsRange}
use Rattle.jd_jml_heights.specs.Heights.{spec_height, specs_height, location_height, locations_height, clause_height, highest}

-- ---- what stands behind an operand

-- that of the highest expression in it
abbrev pub suffix_height : PlainSuffix → ℕ
suffix_height (values.Infix o e) = spec_height e
suffix_height (values.InstanceOf t) = 0
suffix_height (values.Choice a b) = max (spec_height a) (spec_height b)
suffix_height (values.Implies e) = spec_height e
suffix_height (values.Equivalent e) = spec_height e
suffix_height (values.Member x) = 0
suffix_height (values.Method x es) = specs_height (specs_of es)
suffix_height (values.Element i) = spec_height i

-- how high at least the whole is
abbrev pub at_least : List PlainSuffix → ℕ
at_least [] = 0
at_least (s ∷ ss) = max (1 + suffix_height s + length ss) (at_least ss)

next_level : (n l a : ℕ) → n ≤ a → suc n ≤ max (1 + l + n) a
next_level n l a le = omega arith

pub levels_least : (ss : List PlainSuffix) → length ss ≤ at_least ss
levels_least [] = omega arith
levels_least (s ∷ ss) = next_level (length ss) (suffix_height s) (at_least ss) (levels_least ss)

one_more : (n : ℕ) → 1 + n ≡ 1 + max n 0
one_more n = omega arith

applied_height : (e : PlainSpec) (s : PlainSuffix) → spec_height (applied e s) ≡ 1 + max (spec_height e) (suffix_height s)
applied_height e (values.Infix o r) = refl
applied_height e (values.InstanceOf t) = one_more (spec_height e)
applied_height e (values.Choice a b) = refl
applied_height e (values.Implies r) = refl
applied_height e (values.Equivalent r) = refl
applied_height e (values.Member x) = one_more (spec_height e)
applied_height e (values.Method x es) = refl
applied_height e (values.Element i) = refl

none_behind : (n : ℕ) → n ≡ max (n + 0) 0
none_behind n = omega arith

one_behind : (n e s l a : ℕ) → n ≡ 1 + max e s → max (n + l) a ≡ max (e + suc l) (max (1 + s + l) a)
one_behind n e s l a is = omega arith

pub applied_heights : (e : PlainSpec) (ss : List PlainSuffix) → spec_height (all_applied e ss) ≡ max (spec_height e + length ss) (at_least ss)
applied_heights e [] = none_behind (spec_height e)
applied_heights e (s ∷ ss) =
    applied_heights (applied e s) ss ∙ one_behind (spec_height (applied e s)) (spec_height e) (suffix_height s) (length ss) (at_least ss) (applied_height e s)

-- ---- names and calls

abbrev pub call_height : Option (List PlainSpec) → ℕ
call_height None = 0
call_height (Some es) = 1 + specs_height (specs_of es)

pub named_height : (x : PlainIdentifier) (es : Option (List PlainSpec)) → spec_height (named x es) ≡ call_height es
named_height x None = refl
named_height x (Some es) = refl

one_level : 1 ≡ max 1 0
one_level = omega arith

call_level : (n : ℕ) → 1 + n ≡ max 1 (1 + n)
call_level n = omega arith

pub joined_height : (x : PlainIdentifier) (es : Option (List PlainSpec)) → 1 + suffix_height (joined x es) ≡ max 1 (call_height es)
joined_height x None = one_level
joined_height x (Some es) = call_level (specs_height (specs_of es))

-- ---- what begins in parentheses

abbrev pub start_height : PlainStart → ℕ
start_height (values.Inside e) = 1 + spec_height e
start_height (values.Cast t e) = 1 + spec_height e
start_height (values.Quantified q t x e) = 1 + spec_height e
start_height (values.QuantifiedIn q t x r e) = 1 + max (spec_height r) (spec_height e)
start_height (values.Sum x a b e) = 1 + max (2 + max (spec_height a) (spec_height b)) (spec_height e)

pub begun_height : (at : ℕ) (s : PlainStart) → spec_height (begun at s) ≡ start_height s
begun_height at (values.Inside e) = refl
begun_height at (values.Cast t e) = refl
begun_height at (values.Quantified q t x e) = refl
begun_height at (values.QuantifiedIn q t x r e) = refl
begun_height at (values.Sum x a b e) = refl

abbrev pub some_height : Option PlainSpec → ℕ
some_height None = 0
some_height (Some e) = spec_height e

pub quantified_height : (q : Quantifier) (t : PlainSpecType) (x : PlainIdentifier) (e : PlainSpec) (o : Option PlainSpec)
    → 1 + max (spec_height e) (some_height o) ≡ start_height (quantified q t x e o)
quantified_height q t x e None = sym (one_more (spec_height e))
quantified_height q t x e (Some d) = refl

range_levels : (a b : ℕ) → 1 + max (1 + max a 0) (1 + max 0 b) ≡ 2 + max a b
range_levels a b = omega arith

pub sum_height : (x : PlainIdentifier) (range e : PlainSpec) → IsRange x.name range
    → 1 + max (spec_height range) (spec_height e) ≡ start_height (sum x range e)
sum_height x range e (at, low, name, high, other, a, b, is) =
    ap (λ r. 1 + max (spec_height r) (spec_height e)) is ∙ ap (λ n. 1 + max n (spec_height e)) (range_levels (spec_height a) (spec_height b)) ∙ sym (ap (λ r. start_height (sum x r e)) is)

-- ---- locations

abbrev pub end_height : PlainEnd → ℕ
end_height (values.FieldEnd x) = 0
end_height values.AllFieldsEnd = 0
end_height (values.ElementEnd i) = spec_height i
end_height (values.RangeEnd i j) = max (spec_height i) (spec_height j)
end_height values.AllElementsEnd = 0

none_above : (n : ℕ) → n ≡ max n 0
none_above n = omega arith

location_end : (at : ℕ) (e : PlainSpec) (end : PlainEnd) → location_height (location at e end) ≡ max (spec_height e) (end_height end)
location_end at e (values.FieldEnd x) = none_above (spec_height e)
location_end at e values.AllFieldsEnd = none_above (spec_height e)
location_end at e (values.ElementEnd i) = refl
location_end at e (values.RangeEnd i j) = refl
location_end at e values.AllElementsEnd = none_above (spec_height e)

steps_first : (n e l a i : ℕ) → n ≡ max (e + l) a → max (e + l) (max a i) ≡ max n i
steps_first n e l a i is = omega arith

pub located_height : (at : ℕ) (e : PlainSpec) (ss : List PlainSuffix) (end : PlainEnd)
    → max (spec_height e + length ss) (max (at_least ss) (end_height end)) ≡ location_height (located at e ss end)
located_height at e ss end =
    steps_first (spec_height (all_applied e ss)) (spec_height e) (length ss) (at_least ss) (end_height end) (applied_heights e ss) ∙ sym (location_end at (all_applied e ss) end)

max_none_first : (n : ℕ) → n ≡ max 0 n
max_none_first n = omega arith

max_grouped : (a b c : ℕ) → max a (max b c) ≡ max (max a b) c
max_grouped a b c = omega arith

pub locations_append : (ls ms : List PlainLocation) → locations_height (ls ++ ms) ≡ max (locations_height ls) (locations_height ms)
locations_append [] ms = max_none_first (locations_height ms)
locations_append (l ∷ ls) ms = ap (max (location_height l)) (locations_append ls ms) ∙ max_grouped (location_height l) (locations_height ls) (locations_height ms)

-- ---- clauses

pub highest_append : (cs ds : List PlainClause) → highest (cs ++ ds) ≡ max (highest cs) (highest ds)
highest_append [] ds = max_none_first (highest ds)
highest_append (c ∷ cs) ds = ap (max (clause_height c)) (highest_append cs ds) ∙ max_grouped (clause_height c) (highest cs) (highest ds)
