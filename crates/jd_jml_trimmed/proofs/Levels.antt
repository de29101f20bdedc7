-- The attributes of clauses, of their lists, and of expressions as they stand in them: no cast waits, nothing is added, and what is too
-- high is told.
use Rattle.std.proofs.Common.{◌≡◌, ℕ, ◌+◌, ◌≤◌, max, min, Bool, true, false, ◌&&◌, cond, nat_lt, true≢false, List, [], ◌∷◌, drop, length, Option, Some, None, refl, sym, ap, subst, ◌∙◌, arith}
use Rattle.std.proofs.lemmas.Bool.{and_parts, ltb-false, le-ltb}
use Rattle.std.proofs.lemmas.Option.{none-some}
use Rattle.jd_grammar.specs.Grammars.{Production, Forest, Done, Leaf, Node, yield}
use Rattle.jd_grammar.specs.Folds.{values}
use Rattle.jd_grammar.specs.Nodes.{all_of, filled}
use Rattle.jd_grammar.specs.declared.piles.NodeParts.{NodeParts}
use Rattle.jd_grammar.specs.declared.table.Symbol.{Symbol}
use Rattle.jd_grammar.specs.declared.table.Symbol.TheVariants.{Token, Name}
use Rattle.jd_jml_grammar.specs.Productions.{jml_productions}
use Rattle.jd_jml_grammar.specs.declared.names.TheConstants as names
use Rattle.jd_jml_tokens.specs.Lexemes.{PlainLexeme, place_of}
use Rattle.jd_jml_attributes.specs.declared.rows.Rule.{Rule}
use Rattle.jd_jml_attributes.specs.declared.rows.Rule.TheVariants as rules
use Rattle.jd_jml_attributes.specs.Forms.{PlainKind, Same, NameInParentheses, PlainForm, empty, plus, first_of, unmet, cast_behind, in_order}
use Rattle.jd_jml_attributes.specs.Rules.{row_of, all_in_order, high_at, with_high}
use Rattle.jd_jml_attributes.specs.Judging.{form_by, form_of_node}
use Rattle.jd_jml_trimmed.proofs.Shapes.{IsShape, passes, tested, implies, implied}
use Rattle.jd_jml_trimmed.proofs.Near.{two}

pub record IsLevel (f : PlainForm) : Type 0 where
  pub adds : f.adds ≡ 0
  pub cast : f.cast ≡ None
  pub low : f.high ≡ None → f.height ≤ 200

abbrev pub AreLevel : List PlainForm → Type 0
AreLevel [] = Unit {0}
AreLevel (f ∷ fs) = IsLevel f × AreLevel fs

-- ---- places, the first of some

pub first_last : (p : Option ℕ) → first_of p None ≡ p
first_last (Some p) = refl
first_last None = refl

in_any_order : (p q r : Option ℕ) → first_of (first_of p q) r ≡ first_of p (first_of q r)
in_any_order None q r = refl
in_any_order (Some p) None r = refl
in_any_order (Some p) (Some q) None = refl
in_any_order (Some p) (Some q) (Some r) = let same : min (min p q) r ≡ min p (min q r) = omega arith in ap Some same

none_of : (p q : Option ℕ) → first_of p q ≡ None → (p ≡ None) × (q ≡ None)
none_of (Some p) (Some q) e = absurd (none-some (min p q) (sym e))
none_of (Some p) None e = absurd (none-some p (sym e))
none_of None q e = (refl, e)

-- ---- one before another

unmet_nothing : (p : Option ℕ) (k : PlainKind) → first_of p (unmet k None) ≡ p
unmet_nothing p Same = first_last p
unmet_nothing p NameInParentheses = first_last p
unmet_nothing p _ = first_last p

no_cast : (k : PlainKind) (c d : Option ℕ) → c ≡ None → d ≡ None → cast_behind k c d ≡ None
no_cast Same c d e g = g
no_cast _ c d e g = e

low_both : (a b n : ℕ) → a ≤ 200 → b ≤ 200 → n ≡ 0 → max (min (a + n) 201) b ≤ 200
low_both a b n h k e = omega (arith, h, k, e)

-- what stands in order so far, with this fault and this part that is too high
record SoFar (f : PlainForm) (x y : Option ℕ) : Type 0 where
  adds : f.adds ≡ 0
  cast : f.cast ≡ None
  fault : f.fault ≡ x
  high : f.high ≡ y
  low : f.high ≡ None → f.height ≤ 200

and_more : (f g : PlainForm) (x y : Option ℕ) → SoFar f x y → IsLevel g → SoFar (in_order f g) (first_of x g.fault) (first_of y g.high)
and_more f g x y s l = record {
  adds = two plus s.adds l.adds;
  cast = no_cast f.kind f.cast g.cast s.cast l.cast;
  fault =
      ap (λ c. first_of (first_of f.fault g.fault) (unmet f.kind c)) l.cast
      ∙ unmet_nothing (first_of f.fault g.fault) f.kind
      ∙ ap (λ z. first_of z g.fault) s.fault;
  high = ap (λ z. first_of z g.high) s.high;
  low = λ e. let (a, b) = none_of f.high g.high e in low_both f.height g.height g.adds (s.low a) (l.low b) l.adds;
}

nothing_so_far : SoFar empty None None
nothing_so_far = record { adds = refl; cast = refl; fault = refl; high = refl; low = λ e. omega arith }

empty_level : IsLevel empty
empty_level = record { adds = refl; cast = refl; low = λ e. omega arith }

record AreLevelParts (parts : NodeParts PlainForm) : Type 0 where
  first : IsLevel parts.first
  second : IsLevel parts.second
  third : IsLevel parts.third
  fourth : IsLevel parts.fourth

abbrev fault_so_far : NodeParts PlainForm → Option ℕ
fault_so_far parts = first_of (first_of (first_of (first_of None parts.first.fault) parts.second.fault) parts.third.fault) parts.fourth.fault

abbrev high_so_far : NodeParts PlainForm → Option ℕ
high_so_far parts = first_of (first_of (first_of (first_of None parts.first.high) parts.second.high) parts.third.high) parts.fourth.high

all_so_far : (parts : NodeParts PlainForm) → AreLevelParts parts → SoFar (all_in_order empty parts) (fault_so_far parts) (high_so_far parts)
all_so_far parts l =
    let one = and_more empty parts.first None None nothing_so_far l.first in
    let more = and_more (in_order empty parts.first) parts.second (first_of None parts.first.fault) (first_of None parts.first.high) one l.second in
    let most = and_more (in_order (in_order empty parts.first) parts.second) parts.third (first_of (first_of None parts.first.fault) parts.second.fault) (first_of (first_of None parts.first.high) parts.second.high) more l.third in
    and_more
    (in_order (in_order (in_order empty parts.first) parts.second) parts.third)
    parts.fourth
    (first_of (first_of (first_of None parts.first.fault) parts.second.fault) parts.third.fault)
    (first_of (first_of (first_of None parts.first.high) parts.second.high) parts.third.high)
    most
    l.fourth

level_parts : (fs : List PlainForm) → AreLevel fs → AreLevelParts (filled (all_of empty) fs)
level_parts [] h = record { first = empty_level; second = empty_level; third = empty_level; fourth = empty_level }
level_parts (a ∷ []) h = record { first = h.0; second = empty_level; third = empty_level; fourth = empty_level }
level_parts (a ∷ b ∷ []) h = record { first = h.0; second = h.1.0; third = empty_level; fourth = empty_level }
level_parts (a ∷ b ∷ c ∷ []) h = record { first = h.0; second = h.1.0; third = h.1.1.0; fourth = empty_level }
level_parts (a ∷ b ∷ c ∷ d ∷ fs) h = record { first = h.0; second = h.1.0; third = h.1.1.0; fourth = h.1.1.1.0 }

-- ---- nodes

settled : (ts : List PlainLexeme) (h : ℕ) (o : Option ℕ) → high_at ts h o ≡ None → h ≤ 200
settled ts h (Some at) e = absurd (none-some at (sym e))
settled ts h None e = by (nat_lt 200 h) refl e
  where
    by : (b : Bool) → nat_lt 200 h ≡ b → cond b (Some (place_of 0 ts)) None ≡ None → h ≤ 200
    by true k e = absurd (none-some (place_of 0 ts) (sym e))
    by false k e = ltb-false 200 h k

-- the names of lists of clauses, of clauses, and of what stands in these
abbrev is_low : ℕ → Bool
is_low a = nat_lt a names.BEHIND_LOCATION_NAME

abbrev pub all_low : List Symbol → Bool
all_low [] = true
all_low (Token k ∷ ss) = all_low ss
all_low (Name a ∷ ss) = is_low a && all_low ss

abbrev rule_fits : Rule → List Symbol → Bool
rule_fits rules.Parts ss = all_low ss
rule_fits rules.Expression ss = true
rule_fits rules.Identifier ss = true
rule_fits _ ss = false

abbrev fits : ℕ → Production → Bool
fits p r = implies (is_low r.head) (rule_fits (row_of p).1 r.body)

all_fit : passes fits 0 jml_productions ≡ true
all_fit = refl

level_node : (rule : Rule) (ts : List PlainLexeme) (ss : List Symbol) (fs : List PlainForm) → rule_fits rule ss ≡ true
    → (all_low ss ≡ true → AreLevel fs)
    → IsLevel (form_by rule ts (filled (all_of empty) fs))
level_node rules.Parts ts ss fs u h =
    let f = all_in_order empty (filled (all_of empty) fs) in
    let s = all_so_far (filled (all_of empty) fs) (level_parts fs (h u)) in
    record { adds = s.adds; cast = s.cast; low = settled ts f.height f.high }
level_node rules.Expression ts ss fs u h =
    let f = all_in_order empty (filled (all_of empty) fs) in
    record { adds = refl; cast = refl; low = settled ts f.height f.high }
level_node rules.Identifier ts ss fs u h = record { adds = refl; cast = refl; low = λ e. omega arith }
level_node _ ts ss fs u h = absurd (true≢false (sym u))

pub levels : (f : Forest) (ss : List Symbol) (ts : List PlainLexeme) → IsShape f ss → all_low ss ≡ true → AreLevel (values form_of_node f ts)
levels Done ss ts h u = tt
levels (Leaf k f) [] ts h u = absurd h
levels (Leaf k f) (Token j ∷ ss) ts h u = levels f ss (drop 1 ts) h.1 u
levels (Leaf k f) (Name a ∷ ss) ts h u = absurd h
levels (Node p c f) [] ts h u = absurd h
levels (Node p c f) (Token j ∷ ss) ts h u = absurd h
levels (Node p c f) (Name a ∷ ss) ts (r, at, is, below, behind) u =
    let (v, w) = and_parts (is_low a) (all_low ss) u in
    let low : is_low r.head ≡ true = subst (λ b. is_low b ≡ true) (sym is) v in
    let fit = implied (is_low r.head) (rule_fits (row_of p).1 r.body) (tested fits p r all_fit at) low in (
      level_node (row_of p).1 ts r.body (values form_of_node c ts) fit (λ x. levels c r.body ts below x),
      levels f ss (drop (length (yield c)) ts) behind w,
    )

-- ---- lists

-- the first fault, and the first part that is too high
abbrev pub faults : List PlainForm → Option ℕ
faults [] = None
faults (f ∷ fs) = first_of f.fault (faults fs)

abbrev pub highs : List PlainForm → Option ℕ
highs [] = None
highs (f ∷ fs) = first_of f.high (highs fs)

one_first : (a : Option ℕ) → first_of (first_of (first_of (first_of None a) None) None) None ≡ first_of a None
one_first a = ap (λ z. first_of (first_of z None) None) (first_last a) ∙ ap (λ z. first_of z None) (first_last a)

two_first : (a b : Option ℕ) → first_of (first_of (first_of (first_of None a) b) None) None ≡ first_of a (first_of b None)
two_first a b = ap (λ z. first_of z None) (first_last (first_of a b)) ∙ in_any_order a b None

three_first : (a b c : Option ℕ) → first_of (first_of (first_of (first_of None a) b) c) None ≡ first_of a (first_of b (first_of c None))
three_first a b c = in_any_order (first_of a b) c None ∙ in_any_order a b (first_of c None)

fault_of_all : (fs : List PlainForm) → length fs ≤ 3 → fault_so_far (filled (all_of empty) fs) ≡ faults fs
fault_of_all [] l = refl
fault_of_all (a ∷ []) l = one_first a.fault
fault_of_all (a ∷ b ∷ []) l = two_first a.fault b.fault
fault_of_all (a ∷ b ∷ c ∷ []) l = three_first a.fault b.fault c.fault
fault_of_all (a ∷ b ∷ c ∷ d ∷ fs) l = let no_more : ⊥ = omega (arith, l) in absurd no_more

high_of_all : (fs : List PlainForm) → length fs ≤ 3 → high_so_far (filled (all_of empty) fs) ≡ highs fs
high_of_all [] l = refl
high_of_all (a ∷ []) l = one_first a.high
high_of_all (a ∷ b ∷ []) l = two_first a.high b.high
high_of_all (a ∷ b ∷ c ∷ []) l = three_first a.high b.high c.high
high_of_all (a ∷ b ∷ c ∷ d ∷ fs) l = let no_more : ⊥ = omega (arith, l) in absurd no_more

stays_high : (ts : List PlainLexeme) (h : ℕ) (o : Option ℕ) → (o ≡ None → h ≤ 200) → high_at ts h o ≡ o
stays_high ts h (Some at) k = refl
stays_high ts h None k = ap (λ b. cond b (Some (place_of 0 ts)) None) (le-ltb 200 h (k refl))

-- of a list of clauses
pub form_of_all : (ts : List PlainLexeme) (fs : List PlainForm) → AreLevel fs → length fs ≤ 3
    → ((with_high ts (all_in_order empty (filled (all_of empty) fs))).fault ≡ faults fs) × ((with_high ts (all_in_order empty (filled (all_of empty) fs))).high ≡ highs fs)
form_of_all ts fs h l =
    let f = all_in_order empty (filled (all_of empty) fs) in
    let s = all_so_far (filled (all_of empty) fs) (level_parts fs h) in
    (s.fault ∙ fault_of_all fs l, stays_high ts f.height f.high s.low ∙ (s.high ∙ high_of_all fs l))
