-- An expression with nothing behind it has the form of its part.
use Rattle.std.proofs.Common.{◌≡◌, ◌≤◌, ◌+◌, ℕ, List, Option, Some, None, Bool, false, ◌||◌, cond, nat_lt, min, max, refl, sym, ap, ap₂, ◌∙◌, arith}
use Rattle.std.proofs.Math.Nat.{min-eq_left, max-zero, zero-max}
use Rattle.std.proofs.lemmas.Bool.{le-ltb}
use Rattle.jd_java_tokens.specs.Contents.{PlainLexeme}
use Rattle.jd_java_tokens.specs.Heads.{place_of}
use Rattle.jd_java_attributes.specs.declared.form.Form.{Form}
use Rattle.jd_java_attributes.specs.declared.form.Kind.{Kind}
use Rattle.jd_java_attributes.specs.declared.form.Kind.TheVariants as kinds
use Rattle.jd_java_attributes.specs.declared.form.Asked.{Asked}
use Rattle.jd_java_attributes.specs.declared.form.Asked.TheVariants as asks
use Rattle.jd_java_attributes.specs.declared.form.TheConstants.{EMPTY}
use Rattle.jd_java_attributes.specs.declared.rows.Rule.{Rule}
use Rattle.jd_java_attributes.specs.declared.rows.Rule.TheVariants as rules
use Rattle.jd_java_attributes.specs.Folding.{IsSettled, alone, behind_tokens}
use Rattle.jd_java_attributes.specs.Forms.{asked_behind, behind, first_of, in_order, inside, unmet}
use Rattle.jd_java_attributes.specs.Rules.{above, all_in_order, closed, high_at, made, only_tokens, with_high}

abbrev form : ℕ → ℕ → ℕ → ℕ → Kind → Asked → Option ℕ → Option ℕ → Form
form t h a n k q f g = record { tokens = t; height = h; adds = a; nesting = n; kind = k; asked = q; fault = f; high = g }

same : (a b : Form) → a.tokens ≡ b.tokens → a.height ≡ b.height → a.adds ≡ b.adds → a.nesting ≡ b.nesting → a.kind ≡ b.kind → a.asked ≡ b.asked → a.fault ≡ b.fault → a.high ≡ b.high → a ≡ b
same a b t h p n k q f g =
    ap (λ x. form x a.height a.adds a.nesting a.kind a.asked a.fault a.high) t
    ∙ (ap (λ x. form b.tokens x a.adds a.nesting a.kind a.asked a.fault a.high) h
    ∙ (ap (λ x. form b.tokens b.height x a.nesting a.kind a.asked a.fault a.high) p
    ∙ (ap (λ x. form b.tokens b.height b.adds x a.kind a.asked a.fault a.high) n
    ∙ (ap (λ x. form b.tokens b.height b.adds b.nesting x a.asked a.fault a.high) k
    ∙ (ap (λ x. form b.tokens b.height b.adds b.nesting b.kind x a.fault a.high) q
    ∙ (ap (λ x. form b.tokens b.height b.adds b.nesting b.kind b.asked x a.high) f
    ∙ ap (λ x. form b.tokens b.height b.adds b.nesting b.kind b.asked b.fault x) g))))))

behind_nothing : (k : Kind) → behind kinds.Same k ≡ k
behind_nothing kinds.Same = refl
behind_nothing kinds.Name = refl
behind_nothing kinds.NameInParentheses = refl
behind_nothing kinds.Target = refl
behind_nothing kinds.Effect = refl
behind_nothing kinds.Other = refl

asked_nothing : (k : Kind) → asked_behind k asks.Nothing asks.Nothing ≡ asks.Nothing
asked_nothing kinds.Same = refl
asked_nothing kinds.Name = refl
asked_nothing kinds.NameInParentheses = refl
asked_nothing kinds.Target = refl
asked_nothing kinds.Effect = refl
asked_nothing kinds.Other = refl

met_nothing : (k : Kind) → unmet k asks.Nothing ≡ None
met_nothing kinds.Same = refl
met_nothing kinds.Name = refl
met_nothing kinds.NameInParentheses = refl
met_nothing kinds.Target = refl
met_nothing kinds.Effect = refl
met_nothing kinds.Other = refl

first_alone : (o : Option ℕ) → first_of o None ≡ o
first_alone (Some at) = refl
first_alone None = refl

first_begun : (o : Option ℕ) → first_of None o ≡ o
first_begun (Some at) = refl
first_begun None = refl

-- behind nothing
begun : (f : Form) → IsSettled f → in_order (only_tokens 0) f ≡ f
begun f s =
    let t : min (0 + f.tokens) 4294967295 ≡ f.tokens = ap (λ n. min n 4294967295) (let z : 0 + f.tokens ≡ f.tokens = omega arith in z) ∙ min-eq_left s.counted in
    let p : min (0 + f.adds) 201 ≡ f.adds = ap (λ n. min (0 + n) 201) s.adds_nothing ∙ sym s.adds_nothing in
    let h : max (min (0 + f.adds) 201) f.height ≡ f.height = ap (λ n. max (min (0 + n) 201) f.height) s.adds_nothing ∙ zero-max f.height in
    same (in_order (only_tokens 0) f) f t h p (zero-max f.nesting) (behind_nothing f.kind) refl
    (ap (λ o. first_of o None) (first_begun f.fault) ∙ first_alone f.fault) (first_begun f.high)

-- before nothing
ended_low : (f : Form) → f.adds ≡ 0 → f.asked ≡ asks.Nothing → f.height ≤ 201 → f.tokens ≤ 4294967295 → in_order f EMPTY ≡ f
ended_low f adds_nothing asks_nothing low counted =
    let within : f.height + 0 ≤ 201 = omega (arith, low) in
    let bound : f.tokens + 0 ≤ 4294967295 = omega (arith, counted) in
    let t : min (f.tokens + 0) 4294967295 ≡ f.tokens = min-eq_left bound ∙ (let z : f.tokens + 0 ≡ f.tokens = omega arith in z) in
    let h : max (min (f.height + 0) 201) 0 ≡ f.height = max-zero (min (f.height + 0) 201) ∙ (min-eq_left within ∙ (let z : f.height + 0 ≡ f.height = omega arith in z)) in
    let p : min (f.adds + 0) 201 ≡ f.adds = ap (λ n. min (n + 0) 201) adds_nothing ∙ sym adds_nothing in
    let q : asked_behind f.kind f.asked asks.Nothing ≡ f.asked = ap (λ x. asked_behind f.kind x asks.Nothing) asks_nothing ∙ (asked_nothing f.kind ∙ sym asks_nothing) in
    let g : first_of (first_of f.fault None) (unmet f.kind asks.Nothing) ≡ f.fault = ap₂ first_of (first_alone f.fault) (met_nothing f.kind) ∙ first_alone f.fault in
    same (in_order f EMPTY) f t h p (max-zero f.nesting) refl q g (first_alone f.high)

ended : (f : Form) → IsSettled f → in_order f EMPTY ≡ f
ended f s = ended_low f s.adds_nothing s.asks_nothing s.low s.counted

not_high : (ts : List PlainLexeme) (f : Form) (o : Option ℕ) → nat_lt 200 f.height ≡ false → nat_lt 200 f.nesting ≡ false → high_at ts f o ≡ o
not_high ts f (Some at) h n = refl
not_high ts f None h n = ap₂ (λ (a b : Bool). cond (a || b) (Some (place_of 0 ts)) None) h n

-- before nothing, three times
all_ended : (f : Form) → in_order f EMPTY ≡ f → in_order (in_order (in_order f EMPTY) EMPTY) EMPTY ≡ f
all_ended f once = ap (λ x. in_order (in_order x EMPTY) EMPTY) once ∙ (ap (λ x. in_order x EMPTY) once ∙ once)

begun_ended : (f : Form) → IsSettled f → all_in_order (only_tokens 0) (alone f) ≡ f
begun_ended f s = ap (λ x. in_order (in_order (in_order x EMPTY) EMPTY) EMPTY) (begun f s) ∙ all_ended f (ended f s)

unchanged : (f : Form) → IsSettled f → (ts : List PlainLexeme) → with_high ts f ≡ f
unchanged f s ts = same (with_high ts f) f refl refl refl refl refl refl refl (s.marked ts)

pub not_too_high : (f : Form) → f.height ≤ 200 → f.nesting ≤ 200 → (ts : List PlainLexeme) → high_at ts f f.high ≡ f.high
not_too_high f low flat ts = not_high ts f f.high (le-ltb 200 f.height low) (le-ltb 200 f.nesting flat)

pub already_marked : (f : Form) (at : ℕ) → f.high ≡ Some at → (ts : List PlainLexeme) → high_at ts f f.high ≡ f.high
already_marked f at is ts = ap (high_at ts f) is ∙ sym is

-- where both stand in order
pub stays_whole : (f : Form) → IsSettled f → (ts : List PlainLexeme) → with_high ts (made rules.Parts 0 ts (alone f)) ≡ f
stays_whole f s ts = ap (with_high ts) (begun_ended f s) ∙ unchanged f s ts

-- an expression
pub stays : (f : Form) → IsSettled f → (ts : List PlainLexeme) → with_high ts (made rules.Expression 0 ts (alone f)) ≡ f
stays f s ts =
    let shut : closed f ≡ f = same (closed f) f refl refl (sym s.adds_nothing) refl refl (sym s.asks_nothing) refl refl in
    ap (λ x. with_high ts (closed x)) (begun_ended f s) ∙ (ap (with_high ts) shut ∙ unchanged f s ts)

-- before nothing heights are cut, and what is asked of nothing goes
pub before_nothing : (a : Form) → a.tokens ≤ 4294967295 → record a { height = min a.height 201; adds = min a.adds 201; asked = asked_behind a.kind a.asked asks.Nothing } ≡ in_order a EMPTY
before_nothing a within =
    let bound : a.tokens + 0 ≤ 4294967295 = omega (arith, within) in
    let t : min (a.tokens + 0) 4294967295 ≡ a.tokens = min-eq_left bound ∙ (let z : a.tokens + 0 ≡ a.tokens = omega arith in z) in
    let h : max (min (a.height + 0) 201) 0 ≡ min a.height 201 = max-zero (min (a.height + 0) 201) ∙ ap (λ n. min n 201) (let z : a.height + 0 ≡ a.height = omega arith in z) in
    let p : min (a.adds + 0) 201 ≡ min a.adds 201 = ap (λ n. min n 201) (let z : a.adds + 0 ≡ a.adds = omega arith in z) in
    let g : first_of (first_of a.fault None) (unmet a.kind asks.Nothing) ≡ a.fault = ap₂ first_of (first_alone a.fault) (met_nothing a.kind) ∙ first_alone a.fault in
    sym (same (in_order a EMPTY) (record a { height = min a.height 201; adds = min a.adds 201; asked = asked_behind a.kind a.asked asks.Nothing }) t h p (max-zero a.nesting) refl refl g (first_alone a.high))

-- ---- behind tokens

begun_behind : (n : ℕ) (f : Form) → IsSettled f → in_order (only_tokens n) f ≡ behind_tokens n f
begun_behind n f s =
    let p : min (0 + f.adds) 201 ≡ f.adds = ap (λ m. min (0 + m) 201) s.adds_nothing ∙ sym s.adds_nothing in
    let h : max (min (0 + f.adds) 201) f.height ≡ f.height = ap (λ m. max (min (0 + m) 201) f.height) s.adds_nothing ∙ zero-max f.height in
    same (in_order (only_tokens n) f) (behind_tokens n f) refl h p (zero-max f.nesting) (behind_nothing f.kind) refl
    (ap (λ o. first_of o None) (first_begun f.fault) ∙ first_alone f.fault) (first_begun f.high)

high_same : (ts : List PlainLexeme) (n : ℕ) (f : Form) (o : Option ℕ) → high_at ts (behind_tokens n f) o ≡ high_at ts f o
high_same ts n f (Some at) = refl
high_same ts n f None = refl

behind_settled : (n : ℕ) (f : Form) → IsSettled f → IsSettled (behind_tokens n f)
behind_settled n f s =
    let bound : min (n + f.tokens) 4294967295 ≤ 4294967295 = omega arith in
    record {
      adds_nothing = s.adds_nothing;
      asks_nothing = s.asks_nothing;
      low = s.low;
      marked = λ ts. high_same ts n f f.high ∙ s.marked ts;
      counted = bound;
    }

behind_ended : (n : ℕ) (f : Form) → IsSettled f → all_in_order (only_tokens n) (alone f) ≡ behind_tokens n f
behind_ended n f s =
    ap (λ x. in_order (in_order (in_order x EMPTY) EMPTY) EMPTY) (begun_behind n f s)
    ∙ all_ended (behind_tokens n f) (ended (behind_tokens n f) (behind_settled n f s))

-- where both stand in order
pub stays_whole_behind : (n : ℕ) (f : Form) → IsSettled f → (ts : List PlainLexeme) → with_high ts (made rules.Parts n ts (alone f)) ≡ behind_tokens n f
stays_whole_behind n f s ts = ap (with_high ts) (behind_ended n f s) ∙ unchanged (behind_tokens n f) (behind_settled n f s) ts

-- an expression
pub stays_behind : (n : ℕ) (f : Form) → IsSettled f → (ts : List PlainLexeme) → with_high ts (made rules.Expression n ts (alone f)) ≡ behind_tokens n f
stays_behind n f s ts =
    let g = behind_tokens n f in
    let shut : closed g ≡ g = same (closed g) g refl refl (sym s.adds_nothing) refl refl (sym s.asks_nothing) refl refl in
    ap (λ x. with_high ts (closed x)) (behind_ended n f s) ∙ (ap (with_high ts) shut ∙ unchanged g (behind_settled n f s) ts)

-- an expression in parentheses
pub encloses : (f : Form) → IsSettled f → (ts : List PlainLexeme) (n : ℕ) → with_high ts (made rules.Parenthesized n ts (alone f)) ≡ with_high ts (above (inside f.kind) (behind_tokens n f))
encloses f s ts n =
    let g = above (inside f.kind) (behind_tokens n f) in
    let low : min (f.height + 1) 201 ≤ 201 = omega arith in
    let once : in_order g EMPTY ≡ g = ended_low g refl refl low (behind_settled n f s).counted in
    ap (λ x. with_high ts (closed (in_order (in_order (in_order (in_order (above (inside f.kind) x) EMPTY) EMPTY) EMPTY) EMPTY))) (begun_behind n f s)
    ∙ ap (λ x. with_high ts (closed x)) (ap (λ x. in_order (in_order (in_order x EMPTY) EMPTY) EMPTY) once ∙ all_ended g once)

-- an operand with nothing in it or behind it
pub stands_alone : (rule : Rule) (kind : Kind) (n : ℕ) (f : Form) → n ≤ 4294967295 → rule ≡ rules.Operand kind → f ≡ EMPTY → (ts : List PlainLexeme) → with_high ts (made rule n ts (alone f)) ≡ record EMPTY { tokens = n; kind = kind }
stands_alone rule kind n f bound is empty ts =
    let g : Form = record EMPTY { tokens = n; kind = kind } in
    let once : in_order g EMPTY ≡ g = ended_low g refl refl (omega arith) bound in
    ap₂ (λ r x. with_high ts (made r n ts (alone x))) is empty
    ∙ ap (λ x. with_high ts (closed x)) (ap (λ x. in_order (in_order (in_order x EMPTY) EMPTY) EMPTY) once ∙ all_ended g once)
