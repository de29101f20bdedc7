-- Exact tests of equality of numbers, names and small enumerations.
use Rattle.std.proofs.Common.{◌≡◌, ◌&&◌, ℕ, ℤ, zero, suc, Bool, true, false, List, [], ◌∷◌, Option, Some, None, refl, sym, ap, ◌∙◌, subst, true≢false, nat_eq}
use Rattle.std.proofs.lemmas.Bool.{eqb-true, eq-eqb}
use Rattle.std.proofs.Math.IntN.{ℤ_discrete}
use Rattle.std.proofs.Math.Bool.{Bool-discrete}
use mathlib.Core.HLevel.{Discrete}
use Rattle.jd_base.specs.declared.sort.Sort.{Sort}
use Rattle.jd_syntax.specs.Names.{Name}
use Rattle.jd_syntax.specs.Codes.{PlainKind, OfClass, IntArray}
use Rattle.jd_syntax.specs.declared.code.UnaryOp.{UnaryOp}
use Rattle.jd_syntax.specs.declared.code.UnaryOp.TheVariants as unary_ops
use Rattle.jd_syntax.specs.declared.code.BinaryOp.{BinaryOp}
use Rattle.jd_syntax.specs.declared.code.BinaryOp.TheVariants as binary_ops
use Rattle.jd_term.specs.declared.term.ArithmeticOp.{ArithmeticOp}
use Rattle.jd_term.specs.declared.term.ArithmeticOp.TheVariants as arithmetic_ops
use Rattle.jd_term.specs.declared.formula.Modality.{Modality}
use Rattle.jd_term.specs.declared.formula.Modality.TheVariants as modalities
use Rattle.jd_heap.specs.Codings.{same, same_decides}
use Rattle.jd_model.specs.NameCodings.{sort_coding, name_coding}
use Rattle.jd_patterns.specs.Patterns.{SchemaVar}
use Rattle.jd_patterns.specs.Bindings.{Test}

pub split : (a b : Bool) → (a && b) ≡ true → (a ≡ true) × (b ≡ true)
split true b e = (refl, e)
split false b e = absurd (true≢false (sym e))

pub both : (a b : Bool) → a ≡ true → b ≡ true → (a && b) ≡ true
both a b e f = ap (λ x. x && b) e ∙ f

-- a decision as a test
decided : {A : Type 0} → Discrete A → Test A
decided {A} d = record { same = λ x y. said (d x y); decides = λ x y. (is_so x y (d x y), is_said x y (d x y)) }
  where
    said : {x y : A} → Dec (x ≡ y) → Bool
    said (yes p) = true
    said (no n) = false

    is_so : (x y : A) (r : Dec (x ≡ y)) → said r ≡ true → x ≡ y
    is_so x y (yes p) e = p
    is_so x y (no n) e = absurd (true≢false (sym e))

    is_said : (x y : A) (r : Dec (x ≡ y)) → x ≡ y → said r ≡ true
    is_said x y (yes p) e = refl
    is_said x y (no n) e = absurd (n e)

pub number : Test ℕ
number = record { same = nat_eq; decides = λ x y. (eqb-true x y, eq-eqb x y) }

pub literal : Test ℤ
literal = decided ℤ_discrete

pub truth : Test Bool
truth = decided Bool-discrete

pub sort : Test Sort
sort = record { same = same sort_coding; decides = same_decides sort_coding }

pub name : Test Name
name = record { same = same name_coding; decides = same_decides name_coding }

-- ---- by numbers that tell the variants

-- the member of the list with the number, else the last variant
abbrev numbered : {A : Type 0} → List A → A → ℕ → A
numbered [] d n = d
numbered (x ∷ l) d zero = x
numbered (x ∷ l) d (suc n) = numbered l d n

by_number : {A : Type 0} (code : A → ℕ) (read : ℕ → A) → ((x : A) → read (code x) ≡ x) → Test A
by_number code read reads = record {
  same = λ x y. nat_eq (code x) (code y);
  decides = λ x y. (λ e. sym (reads x) ∙ ap read (eqb-true (code x) (code y) e) ∙ reads y, λ e. eq-eqb (code x) (code y) (ap code e));
}

abbrev unary_number : UnaryOp → ℕ
unary_number unary_ops.Negate = 0
unary_number unary_ops.Invert = 1

abbrev unary_of : ℕ → UnaryOp
unary_of zero = unary_ops.Negate
unary_of (suc n) = unary_ops.Invert

pub unary : Test UnaryOp
unary = by_number unary_number unary_of (elim [ unary_ops.Negate ↦ refl | unary_ops.Invert ↦ refl ])

abbrev binary_number : BinaryOp → ℕ
binary_number binary_ops.Add = 0
binary_number binary_ops.Subtract = 1
binary_number binary_ops.Multiply = 2
binary_number binary_ops.Divide = 3
binary_number binary_ops.Remainder = 4
binary_number binary_ops.Less = 5
binary_number binary_ops.LessOrEqual = 6
binary_number binary_ops.Greater = 7
binary_number binary_ops.GreaterOrEqual = 8
binary_number binary_ops.Equal = 9
binary_number binary_ops.NotEqual = 10

abbrev binary_of : ℕ → BinaryOp
binary_of n = numbered (binary_ops.Add ∷ binary_ops.Subtract ∷ binary_ops.Multiply ∷ binary_ops.Divide ∷ binary_ops.Remainder ∷ binary_ops.Less ∷ binary_ops.LessOrEqual ∷ binary_ops.Greater ∷ binary_ops.GreaterOrEqual ∷ binary_ops.Equal ∷ []) binary_ops.NotEqual n

binary_reads : (x : BinaryOp) → binary_of (binary_number x) ≡ x
binary_reads binary_ops.Add = refl
binary_reads binary_ops.Subtract = refl
binary_reads binary_ops.Multiply = refl
binary_reads binary_ops.Divide = refl
binary_reads binary_ops.Remainder = refl
binary_reads binary_ops.Less = refl
binary_reads binary_ops.LessOrEqual = refl
binary_reads binary_ops.Greater = refl
binary_reads binary_ops.GreaterOrEqual = refl
binary_reads binary_ops.Equal = refl
binary_reads binary_ops.NotEqual = refl

pub binary : Test BinaryOp
binary = by_number binary_number binary_of binary_reads

abbrev arithmetic_number : ArithmeticOp → ℕ
arithmetic_number arithmetic_ops.Add = 0
arithmetic_number arithmetic_ops.Subtract = 1
arithmetic_number arithmetic_ops.Multiply = 2
arithmetic_number arithmetic_ops.Divide = 3
arithmetic_number arithmetic_ops.Remainder = 4

abbrev arithmetic_of : ℕ → ArithmeticOp
arithmetic_of n = numbered (arithmetic_ops.Add ∷ arithmetic_ops.Subtract ∷ arithmetic_ops.Multiply ∷ arithmetic_ops.Divide ∷ []) arithmetic_ops.Remainder n

arithmetic_reads : (x : ArithmeticOp) → arithmetic_of (arithmetic_number x) ≡ x
arithmetic_reads arithmetic_ops.Add = refl
arithmetic_reads arithmetic_ops.Subtract = refl
arithmetic_reads arithmetic_ops.Multiply = refl
arithmetic_reads arithmetic_ops.Divide = refl
arithmetic_reads arithmetic_ops.Remainder = refl

pub arithmetic : Test ArithmeticOp
arithmetic = by_number arithmetic_number arithmetic_of arithmetic_reads

abbrev modality_number : Modality → ℕ
modality_number modalities.Necessity = 0
modality_number modalities.Possibility = 1

abbrev modality_of : ℕ → Modality
modality_of zero = modalities.Necessity
modality_of (suc n) = modalities.Possibility

pub modality : Test Modality
modality = by_number modality_number modality_of (elim [ modalities.Necessity ↦ refl | modalities.Possibility ↦ refl ])

abbrev kind_number : PlainKind → ℕ
kind_number IntArray = 0
kind_number (OfClass c) = suc c

abbrev kind_of : ℕ → PlainKind
kind_of zero = IntArray
kind_of (suc c) = OfClass c

pub kind : Test PlainKind
kind = by_number kind_number kind_of (elim [ OfClass c ↦ refl | IntArray ↦ refl ])

-- ---- optional names, and lists of numbers

abbrev same_result : Option Name → Option Name → Bool
same_result None None = true
same_result (Some x) (Some y) = name.same x y
same_result r q = false

result_is : (r q : Option Name) → same_result r q ≡ true → r ≡ q
result_is None None e = refl
result_is (Some x) (Some y) e = ap Some ((name.decides x y).0 e)
result_is r q e = absurd (true≢false (sym e))

own_result : (r : Option Name) → same_result r r ≡ true
own_result None = refl
own_result (Some x) = (name.decides x x).1 refl

pub result : Test (Option Name)
result = record { same = same_result; decides = λ r q. (result_is r q, λ e. subst (λ z. same_result r z ≡ true) e (own_result r)) }

abbrev same_var : SchemaVar → SchemaVar → Bool
same_var [] [] = true
same_var (x ∷ l) (y ∷ m) = nat_eq x y && same_var l m
same_var l m = false

var_is : (l m : SchemaVar) → same_var l m ≡ true → l ≡ m
var_is [] [] e = refl
var_is (x ∷ l) (y ∷ m) e = let p = split (nat_eq x y) (same_var l m) e in λ i. eqb-true x y p.0 i ∷ var_is l m p.1 i
var_is l m e = absurd (true≢false (sym e))

own_var : (l : SchemaVar) → same_var l l ≡ true
own_var [] = refl
own_var (x ∷ l) = both (nat_eq x x) (same_var l l) (eq-eqb x x refl) (own_var l)

pub variable : Test SchemaVar
variable = record { same = same_var; decides = λ l m. (var_is l m, λ e. subst (λ z. same_var l z ≡ true) e (own_var l)) }
