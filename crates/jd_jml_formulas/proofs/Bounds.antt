-- Bound variables in 32 bits.
use Rattle.std.proofs.Common.{◌≡◌, ◌<◌, ◌≤◌, ◌-◌, ◌^◌, ℕ, Bool, true, false, sym, ap, ◌∙◌, arith}
use Rattle.std.proofs.lemmas.Bool.{false≢true}
use Rattle.jd_base.specs.declared.sort.Sort.{Sort}
use Rattle.jd_base.specs.declared.sort.Sort.TheVariants as sorts
use Rattle.jd_jml_meaning.specs.Resolved as jml
use Rattle.jd_jml_meaning.specs.Resolved.{JmlExpr}
use Rattle.jd_jml_known.specs.Scopes.{at_most_32, saturated}
use Rattle.jd_sized_makers.specs.Made.{capped}

abbrev pub is_binder : JmlExpr → Bool
is_binder (jml.BoundVariable n s) = true
is_binder e = false

-- what is no bound variable
pub other_is : (j e : JmlExpr) → e ≡ saturated j → is_binder e ≡ false → j ≡ e
other_is (jml.BoundVariable n s) e is not = absurd (false≢true (sym not ∙ ap is_binder is))
other_is j e is not = sym is

abbrev index_of : JmlExpr → ℕ
index_of (jml.BoundVariable n s) = n
index_of e = 0

abbrev bound_sort : JmlExpr → Sort
bound_sort (jml.BoundVariable n s) = s
bound_sort e = sorts.Int

pub binder_is : (j : JmlExpr) (n : ℕ) (s : Sort) → jml.BoundVariable n s ≡ saturated j → (k : ℕ) × (n ≡ at_most_32 k) × (j ≡ jml.BoundVariable k s)
binder_is (jml.BoundVariable k u) n s is = (k, ap index_of is, ap (λ v. jml.BoundVariable k v) (sym (ap bound_sort is)))
binder_is j n s is = absurd (false≢true (sym (ap is_binder is)))

pub counted : (n k : ℕ) → n ≡ at_most_32 k → n < 2 ^ 32 - 1 → n ≡ k
counted n k is lt = omega (arith, is, lt)

-- ---- the limit

pub too_many : (n size limit : ℕ) → size ≡ capped n → limit < size → limit < n
too_many n size limit is more = omega (arith, is, more)

pub few : (n size limit : ℕ) → size ≡ capped n → size ≤ limit → limit < 2 ^ 32 → n ≤ limit
few n size limit is less range = omega (arith, is, less, range)
