-- Types whose values can be written as lists of numbers and read back: so they have a total order, and equality is a test.
use Rattle.std.specs.Prelude.{◌≡◌, ℕ, Bool, true, false, List, Decides}
use Rattle.std.proofs.Common.{refl, sym, ap, ◌∙◌, subst, true≢false}
use mathlib.Core.HLevel.{Discrete}
use Rattle.std.specs.declared.cmp.Ordering.{Ordering}
use Rattle.std.specs.Ordering.{nat_cmp, on, is_eq, eq_by_cmp}
use Rattle.std.specs.Cmp.{IsTotalOrder, on_total, tied_itself, Equal-is}
use Rattle.std.specs.Cmp.Lexicographic.{slice_cmp, nat_list_cmp_total}
use Rattle.std.specs.FinMap.{IsAntisymmetric, nat_cmp-IsAntisymmetric, slice_cmp-IsAntisymmetric}

pub record Coding (K : Type 0) : Type 0 where
  pub code : K → List ℕ
  pub read : List ℕ → K
  pub reads : (x : K) → read (code x) ≡ x

module _ {K : Type 0} (c : Coding K) where
  abbrev pub order : K → K → Ordering
  order = on c.code (slice_cmp nat_cmp)

  pub order_total : IsTotalOrder order
  order_total = on_total c.code nat_list_cmp_total

  pub order_same : IsAntisymmetric order
  order_same x y e = sym (c.reads x) ∙ ap c.read (slice_cmp-IsAntisymmetric nat_cmp-IsAntisymmetric (c.code x) (c.code y) e) ∙ c.reads y

  -- the test of equality
  abbrev pub same : K → K → Bool
  same x y = eq_by_cmp order x y

  pub same_decides : (x y : K) → Decides (same x y) (x ≡ y)
  same_decides x y = (λ e. order_same x y ((Equal-is (order x y)).0 e), λ p. subst (λ z. same x z ≡ true) p (ap is_eq (tied_itself order_total x)))

  pub decide : Discrete K
  decide x y = by (same x y) refl
    where
      by : (b : Bool) → same x y ≡ b → Dec (x ≡ y)
      by true e = yes ((same_decides x y).0 e)
      by false e = no (λ p. true≢false (sym ((same_decides x y).1 p) ∙ e))
