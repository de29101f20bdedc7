-- Indices of bound variables by recursion: raised from a cut on, and a term in place of one.
use Rattle.std.proofs.Common.{◌≡◌, ℕ, zero, suc, ◌+◌, ◌-◌, ◌<◌, ◌≤◌, Bool, true, false, if◌then◌else◌, nat_lt, refl, sym, ap, ◌∙◌, arith}
use Rattle.std.proofs.lemmas.Bool.{ltb-true, ltb-false}
use Rattle.jd_base.specs.declared.sort.Sort.{Sort}
use Rattle.jd_term.specs.Terms.{PlainTerm, Bound}
use Rattle.jd_model.specs.Substitutions.{fitted, put_index}

-- an index from c on is n more
abbrev pub raised : ℕ → ℕ → ℕ → ℕ
raised n zero k = n + k
raised n (suc c) zero = zero
raised n (suc c) (suc k) = suc (raised n c k)

raised_low : (n c k : ℕ) → k < c → raised n c k ≡ k
raised_low n zero k lt = absurd (omega arith)
raised_low n (suc c) zero lt = refl
raised_low n (suc c) (suc k) lt = ap suc (raised_low n c k (omega arith))

raised_high : (n c k : ℕ) → c ≤ k → raised n c k ≡ k + n
raised_high n zero k le = omega arith
raised_high n (suc c) zero le = absurd (omega arith)
raised_high n (suc c) (suc k) le = let e = raised_high n c k (omega arith) in omega arith

pub raised_is : (n c k : ℕ) → raised n c k ≡ if nat_lt k c then k else k + n
raised_is n c k = by (nat_lt k c) refl
  where
    by : (b : Bool) → nat_lt k c ≡ b → raised n c k ≡ if b then k else k + n
    by true e = raised_low n c k (ltb-true k c e)
    by false e = raised_high n c k (ltb-false k c e)

-- what stands for index k where t is put for index c: `up` says how far t is inside
abbrev pub put_from : ℕ → PlainTerm → ℕ → Sort → ℕ → PlainTerm
put_from up t zero s zero = fitted up s t
put_from up t zero s (suc k) = Bound (up + k) s
put_from up t (suc c) s zero = Bound up s
put_from up t (suc c) s (suc k) = put_from (suc up) t c s k

module _ (t : PlainTerm) (s : Sort) where
  same_index : (m n : ℕ) → m ≡ n → Bound m s ≡ Bound n s
  same_index m n e = ap (λ k. Bound k s) e

  same_fitted : (m n : ℕ) → m ≡ n → fitted m s t ≡ fitted n s t
  same_fitted m n e = ap (λ k. fitted k s t) e

  put_low : (up c k : ℕ) → k < c → put_from up t c s k ≡ Bound (up + k) s
  put_low up zero k lt = absurd (omega arith)
  put_low up (suc c) zero lt = same_index _ _ (omega arith)
  put_low up (suc c) (suc k) lt = put_low (suc up) c k (omega arith) ∙ same_index _ _ (omega arith)

  put_high : (up c k : ℕ) → c < k → put_from up t c s k ≡ Bound (up + (k - 1)) s
  put_high up zero zero lt = absurd (omega arith)
  put_high up zero (suc k) lt = same_index _ _ (omega arith)
  put_high up (suc c) zero lt = absurd (omega arith)
  put_high up (suc c) (suc k) lt = put_high (suc up) c k (omega arith) ∙ same_index _ _ (omega arith)

  put_there : (up c k : ℕ) → k ≡ c → put_from up t c s k ≡ fitted (up + c) s t
  put_there up zero zero e = same_fitted _ _ (omega arith)
  put_there up zero (suc k) e = absurd (omega arith)
  put_there up (suc c) zero e = absurd (omega arith)
  put_there up (suc c) (suc k) e = put_there (suc up) c k (omega arith) ∙ same_fitted _ _ (omega arith)

  pub put_is : (c k : ℕ) → put_index c t k s ≡ put_from 0 t c s k
  put_is c k = by (nat_lt k c) (nat_lt c k) refl refl
    where
      by : (a b : Bool) → nat_lt k c ≡ a → nat_lt c k ≡ b → (if a then Bound k s else (if b then Bound (k - 1) s else fitted c s t)) ≡ put_from 0 t c s k
      by true b p q = same_index _ _ (omega arith) ∙ sym (put_low 0 c k (ltb-true k c p))
      by false true p q = same_index _ _ (omega arith) ∙ sym (put_high 0 c k (ltb-true c k q))
      by false false p q = let low = ltb-false k c p in let high = ltb-false c k q in same_fitted _ _ (omega arith) ∙ sym (put_there 0 c k (omega arith))
