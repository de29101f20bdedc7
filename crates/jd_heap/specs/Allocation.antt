-- Which object is allocated: of its class, or of its length, the one with the least number that is not created.
use Rattle.std.specs.Prelude.{ℕ, zero, suc, Bool, cond}
use Rattle.std.specs.FinMap.{len}
use Rattle.jd_heap.specs.References.{Reference, Object, Array}
use Rattle.jd_heap.specs.Heaps.{Heap, is_created}

-- the least number from n on that is free, where at most so many are taken
abbrev pub least_free : ℕ → (ℕ → Bool) → ℕ → ℕ
least_free zero taken n = n
least_free (suc more) taken n = cond (taken n) (least_free more taken (suc n)) n

unfoldable pub fresh_object : Heap → ℕ → Reference
fresh_object h c = Object c (least_free (len h.map) (λ n. is_created h (Object c n)) 0)

unfoldable pub fresh_array : Heap → ℕ → Reference
fresh_array h l = Array l (least_free (len h.map) (λ n. is_created h (Array l n)) 0)
