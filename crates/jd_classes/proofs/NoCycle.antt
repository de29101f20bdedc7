-- No class of a program whose classes stand is its own ancestor.
use Rattle.std.proofs.Common.{◌≡◌, inl, inr, ℕ, suc, zero, ◌+◌, ◌-◌, ◌<◌, List, [], ◌∷◌, ◌++◌, length, map, Option, Some, None, subst, arith}
use Rattle.std.specs.Prelude.{⊤}
use Rattle.std.specs.List.{slice_get}
use Rattle.std.proofs.lemmas.Bool.{cases_lt}
use Rattle.std.proofs.lemmas.Option.{none-some, same_Some, slice_get_within, slice_get_cases}
use Rattle.jd_ancestry.specs.Ancestors.{Above, HasNoCycle}
use Rattle.jd_ancestry.specs.Ancestors.Above.{above_child, above_parent}
use Rattle.jd_syntax.specs.JavaTrees.{JavaUnit}
use Rattle.jd_jclasses.specs.Classes.{class_names, declared_classes, parent_by, parents, prelude, prelude_count}
use Rattle.jd_jclasses.specs.Refusals.{ClassesStand}
use Rattle.jd_jseen.proofs.Nodes.{length_parents}

-- what each stands below has a lesser number, where the first has this one
abbrev AreLower : ℕ → List (Option ℕ) → Type 0
AreLower n [] = ⊤
AreLower n (None ∷ ps) = AreLower (suc n) ps
AreLower n (Some a ∷ ps) = (a < n) × AreLower (suc n) ps

lower : (n : ℕ) (ps qs : List (Option ℕ)) (b a : ℕ) → AreLower n ps → b < length ps → slice_get (ps ++ qs) b ≡ Some (Some a) → a < n + b
lower n [] qs b a all lt h = absurd (omega (arith, lt))
lower n (None ∷ ps) qs zero a all lt h = absurd (none-some a (same_Some None (Some a) h))
lower n (None ∷ ps) qs (suc b) a all lt h = omega (arith, lower (suc n) ps qs b a all (omega (arith, lt)) h)
lower n (Some c ∷ ps) qs zero a all lt h = omega (arith, all.0, same_Some c a (same_Some (Some c) (Some a) h))
lower n (Some c ∷ ps) qs (suc b) a all lt h = omega (arith, lower (suc n) ps qs b a all.1 (omega (arith, lt)) h)

prelude_lower : AreLower 0 (map (λ p. p.1) prelude)
prelude_lower = (omega arith, (omega arith, (omega arith, (omega arith, (omega arith, (omega arith, (omega arith, (omega arith, (omega arith, tt)))))))))

parent_lower : (units : List JavaUnit) (b a : ℕ) → b < 10 → slice_get (parents units) b ≡ Some (Some a) → a < b
parent_lower units b a lt h =
    let less : a < 0 + b = lower 0 (map (λ p. p.1) prelude) (map (λ d. parent_by (class_names units) d.tree.parent) (declared_classes units)) b a prelude_lower lt h in
    omega (arith, less)

above_lower : (units : List JavaUnit) (a b : ℕ) → b < 10 → Above (parents units) a b → a < b
above_lower units a b lt (above_child _ _ h) = parent_lower units b a lt h
above_lower units a b lt (above_parent _ c _ h rest) =
    let less = parent_lower units b c lt h in
    omega (arith, less, above_lower units a c (omega (arith, less, lt)) rest)

has_parent : (units : List JavaUnit) (a b : ℕ) → Above (parents units) a b → b < length (parents units)
has_parent units a b (above_child _ _ h) = slice_get_within (parents units) b (Some a) h
has_parent units a b (above_parent _ c _ h rest) = slice_get_within (parents units) b (Some c) h

pub no_cycle : (units : List JavaUnit) → ClassesStand units → HasNoCycle (parents units)
no_cycle units stand a above = elim (cases_lt a 10) [
  | inl small ↦ let less = above_lower units a a small above in omega (arith, less)
  | inr great ↦
      let within = has_parent units a a above in
      let i = a - 10 in
      let same : a ≡ prelude_count + i = omega (arith, great) in
      elim (slice_get_cases (declared_classes units) i).1 [
        | inl c ↦ stand.no_cycle i (record { class = c.0; there = c.2; holds = subst (λ (n : ℕ). Above (parents units) n n) same above })
        | inr past ↦ absurd (omega (arith, within, length_parents units, past.0, great))
      ]
]
