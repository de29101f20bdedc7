-- What stands above what, step by step.
use Rattle.std.proofs.Common.{◌≡◌, ◌≢◌, ◌⊎◌, ℕ, zero, suc, ◌+◌, ◌<◌, ◌≤◌, List, length, get_or, Option, Some, sym, ap, ◌∙◌, inl, inr, arith, add-one, subst}
use Rattle.std.proofs.lemmas.Bool.{cases_eq}
use Rattle.std.proofs.lemmas.Option.{same_Some, slice_get_within, slice_get-get_or, option_and_then_some}
use Rattle.std.specs.List.{slice_get}
use Rattle.std.specs.Option.{option_and_then}
use Rattle.jd_ancestry.specs.Ancestors.{Above}
use Rattle.jd_ancestry.specs.Ancestors.Above.{above_child, above_parent}
use Rattle.jd_ancestry.specs.Walks.{AreClosed, ancestor, parent_of}

pub same_parent : (o : Option (Option ℕ)) (a b : ℕ) → o ≡ Some (Some a) → o ≡ Some (Some b) → a ≡ b
same_parent o a b p q = same_Some a b (same_Some (Some a) (Some b) (sym p ∙ q))

module _ (parents : List (Option ℕ)) where
  pub transitive : (a b c : ℕ) → Above parents a b → Above parents b c → Above parents a c
  transitive a b c p (above_child _ _ e) = above_parent a b c e p
  transitive a b c p (above_parent _ d _ e q) = above_parent a d c e (transitive a b d p q)

  -- what stands above a node is what it stands directly below, or stands above that
  pub first_step : (a b c : ℕ) → slice_get parents c ≡ Some (Some b) → Above parents a c → (a ≡ b) ⊎ Above parents a b
  first_step a b c e (above_child _ _ f) = inl (same_parent (slice_get parents c) a b f e)
  first_step a b c e (above_parent _ d _ f p) = inr (subst (λ (x : ℕ). Above parents a x) (same_parent (slice_get parents c) d b f e) p)

  pub has_parent : (a c : ℕ) → Above parents a c → (b : ℕ) × (slice_get parents c ≡ Some (Some b))
  has_parent a c (above_child _ _ e) = (a, e)
  has_parent a c (above_parent _ b _ e p) = (b, e)

  pub stands_inside : (a c : ℕ) → Above parents a c → c < length parents
  stands_inside a c p = let parent = has_parent a c p in slice_get_within parents c (Some parent.0) parent.1

  -- on a cycle the node directly above is on a cycle too
  parent_on_cycle : (b c : ℕ) → slice_get parents c ≡ Some (Some b) → Above parents c c → Above parents b b
  parent_on_cycle b c e p =
      elim (first_step c b c e p) [
        | inl same ↦ subst (λ (x : ℕ). Above parents x x) same p
        | inr above ↦ transitive b c b (above_child b c e) above
      ]

  -- what stands above a node of a cycle is on that cycle
  pub comes_back : (a b : ℕ) → Above parents b b → Above parents a b → Above parents b a
  comes_back a b round (above_child _ _ e) =
      elim (first_step b a b e round) [
        | inl same ↦ subst (λ (x : ℕ). Above parents b x) same round
        | inr above ↦ above
      ]
  comes_back a b round (above_parent _ d _ e p) =
      let back = comes_back a d (parent_on_cycle d b e round) p in
      elim (first_step b d b e round) [
        | inl same ↦ subst (λ (x : ℕ). Above parents x a) (sym same) back
        | inr above ↦ transitive b d a above back
      ]

  -- what a list that is closed has for a node, it has for all above it
  pub closed_above : (stamps : List ℕ) → AreClosed parents stamps → (a b : ℕ) → Above parents a b → get_or stamps b 0 ≢ 0 → get_or stamps a 0 ≢ 0
  closed_above stamps closed a b (above_child _ _ e) h = closed a b e h
  closed_above stamps closed a b (above_parent _ d _ e p) h = closed_above stamps closed a d p (closed d b e h)

  pub parent_is : (a b : ℕ) → parent_of parents b ≡ Some a → slice_get parents b ≡ Some (Some a)
  parent_is a b e = option_and_then_some (λ p. p) (slice_get parents b) a e (λ p f g. f ∙ ap Some g)

  -- what the list reads at a node
  pub read_parent : (node : ℕ) (d p : Option ℕ) → node < length parents → get_or parents node d ≡ p → slice_get parents node ≡ Some p
  read_parent node d p lt e = slice_get-get_or parents node d lt ∙ ap Some e

  pub next_ancestor : (start k a : ℕ) (p : Option ℕ) → ancestor parents k start ≡ Some a → slice_get parents a ≡ Some p → ancestor parents (k + 1) start ≡ p
  next_ancestor start k a p e f = rw add-one (ap (option_and_then (parent_of parents)) e ∙ ap (option_and_then (λ (q : Option ℕ). q)) f)

  pub next_read : (start k node : ℕ) (d p : Option ℕ) → ancestor parents k start ≡ Some node → node < length parents → get_or parents node d ≡ p → ancestor parents (k + 1) start ≡ p
  next_read start k node d p there lt e = next_ancestor start k node p there (read_parent node d p lt e)

  -- the node more steps above stands above the one fewer steps above
  pub higher : (start k m a b : ℕ) → k < m → ancestor parents k start ≡ Some a → ancestor parents m start ≡ Some b → Above parents b a
  higher start k zero a b lt p q = absurd (omega arith)
  higher start k (suc m) a b lt p q =
      option_and_then_some (parent_of parents) (ancestor parents m start) b q (λ d e f.
      elim (cases_eq k m) [
        | inl same ↦
            let here : a ≡ d = same_Some a d (sym p ∙ ap (λ (i : ℕ). ancestor parents i start) same ∙ e) in
            subst (λ (x : ℕ). Above parents b x) (sym here) (above_child b d (parent_is b d f))
        | inr other ↦ transitive b d a (above_child b d (parent_is b d f)) (higher start k m a d (omega arith) p e)
      ])

  -- from a node of a cycle each further number of steps leads to one
  pub round_on : (start k m a : ℕ) → k ≤ m → ancestor parents k start ≡ Some a → Above parents a a → (x : ℕ) × (ancestor parents m start ≡ Some x) × Above parents x x
  round_on start k zero a le e p = (a, ap (λ (i : ℕ). ancestor parents i start) (let none : 0 ≡ k = omega arith in none) ∙ e, p)
  round_on start k (suc m) a le e p =
      elim (cases_eq (suc m) k) [
        | inl same ↦ (a, ap (λ (i : ℕ). ancestor parents i start) same ∙ e, p)
        | inr other ↦
            let before = round_on start k m a (omega arith) e p in
            let parent = has_parent before.0 before.0 before.2 in
            (parent.0, ap (option_and_then (parent_of parents)) before.1 ∙ ap (option_and_then (λ (q : Option ℕ). q)) parent.1, parent_on_cycle parent.0 before.0 parent.1 before.2)
      ]
