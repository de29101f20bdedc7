-- What a stage's outcome says, and how stages follow one another.
use Rattle.std.proofs.Common.{Bool, List, None, Option, Some, arith, false, inl, inr, refl, subst, suc, true, ◌<◌, ◌≡◌, ◌⊎◌, ℕ}
use Rattle.std.proofs.lemmas.Bool.{cases_order}
use Rattle.std.specs.Option.{IfSome}
use Rattle.jd_pattern_laws.proofs.Chosen.{chosen_agrees}
use Rattle.jd_patterns.specs.Bindings.{Agrees, Bindings, Tests, Within}
use Rattle.jd_patterns.specs.Chosen.{AllBound, BoundOnce, chosen}
use Rattle.jd_patterns.specs.Instances.{Instance}
use Rattle.jd_patterns.specs.Variables.{Variable}
use Rattle.jd_sequent.specs.Rules.{IsCaused}
use Rattle.jd_sequent.specs.declared.bad.Bad.{Bad}
use Rattle.jd_taclet_stages.specs.Stages.{Goes, Outcome, Refuses, and_then, going, provided}

-- ---- causes

-- no cause with a smaller number, from 1 on
abbrev pub NoneBelow : (ℕ → Type 0) → ℕ → Type 0
NoneBelow cause n = (k : ℕ) → 0 < k → k < n → cause k → ⊥

pub first : (cause : ℕ → Type 0) → NoneBelow cause 1
first cause k some lt c = omega (arith, some, lt)

pub one_more : (cause : ℕ → Type 0) (n : ℕ) → NoneBelow cause n → (cause n → ⊥) → NoneBelow cause (suc n)
one_more cause n below none k some lt c = by (cases_order k n)
  where
    by : (k ≡ n) ⊎ ((k < n) ⊎ (n < k)) → ⊥
    by (inl e) = none (subst cause e c)
    by (inr (inl less)) = below k some less c
    by (inr (inr more)) = omega (arith, lt, more)

-- ---- stages

module _ (w : Tests) (cause : ℕ → Type 0) where
  -- the instantiations of a property are just those that agree with the bindings; each of these variables is bound, none twice; and no
  -- cause before this one holds
  pub record Reached (P : Instance → Type 0) (vs : List Variable) (n : ℕ) (τ : Bindings) : Type 0 where
    pub none_below : NoneBelow cause n
    pub once : BoundOnce w τ
    pub bound : AllBound vs τ
    pub has : (σ : Instance) → Agrees σ τ → P σ
    pub agrees : (σ : Instance) → P σ → Agrees σ τ

  module _ (Admitted : Instance → Type 0) where
    -- a refusal is for the least cause, and no instantiation is admitted then
    abbrev pub IsRefusal : Bad → Type 0
    IsRefusal b = IsCaused cause b × ((σ : Instance) → Admitted σ → ⊥)

    abbrev pub Leads : (Instance → Type 0) → List Variable → ℕ → Outcome → Type 0
    Leads P vs n (Refuses b) = IsRefusal b
    Leads P vs n (Goes τ) = Reached P vs n τ

    pub go_on : (P Q : Instance → Type 0) (vs us : List Variable) (n m : ℕ) (o : Outcome) (k : Bindings → Outcome) → Leads P vs n o → ((τ : Bindings) → Reached P vs n τ → Leads Q us m (k τ)) → Leads Q us m (and_then o k)
    go_on P Q vs us n m (Refuses b) k h f = h
    go_on P Q vs us n m (Goes τ) k h f = f τ h

    -- of an equal property
    pub alike_leads : (P Q : Instance → Type 0) (vs : List Variable) (n : ℕ) (o : Outcome) → ((σ : Instance) → P σ → Q σ) → ((σ : Instance) → Q σ → P σ) → Leads P vs n o → Leads Q vs n o
    alike_leads P Q vs n (Refuses b) f g h = h
    alike_leads P Q vs n (Goes τ) f g h = record { none_below = h.none_below; once = h.once; bound = h.bound; has = λ σ a. f σ (h.has σ a); agrees = λ σ q. h.agrees σ (g σ q) }

    pub where_so : (Q : Instance → Type 0) (us : List Variable) (m : ℕ) (b : Bad) (c : Bool) (o : Outcome) → (c ≡ false → IsRefusal b) → (c ≡ true → Leads Q us m o) → Leads Q us m (provided b c o)
    where_so Q us m b true o f g = g refl
    where_so Q us m b false o f g = f refl

    -- an exact answer
    pub goes : (Q : Instance → Type 0) (us : List Variable) (m : ℕ) (b : Bad) (o : Option Bindings)
        → ((σ : Instance) → (Q σ → Within σ o) × (Within σ o → Q σ))
        → IfSome o (BoundOnce w) → IfSome o (AllBound us)
        → (((σ : Instance) → Q σ → ⊥) → IsCaused cause b) → ((σ : Instance) → Q σ → NoneBelow cause m) → ((σ : Instance) → Admitted σ → Q σ)
        → Leads Q us m (going b o)
    goes Q us m b None exact once bound refused past admitted = (refused (λ σ q. (exact σ).0 q), λ σ a. (exact σ).0 (admitted σ a))
    goes Q us m b (Some υ) exact once bound refused past admitted = record {
      none_below = past (chosen w υ) ((exact (chosen w υ)).1 (chosen_agrees w υ once));
      once = once;
      bound = bound;
      has = λ σ a. (exact σ).1 a;
      agrees = λ σ q. (exact σ).0 q;
    }
