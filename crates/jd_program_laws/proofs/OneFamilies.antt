-- The numbers of a program's families are one, and so is what reaches what.
use Rattle.std.proofs.Common.{◌≡◌, ◌⊎◌, inl, inr, ⊎_elim, ◌<◌, ◌≤◌, ℕ, zero, suc, Bool, true, List, length, Some, refl, sym, subst, ◌∙◌, arith}
use Rattle.std.specs.List.{slice_get}
use Rattle.std.proofs.lemmas.Bool.{cases_eq, cases_order}
use Rattle.std.proofs.lemmas.Option.{slice_get_cases, slice_get_within}
use Rattle.jd_reach.specs.Paths.{ReachesBy}
use Rattle.jd_reach.specs.Paths.ReachesBy.{reaches_by_edge, reaches_itself}
use Rattle.jd_syntax.specs.JavaTrees.{JavaUnit}
use Rattle.jd_jclasses.specs.CallGraph.{AreFamilyCalls, Calls, FamilyCalls}
use Rattle.jd_jclasses.specs.CallGraph.Calls.{unwritten, written}
use Rattle.jd_jclasses.specs.CallGraph.CountsFor.{by_name, by_new, by_super}
use Rattle.jd_jclasses.specs.Members.{Declared}
use Rattle.jd_jclasses.specs.Methods.{AreFamilies, IsFirst, SameFamily, routines}

-- ---- numbers of families

module _ (units : List JavaUnit) where
  abbrev size : ℕ
  size = length (routines units)

  there : (m : ℕ) → m < size → (r : Declared) × (slice_get (routines units) m ≡ Some r)
  there m lt = ⊎_elim (λ h. (h.0, h.2)) (λ h. absurd (let le = h.0 in omega (arith, le, lt))) (slice_get_cases (routines units) m).1

  module _ (count : ℕ) (f : ℕ → ℕ) (are : AreFamilies units count f) where
    of_family : (m n : ℕ) → m < size → n < size → f m ≡ f n → SameFamily units m n
    of_family m n a b e = let r = there m a in let s = there n b in (are.same m n r.0 s.0 r.1 s.1).0 e

    one_of_family : (m n : ℕ) → m < size → n < size → SameFamily units m n → f m ≡ f n
    one_of_family m n a b e = let r = there m a in let s = there n b in (are.same m n r.0 s.0 r.1 s.1).1 e

    bounded : (m : ℕ) → m < size → f m < count
    bounded m a = let r = there m a in are.below m r.0 r.1

    rising : (m n : ℕ) → m < size → n < size → IsFirst units m → IsFirst units n → m < n → f m < f n
    rising m n a b i j lt = let r = there m a in let s = there n b in are.ordered m n r.0 s.0 r.1 s.1 i j lt

    -- the first routine of a family
    record First (v : ℕ) : Type 0 where
      number : ℕ
      inside : number < size
      is_first : IsFirst units number
      family : f number ≡ v

    search : (v k : ℕ) → k ≤ size → First v ⊎ ((n : ℕ) → n < k → f n ≡ v → ⊥)
    search v zero le = inr (λ n lt e. absurd (omega (arith, lt)))
    search v (suc k) le = by (search v k (omega (arith, le))) (cases_eq (f k) v)
      where
        inside : k < size
        inside = omega (arith, le)

        last : ((n : ℕ) → n < k → f n ≡ v → ⊥) → (f k ≡ v → ⊥) → (n : ℕ) → n < suc k → (n ≡ k) ⊎ ((n < k) ⊎ (k < n)) → f n ≡ v → ⊥
        last none other n lt (inl same) e = other (subst (λ x. f x ≡ v) same e)
        last none other n lt (inr (inl less)) e = none n less e
        last none other n lt (inr (inr more)) e = absurd (omega (arith, lt, more))

        by : First v ⊎ ((n : ℕ) → n < k → f n ≡ v → ⊥) → (f k ≡ v) ⊎ (f k ≡ v → ⊥) → First v ⊎ ((n : ℕ) → n < suc k → f n ≡ v → ⊥)
        by (inl h) d = inl h
        by (inr none) (inl e) = inl (record { number = k; inside = inside; is_first = λ n lt same. none n lt (one_of_family n k (omega (arith, lt, inside)) inside same ∙ e); family = e })
        by (inr none) (inr other) = inr (λ n lt. last none other n lt (cases_order n k))

    first_of : (m : ℕ) → m < size → First (f m)
    first_of m lt = ⊎_elim (λ h. h) (λ none. absurd (none m lt refl)) (search (f m) size (omega arith))

    first_in : (v : ℕ) → v < count → First v
    first_in v lt =
        let r = are.each v lt in
        subst First r.1.holds (first_of r.0 (slice_get_within (routines units) r.0 r.1.routine r.1.there))

  -- of two first routines of one family neither is before the other
  same_first : (m n : ℕ) → IsFirst units m → IsFirst units n → SameFamily units m n → SameFamily units n m → m ≡ n
  same_first m n i j e g = by (cases_order m n)
    where
      by : (m ≡ n) ⊎ ((m < n) ⊎ (n < m)) → m ≡ n
      by (inl same) = same
      by (inr (inl less)) = absurd (j m less e)
      by (inr (inr more)) = absurd (i n more g)

  abbrev Alike : (ℕ → ℕ) → (ℕ → ℕ) → ℕ → Type 0
  Alike f g v = (m : ℕ) → m < size → IsFirst units m → (f m ≡ v → g m ≡ v) × (g m ≡ v → f m ≡ v)

  module _ (count : ℕ) (f : ℕ → ℕ) (are : AreFamilies units count f) (count' : ℕ) (g : ℕ → ℕ) (are' : AreFamilies units count' g) where
    step : (v : ℕ) → ((u : ℕ) → u < v → Alike f g u) → (m : ℕ) → m < size → IsFirst units m → f m ≡ v → g m ≡ v
    step v below m lt first e = by (cases_order (g m) v)
      where
        -- the routine whose number is v by the other numbering
        beyond : v < g m → (k : First count' g are' v) → (f k.number ≡ v) ⊎ ((f k.number < v) ⊎ (v < f k.number)) → g m ≡ v
        beyond more k (inl same) =
            subst (λ x. g x ≡ v)
            (same_first k.number m k.is_first first (of_family count f are k.number m k.inside lt (same ∙ sym e)) (of_family count f are m k.number lt k.inside (e ∙ sym same))) k.family
        beyond more k (inr (inl less)) = let h = (below (f k.number) less k.number k.inside k.is_first).0 refl in let at = k.family in absurd (omega (arith, h, at, less))
        beyond more k (inr (inr high)) = ordered (cases_order m k.number)
          where
            ordered : (m ≡ k.number) ⊎ ((m < k.number) ⊎ (k.number < m)) → g m ≡ v
            ordered (inl same) = subst (λ x. g x ≡ v) (sym same) k.family
            ordered (inr (inl before)) = let h = rising count' g are' m k.number lt k.inside first k.is_first before in let at = k.family in absurd (omega (arith, h, at, more))
            ordered (inr (inr after)) = let h = rising count f are k.number m k.inside lt k.is_first first after in absurd (omega (arith, h, high, e))

        by : (g m ≡ v) ⊎ ((g m < v) ⊎ (v < g m)) → g m ≡ v
        by (inl same) = same
        by (inr (inl less)) = let h = (below (g m) less m lt first).1 refl in absurd (omega (arith, h, less, e))
        by (inr (inr more)) = let high = bounded count' g are' m lt in let k = first_in count' g are' v (omega (arith, more, high)) in beyond more k (cases_order (f k.number) v)

  module _ (count : ℕ) (f : ℕ → ℕ) (are : AreFamilies units count f) (count' : ℕ) (g : ℕ → ℕ) (are' : AreFamilies units count' g) where
    alike : (fuel v : ℕ) → v < fuel → Alike f g v
    alike zero v lt m inside first = absurd (omega (arith, lt))
    alike (suc fuel) v lt m inside first =
        let below : (u : ℕ) → u < v → Alike f g u = λ u less. alike fuel u (omega (arith, lt, less)) in
        (step count f are count' g are' v below m inside first, step count' g are' count f are v (λ u less n i j. let h = below u less n i j in (h.1, h.0)) m inside first)

    -- a routine has one number
    pub one_number : (m : ℕ) → m < size → f m ≡ g m
    one_number m lt =
        let k = first_of count f are m lt in
        let tied = of_family count f are k.number m k.inside lt k.family in
        sym ((alike (suc (f m)) (f m) (omega arith) k.number k.inside k.is_first).0 k.family)
        ∙ one_of_family count' g are' k.number m k.inside lt tied

    no_fewer : count < count' → ⊥
    no_fewer lt =
        let k = first_in count' g are' count lt in
        let high = bounded count f are k.number k.inside in
        let same = one_number k.number k.inside in
        let at = k.family in
        absurd (omega (arith, high, same, at))

  pub one_count : (count : ℕ) (f : ℕ → ℕ) → AreFamilies units count f → (count' : ℕ) (g : ℕ → ℕ) → AreFamilies units count' g → count ≡ count'
  one_count count f are count' g are' = by (cases_order count count')
    where
      by : (count ≡ count') ⊎ ((count < count') ⊎ (count' < count)) → count ≡ count'
      by (inl same) = same
      by (inr (inl less)) = absurd (no_fewer count f are count' g are' less)
      by (inr (inr more)) = absurd (no_fewer count' g are' count f are more)

  -- ---- calls

  -- a routine calls routines
  pub ends : (m n : ℕ) → Calls units m n → (r : Declared) × (slice_get (routines units) m ≡ Some r) × (s : Declared) × (slice_get (routines units) n ≡ Some s)
  ends m n (written caller c there among (by_name name at)) = (caller, there, at.routine, at.there)
  ends m n (written caller c there among (by_new name class named for)) = (caller, there, for.declared.routine, for.declared.there)
  ends m n (written caller c there among (by_super above)) = (caller, there, above.runs.declared.routine, above.runs.declared.there)
  ends m n (unwritten caller there is none above) = (caller, there, above.runs.declared.routine, above.runs.declared.there)

  calls_too : (f g : ℕ → ℕ) → ((m : ℕ) → m < size → f m ≡ g m) → (a b : ℕ) → FamilyCalls units f a b → FamilyCalls units g a b
  calls_too f g same a b c =
      let e = ends c.m c.n c.calls in
      record {
        m = c.m;
        n = c.n;
        of_one = sym (same c.m (slice_get_within (routines units) c.m e.0 e.1)) ∙ c.of_one;
        of_other = sym (same c.n (slice_get_within (routines units) c.n e.2 e.3)) ∙ c.of_other;
        calls = c.calls;
      }

  edges_too : (f g : ℕ → ℕ) → ((m : ℕ) → m < size → f m ≡ g m) → (calls calls' : ℕ → ℕ → Bool) → AreFamilyCalls units f calls → AreFamilyCalls units g calls' → (a b : ℕ) → calls a b ≡ true → calls' a b ≡ true
  edges_too f g same calls calls' are are' a b e = (are' a b).1 (calls_too f g same a b ((are a b).0 e))

  reached_by : (calls calls' : ℕ → ℕ → Bool) → ((a b : ℕ) → calls a b ≡ true → calls' a b ≡ true) → (a b : ℕ) → ReachesBy calls a b → ReachesBy calls' a b
  reached_by calls calls' more a _ (reaches_itself _) = reaches_itself a
  reached_by calls calls' more a b (reaches_by_edge _ c _ e rest) = reaches_by_edge a c b (more a c e) (reached_by calls calls' more c b rest)

  -- what is reached by calls is reached by them under any numbers of families
  pub reached_too : (f g : ℕ → ℕ) → ((m : ℕ) → m < size → f m ≡ g m) → (calls calls' : ℕ → ℕ → Bool) → AreFamilyCalls units f calls → AreFamilyCalls units g calls' → (a b : ℕ) → ReachesBy calls a b → ReachesBy calls' a b
  reached_too f g same calls calls' are are' a b = reached_by calls calls' (edges_too f g same calls calls' are are') a b
