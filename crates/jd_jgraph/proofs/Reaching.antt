-- The edges of the calls of all members are those of the families.
use Rattle.std.proofs.Common.{◌≡◌, ◌⊎◌, ℕ, zero, suc, Bool, true, false, cond, List, [], ◌∷◌, length, Some, slice_index, refl, sym, ap, ◌∙◌, subst, inl, inr, arith}
use Rattle.std.specs.Bool.{Decides}
use Rattle.std.specs.List.{Contains, slice_get}
use Rattle.std.proofs.lemmas.List.Elements.{Contains-append_cases, Contains-append_left, Contains-append_right}
use Rattle.std.proofs.lemmas.Option.{same_Some, slice_get_within}
use Rattle.jd_ancestry.specs.Laws.{AboveIsTransitive}
use Rattle.jd_reach.specs.Paths.{ReachesBy}
use Rattle.jd_reach.specs.Paths.ReachesBy.{reaches_itself, reaches_by_edge}
use Rattle.jd_syntax.specs.JavaTrees.{JavaUnit}
use Rattle.jd_jcalls.specs.Called.{PlainCalled, MethodNamed, ConstructorOf, ConstructorAbove}
use Rattle.jd_jclasses.specs.CallGraph.{AreFamilyCalls, Calls, FamilyCalls, calls_in}
use Rattle.jd_jclasses.specs.CallGraph.Calls.{unwritten, written}
use Rattle.jd_jclasses.specs.CallGraph.CountsFor.{by_super}
use Rattle.jd_jclasses.specs.Members.{Declared, declared_members, is_constructor}
use Rattle.jd_jclasses.specs.Methods.{routines}
use Rattle.jd_jclasses.specs.Refusals.{AreClasses}
use Rattle.jd_jseen.specs.Laws.{MembersAreRoutines, ParentsAreClasses, RoutinesAreMembers}
use Rattle.jd_jseen.specs.Own.{routines_before}
use Rattle.jd_jgraph.specs.Callees.{Lookup, called_by, implied, reached, reached_by}
use Rattle.jd_jgraph.specs.Edges.{IsCalledFrom}
use Rattle.jd_jgraph.proofs.Counting.{IsLookup, counts_back, counts_forth, super_back, super_forth}

-- ---- elements of lists

in_none : {X : Type 0} (x : X) → Contains [] x → ⊥
in_none x c = absurd (omega (arith, c.1))

first_or_later : {X : Type 0} (x y : X) (xs : List X) → Contains (x ∷ xs) y → (x ≡ y) ⊎ Contains xs y
first_or_later x y xs (zero, lt, e) = inl e
first_or_later x y xs (suc k, lt, e) = inr (k, omega (arith, lt), e)

later : {X : Type 0} (x y : X) (xs : List X) → Contains xs y → Contains (x ∷ xs) y
later x y xs c = (suc c.0, omega (arith, c.1), c.2)

-- whether a call of a constructor above is among them
is_above : (c : PlainCalled) → (c ≡ ConstructorAbove) ⊎ (c ≡ ConstructorAbove → ⊥)
is_above (MethodNamed name) = inr (λ e. absurd cc)
is_above (ConstructorOf name) = inr (λ e. absurd cc)
is_above ConstructorAbove = inl refl

has_above : (cs : List PlainCalled) → Contains cs ConstructorAbove ⊎ (Contains cs ConstructorAbove → ⊥)
has_above [] = inr (in_none ConstructorAbove)
has_above (c ∷ cs) = by (is_above c) (has_above cs)
  where
    by : (c ≡ ConstructorAbove) ⊎ (c ≡ ConstructorAbove → ⊥) → Contains cs ConstructorAbove ⊎ (Contains cs ConstructorAbove → ⊥) → Contains (c ∷ cs) ConstructorAbove ⊎ (Contains (c ∷ cs) ConstructorAbove → ⊥)
    by (inl e) o = inl (0, omega arith, e)
    by (inr not) (inl behind) = inl (later c ConstructorAbove cs behind)
    by (inr not) (inr none) =
        inr (λ h. elim (first_or_later c ConstructorAbove cs h) [
          | inl e ↦ not e
          | inr behind ↦ none behind
        ])

-- ---- what the calls reach is what one of them reaches

one_reaches : (l : Lookup) (class f : ℕ) (cs : List PlainCalled) → Contains (reached_by l class cs) f → (c : PlainCalled) × Contains cs c × Contains (reached l class c) f
one_reaches l class f [] h = absurd (in_none f h)
one_reaches l class f (c ∷ cs) h =
    elim (Contains-append_cases (reached l class c) (reached_by l class cs) f h) [
      | inl here ↦ (c, (0, omega arith, refl), here)
      | inr behind ↦ let r = one_reaches l class f cs behind in (r.0, later c r.0 cs r.1, r.2)
    ]

all_reach : (l : Lookup) (class f : ℕ) (c : PlainCalled) (cs : List PlainCalled) → Contains cs c → Contains (reached l class c) f → Contains (reached_by l class cs) f
all_reach l class f c [] among h = absurd (in_none c among)
all_reach l class f c (d ∷ ds) among h =
    elim (first_or_later d c ds among) [
      | inl same ↦ Contains-append_left (reached l class d) (reached_by l class ds) f (subst (λ (x : PlainCalled). Contains (reached l class x) f) (sym same) h)
      | inr behind ↦ Contains-append_right (reached l class d) (reached_by l class ds) f (all_reach l class f c ds behind h)
    ]

implies : (b : Bool) (xs : List ℕ) (f : ℕ) → Contains (cond b xs []) f → (b ≡ true) × Contains xs f
implies true xs f h = (refl, h)
implies false xs f h = absurd (in_none f h)

implied_by : (b : Bool) (xs : List ℕ) (f : ℕ) → b ≡ true → Contains xs f → Contains (cond b xs []) f
implied_by true xs f e h = h
implied_by false xs f e h = absurd cc

module _ (transitive : AboveIsTransitive) (law : RoutinesAreMembers) (back_law : MembersAreRoutines) (nodes : ParentsAreClasses) (units : List JavaUnit) (are : AreClasses units) (numbers : List ℕ) (l : Lookup) (is : IsLookup units numbers l) where
  -- ---- a routine

  module _ (m : ℕ) (r : Declared) (there : slice_get (routines units) m ≡ Some r) where
    abbrev CallsIn : ℕ → Type 0
    CallsIn f = (n : ℕ) × Calls units m n × (slice_index l.families n ≡ f)

    calls_forth : (f : ℕ) → Contains (called_by l r) f → CallsIn f
    calls_forth f h = by (Contains-append_cases (reached_by l r.class (calls_in r.kind)) (implied l r) f h)
      where
        by : Contains (reached_by l r.class (calls_in r.kind)) f ⊎ Contains (implied l r) f → CallsIn f
        by (inl some) =
            let c = one_reaches l r.class f (calls_in r.kind) some in
            let n = counts_forth transitive law back_law nodes units are numbers l is r c.0 f c.2 in
            (n.0, written r c.0 there c.1 n.1, n.2)
        by (inr above) =
            let b = implies (is_constructor r.kind) (reached l r.class ConstructorAbove) f above in
            let n = super_forth transitive law back_law nodes units are numbers l is r.class f b.1 in
            elim (has_above (calls_in r.kind)) [
              | inl some ↦ (n.0, written r ConstructorAbove there some (by_super n.1), n.2)
              | inr none ↦ (n.0, unwritten r there b.0 none n.1, n.2)
            ]

    calls_back : (f n : ℕ) → Calls units m n → slice_index l.families n ≡ f → Contains (called_by l r) f
    calls_back f n (written caller c here among counts) of =
        let same : caller ≡ r = same_Some caller r (sym here ∙ there) in
        subst (λ (x : Declared). Contains (called_by l x) f) same
        (Contains-append_left (reached_by l caller.class (calls_in caller.kind)) (implied l caller) f
        (all_reach l caller.class f c (calls_in caller.kind) among (counts_back transitive law back_law nodes units are numbers l is caller c f n counts of)))
    calls_back f n (unwritten caller here built none above) of =
        let same : caller ≡ r = same_Some caller r (sym here ∙ there) in
        subst (λ (x : Declared). Contains (called_by l x) f) same
        (Contains-append_right (reached_by l caller.class (calls_in caller.kind)) (implied l caller) f
        (implied_by (is_constructor caller.kind) (reached l caller.class ConstructorAbove) f built (super_back transitive law back_law nodes units are numbers l is caller.class f n above of)))

  -- ---- families

  abbrev FamilyEdge : ℕ → ℕ → Type 0
  FamilyEdge a b = FamilyCalls units (λ m. slice_index l.families m) a b

  caller_of : (m n : ℕ) → Calls units m n → (r : Declared) × (slice_get (routines units) m ≡ Some r)
  caller_of m n (written r c there among counts) = (r, there)
  caller_of m n (unwritten r there built none above) = (r, there)

  abbrev IsEdge : ℕ → ℕ → Type 0
  IsEdge a b = IsCalledFrom l (declared_members units) (length (declared_members units)) a b

  edge_forth : (a b : ℕ) → IsEdge a b → FamilyEdge a b
  edge_forth a b e =
      let m = routines_before (declared_members units) e.i in
      let n = calls_forth m e.member (back_law units e.i e.member e.there e.routine) b e.of_other in
      record { m = m; n = n.0; of_one = e.of_one; of_other = n.2; calls = n.1 }

  edge_back : (a b : ℕ) → FamilyEdge a b → IsEdge a b
  edge_back a b e =
      let r = caller_of e.m e.n e.calls in
      let i = law units e.m r.0 r.1 in
      record {
        i = i.0;
        before = slice_get_within (declared_members units) i.0 r.0 i.1;
        member = r.0;
        there = i.1;
        routine = i.2;
        of_one = ap (slice_index l.families) (sym i.3) ∙ e.of_one;
        of_other = calls_back e.m r.0 r.1 b e.n e.calls e.of_other;
      }

  -- ---- the graph

  along : (e f : ℕ → ℕ → Bool) → ((a b : ℕ) → e a b ≡ true → f a b ≡ true) → (a b : ℕ) → ReachesBy e a b → ReachesBy f a b
  along e f each a b (reaches_itself _) = reaches_itself a
  along e f each a b (reaches_by_edge _ c _ h r) = reaches_by_edge a c b (each a c h) (along e f each c b r)

  pub are_calls : (edges : ℕ → ℕ → Bool) → ((a b : ℕ) → Decides (edges a b) (IsEdge a b)) → AreFamilyCalls units (λ m. slice_index l.families m) edges
  are_calls edges are_edges a b = (
    λ e. edge_forth a b ((are_edges a b).0 e),
    λ c. (are_edges a b).1 (edge_back a b c),
  )

  pub reaches : (edges calls : ℕ → ℕ → Bool) → ((a b : ℕ) → Decides (edges a b) (IsEdge a b)) → AreFamilyCalls units (λ m. slice_index l.families m) calls → (new : Bool) (a b : ℕ) → Decides new (ReachesBy edges a b) → Decides new (ReachesBy calls a b)
  reaches edges calls are_edges are_calls new a b closed = (
    λ e. along edges calls (λ x y h. (are_calls x y).1 (edge_forth x y ((are_edges x y).0 h))) a b (closed.0 e),
    λ r. closed.1 (along calls edges (λ x y h. (are_edges x y).1 (edge_back x y ((are_calls x y).0 h))) a b r),
  )
