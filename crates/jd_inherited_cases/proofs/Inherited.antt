-- Between a class that sees a method and the one that declares it no class has a method of the name.
use Rattle.std.proofs.Common.{◌≡◌, inl, inr, ℕ, zero, suc, ◌<◌, Bool, true, false, not, cond, List, [], ◌∷◌, ◌++◌, length, Option, Some, None, MatchOption, refl, sym, ap, subst, ◌∙◌, arith, slice_get, flat_map, append-nil}
use Rattle.std.specs.List.{Contains, slice_index_or}
use Rattle.std.proofs.lemmas.Grind.{flat_map-append}
use Rattle.std.proofs.lemmas.Option.{same_Some, none-some}
use mathlib.Core.List.{reverse-cons}
use Rattle.jd_ancestry.specs.Ancestors.{Above}
use Rattle.jd_ancestry.specs.Ancestors.Above.{above_child, above_parent}
use Rattle.jd_ancestry.specs.Laws.{AboveIsTransitive}
use Rattle.jd_syntax.specs.JavaTrees.{JavaUnit}
use Rattle.jd_jclasses.specs.Classes.{IsSubclass, parents}
use Rattle.jd_jclasses.specs.Members.{Declared, Kind, FieldOf, ConstantOf, RoutineOf, builds, is_constructor, is_method}
use Rattle.jd_jclasses.specs.Methods.{Declares, IsSeen, SeesNone, routines}
use Rattle.jd_jclasses.specs.Refusals.{AreClasses}
use Rattle.jd_jseen.specs.Laws.{ParentsAreClasses}
use Rattle.jd_classes.specs.Fields.IsLineage.{extends}
use Rattle.jd_classes.proofs.NoCycle.{no_cycle}
use Rattle.jd_bodies.specs.Declarations.{AreDeclarations, Declarations}
use Rattle.jd_programs.specs.Cases.{contracts_in, written_at}
use Rattle.jd_programs.specs.Members.{declared_as, declared_static, firsts, members_along, methods_seen, name_of, routine_name}
use Rattle.jd_jml_cases.specs.Cases.{lineage}
use Rattle.jd_jml_cases.specs.Laws.{LineagesAreClassesUp}
use Rattle.jd_declared.proofs.Lists.{In, in_filter_map}
use Rattle.jd_program_laws.proofs.Members.{declared_there, declares}
use Rattle.jd_inherited_cases.proofs.Lineages.{has_lineage}

-- ---- lists

nothing : {X : Type 0} (xs : List X) → ((x : X) → In x xs → ⊥) → xs ≡ []
nothing [] none = refl
nothing (x ∷ xs) none = absurd (none x (inl refl))

contained : {X : Type 0} (xs : List X) (i : ℕ) (x : X) → i < length xs → slice_index_or xs i x ≡ x → In x xs
contained [] i x lt is = absurd (omega (arith, lt))
contained (y ∷ ys) zero x lt is = inl (sym is)
contained (y ∷ ys) (suc i) x lt is = inr (contained ys i x (omega (arith, lt)) is)

no_constructor : (k : Kind) → is_method k ≡ true → is_constructor k ≡ false
no_constructor (FieldOf t) e = refl
no_constructor (ConstantOf n) e = refl
no_constructor (RoutineOf m) e = by (builds m.result) e
  where
    by : (b : Bool) → not b ≡ true → b ≡ false
    by true h = absurd cc
    by false h = refl

module _ (units : List JavaUnit) (d : Declarations) (are : AreDeclarations units d) where
  -- ---- what a class sees

  seen_by : (c : ℕ) (name : List ℕ) (m : ℕ) (o : Option ℕ) → MatchOption o (SeesNone units c name) (IsSeen units c name) → o ≡ Some m → IsSeen units c name m
  seen_by c name m None h e = absurd (none-some m e)
  seen_by c name m (Some n) h e = subst (IsSeen units c name) (same_Some n m e) h

  record Method (c m : ℕ) (r : Declared) : Type 0 where
    method : is_method r.kind ≡ true
    up : IsSubclass units c r.class
    nearest : (other n : ℕ) → IsSubclass units c other → Declares units other (routine_name units m) n → IsSubclass units r.class other

  of_seen : (c : ℕ) (name : List ℕ) (m : ℕ) (r : Declared) → slice_get (routines units) m ≡ Some r → IsSeen units c name m → Method c m r
  of_seen c name m r there s =
      let named : routine_name units m ≡ name = ap name_of s.declared.there ∙ s.declared.holds.2 in
      let same : s.declared.routine ≡ r = same_Some s.declared.routine r (sym s.declared.there ∙ there) in
      let class : s.owner ≡ r.class = sym s.declared.holds.1 ∙ ap (λ (x : Declared). x.class) same in
      record {
        method = sym (ap (λ (x : Declared). is_method x.kind) same) ∙ s.declared.holds.0;
        up = subst (IsSubclass units c) class s.inherited;
        nearest = λ other n below has. subst (λ k. IsSubclass units k other) class (s.nearest other n below (subst (λ x. Declares units other x n) named has));
      }

  method_of : (c m : ℕ) → Contains (methods_seen units (lineage units) d c) m → (r : Declared) → slice_get (routines units) m ≡ Some r → Method c m r
  method_of c m has r there =
      let in_ = contained (methods_seen units (lineage units) d c) has.0 m has.1 has.2 in
      let made = in_filter_map (λ n. d.method c (routine_name units n)) (firsts units [] (members_along units (lineage units) c)) m in_ in
      of_seen c (routine_name units made.from) m r there
      (seen_by c (routine_name units made.from) m (d.method c (routine_name units made.from)) (are.methods_ c (routine_name units made.from)) made.gives)

  pub method_seen : (c m : ℕ) → Contains (methods_seen units (lineage units) d c) m → (r : Declared) → slice_get (routines units) m ≡ Some r → (is_constructor r.kind ≡ false) × IsSubclass units c r.class
  method_seen c m has r there = let s = method_of c m has r there in (no_constructor r.kind s.method, s.up)

  module _ (transitive : AboveIsTransitive) (nodes : ParentsAreClasses) (law : LineagesAreClassesUp) (stand : AreClasses units) where
    abbrev ps : List (Option ℕ)
    ps = parents units

    -- ---- along a lineage

    one_class_more : (c p : ℕ) → slice_get ps c ≡ Some (Some p) → lineage units c ≡ lineage units p ++ c ∷ []
    one_class_more c p e =
        let l = has_lineage ps (no_cycle units stand.classes) (nodes units) p (nodes units p c e) in
        law units stand c (c ∷ l.0) (extends p c l.0 e l.1)
        ∙ reverse-cons c l.0
        ∙ ap (λ x. x ++ c ∷ []) (sym (law units stand p l.0 l.1))

    nothing_more : (f : ℕ → List ℕ) (c p : ℕ) → slice_get ps c ≡ Some (Some p) → f c ≡ [] → flat_map f (lineage units c) ≡ flat_map f (lineage units p)
    nothing_more f c p e none =
        ap (flat_map f) (one_class_more c p e)
        ∙ flat_map-append f (lineage units p) (c ∷ [])
        ∙ ap (λ x. flat_map f (lineage units p) ++ (x ++ [])) none
        ∙ append-nil (flat_map f (lineage units p))

    one_up : (c b other : ℕ) → slice_get ps c ≡ Some (Some b) → IsSubclass units b other → IsSubclass units c other
    one_up c b other e (inl same) = inr (subst (λ x. Above ps x c) same (above_child b c e))
    one_up c b other e (inr above) = inr (above_parent other b c e above)

    -- where no class between has any, a class has what the one above it has
    between : (f : ℕ → List ℕ) (a c : ℕ) → Above ps a c → ((b : ℕ) → IsSubclass units c b → Above ps a b → f b ≡ []) → flat_map f (lineage units c) ≡ flat_map f (lineage units a)
    between f a c (above_child _ _ e) none = nothing_more f c a e (none c (inl refl) (above_child a c e))
    between f a c (above_parent _ b _ e up) none =
        nothing_more f c b e (none c (inl refl) (above_parent a b c e up))
        ∙ between f a b up (λ k below above. none k (one_up c b k e below) above)

    -- ---- methods of the name

    no_method : (c m : ℕ) (r : Declared) → Method c m r → (b : ℕ) → IsSubclass units c b → Above ps r.class b → declared_as units (routine_name units m) b ≡ []
    no_method c m r s b below above = nothing (declared_as units (routine_name units m) b) (λ n in_. refute (nearer n in_))
      where
        nearer : (n : ℕ) → In n (declared_as units (routine_name units m) b) → IsSubclass units r.class b
        nearer n in_ =
            let o = declared_there units b m n in_ in
            s.nearest b n below (subst (λ x. Declares units b x n) o.1 (declares units b n o.0))

        refute : IsSubclass units r.class b → ⊥
        refute (inl same) = no_cycle units stand.classes b (subst (λ x. Above ps x b) same above)
        refute (inr back) = no_cycle units stand.classes b (transitive ps b r.class b back above)

    along : (c m : ℕ) (r : Declared) → Method c m r → IsSubclass units c r.class → flat_map (declared_as units (routine_name units m)) (lineage units c) ≡ flat_map (declared_as units (routine_name units m)) (lineage units r.class)
    along c m r s (inl same) = ap (λ x. flat_map (declared_as units (routine_name units m)) (lineage units x)) same
    along c m r s (inr above) = between (declared_as units (routine_name units m)) r.class c above (no_method c m r s)

    pub inherited_are_those : (c m : ℕ) → Contains (methods_seen units (lineage units) d c) m → (r : Declared) → slice_get (routines units) m ≡ Some r → contracts_in units (lineage units) d c m ≡ contracts_in units (lineage units) d r.class m
    inherited_are_those c m has r there =
        let s = method_of c m has r there in
        ap (λ ns. cond (declared_static (slice_get (routines units) m)) (written_at units (lineage units) d m) (flat_map (written_at units (lineage units) d) ns)) (along c m r s s.up)
