-- Each program that has tables has a meaning.
use Rattle.std.proofs.Common.{◌≡◌, ◌⊎◌, inl, inr, ⊎_elim, ◌<◌, ◌≤◌, ℕ, zero, suc, Bool, true, false, ◌&&◌, ◌||◌, cond, nat_eq, List, [], ◌∷◌, length, reverse, Option, Some, None, MatchOption, refl, sym, ap, subst, ◌∙◌, arith, slice_index}
use Rattle.std.specs.Prelude.{nat_lt}
use Rattle.std.specs.Bool.{Decides}
use Rattle.std.specs.List.{slice_get}
use Rattle.std.specs.Option.{option_and_then}
use Rattle.std.proofs.lemmas.Bool.{cases_lt}
use Rattle.std.proofs.lemmas.Bool.Decides.{nat_tests}
use Rattle.std.proofs.lemmas.List.{reverse-reverse}
use Rattle.std.proofs.lemmas.Option.{slice_get_within}
use Rattle.jd_ancestry.specs.Ancestors.{Above, AreNodes}
use Rattle.jd_ancestry.specs.Ancestors.Above.{above_child, above_parent}
use Rattle.jd_ancestry.specs.Depths.{IsDepths}
use Rattle.jd_reach.specs.Graphs.{edge}
use Rattle.jd_reach.specs.Paths.{ReachesBy}
use Rattle.jd_reach.specs.Paths.ReachesBy.{reaches_by_edge, reaches_itself}
use Rattle.jd_syntax.specs.JavaTypes.{PlainType}
use Rattle.jd_syntax.specs.JavaTrees.{JavaUnit}
use Rattle.jd_jclasses.specs.Classes.{parents}
use Rattle.jd_jclasses.specs.Members.{Declared, Kind, FieldOf, ConstantOf, RoutineOf}
use Rattle.jd_jclasses.specs.Methods.{IsSeen, SeesNone, fields, routines}
use Rattle.jd_jseen.specs.Laws.{MembersAreOfClasses, ParentsAreClasses, RoutinesAreMembers}
use Rattle.jd_classes.specs.Fields.{IsLineage}
use Rattle.jd_classes.specs.Fields.IsLineage.{extends, topmost}
use Rattle.jd_classes.specs.Tables.{AreTables, family_in}
use Rattle.jd_classes.specs.declared.classes.Classes.{Classes}
use Rattle.jd_model.specs.Programs as model
use Rattle.jd_bodies.specs.Declarations.{AreDeclarations, Declarations, type_by}
use Rattle.jd_jml_meaning.specs.JmlCases.{JmlProgram}
use Rattle.jd_specifications.specs.WrittenCases.{model_type}
use Rattle.jd_program_laws.proofs.OneFamilies.{ends}
use Rattle.jd_programs.specs.Cases.{all_cases}
use Rattle.jd_programs.specs.Programs.{HasClasses, IsProgram, body_of_declared, class_tree, declared_along, invariants_of_tree}

-- ---- lineages

-- a class and what it extends, over so many classes
abbrev line_above : (ℕ → List ℕ) → Option (Option ℕ) → List ℕ
line_above next None = []
line_above next (Some None) = []
line_above next (Some (Some p)) = next p

abbrev line : List (Option ℕ) → ℕ → ℕ → List ℕ
line ps zero c = []
line ps (suc n) c = c ∷ line_above (line ps n) (slice_get ps c)

beyond : {X : Type 0} (xs : List X) (i : ℕ) → slice_get xs i ≡ None → i < length xs → ⊥
beyond [] i none lt = absurd (omega (arith, lt))
beyond (x ∷ xs) zero none lt = absurd cc
beyond (x ∷ xs) (suc i) none lt = beyond xs i none (omega (arith, lt))

module _ (ps : List (Option ℕ)) (depths : List ℕ) (deep : IsDepths ps depths) (nodes : AreNodes ps) where
  is_line : (n c : ℕ) → c < length ps → slice_index depths c < n → IsLineage ps c (line ps n c)
  is_line zero c lt few = absurd (omega (arith, few))
  is_line (suc n) c lt few = by (slice_get ps c) refl (λ p e. let less = deep.below p c e in is_line n p (nodes p c e) (omega (arith, few, less)))
    where
      by : (o : Option (Option ℕ)) → slice_get ps c ≡ o → ((p : ℕ) → slice_get ps c ≡ Some (Some p) → IsLineage ps p (line ps n p)) → IsLineage ps c (c ∷ line_above (line ps n) o)
      by None is rest = absurd (beyond ps c is lt)
      by (Some None) is rest = topmost c is
      by (Some (Some p)) is rest = extends p c (line ps n p) is (rest p is)

below_lt : (a b : ℕ) → nat_lt a b ≡ true → a < b
below_lt a b e = grind (arith, nat_tests)

lt_below : (a b : ℕ) → a < b → nat_lt a b ≡ true
lt_below a b e = grind (arith, nat_tests)

not_below : (a b : ℕ) → b ≤ a → nat_lt a b ≡ false
not_below a b e = grind (arith, nat_tests)

equal : (a b : ℕ) → nat_eq a b ≡ true → a ≡ b
equal a b e = grind (arith, nat_tests)

itself : (a : ℕ) → nat_eq a a ≡ true
itself a = grind (arith, nat_tests)

-- ---- what a program is made of

abbrev type_of_kind : Declarations → Kind → model.ValueType
type_of_kind d (FieldOf t) = model_type d (type_by d.class_named t)
type_of_kind d (ConstantOf n) = model.IntType
type_of_kind d (RoutineOf m) = model.IntType

abbrev field_type_of : Declarations → Option Declared → model.ValueType
field_type_of d None = model.IntType
field_type_of d (Some f) = type_of_kind d f.kind

abbrev seen_of : Declarations → Bool → ℕ → Option Declared → Option ℕ
seen_of d true c (Some r) = d.method c r.name.name
seen_of d true c None = None
seen_of d false c o = None

module _ (law : ParentsAreClasses) (of_classes : MembersAreOfClasses) (members : RoutinesAreMembers) (units : List JavaUnit) (t : Classes) (tables : AreTables units t) (d : Declarations) (are : AreDeclarations units d) where
  abbrev count : ℕ
  count = length (parents units)

  abbrev depths : List ℕ
  depths = t.depths.items

  deep : IsDepths (parents units) depths
  deep = subst (λ ps. IsDepths ps depths) tables.parents_ tables.depths_

  abbrev superclasses : ℕ → List ℕ
  superclasses c = cond (nat_lt c count) (reverse (line (parents units) (suc (slice_index depths c)) c)) []

  abbrev family : ℕ → ℕ
  family m = family_in t.families.numbers.items m

  abbrev calls : ℕ → ℕ → Bool
  calls = tables.graph_.calls.0

  abbrev reaches : ℕ → ℕ → Bool
  reaches a b = nat_eq a b || (nat_lt a t.families.count && (nat_lt b t.families.count && edge t.graph a b))

  abbrev program : model.Program
  program = record {
    superclasses = superclasses;
    object = 0;
    throwable = 1;
    null_pointer = 4;
    arithmetic = 5;
    bounds = 9;
    cast = 8;
    negative_size = 7;
    field_type = λ f. field_type_of d (slice_get (fields units) f);
    has_field = λ c f. declared_along (superclasses c) (slice_get (fields units) f);
    lookup = λ c m. seen_of d (nat_lt c count) c (slice_get (routines units) m);
    body = λ m. option_and_then (body_of_declared d) (slice_get (routines units) m);
  }

  abbrev meaning : JmlProgram
  meaning = record {
    program = program;
    own = λ c. invariants_of_tree d c (class_tree units c);
    case = λ κ. slice_get (all_cases units superclasses d family) κ;
    families = t.families.count;
    reaches = reaches;
  }

  -- ---- classes

  lines : (c : ℕ) → c < count → IsLineage (parents units) c (reverse (superclasses c))
  lines c lt =
      let l = line (parents units) (suc (slice_index depths c)) c in
      subst (IsLineage (parents units) c) (sym (ap (λ b. reverse (cond b (reverse l) [])) (lt_below c count lt) ∙ reverse-reverse l))
      (is_line (parents units) depths deep (law units) (suc (slice_index depths c)) c lt (omega arith))

  classes : HasClasses units program
  classes = record {
    superclasses = lines;
    no_class = λ c le. ap (λ b. cond b (reverse (line (parents units) (suc (slice_index depths c)) c)) []) (not_below c count le);
    object = refl;
    throwable = refl;
    null_pointer = refl;
    arithmetic = refl;
    bounds = refl;
    cast = refl;
    negative_size = refl;
  }

  typed : (f : ℕ) (one : Declared) (k : PlainType) → slice_get (fields units) f ≡ Some one → one.kind ≡ FieldOf k → field_type_of d (slice_get (fields units) f) ≡ model_type d (type_by d.class_named k)
  typed f one k there kind = ap (field_type_of d) there ∙ ap (type_of_kind d) kind

  -- ---- methods

  -- a number that is no class's sees no method
  none_beyond : (c : ℕ) (name : List ℕ) → count ≤ c → SeesNone units c name
  none_beyond c name le owner m (inl same) has =
      let r = members units m has.routine has.there in
      let lt = of_classes units r.0 has.routine r.1 in
      let class = has.holds.1 in omega (arith, lt, le, same, class)
  none_beyond c name le owner m (inr above) has = let lt = inside above in omega (arith, lt, le)
    where
      inside : {a b : ℕ} → Above (parents units) a b → b < length (parents units)
      inside (above_child a b e) = slice_get_within (parents units) b (Some a) e
      inside (above_parent a b e f up) = slice_get_within (parents units) e (Some b) f

  found : (c m : ℕ) (r : Declared) → slice_get (routines units) m ≡ Some r → MatchOption (seen_of d (nat_lt c count) c (slice_get (routines units) m)) (SeesNone units c r.name.name) (IsSeen units c r.name.name)
  found c m r there = subst (λ o. MatchOption (seen_of d (nat_lt c count) c o) (SeesNone units c r.name.name) (IsSeen units c r.name.name)) (sym there) (by (cases_lt c count))
    where
      by : (c < count) ⊎ (count ≤ c) → MatchOption (seen_of d (nat_lt c count) c (Some r)) (SeesNone units c r.name.name) (IsSeen units c r.name.name)
      by (inl lt) = subst (λ b. MatchOption (seen_of d b c (Some r)) (SeesNone units c r.name.name) (IsSeen units c r.name.name)) (sym (lt_below c count lt)) (are.methods_ c r.name.name)
      by (inr le) = subst (λ b. MatchOption (seen_of d b c (Some r)) (SeesNone units c r.name.name) (IsSeen units c r.name.name)) (sym (not_below c count le)) (none_beyond c r.name.name le)

  not_found : (c m : ℕ) → slice_get (routines units) m ≡ None → seen_of d (nat_lt c count) c (slice_get (routines units) m) ≡ None
  not_found c m none = ap (seen_of d (nat_lt c count) c) none ∙ by (nat_lt c count)
    where
      by : (b : Bool) → seen_of d b c None ≡ None
      by true = refl
      by false = refl

  -- ---- families

  both : (a b : Bool) → a && b ≡ true → (a ≡ true) × (b ≡ true)
  both true b e = (refl, e)
  both false b e = absurd cc

  and_both : (a b : Bool) → a ≡ true → b ≡ true → a && b ≡ true
  and_both true b e f = f
  and_both false b e f = absurd cc

  either : (a b : Bool) → a || b ≡ true → (a ≡ true) ⊎ (b ≡ true)
  either true b e = inl refl
  either false b e = inr e

  first : (a b : Bool) → a ≡ true → a || b ≡ true
  first true b e = refl
  first false b e = absurd cc

  second : (a b : Bool) → b ≡ true → a || b ≡ true
  second true b e = refl
  second false b e = e

  -- what is called is a family of the program
  of_families : (a b : ℕ) → calls a b ≡ true → (a < t.families.count) × (b < t.families.count)
  of_families a b e =
      let f = (tables.graph_.calls.1 a b).0 e in
      let c = ends units f.m f.n f.calls in
      (subst (λ x. x < t.families.count) f.of_one (tables.families_.below f.m c.0 c.1), subst (λ x. x < t.families.count) f.of_other (tables.families_.below f.n c.2 c.3))

  reached : (a b : ℕ) → ReachesBy calls a b → (a ≡ b) ⊎ ((a < t.families.count) × (b < t.families.count))
  reached a b (reaches_itself _) = inl refl
  reached a b (reaches_by_edge _ c _ e rest) = let f = of_families a c e in ⊎_elim (λ same. inr (f.0, subst (λ x. x < t.families.count) same f.1)) (λ g. inr (f.0, g.1)) (reached c b rest)

  decides : (a b : ℕ) → Decides (reaches a b) (ReachesBy calls a b)
  decides a b = (forth, back)
    where
      forth : reaches a b ≡ true → ReachesBy calls a b
      forth e =
          ⊎_elim (λ same. subst (ReachesBy calls a) (equal a b same) (reaches_itself a))
          (λ h.
          let f = both (nat_lt a t.families.count) (nat_lt b t.families.count && edge t.graph a b) h in
          let g = both (nat_lt b t.families.count) (edge t.graph a b) f.1 in
          (tables.graph_.reaches calls tables.graph_.calls.1 a b (below_lt a t.families.count f.0) (below_lt b t.families.count g.0)).0 g.1)
          (either (nat_eq a b) (nat_lt a t.families.count && (nat_lt b t.families.count && edge t.graph a b)) e)

      back : ReachesBy calls a b → reaches a b ≡ true
      back r =
          ⊎_elim (λ same. first (nat_eq a b) _ (subst (λ x. nat_eq a x ≡ true) same (itself a)))
          (λ h. second (nat_eq a b) _ (and_both (nat_lt a t.families.count) _ (lt_below a t.families.count h.0)
          (and_both (nat_lt b t.families.count) _ (lt_below b t.families.count h.1) ((tables.graph_.reaches calls tables.graph_.calls.1 a b h.0 h.1).1 r))))
          (reached a b r)

  pub has_meaning : (j : JmlProgram) × IsProgram units j
  has_meaning = (
    meaning,
    record {
      declarations = d;
      are_declarations = are;
      family = family;
      are_families = tables.families_;
      calls = calls;
      are_calls = tables.graph_.calls.1;
      reaches = decides;
      classes = classes;
      fields_ = record { types = typed; no_type = λ f none. ap (field_type_of d) none; has_field = λ c f. refl };
      lookup = record { seen = found; none = not_found };
      bodies = λ m. refl;
      invariants_ = λ c. refl;
      cases = λ κ. refl;
    },
  )
