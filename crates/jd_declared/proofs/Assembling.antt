-- The tables answer as the program's files do.
use Rattle.std.proofs.Common.{◌≡◌, ◌⊎◌, ⊎_elim, ℕ, ◌+◌, ◌<◌, ◌≤◌, Bool, true, false, cond, nat_eq, List, [], ◌∷◌, length, map, Option, Some, None, is_some, option_map, refl, sym, ap, ap₂, subst, ◌∙◌, inl, inr, arith, slice_get, slice_index}
use Rattle.std.specs.Bool.{Decides}
use Rattle.std.specs.Option.{MatchOption, option_and_then, option_map_or}
use Rattle.std.proofs.lemmas.Bool.{cases_lt}
use Rattle.std.proofs.lemmas.Bool.Decides.{nat_tests}
use Rattle.std.proofs.lemmas.Option.{same_Some, none-some, slice_get-map, slice_get_cases, slice_get_past, slice_get_within}
use Rattle.jd_ancestry.specs.Ancestors.{Above, AreNodes}
use Rattle.jd_ancestry.specs.Ancestors.Above.{above_child, above_parent}
use Rattle.jd_ancestry.specs.Depths.{IsDepths}
use Rattle.jd_ancestry.specs.Walks.{parent_of}
use Rattle.jd_syntax.specs.JavaTypes.{PlainType}
use Rattle.jd_syntax.specs.JavaTrees.{JavaUnit}
use Rattle.jd_jclasses.specs.CallGraph.{DeclaresConstructor, IsConstructorFor}
use Rattle.jd_jclasses.specs.Classes.{IsSubclass, class_named, parents}
use Rattle.jd_jclasses.specs.Members.{Declared as Member, declared_members, is_field, parameter_types, result_of}
use Rattle.jd_jclasses.specs.Methods.{Declares, IsSeen, SeesNone, fields, routines}
use Rattle.jd_jclasses.specs.Refusals.{AreClasses}
use Rattle.jd_jinfos.specs.Infos.{PlainClassInfo, PlainMethodInfo, class_infos, method_info, method_infos, own_of}
use Rattle.jd_jseen.proofs.Nodes.{members_are_of_classes, parents_are_classes}
use Rattle.jd_jseen.proofs.Routines.{kept, routines_are_members}
use Rattle.jd_bodies.specs.Declarations.{AreDeclarations, Declarations, HasNoVariable, IsJoined, IsNearestCommon, IsVariableOf, RunsNoConstructor, no_signature, signature_at, signature_of, type_by, type_of}
use Rattle.jd_bodies.specs.Declarations.IsVariableOf.{a_constant, a_field}
use Rattle.jd_bodies.specs.declared.value.ValueType.{ValueType}
use Rattle.jd_bodies.specs.declared.value.Variable.{Variable}
use Rattle.jd_declared.specs.Named.{first_named, value_at}
use Rattle.jd_declared.specs.Owned.{methods_of, signature_by, variables_of}
use Rattle.jd_declared.specs.Told.{own_value, routine_view, signature_in, told}
use Rattle.jd_declared.specs.Walks.{it_is, meeting, nearest, steps}
use Rattle.jd_declared.specs.declared.declared.Declared.{Declared}
use Rattle.jd_declared.specs.declared.declared.Routine.{Routine}
use Rattle.jd_declared.proofs.Declaring.{constructor_found, method_found, no_constant, no_constructor, no_field, no_method, same_type, variable_found}
use Rattle.jd_declared.proofs.Listing.{as_many, own_at}
use Rattle.jd_declared.specs.declared.named.Named.{Named}
use Rattle.jd_declared.proofs.Meeting.{below_within, extends_top, meets, met_or_none}
use Rattle.jd_declared.proofs.Nearest.{Below, IsNearestOf, nearest_one, none_anywhere}
use Rattle.jd_declared.proofs.Rooted.{one_top}

-- ---- whether a class is another or extends it

found_itself : (b owner v : ℕ) → it_is b owner ≡ Some v → owner ≡ b
found_itself b owner v e = by (nat_eq owner b) refl e
  where
    by : (t : Bool) → nat_eq owner b ≡ t → cond t (Some owner) None ≡ Some v → owner ≡ b
    by true is h = grind (arith, nat_tests)
    by false is h = absurd (none-some v h)

is_itself : (b : ℕ) → it_is b b ≡ Some b
is_itself b = let same : nat_eq b b ≡ true = grind (arith, nat_tests) in ap (λ t. cond t (Some b) None) same

module _ (ps : List (Option ℕ)) (depths : List ℕ) (deep : IsDepths ps depths) where
  pub decides_below : (a b : ℕ) → Decides (is_some (nearest ps (it_is b) (steps depths a) a)) (Below ps a b)
  decides_below a b = (λ so. forth (nearest ps (it_is b) (steps depths a) a) refl so, λ below. back (nearest ps (it_is b) (steps depths a) a) refl below)
    where
      forth : (o : Option ℕ) → nearest ps (it_is b) (steps depths a) a ≡ o → is_some o ≡ true → Below ps a b
      forth None is so = absurd cc
      forth (Some v) is so =
          let r = nearest_one ps (it_is b) (steps depths a) a v is in
          subst (Below ps a) (found_itself b r.owner v r.has) r.inherited

      back : (o : Option ℕ) → nearest ps (it_is b) (steps depths a) a ≡ o → Below ps a b → is_some o ≡ true
      back None is below = absurd (none-some b (sym (none_anywhere ps (it_is b) depths deep a is b below) ∙ is_itself b))
      back (Some v) is below = refl

-- ---- types and signatures

same_types : (named : List ℕ → Option ℕ) (units : List JavaUnit) → ((q : List ℕ) → named q ≡ class_named units q) → (ts : List PlainType) → map (type_by named) ts ≡ map (type_of units) ts
same_types named units same [] = refl
same_types named units same (t ∷ ts) = ap₂ ◌∷◌ (same_type named units same t) (same_types named units same ts)

same_result : (named : List ℕ → Option ℕ) (units : List JavaUnit) → ((q : List ℕ) → named q ≡ class_named units q) → (t : Option PlainType) → option_map (type_by named) t ≡ option_map (type_of units) t
same_result named units same None = refl
same_result named units same (Some t) = ap Some (same_type named units same t)

same_signature : (named : List ℕ → Option ℕ) (units : List JavaUnit) → ((q : List ℕ) → named q ≡ class_named units q) → (r : Member) → signature_by named (method_info r) ≡ signature_of units r
same_signature named units same r =
    ap₂ (λ (ts : List ValueType) (t : Option ValueType). record { class = (method_info r).class; static = (method_info r).static; parameters = ts; result = t })
    (same_types named units same (parameter_types r.kind)) (same_result named units same (result_of r.kind))

read_signature : (named : List ℕ → Option ℕ) (units : List JavaUnit) → ((q : List ℕ) → named q ≡ class_named units q) → (o : Option Routine) (r : Option Member) → option_map routine_view o ≡ option_map (signature_by named) (option_map method_info r) → signature_in o ≡ option_map_or (signature_of units) r no_signature
read_signature named units same None None e = refl
read_signature named units same None (Some r) e = absurd (none-some (signature_by named (method_info r)) e)
read_signature named units same (Some x) None e = absurd (none-some (routine_view x) (sym e))
read_signature named units same (Some x) (Some r) e = same_Some (routine_view x) (signature_by named (method_info r)) e ∙ same_signature named units same r

-- ---- what each class has of its own

pub record AreParts (units : List JavaUnit) (d : Declared) : Type 0 where
  pub stand : AreClasses units
  pub parents_ : d.parents.items ≡ parents units
  pub deep : IsDepths d.parents.items d.depths.items
  pub classes_ : (q : List ℕ) → value_at d.classes q ≡ class_named units q
  pub variables_ : (q : List ℕ) (c : ℕ) → c < length (parents units) → own_value d.variables.items q c ≡ first_named (variables_of units (value_at d.classes) c) q
  pub methods_ : (q : List ℕ) (c : ℕ) → c < length (parents units) → own_value d.methods.items q c ≡ first_named (methods_of units c) q
  pub few_variables : length d.variables.items ≡ length (parents units)
  pub few_methods : length d.methods.items ≡ length (parents units)
  pub constructors_ : d.constructors.items ≡ map (λ i. i.own.constructor) (class_infos units)
  pub routines_ : map routine_view d.routines.items ≡ map (signature_by (value_at d.classes)) (method_infos units)

module _ (units : List JavaUnit) (d : Declared) (parts : AreParts units d) where
  abbrev ps : List (Option ℕ)
  ps = d.parents.items

  extends : (a b : ℕ) → Below ps a b → IsSubclass units a b
  extends a b below = subst (λ l. Below l a b) parts.parents_ below

  below : (a b : ℕ) → IsSubclass units a b → Below ps a b
  below a b sub = subst (λ l. Below l a b) (sym parts.parents_) sub

  nodes : AreNodes ps
  nodes = subst AreNodes (sym parts.parents_) (parents_are_classes units)

  count : length ps ≡ length (parents units)
  count = ap length parts.parents_

  -- ---- what is no class's number has nothing

  inside : {a b : ℕ} → Above (parents units) a b → b < length (parents units)
  inside (above_child a b e) = slice_get_within (parents units) b (Some a) e
  inside (above_parent a b e f up) = slice_get_within (parents units) e (Some b) f

  no_class : (c k : ℕ) → length (parents units) ≤ c → k < length (parents units) → IsSubclass units c k → ⊥
  no_class c k past within (inl same) = absurd (omega (arith, past, within, same))
  no_class c k past within (inr above) = let lt = inside above in absurd (omega (arith, lt, past))

  field_of_class : (f : ℕ) (one : Member) → slice_get (fields units) f ≡ Some one → one.class < length (parents units)
  field_of_class f one there =
      let k = kept (λ (m : Member). is_field m.kind) (declared_members units) f one there in members_are_of_classes units k.i one k.there

  routine_of_class : (m : ℕ) (r : Member) → slice_get (routines units) m ≡ Some r → r.class < length (parents units)
  routine_of_class m r there = let k = routines_are_members units m r there in members_are_of_classes units k.0 r k.1

  nothing_by : {V : Type 0} (maps : List (Named V)) (q : List ℕ) (c : ℕ) → length maps ≡ length (parents units) → length (parents units) ≤ c → own_value maps q c ≡ None
  nothing_by maps q c many past = ap (option_and_then (λ m. value_at m q)) (slice_get_past maps c (omega (arith, many, past)))

  sees_none : (c : ℕ) (q : List ℕ) → length (parents units) ≤ c → (v : Variable) → IsVariableOf units c q v → ⊥
  sees_none c q past _ (a_field f one t there kind name sub) = no_class c one.class past (field_of_class f one there) sub
  sees_none c q past _ (a_constant i one n there kind name sub) = no_class c one.class past (members_are_of_classes units i one there) sub

  no_variable : (c : ℕ) (q : List ℕ) → length (parents units) ≤ c → (o : Option Variable) → first_named (variables_of units (value_at d.classes) c) q ≡ o → None ≡ o
  no_variable c q past None is = refl
  no_variable c q past (Some v) is = absurd (sees_none c q past v (variable_found units (value_at d.classes) parts.classes_ c q c v is (inl refl)))

  no_method_of : (c : ℕ) (q : List ℕ) → length (parents units) ≤ c → (o : Option ℕ) → first_named (methods_of units c) q ≡ o → None ≡ o
  no_method_of c q past None is = refl
  no_method_of c q past (Some m) is =
      let r = method_found units c q m is in
      let lt = routine_of_class m r.routine r.there in
      let same = r.holds.1 in absurd (omega (arith, lt, past, same))

  no_constructor_of : (c : ℕ) → length (parents units) ≤ c → (o : Option ℕ) → (own_of (declared_members units) c).constructor ≡ o → None ≡ o
  no_constructor_of c past None is = refl
  no_constructor_of c past (Some m) is =
      let r = constructor_found units c m is in
      let lt = routine_of_class m r.routine r.there in
      let same = r.holds.1 in absurd (omega (arith, lt, past, same))

  own_variables : (q : List ℕ) (c : ℕ) → own_value d.variables.items q c ≡ first_named (variables_of units (value_at d.classes) c) q
  own_variables q c = ⊎_elim (parts.variables_ q c) (λ past. nothing_by d.variables.items q c parts.few_variables past ∙ no_variable c q past _ refl) (cases_lt c (length (parents units)))

  own_methods : (q : List ℕ) (c : ℕ) → own_value d.methods.items q c ≡ first_named (methods_of units c) q
  own_methods q c = ⊎_elim (parts.methods_ q c) (λ past. nothing_by d.methods.items q c parts.few_methods past ∙ no_method_of c q past _ refl) (cases_lt c (length (parents units)))

  has_some : {A : Type 0} (o : Option A) → (o ≡ None → ⊥) → (v : A) × (o ≡ Some v)
  has_some None some = absurd (some refl)
  has_some (Some v) some = (v, refl)

  own_constructor : (c : ℕ) → parent_of d.constructors.items c ≡ (own_of (declared_members units) c).constructor
  own_constructor c =
      ap (λ l. parent_of l c) parts.constructors_
      ∙ ap (option_and_then (λ o. o)) (slice_get-map (λ (i : PlainClassInfo). i.own.constructor) (class_infos units) c)
      ∙ elim (slice_get_cases (class_infos units) c).1 [
        | inl here ↦
            ap (λ (o : Option PlainClassInfo). option_and_then (λ (x : Option ℕ). x) (option_map (λ (i : PlainClassInfo). i.own.constructor) o)) here.2
            ∙ ap (λ o. o.constructor) (own_at units c here.0 here.2 (omega (arith, here.1, as_many units)))
        | inr past ↦
            ap (λ (o : Option PlainClassInfo). option_and_then (λ (x : Option ℕ). x) (option_map (λ (i : PlainClassInfo). i.own.constructor) o)) past.1
            ∙ no_constructor_of c (omega (arith, past.0, as_many units)) _ refl
      ]

  variable_seen : (c : ℕ) (q : List ℕ) → (o : Option Variable) → nearest ps (own_value d.variables.items q) (steps d.depths.items c) c ≡ o → MatchOption o (HasNoVariable units c q) (IsVariableOf units c q)
  variable_seen c q (Some v) is =
      let r = nearest_one ps (own_value d.variables.items q) (steps d.depths.items c) c v is in
      variable_found units (value_at d.classes) parts.classes_ r.owner q c v (sym (own_variables q r.owner) ∙ r.has) (extends c r.owner r.inherited)
  variable_seen c q None is = λ v has. none v has
    where
      empty : (owner : ℕ) → Below ps c owner → first_named (variables_of units (value_at d.classes) owner) q ≡ None
      empty owner at = sym (own_variables q owner) ∙ none_anywhere ps (own_value d.variables.items q) d.depths.items parts.deep c is owner at

      none : (v : Variable) → IsVariableOf units c q v → ⊥
      none v (a_field f one t there kind name sub) = no_field units (value_at d.classes) parts.classes_ one.class q f one (empty one.class (below c one.class sub)) there name refl
      none v (a_constant i one n there kind name sub) = no_constant units (value_at d.classes) parts.classes_ one.class q i one n (empty one.class (below c one.class sub)) there kind name refl

  method_seen : (c : ℕ) (q : List ℕ) → (o : Option ℕ) → nearest ps (own_value d.methods.items q) (steps d.depths.items c) c ≡ o → MatchOption o (SeesNone units c q) (IsSeen units c q)
  method_seen c q (Some m) is =
      let r = nearest_one ps (own_value d.methods.items q) (steps d.depths.items c) c m is in
      record {
        owner = r.owner;
        declared = method_found units r.owner q m (sym (own_methods q r.owner) ∙ r.has);
        inherited = extends c r.owner r.inherited;
        nearest = λ other n sub declares. extends r.owner other (r.first other _ (below c other sub) (has other n sub declares).1);
      }
    where
      has : (other n : ℕ) → IsSubclass units c other → Declares units other q n → (v : ℕ) × (own_value d.methods.items q other ≡ Some v)
      has other n sub declares = has_some (own_value d.methods.items q other) (λ none. no_method units other q n (sym (own_methods q other) ∙ none) declares)
  method_seen c q None is = λ owner m sub declares.
      no_method units owner q m (sym (own_methods q owner) ∙ none_anywhere ps (own_value d.methods.items q) d.depths.items parts.deep c is owner (below c owner sub)) declares

  constructor_seen : (c : ℕ) → (o : Option ℕ) → nearest ps (parent_of d.constructors.items) (steps d.depths.items c) c ≡ o → MatchOption o (RunsNoConstructor units c) (IsConstructorFor units c)
  constructor_seen c (Some m) is =
      let r = nearest_one ps (parent_of d.constructors.items) (steps d.depths.items c) c m is in
      record {
        owner = r.owner;
        declared = constructor_found units r.owner m (sym (own_constructor r.owner) ∙ r.has);
        inherited = extends c r.owner r.inherited;
        nearest = λ other n sub declares. extends r.owner other (r.first other _ (below c other sub) (has other n sub declares).1);
      }
    where
      has : (other n : ℕ) → IsSubclass units c other → DeclaresConstructor units other n → (v : ℕ) × (parent_of d.constructors.items other ≡ Some v)
      has other n sub declares = has_some (parent_of d.constructors.items other) (λ none. no_constructor units other n (sym (own_constructor other) ∙ none) declares)
  constructor_seen c None is = λ owner m sub declares.
      no_constructor units owner m (sym (own_constructor owner) ∙ none_anywhere ps (parent_of d.constructors.items) d.depths.items parts.deep c is owner (below c owner sub)) declares

  signature_told : (m : ℕ) → signature_in (slice_get d.routines.items m) ≡ signature_at units m
  signature_told m =
      read_signature (value_at d.classes) units parts.classes_ (slice_get d.routines.items m) (slice_get (routines units) m)
      (sym (slice_get-map routine_view d.routines.items m)
      ∙ ap (λ l. slice_get l m) parts.routines_
      ∙ slice_get-map (signature_by (value_at d.classes)) (method_infos units) m
      ∙ ap (option_map (signature_by (value_at d.classes))) (slice_get-map method_info (routines units) m))

  top : (c : ℕ) → c < length (parents units) → Below ps c 0
  top c lt = extends_top ps d.depths.items parts.deep nodes (λ k e. one_top units parts.stand k (ap (λ l. slice_get l k) (sym parts.parents_) ∙ e)) (slice_index d.depths.items c + 1) c (omega arith) (omega (arith, lt, count))

  abbrev met_at : ℕ → ℕ → ℕ
  met_at a b = meeting ps d.depths.items (steps d.depths.items a + steps d.depths.items b) a b

  -- two that have a class in common meet
  common : (a b root : ℕ) → Below ps a root → Below ps b root → IsNearestCommon units a b (met_at a b)
  common a b root one two =
      let m = meets ps d.depths.items parts.deep (steps d.depths.items a + steps d.depths.items b) a b root (omega arith) one two in
      record {
        of_one = extends a _ m.of_one;
        of_other = extends b _ m.of_other;
        nearest = λ other one two. extends _ other (m.nearest other (below a other one) (below b other two));
      }

  -- of two numbers of which one is no class's, the other is the same, or they have none
  past : (a other : ℕ) → length ps ≤ a → Below ps a other → a ≡ other
  past a other le (inl same) = same
  past a other le (inr above) = let lt = inside (subst (λ l. Above l other a) parts.parents_ above) in absurd (omega (arith, lt, le, count))

  only_itself : (a b : ℕ) → length ps ≤ a → Below ps b a → b ≡ a
  only_itself a b le (inl same) = same
  only_itself a b le (inr above) =
      let lt = inside (subst (λ l. Above l a b) parts.parents_ above) in
      let within = below_within ps b a nodes (omega (arith, lt, count)) (inr above) in absurd (omega (arith, within, le))

  none_common : (a b : ℕ) → (a ≡ b → ⊥) → length ps ≤ a → (other : ℕ) → Below ps a other → Below ps b other → ⊥
  none_common a b apart le other one two = let same = past a other le one in apart (sym (only_itself a b le (subst (Below ps b) (sym same) two)))

  unmet : (a b : ℕ) → ((other : ℕ) → Below ps a other → Below ps b other → ⊥) → IsJoined units a b (met_at a b)
  unmet a b none =
      ⊎_elim (λ both. absurd (none _ both.0 both.1)) (λ zero_. inr ((λ other one two. none other (below a other one) (below b other two)), zero_))
      (met_or_none ps d.depths.items (steps d.depths.items a + steps d.depths.items b) a b)

  joined_past : (a b : ℕ) → (a ≡ b → (other : ℕ) → Below ps a other → Below ps b other) → ((a ≡ b → ⊥) → (other : ℕ) → Below ps a other → Below ps b other → ⊥) → (t : Bool) → nat_eq a b ≡ t → IsJoined units a b (met_at a b)
  joined_past a b same apart true is = let e : a ≡ b = grind (arith, nat_tests, is) in inl (common a b a (inl refl) (same e a (inl refl)))
  joined_past a b same apart false is = unmet a b (apart (λ e. absurd (grind (arith, nat_tests, is, e))))

  joined_one : (a b : ℕ) → IsJoined units a b (met_at a b)
  joined_one a b = by (cases_lt a (length ps)) (cases_lt b (length ps))
    where
      same : a ≡ b → (other : ℕ) → Below ps a other → Below ps b other
      same e other at = subst (λ n. Below ps n other) e at

      by : (a < length ps) ⊎ (length ps ≤ a) → (b < length ps) ⊎ (length ps ≤ b) → IsJoined units a b (met_at a b)
      by (inl lt_a) (inl lt_b) = inl (common a b 0 (top a (omega (arith, lt_a, count))) (top b (omega (arith, lt_b, count))))
      by (inr le) other = joined_past a b same (λ apart. none_common a b apart le) (nat_eq a b) refl
      by (inl lt) (inr le) = joined_past a b same (λ apart other one two. none_common b a (λ e. apart (sym e)) le other two one) (nat_eq a b) refl

  is_below : (a b : ℕ) → Decides (is_some (nearest ps (it_is b) (steps d.depths.items a) a)) (IsSubclass units a b)
  is_below a b = let tells = decides_below ps d.depths.items parts.deep a b in (λ so. extends a b (tells.0 so), λ sub. tells.1 (below a b sub))

  pub are_declarations : AreDeclarations units (told d)
  are_declarations = record {
    classes_ = parts.classes_;
    parents_ = λ c. ap (λ l. parent_of l c) parts.parents_;
    subclasses_ = is_below;
    joined_ = joined_one;
    variables_ = λ c q. variable_seen c q _ refl;
    methods_ = λ c q. method_seen c q _ refl;
    constructors_ = λ c. constructor_seen c _ refl;
    signatures_ = signature_told;
  }
