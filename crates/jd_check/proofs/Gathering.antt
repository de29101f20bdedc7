-- The bodies of the classes of the files one after the other.
use Rattle.std.proofs.Common.{◌≡◌, ℕ, suc, ◌+◌, ◌-◌, ◌<◌, ◌≤◌, List, [], ◌∷◌, ◌++◌, filter, get_or, length, map, drop, slice_get, Some, refl, sym, ap, ◌∙◌, arith, append_assoc}
use Rattle.std.proofs.lemmas.List.{append-nil, drop_more, map-append}
use Rattle.std.proofs.lemmas.List.Elements.{filter-append}
use Rattle.jd_syntax.specs.JavaTypes.{PlainIdentifier, PlainType}
use Rattle.jd_syntax.specs.JavaTrees.{JavaMember, JavaUnit, FieldMember, ConstantMember, MethodMember, member_view}
use Rattle.jd_syntax.specs.declared.java.Member.{Member}
use Rattle.jd_jclasses.specs.Classes.{DeclaredClass, declared_classes, prelude_count}
use Rattle.jd_jclasses.specs.Members.{Declared, FieldOf, is_routine, of_classes, of_member, of_members}
use Rattle.jd_jinfos.specs.Infos.{PlainClassInfo, class_infos}
use Rattle.jd_bodies.specs.Bodies.{PlainBody, bodies, body_by}
use Rattle.jd_bodies.specs.Declarations.{Declarations}
use Rattle.jd_check.specs.Building.{class_bodies, info_bodies, member_bodies}
use Rattle.jd_check.proofs.Walking.{all_dropped, at_class, dropped}

module _ (d : Declarations) where
  abbrev made : List Declared → List PlainBody
  made rs = map (λ (r : Declared). body_by d r.class r.kind) (filter (λ (r : Declared). is_routine r.kind) rs)

  made_both : (rs ss : List Declared) → made (rs ++ ss) ≡ made rs ++ made ss
  made_both rs ss =
      ap (map (λ (r : Declared). body_by d r.class r.kind)) (filter-append (λ (r : Declared). is_routine r.kind) rs ss)
      ∙ map-append (λ (r : Declared). body_by d r.class r.kind) (filter (λ (r : Declared). is_routine r.kind) rs) (filter (λ (r : Declared). is_routine r.kind) ss)

  fields_make_none : (class file place : ℕ) (t : PlainType) (xs : List PlainIdentifier) → made (map (λ x. record { class = class; file = file; member = place; name = x; kind = FieldOf t }) xs) ≡ []
  fields_make_none class file place t [] = refl
  fields_make_none class file place t (x ∷ xs) = fields_make_none class file place t xs

  member_makes : (class file place : ℕ) (m : JavaMember) → made (of_member class file place m) ≡ member_bodies d class m
  member_makes class file place (FieldMember f) = fields_make_none class file place f.ty.written f.names
  member_makes class file place (ConstantMember c) = refl
  member_makes class file place (MethodMember m) = refl

  members_make : (class file place : ℕ) (ms : List JavaMember) → made (of_members class file place ms) ≡ class_bodies d class ms
  members_make class file place [] = refl
  members_make class file place (m ∷ ms) =
      made_both (of_member class file place m) (of_members class file (suc place) ms)
      ∙ ap (λ bs. bs ++ made (of_members class file (suc place) ms)) (member_makes class file place m)
      ∙ ap (λ bs. member_bodies d class m ++ bs) (members_make class file (suc place) ms)

  -- those of classes of which the first has this number
  abbrev pub all_from : ℕ → List DeclaredClass → List PlainBody
  all_from class [] = []
  all_from class (c ∷ cs) = class_bodies d class c.tree.members ++ all_from (suc class) cs

  classes_make : (class : ℕ) (cs : List DeclaredClass) → made (of_classes class cs) ≡ all_from class cs
  classes_make class [] = refl
  classes_make class (c ∷ cs) =
      made_both (of_members class c.file 0 c.tree.members) (of_classes (suc class) cs)
      ∙ ap (λ bs. bs ++ made (of_classes (suc class) cs)) (members_make class c.file 0 c.tree.members)
      ∙ ap (λ bs. class_bodies d class c.tree.members ++ bs) (classes_make (suc class) cs)

  -- ---- members

  pub next_member : (class : ℕ) (ms : List Member) (i : ℕ) (m : Member) (bs whole : List PlainBody) → i < length ms → m ≡ get_or ms i m → bs ++ class_bodies d class (map member_view (drop i ms)) ≡ whole
      → (bs ++ member_bodies d class (member_view m)) ++ class_bodies d class (map member_view (drop (i + 1) ms)) ≡ whole
  next_member class ms i m bs whole lt is so_far =
      append_assoc bs (member_bodies d class (member_view m)) (class_bodies d class (map member_view (drop (i + 1) ms)))
      ∙ sym (ap (λ (l : List Member). bs ++ class_bodies d class (map member_view l)) (drop_more ms i m lt ∙ ap (λ y. y ∷ drop (i + 1) ms) (sym is)))
      ∙ so_far

  pub members_end : (class : ℕ) (ms : List Member) (i : ℕ) (bs whole : List PlainBody) → length ms ≤ i → bs ++ class_bodies d class (map member_view (drop i ms)) ≡ whole → bs ≡ whole
  members_end class ms i bs whole few so_far = sym (ap (λ (l : List Member). bs ++ class_bodies d class (map member_view l)) (all_dropped ms i few) ∙ append-nil bs) ∙ so_far

  module _ (units : List JavaUnit) where
    pub classes_begin : [] ++ all_from 10 (drop (10 - 10) (declared_classes units)) ≡ bodies d units
    classes_begin = sym (classes_make prelude_count (declared_classes units))

    -- the next class
    pub next_class : (class : ℕ) (info : PlainClassInfo) (bs whole : List PlainBody) → 10 ≤ class → slice_get (class_infos units) class ≡ Some info → bs ++ all_from class (drop (class - 10) (declared_classes units)) ≡ whole
        → (bs ++ info_bodies d class info) ++ all_from (class + 1) (drop (class + 1 - 10) (declared_classes units)) ≡ whole
    next_class class info bs whole le there so_far =
        let a = at_class d units class info le there in
        let next : class + 1 ≡ suc class = omega arith in
        let place : class + 1 - 10 ≡ suc (class - 10) = omega arith in
        append_assoc bs (info_bodies d class info) (all_from (class + 1) (drop (class + 1 - 10) (declared_classes units)))
        ∙ ap (λ i. bs ++ (info_bodies d class i ++ all_from (class + 1) (drop (class + 1 - 10) (declared_classes units)))) a.listed
        ∙ ap (λ n. bs ++ (class_bodies d class a.declared.tree.members ++ all_from n (drop (class + 1 - 10) (declared_classes units)))) next
        ∙ ap (λ n. bs ++ (class_bodies d class a.declared.tree.members ++ all_from (suc class) (drop n (declared_classes units)))) place
        ∙ sym (ap (λ l. bs ++ all_from class l) (dropped (declared_classes units) (class - 10) a.declared a.there))
        ∙ so_far

    -- no class is left
    pub all_made : (class : ℕ) (bs whole : List PlainBody) → length (declared_classes units) ≤ class - 10 → bs ++ all_from class (drop (class - 10) (declared_classes units)) ≡ whole → bs ≡ whole
    all_made class bs whole few so_far = sym (ap (λ l. bs ++ all_from class l) (all_dropped (declared_classes units) (class - 10) few) ∙ append-nil bs) ∙ so_far
