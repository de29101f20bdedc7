-- How the tables of classes are made: what a member adds to its class, and classes from what stands at their heads.
use Rattle.std.specs.Prelude.{ℕ, ◌+◌, ◌++◌, Bool, true, false, cond, List, [], ◌∷◌, map, option_map, Option, Some, None}
use Rattle.jd_syntax.specs.JavaTrees.{JavaClass, JavaUnit, class_view}
use Rattle.jd_jclasses.specs.Classes.{DeclaredClass, declared_classes, prelude}
use Rattle.jd_jclasses.specs.Members.{Kind, FieldOf, ConstantOf, RoutineOf, Declared, builds, is_field, is_routine}
use Rattle.jd_jinfos.specs.Infos.{PlainClassInfo, PlainOwnMembers}
use Rattle.jd_jinfos.specs.declared.classes.ClassHead.{ClassHead}

-- ---- what a member adds to its class, where the next field and the next routine have these numbers

abbrev pub first_of : Option ℕ → Option ℕ → Option ℕ
first_of None n = n
first_of (Some m) n = Some m

-- the members of a class that come first, and then the others
abbrev pub with_others : PlainOwnMembers → PlainOwnMembers → PlainOwnMembers
with_others a b = record {
  fields = a.fields ++ b.fields;
  constants = a.constants ++ b.constants;
  constructor = first_of a.constructor b.constructor;
  methods = a.methods ++ b.methods;
}

abbrev pub routine_alone : Bool → ℕ → PlainOwnMembers
routine_alone true n = record { fields = []; constants = []; constructor = Some n; methods = [] }
routine_alone false n = record { fields = []; constants = []; constructor = None; methods = n ∷ [] }

abbrev pub kind_alone : ℕ → ℕ → List ℕ → Kind → PlainOwnMembers
kind_alone field routine name (FieldOf t) = record { fields = field ∷ []; constants = []; constructor = None; methods = [] }
kind_alone field routine name (ConstantOf n) = record { fields = []; constants = (name, n) ∷ []; constructor = None; methods = [] }
kind_alone field routine name (RoutineOf m) = routine_alone (builds m.result) routine

abbrev pub member_alone : ℕ → ℕ → Declared → PlainOwnMembers
member_alone field routine m = kind_alone field routine m.name.name m.kind

abbrev pub next_field : ℕ → Kind → ℕ
next_field n k = cond (is_field k) (n + 1) n

abbrev pub next_routine : ℕ → Kind → ℕ
next_routine n k = cond (is_routine k) (n + 1) n

-- ---- the heads of classes

-- the name of a class, its file and its declaration
pub record PlainHead : Type 0 where
  pub name : List ℕ
  pub file : ℕ
  pub decl : Option JavaClass

abbrev pub head_view : ClassHead → PlainHead
head_view h = record { name = h.name.items; file = h.file; decl = option_map class_view h.decl }

abbrev pub prelude_head : List ℕ → PlainHead
prelude_head name = record { name = name; file = 0; decl = None }

abbrev pub declared_head : DeclaredClass → PlainHead
declared_head d = record { name = d.tree.name.name; file = d.file; decl = Some d.tree }

abbrev pub class_heads : List JavaUnit → List PlainHead
class_heads units = map prelude_head (map (λ p. p.0) prelude) ++ map declared_head (declared_classes units)

-- a class from its head, from what it extends and from its own members
abbrev pub class_of : PlainHead → Option ℕ → PlainOwnMembers → PlainClassInfo
class_of h p o = record { name = h.name; parent = p; file = h.file; decl = h.decl; own = o }

abbrev pub classes_of : List PlainHead → List (Option ℕ) → List PlainOwnMembers → List PlainClassInfo
classes_of [] ps os = []
classes_of (h ∷ hs) [] os = []
classes_of (h ∷ hs) (p ∷ ps) [] = []
classes_of (h ∷ hs) (p ∷ ps) (o ∷ os) = class_of h p o ∷ classes_of hs ps os
