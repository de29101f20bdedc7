-- Which constructors run for a class, and which methods are members of it (JLS 8.2, 8.4.8, 8.8, 12.5).
use Rattle.std.specs.Prelude.{ℕ, Bool, false, not, ◌||◌, nat_eq, List, [], ◌∷◌, filter, filter_map, flat_map, if◌then◌else◌, Option, Some, None}
use Rattle.std.specs.List.{list_any, slice_get}
use Rattle.std.specs.Str.{bytes_eq}
use Rattle.jd_syntax.specs.JavaTrees.{JavaUnit}
use Rattle.jd_jclasses.specs.Members.{Declared, declared_members, is_static}
use Rattle.jd_jclasses.specs.Methods.{routines}
use Rattle.jd_jinfos.specs.Infos.{PlainOwnMembers, own_of}
use Rattle.jd_bodies.specs.Declarations.{Declarations}

abbrev pub name_of : Option Declared → List ℕ
name_of None = []
name_of (Some r) = r.name.name

abbrev pub declared_static : Option Declared → Bool
declared_static None = false
declared_static (Some r) = is_static r.kind

module _ (units : List JavaUnit) where
  -- what a class declares itself, by numbers
  abbrev pub own : ℕ → PlainOwnMembers
  own c = own_of (declared_members units) c

  -- of the method or constructor of a number
  abbrev pub routine_name : ℕ → List ℕ
  routine_name m = name_of (slice_get (routines units) m)

  abbrev pub static_routine : ℕ → Bool
  static_routine m = declared_static (slice_get (routines units) m)

  -- the first of each name
  abbrev pub firsts : List (List ℕ) → List ℕ → List ℕ
  firsts names [] = []
  firsts names (m ∷ ms) = if list_any (bytes_eq (routine_name m)) names then firsts names ms else (m ∷ firsts (routine_name m ∷ names) ms)

  -- the methods of the name that a class declares itself: one or none (JLS 8.4.2)
  abbrev pub declared_as : List ℕ → ℕ → List ℕ
  declared_as name a = filter (λ m. bytes_eq (routine_name m) name) (own a).methods

  -- those methods of a class at or above it that are members of it; a static method is one of its own class alone
  abbrev pub members_from : ℕ → ℕ → List ℕ
  members_from c a = filter (λ m. not (static_routine m) || nat_eq a c) (own a).methods

-- of each class it and those above it, Object first
module _ (units : List JavaUnit) (lineage : ℕ → List ℕ) where
  -- the constructors that run for an object of the class: those above first, then its own
  abbrev pub constructors_run : ℕ → List ℕ
  constructors_run c = filter_map (λ a. (own units a).constructor) (lineage c)

  abbrev pub members_along : ℕ → List ℕ
  members_along c = flat_map (members_from units c) (lineage c)

  -- a method that overrides another stands in that one's place
  abbrev pub methods_seen : Declarations → ℕ → List ℕ
  methods_seen d c = filter_map (λ m. d.method c (routine_name units m)) (firsts units [] (members_along c))
