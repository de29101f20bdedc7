-- What the class tables tell of methods and of their families.
use Rattle.std.specs.Prelude.{Bool, None, Option, Some, ◌≡◌, ℕ}
use Rattle.jd_base.specs.declared.sort.Sort.{Sort}
use Rattle.jd_model.specs.Cases.{Case, ConstructorOf, DeclaredType, Helper, Ordinary, Role, SpecifiedProgram, Static}
use Rattle.jd_model.specs.Programs.{type_sort}

pub data MethodKind : Type 0 where
  StaticMethod InstanceMethod Constructor : MethodKind

-- of each method or constructor its kind, the class that declares it, the sort of its result, where it has one, and its
-- family; of two families whether the first reaches the second; the class of what a call on null throws
pub record PlainMethods : Type 0 where
  pub kind : ℕ → MethodKind
  pub class : ℕ → ℕ
  pub result : ℕ → Option Sort
  pub family : ℕ → ℕ
  pub reaches : ℕ → ℕ → Bool
  pub null_pointer : ℕ

-- ---- the tables are the program's

abbrev pub IsKindOf : MethodKind → Role → Type 0
IsKindOf StaticMethod Static = Unit {0}
IsKindOf InstanceMethod Ordinary = Unit {0}
IsKindOf InstanceMethod Helper = Unit {0}
IsKindOf Constructor (ConstructorOf a) = Unit {0}
IsKindOf k r = ⊥

abbrev pub IsResultSort : Option Sort → Option DeclaredType → Type 0
IsResultSort None None = Unit {0}
IsResultSort (Some k) (Some t) = k ≡ type_sort t.type
IsResultSort k t = ⊥

-- the method of the case is of the kind of the case's role, and has its result and its family
pub record MethodOfCase (m : PlainMethods) (c : Case) : Type 0 where
  pub kind : IsKindOf (m.kind c.method) c.contract.role
  pub result : IsResultSort (m.result c.method) c.contract.result
  pub family : m.family c.method ≡ c.family

-- which families reach which is asked of those that have cases
pub record MethodsStandFor (m : PlainMethods) (p : SpecifiedProgram) : Type 0 where
  pub cases : (κ : ℕ) (c : Case) → p.case κ ≡ Some c → MethodOfCase m c
  pub reaches : (κ ι : ℕ) (c d : Case) → p.case κ ≡ Some c → p.case ι ≡ Some d → m.reaches c.family d.family ≡ p.reaches c.family d.family
  pub null_pointer : m.null_pointer ≡ p.setting.program.null_pointer
