-- The first class of the files of which a reason holds.
use Rattle.std.specs.Prelude.{◌≡◌, ⊤, ℕ, ◌+◌, ◌<◌, List, length, take, Some, None}
use Rattle.std.specs.List.{Contains, slice_get}
use Rattle.jd_ancestry.specs.Ancestors.{Above}
use Rattle.jd_syntax.specs.JavaTypes.{PlainIdentifier}
use Rattle.jd_jclasses.specs.Classes.{DeclaredClass, class_in, prelude_count}
use Rattle.jd_jheads.specs.Names.{names_with, parents_with}
use Rattle.jd_jheads.specs.declared.refusal.HeadRefusal.{HeadRefusal}
use Rattle.jd_jheads.specs.declared.refusal.HeadRefusal.TheVariants as code

-- a reason holds of none of the first so many classes
abbrev pub NoneBelow : List DeclaredClass → (ℕ → DeclaredClass → Type 0) → ℕ → Type 0
NoneBelow ds P n = (i : ℕ) (d : DeclaredClass) → i < n → slice_get ds i ≡ Some d → P i d → ⊥

-- it holds of this class and of none before
pub record FirstClass (ds : List DeclaredClass) (P : ℕ → DeclaredClass → Type 0) (Place : DeclaredClass → Type 0) : Type 0 where
  pub i : ℕ
  pub class : DeclaredClass
  pub there : slice_get ds i ≡ Some class
  pub holds : P i class
  pub place : Place class
  pub before : NoneBelow ds P i

-- ---- the three reasons

abbrev pub HasUsedName : List DeclaredClass → ℕ → DeclaredClass → Type 0
HasUsedName ds i d = Contains (take (prelude_count + i) (names_with ds)) d.tree.name.name

abbrev pub HasNoSuper : List DeclaredClass → ℕ → DeclaredClass → Type 0
HasNoSuper ds i d = (x : PlainIdentifier) × (d.tree.parent ≡ Some x) × (class_in (names_with ds) x.name ≡ None)

abbrev pub IsOnCycle : List DeclaredClass → ℕ → DeclaredClass → Type 0
IsOnCycle ds i d = Above (parents_with ds) (prelude_count + i) (prelude_count + i)

abbrev pub NamesAreNew : List DeclaredClass → Type 0
NamesAreNew ds = NoneBelow ds (HasUsedName ds) (length ds)

abbrev pub SupersAreKnown : List DeclaredClass → Type 0
SupersAreKnown ds = NoneBelow ds (HasNoSuper ds) (length ds)

abbrev pub NoneOnCycle : List DeclaredClass → Type 0
NoneOnCycle ds = NoneBelow ds (IsOnCycle ds) (length ds)

-- ---- the refusals with their places

abbrev pub AtName : ℕ → ℕ → DeclaredClass → Type 0
AtName file at d = (file ≡ d.file) × (at ≡ d.tree.name.at)

abbrev pub AtSuper : ℕ → ℕ → DeclaredClass → Type 0
AtSuper file at d = (file ≡ d.file) × ((x : PlainIdentifier) × (d.tree.parent ≡ Some x) × (at ≡ x.at))

-- the refusal of a class by itself
abbrev pub IsUnknownSuper : List (List ℕ) → DeclaredClass → HeadRefusal → Type 0
IsUnknownSuper names d (code.UnknownSuper file at) = (file ≡ d.file) × ((x : PlainIdentifier) × (d.tree.parent ≡ Some x) × (class_in names x.name ≡ None) × (at ≡ x.at))
IsUnknownSuper names d e = ⊥

abbrev pub NameRefused : List DeclaredClass → HeadRefusal → Type 0
NameRefused ds (code.DuplicateClass file at) = FirstClass ds (HasUsedName ds) (AtName file at)
NameRefused ds (code.UnknownSuper file at) = ⊥
NameRefused ds (code.CyclicExtends file at) = ⊥
NameRefused ds code.NoMemory = ⊤

abbrev pub SuperRefused : List DeclaredClass → HeadRefusal → Type 0
SuperRefused ds (code.DuplicateClass file at) = ⊥
SuperRefused ds (code.UnknownSuper file at) = FirstClass ds (HasNoSuper ds) (AtSuper file at)
SuperRefused ds (code.CyclicExtends file at) = ⊥
SuperRefused ds code.NoMemory = ⊤

abbrev pub CycleRefused : List DeclaredClass → HeadRefusal → Type 0
CycleRefused ds (code.DuplicateClass file at) = ⊥
CycleRefused ds (code.UnknownSuper file at) = ⊥
CycleRefused ds (code.CyclicExtends file at) = FirstClass ds (IsOnCycle ds) (AtName file at)
CycleRefused ds code.NoMemory = ⊤
