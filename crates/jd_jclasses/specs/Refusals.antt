-- Which classes and members no program may have, and which of them is answered.
use Rattle.std.specs.Prelude.{◌≡◌, ◌≢◌, ◌⊎◌, ◌+◌, ◌<◌, ℕ, true, List, length, filter, take, Some, None}
use Rattle.std.specs.List.{Contains, slice_get}
use Rattle.jd_syntax.specs.JavaTypes.{PlainIdentifier}
use Rattle.jd_syntax.specs.JavaTrees.{JavaUnit}
use Rattle.jd_jclasses.specs.Classes.{DeclaredClass, declared_classes, class_names, class_named, prelude_count, IsAncestor}
use Rattle.jd_jclasses.specs.Members.{Declared, declared_members, is_variable, is_constructor, is_method, parameter_types, result_of, is_static}

-- ---- one class, by its place among the classes of the files, and its number

-- it has the name of an earlier class (JLS 7.6)
abbrev pub HasEarlierName : List JavaUnit → ℕ → DeclaredClass → Type 0
HasEarlierName units i d = Contains (take (prelude_count + i) (class_names units)) d.tree.name.name

-- what it extends does not exist (JLS 8.1.4)
abbrev pub ExtendsNone : List JavaUnit → PlainIdentifier → Type 0
ExtendsNone units x = class_named units x.name ≡ None

-- it is its own ancestor (JLS 8.1.4)
abbrev pub IsOwnAncestor : List JavaUnit → ℕ → Type 0
IsOwnAncestor units i = IsAncestor units (prelude_count + i) (prelude_count + i)

-- ---- two members, of which the second is refused

abbrev pub SameName : Declared → Declared → Type 0
SameName a b = a.name.name ≡ b.name.name

-- two variables of a name, or two constructors, in a class (JLS 8.3, 8.8)
abbrev pub IsSecondMember : Declared → Declared → Type 0
IsSecondMember a b = (a.class ≡ b.class) × (((is_variable a.kind ≡ true) × (is_variable b.kind ≡ true) × SameName a b) ⊎ ((is_constructor a.kind ≡ true) × (is_constructor b.kind ≡ true)))

-- a variable of the name of an ancestor's (JLS 8.3)
abbrev pub IsHidden : List JavaUnit → Declared → Declared → Type 0
IsHidden units a b = IsAncestor units a.class b.class × (is_variable a.kind ≡ true) × (is_variable b.kind ≡ true) × SameName a b

abbrev pub AreMethodsOfName : Declared → Declared → Type 0
AreMethodsOfName a b = (is_method a.kind ≡ true) × (is_method b.kind ≡ true) × SameName a b

-- two methods of a name in a class (JLS 8.4.9)
abbrev pub IsSecondMethod : Declared → Declared → Type 0
IsSecondMethod a b = (a.class ≡ b.class) × AreMethodsOfName a b

-- other parameter types than an ancestor's method of the name (JLS 8.4.9)
abbrev pub HasOtherParameters : List JavaUnit → Declared → Declared → Type 0
HasOtherParameters units a b = IsAncestor units a.class b.class × AreMethodsOfName a b × (parameter_types a.kind ≢ parameter_types b.kind)

-- another result type, or static against not static (JLS 8.4.8)
abbrev pub IsBadOverride : List JavaUnit → Declared → Declared → Type 0
IsBadOverride units a b = IsAncestor units a.class b.class × AreMethodsOfName a b × ((result_of a.kind ≢ result_of b.kind) ⊎ (is_static a.kind ≢ is_static b.kind))

-- ---- at which place a refusal holds; places are those of the order of the files

-- a class of the files
pub record ClassAt (units : List JavaUnit) (i : ℕ) (P : DeclaredClass → Type 0) : Type 0 where
  pub class : DeclaredClass
  pub there : slice_get (declared_classes units) i ≡ Some class
  pub holds : P class

-- a member, refused for an earlier one
pub record EarlierMember (units : List JavaUnit) (i : ℕ) (P : Declared → Declared → Type 0) : Type 0 where
  pub place : ℕ
  pub earlier : place < i
  pub other : Declared
  pub one : Declared
  pub other_there : slice_get (declared_members units) place ≡ Some other
  pub there : slice_get (declared_members units) i ≡ Some one
  pub holds : P other one

-- a member, refused for any other
pub record OtherMember (units : List JavaUnit) (i : ℕ) (P : Declared → Declared → Type 0) : Type 0 where
  pub place : ℕ
  pub other : Declared
  pub one : Declared
  pub other_there : slice_get (declared_members units) place ≡ Some other
  pub there : slice_get (declared_members units) i ≡ Some one
  pub holds : P other one

abbrev pub DuplicateClassAt : List JavaUnit → ℕ → Type 0
DuplicateClassAt units i = ClassAt units i (HasEarlierName units i)

abbrev pub UnknownSuperAt : List JavaUnit → ℕ → Type 0
UnknownSuperAt units i = ClassAt units i (λ d. (x : PlainIdentifier) × (d.tree.parent ≡ Some x) × ExtendsNone units x)

abbrev pub CyclicExtendsAt : List JavaUnit → ℕ → Type 0
CyclicExtendsAt units i = ClassAt units i (λ d. IsOwnAncestor units i)

abbrev pub DuplicateMemberAt : List JavaUnit → ℕ → Type 0
DuplicateMemberAt units i = EarlierMember units i IsSecondMember

abbrev pub HidingAt : List JavaUnit → ℕ → Type 0
HidingAt units i = OtherMember units i (IsHidden units)

abbrev pub OverloadAt : List JavaUnit → ℕ → Type 0
OverloadAt units i = EarlierMember units i IsSecondMethod ⊎ OtherMember units i (HasOtherParameters units)

abbrev pub BadOverrideAt : List JavaUnit → ℕ → Type 0
BadOverrideAt units i = OtherMember units i (IsBadOverride units)

-- ---- which is answered: the least number that holds anywhere, at the first place where it holds

-- how many classes and how many methods the files may have
abbrev pub class_limit : ℕ
class_limit = 256

abbrev pub method_limit : ℕ
method_limit = 2048

abbrev pub TooManyClasses : List JavaUnit → Type 0
TooManyClasses units = class_limit < length (declared_classes units)

abbrev pub TooManyMethods : List JavaUnit → Type 0
TooManyMethods units = method_limit < length (filter (λ m. is_method m.kind) (declared_members units))

-- it holds nowhere
abbrev pub Nowhere : (ℕ → Type 0) → Type 0
Nowhere P = (i : ℕ) → P i → ⊥

-- it holds here, and nowhere before
pub record FirstAt (P : ℕ → Type 0) (i : ℕ) : Type 0 where
  pub here : P i
  pub first : (j : ℕ) → j < i → P j → ⊥

-- the name of a class, and its file
abbrev pub ClassPlace : List JavaUnit → ℕ → ℕ → ℕ → Type 0
ClassPlace units i file at = ClassAt units i (λ d. (file ≡ d.file) × (at ≡ d.tree.name.at))

-- the name behind `extends`
abbrev pub SuperPlace : List JavaUnit → ℕ → ℕ → ℕ → Type 0
SuperPlace units i file at = ClassAt units i (λ d. (file ≡ d.file) × ((x : PlainIdentifier) × (d.tree.parent ≡ Some x) × (at ≡ x.at)))

-- the name of a member
pub record MemberPlace (units : List JavaUnit) (i file at : ℕ) : Type 0 where
  pub one : Declared
  pub there : slice_get (declared_members units) i ≡ Some one
  pub file_ : file ≡ one.file
  pub at_ : at ≡ one.name.at

-- why no program has these files, with the file and the offset in it where there is a place
pub data Refusal : Type 0 where
  DuplicateClass UnknownSuper CyclicExtends DuplicateMember Hiding Overload BadOverride : ℕ → ℕ → Refusal
  ManyClasses ManyMethods : Refusal

-- the refusals of classes do not hold; then those of members either
pub record ClassesStand (units : List JavaUnit) : Type 0 where
  pub names : Nowhere (DuplicateClassAt units)
  pub supers : Nowhere (UnknownSuperAt units)
  pub no_cycle : Nowhere (CyclicExtendsAt units)

pub record MembersStand (units : List JavaUnit) : Type 0 where
  pub members : Nowhere (DuplicateMemberAt units)
  pub variables : Nowhere (HidingAt units)
  pub overloads : Nowhere (OverloadAt units)
  pub overrides : Nowhere (BadOverrideAt units)

-- the place of a refusal that is the first of its number
pub record FirstPlace (P : ℕ → Type 0) (Place : ℕ → ℕ → ℕ → Type 0) (file at : ℕ) : Type 0 where
  pub i : ℕ
  pub holds : FirstAt P i
  pub place : Place i file at

abbrev pub IsRefused : List JavaUnit → Refusal → Type 0
IsRefused units (DuplicateClass file at) = FirstPlace (DuplicateClassAt units) (ClassPlace units) file at
IsRefused units (UnknownSuper file at) = Nowhere (DuplicateClassAt units) × FirstPlace (UnknownSuperAt units) (SuperPlace units) file at
IsRefused units (CyclicExtends file at) = Nowhere (DuplicateClassAt units) × Nowhere (UnknownSuperAt units) × FirstPlace (CyclicExtendsAt units) (ClassPlace units) file at
IsRefused units (DuplicateMember file at) = ClassesStand units × FirstPlace (DuplicateMemberAt units) (MemberPlace units) file at
IsRefused units (Hiding file at) = ClassesStand units × Nowhere (DuplicateMemberAt units) × FirstPlace (HidingAt units) (MemberPlace units) file at
IsRefused units (Overload file at) = ClassesStand units × Nowhere (DuplicateMemberAt units) × Nowhere (HidingAt units) × FirstPlace (OverloadAt units) (MemberPlace units) file at
IsRefused units (BadOverride file at) = ClassesStand units × Nowhere (DuplicateMemberAt units) × Nowhere (HidingAt units) × Nowhere (OverloadAt units) × FirstPlace (BadOverrideAt units) (MemberPlace units) file at
IsRefused units ManyClasses = ClassesStand units × MembersStand units × TooManyClasses units
IsRefused units ManyMethods = ClassesStand units × MembersStand units × (TooManyClasses units → ⊥) × TooManyMethods units

-- files whose classes are a program's, as far as classes tell
pub record AreClasses (units : List JavaUnit) : Type 0 where
  pub classes : ClassesStand units
  pub members : MembersStand units
  pub few_classes : TooManyClasses units → ⊥
  pub few_methods : TooManyMethods units → ⊥
