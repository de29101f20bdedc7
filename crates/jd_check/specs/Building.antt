-- The bodies of a program, class by class and member by member.
use Rattle.std.specs.Prelude.{◌≡◌, ⊤, ℕ, List, [], ◌∷◌, ◌++◌, map, Option, Some, None, IfOk}
use Rattle.std.specs.Global.{Vec}
use Rattle.std.specs.declared.result.Result.{Result}
use Rattle.jd_base.specs.declared.memory.NoMemory.{NoMemory}
use Rattle.jd_syntax.specs.CodeViews.{code_view}
use Rattle.jd_syntax.specs.JavaTrees.{JavaClass, JavaMember, JavaUnit, FieldMember, ConstantMember, MethodMember}
use Rattle.jd_syntax.specs.Names.{decl_view}
use Rattle.jd_code_makers.specs.Held.{names_of}
use Rattle.jd_jinfos.specs.Infos.{PlainClassInfo}
use Rattle.jd_bodies.specs.Bodies.{PlainBody, bodies, body_of}
use Rattle.jd_bodies.specs.Declarations.{AreDeclarations, Declarations}
use Rattle.jd_bodies.specs.Refused.{first_fault}
use Rattle.jd_check.specs.First.{IsFirst, refused_view}
use Rattle.jd_check.specs.declared.bodies.Body.{Body}
use Rattle.jd_check.specs.declared.bodies.CheckRefusal.{CheckRefusal}
use Rattle.jd_check.specs.declared.bodies.CheckRefusal.TheVariants as refusals

abbrev pub body_view : Body → PlainBody
body_view b = record { variables = map decl_view b.vars.items; code_ = code_view b.code; scopes = map names_of b.scopes.items }

abbrev pub GivesBodies : Result (Vec Body) NoMemory → List PlainBody → Type 0
GivesBodies r bs = IfOk r (λ v. map body_view v.items ≡ bs)

module _ (d : Declarations) where
  abbrev pub member_bodies : ℕ → JavaMember → List PlainBody
  member_bodies class (FieldMember f) = []
  member_bodies class (ConstantMember c) = []
  member_bodies class (MethodMember m) = body_of d class m ∷ []

  abbrev pub class_bodies : ℕ → List JavaMember → List PlainBody
  class_bodies class [] = []
  class_bodies class (m ∷ ms) = member_bodies class m ++ class_bodies class ms

  abbrev pub tree_bodies : ℕ → Option JavaClass → List PlainBody
  tree_bodies class None = []
  tree_bodies class (Some tree) = class_bodies class tree.members

  abbrev pub info_bodies : ℕ → PlainClassInfo → List PlainBody
  info_bodies class info = tree_bodies class info.decl

-- by what the program declares no token is refused, and these are its bodies
pub record AreBodies (d : Declarations) (units : List JavaUnit) (bs : List PlainBody) : Type 0 where
  pub none_refused : None ≡ first_fault d units
  pub bodies_ : bs ≡ bodies d units

-- this is the first refused token; want of memory says nothing of the files
abbrev pub IsRefusal : Declarations → List JavaUnit → CheckRefusal → Type 0
IsRefusal d units (refusals.Refused r) = Some (refused_view r) ≡ first_fault d units
IsRefusal d units refusals.NoMemory = ⊤

-- by some that are the program's
abbrev pub AreResolved : List JavaUnit → List PlainBody → Type 0
AreResolved units bs = (d : Declarations) × AreDeclarations units d × AreBodies d units bs

abbrev pub IsRefused : List JavaUnit → CheckRefusal → Type 0
IsRefused units (refusals.Refused r) = IsFirst units (Some (refused_view r))
IsRefused units refusals.NoMemory = ⊤
