-- The fields of an object of a class.
use Rattle.std.specs.Prelude.{◌≡◌, ◌↔◌, ◌<◌, ◌++◌, ℕ, List, [], ◌∷◌, map, Option, Some, None}
use Rattle.std.specs.List.{Contains, slice_get}
use Rattle.jd_syntax.specs.JavaTrees.{JavaUnit}
use Rattle.jd_jclasses.specs.Classes.{IsAncestor}
use Rattle.jd_jclasses.specs.Members.{Declared}
use Rattle.jd_jclasses.specs.Methods.{HasField, fields}
use Rattle.jd_jinfos.specs.Views.{field_number}
use Rattle.jd_jinfos.specs.declared.info.ClassInfo.{ClassInfo}

-- the field of this number
pub record FieldAt (units : List JavaUnit) (f : ℕ) (P : Declared → Type 0) : Type 0 where
  pub field : Declared
  pub there : slice_get (fields units) f ≡ Some field
  pub holds : P field

-- one field comes before another: its class is an ancestor of the other's, or the same, which declares it before
pub data ComesBefore (units : List JavaUnit) (f g : ℕ) : Type 0 where
  of_an_ancestor : (a b : Declared) → slice_get (fields units) f ≡ Some a → slice_get (fields units) g ≡ Some b → IsAncestor units a.class b.class → ComesBefore units f g
  of_one_class : (a b : Declared) → slice_get (fields units) f ≡ Some a → slice_get (fields units) g ≡ Some b → a.class ≡ b.class → f < g → ComesBefore units f g

-- the numbers of the class's own fields and those of its ancestors (JLS 8.2), each before those that come behind it
pub record AreFieldsOf (units : List JavaUnit) (class : ℕ) (fs : List ℕ) : Type 0 where
  pub each : (f : ℕ) → Contains fs f ↔ FieldAt units f (HasField units class)
  pub in_order : (i j f g : ℕ) → i < j → slice_get fs i ≡ Some f → slice_get fs j ≡ Some g → ComesBefore units f g

-- a class, what it extends, and so on up to the topmost
pub data IsLineage (parents : List (Option ℕ)) : ℕ → List ℕ → Type 0 where
  topmost : (a : ℕ) → slice_get parents a ≡ Some None → IsLineage parents a (a ∷ [])
  extends : (a b : ℕ) (above : List ℕ) → slice_get parents b ≡ Some (Some a) → IsLineage parents a above → IsLineage parents b (b ∷ above)

-- what each of these classes has of its own, the last class first
abbrev pub along : (ℕ → List ℕ) → List ℕ → List ℕ
along own [] = []
along own (c ∷ cs) = along own cs ++ own c

abbrev pub fields_in : Option ClassInfo → List ℕ
fields_in None = []
fields_in (Some c) = map field_number c.fields.items

-- the numbers of the fields that the class of this number has of its own
abbrev pub own_fields : List ClassInfo → ℕ → List ℕ
own_fields classes class = fields_in (slice_get classes class)
