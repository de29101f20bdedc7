-- Types of which one fits the other, or that are related, have one sort.
use Rattle.std.proofs.Common.{◌≡◌, ◌||◌, Bool, true, false, refl, sym}
use Rattle.jd_bodies.specs.Declarations.{Declarations}
use Rattle.jd_bodies.specs.Types.{are_related, fits}
use Rattle.jd_bodies.specs.Variables.{sort_of}
use Rattle.jd_bodies.specs.declared.value.ValueType.{ValueType}
use Rattle.jd_bodies.specs.declared.value.ValueType.TheVariants as types
use Rattle.jd_static_types.specs.Types.{IsKnown}

either : {A : Type 0} (x y : Bool) → (x ≡ true → A) → (y ≡ true → A) → (x || y) ≡ true → A
either true y f g e = f refl
either false y f g e = g e

module _ (d : Declarations) where
  fit_sorts : (a b : ValueType) → IsKnown a → IsKnown b → fits d a b ≡ true → sort_of a ≡ sort_of b
  fit_sorts types.Int types.Int k l e = refl
  fit_sorts types.Int types.Boolean k l e = absurd cc
  fit_sorts types.Int types.Null k l e = absurd cc
  fit_sorts types.Int types.IntArray k l e = absurd cc
  fit_sorts types.Int (types.Class c) k l e = absurd cc
  fit_sorts types.Int types.Missing k l e = absurd l
  fit_sorts types.Boolean types.Int k l e = absurd cc
  fit_sorts types.Boolean types.Boolean k l e = refl
  fit_sorts types.Boolean types.Null k l e = absurd cc
  fit_sorts types.Boolean types.IntArray k l e = absurd cc
  fit_sorts types.Boolean (types.Class c) k l e = absurd cc
  fit_sorts types.Boolean types.Missing k l e = absurd l
  fit_sorts types.Null types.Int k l e = absurd cc
  fit_sorts types.Null types.Boolean k l e = absurd cc
  fit_sorts types.Null types.Null k l e = refl
  fit_sorts types.Null types.IntArray k l e = refl
  fit_sorts types.Null (types.Class c) k l e = refl
  fit_sorts types.Null types.Missing k l e = absurd l
  fit_sorts types.IntArray types.Int k l e = absurd cc
  fit_sorts types.IntArray types.Boolean k l e = absurd cc
  fit_sorts types.IntArray types.Null k l e = absurd cc
  fit_sorts types.IntArray types.IntArray k l e = refl
  fit_sorts types.IntArray (types.Class c) k l e = refl
  fit_sorts types.IntArray types.Missing k l e = absurd l
  fit_sorts (types.Class a) types.Int k l e = absurd cc
  fit_sorts (types.Class a) types.Boolean k l e = absurd cc
  fit_sorts (types.Class a) types.Null k l e = absurd cc
  fit_sorts (types.Class a) types.IntArray k l e = absurd cc
  fit_sorts (types.Class a) (types.Class c) k l e = refl
  fit_sorts (types.Class a) types.Missing k l e = absurd l
  fit_sorts types.Missing types.Int k l e = absurd k
  fit_sorts types.Missing types.Boolean k l e = absurd k
  fit_sorts types.Missing types.Null k l e = absurd k
  fit_sorts types.Missing types.IntArray k l e = absurd k
  fit_sorts types.Missing (types.Class c) k l e = absurd k
  fit_sorts types.Missing types.Missing k l e = absurd k

  pub related_sorts : (a b : ValueType) → IsKnown a → IsKnown b → are_related d a b ≡ true → sort_of a ≡ sort_of b
  related_sorts a b k l e = either (fits d a b) (fits d b a) (λ f. fit_sorts a b k l f) (λ f. sym (fit_sorts b a l k f)) e

  -- of known types an int alone is wanted where an int is
  pub is_int : (t : ValueType) → IsKnown t → fits d t types.Int ≡ true → t ≡ types.Int
  is_int types.Int k e = refl
  is_int types.Boolean k e = absurd cc
  is_int types.Null k e = absurd cc
  is_int types.IntArray k e = absurd cc
  is_int (types.Class c) k e = absurd cc
  is_int types.Missing k e = absurd k
