-- References, fields and locations (JLS 4.3.1; The KeY Book, 2.4.1).
use Rattle.std.specs.Prelude.{ℕ, ℤ, Bool, true, false}

-- null, an object of a class with its number, or an array of a length with its number
pub data Reference : Type 0 where
  Null : Reference
  Object : (class number : ℕ) → Reference
  Array : (length number : ℕ) → Reference

-- a declared field, the field that tells whether an object is created, or an array's element at an index
pub data Field : Type 0 where
  Named : ℕ → Field
  Created : Field
  Index : ℤ → Field

pub record Location : Type 0 where
  pub at : Reference
  pub field : Field

abbrev pub location : Reference → Field → Location
location o f = record { at = o; field = f }

abbrev pub is_null : Reference → Bool
is_null Null = true
is_null r = false

abbrev pub is_created_field : Field → Bool
is_created_field Created = true
is_created_field f = false
