-- What members agree in, as texts: no such text begins another, so that they can stand one behind the other.
use Rattle.std.specs.Prelude.{ℕ, Bool, true, false, List, [], ◌∷◌, ◌++◌, map, Option, Some, None}
use Rattle.jd_syntax.specs.JavaTypes.{PlainType, IntType, BooleanType, IntArrayType, NamedType}
use Rattle.jd_syntax.specs.JavaTrees.{JavaParameter}
use Rattle.jd_jclasses.specs.Members.{Declared, parameter_types, result_of, is_static}
use Rattle.jd_jnumbers.specs.declared.agreement.Agreement.{Agreement}
use Rattle.jd_jnumbers.specs.declared.agreement.Agreement.TheVariants as code

-- each byte behind a 1, then a 0
abbrev pub encoded_name : List ℕ → List ℕ
encoded_name [] = 0 ∷ []
encoded_name (b ∷ bs) = 1 ∷ b ∷ encoded_name bs

abbrev pub encoded_type : PlainType → List ℕ
encoded_type IntType = 0 ∷ []
encoded_type BooleanType = 1 ∷ []
encoded_type IntArrayType = 2 ∷ []
encoded_type (NamedType name) = 3 ∷ encoded_name name

abbrev pub encoded_types : List PlainType → List ℕ
encoded_types [] = []
encoded_types (t ∷ ts) = encoded_type t ++ encoded_types ts

abbrev pub encoded_result : Option PlainType → List ℕ
encoded_result None = 4 ∷ []
encoded_result (Some t) = encoded_type t

abbrev pub encoded_static : Bool → List ℕ
encoded_static true = 5 ∷ []
encoded_static false = 6 ∷ []

abbrev pub types_of : List JavaParameter → List PlainType
types_of ps = map (λ p. p.ty.written) ps

abbrev pub signature_text : Declared → List ℕ
signature_text d = encoded_name d.name.name ++ encoded_types (parameter_types d.kind)

abbrev pub return_text : Declared → List ℕ
return_text d = encoded_name d.name.name ++ encoded_result (result_of d.kind) ++ encoded_static (is_static d.kind)

abbrev pub text_by : Agreement → Declared → List ℕ
text_by code.Name d = d.name.name
text_by code.Signature d = signature_text d
text_by code.Return d = return_text d
