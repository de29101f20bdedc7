-- The words of terms, formulas and code.
use Rattle.std.specs.Prelude.{ℕ, List, ◌∷◌, Bool, true, false, codes}
use Rattle.jd_base.specs.declared.sort.Sort.{Sort}
use Rattle.jd_base.specs.declared.sort.Sort.TheVariants.{Int as IntSort, Bool as BoolSort, Ref as RefSort, Heap as HeapSort, Field as FieldSort}
use Rattle.jd_syntax.specs.declared.code.UnaryOp.{UnaryOp}
use Rattle.jd_syntax.specs.declared.code.UnaryOp.TheVariants as unary
use Rattle.jd_syntax.specs.declared.code.BinaryOp.{BinaryOp}
use Rattle.jd_syntax.specs.declared.code.BinaryOp.TheVariants as binary
use Rattle.jd_term.specs.declared.term.ArithmeticOp.{ArithmeticOp}
use Rattle.jd_term.specs.declared.term.ArithmeticOp.TheVariants as arithmetic
use Rattle.jd_term.specs.declared.formula.Modality.{Modality}
use Rattle.jd_term.specs.declared.formula.Modality.TheVariants as modalities
use Rattle.jd_written.specs.Written.{number_text}

abbrev pub sort_word : Sort → List ℕ
sort_word IntSort = codes "Int"
sort_word BoolSort = codes "Bool"
sort_word RefSort = codes "Ref"
sort_word HeapSort = codes "Heap"
sort_word FieldSort = codes "Field"

abbrev pub truth_word : Bool → List ℕ
truth_word true = codes "true"
truth_word false = codes "false"

abbrev pub arithmetic_word : ArithmeticOp → List ℕ
arithmetic_word arithmetic.Add = codes "add"
arithmetic_word arithmetic.Subtract = codes "sub"
arithmetic_word arithmetic.Multiply = codes "mul"
arithmetic_word arithmetic.Divide = codes "div"
arithmetic_word arithmetic.Remainder = codes "mod"

-- reading from a heap gives an integer, a truth value or a reference
abbrev pub select_word : Sort → List ℕ
select_word IntSort = codes "selI"
select_word BoolSort = codes "selB"
select_word _ = codes "selR"

abbrev pub modality_word : Modality → List ℕ
modality_word modalities.Necessity = codes "box"
modality_word modalities.Possibility = codes "dia"

abbrev pub unary_word : UnaryOp → List ℕ
unary_word unary.Negate = codes "neg"
unary_word unary.Invert = codes "not"

abbrev pub binary_word : BinaryOp → List ℕ
binary_word binary.Add = codes "add"
binary_word binary.Subtract = codes "sub"
binary_word binary.Multiply = codes "mul"
binary_word binary.Divide = codes "div"
binary_word binary.Remainder = codes "mod"
binary_word binary.Less = codes "lt"
binary_word binary.LessOrEqual = codes "le"
binary_word binary.Greater = codes "gt"
binary_word binary.GreaterOrEqual = codes "ge"
binary_word binary.Equal = codes "eq"
binary_word binary.NotEqual = codes "ne"

-- `%k`
abbrev pub bound_word : ℕ → List ℕ
bound_word k = 37 ∷ number_text k

-- `lN`
abbrev pub label_word : ℕ → List ℕ
label_word l = 108 ∷ number_text l

-- `int[]`
abbrev pub array_word : List ℕ
array_word = codes "int[]"
