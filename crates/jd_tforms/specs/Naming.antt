-- What the words of a text stand for.
use Rattle.std.specs.Prelude.{ℕ, zero, suc, List, [], ◌∷◌, ◌++◌, Bool, true, false, not, cond, ◌==◌, ◌&&◌, Option, Some, None, option_map, codes}
use Rattle.std.specs.List.{list_all, find}
use Rattle.std.specs.Option.{option_and_then, option_or}
use Rattle.std.specs.Str.{bytes_eq}
use Rattle.jd_base.specs.declared.sort.Sort.{Sort}
use Rattle.jd_base.specs.declared.sort.Sort.TheVariants.{Int as IntSort, Bool as BoolSort, Ref as RefSort, Heap as HeapSort, Field as FieldSort}
use Rattle.jd_syntax.specs.Names.{Name}
use Rattle.jd_syntax.specs.Codes as code
use Rattle.jd_syntax.specs.Codes.{PlainKind, OfClass, IntArray, Expr}
use Rattle.jd_term.specs.Terms as terms
use Rattle.jd_term.specs.Terms.{PlainTerm, PlainLoc}
use Rattle.jd_tgrammar.specs.NameTables.{NameTable, FieldName, RoutineName, member_word}
use Rattle.jd_tgrammar.specs.Spelling.{class_word, routine}
use Rattle.jd_tgrammar.specs.Words.{sort_word, truth_word, array_word}
use Rattle.jd_tforms.specs.Shapes.{is_special_byte, is_name, bound_number, integer_of, wide, narrow}

-- the number of the first that passes
abbrev pub number_where : {A : Type 0} → (A → Bool) → List A → Option ℕ
number_where test [] = None
number_where test (x ∷ xs) = cond (test x) (Some 0) (option_map suc (number_where test xs))

-- the one of that number
abbrev pub at_number : {A : Type 0} → List A → ℕ → Option A
at_number [] k = None
at_number (x ∷ xs) zero = Some x
at_number (x ∷ xs) (suc k) = at_number xs k

-- something, where the word is this one
abbrev pub if_word : {A : Type 0} → List ℕ → A → List ℕ → Option A
if_word v x w = cond (bytes_eq v w) (Some x) None

-- something, where the word is a name
abbrev pub if_name : {A : Type 0} → List ℕ → Option A → Option A
if_name w o = cond (is_name w) o None

-- ---- names that tell their sort

abbrev pub letter_sort : ℕ → Option Sort
letter_sort b =
    cond (b == 105) (Some IntSort)
    (cond (b == 98) (Some BoolSort)
    (cond (b == 114) (Some RefSort)
    (cond (b == 104) (Some HeapSort)
    (cond (b == 102) (Some FieldSort) None))))

-- a sign, the letter of a sort, and what may follow it
abbrev pub special_sort : ℕ → List ℕ → Option Sort
special_sort sign [] = None
special_sort sign (a ∷ []) = None
special_sort sign (a ∷ b ∷ bs) = cond ((a == sign) && list_all is_special_byte bs) (letter_sort b) None

abbrev pub not_field : Sort → Option Sort
not_field IntSort = Some IntSort
not_field BoolSort = Some BoolSort
not_field RefSort = Some RefSort
not_field HeapSort = Some HeapSort
not_field FieldSort = None

abbrev pub named : List ℕ → Sort → Name
named w s = record { text = w; sort = s }

-- `#..`
abbrev pub constant_of : List ℕ → Option Name
constant_of w = if_name w (option_map (named w) (special_sort 35 w))

-- `@..`, for which there are no fields
abbrev pub special_of : List ℕ → Option Name
special_of w = option_map (named w) (option_and_then not_field (special_sort 64 w))

-- ---- words with a fixed meaning

abbrev pub truth_of : List ℕ → Option Bool
truth_of w = option_or (if_word (truth_word true) true w) (if_word (truth_word false) false w)

-- the sorts of quantified variables
abbrev pub quantified : List Sort
quantified = IntSort ∷ BoolSort ∷ RefSort ∷ FieldSort ∷ []

abbrev pub sort_of_word : List ℕ → Option Sort
sort_of_word w = find (λ s. bytes_eq (sort_word s) w) quantified

-- `%k` under binders of these sorts, the innermost first
abbrev pub bound_of : List Sort → List ℕ → Option PlainTerm
bound_of ctx w = option_and_then (λ k. option_map (terms.Bound k) (at_number ctx k)) (bound_number w)

-- ---- names

module _ (names : NameTable) where
  abbrev pub class_of : List ℕ → Option ℕ
  class_of w = if_name w (number_where (λ c. bytes_eq c w) names.classes)

  abbrev pub kind_of : List ℕ → Option PlainKind
  kind_of w = option_or (if_word array_word IntArray w) (option_map OfClass (class_of w))

  -- `C.f`, where C declares the field
  abbrev pub is_field : List ℕ → FieldName → Bool
  is_field w f = bytes_eq (member_word (class_word names f.class) f.name) w

  abbrev pub field_of : List ℕ → Option ℕ
  field_of w = if_name w (number_where (is_field w) names.fields)

  -- `C.m`, where C declares the static method
  abbrev pub is_static : List ℕ → RoutineName → Bool
  is_static w r = r.static && not r.constructor && bytes_eq (member_word (class_word names r.class) r.name) w

  abbrev pub static_of : List ℕ → Option ℕ
  static_of w = if_name w (number_where (is_static w) names.routines)

  -- a class with a constructor of its own
  abbrev pub is_constructor : List ℕ → RoutineName → Bool
  is_constructor w r = r.constructor && bytes_eq (class_word names r.class) w

  abbrev pub constructor_of : List ℕ → Option ℕ
  constructor_of w = if_name w (number_where (is_constructor w) names.routines)

  -- what stands before the first dot and behind it
  abbrev pub parted : List ℕ → List ℕ → Option (List ℕ × List ℕ)
  parted front [] = None
  parted front (b ∷ bs) = cond (b == 46) (Some (front, bs)) (parted (front ++ b ∷ []) bs)

  -- whether it is a method with a receiver that has this name
  abbrev pub is_method : List ℕ → RoutineName → Bool
  is_method name r = not r.static && not r.constructor && bytes_eq r.name name

  -- the method that the class sees by the name, where it is not static
  abbrev pub seen_method : List ℕ → ℕ → Option (ℕ × ℕ)
  seen_method name c = option_and_then (λ m. cond (is_method name (routine names m)) (Some (c, m)) None) (names.seen c name)

  -- the method of that class and name
  abbrev pub method_at : List ℕ × List ℕ → Option (ℕ × ℕ)
  method_at p = option_and_then (seen_method p.1) (class_of p.0)

  -- `C.m`, where C sees the method, which is not static
  abbrev pub method_of : List ℕ → Option (ℕ × ℕ)
  method_of w = if_name w (option_and_then method_at (parted [] w))

  abbrev pub variable_of : List ℕ → Option Name
  variable_of w = if_name w (option_or (special_of w) (find (λ (x : Name). bytes_eq x.text w) names.variables))

  abbrev pub result_of : List ℕ → Option (Option Name)
  result_of w = option_or (if_word (codes "-") None w) (option_map Some (variable_of w))

  -- ---- terms and expressions of one word

  abbrev pub word_term : List Sort → List ℕ → Option PlainTerm
  word_term ctx w =
      option_or (option_map terms.Boolean (truth_of w))
      (option_or (if_word (codes "null") terms.NullTerm w)
      (option_or (if_word (codes "created") terms.CreatedField w)
      (option_or (option_map terms.Number (integer_of wide w))
      (option_or (bound_of ctx w)
      (option_or (option_map terms.Constant (constant_of w))
      (option_or (option_map terms.ProgramVariable (variable_of w))
      (option_map terms.NamedField (field_of w))))))))

  abbrev pub word_expr : List ℕ → Option Expr
  word_expr w =
      option_or (option_map code.BoolLiteral (truth_of w))
      (option_or (if_word (codes "null") code.NullLiteral w)
      (option_or (option_map code.IntLiteral (integer_of narrow w))
      (option_map code.Variable (variable_of w))))

abbrev pub word_loc : List ℕ → Option PlainLoc
word_loc w = option_or (if_word (codes "none") terms.NoLocations w) (if_word (codes "all") terms.AllLocations w)
