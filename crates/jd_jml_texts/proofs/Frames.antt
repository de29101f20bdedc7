-- What a node of each name shows.
use Rattle.std.proofs.Common.{◌≡◌, ◌⊎◌, ℕ, List, [], ◌∷◌, ◌++◌, map, cond, Option, Some, None, codes, slice_index_or}
use Rattle.std.specs.List.{flat_map}
use Rattle.jd_syntax.specs.JavaTypes.{PlainIdentifier, PlainWritten}
use Rattle.jd_syntax.specs.SpecTrees.{PlainSpec, PlainLocation, specs_of}
use Rattle.jd_jml_values.specs.Values as values
use Rattle.jd_jml_values.specs.Values.{PlainSuffix, PlainStart, PlainEnd, PlainValue}
use Rattle.jd_jml_values.specs.Parts.{expression_of, some_expression, suffixes_of, arguments_of, some_name, bound_type_of, is_dimension, locations_of, clauses_of, names_of}
use Rattle.jd_jml_clauses.specs.Meaning.{truth_of}
use Rattle.jd_jml_print.specs.Texts.{Texts, infix_text, truth_text, quantifier_text, type_texts, spec_type_texts, spec_texts, specs_texts, more_texts, location_texts, separated, exception_texts, classes_texts}
use Rattle.jd_jml_texts.specs.Kept.{all_texts}

-- ---- texts of values

abbrev pub suffix_texts : PlainSuffix → Texts
suffix_texts (values.Infix o e) = infix_text o ∷ spec_texts e
suffix_texts (values.InstanceOf t) = codes "instanceof" ∷ type_texts t.written
suffix_texts (values.Choice a b) = codes "?" ∷ spec_texts a ++ codes ":" ∷ spec_texts b
suffix_texts (values.Implies e) = codes "==>" ∷ spec_texts e
suffix_texts (values.Equivalent e) = codes "<==>" ∷ spec_texts e
suffix_texts (values.Member x) = codes "." ∷ x.name ∷ []
suffix_texts (values.Method x es) = codes "." ∷ x.name ∷ codes "(" ∷ specs_texts (specs_of es) ++ codes ")" ∷ []
suffix_texts (values.Element i) = codes "[" ∷ spec_texts i ++ codes "]" ∷ []

abbrev pub suffixes_texts : List PlainSuffix → Texts
suffixes_texts ss = flat_map suffix_texts ss

-- behind `(`
abbrev pub start_texts : PlainStart → Texts
start_texts (values.Inside e) = spec_texts e ++ codes ")" ∷ []
start_texts (values.Cast t e) = type_texts t.written ++ codes ")" ∷ spec_texts e
start_texts (values.Quantified q t x e) = quantifier_text q ∷ spec_type_texts t ++ (x.name ∷ codes ";" ∷ spec_texts e ++ codes ")" ∷ [])
start_texts (values.QuantifiedIn q t x r e) =
    quantifier_text q ∷ spec_type_texts t ++ (x.name ∷ codes ";" ∷ spec_texts r ++ (codes ";" ∷ spec_texts e ++ codes ")" ∷ []))
start_texts (values.Sum x a b e) =
    codes "\\sum" ∷ codes "int" ∷ x.name ∷ codes ";"
    ∷ spec_texts a ++ (codes "<=" ∷ x.name ∷ codes "&&" ∷ x.name ∷ codes "<" ∷ spec_texts b ++ (codes ";" ∷ spec_texts e ++ codes ")" ∷ []))

abbrev pub end_texts : PlainEnd → Texts
end_texts (values.FieldEnd x) = codes "." ∷ x.name ∷ []
end_texts values.AllFieldsEnd = codes "." ∷ codes "*" ∷ []
end_texts (values.ElementEnd i) = codes "[" ∷ spec_texts i ++ codes "]" ∷ []
end_texts (values.RangeEnd i j) = codes "[" ∷ spec_texts i ++ (codes ".." ∷ spec_texts j ++ codes "]" ∷ [])
end_texts values.AllElementsEnd = codes "[" ∷ codes "*" ∷ codes "]" ∷ []

abbrev pub steps_texts : List PlainSuffix → PlainEnd → Texts
steps_texts ss end = suffixes_texts ss ++ end_texts end

-- behind the name of a location
abbrev pub behind_name_texts : PlainValue → Texts
behind_name_texts (values.Steps ss end) = steps_texts ss end
behind_name_texts (values.Invoked es ss end) = (codes "(" ∷ specs_texts (specs_of es) ++ codes ")" ∷ []) ++ steps_texts ss end
behind_name_texts _ = []

-- behind an index
abbrev pub behind_index_texts : PlainValue → Texts
behind_index_texts (values.Steps ss end) = codes "]" ∷ steps_texts ss end
behind_index_texts (values.Bound j) = codes ".." ∷ spec_texts j ++ codes "]" ∷ []
behind_index_texts _ = codes "]" ∷ []

-- behind `int` in a cast
abbrev pub int_cast_texts : PlainValue → Texts
int_cast_texts (values.ArrayOperand e) = codes "[" ∷ codes "]" ∷ codes ")" ∷ spec_texts e
int_cast_texts v = codes ")" ∷ spec_texts (expression_of v)

-- behind `)`
abbrev pub behind_parenthesis_texts : PlainValue → Texts
behind_parenthesis_texts (values.Expression e) = spec_texts e
behind_parenthesis_texts v = suffixes_texts (suffixes_of v)

abbrev pub behind_range_texts : Option PlainSpec → Texts
behind_range_texts None = codes ")" ∷ []
behind_range_texts (Some e) = codes ";" ∷ spec_texts e ++ codes ")" ∷ []

abbrev pub call_texts : Option (List PlainSpec) → Texts
call_texts None = []
call_texts (Some es) = codes "(" ∷ specs_texts (specs_of es) ++ codes ")" ∷ []

abbrev pub behind_commas : List Texts → Texts
behind_commas xs = flat_map (λ y. codes "," ∷ y) xs

abbrev pub names_texts : List PlainIdentifier → List Texts
names_texts xs = map (λ x. x.name ∷ []) xs

-- ---- what is shown

abbrev pub IsExpr : PlainValue → Texts → Type 0
IsExpr v t = (e : PlainSpec) × (v ≡ values.Expression e) × (t ≡ spec_texts e)

abbrev pub AreSuffixes : PlainValue → Texts → Type 0
AreSuffixes v t = (ss : List PlainSuffix) × (v ≡ values.Suffixes ss) × (t ≡ suffixes_texts ss)

abbrev pub IsStart : PlainValue → Texts → Type 0
IsStart v t = (s : PlainStart) × (ss : List PlainSuffix) × (v ≡ values.Started s ss) × (t ≡ start_texts s ++ suffixes_texts ss)

abbrev pub AreSteps : Texts → PlainValue → Texts → Type 0
AreSteps before v t = (ss : List PlainSuffix) × (end : PlainEnd) × (v ≡ values.Steps ss end) × (before ++ t ≡ steps_texts ss end)

abbrev pub AreExprs : (List PlainSpec → Texts) → PlainValue → Texts → Type 0
AreExprs texts v t = (es : List PlainSpec) × (v ≡ values.Expressions es) × (t ≡ texts es)

abbrev pub IsNamed : PlainValue → Texts → Type 0
IsNamed v t = (x : PlainIdentifier) × (v ≡ values.Named x) × (t ≡ x.name ∷ [])

abbrev pub IsTyped : PlainValue → Texts → Type 0
IsTyped v t = (x : PlainWritten) × (v ≡ values.Typed x) × (t ≡ type_texts x.written)

abbrev pub IsLocation : PlainValue → Texts → Type 0
IsLocation v t = (l : PlainLocation) × (locations_of v ≡ l ∷ []) × (t ≡ location_texts l)

-- ---- by name

pub data Frame : Type 0 where
  Clauses : Frame
  Expression : Frame
  Suffixes : Frame
  Start : Frame
  Identifier : Frame
  ExceptionName : Frame
  Exceptions : Frame
  MoreExceptions : Frame
  Locations : Frame
  MoreLocations : Frame
  Location : Frame
  Truth : Frame
  BehindLocationName : Frame
  LocationStep : Frame
  LocationMember : Frame
  LocationIndex : Frame
  BehindLocationIndex : Frame
  BehindLocationElement : Frame
  Written : Frame
  BoundType : Frame
  Dimension : Frame
  IntCast : Frame
  BehindParenthesis : Frame
  BehindRange : Frame
  Call : Frame
  Invocation : Frame
  Arguments : Frame
  MoreArguments : Frame

abbrev pub shown_by : Frame → PlainValue → Texts → Type 0
shown_by Clauses v t = t ≡ all_texts (clauses_of v)
shown_by Expression v t = IsExpr v t
shown_by Suffixes v t = AreSuffixes v t
shown_by Start v t = IsStart v t
shown_by Identifier v t = IsNamed v t
shown_by ExceptionName v t = t ≡ exception_texts (some_name v)
shown_by Exceptions v t = t ≡ classes_texts (names_of v)
shown_by MoreExceptions v t = t ≡ behind_commas (names_texts (names_of v))
shown_by Locations v t = t ≡ separated (map location_texts (locations_of v))
shown_by MoreLocations v t = t ≡ behind_commas (map location_texts (locations_of v))
shown_by Location v t = IsLocation v t
shown_by Truth v t = t ≡ truth_text (truth_of (expression_of v)) ∷ []
shown_by BehindLocationName v t = t ≡ behind_name_texts v
shown_by LocationStep v t = AreSteps [] v t
shown_by LocationMember v t = AreSteps (codes "." ∷ []) v t
shown_by LocationIndex v t = AreSteps (codes "[" ∷ []) v t
shown_by BehindLocationIndex v t = t ≡ behind_index_texts v
shown_by BehindLocationElement v t = ((v ≡ values.Nothing) × (t ≡ [])) ⊎ AreSteps [] v t
shown_by Written v t = IsTyped v t
shown_by BoundType v t = t ≡ spec_type_texts (bound_type_of v)
shown_by Dimension v t = t ≡ cond (is_dimension v) (codes "[" ∷ codes "]" ∷ []) []
shown_by IntCast v t = t ≡ int_cast_texts v
shown_by BehindParenthesis v t = t ≡ behind_parenthesis_texts v
shown_by BehindRange v t = t ≡ behind_range_texts (some_expression v)
shown_by Call v t = t ≡ call_texts (arguments_of v)
shown_by Invocation v t = AreExprs (λ es. codes "(" ∷ specs_texts (specs_of es) ++ codes ")" ∷ []) v t
shown_by Arguments v t = AreExprs (λ es. specs_texts (specs_of es) ++ codes ")" ∷ []) v t
shown_by MoreArguments v t = AreExprs (λ es. more_texts (specs_of es) ++ codes ")" ∷ []) v t

-- in the order of the names
abbrev pub frames : List Frame
frames =
    Clauses
    ∷ Clauses
    ∷ Clauses
    ∷ Clauses
    ∷ Clauses
    ∷ Clauses
    ∷ Clauses
    ∷ Clauses
    ∷ Clauses
    ∷ Clauses
    ∷ Clauses
    ∷ Clauses
    ∷ Clauses
    ∷ Clauses
    ∷ Clauses
    ∷ Clauses
    ∷ Clauses
    ∷ Clauses
    ∷ Expression
    ∷ Identifier
    ∷ ExceptionName
    ∷ Exceptions
    ∷ Locations
    ∷ Truth
    ∷ MoreExceptions
    ∷ Location
    ∷ MoreLocations
    ∷ BehindLocationName
    ∷ Expression
    ∷ LocationStep
    ∷ Start
    ∷ Start
    ∷ Invocation
    ∷ LocationMember
    ∷ LocationIndex
    ∷ BehindLocationIndex
    ∷ BehindLocationElement
    ∷ Expression
    ∷ Suffixes
    ∷ Expression
    ∷ Suffixes
    ∷ Expression
    ∷ Suffixes
    ∷ Expression
    ∷ Suffixes
    ∷ Expression
    ∷ Suffixes
    ∷ Expression
    ∷ Suffixes
    ∷ Expression
    ∷ Suffixes
    ∷ Written
    ∷ Written
    ∷ Expression
    ∷ Suffixes
    ∷ Expression
    ∷ Suffixes
    ∷ Expression
    ∷ Start
    ∷ Call
    ∷ Suffixes
    ∷ IntCast
    ∷ BehindParenthesis
    ∷ BoundType
    ∷ BehindRange
    ∷ Dimension
    ∷ Arguments
    ∷ MoreArguments
    ∷ []

abbrev pub frame_of : ℕ → Frame
frame_of a = slice_index_or frames a Clauses

-- a node of that name with that value has these texts
abbrev pub Shown : ℕ → PlainValue → Texts → Type 0
Shown a v t = shown_by (frame_of a) v t
