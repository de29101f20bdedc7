-- Members of constructors' rows.
use Rattle.std.specs.Prelude.{ℕ, List, [], map}
use Rattle.jd_base.specs.declared.sort.Sort.{Sort}
use Rattle.jd_syntax.specs.Codes.{OfClass}
use Rattle.jd_syntax.specs.CodeNames.{heap_name}
use Rattle.jd_term.specs.Terms.{ProgramVariable, Constant, Select, NamedField}
use Rattle.jd_term.specs.Formulas.{PlainFormula, Implies, Equal, Invariant, IsExactInstance}
use Rattle.jd_model.specs.SpecialNames.{entry_heap, receiver}
use Rattle.jd_model.specs.Cases.{Role, Static, Ordinary, Helper, ConstructorOf}
use Rattle.jd_case_rows.specs.Rows.{default_term}

-- the field of the new object is as no one has written it
abbrev pub listed_member : ℕ × Sort → PlainFormula
listed_member f = Equal (Select f.1 (Constant entry_heap) (Constant receiver) (NamedField f.0)) (default_term f.1)

abbrev pub listed_members : List (ℕ × Sort) → List PlainFormula
listed_members fs = map listed_member fs

abbrev pub fields_listed : Role → List (ℕ × Sort) → List PlainFormula
fields_listed Static fs = []
fields_listed Ordinary fs = []
fields_listed Helper fs = []
fields_listed (ConstructorOf a) fs = listed_members fs

-- the object has its invariant where it is exactly of the class
abbrev pub established : ℕ → PlainFormula
established a = Implies (IsExactInstance (OfClass a) (Constant receiver)) (Invariant (ProgramVariable heap_name) (Constant receiver))
