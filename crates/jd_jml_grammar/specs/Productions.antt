-- The grammar of JML at its five places (JML Reference Manual, appendix A), with left factors taken out, so that the next token
-- decides. The numbers are the sections of the JML Reference Manual, or of the JLS where it is named.
use Rattle.std.specs.Prelude.{List, [], ◌∷◌}
use Rattle.jd_grammar.specs.declared.table.Symbol.TheVariants.{Token, Name}
use Rattle.jd_grammar.specs.Grammars.{Production, produces}
use Rattle.jd_jml_grammar.specs.declared.kinds.TheConstants as kinds
use Rattle.jd_jml_grammar.specs.declared.names.TheConstants as names

abbrev pub jml_productions : List Production
jml_productions =
    -- ---- Clauses and words at their places (JML Reference Manual, 6.2, 8, 9, 13.2)
    -- Before a method: invariants, then one contract at most, with words before or behind it
    produces names.METHOD_SPECS (Name names.INVARIANT_CLAUSE ∷ Name names.METHOD_SPECS ∷ [])
    ∷ produces names.METHOD_SPECS (Token kinds.VISIBILITY ∷ Name names.METHOD_SPECS_BEHIND_VISIBILITY ∷ [])
    ∷ produces names.METHOD_SPECS (Name names.CONTRACT ∷ [])
    ∷ produces names.METHOD_SPECS (Name names.MODIFIER_WORD ∷ Name names.METHOD_SPECS_BEHIND_WORD ∷ [])
    ∷ produces names.METHOD_SPECS []
    ∷ produces names.METHOD_SPECS_BEHIND_VISIBILITY (Name names.INVARIANT_CLAUSE ∷ Name names.METHOD_SPECS ∷ [])
    ∷ produces names.METHOD_SPECS_BEHIND_VISIBILITY (Name names.BEHAVIOR_CASE ∷ Name names.MORE_CASES ∷ Name names.MODIFIER_WORDS ∷ [])
    ∷ produces names.METHOD_SPECS_BEHIND_WORD (Name names.MODIFIER_WORD ∷ Name names.METHOD_SPECS_BEHIND_WORD ∷ [])
    ∷ produces names.METHOD_SPECS_BEHIND_WORD (Name names.CONTRACT ∷ [])
    ∷ produces names.METHOD_SPECS_BEHIND_WORD (Token kinds.VISIBILITY ∷ Name names.BEHAVIOR_CASE ∷ Name names.MORE_CASES ∷ Name names.MODIFIER_WORDS ∷ [])
    ∷ produces names.METHOD_SPECS_BEHIND_WORD []
    -- Before a field
    ∷ produces names.FIELD_SPECS (Name names.INVARIANT_CLAUSE ∷ Name names.FIELD_SPECS ∷ [])
    ∷ produces names.FIELD_SPECS (Token kinds.VISIBILITY ∷ Name names.INVARIANT_CLAUSE ∷ Name names.FIELD_SPECS ∷ [])
    ∷ produces names.FIELD_SPECS (Name names.MODIFIER_WORDS ∷ [])
    -- At modifiers
    ∷ produces names.MODIFIER_SPECS (Name names.MODIFIER_WORDS ∷ [])
    -- Before a loop
    ∷ produces names.LOOP_SPECS (Name names.LOOP_CLAUSE ∷ Name names.LOOP_SPECS ∷ [])
    ∷ produces names.LOOP_SPECS []
    -- Before the brace that closes a class
    ∷ produces names.CLASS_END_SPECS (Name names.INVARIANT_CLAUSE ∷ Name names.CLASS_END_SPECS ∷ [])
    ∷ produces names.CLASS_END_SPECS (Token kinds.VISIBILITY ∷ Name names.INVARIANT_CLAUSE ∷ Name names.CLASS_END_SPECS ∷ [])
    ∷ produces names.CLASS_END_SPECS []
    -- 6.2, words
    ∷ produces names.MODIFIER_WORDS (Name names.MODIFIER_WORD ∷ Name names.MODIFIER_WORDS ∷ [])
    ∷ produces names.MODIFIER_WORDS []
    ∷ produces names.MODIFIER_WORD (Token kinds.PURE ∷ [])
    ∷ produces names.MODIFIER_WORD (Token kinds.HELPER ∷ [])
    ∷ produces names.MODIFIER_WORD (Token kinds.NULLABLE ∷ [])
    ∷ produces names.MODIFIER_WORD (Token kinds.NON_NULL ∷ [])
    ∷ produces names.MODIFIER_WORD (Token kinds.SPEC_PUBLIC ∷ [])
    ∷ produces names.MODIFIER_WORD (Token kinds.SPEC_PROTECTED ∷ [])
    -- 9.2 to 9.6, contracts and their cases
    ∷ produces names.CONTRACT (Token kinds.ALSO ∷ Name names.SPEC_CASE ∷ Name names.MORE_CASES ∷ Name names.MODIFIER_WORDS ∷ [])
    ∷ produces names.CONTRACT (Name names.BARE_CASE ∷ Name names.MORE_CASES ∷ Name names.MODIFIER_WORDS ∷ [])
    ∷ produces names.SPEC_CASE (Token kinds.VISIBILITY ∷ Name names.BEHAVIOR_CASE ∷ [])
    ∷ produces names.SPEC_CASE (Name names.BARE_CASE ∷ [])
    ∷ produces names.BARE_CASE (Name names.BEHAVIOR_CASE ∷ [])
    ∷ produces names.BARE_CASE (Name names.CLAUSE ∷ Name names.CLAUSES ∷ [])
    ∷ produces names.BEHAVIOR_CASE (Token kinds.NORMAL_BEHAVIOR ∷ Name names.CLAUSES ∷ [])
    ∷ produces names.BEHAVIOR_CASE (Token kinds.EXCEPTIONAL_BEHAVIOR ∷ Name names.CLAUSES ∷ [])
    ∷ produces names.BEHAVIOR_CASE (Token kinds.BEHAVIOR ∷ Name names.CLAUSES ∷ [])
    ∷ produces names.MORE_CASES (Token kinds.ALSO ∷ Name names.SPEC_CASE ∷ Name names.MORE_CASES ∷ [])
    ∷ produces names.MORE_CASES []
    ∷ produces names.CLAUSES (Name names.CLAUSE ∷ Name names.CLAUSES ∷ [])
    ∷ produces names.CLAUSES []
    -- 9.9, clauses of a case
    ∷ produces names.CLAUSE (Token kinds.REQUIRES ∷ Name names.EXPRESSION ∷ Token kinds.SEMICOLON ∷ [])
    ∷ produces names.CLAUSE (Token kinds.ENSURES ∷ Name names.EXPRESSION ∷ Token kinds.SEMICOLON ∷ [])
    ∷ produces names.CLAUSE (Token kinds.SIGNALS ∷ Token kinds.OPEN_PAREN ∷ Name names.IDENTIFIER ∷ Name names.EXCEPTION_NAME ∷ Token kinds.CLOSE_PAREN ∷ Name names.EXPRESSION ∷ Token kinds.SEMICOLON ∷ [])
    ∷ produces names.CLAUSE (Token kinds.SIGNALS_ONLY ∷ Name names.EXCEPTIONS ∷ Token kinds.SEMICOLON ∷ [])
    ∷ produces names.CLAUSE (Token kinds.ASSIGNABLE ∷ Name names.LOCATIONS ∷ Token kinds.SEMICOLON ∷ [])
    ∷ produces names.CLAUSE (Token kinds.MEASURED_BY ∷ Name names.EXPRESSION ∷ Token kinds.SEMICOLON ∷ [])
    ∷ produces names.CLAUSE (Token kinds.DIVERGES ∷ Name names.TRUTH ∷ Token kinds.SEMICOLON ∷ [])
    ∷ produces names.EXCEPTION_NAME (Name names.IDENTIFIER ∷ [])
    ∷ produces names.EXCEPTION_NAME []
    ∷ produces names.EXCEPTIONS (Token kinds.NOTHING ∷ [])
    ∷ produces names.EXCEPTIONS (Name names.IDENTIFIER ∷ Name names.MORE_EXCEPTIONS ∷ [])
    ∷ produces names.MORE_EXCEPTIONS (Token kinds.COMMA ∷ Name names.IDENTIFIER ∷ Name names.MORE_EXCEPTIONS ∷ [])
    ∷ produces names.MORE_EXCEPTIONS []
    ∷ produces names.TRUTH (Token kinds.TRUE ∷ [])
    ∷ produces names.TRUTH (Token kinds.FALSE ∷ [])
    -- 13.2, clauses of a loop
    ∷ produces names.LOOP_CLAUSE (Token kinds.LOOP_INVARIANT ∷ Name names.EXPRESSION ∷ Token kinds.SEMICOLON ∷ [])
    ∷ produces names.LOOP_CLAUSE (Token kinds.DECREASES ∷ Name names.EXPRESSION ∷ Token kinds.SEMICOLON ∷ [])
    ∷ produces names.LOOP_CLAUSE (Token kinds.ASSIGNABLE ∷ Name names.LOCATIONS ∷ Token kinds.SEMICOLON ∷ [])
    -- 8.2, invariants of a class
    ∷ produces names.INVARIANT_CLAUSE (Token kinds.INVARIANT ∷ Name names.EXPRESSION ∷ Token kinds.SEMICOLON ∷ [])
    -- ---- Sets of locations (JML Reference Manual, 12.7)
    ∷ produces names.LOCATIONS (Token kinds.NOTHING ∷ [])
    ∷ produces names.LOCATIONS (Token kinds.EVERYTHING ∷ [])
    ∷ produces names.LOCATIONS (Name names.LOCATION ∷ Name names.MORE_LOCATIONS ∷ [])
    ∷ produces names.MORE_LOCATIONS (Token kinds.COMMA ∷ Name names.LOCATION ∷ Name names.MORE_LOCATIONS ∷ [])
    ∷ produces names.MORE_LOCATIONS []
    ∷ produces names.LOCATION (Name names.IDENTIFIER ∷ Name names.BEHIND_LOCATION_NAME ∷ [])
    ∷ produces names.LOCATION (Name names.ATOM ∷ Name names.LOCATION_STEP ∷ [])
    ∷ produces names.LOCATION (Token kinds.OPEN_PAREN ∷ Name names.LOCATION_PARENTHESIS ∷ Name names.LOCATION_STEP ∷ [])
    ∷ produces names.LOCATION_PARENTHESIS (Name names.QUANTIFIED ∷ [])
    ∷ produces names.LOCATION_PARENTHESIS (Name names.EXPRESSION ∷ Token kinds.CLOSE_PAREN ∷ [])
    ∷ produces names.BEHIND_LOCATION_NAME []
    ∷ produces names.BEHIND_LOCATION_NAME (Name names.INVOCATION ∷ Name names.LOCATION_STEP ∷ [])
    ∷ produces names.BEHIND_LOCATION_NAME (Name names.LOCATION_STEP ∷ [])
    ∷ produces names.LOCATION_STEP (Token kinds.DOT ∷ Name names.LOCATION_MEMBER ∷ [])
    ∷ produces names.LOCATION_STEP (Token kinds.OPEN_BRACKET ∷ Name names.LOCATION_INDEX ∷ [])
    ∷ produces names.LOCATION_MEMBER (Token kinds.STAR ∷ [])
    ∷ produces names.LOCATION_MEMBER (Name names.IDENTIFIER ∷ Name names.BEHIND_LOCATION_NAME ∷ [])
    ∷ produces names.LOCATION_INDEX (Token kinds.STAR ∷ Token kinds.CLOSE_BRACKET ∷ [])
    ∷ produces names.LOCATION_INDEX (Name names.EXPRESSION ∷ Name names.BEHIND_LOCATION_INDEX ∷ [])
    ∷ produces names.BEHIND_LOCATION_INDEX (Token kinds.CLOSE_BRACKET ∷ Name names.BEHIND_LOCATION_ELEMENT ∷ [])
    ∷ produces names.BEHIND_LOCATION_INDEX (Token kinds.RANGE ∷ Name names.EXPRESSION ∷ Token kinds.CLOSE_BRACKET ∷ [])
    ∷ produces names.BEHIND_LOCATION_ELEMENT []
    ∷ produces names.BEHIND_LOCATION_ELEMENT (Name names.LOCATION_STEP ∷ [])
    -- ---- Expressions (JML Reference Manual, 12; JLS SE 8, 15)
    -- JLS 15.25
    ∷ produces names.EXPRESSION (Name names.EQUIVALENCE ∷ Name names.CONDITIONAL_TAIL ∷ [])
    ∷ produces names.CONDITIONAL_TAIL (Token kinds.QUESTION ∷ Name names.EXPRESSION ∷ Token kinds.COLON ∷ Name names.EXPRESSION ∷ [])
    ∷ produces names.CONDITIONAL_TAIL []
    -- 12.6.2, 12.6.3
    ∷ produces names.EQUIVALENCE (Name names.IMPLICATION ∷ Name names.EQUIVALENCE_TAIL ∷ [])
    ∷ produces names.EQUIVALENCE_TAIL (Token kinds.EQUIVALENT ∷ Name names.IMPLICATION ∷ Name names.EQUIVALENCE_TAIL ∷ [])
    ∷ produces names.EQUIVALENCE_TAIL []
    ∷ produces names.IMPLICATION (Name names.OR ∷ Name names.IMPLICATION_TAIL ∷ [])
    ∷ produces names.IMPLICATION_TAIL (Token kinds.IMPLIES ∷ Name names.IMPLICATION ∷ [])
    ∷ produces names.IMPLICATION_TAIL []
    -- JLS 15.24
    ∷ produces names.OR (Name names.AND ∷ Name names.OR_TAIL ∷ [])
    ∷ produces names.OR_TAIL (Token kinds.OR_ELSE ∷ Name names.AND ∷ Name names.OR_TAIL ∷ [])
    ∷ produces names.OR_TAIL []
    -- JLS 15.23
    ∷ produces names.AND (Name names.EQUALITY ∷ Name names.AND_TAIL ∷ [])
    ∷ produces names.AND_TAIL (Token kinds.AND_ALSO ∷ Name names.EQUALITY ∷ Name names.AND_TAIL ∷ [])
    ∷ produces names.AND_TAIL []
    -- JLS 15.21
    ∷ produces names.EQUALITY (Name names.RELATIONAL ∷ Name names.EQUALITY_TAIL ∷ [])
    ∷ produces names.EQUALITY_TAIL (Token kinds.EQUAL ∷ Name names.RELATIONAL ∷ Name names.EQUALITY_TAIL ∷ [])
    ∷ produces names.EQUALITY_TAIL (Token kinds.NOT_EQUAL ∷ Name names.RELATIONAL ∷ Name names.EQUALITY_TAIL ∷ [])
    ∷ produces names.EQUALITY_TAIL []
    -- JLS 15.20
    ∷ produces names.RELATIONAL (Name names.ADDITIVE ∷ Name names.RELATIONAL_TAIL ∷ [])
    ∷ produces names.RELATIONAL_TAIL (Token kinds.LESS ∷ Name names.ADDITIVE ∷ Name names.RELATIONAL_TAIL ∷ [])
    ∷ produces names.RELATIONAL_TAIL (Token kinds.LESS_OR_EQUAL ∷ Name names.ADDITIVE ∷ Name names.RELATIONAL_TAIL ∷ [])
    ∷ produces names.RELATIONAL_TAIL (Token kinds.GREATER ∷ Name names.ADDITIVE ∷ Name names.RELATIONAL_TAIL ∷ [])
    ∷ produces names.RELATIONAL_TAIL (Token kinds.GREATER_OR_EQUAL ∷ Name names.ADDITIVE ∷ Name names.RELATIONAL_TAIL ∷ [])
    ∷ produces names.RELATIONAL_TAIL (Token kinds.INSTANCEOF ∷ Name names.REFERENCE_TYPE ∷ Name names.RELATIONAL_TAIL ∷ [])
    ∷ produces names.RELATIONAL_TAIL []
    -- JLS 4.3
    ∷ produces names.REFERENCE_TYPE (Name names.CLASS_TYPE ∷ [])
    ∷ produces names.REFERENCE_TYPE (Token kinds.INT ∷ Token kinds.OPEN_BRACKET ∷ Token kinds.CLOSE_BRACKET ∷ [])
    -- JLS 15.18
    ∷ produces names.ADDITIVE (Name names.MULTIPLICATIVE ∷ Name names.ADDITIVE_TAIL ∷ [])
    ∷ produces names.ADDITIVE_TAIL (Token kinds.PLUS ∷ Name names.MULTIPLICATIVE ∷ Name names.ADDITIVE_TAIL ∷ [])
    ∷ produces names.ADDITIVE_TAIL (Token kinds.MINUS ∷ Name names.MULTIPLICATIVE ∷ Name names.ADDITIVE_TAIL ∷ [])
    ∷ produces names.ADDITIVE_TAIL []
    -- JLS 15.17
    ∷ produces names.MULTIPLICATIVE (Name names.UNARY ∷ Name names.MULTIPLICATIVE_TAIL ∷ [])
    ∷ produces names.MULTIPLICATIVE_TAIL (Token kinds.STAR ∷ Name names.UNARY ∷ Name names.MULTIPLICATIVE_TAIL ∷ [])
    ∷ produces names.MULTIPLICATIVE_TAIL (Token kinds.SLASH ∷ Name names.UNARY ∷ Name names.MULTIPLICATIVE_TAIL ∷ [])
    ∷ produces names.MULTIPLICATIVE_TAIL (Token kinds.PERCENT ∷ Name names.UNARY ∷ Name names.MULTIPLICATIVE_TAIL ∷ [])
    ∷ produces names.MULTIPLICATIVE_TAIL []
    -- JLS 15.15
    ∷ produces names.UNARY (Token kinds.PLUS ∷ Name names.UNARY ∷ [])
    ∷ produces names.UNARY (Token kinds.MINUS ∷ Name names.UNARY ∷ [])
    ∷ produces names.UNARY (Name names.UNSIGNED ∷ [])
    -- JLS 15.15.6, 15.16, 15.11 to 15.13
    ∷ produces names.UNSIGNED (Token kinds.NOT ∷ Name names.UNARY ∷ [])
    ∷ produces names.UNSIGNED (Token kinds.OPEN_PAREN ∷ Name names.PARENTHESIS ∷ [])
    ∷ produces names.UNSIGNED (Name names.IDENTIFIER ∷ Name names.CALL ∷ Name names.SUFFIXES ∷ [])
    ∷ produces names.UNSIGNED (Name names.ATOM ∷ Name names.SUFFIXES ∷ [])
    -- JLS 15.8; 12.4.1, 12.4.2, 12.4.4, 12.4.15
    ∷ produces names.ATOM (Token kinds.NUMBER ∷ [])
    ∷ produces names.ATOM (Token kinds.TRUE ∷ [])
    ∷ produces names.ATOM (Token kinds.FALSE ∷ [])
    ∷ produces names.ATOM (Token kinds.NULL ∷ [])
    ∷ produces names.ATOM (Token kinds.THIS ∷ [])
    ∷ produces names.ATOM (Token kinds.RESULT ∷ [])
    ∷ produces names.ATOM (Token kinds.OLD ∷ Token kinds.OPEN_PAREN ∷ Name names.EXPRESSION ∷ Token kinds.CLOSE_PAREN ∷ [])
    ∷ produces names.ATOM (Token kinds.FRESH ∷ Token kinds.OPEN_PAREN ∷ Name names.EXPRESSION ∷ Token kinds.CLOSE_PAREN ∷ [])
    ∷ produces names.ATOM (Token kinds.INVARIANT_FOR ∷ Token kinds.OPEN_PAREN ∷ Name names.EXPRESSION ∷ Token kinds.CLOSE_PAREN ∷ [])
    -- JLS 15.8.5, 15.16
    ∷ produces names.PARENTHESIS (Token kinds.INT ∷ Name names.INT_CAST ∷ [])
    ∷ produces names.PARENTHESIS (Token kinds.BOOLEAN ∷ Token kinds.CLOSE_PAREN ∷ Name names.UNARY ∷ [])
    ∷ produces names.PARENTHESIS (Name names.QUANTIFIED ∷ Name names.SUFFIXES ∷ [])
    ∷ produces names.PARENTHESIS (Name names.EXPRESSION ∷ Token kinds.CLOSE_PAREN ∷ Name names.BEHIND_PARENTHESIS ∷ [])
    ∷ produces names.INT_CAST (Token kinds.CLOSE_PAREN ∷ Name names.UNARY ∷ [])
    ∷ produces names.INT_CAST (Token kinds.OPEN_BRACKET ∷ Token kinds.CLOSE_BRACKET ∷ Token kinds.CLOSE_PAREN ∷ Name names.UNSIGNED ∷ [])
    ∷ produces names.BEHIND_PARENTHESIS (Name names.UNSIGNED ∷ [])
    ∷ produces names.BEHIND_PARENTHESIS (Name names.SUFFIXES ∷ [])
    -- 12.4.24
    ∷ produces names.QUANTIFIED (Token kinds.FORALL ∷ Name names.BOUND_TYPE ∷ Name names.IDENTIFIER ∷ Token kinds.SEMICOLON ∷ Name names.EXPRESSION ∷ Name names.BEHIND_RANGE ∷ [])
    ∷ produces names.QUANTIFIED (Token kinds.EXISTS ∷ Name names.BOUND_TYPE ∷ Name names.IDENTIFIER ∷ Token kinds.SEMICOLON ∷ Name names.EXPRESSION ∷ Name names.BEHIND_RANGE ∷ [])
    ∷ produces names.QUANTIFIED (Token kinds.SUM ∷ Token kinds.INT ∷ Name names.IDENTIFIER ∷ Token kinds.SEMICOLON ∷ Name names.EXPRESSION ∷ Token kinds.SEMICOLON ∷ Name names.EXPRESSION ∷ Token kinds.CLOSE_PAREN ∷ [])
    ∷ produces names.BEHIND_RANGE (Token kinds.SEMICOLON ∷ Name names.EXPRESSION ∷ Token kinds.CLOSE_PAREN ∷ [])
    ∷ produces names.BEHIND_RANGE (Token kinds.CLOSE_PAREN ∷ [])
    -- JLS 4.1; 7.1
    ∷ produces names.BOUND_TYPE (Token kinds.INT ∷ Name names.DIMENSION ∷ [])
    ∷ produces names.BOUND_TYPE (Token kinds.BOOLEAN ∷ [])
    ∷ produces names.BOUND_TYPE (Name names.CLASS_TYPE ∷ [])
    ∷ produces names.BOUND_TYPE (Token kinds.BIGINT ∷ [])
    ∷ produces names.CLASS_TYPE (Name names.IDENTIFIER ∷ [])
    ∷ produces names.DIMENSION (Token kinds.OPEN_BRACKET ∷ Token kinds.CLOSE_BRACKET ∷ [])
    ∷ produces names.DIMENSION []
    -- JLS 15.12
    ∷ produces names.CALL (Name names.INVOCATION ∷ [])
    ∷ produces names.CALL []
    ∷ produces names.INVOCATION (Token kinds.OPEN_PAREN ∷ Name names.ARGUMENTS ∷ [])
    ∷ produces names.ARGUMENTS (Token kinds.CLOSE_PAREN ∷ [])
    ∷ produces names.ARGUMENTS (Name names.EXPRESSION ∷ Name names.MORE_ARGUMENTS ∷ [])
    ∷ produces names.MORE_ARGUMENTS (Token kinds.COMMA ∷ Name names.EXPRESSION ∷ Name names.MORE_ARGUMENTS ∷ [])
    ∷ produces names.MORE_ARGUMENTS (Token kinds.CLOSE_PAREN ∷ [])
    -- JLS 15.11, 15.13
    ∷ produces names.SUFFIXES (Token kinds.DOT ∷ Name names.IDENTIFIER ∷ Name names.CALL ∷ Name names.SUFFIXES ∷ [])
    ∷ produces names.SUFFIXES (Token kinds.OPEN_BRACKET ∷ Name names.EXPRESSION ∷ Token kinds.CLOSE_BRACKET ∷ Name names.SUFFIXES ∷ [])
    ∷ produces names.SUFFIXES []
    -- JLS 3.8; 4.6: the words of clauses are identifiers where one stands
    ∷ produces names.IDENTIFIER (Token kinds.IDENTIFIER ∷ [])
    ∷ produces names.IDENTIFIER (Token kinds.REQUIRES ∷ [])
    ∷ produces names.IDENTIFIER (Token kinds.ENSURES ∷ [])
    ∷ produces names.IDENTIFIER (Token kinds.SIGNALS ∷ [])
    ∷ produces names.IDENTIFIER (Token kinds.SIGNALS_ONLY ∷ [])
    ∷ produces names.IDENTIFIER (Token kinds.ASSIGNABLE ∷ [])
    ∷ produces names.IDENTIFIER (Token kinds.MEASURED_BY ∷ [])
    ∷ produces names.IDENTIFIER (Token kinds.DIVERGES ∷ [])
    ∷ produces names.IDENTIFIER (Token kinds.LOOP_INVARIANT ∷ [])
    ∷ produces names.IDENTIFIER (Token kinds.DECREASES ∷ [])
    ∷ produces names.IDENTIFIER (Token kinds.INVARIANT ∷ [])
    ∷ produces names.IDENTIFIER (Token kinds.ALSO ∷ [])
    ∷ produces names.IDENTIFIER (Token kinds.NORMAL_BEHAVIOR ∷ [])
    ∷ produces names.IDENTIFIER (Token kinds.EXCEPTIONAL_BEHAVIOR ∷ [])
    ∷ produces names.IDENTIFIER (Token kinds.BEHAVIOR ∷ [])
    ∷ produces names.IDENTIFIER (Token kinds.PURE ∷ [])
    ∷ produces names.IDENTIFIER (Token kinds.HELPER ∷ [])
    ∷ produces names.IDENTIFIER (Token kinds.NULLABLE ∷ [])
    ∷ produces names.IDENTIFIER (Token kinds.NON_NULL ∷ [])
    ∷ produces names.IDENTIFIER (Token kinds.SPEC_PUBLIC ∷ [])
    ∷ produces names.IDENTIFIER (Token kinds.SPEC_PROTECTED ∷ [])
    ∷ []
