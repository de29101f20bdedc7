-- The grammar of Java's files (JLS SE 8, chapter 19), with left factors taken out, so that the next token decides.
-- The numbers are the sections of the JLS. JML stands in it as one token for a run of JML tokens.
use Rattle.std.specs.Prelude.{List, [], ◌∷◌}
use Rattle.jd_grammar.specs.declared.table.Symbol.TheVariants.{Token, Name}
use Rattle.jd_grammar.specs.Grammars.{Production, produces, produces_unless}
use Rattle.jd_java_grammar.specs.declared.kinds.TheConstants as kinds
use Rattle.jd_java_grammar.specs.declared.names.TheConstants as names

abbrev pub java_productions : List Production
java_productions =
    -- ---- 7 Packages
    -- 7.3
    produces names.COMPILATION_UNIT (Token kinds.PACKAGE ∷ Name names.IDENTIFIER ∷ Name names.QUALIFIED_NAME ∷ Token kinds.SEMICOLON ∷ Name names.TYPE_DECLARATIONS ∷ [])
    ∷ produces names.COMPILATION_UNIT (Name names.TYPE_DECLARATIONS ∷ [])
    -- 6.5
    ∷ produces names.QUALIFIED_NAME (Token kinds.DOT ∷ Name names.IDENTIFIER ∷ Name names.QUALIFIED_NAME ∷ [])
    ∷ produces names.QUALIFIED_NAME []
    -- 7.6
    ∷ produces names.TYPE_DECLARATIONS (Name names.CLASS_DECLARATION ∷ Name names.TYPE_DECLARATIONS ∷ [])
    ∷ produces names.TYPE_DECLARATIONS []
    -- ---- 8 Classes
    -- 8.1
    ∷ produces names.CLASS_DECLARATION (Name names.CLASS_MODIFIERS ∷ Token kinds.CLASS ∷ Name names.IDENTIFIER ∷ Name names.SUPERCLASS ∷ Token kinds.OPEN_BRACE ∷ Name names.CLASS_BODY ∷ [])
    -- 8.1.1
    ∷ produces names.CLASS_MODIFIERS (Name names.MODIFIER ∷ Name names.CLASS_MODIFIERS ∷ [])
    ∷ produces names.CLASS_MODIFIERS []
    -- 8.1.1, 8.3.1, 8.4.3, 9.7.2
    ∷ produces names.MODIFIER (Token kinds.IGNORED_MODIFIER ∷ [])
    ∷ produces names.MODIFIER (Token kinds.STATIC ∷ [])
    ∷ produces names.MODIFIER (Token kinds.FINAL ∷ [])
    ∷ produces names.MODIFIER (Token kinds.AT_SIGN ∷ Name names.IDENTIFIER ∷ [])
    -- 8.1.4
    ∷ produces names.SUPERCLASS (Token kinds.EXTENDS ∷ Name names.IDENTIFIER ∷ [])
    ∷ produces names.SUPERCLASS []
    -- 8.1.6, and JML before a member or the end
    ∷ produces names.CLASS_BODY (Token kinds.CLOSE_BRACE ∷ [])
    ∷ produces names.CLASS_BODY (Token kinds.SPECS ∷ Name names.CLASS_BODY_BEHIND_SPECS ∷ [])
    ∷ produces names.CLASS_BODY (Name names.MEMBER_DECLARATION ∷ Name names.CLASS_BODY ∷ [])
    ∷ produces names.CLASS_BODY_BEHIND_SPECS (Token kinds.CLOSE_BRACE ∷ [])
    ∷ produces names.CLASS_BODY_BEHIND_SPECS (Name names.MEMBER_DECLARATION ∷ Name names.CLASS_BODY ∷ [])
    -- 8.2
    ∷ produces names.MEMBER_DECLARATION (Name names.MODIFIERS ∷ Name names.DECLARATION ∷ [])
    -- 8.3.1, 8.4.1, 8.4.3, and JML behind a modifier
    ∷ produces names.MODIFIERS (Name names.MODIFIER ∷ Name names.SPECS ∷ Name names.MODIFIERS ∷ [])
    ∷ produces names.MODIFIERS []
    ∷ produces names.SPECS (Token kinds.SPECS ∷ [])
    ∷ produces names.SPECS []
    -- 8.3, 8.4, 8.8
    ∷ produces names.DECLARATION (Token kinds.VOID ∷ Name names.IDENTIFIER ∷ Name names.METHOD ∷ [])
    ∷ produces names.DECLARATION (Token kinds.BOOLEAN ∷ Name names.IDENTIFIER ∷ Name names.DECLARED ∷ [])
    ∷ produces names.DECLARATION (Token kinds.INT ∷ Name names.INT_DECLARATION ∷ [])
    ∷ produces names.DECLARATION (Token kinds.IDENTIFIER ∷ Name names.IDENTIFIER_DECLARATION ∷ [])
    ∷ produces names.INT_DECLARATION (Token kinds.OPEN_BRACKET ∷ Token kinds.CLOSE_BRACKET ∷ Name names.IDENTIFIER ∷ Name names.DECLARED ∷ [])
    ∷ produces names.INT_DECLARATION (Name names.IDENTIFIER ∷ Name names.INT_DECLARED ∷ [])
    ∷ produces names.IDENTIFIER_DECLARATION (Token kinds.OPEN_PAREN ∷ Name names.PARAMETERS ∷ Name names.THROWS ∷ Name names.CONSTRUCTOR_BODY ∷ [])
    ∷ produces names.IDENTIFIER_DECLARATION (Name names.IDENTIFIER ∷ Name names.DECLARED ∷ [])
    -- 8.3, 9.3
    ∷ produces names.INT_DECLARED (Token kinds.ASSIGN ∷ Name names.CONSTANT ∷ Token kinds.SEMICOLON ∷ [])
    ∷ produces names.INT_DECLARED (Name names.DECLARED ∷ [])
    ∷ produces names.CONSTANT (Token kinds.NUMBER ∷ [])
    ∷ produces names.CONSTANT (Token kinds.MINUS ∷ Name names.MAGNITUDE ∷ [])
    ∷ produces names.MAGNITUDE (Token kinds.NUMBER ∷ [])
    ∷ produces names.MAGNITUDE (Token kinds.LEAST_NUMBER ∷ [])
    ∷ produces names.DECLARED (Name names.METHOD ∷ [])
    ∷ produces names.DECLARED (Name names.MORE_NAMES ∷ Token kinds.SEMICOLON ∷ [])
    ∷ produces names.MORE_NAMES (Token kinds.COMMA ∷ Name names.IDENTIFIER ∷ Name names.MORE_NAMES ∷ [])
    ∷ produces names.MORE_NAMES []
    -- 8.4
    ∷ produces names.METHOD (Token kinds.OPEN_PAREN ∷ Name names.PARAMETERS ∷ Name names.THROWS ∷ Name names.BLOCK ∷ [])
    -- 8.4.1
    ∷ produces names.PARAMETERS (Token kinds.CLOSE_PAREN ∷ [])
    ∷ produces names.PARAMETERS (Name names.PARAMETER ∷ Name names.MORE_PARAMETERS ∷ [])
    ∷ produces names.MORE_PARAMETERS (Token kinds.COMMA ∷ Name names.PARAMETER ∷ Name names.MORE_PARAMETERS ∷ [])
    ∷ produces names.MORE_PARAMETERS (Token kinds.CLOSE_PAREN ∷ [])
    ∷ produces names.PARAMETER (Name names.SPECS ∷ Name names.MODIFIERS ∷ Name names.TYPE ∷ Name names.IDENTIFIER ∷ [])
    -- 4.1
    ∷ produces names.TYPE (Token kinds.INT ∷ Name names.DIMENSION ∷ [])
    ∷ produces names.TYPE (Token kinds.BOOLEAN ∷ [])
    ∷ produces names.TYPE (Token kinds.IDENTIFIER ∷ [])
    -- 10.1
    ∷ produces names.DIMENSION (Token kinds.OPEN_BRACKET ∷ Token kinds.CLOSE_BRACKET ∷ [])
    ∷ produces names.DIMENSION []
    -- 8.4.6
    ∷ produces names.THROWS (Token kinds.THROWS ∷ Name names.IDENTIFIER ∷ Name names.MORE_NAMES ∷ [])
    ∷ produces names.THROWS []
    -- 8.8.7
    ∷ produces names.CONSTRUCTOR_BODY (Token kinds.OPEN_BRACE ∷ Name names.CONSTRUCTOR_STATEMENTS ∷ [])
    ∷ produces names.CONSTRUCTOR_STATEMENTS (Token kinds.SUPER ∷ Token kinds.OPEN_PAREN ∷ Name names.ARGUMENTS ∷ Token kinds.SEMICOLON ∷ Name names.BLOCK_STATEMENTS ∷ [])
    ∷ produces names.CONSTRUCTOR_STATEMENTS (Name names.BLOCK_STATEMENTS ∷ [])
    -- ---- 14 Blocks and statements
    -- 14.2
    ∷ produces names.BLOCK (Token kinds.OPEN_BRACE ∷ Name names.BLOCK_STATEMENTS ∷ [])
    ∷ produces names.BLOCK_STATEMENTS (Token kinds.CLOSE_BRACE ∷ [])
    ∷ produces names.BLOCK_STATEMENTS (Name names.BLOCK_STATEMENT ∷ Name names.BLOCK_STATEMENTS ∷ [])
    -- 14.4
    ∷ produces names.BLOCK_STATEMENT (Token kinds.FINAL ∷ Name names.TYPE ∷ Name names.IDENTIFIER ∷ Name names.INITIALIZER ∷ Name names.MORE_VARIABLES ∷ Token kinds.SEMICOLON ∷ [])
    ∷ produces names.BLOCK_STATEMENT (Token kinds.INT ∷ Name names.DIMENSION ∷ Name names.IDENTIFIER ∷ Name names.INITIALIZER ∷ Name names.MORE_VARIABLES ∷ Token kinds.SEMICOLON ∷ [])
    ∷ produces names.BLOCK_STATEMENT (Token kinds.BOOLEAN ∷ Name names.IDENTIFIER ∷ Name names.INITIALIZER ∷ Name names.MORE_VARIABLES ∷ Token kinds.SEMICOLON ∷ [])
    ∷ produces names.BLOCK_STATEMENT (Token kinds.IDENTIFIER ∷ Name names.BLOCK_STATEMENT_BEHIND_NAME ∷ [])
    ∷ produces names.BLOCK_STATEMENT (Name names.STATEMENT_WITHOUT_NAME ∷ [])
    ∷ produces names.BLOCK_STATEMENT_BEHIND_NAME (Token kinds.COLON ∷ Name names.STATEMENT ∷ [])
    ∷ produces names.BLOCK_STATEMENT_BEHIND_NAME (Name names.VARIABLES ∷ Token kinds.SEMICOLON ∷ [])
    ∷ produces names.BLOCK_STATEMENT_BEHIND_NAME (Name names.NAME_EFFECT ∷ Token kinds.SEMICOLON ∷ [])
    ∷ produces names.VARIABLES (Name names.IDENTIFIER ∷ Name names.INITIALIZER ∷ Name names.MORE_VARIABLES ∷ [])
    ∷ produces names.INITIALIZER (Token kinds.ASSIGN ∷ Name names.EXPRESSION ∷ [])
    ∷ produces names.INITIALIZER []
    ∷ produces names.MORE_VARIABLES (Token kinds.COMMA ∷ Name names.IDENTIFIER ∷ Name names.INITIALIZER ∷ Name names.MORE_VARIABLES ∷ [])
    ∷ produces names.MORE_VARIABLES []
    -- 14.5, 14.7, 14.8
    ∷ produces names.STATEMENT (Token kinds.IDENTIFIER ∷ Name names.STATEMENT_BEHIND_NAME ∷ [])
    ∷ produces names.STATEMENT (Name names.STATEMENT_WITHOUT_NAME ∷ [])
    ∷ produces names.STATEMENT_BEHIND_NAME (Token kinds.COLON ∷ Name names.STATEMENT ∷ [])
    ∷ produces names.STATEMENT_BEHIND_NAME (Name names.NAME_EFFECT ∷ Token kinds.SEMICOLON ∷ [])
    -- 14.5
    ∷ produces names.STATEMENT_WITHOUT_NAME (Name names.BLOCK ∷ [])
    ∷ produces names.STATEMENT_WITHOUT_NAME (Token kinds.SEMICOLON ∷ [])
    ∷ produces names.STATEMENT_WITHOUT_NAME (Name names.OTHER_EFFECT ∷ Token kinds.SEMICOLON ∷ [])
    ∷ produces names.STATEMENT_WITHOUT_NAME (Token kinds.IF ∷ Token kinds.OPEN_PAREN ∷ Name names.EXPRESSION ∷ Token kinds.CLOSE_PAREN ∷ Name names.STATEMENT ∷ Name names.ELSE ∷ [])
    ∷ produces names.STATEMENT_WITHOUT_NAME (Name names.LOOP ∷ [])
    ∷ produces names.STATEMENT_WITHOUT_NAME (Token kinds.SPECS ∷ Name names.ANNOTATED_LOOP ∷ [])
    ∷ produces names.STATEMENT_WITHOUT_NAME (Token kinds.BREAK ∷ Name names.TARGET ∷ Token kinds.SEMICOLON ∷ [])
    ∷ produces names.STATEMENT_WITHOUT_NAME (Token kinds.CONTINUE ∷ Name names.TARGET ∷ Token kinds.SEMICOLON ∷ [])
    ∷ produces names.STATEMENT_WITHOUT_NAME (Token kinds.RETURN ∷ Name names.RESULT ∷ [])
    ∷ produces names.STATEMENT_WITHOUT_NAME (Token kinds.THROW ∷ Name names.EXPRESSION ∷ Token kinds.SEMICOLON ∷ [])
    ∷ produces names.STATEMENT_WITHOUT_NAME (Token kinds.TRY ∷ Name names.BLOCK ∷ Name names.RESCUE ∷ [])
    -- 14.9, of the nearest if
    ∷ produces names.ELSE (Token kinds.ELSE ∷ Name names.STATEMENT ∷ [])
    ∷ produces_unless names.ELSE kinds.ELSE []
    -- 14.12, 14.14
    ∷ produces names.LOOP (Token kinds.WHILE ∷ Token kinds.OPEN_PAREN ∷ Name names.EXPRESSION ∷ Token kinds.CLOSE_PAREN ∷ Name names.STATEMENT ∷ [])
    ∷ produces names.LOOP (Token kinds.FOR ∷ Token kinds.OPEN_PAREN ∷ Name names.FOR_INIT ∷ Name names.FOR_TEST ∷ Name names.FOR_UPDATE ∷ Name names.STATEMENT ∷ [])
    -- 14.7, and JML before a loop or its label
    ∷ produces names.ANNOTATED_LOOP (Name names.LOOP ∷ [])
    ∷ produces names.ANNOTATED_LOOP (Token kinds.IDENTIFIER ∷ Token kinds.COLON ∷ Name names.LOOP_BEHIND_LABEL ∷ [])
    ∷ produces names.LOOP_BEHIND_LABEL (Token kinds.SPECS ∷ Name names.ANNOTATED_LOOP ∷ [])
    ∷ produces names.LOOP_BEHIND_LABEL (Name names.ANNOTATED_LOOP ∷ [])
    -- 14.14.1
    ∷ produces names.FOR_INIT (Token kinds.SEMICOLON ∷ [])
    ∷ produces names.FOR_INIT (Token kinds.INT ∷ Name names.DIMENSION ∷ Name names.IDENTIFIER ∷ Name names.INITIALIZER ∷ Name names.MORE_VARIABLES ∷ Token kinds.SEMICOLON ∷ [])
    ∷ produces names.FOR_INIT (Token kinds.BOOLEAN ∷ Name names.IDENTIFIER ∷ Name names.INITIALIZER ∷ Name names.MORE_VARIABLES ∷ Token kinds.SEMICOLON ∷ [])
    ∷ produces names.FOR_INIT (Token kinds.IDENTIFIER ∷ Name names.FOR_INIT_BEHIND_NAME ∷ [])
    ∷ produces names.FOR_INIT (Name names.OTHER_EFFECT ∷ Name names.MORE_EFFECTS ∷ Token kinds.SEMICOLON ∷ [])
    ∷ produces names.FOR_INIT_BEHIND_NAME (Name names.VARIABLES ∷ Token kinds.SEMICOLON ∷ [])
    ∷ produces names.FOR_INIT_BEHIND_NAME (Name names.NAME_EFFECT ∷ Name names.MORE_EFFECTS ∷ Token kinds.SEMICOLON ∷ [])
    ∷ produces names.FOR_TEST (Token kinds.SEMICOLON ∷ [])
    ∷ produces names.FOR_TEST (Name names.EXPRESSION ∷ Token kinds.SEMICOLON ∷ [])
    ∷ produces names.FOR_UPDATE (Token kinds.CLOSE_PAREN ∷ [])
    ∷ produces names.FOR_UPDATE (Name names.EFFECT ∷ Name names.MORE_EFFECTS ∷ Token kinds.CLOSE_PAREN ∷ [])
    ∷ produces names.MORE_EFFECTS (Token kinds.COMMA ∷ Name names.EFFECT ∷ Name names.MORE_EFFECTS ∷ [])
    ∷ produces names.MORE_EFFECTS []
    -- 14.15, 14.16
    ∷ produces names.TARGET (Name names.IDENTIFIER ∷ [])
    ∷ produces names.TARGET []
    -- 14.17
    ∷ produces names.RESULT (Token kinds.SEMICOLON ∷ [])
    ∷ produces names.RESULT (Name names.EXPRESSION ∷ Token kinds.SEMICOLON ∷ [])
    -- 14.20
    ∷ produces names.RESCUE (Name names.CATCH ∷ Name names.CATCHES ∷ Name names.FINALLY ∷ [])
    ∷ produces names.RESCUE (Token kinds.FINALLY ∷ Name names.BLOCK ∷ [])
    ∷ produces names.CATCHES (Name names.CATCH ∷ Name names.CATCHES ∷ [])
    ∷ produces names.CATCHES []
    ∷ produces names.CATCH (Token kinds.CATCH ∷ Token kinds.OPEN_PAREN ∷ Name names.FINAL ∷ Name names.IDENTIFIER ∷ Name names.IDENTIFIER ∷ Token kinds.CLOSE_PAREN ∷ Name names.BLOCK ∷ [])
    ∷ produces names.FINAL (Token kinds.FINAL ∷ [])
    ∷ produces names.FINAL []
    ∷ produces names.FINALLY (Token kinds.FINALLY ∷ Name names.BLOCK ∷ [])
    ∷ produces names.FINALLY []
    -- 14.8
    ∷ produces names.EFFECT (Token kinds.IDENTIFIER ∷ Name names.NAME_EFFECT ∷ [])
    ∷ produces names.EFFECT (Name names.OTHER_EFFECT ∷ [])
    ∷ produces names.NAME_EFFECT (Name names.CALL ∷ Name names.SUFFIXES ∷ Name names.EFFECT_TAIL ∷ [])
    ∷ produces names.OTHER_EFFECT (Token kinds.INCREMENT ∷ Name names.UNARY ∷ [])
    ∷ produces names.OTHER_EFFECT (Token kinds.DECREMENT ∷ Name names.UNARY ∷ [])
    ∷ produces names.OTHER_EFFECT (Name names.LITERAL ∷ Name names.SUFFIXES ∷ Name names.EFFECT_TAIL ∷ [])
    ∷ produces names.OTHER_EFFECT (Token kinds.THIS ∷ Name names.SUFFIXES ∷ Name names.EFFECT_TAIL ∷ [])
    ∷ produces names.OTHER_EFFECT (Token kinds.OPEN_PAREN ∷ Name names.EXPRESSION ∷ Token kinds.CLOSE_PAREN ∷ Name names.SUFFIXES ∷ Name names.EFFECT_TAIL ∷ [])
    ∷ produces names.OTHER_EFFECT (Token kinds.NEW ∷ Name names.EFFECT_CREATION ∷ [])
    ∷ produces names.EFFECT_CREATION (Name names.IDENTIFIER ∷ Token kinds.OPEN_PAREN ∷ Name names.ARGUMENTS ∷ Name names.SUFFIXES ∷ Name names.EFFECT_TAIL ∷ [])
    ∷ produces names.EFFECT_CREATION (Token kinds.INT ∷ Token kinds.OPEN_BRACKET ∷ Name names.EXPRESSION ∷ Token kinds.CLOSE_BRACKET ∷ Name names.ARRAY_MEMBER ∷ Name names.EFFECT_TAIL ∷ [])
    ∷ produces names.EFFECT_TAIL (Token kinds.INCREMENT ∷ [])
    ∷ produces names.EFFECT_TAIL (Token kinds.DECREMENT ∷ [])
    ∷ produces names.EFFECT_TAIL (Token kinds.ASSIGN ∷ Name names.EXPRESSION ∷ [])
    ∷ produces names.EFFECT_TAIL (Token kinds.ADD_ASSIGN ∷ Name names.EXPRESSION ∷ [])
    ∷ produces names.EFFECT_TAIL (Token kinds.SUBTRACT_ASSIGN ∷ Name names.EXPRESSION ∷ [])
    ∷ produces names.EFFECT_TAIL (Token kinds.MULTIPLY_ASSIGN ∷ Name names.EXPRESSION ∷ [])
    ∷ produces names.EFFECT_TAIL (Token kinds.DIVIDE_ASSIGN ∷ Name names.EXPRESSION ∷ [])
    ∷ produces names.EFFECT_TAIL (Token kinds.REMAINDER_ASSIGN ∷ Name names.EXPRESSION ∷ [])
    ∷ produces names.EFFECT_TAIL []
    -- ---- 15 Expressions
    -- 15.26
    ∷ produces names.EXPRESSION (Name names.CONDITIONAL ∷ Name names.ASSIGNMENT_TAIL ∷ [])
    ∷ produces names.ASSIGNMENT_TAIL (Token kinds.ASSIGN ∷ Name names.EXPRESSION ∷ [])
    ∷ produces names.ASSIGNMENT_TAIL (Token kinds.ADD_ASSIGN ∷ Name names.EXPRESSION ∷ [])
    ∷ produces names.ASSIGNMENT_TAIL (Token kinds.SUBTRACT_ASSIGN ∷ Name names.EXPRESSION ∷ [])
    ∷ produces names.ASSIGNMENT_TAIL (Token kinds.MULTIPLY_ASSIGN ∷ Name names.EXPRESSION ∷ [])
    ∷ produces names.ASSIGNMENT_TAIL (Token kinds.DIVIDE_ASSIGN ∷ Name names.EXPRESSION ∷ [])
    ∷ produces names.ASSIGNMENT_TAIL (Token kinds.REMAINDER_ASSIGN ∷ Name names.EXPRESSION ∷ [])
    ∷ produces names.ASSIGNMENT_TAIL []
    -- 15.25
    ∷ produces names.CONDITIONAL (Name names.OR ∷ Name names.CONDITIONAL_TAIL ∷ [])
    ∷ produces names.CONDITIONAL_TAIL (Token kinds.QUESTION ∷ Name names.EXPRESSION ∷ Token kinds.COLON ∷ Name names.CONDITIONAL ∷ [])
    ∷ produces names.CONDITIONAL_TAIL []
    -- 15.24
    ∷ produces names.OR (Name names.AND ∷ Name names.OR_TAIL ∷ [])
    ∷ produces names.OR_TAIL (Token kinds.OR_ELSE ∷ Name names.AND ∷ Name names.OR_TAIL ∷ [])
    ∷ produces names.OR_TAIL []
    -- 15.23
    ∷ produces names.AND (Name names.EQUALITY ∷ Name names.AND_TAIL ∷ [])
    ∷ produces names.AND_TAIL (Token kinds.AND_ALSO ∷ Name names.EQUALITY ∷ Name names.AND_TAIL ∷ [])
    ∷ produces names.AND_TAIL []
    -- 15.21
    ∷ produces names.EQUALITY (Name names.RELATIONAL ∷ Name names.EQUALITY_TAIL ∷ [])
    ∷ produces names.EQUALITY_TAIL (Token kinds.EQUAL ∷ Name names.RELATIONAL ∷ Name names.EQUALITY_TAIL ∷ [])
    ∷ produces names.EQUALITY_TAIL (Token kinds.NOT_EQUAL ∷ Name names.RELATIONAL ∷ Name names.EQUALITY_TAIL ∷ [])
    ∷ produces names.EQUALITY_TAIL []
    -- 15.20
    ∷ produces names.RELATIONAL (Name names.ADDITIVE ∷ Name names.RELATIONAL_TAIL ∷ [])
    ∷ produces names.RELATIONAL_TAIL (Token kinds.LESS ∷ Name names.ADDITIVE ∷ Name names.RELATIONAL_TAIL ∷ [])
    ∷ produces names.RELATIONAL_TAIL (Token kinds.LESS_OR_EQUAL ∷ Name names.ADDITIVE ∷ Name names.RELATIONAL_TAIL ∷ [])
    ∷ produces names.RELATIONAL_TAIL (Token kinds.GREATER ∷ Name names.ADDITIVE ∷ Name names.RELATIONAL_TAIL ∷ [])
    ∷ produces names.RELATIONAL_TAIL (Token kinds.GREATER_OR_EQUAL ∷ Name names.ADDITIVE ∷ Name names.RELATIONAL_TAIL ∷ [])
    ∷ produces names.RELATIONAL_TAIL (Token kinds.INSTANCEOF ∷ Name names.REFERENCE_TYPE ∷ Name names.RELATIONAL_TAIL ∷ [])
    ∷ produces names.RELATIONAL_TAIL []
    -- 4.3
    ∷ produces names.REFERENCE_TYPE (Token kinds.IDENTIFIER ∷ [])
    ∷ produces names.REFERENCE_TYPE (Token kinds.INT ∷ Token kinds.OPEN_BRACKET ∷ Token kinds.CLOSE_BRACKET ∷ [])
    -- 15.18
    ∷ produces names.ADDITIVE (Name names.MULTIPLICATIVE ∷ Name names.ADDITIVE_TAIL ∷ [])
    ∷ produces names.ADDITIVE_TAIL (Token kinds.PLUS ∷ Name names.MULTIPLICATIVE ∷ Name names.ADDITIVE_TAIL ∷ [])
    ∷ produces names.ADDITIVE_TAIL (Token kinds.MINUS ∷ Name names.MULTIPLICATIVE ∷ Name names.ADDITIVE_TAIL ∷ [])
    ∷ produces names.ADDITIVE_TAIL []
    -- 15.17
    ∷ produces names.MULTIPLICATIVE (Name names.UNARY ∷ Name names.MULTIPLICATIVE_TAIL ∷ [])
    ∷ produces names.MULTIPLICATIVE_TAIL (Token kinds.STAR ∷ Name names.UNARY ∷ Name names.MULTIPLICATIVE_TAIL ∷ [])
    ∷ produces names.MULTIPLICATIVE_TAIL (Token kinds.SLASH ∷ Name names.UNARY ∷ Name names.MULTIPLICATIVE_TAIL ∷ [])
    ∷ produces names.MULTIPLICATIVE_TAIL (Token kinds.PERCENT ∷ Name names.UNARY ∷ Name names.MULTIPLICATIVE_TAIL ∷ [])
    ∷ produces names.MULTIPLICATIVE_TAIL []
    -- 15.15
    ∷ produces names.UNARY (Token kinds.PLUS ∷ Name names.UNARY ∷ [])
    ∷ produces names.UNARY (Token kinds.MINUS ∷ Name names.NEGATED ∷ [])
    ∷ produces names.UNARY (Token kinds.INCREMENT ∷ Name names.UNARY ∷ [])
    ∷ produces names.UNARY (Token kinds.DECREMENT ∷ Name names.UNARY ∷ [])
    ∷ produces names.UNARY (Name names.UNSIGNED ∷ [])
    -- 3.10.1
    ∷ produces names.NEGATED (Token kinds.LEAST_NUMBER ∷ [])
    ∷ produces names.NEGATED (Name names.UNARY ∷ [])
    -- 15.15.6, 15.16, 15.14
    ∷ produces names.UNSIGNED (Token kinds.NOT ∷ Name names.UNARY ∷ [])
    ∷ produces names.UNSIGNED (Token kinds.OPEN_PAREN ∷ Name names.PARENTHESIS ∷ [])
    ∷ produces names.UNSIGNED (Token kinds.IDENTIFIER ∷ Name names.CALL ∷ Name names.SUFFIXES ∷ Name names.COUNT ∷ [])
    ∷ produces names.UNSIGNED (Name names.LITERAL ∷ Name names.SUFFIXES ∷ Name names.COUNT ∷ [])
    ∷ produces names.UNSIGNED (Token kinds.THIS ∷ Name names.SUFFIXES ∷ Name names.COUNT ∷ [])
    ∷ produces names.UNSIGNED (Token kinds.NEW ∷ Name names.CREATION ∷ [])
    -- 15.8.5, 15.16
    ∷ produces names.PARENTHESIS (Token kinds.INT ∷ Name names.INT_CAST ∷ [])
    ∷ produces names.PARENTHESIS (Token kinds.BOOLEAN ∷ Token kinds.CLOSE_PAREN ∷ Name names.UNARY ∷ [])
    ∷ produces names.PARENTHESIS (Name names.EXPRESSION ∷ Token kinds.CLOSE_PAREN ∷ Name names.BEHIND_PARENTHESIS ∷ [])
    ∷ produces names.INT_CAST (Token kinds.CLOSE_PAREN ∷ Name names.UNARY ∷ [])
    ∷ produces names.INT_CAST (Token kinds.OPEN_BRACKET ∷ Token kinds.CLOSE_BRACKET ∷ Token kinds.CLOSE_PAREN ∷ Name names.UNSIGNED ∷ [])
    ∷ produces names.BEHIND_PARENTHESIS (Name names.UNSIGNED ∷ [])
    ∷ produces names.BEHIND_PARENTHESIS (Name names.SUFFIXES ∷ Name names.COUNT ∷ [])
    -- 15.8.1
    ∷ produces names.LITERAL (Token kinds.NUMBER ∷ [])
    ∷ produces names.LITERAL (Token kinds.TRUE ∷ [])
    ∷ produces names.LITERAL (Token kinds.FALSE ∷ [])
    ∷ produces names.LITERAL (Token kinds.NULL ∷ [])
    -- 15.9, 15.10
    ∷ produces names.CREATION (Name names.IDENTIFIER ∷ Token kinds.OPEN_PAREN ∷ Name names.ARGUMENTS ∷ Name names.SUFFIXES ∷ Name names.COUNT ∷ [])
    ∷ produces names.CREATION (Token kinds.INT ∷ Token kinds.OPEN_BRACKET ∷ Name names.EXPRESSION ∷ Token kinds.CLOSE_BRACKET ∷ Name names.ARRAY_SUFFIX ∷ [])
    ∷ produces names.ARRAY_SUFFIX (Name names.ARRAY_MEMBER ∷ Name names.COUNT ∷ [])
    ∷ produces names.ARRAY_SUFFIX []
    ∷ produces names.ARRAY_MEMBER (Token kinds.DOT ∷ Name names.IDENTIFIER ∷ Name names.CALL ∷ Name names.SUFFIXES ∷ [])
    -- 15.12
    ∷ produces names.CALL (Token kinds.OPEN_PAREN ∷ Name names.ARGUMENTS ∷ [])
    ∷ produces names.CALL []
    ∷ produces names.ARGUMENTS (Token kinds.CLOSE_PAREN ∷ [])
    ∷ produces names.ARGUMENTS (Name names.EXPRESSION ∷ Name names.MORE_ARGUMENTS ∷ [])
    ∷ produces names.MORE_ARGUMENTS (Token kinds.COMMA ∷ Name names.EXPRESSION ∷ Name names.MORE_ARGUMENTS ∷ [])
    ∷ produces names.MORE_ARGUMENTS (Token kinds.CLOSE_PAREN ∷ [])
    -- 15.11, 15.13
    ∷ produces names.SUFFIXES (Token kinds.DOT ∷ Name names.IDENTIFIER ∷ Name names.CALL ∷ Name names.SUFFIXES ∷ [])
    ∷ produces names.SUFFIXES (Token kinds.OPEN_BRACKET ∷ Name names.EXPRESSION ∷ Token kinds.CLOSE_BRACKET ∷ Name names.SUFFIXES ∷ [])
    ∷ produces names.SUFFIXES []
    -- 15.14.2, 15.14.3
    ∷ produces names.COUNT (Token kinds.INCREMENT ∷ [])
    ∷ produces names.COUNT (Token kinds.DECREMENT ∷ [])
    ∷ produces names.COUNT []
    -- 3.8
    ∷ produces names.IDENTIFIER (Token kinds.IDENTIFIER ∷ [])
    ∷ []
