-- What a heading tells of a declaration, and of the modifiers before it.
use Rattle.std.proofs.Common.{◌≡◌, ℕ, List, [], Bool, true, false, ◌&&◌, ◌||◌, cond, Some, None, refl, sym, ap, ◌∙◌}
use Rattle.jd_grammar.specs.declared.piles.NodeParts.{NodeParts}
use Rattle.jd_java_tokens.specs.Contents.{PlainLexeme}
use Rattle.jd_java_values.specs.Values as values
use Rattle.jd_java_values.specs.Values.{PlainDeclared, PlainValue}
use Rattle.jd_java_values.specs.Parts.{declared_of}
use Rattle.jd_java_members.specs.Meaning.{int_declaration, named_declaration}
use Rattle.jd_java_attributes.specs.declared.heading.Declared.{Declared}
use Rattle.jd_java_attributes.specs.declared.heading.Declared.TheVariants as declares
use Rattle.jd_java_attributes.specs.Headings.{PlainHeading, declared_of_both, misplaced_by, declaration_by, all_joined}
use Rattle.jd_java_texts.specs.Kept.{IsStaticAsDeclared}
use Rattle.jd_java_proper.proofs.Told.{three, no_some}

four : {A B C D E : Type 0} (f : A → B → C → D → E) {a a' : A} {b b' : B} {c c' : C} {d d' : D} → a ≡ a' → b ≡ b' → c ≡ c' → d ≡ d' → f a b c d ≡ f a' b' c' d'
four f {a} {a'} {b} {b'} {c} {c'} {d} {d'} e g h i = ap (λ x. f x b c d) e ∙ three (f a') g h i

-- ---- declarations

abbrev pub DeclaredAs : Declared → PlainDeclared → Type 0
DeclaredAs t (values.FieldNames xs) = (at : ℕ) × (t ≡ declares.Fields at)
DeclaredAs t (values.Constant n) = (at : ℕ) × (t ≡ declares.Constant at)
DeclaredAs t (values.Routine ps ss) = Unit {0}

-- behind the type of a member, or behind its name
abbrev pub named_part : PlainValue → PlainDeclared
named_part (values.Declarator array x d) = d
named_part v = declared_of v

abbrev pub declared_part : PlainValue → PlainDeclared
declared_part (values.Declaration given x d) = d
declared_part _ = values.FieldNames []

pub int_part : (ts : List PlainLexeme) (v : PlainValue) → declared_part (int_declaration ts v) ≡ named_part v
int_part ts (values.Declarator array x d) = refl
int_part ts _ = refl

pub class_part : (ts : List PlainLexeme) (v : PlainValue) → declared_part (named_declaration ts v) ≡ named_part v
class_part ts (values.Declarator array x d) = refl
class_part ts _ = refl

-- ---- of several

pub none_static : (p : NodeParts PlainHeading) → p.first.is_static ≡ false → p.second.is_static ≡ false → p.third.is_static ≡ false → p.fourth.is_static ≡ false
    → (all_joined p).is_static ≡ false
none_static p a b c d = four (λ x y z w. (x || y) || (z || w)) a b c d

static_both : (a b : Bool) → ((a || false) || (b || false)) ≡ (a || b)
static_both true b = refl
static_both false true = refl
static_both false false = refl

pub first_and_third_static : (p : NodeParts PlainHeading) (a b : Bool) → p.first.is_static ≡ a → p.second.is_static ≡ false → p.third.is_static ≡ b → p.fourth.is_static ≡ false
    → (all_joined p).is_static ≡ (a || b)
first_and_third_static p a b e g h i = four (λ x y z w. (x || y) || (z || w)) e g h i ∙ static_both a b

pub first_static : (p : NodeParts PlainHeading) (a : Bool) → p.first.is_static ≡ a → p.second.is_static ≡ false → p.third.is_static ≡ false → p.fourth.is_static ≡ false
    → (all_joined p).is_static ≡ a
first_static p a e g h i = four (λ x y z w. (x || y) || (z || w)) e g h i ∙ alone a
  where
    alone : (b : Bool) → ((b || false) || false) ≡ b
    alone true = refl
    alone false = refl

before_nothing : (d : Declared) → declared_of_both d declares.Nothing ≡ d
before_nothing declares.Nothing = refl
before_nothing _ = refl

pub first_declared : (p : NodeParts PlainHeading) → p.second.declared ≡ declares.Nothing → p.third.declared ≡ declares.Nothing → p.fourth.declared ≡ declares.Nothing
    → (all_joined p).declared ≡ p.first.declared
first_declared p b c d =
    three (λ y z w. declared_of_both (declared_of_both p.first.declared y) (declared_of_both z w)) b c d
    ∙ before_nothing (declared_of_both p.first.declared declares.Nothing)
    ∙ before_nothing p.first.declared

pub second_declared : (p : NodeParts PlainHeading) → p.first.declared ≡ declares.Nothing → p.third.declared ≡ declares.Nothing → p.fourth.declared ≡ declares.Nothing
    → (all_joined p).declared ≡ p.second.declared
second_declared p a c d =
    three (λ x z w. declared_of_both (declared_of_both x p.second.declared) (declared_of_both z w)) a c d ∙ before_nothing p.second.declared

pub declaration_static : (d : Declared) (name : List ℕ) (h : PlainHeading) → (declaration_by d name h).is_static ≡ h.is_static
declaration_static (declares.Constructor at) name h = refl
declaration_static _ name h = refl

pub declaration_declared : (d : Declared) (name : List ℕ) (h : PlainHeading) → (declaration_by d name h).declared ≡ h.declared
declaration_declared (declares.Constructor at) name h = refl
declaration_declared _ name h = refl

-- ---- a member without fault

is_off : (static : Bool) (at : ℕ) → cond static (Some at) None ≡ None → static ≡ false
is_off true at e = absurd (no_some at e)
is_off false at e = refl

is_on : (static final : Bool) (at : ℕ) → cond (static && final) None (Some at) ≡ None → static ≡ true
is_on true final at e = refl
is_on false final at e = absurd (no_some at e)

pub static_as_declared : (t : Declared) (static final : Bool) (v : PlainValue) → DeclaredAs t (declared_part v) → misplaced_by t static final ≡ None → IsStaticAsDeclared static v
static_as_declared t static final (values.Declaration given x (values.FieldNames xs)) (at, is) u = is_off static at (sym (ap (λ d. misplaced_by d static final) is) ∙ u)
static_as_declared t static final (values.Declaration given x (values.Constant n)) (at, is) u = is_on static final at (sym (ap (λ d. misplaced_by d static final) is) ∙ u)
static_as_declared t static final (values.Declaration given x (values.Routine ps ss)) h u = tt
static_as_declared t static final _ h u = tt
