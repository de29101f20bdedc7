-- What the nodes of a class tell of its members: their modifiers, and the names of its constructors.
use Rattle.std.specs.Prelude.{ℕ, List, [], Bool, true, false, cond, ◌&&◌, ◌||◌, Option, Some, None, option_map}
use Rattle.std.specs.Str.{bytes_eq}
use Rattle.jd_java_tokens.specs.Contents.{PlainLexeme}
use Rattle.jd_java_tokens.specs.Heads.{place_of, text_of}
use Rattle.jd_java_attributes.specs.declared.heading.Declared.{Declared}
use Rattle.jd_java_attributes.specs.declared.heading.Declared.TheVariants as declares
use Rattle.jd_java_attributes.specs.declared.heading.Constructor.{Constructor}
use Rattle.jd_java_attributes.specs.declared.heading.Heading.{Heading}
use Rattle.jd_java_attributes.specs.declared.rows.Rule.{Rule}
use Rattle.jd_java_attributes.specs.declared.rows.Rule.TheVariants as rules
use Rattle.jd_grammar.specs.declared.piles.NodeParts.{NodeParts}
use Rattle.jd_java_attributes.specs.Forms.{first_of}

-- a constructor's name, and the place of its `(`
pub record PlainConstructor : Type 0 where
  pub name : List ℕ
  pub at : ℕ

-- the modifiers of a member and what it is; a name's text; the first constructor of a class, and the place of the first that has
-- another name than the first; the place of the first token with which no file goes on
pub record PlainHeading : Type 0 where
  pub is_static : Bool
  pub is_final : Bool
  pub declared : Declared
  pub name : List ℕ
  pub constructor : Option PlainConstructor
  pub other : Option ℕ
  pub fault : Option ℕ

abbrev pub bare : PlainHeading
bare = record { is_static = false; is_final = false; declared = declares.Nothing; name = []; constructor = None; other = None; fault = None }

-- ---- of several

abbrev pub declared_of_both : Declared → Declared → Declared
declared_of_both declares.Nothing b = b
declared_of_both a b = a

abbrev pub first_constructor : Option PlainConstructor → Option PlainConstructor → Option PlainConstructor
first_constructor (Some c) d = Some c
first_constructor None d = d

-- the place of the constructor, if it has another name
abbrev pub unless_named : List ℕ → Option PlainConstructor → Option ℕ
unless_named name None = None
unless_named name (Some c) = cond (bytes_eq c.name name) None (Some c.at)

abbrev pub other_behind : Option PlainConstructor → Option ℕ → PlainHeading → Option ℕ
other_behind None other b = b.other
other_behind (Some c) other b = first_of other (first_of (unless_named c.name b.constructor) b.other)

abbrev pub other_of_both : PlainHeading → PlainHeading → Option ℕ
other_of_both a b = other_behind a.constructor a.other b

abbrev pub joined : PlainHeading → PlainHeading → PlainHeading
joined a b = record {
  is_static = a.is_static || b.is_static;
  is_final = a.is_final || b.is_final;
  declared = declared_of_both a.declared b.declared;
  name = [];
  constructor = first_constructor a.constructor b.constructor;
  other = other_of_both a b;
  fault = first_of a.fault b.fault;
}

abbrev pub all_joined : NodeParts PlainHeading → PlainHeading
all_joined parts = joined (joined parts.first parts.second) (joined parts.third parts.fourth)

-- ---- members and classes

-- the place that tells that a member has not the modifiers that it must have: a field is not static, a constant is static and final
abbrev pub misplaced_by : Declared → Bool → Bool → Option ℕ
misplaced_by (declares.Fields at) static final = cond static (Some at) None
misplaced_by (declares.Constant at) static final = cond (static && final) None (Some at)
misplaced_by _ static final = None

abbrev pub misplaced : PlainHeading → Option ℕ
misplaced h = misplaced_by h.declared h.is_static h.is_final

abbrev pub without_modifiers : PlainHeading → PlainHeading
without_modifiers h = record h { is_static = false; is_final = false }

abbrev pub member : PlainHeading → PlainHeading
member h = record (without_modifiers h) { declared = declares.Nothing; fault = first_of h.fault (misplaced h) }

-- each constructor has the name of its class (JLS 8.8)
abbrev pub class : List ℕ → PlainHeading → PlainHeading
class name h = record (without_modifiers h) {
  constructor = None;
  other = None;
  fault = first_of h.fault (first_of (unless_named name h.constructor) h.other);
}

abbrev pub declaration_by : Declared → List ℕ → PlainHeading → PlainHeading
declaration_by (declares.Constructor at) name h = record h { constructor = Some (record { name = name; at = at }) }
declaration_by _ name h = h

-- a declaration that begins with this name
abbrev pub declaration : List ℕ → PlainHeading → PlainHeading
declaration name h = declaration_by h.declared name h

-- ---- what a rule makes of parts

abbrev pub told : Rule → List PlainLexeme → NodeParts PlainHeading → PlainHeading
told rules.Static ts parts = record (all_joined parts) { is_static = true }
told rules.Final ts parts = record (all_joined parts) { is_final = true }
told rules.Fields ts parts = record (all_joined parts) { declared = declares.Fields (place_of 0 ts) }
told rules.Constant ts parts = record (all_joined parts) { declared = declares.Constant (place_of 0 ts) }
told rules.Constructor ts parts = record (all_joined parts) { declared = declares.Constructor (place_of 0 ts) }
told rules.Declaration ts parts = declaration (text_of ts) (all_joined parts)
told rules.Member ts parts = member (all_joined parts)
told rules.Parameter ts parts = without_modifiers (all_joined parts)
told rules.Class ts parts = class parts.second.name (all_joined parts)
told rules.Identifier ts parts = record (all_joined parts) { name = text_of ts }
told _ ts parts = all_joined parts

-- ---- the code's headings

abbrev pub constructor_view : Constructor → PlainConstructor
constructor_view c = record { name = c.name.now; at = c.at }

abbrev pub heading_view : Heading → PlainHeading
heading_view h = record {
  is_static = h.is_static;
  is_final = h.is_final;
  declared = h.declared;
  name = h.name.now;
  constructor = option_map constructor_view h.constructor;
  other = h.other;
  fault = h.fault;
}

abbrev pub headings_view : NodeParts Heading → NodeParts PlainHeading
headings_view parts = record {
  first = heading_view parts.first;
  second = heading_view parts.second;
  third = heading_view parts.third;
  fourth = heading_view parts.fourth;
}
