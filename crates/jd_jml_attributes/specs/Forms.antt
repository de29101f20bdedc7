-- The attributes of what nodes stand for, and of one thing before another.
use Rattle.std.specs.Prelude.{ℕ, ◌+◌, min, max, List, Bool, false, ◌&&◌, Option, Some, None}
use Rattle.std.specs.Str.{bytes_eq}
use Rattle.jd_jml_attributes.specs.declared.form.Form.{Form}
use Rattle.jd_jml_attributes.specs.declared.form.Kind.{Kind}
use Rattle.jd_jml_attributes.specs.declared.form.Kind.TheVariants as kinds
use Rattle.jd_jml_attributes.specs.declared.form.Link.{Link}
use Rattle.jd_jml_attributes.specs.declared.form.Link.TheVariants as links

-- What an expression is, or what makes it of the operand that it stands behind: nothing; a name alone; one in parentheses; `< e`
-- behind an operand; what ends in `<= x`; `x < e`; `&& x < e` behind an operand; `e <= x && y < e`; any other.
pub data PlainKind : Type 0 where
  Same : PlainKind
  Name : List ℕ → PlainKind
  NameInParentheses : PlainKind
  Less : PlainKind
  AtMost : List ℕ → PlainKind
  Below : List ℕ → PlainKind
  AndBelow : List ℕ → PlainKind
  Between : List ℕ → List ℕ → PlainKind
  Other : PlainKind

abbrev pub kind_view : Kind → PlainKind
kind_view kinds.Same = Same
kind_view (kinds.Name x) = Name x.now
kind_view kinds.NameInParentheses = NameInParentheses
kind_view kinds.Less = Less
kind_view (kinds.AtMost x) = AtMost x.now
kind_view (kinds.Below x) = Below x.now
kind_view (kinds.AndBelow x) = AndBelow x.now
kind_view (kinds.Between x y) = Between x.now y.now
kind_view kinds.Other = Other

-- How high it is, or at least makes the whole; how many levels it stands above the operand before it; what it is; the place of a cast's
-- operand, which asks for the name of a class in parentheses before it; the place of the first token with which no JML goes on; that of
-- the first part that is higher than 200.
pub record PlainForm : Type 0 where
  pub height : ℕ
  pub adds : ℕ
  pub kind : PlainKind
  pub cast : Option ℕ
  pub fault : Option ℕ
  pub high : Option ℕ

abbrev pub form_view : Form → PlainForm
form_view f = record { height = f.height; adds = f.adds; kind = kind_view f.kind; cast = f.cast; fault = f.fault; high = f.high }

abbrev pub empty : PlainForm
empty = record { height = 0; adds = 0; kind = Same; cast = None; fault = None; high = None }

-- heights above 201 are not told apart
abbrev pub plus : ℕ → ℕ → ℕ
plus a b = min (a + b) 201

abbrev pub up : ℕ → ℕ
up n = plus n 1

abbrev pub first_of : Option ℕ → Option ℕ → Option ℕ
first_of (Some p) (Some q) = Some (min p q)
first_of (Some p) None = Some p
first_of None q = q

-- in parentheses
abbrev pub inside : PlainKind → PlainKind
inside (Name x) = NameInParentheses
inside _ = Other

-- with `< e` behind it
abbrev pub less_behind : PlainKind → PlainKind
less_behind Same = Less
less_behind (Name x) = Below x
less_behind _ = Other

-- with `&& x < e` behind it
abbrev pub and_behind : PlainKind → List ℕ → PlainKind
and_behind Same x = AndBelow x
and_behind (AtMost y) x = Between y x
and_behind _ x = Other

-- with that behind it
abbrev pub behind : PlainKind → PlainKind → PlainKind
behind a Same = a
behind a Less = less_behind a
behind a (AndBelow x) = and_behind a x
behind a b = b

-- what an operator and its right operand are behind the left one
abbrev pub linked : Link → PlainKind → PlainKind
linked links.Less k = Less
linked links.AtMost (Name x) = AtMost x
linked links.And (Below x) = AndBelow x
linked _ k = Other

-- whether it is `e <= x && x < e` of that name
abbrev pub is_range : PlainKind → PlainKind → Bool
is_range (Name x) (Between y z) = bytes_eq y x && bytes_eq z x
is_range _ _ = false

-- the place of a cast's operand behind what is no name in parentheses
abbrev pub unmet : PlainKind → Option ℕ → Option ℕ
unmet Same cast = None
unmet NameInParentheses cast = None
unmet _ cast = cast

-- where nothing stands before, the same is asked of what does
abbrev pub cast_behind : PlainKind → Option ℕ → Option ℕ → Option ℕ
cast_behind Same before cast = cast
cast_behind _ before cast = before

-- the one before the other; where the second stands behind an operand, it is as many levels above the first as it adds
abbrev pub in_order : PlainForm → PlainForm → PlainForm
in_order a b = record {
  height = max (plus a.height b.adds) b.height;
  adds = plus a.adds b.adds;
  kind = behind a.kind b.kind;
  cast = cast_behind a.kind a.cast b.cast;
  fault = first_of (first_of a.fault b.fault) (unmet a.kind b.cast);
  high = first_of a.high b.high;
}
