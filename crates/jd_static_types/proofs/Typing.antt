-- What each form gives is of its type.
use Rattle.std.specs.Prelude.{⊤}
use Rattle.std.proofs.Common.{◌≡◌, ℕ, Bool, true, false, not, ◌||◌, if◌then◌else◌, List, [], ◌∷◌, Option, Some, None, Result, Ok, Err, is_some, refl, sym, ap, subst, ◌∙◌, bytes_eq}
use Rattle.std.specs.Option.{unwrap_or}
use Rattle.std.proofs.lemmas.Option.{same_Some, none-some}
use Rattle.jd_syntax.specs.JavaTypes.{PlainIdentifier, PlainWritten}
use Rattle.jd_syntax.specs.JavaTrees.{JavaExpr, Integer, Boolean, Null, This, Name, Field, Parenthesized, Call, MethodCall, New, NewArray, Index, Prefix, Postfix, Cast, Infix, InstanceOf, Conditional, Assign, JavaExprs}
use Rattle.jd_syntax.specs.declared.java.InfixOperator.{InfixOperator}
use Rattle.jd_syntax.specs.declared.java.InfixOperator.TheVariants as operators
use Rattle.jd_syntax.specs.declared.java.PrefixOperator.{PrefixOperator}
use Rattle.jd_syntax.specs.declared.java.PrefixOperator.TheVariants as prefixes
use Rattle.jd_syntax.specs.declared.java.AssignmentOperator.{AssignmentOperator}
use Rattle.jd_syntax.specs.declared.java.AssignmentOperator.TheVariants as assignments
use Rattle.jd_bodies.specs.declared.fault.Cause.{Cause}
use Rattle.jd_bodies.specs.declared.fault.Fault.{Fault}
use Rattle.jd_bodies.specs.declared.given.Given.{Given}
use Rattle.jd_bodies.specs.declared.given.Arguments.{Arguments}
use Rattle.jd_bodies.specs.declared.given.Arguments.TheVariants.{Fit, Mismatch, OtherCount}
use Rattle.jd_bodies.specs.declared.place.Place.{Place}
use Rattle.jd_bodies.specs.declared.value.Callee.{Callee}
use Rattle.jd_bodies.specs.declared.value.Callee.TheVariants as callees
use Rattle.jd_bodies.specs.declared.value.Variable.{Variable}
use Rattle.jd_bodies.specs.declared.value.Variable.TheVariants as variables
use Rattle.jd_bodies.specs.declared.value.ValueType.{ValueType}
use Rattle.jd_bodies.specs.declared.value.ValueType.TheVariants as types
use Rattle.jd_bodies.specs.Declarations.{Declarations, class_type, type_by}
use Rattle.jd_bodies.specs.Expressions.{argument_gives, arguments, arguments_fit, assign_by, at_of, both_wanted, call_by, call_gives, callee_before, callee_by, callee_on, class_before, class_known, constant_gives, constructor_parameters, counted, creation_fits, field_gives, fit_then, given, gives, infix_by, inside, joined_gives, known, length_gives, member_gives, name_gives, only_if_static, own_call, part_type, prefix_gives, related, result_given, sign_type, signed, static_call_by, target, type_at, unless_fixed, unless_static, valued, value_at, value_of, variable_gives, wanted, whole_type}
use Rattle.jd_bodies.specs.Judgements.{and_then, only_if, refused}
use Rattle.jd_bodies.specs.Scopes.{Local, local_named, meaning, meaning_by}
use Rattle.jd_bodies.specs.StaticTypes.{call_before, callee_type, member_before, member_type, named_type, prefix_type, static_type, variable_type}
use Rattle.jd_bodies.specs.Types.{common, fits, joined}
use Rattle.jd_static_types.specs.Types.{AreKnown, Gives, GivenTypes, HaveKnownTypes, IsKnown, ValueHas}

-- a type, where no token is refused
abbrev Types : Result ValueType Fault → ValueType → Type 0
Types (Ok t) s = (t ≡ s) × IsKnown t
Types (Err f) s = ⊤

-- ---- results in a row

any : {A : Type 0} (r : Result A Fault) (f : A → Result Given Fault) (s : ValueType) → ((a : A) → Gives (f a) s) → Gives (and_then f r) s
any (Ok a) f s each = each a
any (Err e) f s each = tt

typed : (r : Result ValueType Fault) (f : ValueType → Result Given Fault) (s u : ValueType) → Types r u → ((t : ValueType) → t ≡ u → IsKnown t → Gives (f t) s) → Gives (and_then f r) s
typed (Ok t) f s u is each = each t is.0 is.1
typed (Err e) f s u is each = tt

only : (b : Bool) (at : ℕ) (cause : Cause) (g : Given) (s : ValueType) → ValueHas g.value s → Gives (only_if b at cause g) s
only true at cause g s is = is
only false at cause g s is = tt

never : (r : Result Given Fault) (at : ℕ) (cause : Cause) (s : ValueType) → Gives (and_then (λ g. refused at cause) r) s
never (Ok g) at cause s = tt
never (Err e) at cause s = tt

type_there : (at : ℕ) (o : Option ValueType) (s : ValueType) → ValueHas o s → Types (type_at at o) s
type_there at None s is = tt
type_there at (Some t) s is = is

value_there : (at : ℕ) (r : Result Given Fault) (s : ValueType) → Gives r s → Types (valued at r) s
value_there at (Ok g) s is = type_there at g.value s is
value_there at (Err e) s is = tt

inside_there : (at : ℕ) (r : Result Given Fault) (s : ValueType) → Gives r s → Gives (inside at r) s
inside_there at (Ok g) s is = by g.value
  where
    by : (o : Option ValueType) → Gives (and_then (λ t. Ok g) (type_at at o)) s
    by None = tt
    by (Some t) = is
inside_there at (Err e) s is = tt

target_there : (at : ℕ) (r : Result Given Fault) (s : ValueType) → Gives r s → Types (target at r) s
target_there at (Ok g) s is = by g.value g.fixed is
  where
    by : (o : Option ValueType) (fixed : Option ℕ) → ValueHas o s → Types (and_then (unless_fixed fixed) (type_at at o)) s
    by None fixed has = tt
    by (Some t) None has = has
    by (Some t) (Some place) has = tt
target_there at (Err e) s is = tt

-- ---- names and members

local_known : (locals : List Local) (x : List ℕ) (t : ValueType) → AreKnown locals → local_named locals x ≡ Some t → IsKnown t
local_known [] x t all is = absurd (none-some t is)
local_known (l ∷ ls) x t all is = by (bytes_eq l.name x) is (local_known ls x t all.1)
  where
    by : (b : Bool) → (if b then Some l.type else local_named ls x) ≡ Some t → (local_named ls x ≡ Some t → IsKnown t) → IsKnown t
    by true e rest = subst IsKnown (same_Some l.type t e) all.0
    by false e rest = rest e

known_whole : (o : InfixOperator) → IsKnown (whole_type o)
known_whole operators.Add = tt
known_whole operators.Subtract = tt
known_whole operators.Multiply = tt
known_whole operators.Divide = tt
known_whole operators.Remainder = tt
known_whole o = tt

module _ (d : Declarations) (all : HaveKnownTypes d) where
  constant_there : (at : ℕ) (v : Option Variable) → Gives (constant_gives at v) (variable_type v)
  constant_there at None = tt
  constant_there at (Some (variables.Field f t)) = tt
  constant_there at (Some (variables.Constant n)) = (refl, tt)

  variable_there : (at c : ℕ) (x : List ℕ) (v : Option Variable) → d.variable c x ≡ v → Gives (variable_gives at v) (variable_type v)
  variable_there at c x None is = tt
  variable_there at c x (Some (variables.Field f t)) is = (refl, all.fields_ c x f t is)
  variable_there at c x (Some (variables.Constant n)) is = (refl, tt)

  length_there : (at : ℕ) (b : Bool) → Gives (length_gives at b) types.Int
  length_there at true = (refl, tt)
  length_there at false = tt

  member_there : (x : PlainIdentifier) (t : ValueType) → IsKnown t → Gives (member_gives d x t) (member_type d x.name t)
  member_there x types.Int is = tt
  member_there x types.Boolean is = tt
  member_there x types.Null is = tt
  member_there x types.IntArray is = length_there x.at _
  member_there x (types.Class c) is = variable_there x.at c x.name (d.variable c x.name) refl
  member_there x types.Missing is = absurd is

  -- ---- calls

  result_there : (m : ℕ) (o : Option ValueType) → (d.signature m).result ≡ o → ValueHas o (unwrap_or o types.Missing)
  result_there m None is = tt
  result_there m (Some t) is = (refl, all.results_ m t is)

  fit_there : (at : ℕ) (g : Given) (a : Arguments) (s : ValueType) → ValueHas g.value s → Gives (arguments_fit at g a) s
  fit_there at g Fit s is = is
  fit_there at g (Mismatch place) s is = tt
  fit_there at g OtherCount s is = tt

  own_there : (static : Bool) (at : ℕ) (c : Callee) (a : Arguments) → Gives (own_call d static at c a) (callee_type d c)
  own_there static at (callees.Routine m) Fit = only (not static || (d.signature m).static) at _ (result_given (d.signature m).result) _ (result_there m (d.signature m).result refl)
  own_there static at (callees.Routine m) (Mismatch place) = never (only_if_static static at (d.signature m).static (d.signature m).result) place _ _
  own_there static at (callees.Routine m) OtherCount = tt
  own_there static at callees.Nothing a = tt
  own_there static at callees.Anything a = tt

  static_there : (at : ℕ) (its : Bool) (r : Option ValueType) (a : Arguments) (s : ValueType) → ValueHas r s → Gives (static_call_by at its r a) s
  static_there at true r a s is = fit_there at (result_given r) a s is
  static_there at false r a s is = tt

  of_class : (at : ℕ) (o : Option ℕ) (a : Arguments) → Gives (call_by d true at (callee_by o) a) (callee_type d (callee_by o))
  of_class at None a = tt
  of_class at (Some m) a = static_there at (d.signature m).static (d.signature m).result a _ (result_there m (d.signature m).result refl)

  of_value : (at : ℕ) (o : Option ℕ) (a : Arguments) → Gives (call_by d false at (callee_by o) a) (callee_type d (callee_by o))
  of_value at None a = tt
  of_value at (Some m) a = fit_there at (result_given (d.signature m).result) a _ (result_there m (d.signature m).result refl)

  on_value : (at : ℕ) (name : List ℕ) (t : ValueType) (a : Arguments) → IsKnown t → Gives (call_by d false at (callee_on d name t) a) (callee_type d (callee_on d name t))
  on_value at name types.Int a is = tt
  on_value at name types.Boolean a is = tt
  on_value at name types.Null a is = tt
  on_value at name types.IntArray a is = tt
  on_value at name (types.Class c) a is = of_value at (d.method c name) a
  on_value at name types.Missing a is = absurd is

  created : (at : ℕ) (ts : Option (List ValueType)) (g : Given) (a : Arguments) (s : ValueType) → ValueHas g.value s → Gives (creation_fits at ts g a) s
  created at None g a s is = tt
  created at (Some ts) g a s is = fit_there at g a s is

  -- ---- operators

  known_there : (at : ℕ) (t : ValueType) → Types (known d at t) t
  known_there at types.Int = (refl, tt)
  known_there at types.Boolean = (refl, tt)
  known_there at types.Null = (refl, tt)
  known_there at types.IntArray = (refl, tt)
  known_there at (types.Class c) = (refl, tt)
  known_there at types.Missing = tt

  both_there : (want : ValueType) (at : ℕ) (a : ValueType) (place : ℕ) (b whole : ValueType) → IsKnown whole → Gives (both_wanted d want at a place b whole) whole
  both_there want at a place b whole is = any (wanted d want at a) _ whole (λ t. any (wanted d want place b) _ whole (λ u. (refl, is)))

  infix_there : (o : Option ValueType) (whole : ValueType) (at first : ℕ) (a : ValueType) (second : ℕ) (b : ValueType) → IsKnown whole → Gives (infix_by d o whole at first a second b) whole
  infix_there (Some want) whole at first a second b is = both_there want first a second b whole is
  infix_there None whole at first a second b is = only _ at _ (value_of whole) whole (refl, is)

  joined_known : (a b t : ValueType) → IsKnown a → IsKnown b → joined d a b ≡ Some t → IsKnown t
  joined_known a b t ka kb = by (fits d a b) (fits d b a)
    where
      commonly : (a b : ValueType) → common d a b ≡ Some t → IsKnown t
      commonly (types.Class x) (types.Class y) e = subst IsKnown (same_Some _ t e) tt
      commonly (types.Class x) types.IntArray e = subst IsKnown (same_Some _ t e) tt
      commonly types.IntArray (types.Class y) e = subst IsKnown (same_Some _ t e) tt
      commonly (types.Class x) types.Int e = absurd (none-some t e)
      commonly (types.Class x) types.Boolean e = absurd (none-some t e)
      commonly (types.Class x) types.Null e = absurd (none-some t e)
      commonly (types.Class x) types.Missing e = absurd (none-some t e)
      commonly types.IntArray types.Int e = absurd (none-some t e)
      commonly types.IntArray types.Boolean e = absurd (none-some t e)
      commonly types.IntArray types.Null e = absurd (none-some t e)
      commonly types.IntArray types.IntArray e = absurd (none-some t e)
      commonly types.IntArray types.Missing e = absurd (none-some t e)
      commonly types.Int b e = absurd (none-some t e)
      commonly types.Boolean b e = absurd (none-some t e)
      commonly types.Null b e = absurd (none-some t e)
      commonly types.Missing b e = absurd (none-some t e)

      by : (p q : Bool) → (if p then Some b else if q then Some a else common d a b) ≡ Some t → IsKnown t
      by true q e = subst IsKnown (same_Some b t e) kb
      by false true e = subst IsKnown (same_Some a t e) ka
      by false false e = commonly a b e

  joined_there : (at : ℕ) (o : Option ValueType) → ((t : ValueType) → o ≡ Some t → IsKnown t) → Gives (joined_gives d at o) (unwrap_or o types.Missing)
  joined_there at None each = tt
  joined_there at (Some t) each = (refl, each t refl)

  -- `op=` and `++` take an int, and what takes one is one
  changed : (at : ℕ) (t s : ValueType) (f : ValueType → Result Given Fault) → t ≡ s → IsKnown t → ((u : ValueType) → Gives (f u) types.Int) → Gives (and_then f (wanted d types.Int at t)) s
  changed at types.Int s f same is each = subst (λ u. Gives (f types.Int) u) same (each types.Int)
  changed at types.Boolean s f same is each = tt
  changed at types.Null s f same is each = tt
  changed at types.IntArray s f same is each = tt
  changed at (types.Class c) s f same is each = tt
  changed at types.Missing s f same is each = absurd is

  assigned : (o : AssignmentOperator) (at : ℕ) (t s : ValueType) (place : ℕ) (v : ValueType) → t ≡ s → IsKnown t → Gives (assign_by d o at t place v) s
  assigned assignments.Set at t s place v same is = any (wanted d t place v) _ s (λ u. (same, is))
  assigned assignments.Add at t s place v same is = changed at t s _ same is (λ w. any (wanted d types.Int place v) _ types.Int (λ u. (refl, tt)))
  assigned assignments.Subtract at t s place v same is = changed at t s _ same is (λ w. any (wanted d types.Int place v) _ types.Int (λ u. (refl, tt)))
  assigned assignments.Multiply at t s place v same is = changed at t s _ same is (λ w. any (wanted d types.Int place v) _ types.Int (λ u. (refl, tt)))
  assigned assignments.Divide at t s place v same is = changed at t s _ same is (λ w. any (wanted d types.Int place v) _ types.Int (λ u. (refl, tt)))
  assigned assignments.Remainder at t s place v same is = changed at t s _ same is (λ w. any (wanted d types.Int place v) _ types.Int (λ u. (refl, tt)))

  counted_there : (at : ℕ) (r : Result Given Fault) → Gives (counted d at r) types.Int
  counted_there at r = any (target at r) _ types.Int (λ t. any (wanted d types.Int at t) _ types.Int (λ u. (refl, tt)))

  signed_there : (want : ValueType) (at : ℕ) (r : Result Given Fault) → IsKnown want → Gives (signed d want at r) want
  signed_there want at r is = any (valued at r) _ want (λ t. any (wanted d want at t) _ want (λ u. (refl, is)))

  prefix_there : (o : PrefixOperator) (at : ℕ) (r : Result Given Fault) → Gives (prefix_gives d o at r) (prefix_type o)
  prefix_there (prefixes.Count c) at r = counted_there at r
  prefix_there prefixes.Plus at r = signed_there types.Int at r tt
  prefix_there prefixes.Minus at r = signed_there types.Int at r tt
  prefix_there prefixes.Not at r = signed_there types.Boolean at r tt

module _ (d : Declarations) (place : Place) (locals : List Local) (all : HaveKnownTypes d) (are : AreKnown locals) where
  name_there : (at : ℕ) (x : List ℕ) → Gives (name_gives place.is_static at (meaning d place locals x)) (named_type (meaning d place locals x))
  name_there at x = by (local_named locals x) refl (d.variable place.class x) refl
    where
      by : (o : Option ValueType) → local_named locals x ≡ o → (v : Option Variable) → d.variable place.class x ≡ v → Gives (name_gives place.is_static at (meaning_by o v)) (named_type (meaning_by o v))
      by (Some t) is v its = (refl, local_known locals x t are is)
      by None is None its = tt
      by None is (Some (variables.Field f t)) its = only (not place.is_static) at _ (value_of t) t (refl, all.fields_ place.class x f t its)
      by None is (Some (variables.Constant n)) its = (refl, tt)

  field_there : (at : ℕ) (x : PlainIdentifier) (c : Option ℕ) (r : Result Given Fault) (s : ValueType) → Gives r s → Gives (field_gives d x c (valued at r)) (member_before d x.name c s)
  field_there at x (Some c) r s is = constant_there d all x.at (d.variable c x.name)
  field_there at x None r s is = typed (valued at r) (member_gives d x) (member_type d x.name s) s (value_there at r s is) (λ t same kept. subst (λ u. Gives (member_gives d x t) (member_type d x.name u)) same (member_there d all x t kept))

  method_there : (at : ℕ) (m : PlainIdentifier) (c : Option ℕ) (r : Result Given Fault) (s : ValueType) (arguments_ : Result Arguments Fault) → Gives r s
      → Gives (call_gives d (is_some c) m.at (callee_before d m.name c (valued at r)) arguments_) (call_before d m.name c s)
  method_there at m (Some c) r s a is = any a (call_by d true m.at (callee_by (d.method c m.name))) _ (λ fit. of_class d all m.at (d.method c m.name) fit)
  method_there at m None r s a is = by (valued at r) (value_there at r s is)
    where
      by : (o : Result ValueType Fault) → Types o s → Gives (and_then (λ c. and_then (call_by d false m.at c) a) (and_then (λ t. Ok (callee_on d m.name t)) o)) (callee_type d (callee_on d m.name s))
      by (Err e) has = tt
      by (Ok t) has = any a (call_by d false m.at (callee_on d m.name t)) _ (λ fit. subst (λ u. Gives (call_by d false m.at (callee_on d m.name t) fit) (callee_type d (callee_on d m.name u))) has.0 (on_value d all m.at m.name t fit has.1))

  new_there : (x : PlainIdentifier) (a : Result Arguments Fault) (o : Option ℕ) → Gives (and_then (λ c. and_then (creation_fits x.at (constructor_parameters d c) (value_of (types.Class c))) a) (class_known d x.at o)) (class_type o)
  new_there x a None = tt
  new_there x a (Some c) = any a _ (types.Class c) (λ fit. created d all x.at (constructor_parameters d c) (value_of (types.Class c)) fit (types.Class c) (refl, tt))

  abbrev st : JavaExpr → ValueType
  st e = static_type d place locals e

  abbrev gv : JavaExpr → Result Given Fault
  gv e = given d place locals e

  pub types_there : (e : JavaExpr) → Gives (gv e) (st e)
  types_there (Integer at n) = (refl, tt)
  types_there (Boolean at b) = (refl, tt)
  types_there (Null at) = (refl, tt)
  types_there (This at) = only (not place.is_static) at _ _ (types.Class place.class) (refl, tt)
  types_there (Name at x) = name_there at x
  types_there (Field at e x) = field_there (at_of e) x (class_before d place locals e) (gv e) (st e) (types_there e)
  types_there (Parenthesized at e) = inside_there (at_of e) (gv e) (st e) (types_there e)
  types_there (Call at m es) = any (arguments d place locals es _) (own_call d place.is_static at (callee_by (d.method place.class m))) _ (λ a. own_there d all place.is_static at (callee_by (d.method place.class m)) a)
  types_there (MethodCall at e m es) = method_there (at_of e) m (class_before d place locals e) (gv e) (st e) (arguments d place locals es _) (types_there e)
  types_there (New at c es) = new_there c (arguments d place locals es _) (d.class_named c.name)
  types_there (NewArray at e) = any (valued (at_of e) (gv e)) _ types.IntArray (λ t. any (wanted d types.Int (at_of e) t) _ types.IntArray (λ u. (refl, tt)))
  types_there (Index at a i) = any (valued (at_of a) (gv a)) _ types.Int (λ t. any (valued (at_of i) (gv i)) _ types.Int (λ u. any _ _ types.Int (λ v. any (wanted d types.Int (at_of i) u) _ types.Int (λ w. (refl, tt)))))
  types_there (Prefix at o e) = prefix_there d all o (at_of e) (gv e)
  types_there (Postfix at o e) = counted_there d all (at_of e) (gv e)
  types_there (Cast at w e) = typed (known d w.at (type_by d.class_named w.written)) _ (type_by d.class_named w.written) (type_by d.class_named w.written) (known_there d all w.at (type_by d.class_named w.written)) (λ t same kept. any (valued (at_of e) (gv e)) _ _ (λ u. only _ at _ (value_of t) _ (same, kept)))
  types_there (Infix at o a b) = any (valued (at_of a) (gv a)) _ (whole_type o) (λ t. any (valued (at_of b) (gv b)) _ (whole_type o) (λ u. infix_there d all (part_type o) (whole_type o) at (at_of a) t (at_of b) u (known_whole o)))
  types_there (InstanceOf at e w) = any (valued (at_of e) (gv e)) _ types.Boolean (λ t. any (known d w.at (type_by d.class_named w.written)) _ types.Boolean (λ u. only _ at _ (value_of types.Boolean) types.Boolean (refl, tt)))
  types_there (Conditional at c a b) = any (valued (at_of c) (gv c)) _ _ (λ t. branched t (valued (at_of a) (gv a)) (valued (at_of b) (gv b)) (value_there (at_of a) (gv a) (st a) (types_there a)) (value_there (at_of b) (gv b) (st b) (types_there b)))
    where
      branched : (t : ValueType) (p q : Result ValueType Fault) → Types p (st a) → Types q (st b)
          → Gives (and_then (λ w. and_then (λ u. joined_gives d at w) (wanted d types.Boolean (at_of c) t)) (and_then (λ x. and_then (λ y. Ok (joined d x y)) q) p)) (unwrap_or (joined d (st a) (st b)) types.Missing)
      branched t (Err e) q is its = tt
      branched t (Ok x) (Err e) is its = tt
      branched t (Ok x) (Ok y) is its =
          any (wanted d types.Boolean (at_of c) t) _ _
          (λ u. subst (λ z. Gives (joined_gives d at (joined d x y)) (unwrap_or (joined d (st a) z) types.Missing)) its.0
          (subst (λ z. Gives (joined_gives d at (joined d x y)) (unwrap_or (joined d z y) types.Missing)) is.0 (joined_there d all at (joined d x y) (λ v e. joined_known d all x y v is.1 its.1 e))))
  types_there (Assign at o e v) = typed (target (at_of e) (gv e)) _ (st e) (st e) (target_there (at_of e) (gv e) (st e) (types_there e)) (λ t same kept. any (valued (at_of v) (gv v)) _ (st e) (λ u. assigned d all o (at_of e) t (st e) (at_of v) u same kept))
