-- What is written for each tree, part after part, and what a printing holds.
use Rattle.std.specs.Prelude.{◌≡◌, ℕ, List, [], ◌∷◌, ◌++◌, Bool, true, false, Option, Some, None, IfOk, codes}
use Rattle.std.specs.Fmt.{signed_decimal}
use Rattle.jd_syntax.specs.JavaTypes.{PlainIdentifier, PlainType, IntType, BooleanType, IntArrayType, NamedType}
use Rattle.jd_syntax.specs.SpecTrees as jml
use Rattle.jd_syntax.specs.SpecTrees.{PlainSpecType, PlainSpec, PlainSpecs, NoSpecs, SpecThen, PlainLocation, PlainClause}
use Rattle.jd_jml_print.specs.Texts.{truth_text, infix_text, prefix_text, quantifier_text}
use Rattle.jd_jml_print.specs.declared.printing.Printing.{Printing}

-- where there was memory for all, these bytes are written
abbrev pub Holds : Printing → List ℕ → Type 0
Holds p w = IfOk p.bytes (λ v. v.items ≡ w)

-- tokens that are one text, behind a blank
abbrev pub put : List ℕ → List ℕ → List ℕ
put w t = w ++ 32 ∷ t

abbrev pub comma : Bool → List ℕ → List ℕ
comma true w = put w (codes ",")
comma false w = w

abbrev pub type_text : PlainType → List ℕ
type_text IntType = codes "int"
type_text BooleanType = codes "boolean"
type_text IntArrayType = codes "int [ ]"
type_text (NamedType x) = x

abbrev pub spec_type_text : PlainSpecType → List ℕ
spec_type_text jml.BigInt = codes "\\bigint"
spec_type_text (jml.Java t) = type_text t.written

-- a bracket, the word that binds, the type, the variable and `;`
abbrev pub write_binder : List ℕ → List ℕ → List ℕ → List ℕ → List ℕ
write_binder w q t x = put (put (put (put (put w (codes "(")) q) t) x) (codes ";")

-- `<= x && x <`
abbrev pub write_between : List ℕ → List ℕ → List ℕ
write_between w x = put (put (put (put (put w (codes "<=")) x) (codes "&&")) x) (codes "<")

abbrev mutual
  pub write_spec : List ℕ → PlainSpec → List ℕ
  write_spec w (jml.Integer at z) = put w (signed_decimal z)
  write_spec w (jml.Boolean at b) = put w (truth_text b)
  write_spec w (jml.Null at) = put w (codes "null")
  write_spec w (jml.This at) = put w (codes "this")
  write_spec w (jml.Result at) = put w (codes "\\result")
  write_spec w (jml.Name at x) = put w x
  write_spec w (jml.Field at e x) = put (put (write_spec w e) (codes ".")) x.name
  write_spec w (jml.Parenthesized at e) = put (write_spec (put w (codes "(")) e) (codes ")")
  write_spec w (jml.Call at m es) = put (write_specs false (put (put w m) (codes "(")) es) (codes ")")
  write_spec w (jml.MethodCall at e m es) = put (write_specs false (put (put (put (write_spec w e) (codes ".")) m.name) (codes "(")) es) (codes ")")
  write_spec w (jml.Index at a i) = put (write_spec (put (write_spec w a) (codes "[")) i) (codes "]")
  write_spec w (jml.Prefix at o e) = write_spec (put w (prefix_text o)) e
  write_spec w (jml.Cast at t e) = write_spec (put (put (put w (codes "(")) (type_text t.written)) (codes ")")) e
  write_spec w (jml.Infix at o a b) = write_spec (put (write_spec w a) (infix_text o)) b
  write_spec w (jml.InstanceOf at e t) = put (put (write_spec w e) (codes "instanceof")) (type_text t.written)
  write_spec w (jml.Conditional at c a b) = write_spec (put (write_spec (put (write_spec w c) (codes "?")) a) (codes ":")) b
  write_spec w (jml.Implies at a b) = write_spec (put (write_spec w a) (codes "==>")) b
  write_spec w (jml.Equivalent at a b) = write_spec (put (write_spec w a) (codes "<==>")) b
  write_spec w (jml.Old at e) = put (write_spec (put w (codes "\\old (")) e) (codes ")")
  write_spec w (jml.Fresh at e) = put (write_spec (put w (codes "\\fresh (")) e) (codes ")")
  write_spec w (jml.InvariantFor at e) = put (write_spec (put w (codes "\\invariant_for (")) e) (codes ")")
  write_spec w (jml.Quantified at q t x e) = put (write_spec (write_binder w (quantifier_text q) (spec_type_text t) x.name) e) (codes ")")
  write_spec w (jml.QuantifiedIn at q t x r e) =
      put (write_spec (put (write_spec (write_binder w (quantifier_text q) (spec_type_text t) x.name) r) (codes ";")) e) (codes ")")
  write_spec w (jml.Sum at x a b e) =
      put (write_spec (put (write_spec (write_between (write_spec (write_binder w (codes "\\sum") (codes "int") x.name) a) x.name) b) (codes ";")) e) (codes ")")

  -- expressions, with a comma before the first where others stand before it
  pub write_specs : Bool → List ℕ → PlainSpecs → List ℕ
  write_specs more w NoSpecs = w
  write_specs more w (SpecThen e es) = write_specs true (write_spec (comma more w) e) es

abbrev pub write_location : List ℕ → PlainLocation → List ℕ
write_location w (jml.Nothing at) = put w (codes "\\nothing")
write_location w (jml.Everything at) = put w (codes "\\everything")
write_location w (jml.OwnField at x) = put w x
write_location w (jml.FieldOf at e x) = put (put (write_spec w e) (codes ".")) x.name
write_location w (jml.AllFields at e) = put (write_spec w e) (codes ". *")
write_location w (jml.Element at a i) = put (write_spec (put (write_spec w a) (codes "[")) i) (codes "]")
write_location w (jml.Range at a i j) = put (write_spec (put (write_spec (put (write_spec w a) (codes "[")) i) (codes "..")) j) (codes "]")
write_location w (jml.AllElements at a) = put (write_spec w a) (codes "[ * ]")

abbrev pub write_locations : Bool → List ℕ → List PlainLocation → List ℕ
write_locations more w [] = w
write_locations more w (l ∷ ls) = write_locations true (write_location (comma more w) l) ls

abbrev pub write_names : Bool → List ℕ → List PlainIdentifier → List ℕ
write_names more w [] = w
write_names more w (x ∷ xs) = write_names true (put (comma more w) x.name) xs

abbrev pub write_exception : List ℕ → Option PlainIdentifier → List ℕ
write_exception w None = w
write_exception w (Some x) = put w x.name

abbrev pub write_classes : List ℕ → List PlainIdentifier → List ℕ
write_classes w [] = put w (codes "\\nothing")
write_classes w (c ∷ cs) = write_names false w (c ∷ cs)

-- the word that a clause begins with
abbrev pub head : PlainClause → List ℕ
head (jml.Requires at e) = codes "requires"
head (jml.Ensures at e) = codes "ensures"
head (jml.Signals at c x e) = codes "signals"
head (jml.SignalsOnly at cs) = codes "signals_only"
head (jml.Assignable at ls) = codes "assignable"
head (jml.MeasuredBy at e) = codes "measured_by"
head (jml.Diverges at b) = codes "diverges"
head (jml.LoopInvariant at e) = codes "loop_invariant"
head (jml.Decreases at e) = codes "decreases"
head (jml.Invariant at e) = codes "invariant"
head (jml.NormalBehavior at) = codes "normal_behavior"
head (jml.ExceptionalBehavior at) = codes "exceptional_behavior"
head (jml.Behavior at) = codes "behavior"
head (jml.Also at) = codes "also"
head (jml.Pure at) = codes "pure"
head (jml.Helper at) = codes "helper"
head (jml.Nullable at) = codes "nullable"
head (jml.NonNull at) = codes "non_null"
head (jml.SpecPublic at) = codes "spec_public"
head (jml.SpecProtected at) = codes "spec_protected"

-- what stands behind it
abbrev pub write_rest : List ℕ → PlainClause → List ℕ
write_rest w (jml.Requires at e) = put (write_spec w e) (codes ";")
write_rest w (jml.Ensures at e) = put (write_spec w e) (codes ";")
write_rest w (jml.Signals at c x e) = put (write_spec (put (write_exception (put (put w (codes "(")) c.name) x) (codes ")")) e) (codes ";")
write_rest w (jml.SignalsOnly at cs) = put (write_classes w cs) (codes ";")
write_rest w (jml.Assignable at ls) = put (write_locations false w ls) (codes ";")
write_rest w (jml.MeasuredBy at e) = put (write_spec w e) (codes ";")
write_rest w (jml.Diverges at b) = put (put w (truth_text b)) (codes ";")
write_rest w (jml.LoopInvariant at e) = put (write_spec w e) (codes ";")
write_rest w (jml.Decreases at e) = put (write_spec w e) (codes ";")
write_rest w (jml.Invariant at e) = put (write_spec w e) (codes ";")
write_rest w (jml.NormalBehavior at) = w
write_rest w (jml.ExceptionalBehavior at) = w
write_rest w (jml.Behavior at) = w
write_rest w (jml.Also at) = w
write_rest w (jml.Pure at) = w
write_rest w (jml.Helper at) = w
write_rest w (jml.Nullable at) = w
write_rest w (jml.NonNull at) = w
write_rest w (jml.SpecPublic at) = w
write_rest w (jml.SpecProtected at) = w

abbrev pub write_clause : List ℕ → PlainClause → List ℕ
write_clause w c = write_rest (put (w ++ 10 ∷ []) (head c)) c

abbrev pub write_clauses : List ℕ → List PlainClause → List ℕ
write_clauses w [] = w
write_clauses w (c ∷ cs) = write_clauses (write_clause w c) cs
