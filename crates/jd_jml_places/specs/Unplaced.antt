-- Tokens and trees of JML without their places: 0 stands for each.
use Rattle.std.specs.Prelude.{◌≡◌, List, map, option_map}
use Rattle.jd_lex.specs.Parts as lexed
use Rattle.jd_jml_tokens.specs.Lexemes.{PlainLexeme}
use Rattle.jd_syntax.specs.JavaTypes.{PlainIdentifier, PlainWritten}
use Rattle.jd_syntax.specs.SpecTrees as jml
use Rattle.jd_syntax.specs.SpecTrees.{PlainSpecType, PlainSpec, PlainSpecs, NoSpecs, SpecThen, PlainLocation, PlainClause}

abbrev pub unplaced_token : lexed.Token → lexed.Token
unplaced_token t = record { kind = t.kind; begins = 0; ends = 0; jml = t.jml }

abbrev pub unplaced_lexeme : PlainLexeme → PlainLexeme
unplaced_lexeme l = record { kind = l.kind; token = unplaced_token l.token }

abbrev pub unplaced_name : PlainIdentifier → PlainIdentifier
unplaced_name x = record { at = 0; name = x.name }

abbrev pub unplaced_written : PlainWritten → PlainWritten
unplaced_written t = record { at = 0; written = t.written }

abbrev pub unplaced_type : PlainSpecType → PlainSpecType
unplaced_type jml.BigInt = jml.BigInt
unplaced_type (jml.Java t) = jml.Java (unplaced_written t)

abbrev mutual
  pub unplaced_spec : PlainSpec → PlainSpec
  unplaced_spec (jml.Integer at n) = jml.Integer 0 n
  unplaced_spec (jml.Boolean at b) = jml.Boolean 0 b
  unplaced_spec (jml.Null at) = jml.Null 0
  unplaced_spec (jml.This at) = jml.This 0
  unplaced_spec (jml.Result at) = jml.Result 0
  unplaced_spec (jml.Name at x) = jml.Name 0 x
  unplaced_spec (jml.Field at e x) = jml.Field 0 (unplaced_spec e) (unplaced_name x)
  unplaced_spec (jml.Parenthesized at e) = jml.Parenthesized 0 (unplaced_spec e)
  unplaced_spec (jml.Call at m es) = jml.Call 0 m (unplaced_specs es)
  unplaced_spec (jml.MethodCall at e m es) = jml.MethodCall 0 (unplaced_spec e) (unplaced_name m) (unplaced_specs es)
  unplaced_spec (jml.Index at a i) = jml.Index 0 (unplaced_spec a) (unplaced_spec i)
  unplaced_spec (jml.Prefix at o e) = jml.Prefix 0 o (unplaced_spec e)
  unplaced_spec (jml.Cast at t e) = jml.Cast 0 (unplaced_written t) (unplaced_spec e)
  unplaced_spec (jml.Infix at o a b) = jml.Infix 0 o (unplaced_spec a) (unplaced_spec b)
  unplaced_spec (jml.InstanceOf at e t) = jml.InstanceOf 0 (unplaced_spec e) (unplaced_written t)
  unplaced_spec (jml.Conditional at c a b) = jml.Conditional 0 (unplaced_spec c) (unplaced_spec a) (unplaced_spec b)
  unplaced_spec (jml.Implies at a b) = jml.Implies 0 (unplaced_spec a) (unplaced_spec b)
  unplaced_spec (jml.Equivalent at a b) = jml.Equivalent 0 (unplaced_spec a) (unplaced_spec b)
  unplaced_spec (jml.Old at e) = jml.Old 0 (unplaced_spec e)
  unplaced_spec (jml.Fresh at e) = jml.Fresh 0 (unplaced_spec e)
  unplaced_spec (jml.InvariantFor at e) = jml.InvariantFor 0 (unplaced_spec e)
  unplaced_spec (jml.Quantified at q t x e) = jml.Quantified 0 q (unplaced_type t) (unplaced_name x) (unplaced_spec e)
  unplaced_spec (jml.QuantifiedIn at q t x r e) = jml.QuantifiedIn 0 q (unplaced_type t) (unplaced_name x) (unplaced_spec r) (unplaced_spec e)
  unplaced_spec (jml.Sum at x a b e) = jml.Sum 0 (unplaced_name x) (unplaced_spec a) (unplaced_spec b) (unplaced_spec e)

  pub unplaced_specs : PlainSpecs → PlainSpecs
  unplaced_specs NoSpecs = NoSpecs
  unplaced_specs (SpecThen e es) = SpecThen (unplaced_spec e) (unplaced_specs es)

abbrev pub unplaced_location : PlainLocation → PlainLocation
unplaced_location (jml.Nothing at) = jml.Nothing 0
unplaced_location (jml.Everything at) = jml.Everything 0
unplaced_location (jml.OwnField at x) = jml.OwnField 0 x
unplaced_location (jml.FieldOf at e x) = jml.FieldOf 0 (unplaced_spec e) (unplaced_name x)
unplaced_location (jml.AllFields at e) = jml.AllFields 0 (unplaced_spec e)
unplaced_location (jml.Element at a i) = jml.Element 0 (unplaced_spec a) (unplaced_spec i)
unplaced_location (jml.Range at a i j) = jml.Range 0 (unplaced_spec a) (unplaced_spec i) (unplaced_spec j)
unplaced_location (jml.AllElements at a) = jml.AllElements 0 (unplaced_spec a)

abbrev pub unplaced_clause : PlainClause → PlainClause
unplaced_clause (jml.Requires at e) = jml.Requires 0 (unplaced_spec e)
unplaced_clause (jml.Ensures at e) = jml.Ensures 0 (unplaced_spec e)
unplaced_clause (jml.Signals at c x e) = jml.Signals 0 (unplaced_name c) (option_map unplaced_name x) (unplaced_spec e)
unplaced_clause (jml.SignalsOnly at cs) = jml.SignalsOnly 0 (map unplaced_name cs)
unplaced_clause (jml.Assignable at ls) = jml.Assignable 0 (map unplaced_location ls)
unplaced_clause (jml.MeasuredBy at e) = jml.MeasuredBy 0 (unplaced_spec e)
unplaced_clause (jml.Diverges at b) = jml.Diverges 0 b
unplaced_clause (jml.LoopInvariant at e) = jml.LoopInvariant 0 (unplaced_spec e)
unplaced_clause (jml.Decreases at e) = jml.Decreases 0 (unplaced_spec e)
unplaced_clause (jml.Invariant at e) = jml.Invariant 0 (unplaced_spec e)
unplaced_clause (jml.NormalBehavior at) = jml.NormalBehavior 0
unplaced_clause (jml.ExceptionalBehavior at) = jml.ExceptionalBehavior 0
unplaced_clause (jml.Behavior at) = jml.Behavior 0
unplaced_clause (jml.Also at) = jml.Also 0
unplaced_clause (jml.Pure at) = jml.Pure 0
unplaced_clause (jml.Helper at) = jml.Helper 0
unplaced_clause (jml.Nullable at) = jml.Nullable 0
unplaced_clause (jml.NonNull at) = jml.NonNull 0
unplaced_clause (jml.SpecPublic at) = jml.SpecPublic 0
unplaced_clause (jml.SpecProtected at) = jml.SpecProtected 0

-- tokens that are the same but for their places
abbrev pub Alike : List PlainLexeme → List PlainLexeme → Type 0
Alike ts us = map unplaced_lexeme ts ≡ map unplaced_lexeme us
