-- The views of patterns of terms and location sets.
use Rattle.jd_term.specs.Terms as plain
use Rattle.jd_patterns.specs.Patterns.{TermPattern, AnyTerm, TermOf, LiteralVar, FieldVar, Put, Lifted, OfSimple, ProgramVariable, Constant, Given, OnePart, NegationOf, WrapOf, LengthOfArray, ElementOf, Arithmetic, Select, Sum, Store, Create, Anon, LocPattern, LocVar, LiftedLoc, NoLocations, AllLocations, OfObject, FieldsOf, ElementsOf, Single, ElementRange, Union}
use Rattle.jd_schema_trees.specs.HeadViews.{sort_pattern, name_pattern}
use Rattle.jd_schema_trees.specs.declared.term.STerm.{STerm}
use Rattle.jd_schema_trees.specs.declared.term.STerm.TheVariants as terms
use Rattle.jd_schema_trees.specs.declared.term.SLoc.{SLoc}
use Rattle.jd_schema_trees.specs.declared.term.SLoc.TheVariants as locs

abbrev mutual
  pub term_pattern : STerm → TermPattern
  term_pattern (terms.Any n) = AnyTerm n.items
  term_pattern (terms.OfSort s n) = TermOf s n.items
  term_pattern (terms.Literal n) = LiteralVar n.items
  term_pattern (terms.Field n) = FieldVar n.items
  term_pattern (terms.Put' n p a) = Put n.items (term_pattern a)
  term_pattern (terms.Lifted n) = Lifted n.items
  term_pattern (terms.OfSimple n) = OfSimple n.items
  term_pattern (terms.ProgramVariable x) = ProgramVariable (name_pattern x)
  term_pattern (terms.Constant x) = Constant (name_pattern x)
  term_pattern (terms.Number z) = Given (plain.Number z)
  term_pattern (terms.Boolean b) = Given (plain.Boolean b)
  term_pattern terms.NullTerm = Given plain.NullTerm
  term_pattern (terms.Bound k s) = Given (plain.Bound k s)
  term_pattern terms.CreatedField = Given plain.CreatedField
  term_pattern (terms.Negation' p a) = OnePart NegationOf (term_pattern a)
  term_pattern (terms.Wrap' p a) = OnePart WrapOf (term_pattern a)
  term_pattern (terms.Length' p a) = OnePart LengthOfArray (term_pattern a)
  term_pattern (terms.ElementField' p a) = OnePart ElementOf (term_pattern a)
  term_pattern (terms.Arithmetic' op p a q b) = Arithmetic op (term_pattern a) (term_pattern b)
  term_pattern (terms.Select' s p a q b r c) = Select (sort_pattern s) (term_pattern a) (term_pattern b) (term_pattern c)
  term_pattern (terms.Sum' p a q b r c) = Sum (term_pattern a) (term_pattern b) (term_pattern c)
  term_pattern (terms.Store' p a q b r c t d) = Store (term_pattern a) (term_pattern b) (term_pattern c) (term_pattern d)
  term_pattern (terms.Create' p a q b) = Create (term_pattern a) (term_pattern b)
  term_pattern (terms.Anon' p a q l r c) = Anon (term_pattern a) (loc_pattern l) (term_pattern c)

  pub loc_pattern : SLoc → LocPattern
  loc_pattern (locs.Any n) = LocVar n.items
  loc_pattern (locs.Lifted n) = LiftedLoc n.items
  loc_pattern locs.NoLocations = NoLocations
  loc_pattern locs.AllLocations = AllLocations
  loc_pattern (locs.Single' p a q b) = Single (term_pattern a) (term_pattern b)
  loc_pattern (locs.ObjectFields' p a) = OfObject FieldsOf (term_pattern a)
  loc_pattern (locs.ArrayElements' p a) = OfObject ElementsOf (term_pattern a)
  loc_pattern (locs.ElementRange' p a q b r c) = ElementRange (term_pattern a) (term_pattern b) (term_pattern c)
  loc_pattern (locs.Union' p l q m) = Union (loc_pattern l) (loc_pattern m)
