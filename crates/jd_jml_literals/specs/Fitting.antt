-- JML whose literals are natural numbers that 128 signed bits hold, as its tokens are.
use Rattle.std.specs.List.{AllByRecursion as Every}
use Rattle.std.specs.Prelude.{negsuc, pos, ℕ, ℤ, ◌≤◌}
use Rattle.jd_jmlparse.specs.Filled.{blocks_of}
use Rattle.jd_syntax.specs.JavaTrees.{JavaUnit}
use Rattle.jd_syntax.specs.SpecTrees as jml
use Rattle.jd_syntax.specs.SpecTrees.{NoSpecs, PlainClause, PlainLocation, PlainSpec, PlainSpecBlock, PlainSpecs, SpecThen}

abbrev pub greatest : ℕ
greatest = 170141183460469231731687303715884105727

abbrev pub LiteralFits : ℤ → Type 0
LiteralFits (pos n) = n ≤ greatest
LiteralFits (negsuc n) = ⊥

abbrev mutual
  pub SpecFits : PlainSpec → Type 0
  SpecFits (jml.Integer at n) = LiteralFits n
  SpecFits (jml.Boolean at b) = Unit {0}
  SpecFits (jml.Null at) = Unit {0}
  SpecFits (jml.This at) = Unit {0}
  SpecFits (jml.Result at) = Unit {0}
  SpecFits (jml.Name at x) = Unit {0}
  SpecFits (jml.Field at e x) = SpecFits e
  SpecFits (jml.Parenthesized at e) = SpecFits e
  SpecFits (jml.Call at m es) = SpecsFit es
  SpecFits (jml.MethodCall at e m es) = SpecFits e × SpecsFit es
  SpecFits (jml.Index at a i) = SpecFits a × SpecFits i
  SpecFits (jml.Prefix at o e) = SpecFits e
  SpecFits (jml.Cast at t e) = SpecFits e
  SpecFits (jml.Infix at o a b) = SpecFits a × SpecFits b
  SpecFits (jml.InstanceOf at e t) = SpecFits e
  SpecFits (jml.Conditional at c a b) = SpecFits c × SpecFits a × SpecFits b
  SpecFits (jml.Implies at a b) = SpecFits a × SpecFits b
  SpecFits (jml.Equivalent at a b) = SpecFits a × SpecFits b
  SpecFits (jml.Old at e) = SpecFits e
  SpecFits (jml.Fresh at e) = SpecFits e
  SpecFits (jml.InvariantFor at e) = SpecFits e
  SpecFits (jml.Quantified at q t x e) = SpecFits e
  SpecFits (jml.QuantifiedIn at q t x r e) = SpecFits r × SpecFits e
  SpecFits (jml.Sum at x a b e) = SpecFits a × SpecFits b × SpecFits e

  pub SpecsFit : PlainSpecs → Type 0
  SpecsFit NoSpecs = Unit {0}
  SpecsFit (SpecThen e es) = SpecFits e × SpecsFit es

abbrev pub LocationFits : PlainLocation → Type 0
LocationFits (jml.Nothing at) = Unit {0}
LocationFits (jml.Everything at) = Unit {0}
LocationFits (jml.OwnField at x) = Unit {0}
LocationFits (jml.FieldOf at e x) = SpecFits e
LocationFits (jml.AllFields at e) = SpecFits e
LocationFits (jml.Element at a i) = SpecFits a × SpecFits i
LocationFits (jml.Range at a i j) = SpecFits a × SpecFits i × SpecFits j
LocationFits (jml.AllElements at a) = SpecFits a

abbrev pub ClauseFits : PlainClause → Type 0
ClauseFits (jml.Requires at e) = SpecFits e
ClauseFits (jml.Ensures at e) = SpecFits e
ClauseFits (jml.Signals at c x e) = SpecFits e
ClauseFits (jml.Assignable at ls) = Every LocationFits ls
ClauseFits (jml.MeasuredBy at e) = SpecFits e
ClauseFits (jml.LoopInvariant at e) = SpecFits e
ClauseFits (jml.Decreases at e) = SpecFits e
ClauseFits (jml.Invariant at e) = SpecFits e
ClauseFits c = Unit {0}

abbrev pub BlockFits : PlainSpecBlock → Type 0
BlockFits b = Every ClauseFits b.clauses

-- all JML of a file, that of statements too
abbrev pub UnitFits : JavaUnit → Type 0
UnitFits u = Every BlockFits (blocks_of u)
