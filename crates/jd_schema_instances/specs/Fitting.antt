-- When a pattern has an instance in the trees of the code, whose indices have 32 bits: what is lifted or put stays within them,
-- and what is put has the sort of the index.
use Rattle.jd_model.specs.Programs.{Program}
use Rattle.jd_term.specs.Formulas.{PlainFormula}
use Rattle.jd_term.specs.Shifts.{TermFits, LocFits, ShiftFits}
use Rattle.jd_term.specs.Substitutions.{TermSubstFits, TermSortsAgree, SubstFits, SortsAgree}
use Rattle.jd_term.specs.Terms.{PlainTerm, sort_of_term}
use Rattle.jd_patterns.specs.Patterns as pattern
use Rattle.jd_patterns.specs.Patterns.{TermPattern, LocPattern, FormulaPattern}
use Rattle.jd_patterns.specs.Instances.{Instance, of_term}

-- the term can be put for the index 0 of the other, and of the formula
abbrev pub TermPutFits : PlainTerm → PlainTerm → Type 0
TermPutFits t u = TermSubstFits 0 0 t u × TermSortsAgree 0 (sort_of_term t) u

abbrev pub FormulaPutFits : PlainTerm → PlainFormula → Type 0
FormulaPutFits t a = SubstFits 0 0 t a × SortsAgree 0 (sort_of_term t) a

-- a pattern of formulas of terms
abbrev pub IsAtom : FormulaPattern → Type 0
IsAtom (pattern.Compared h t u) = Unit {0}
IsAtom (pattern.InLocations o f l) = Unit {0}
IsAtom (pattern.Tested h t) = Unit {0}
IsAtom (pattern.Classed h k o) = Unit {0}
IsAtom a = ⊥

module _ (p : Program) (σ : Instance) where
  abbrev mutual
    pub HasTermInstance : TermPattern → Type 0
    HasTermInstance (pattern.Put n t) = HasTermInstance t × TermPutFits (of_term p σ t) (σ.term n)
    HasTermInstance (pattern.Lifted n) = TermFits 0 1 (σ.term n)
    HasTermInstance (pattern.OnePart h t) = HasTermInstance t
    HasTermInstance (pattern.Arithmetic op t u) = HasTermInstance t × HasTermInstance u
    HasTermInstance (pattern.Select s h o f) = HasTermInstance h × HasTermInstance o × HasTermInstance f
    HasTermInstance (pattern.Sum t u v) = HasTermInstance t × HasTermInstance u × HasTermInstance v
    HasTermInstance (pattern.Store h o f t) = HasTermInstance h × HasTermInstance o × HasTermInstance f × HasTermInstance t
    HasTermInstance (pattern.Create h o) = HasTermInstance h × HasTermInstance o
    HasTermInstance (pattern.Anon h l g) = HasTermInstance h × HasLocInstance l × HasTermInstance g
    HasTermInstance t = Unit {0}

    pub HasLocInstance : LocPattern → Type 0
    HasLocInstance (pattern.LiftedLoc n) = LocFits 0 1 (σ.locations n)
    HasLocInstance (pattern.OfObject h o) = HasTermInstance o
    HasLocInstance (pattern.Single o f) = HasTermInstance o × HasTermInstance f
    HasLocInstance (pattern.ElementRange o t u) = HasTermInstance o × HasTermInstance t × HasTermInstance u
    HasLocInstance (pattern.Union l m) = HasLocInstance l × HasLocInstance m
    HasLocInstance l = Unit {0}

  abbrev pub HasFormulaInstance : FormulaPattern → Type 0
  HasFormulaInstance (pattern.PutIn n t) = HasTermInstance t × FormulaPutFits (of_term p σ t) (σ.formula n)
  HasFormulaInstance (pattern.LiftedFormula n) = ShiftFits 0 1 (σ.formula n)
  HasFormulaInstance (pattern.Not a) = HasFormulaInstance a
  HasFormulaInstance (pattern.Connected h a c) = HasFormulaInstance a × HasFormulaInstance c
  HasFormulaInstance (pattern.Compared h t u) = HasTermInstance t × HasTermInstance u
  HasFormulaInstance (pattern.Quantified h s a) = HasFormulaInstance a
  HasFormulaInstance (pattern.Updated x t a) = HasTermInstance t × HasFormulaInstance a
  HasFormulaInstance (pattern.Focus m k c a) = HasFormulaInstance a
  HasFormulaInstance (pattern.Modal m c a) = HasFormulaInstance a
  HasFormulaInstance (pattern.InLocations o f l) = HasTermInstance o × HasTermInstance f × HasLocInstance l
  HasFormulaInstance (pattern.Tested h t) = HasTermInstance t
  HasFormulaInstance (pattern.Classed h k o) = HasTermInstance o
  HasFormulaInstance a = Unit {0}
