-- What is proved of the meaning of JML and of its formulas.
use Rattle.std.specs.Prelude.{◌≡◌, ◌↔◌, ℕ, Bool, true, List, ◌∷◌}
use mathlib.Core.HLevel.{Stable}
use Rattle.jd_heap.specs.References.{Reference, Field, location}
use Rattle.jd_heap.specs.Heaps.{Heap}
use Rattle.jd_heap.specs.Values.{Value, as_int}
use Rattle.jd_term.specs.Renamings.{FirstOrder}
use Rattle.jd_model.specs.Closed.{Below, BelowLoc, BelowIn}
use Rattle.jd_model.specs.SpecialNames.{entry_heap, receiver}
use Rattle.jd_model.specs.States.{State}
use Rattle.jd_model.specs.Programs.{Program}
use Rattle.jd_model.specs.TermValues.{value, within}
use Rattle.jd_model.specs.Truth.{Truth, InvTruth}
use Rattle.jd_model.specs.Occurrences.{AllApart}
use Rattle.jd_model.specs.EntryExit.{Moment, EntryAs, NormalEnd, ExceptionalEnd, NormalExit, ExceptionalExit, constants_of, measure_at}
use Rattle.jd_model.specs.KeptCases.{Kept}
use Rattle.jd_jml_meaning.specs.Resolved.{JmlExpr, JmlLocation}
use Rattle.jd_jml_meaning.specs.Meaning.{When, World, meant, Holds, AmongAll}
use Rattle.jd_jml_meaning.specs.Translation.{Spelling, term, formula, locations}
use Rattle.jd_jml_meaning.specs.Standing.{Stands}
use Rattle.jd_jml_meaning.specs.Scopes.{Scoped, LocationsScoped, ClosedSpelling}
use Rattle.jd_jml_meaning.specs.InvariantFormulas.{setting_of}
use Rattle.jd_jml_meaning.specs.JmlContracts.{JmlContract, InvariantHolds, JmlEntry, JmlNormalEnd, JmlExceptionalEnd, JmlNormalExit, JmlExceptionalExit, measured}
use Rattle.jd_jml_meaning.specs.ContractFormulas.{contract_of}
use Rattle.jd_jml_meaning.specs.JmlCases.{JmlProgram, JmlCase, JmlKept, case_of, specified}

-- the term of an expression has the expression's value
abbrev pub TermsHaveValues : Type 0
TermsHaveValues = (p : Program) (sp : Spelling) (i s : State) (w : World) → Stands sp i s w → (t : When) (b : List Value) (e : JmlExpr) → value i s b (term p sp t e) ≡ meant p w t b e

-- the formula of an expression is true exactly where the expression holds, with the invariants that classes have
abbrev pub FormulasHold : Type 0
FormulasHold = (p : Program) (own : ℕ → List JmlExpr) (d : ℕ) (sp : Spelling) (i s : State) (w : World) → Stands sp i s w → (t : When) (b : List Value) (e : JmlExpr) → Truth (setting_of p own) d i s b (formula p sp t e) ↔ Holds p w (InvariantHolds p own) t b e

-- a location is in the set exactly where the clause names it
abbrev pub LocationsAreNamed : Type 0
LocationsAreNamed = (p : Program) (sp : Spelling) (i s : State) (w : World) → Stands sp i s w → (t : When) (b : List Value) (ls : List JmlLocation) (o : Reference) (f : Field) → (within i s b (locations p sp t ls) (location o f) ≡ true) ↔ AmongAll p w t b ls o f

-- the truth of `inv h o` is that the invariants of the object's class and of those above it hold
abbrev pub InvariantsMean : Type 0
InvariantsMean = (p : Program) (own : ℕ → List JmlExpr) (d : ℕ) (h : Heap) (o : Reference) → InvTruth (setting_of p own) d h o ↔ InvariantHolds p own h o

-- no formula of an expression has an update or a modality
abbrev pub FormulasAreFirstOrder : Type 0
FormulasAreFirstOrder = (p : Program) (sp : Spelling) (t : When) (e : JmlExpr) → FirstOrder (formula p sp t e)

-- where bound variables have their binders, nothing is free in terms, formulas and location sets
pub record AreClosed (p : Program) (sp : Spelling) : Type 0 where
  pub terms : (t : When) (c : ℕ) (e : JmlExpr) → Scoped c e → Below c (term p sp t e)
  pub formulas : (t : When) (c : ℕ) (e : JmlExpr) → Scoped c e → BelowIn c (formula p sp t e)
  pub locations_ : (t : When) (c : ℕ) (ls : List JmlLocation) → LocationsScoped c ls → BelowLoc c (locations p sp t ls)

abbrev pub ScopedIsClosed : Type 0
ScopedIsClosed = (p : Program) (sp : Spelling) → ClosedSpelling sp → AreClosed p sp

-- what is meant is stable
abbrev pub MeaningIsStable : Type 0
MeaningIsStable = (p : Program) (own : ℕ → List JmlExpr) (w : World) (t : When) (b : List Value) (e : JmlExpr) → Stable (Holds p w (InvariantHolds p own) t b e)

-- no two of the constants are the same, and none is `#hpre` or `#r_this`
abbrev pub HasOwnConstants : JmlContract → Type 0
HasOwnConstants c = AllApart (entry_heap ∷ receiver ∷ constants_of c.parameters)

-- the formulas of a contract say of entries and ends what JML says
pub record ContractMeans (p : Program) (own : ℕ → List JmlExpr) (c : JmlContract) : Type 0 where
  pub entry : (exactly : Bool) (class : ℕ) (h : Heap) (r : Reference) (vs : List Value) → EntryAs (setting_of p own) exactly (contract_of p c) class h r vs ↔ JmlEntry p own exactly c class h r vs
  pub normal_end : (m : Moment) → NormalEnd (setting_of p own) (contract_of p c) m ↔ JmlNormalEnd p own c m
  pub exceptional_end : (m : Moment) → ExceptionalEnd (setting_of p own) (contract_of p c) m ↔ JmlExceptionalEnd p own c m
  pub normal_exit : (h : Heap) (r : Reference) (vs : List Value) (k : Heap) (v : Value) → NormalExit (setting_of p own) (contract_of p c) h r vs k v ↔ JmlNormalExit p own c h r vs k v
  pub exceptional_exit : (h : Heap) (r : Reference) (vs : List Value) (k : Heap) (x : Reference) → ExceptionalExit (setting_of p own) (contract_of p c) h r vs k x ↔ JmlExceptionalExit p own c h r vs k x
  pub measure : (h : Heap) (r : Reference) (vs : List Value) → as_int (measure_at (setting_of p own) (contract_of p c) h r vs) ≡ measured p own c h r vs

abbrev pub ContractsMean : Type 0
ContractsMean = (p : Program) (own : ℕ → List JmlExpr) (c : JmlContract) → HasOwnConstants c → ContractMeans p own c

-- a case is kept by its formulas exactly where it is kept by JML
abbrev pub CasesAreKeptAlike : Type 0
CasesAreKeptAlike = (j : JmlProgram) (c : JmlCase) → HasOwnConstants c.contract → Kept (specified j) (case_of j.program c) ↔ JmlKept j c
