-- Places in formulas: for a formula, for a term and for a location.
use Rattle.std.specs.Prelude.{◌∷◌, ◌++◌}
use Rattle.jd_base.specs.declared.sort.Sort.{Sort}
use Rattle.jd_syntax.specs.Codes.{PlainCode, PlainKind}
use Rattle.jd_syntax.specs.Names.{Name}
use Rattle.jd_term.specs.Formulas.{Pairs, PlainFormula, Not, And, Or, Implies, Iff, Equal, Less, LessOrEqual, Forall, Exists, Updated, Modal, InLocations, InInt, WellFormed, Invariant, IsInstance, IsExactInstance}
use Rattle.jd_term.specs.Terms.{PlainTerm, Arithmetic, Negation, Wrap, Length, Select, Sum, Store, Create, Anon, ElementField, PlainLoc, Single, ObjectFields, ArrayElements, ElementRange, Union}
use Rattle.jd_term.specs.declared.formula.Modality.{Modality}
use Rattle.jd_term.specs.declared.term.ArithmeticOp.{ArithmeticOp}

-- a formula with a place for a formula
pub data Around : Type 0 where
  Hole : Around
  NotH : Around → Around
  AndL OrL ImpL IffL : Around → PlainFormula → Around
  AndR OrR ImpR IffR : PlainFormula → Around → Around
  AllH ExH : Sort → Around → Around
  UpdH : Pairs → Around → Around
  ModalH : Modality → PlainCode → Around → Around

abbrev pub plug : Around → PlainFormula → PlainFormula
plug Hole a = a
plug (NotH h) a = Not (plug h a)
plug (AndL h c) a = And (plug h a) c
plug (OrL h c) a = Or (plug h a) c
plug (ImpL h c) a = Implies (plug h a) c
plug (IffL h c) a = Iff (plug h a) c
plug (AndR c h) a = And c (plug h a)
plug (OrR c h) a = Or c (plug h a)
plug (ImpR c h) a = Implies c (plug h a)
plug (IffR c h) a = Iff c (plug h a)
plug (AllH k h) a = Forall k (plug h a)
plug (ExH k h) a = Exists k (plug h a)
plug (UpdH u h) a = Updated u (plug h a)
plug (ModalH m c h) a = Modal m c (plug h a)

-- the place lies in no update's body and in no modality's formula
abbrev pub Calm : Around → Type 0
Calm Hole = Unit {0}
Calm (NotH h) = Calm h
Calm (AndL h c) = Calm h
Calm (OrL h c) = Calm h
Calm (ImpL h c) = Calm h
Calm (IffL h c) = Calm h
Calm (AndR c h) = Calm h
Calm (OrR c h) = Calm h
Calm (ImpR c h) = Calm h
Calm (IffR c h) = Calm h
Calm (AllH k h) = Calm h
Calm (ExH k h) = Calm h
Calm (UpdH u h) = ⊥
Calm (ModalH m c h) = ⊥

mutual
  pub data TermHole : Type 0 where
    WholeTerm : TermHole
    Arith1 : ArithmeticOp → TermHole → PlainTerm → TermHole
    Arith2 : ArithmeticOp → PlainTerm → TermHole → TermHole
    Neg0 : TermHole → TermHole
    Wrap0 : TermHole → TermHole
    Len0 : TermHole → TermHole
    Select1 : Sort → TermHole → PlainTerm → PlainTerm → TermHole
    Select2 : Sort → PlainTerm → TermHole → PlainTerm → TermHole
    Select3 : Sort → PlainTerm → PlainTerm → TermHole → TermHole
    Sum0 : TermHole → PlainTerm → PlainTerm → TermHole
    Sum1 : PlainTerm → TermHole → PlainTerm → TermHole
    Sum2 : PlainTerm → PlainTerm → TermHole → TermHole
    StoreT0 : TermHole → PlainTerm → PlainTerm → PlainTerm → TermHole
    StoreT1 : PlainTerm → TermHole → PlainTerm → PlainTerm → TermHole
    StoreT2 : PlainTerm → PlainTerm → TermHole → PlainTerm → TermHole
    StoreT3 : PlainTerm → PlainTerm → PlainTerm → TermHole → TermHole
    CreateT0 : TermHole → PlainTerm → TermHole
    CreateT1 : PlainTerm → TermHole → TermHole
    AnonT0 : TermHole → PlainLoc → PlainTerm → TermHole
    AnonT1 : PlainTerm → LocHole → PlainTerm → TermHole
    AnonT2 : PlainTerm → PlainLoc → TermHole → TermHole
    IdxT0 : TermHole → TermHole

  pub data LocHole : Type 0 where
    LLoc0 : TermHole → PlainTerm → LocHole
    LLoc1 : PlainTerm → TermHole → LocHole
    LObj0 : TermHole → LocHole
    LArrAll0 : TermHole → LocHole
    LArr0 : TermHole → PlainTerm → PlainTerm → LocHole
    LArr1 : PlainTerm → TermHole → PlainTerm → LocHole
    LArr2 : PlainTerm → PlainTerm → TermHole → LocHole
    LUnion0 : LocHole → PlainLoc → LocHole
    LUnion1 : PlainLoc → LocHole → LocHole

-- an atom, or an update's right side
pub data AtomHole : Type 0 where
  Eq0 : TermHole → PlainTerm → AtomHole
  Eq1 : PlainTerm → TermHole → AtomHole
  Lt0 : TermHole → PlainTerm → AtomHole
  Lt1 : PlainTerm → TermHole → AtomHole
  Le0 : TermHole → PlainTerm → AtomHole
  Le1 : PlainTerm → TermHole → AtomHole
  In0 : TermHole → PlainTerm → PlainLoc → AtomHole
  In1 : PlainTerm → TermHole → PlainLoc → AtomHole
  In2 : PlainTerm → PlainTerm → LocHole → AtomHole
  InInt0 : TermHole → AtomHole
  Wf0 : TermHole → AtomHole
  Inv0 : TermHole → PlainTerm → AtomHole
  Inv1 : PlainTerm → TermHole → AtomHole
  Inst1 : PlainKind → TermHole → AtomHole
  Exact1 : PlainKind → TermHole → AtomHole
  UpdRight : Pairs → Name → TermHole → Pairs → PlainFormula → AtomHole

abbrev mutual
  pub fill_term : TermHole → PlainTerm → PlainTerm
  fill_term WholeTerm t = t
  fill_term (Arith1 x0 x1 x2) t = Arithmetic x0 (fill_term x1 t) x2
  fill_term (Arith2 x0 x1 x2) t = Arithmetic x0 x1 (fill_term x2 t)
  fill_term (Neg0 x0) t = Negation (fill_term x0 t)
  fill_term (Wrap0 x0) t = Wrap (fill_term x0 t)
  fill_term (Len0 x0) t = Length (fill_term x0 t)
  fill_term (Select1 x0 x1 x2 x3) t = Select x0 (fill_term x1 t) x2 x3
  fill_term (Select2 x0 x1 x2 x3) t = Select x0 x1 (fill_term x2 t) x3
  fill_term (Select3 x0 x1 x2 x3) t = Select x0 x1 x2 (fill_term x3 t)
  fill_term (Sum0 x0 x1 x2) t = Sum (fill_term x0 t) x1 x2
  fill_term (Sum1 x0 x1 x2) t = Sum x0 (fill_term x1 t) x2
  fill_term (Sum2 x0 x1 x2) t = Sum x0 x1 (fill_term x2 t)
  fill_term (StoreT0 x0 x1 x2 x3) t = Store (fill_term x0 t) x1 x2 x3
  fill_term (StoreT1 x0 x1 x2 x3) t = Store x0 (fill_term x1 t) x2 x3
  fill_term (StoreT2 x0 x1 x2 x3) t = Store x0 x1 (fill_term x2 t) x3
  fill_term (StoreT3 x0 x1 x2 x3) t = Store x0 x1 x2 (fill_term x3 t)
  fill_term (CreateT0 x0 x1) t = Create (fill_term x0 t) x1
  fill_term (CreateT1 x0 x1) t = Create x0 (fill_term x1 t)
  fill_term (AnonT0 x0 x1 x2) t = Anon (fill_term x0 t) x1 x2
  fill_term (AnonT1 x0 x1 x2) t = Anon x0 (fill_loc x1 t) x2
  fill_term (AnonT2 x0 x1 x2) t = Anon x0 x1 (fill_term x2 t)
  fill_term (IdxT0 x0) t = ElementField (fill_term x0 t)

  pub fill_loc : LocHole → PlainTerm → PlainLoc
  fill_loc (LLoc0 x0 x1) t = Single (fill_term x0 t) x1
  fill_loc (LLoc1 x0 x1) t = Single x0 (fill_term x1 t)
  fill_loc (LObj0 x0) t = ObjectFields (fill_term x0 t)
  fill_loc (LArrAll0 x0) t = ArrayElements (fill_term x0 t)
  fill_loc (LArr0 x0 x1 x2) t = ElementRange (fill_term x0 t) x1 x2
  fill_loc (LArr1 x0 x1 x2) t = ElementRange x0 (fill_term x1 t) x2
  fill_loc (LArr2 x0 x1 x2) t = ElementRange x0 x1 (fill_term x2 t)
  fill_loc (LUnion0 x0 x1) t = Union (fill_loc x0 t) x1
  fill_loc (LUnion1 x0 x1) t = Union x0 (fill_loc x1 t)

abbrev pub fill_atom : AtomHole → PlainTerm → PlainFormula
fill_atom (Eq0 x0 x1) t = Equal (fill_term x0 t) x1
fill_atom (Eq1 x0 x1) t = Equal x0 (fill_term x1 t)
fill_atom (Lt0 x0 x1) t = Less (fill_term x0 t) x1
fill_atom (Lt1 x0 x1) t = Less x0 (fill_term x1 t)
fill_atom (Le0 x0 x1) t = LessOrEqual (fill_term x0 t) x1
fill_atom (Le1 x0 x1) t = LessOrEqual x0 (fill_term x1 t)
fill_atom (In0 x0 x1 x2) t = InLocations (fill_term x0 t) x1 x2
fill_atom (In1 x0 x1 x2) t = InLocations x0 (fill_term x1 t) x2
fill_atom (In2 x0 x1 x2) t = InLocations x0 x1 (fill_loc x2 t)
fill_atom (InInt0 x0) t = InInt (fill_term x0 t)
fill_atom (Wf0 x0) t = WellFormed (fill_term x0 t)
fill_atom (Inv0 x0 x1) t = Invariant (fill_term x0 t) x1
fill_atom (Inv1 x0 x1) t = Invariant x0 (fill_term x1 t)
fill_atom (Inst1 x0 x1) t = IsInstance x0 (fill_term x1 t)
fill_atom (Exact1 x0 x1) t = IsExactInstance x0 (fill_term x1 t)
fill_atom (UpdRight u x h w a) t = Updated (u ++ ((x, fill_term h t) ∷ w)) a
