-- The laws of these definitions, as statements.
use Rattle.std.specs.Prelude.{◌≡◌, ◌≢◌, ◌↔◌, ◌≤◌, ℕ, ℤ, true, List, ◌∷◌}
use Rattle.jd_syntax.specs.Names.{Name}
use Rattle.jd_syntax.specs.Codes.{PlainCode}
use Rattle.jd_term.specs.declared.formula.Modality.{Modality}
use Rattle.jd_base.specs.declared.sort.Sort.TheVariants.{Heap as HeapSort}
use Rattle.jd_term.specs.Substitutions.{SortsAgree, TermSortsAgree, formula_subst, term_subst}
use Rattle.jd_term.specs.Terms.{PlainTerm, PlainLoc, sort_of_term}
use Rattle.jd_term.specs.Formulas.{PlainFormula, Pairs, Updated, Modal}
use Rattle.jd_term.specs.Shifts.{formula_shift}
use Rattle.jd_term.specs.Occurs.{var_in_term, const_in_term, occurs_var_in, occurs_const_in}
use Rattle.jd_heap.specs.References.{Reference, Location}
use Rattle.jd_heap.specs.Heaps.{Heap}
use Rattle.jd_heap.specs.Values.{Value}
use Rattle.jd_model.specs.Sequents.{PlainSequent}
use Rattle.jd_model.specs.Contexts.{Context, fill}
use Rattle.jd_model.specs.States.{State, read, heap_of}
use Rattle.jd_model.specs.Programs.{Program}
use Rattle.jd_model.specs.Outcomes.{IsOver, Extends}
use Rattle.jd_model.specs.Runs.{exec_at}
use Rattle.jd_model.specs.TermValues.{value, within, updated}
use Rattle.jd_model.specs.Truth.{Setting, Truth, EitherOf}
use Rattle.jd_model.specs.Validity.{Valid}
use Rattle.jd_model.specs.Cases.{Contract, Case, SpecifiedProgram}
use Rattle.jd_model.specs.EntryExit.{Moment, EntryAs, NormalEnd, ExceptionalEnd}
use Rattle.jd_model.specs.KeptCases.{EndsFrom, KeptTo, Kept, Usable}
use Rattle.jd_model.specs.Occurrences.{Always, CodeIn}
use Rattle.jd_model.specs.Bodies.{NotHeap, AllAssignNoHeap, Grows, AtEnd}
use Rattle.jd_model.specs.Holes.{Around, plug, TermHole, fill_term, AtomHole, fill_atom}
use Rattle.jd_model.specs.Substitutions.{subst_term, subst_formula, Steady}
use Rattle.jd_term.specs.Renamings.{Renaming, rename_term, rename_loc, rename, FirstOrder}

-- more depth of calls or turns of loops give the same outcome
abbrev pub MoreGivesTheSame : Type 0
MoreGivesTheSame = (p : Program) (d e m n : ℕ) → d ≤ e → m ≤ n → (c : PlainCode) (s : State) → Extends (exec_at p d m c s) (exec_at p e n c s)

-- where the denial of one of these statements fails, the statement holds
pub record AreStable : Type 0 where
  pub truth : (g : Setting) (d : ℕ) (i s : State) (b : List Value) (a : PlainFormula) → ¬ (¬ (Truth g d i s b a)) → Truth g d i s b a
  pub valid : (g : Setting) (d : ℕ) (m : ℤ) (q : PlainSequent) → ¬ (¬ (Valid g d m q)) → Valid g d m q
  pub entry : (g : Setting) (c : Contract) (class : ℕ) (h : Heap) (r : Reference) (vs : List Value) → ¬ (¬ (EntryAs g true c class h r vs)) → EntryAs g true c class h r vs
  pub normal_end : (g : Setting) (c : Contract) (m : Moment) → ¬ (¬ (NormalEnd g c m)) → NormalEnd g c m
  pub exceptional_end : (g : Setting) (c : Contract) (m : Moment) → ¬ (¬ (ExceptionalEnd g c m)) → ExceptionalEnd g c m
  pub ends : (p : SpecifiedProgram) (c : Case) (h : Heap) (r : Reference) (vs : List Value) → ¬ (¬ (EndsFrom p c h r vs)) → EndsFrom p c h r vs
  pub kept_to : (p : SpecifiedProgram) (c : Case) (e : ℕ) → ¬ (¬ (KeptTo p c e)) → KeptTo p c e
  pub kept : (p : SpecifiedProgram) (c : Case) → ¬ (¬ (Kept p c)) → Kept p c
  pub usable : (p : SpecifiedProgram) (own d : ℕ) (m : ℤ) → ¬ (¬ (Usable p own d m)) → Usable p own d m

-- to prove a formula's truth, a run, a value or a branch that is not absent may be taken as given
pub record MayBeTaken : Type 0 where
  pub run : (g : Setting) (d : ℕ) (i s : State) (b : List Value) (a : PlainFormula) (p : Program) (c : PlainCode) (t : State) → ¬ ((e n : ℕ) → ¬ (IsOver (exec_at p e n c t))) → ((e n : ℕ) → IsOver (exec_at p e n c t) → Truth g d i s b a) → Truth g d i s b a
  pub some : (g : Setting) (d : ℕ) (i s : State) (b : List Value) (a x : PlainFormula) → ¬ ((v : Value) → ¬ (Truth g d i s (v ∷ b) x)) → ((v : Value) → Truth g d i s (v ∷ b) x → Truth g d i s b a) → Truth g d i s b a
  pub branch : (g : Setting) (d : ℕ) (i s : State) (b : List Value) (a x y : PlainFormula) → EitherOf (Truth g d i s b x) (Truth g d i s b y) → (Truth g d i s b x → Truth g d i s b a) → (Truth g d i s b y → Truth g d i s b a) → Truth g d i s b a
  -- and to prove that a case is kept, any branch
  pub kept : (p : SpecifiedProgram) (c e : Case) → ¬ (¬ (Kept p e)) → (Kept p e → Kept p c) → Kept p c

-- variables and constants that do not occur do not matter
pub record AreCoincident : Type 0 where
  pub of_terms : (i j s t : State) (b : List Value) (a : PlainTerm) → ((x : Name) → const_in_term x a ≡ true → read i x ≡ read j x) → ((x : Name) → var_in_term x a ≡ true → read s x ≡ read t x) → value i s b a ≡ value j t b a
  pub of_formulas : (g : Setting) (d : ℕ) (i j s t : State) (b : List Value) (a : PlainFormula) → ((x : Name) → occurs_const_in x a ≡ true → read i x ≡ read j x) → ((x : Name) → occurs_var_in x a ≡ true → read s x ≡ read t x) → Truth g d i s b a ↔ Truth g d j t b a

-- equal truth of a part gives equal truth of the whole, and so do equal values of a term's part
pub record AreReplaceable : Type 0 where
  pub of_formulas : (g : Setting) (d : ℕ) (i : State) (x y : PlainFormula) → ((s : State) (b : List Value) → Truth g d i s b x ↔ Truth g d i s b y) → (k : Around) (s : State) (b : List Value) → Truth g d i s b (plug k x) ↔ Truth g d i s b (plug k y)
  pub of_terms : (i s : State) (t u : PlainTerm) → ((b : List Value) → value i s b t ≡ value i s b u) → (k : TermHole) (b : List Value) → value i s b (fill_term k t) ≡ value i s b (fill_term k u)
  pub of_terms_in_formulas : (g : Setting) (d : ℕ) (i s : State) (t u : PlainTerm) → ((b : List Value) → value i s b t ≡ value i s b u) → (k : AtomHole) (b : List Value) → Truth g d i s b (fill_atom k t) ↔ Truth g d i s b (fill_atom k u)

-- a shifted tree does not see the value that it passes over, and a term put for the bound variable has its value bound
pub record AreSubstituted : Type 0 where
  pub shifted : (g : Setting) (d : ℕ) (i s : State) (b : List Value) (v : Value) (a : PlainFormula) → Truth g d i s (v ∷ b) (formula_shift 0 1 a) ↔ Truth g d i s b a
  pub of_terms : (i s : State) (b : List Value) (t a : PlainTerm) → value i s b (subst_term 0 t a) ≡ value i s (value i s b t ∷ b) a
  pub of_formulas : (g : Setting) (d : ℕ) (i s : State) (b : List Value) (t : PlainTerm) (a : PlainFormula) → Steady 0 t a → Truth g d i s b (subst_formula 0 t a) ↔ Truth g d i s (value i s b t ∷ b) a

-- where the index has the sort of the term, and none of heaps, so it is with the substitution that `jd_term` computes
pub record AreSubstitutedBySort : Type 0 where
  pub of_terms : (i s : State) (b : List Value) (t a : PlainTerm) → sort_of_term t ≢ HeapSort → TermSortsAgree 0 (sort_of_term t) a → value i s b (term_subst 0 0 t a) ≡ value i s (value i s b t ∷ b) a
  pub of_formulas : (g : Setting) (d : ℕ) (i s : State) (b : List Value) (t : PlainTerm) (a : PlainFormula) → sort_of_term t ≢ HeapSort → SortsAgree 0 (sort_of_term t) a → Steady 0 t a → Truth g d i s b (formula_subst 0 0 t a) ↔ Truth g d i s (value i s b t ∷ b) a

-- a renamed tree has the value or truth of the old one where each replaced name has its new term's value
pub record AreRenamed : Type 0 where
  pub of_terms : (r : Renaming) (i s j t : State) → ((x : Name) (b : List Value) → value i s b (r.con x) ≡ read j x) → ((x : Name) (b : List Value) → value i s b (r.var x) ≡ read t x) → (a : PlainTerm) (b : List Value) → value i s b (rename_term r a) ≡ value j t b a
  pub of_locations : (r : Renaming) (i s j t : State) → ((x : Name) (b : List Value) → value i s b (r.con x) ≡ read j x) → ((x : Name) (b : List Value) → value i s b (r.var x) ≡ read t x) → (l : PlainLoc) (b : List Value) (q : Location) → within i s b (rename_loc r l) q ≡ within j t b l q
  -- the truth of `inv` hangs on the heap and the object alone
  pub of_formulas : (r : Renaming) (i s j t : State) → ((x : Name) (b : List Value) → value i s b (r.con x) ≡ read j x) → ((x : Name) (b : List Value) → value i s b (r.var x) ≡ read t x) → (g : Setting) (d : ℕ) (a : PlainFormula) → FirstOrder a → (b : List Value) → Truth g d i s b (rename r a) ↔ Truth g d j t b a

-- what changes only the focused statements changes no outcome of the whole, and no modality's truth; an update before the
-- focus is an update before the whole
pub record FocusDecides : Type 0 where
  pub outcome : (p : Program) (d n : ℕ) (k : Context) (c e : PlainCode) (s t : State) → exec_at p d n c s ≡ exec_at p d n e t → exec_at p d n (fill k c) s ≡ exec_at p d n (fill k e) t
  pub modality : (g : Setting) (d : ℕ) (i s : State) (b : List Value) (m : Modality) (k : Context) (c e : PlainCode) (a : PlainFormula) → ((f n : ℕ) → exec_at g.program f n c s ≡ exec_at g.program f n e s) → Truth g d i s b (Modal m (fill k c) a) ↔ Truth g d i s b (Modal m (fill k e) a)
  pub update : (g : Setting) (d : ℕ) (i s : State) (b : List Value) (m : Modality) (k : Context) (c e : PlainCode) (u : Pairs) (a : PlainFormula) → ((f n : ℕ) → exec_at g.program f n c s ≡ exec_at g.program f n e (updated i s b u s)) → Truth g d i s b (Modal m (fill k c) a) ↔ Truth g d i s b (Updated u (Modal m (fill k e) a))

-- what is created stays created, in code and bodies that do not assign the heap's variable
abbrev pub CreatedStays : Type 0
CreatedStays = (p : Program) → AllAssignNoHeap p → (d n : ℕ) (c : PlainCode) → CodeIn Always NotHeap c → (s : State) → AtEnd (exec_at p d n c s) (λ t. Grows (heap_of s) (heap_of t))
