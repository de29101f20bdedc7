-- What a step gives for a row's variables, as text, and what that stands for.
use Rattle.std.specs.Prelude.{List, Some, length, map, ◌≡◌, ◌∷◌, ℕ, []}
use Rattle.jd_declared.specs.Named.{first_named}
use Rattle.jd_model.specs.Programs.{Program}
use Rattle.jd_model.specs.Sequents.{PlainSequent}
use Rattle.jd_names.specs.Tables.{name_table}
use Rattle.jd_patterns.specs.Instances.{Instance}
use Rattle.jd_sequent.specs.Freshness.{IsInNoBody, IsNewConstant, IsNewVariable}
use Rattle.jd_sequent.specs.Obligations.{PlainTask, names_of}
use Rattle.jd_syntax.specs.Names.{Declared, Name}
use Rattle.jd_syntax.specs.Sxs.{Atom, Bracketed}
use Rattle.jd_taclets.specs.Taclets.{AFormula, ANumber, ATerm, InstVar, NewConstant, NewVariable, asked_sort}
use Rattle.jd_tforms.specs.Answers.{Is, formula_answer, term_answer}
use Rattle.jd_tforms.specs.Naming.{constant_of, special_of}
use Rattle.jd_tforms.specs.Shapes.{integer_of, wide}
use Rattle.jd_tgrammar.specs.NameTables.{NameTable}

-- the one that is given by this name
abbrev pub given_as : List ℕ → List (List ℕ × Bracketed) → (Bracketed → Type 0) → Type 0
given_as name given P = (x : Bracketed) × (first_named given name ≡ Some x) × P x

module _ (t : PlainTask) (p : Program) (σ : Instance) where
  -- a closed formula or a closed term of the sort, a literal of 128 bits, a constant or a variable of the right letter
  abbrev pub IsGiven : InstVar → Bracketed → Type 0
  IsGiven v x = elim v.form as (λ _. Type 0) [
    | AFormula ↦ formula_answer (names_of t) x ≡ Is (σ.formula v.name)
    | ANumber ↦ (w : List ℕ) × (x ≡ Atom w) × (integer_of wide w ≡ Some (σ.literal v.name))
    | ATerm s ↦ term_answer (names_of t) (asked_sort p σ s) x ≡ Is (σ.term v.name)
    | NewConstant s ↦ (w : List ℕ) × (x ≡ Atom w) × (constant_of w ≡ Some (σ.name v.name)) × ((σ.name v.name).sort ≡ asked_sort p σ s)
    | NewVariable s ↦ (w : List ℕ) × (x ≡ Atom w) × (special_of w ≡ Some (σ.name v.name)) × ((σ.name v.name).sort ≡ asked_sort p σ s)
  ]

  abbrev pub EachIsGiven : List InstVar → List (List ℕ × Bracketed) → Type 0
  EachIsGiven [] given = Unit {0}
  EachIsGiven (v ∷ vs) given = given_as v.name given (IsGiven v) × EachIsGiven vs given

  -- what is asked is given, and nothing else; each once, as a row asks for each name once
  pub record AreGiven (vs : List InstVar) (given : List (List ℕ × Bracketed)) : Type 0 where
    pub each : EachIsGiven vs given
    pub count : length given ≡ length vs

-- ---- new names

module _ (t : PlainTask) (s : PlainSequent) where
  abbrev pub AreNewConstants : List Name → Type 0
  AreNewConstants [] = Unit {0}
  AreNewConstants (c ∷ cs) = IsNewConstant t.obligation s c × AreNewConstants cs

  -- those of a body are none of a step
  abbrev pub AreNewVariables : List Name → Type 0
  AreNewVariables [] = Unit {0}
  AreNewVariables (x ∷ xs) = (IsNewVariable s x × IsInNoBody t x) × AreNewVariables xs
