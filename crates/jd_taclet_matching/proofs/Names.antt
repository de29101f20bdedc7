-- What is given hangs on nothing of a program.
use Rattle.std.proofs.Common.{List, Some, ap, refl, ◌≡◌, ◌∷◌, ℕ, []}
use Rattle.std.specs.Option.{option_and_then}
use Rattle.jd_declared.specs.Named.{first_named}
use Rattle.jd_model.specs.Programs.{Program}
use Rattle.jd_patterns.specs.Bindings.{TheTerm}
use Rattle.jd_patterns.specs.Instances.{Instance}
use Rattle.jd_patterns.specs.Patterns.{SortIs, SortVar}
use Rattle.jd_syntax.specs.Names.{Name}
use Rattle.jd_syntax.specs.Sxs.{Bracketed}
use Rattle.jd_taclet_stages.specs.Stages.{answered_as, given_for, name_if, read_as, word_of}
use Rattle.jd_syntax.specs.CodeNames.{same_sort}
use Rattle.jd_taclets.specs.Taclets.{AFormula, ANumber, ATerm, AskedSort, InstForm, InstVar, NewConstant, NewVariable, SortOf, SortOfSimple, asked_sort}
use Rattle.jd_tforms.specs.Answers.{term_answer}
use Rattle.jd_tforms.specs.Naming.{constant_of, special_of}
use Rattle.jd_tgrammar.specs.NameTables.{NameTable}

module _ (p q : Program) (σ : Instance) where
  asked_alike : (k : AskedSort) → asked_sort p σ k ≡ asked_sort q σ k
  asked_alike (SortOf (SortVar n)) = refl
  asked_alike (SortOf (SortIs s)) = refl
  asked_alike (SortOfSimple n) = refl

  module _ (names : NameTable) where
    read_alike : (f : InstForm) (x : Bracketed) → read_as names p σ f x ≡ read_as names q σ f x
    read_alike AFormula x = refl
    read_alike ANumber x = refl
    read_alike (ATerm k) x = ap (λ s. answered_as TheTerm (term_answer names s x)) (asked_alike k)
    read_alike (NewConstant k) x = ap (λ s. option_and_then (λ v. option_and_then (λ (c : Name). name_if (same_sort c.sort s) c) (constant_of v)) (word_of x)) (asked_alike k)
    read_alike (NewVariable k) x = ap (λ s. option_and_then (λ v. option_and_then (λ (c : Name). name_if (same_sort c.sort s) c) (special_of v)) (word_of x)) (asked_alike k)

    pub given_alike : (vs : List InstVar) (given : List (List ℕ × Bracketed)) → given_for names p σ vs given ≡ given_for names q σ vs given
    given_alike [] given = refl
    given_alike (v ∷ vs) given = λ i. option_and_then (λ x. option_and_then (λ y. option_and_then (λ τ. Some ((v.name, y) ∷ τ)) (given_alike vs given i)) (read_alike v.form x i)) (first_named given v.name)
