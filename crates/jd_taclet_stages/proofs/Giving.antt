-- What is given is read as what it is to be: causes six and seven.
use Rattle.std.proofs.Common.{Bool, List, None, Option, Some, ap, false, inl, inr, is_some, refl, subst, sym, true, true≢false, ⊎_elim, ◌↔◌, ◌≡◌, ◌∙◌, ◌∷◌, ℕ, ℤ, []}
use Rattle.std.proofs.lemmas.Bool.{and_cases, and_parts}
use Rattle.std.proofs.lemmas.Option.{none-some, same_Some}
use Rattle.std.specs.Option.{IfSome, option_and_then}
use Rattle.jd_base.specs.declared.sort.Sort.{Sort}
use Rattle.jd_declared.specs.Named.{first_named}
use Rattle.jd_model.specs.Programs.{Program}
use Rattle.jd_model.specs.SimpleExpressions.{term_of}
use Rattle.jd_pattern_laws.proofs.Filling.{AllSame, halves, sort_fill}
use Rattle.jd_patterns.specs.Bindings.{Bindings, Part, Says, TheFormula, TheLiteral, TheTerm, Within}
use Rattle.jd_patterns.specs.Chosen.{kind_of}
use Rattle.jd_patterns.specs.Instances.{Instance}
use Rattle.jd_patterns.specs.Patterns.{SchemaVar}
use Rattle.jd_patterns.specs.Variables.{LiteralKind, NameKind, VarKind, Variable}
use Rattle.jd_sequent.specs.Obligations.{PlainTask, names_of}
use Rattle.jd_syntax.specs.CodeNames.{same_sort}
use Rattle.jd_syntax.specs.Names.{Name}
use Rattle.jd_syntax.specs.Sxs.{Atom, Bracketed, BracketedList, Brackets}
use Rattle.jd_taclet_scripts.specs.Causes.{IsMissing}
use Rattle.jd_taclet_scripts.specs.Given.{EachIsGiven, IsGiven}
use Rattle.jd_taclet_stages.proofs.Binding.{variables_in}
use Rattle.jd_taclet_stages.proofs.Deciding.{no_value, sorts_decide}
use Rattle.jd_taclet_stages.specs.Ready.{all_asked_variables, asked_variables, form_variables, given_kind, given_variables}
use Rattle.jd_taclet_stages.specs.Stages.{all_named, answered_as, given_for, name_if, read_as, word_of}
use Rattle.jd_taclets.specs.Taclets.{AFormula, ANumber, ATerm, AskedSort, InstForm, InstVar, NewConstant, NewVariable, SortOf, SortOfSimple, asked_sort}
use Rattle.jd_term.specs.Formulas.{PlainFormula}
use Rattle.jd_term.specs.Terms.{PlainTerm, sort_of_term}
use Rattle.jd_tforms.specs.Answers.{Answer, Fault, Is, Refused, formula_answer, term_answer}
use Rattle.jd_tforms.specs.Naming.{constant_of, special_of}
use Rattle.jd_tforms.specs.Shapes.{integer_of, wide}
use Rattle.jd_tgrammar.specs.NameTables.{NameTable}

-- ---- what is missing

pub missing_of : (vs : List InstVar) (given : List (List ℕ × Bracketed)) → all_named vs given ≡ false → IsMissing vs given
missing_of [] given e = absurd (true≢false e)
missing_of (v ∷ vs) given e = ⊎_elim (λ h. inl (no_value (first_named given v.name) h)) (λ h. inr (missing_of vs given h)) (and_cases (is_some (first_named given v.name)) (all_named vs given) e)

pub none_missing : (vs : List InstVar) (given : List (List ℕ × Bracketed)) → all_named vs given ≡ true → IsMissing vs given → ⊥
none_missing [] given e m = m
none_missing (v ∷ vs) given e (inl n) = true≢false (sym (and_parts (is_some (first_named given v.name)) (all_named vs given) e).0 ∙ ap is_some n)
none_missing (v ∷ vs) given e (inr m) = none_missing vs given (and_parts (is_some (first_named given v.name)) (all_named vs given) e).1 m

pub given_there : (t : PlainTask) (p : Program) (σ : Instance) (vs : List InstVar) (given : List (List ℕ × Bracketed)) → EachIsGiven t p σ vs given → IsMissing vs given → ⊥
given_there t p σ [] given h m = m
given_there t p σ (v ∷ vs) given h (inl n) = none-some h.0.0 (sym n ∙ h.0.1)
given_there t p σ (v ∷ vs) given h (inr m) = given_there t p σ vs given h.1 m

-- ---- one that is given

-- the instantiation gives the variable this part; none where there is none
abbrev Gives : Instance → SchemaVar → Option Part → Type 0
Gives σ n None = ⊥
Gives σ n (Some y) = Says σ n y

answer_same : {T : Type 0} {x y : T} → Is x ≡ Is y → x ≡ y
answer_same e = cc

not_read : {T : Type 0} {x : T} {f : Fault} → Refused f ≡ Is x → ⊥
not_read e = cc

word_same : {v w : List ℕ} → Atom v ≡ Atom w → v ≡ w
word_same e = cc

no_word : {l : BracketedList} {w : List ℕ} → Brackets l ≡ Atom w → ⊥
no_word e = cc

module _ (σ : Instance) (n : SchemaVar) where
  formula_given : (a : Answer PlainFormula) → (a ≡ Is (σ.formula n)) ↔ Gives σ n (answered_as TheFormula a)
  formula_given (Is y) = (λ e. sym (answer_same e), λ h. ap Is (sym h))
  formula_given (Refused f) = (λ e. not_read e, λ h. absurd h)

  term_given : (a : Answer PlainTerm) → (a ≡ Is (σ.term n)) ↔ Gives σ n (answered_as TheTerm a)
  term_given (Is y) = (λ e. sym (answer_same e), λ h. ap Is (sym h))
  term_given (Refused f) = (λ e. not_read e, λ h. absurd h)

  literal_given : (o : Option ℤ) → (o ≡ Some (σ.literal n)) ↔ Gives σ n (option_and_then (λ z. Some (TheLiteral z)) o)
  literal_given None = (λ e. none-some (σ.literal n) e, λ h. absurd h)
  literal_given (Some z) = (λ e. sym (same_Some z (σ.literal n) e), λ h. ap Some (sym h))

  -- a name of the sort
  sorted_name : (b : Bool) (c : Name) → (b ≡ true) × (σ.name n ≡ c) ↔ Gives σ n (name_if b c)
  sorted_name true c = (λ h. h.1, λ h. (refl, h))
  sorted_name false c = (λ h. true≢false (sym h.0), λ h. absurd h)

  name_given : (s : Sort) (o : Option Name) → (o ≡ Some (σ.name n)) × ((σ.name n).sort ≡ s) ↔ Gives σ n (option_and_then (λ (c : Name). name_if (same_sort c.sort s) c) o)
  name_given s None = (λ h. none-some (σ.name n) h.0, λ h. absurd h)
  name_given s (Some c) = (to, from)
    where
      to : (Some c ≡ Some (σ.name n)) × ((σ.name n).sort ≡ s) → Gives σ n (name_if (same_sort c.sort s) c)
      to h = let e : c ≡ σ.name n = same_Some c (σ.name n) h.0 in (sorted_name (same_sort c.sort s) c).0 ((sorts_decide c.sort s).1 (ap (λ (x : Name). x.sort) e ∙ h.1), sym e)

      from : Gives σ n (name_if (same_sort c.sort s) c) → (Some c ≡ Some (σ.name n)) × ((σ.name n).sort ≡ s)
      from h = let g : (same_sort c.sort s ≡ true) × (σ.name n ≡ c) = (sorted_name (same_sort c.sort s) c).1 h in (ap Some (sym g.1), ap (λ (x : Name). x.sort) g.1 ∙ (sorts_decide c.sort s).0 g.0)

  -- of a word that stands alone
  literal_word : (x : Bracketed) → ((w : List ℕ) × (x ≡ Atom w) × (integer_of wide w ≡ Some (σ.literal n))) ↔ Gives σ n (option_and_then (λ v. option_and_then (λ z. Some (TheLiteral z)) (integer_of wide v)) (word_of x))
  literal_word (Atom v) = (λ h. (literal_given (integer_of wide v)).0 (ap (integer_of wide) (word_same h.1) ∙ h.2), λ h. (v, refl, (literal_given (integer_of wide v)).1 h))
  literal_word (Brackets l) = (λ h. no_word h.1, λ h. absurd h)

  name_word : (s : Sort) (named : List ℕ → Option Name) (x : Bracketed) → ((w : List ℕ) × (x ≡ Atom w) × (named w ≡ Some (σ.name n)) × ((σ.name n).sort ≡ s)) ↔ Gives σ n (option_and_then (λ v. option_and_then (λ (c : Name). name_if (same_sort c.sort s) c) (named v)) (word_of x))
  name_word s named (Atom v) = (λ h. (name_given s (named v)).0 (ap named (word_same h.1) ∙ h.2, h.3), λ h. let g = (name_given s (named v)).1 h in (v, refl, g.0, g.1))
  name_word s named (Brackets l) = (λ h. no_word h.1, λ h. absurd h)

module _ (t : PlainTask) (p : Program) (σ : Instance) where
  one_given : (n : SchemaVar) (f : InstForm) (x : Bracketed) → IsGiven t p σ (record { name = n; form = f }) x ↔ Gives σ n (read_as (names_of t) p σ f x)
  one_given n AFormula x = formula_given σ n (formula_answer (names_of t) x)
  one_given n ANumber x = literal_word σ n x
  one_given n (ATerm k) x = term_given σ n (term_answer (names_of t) (asked_sort p σ k) x)
  one_given n (NewConstant k) x = name_word σ n (asked_sort p σ k) constant_of x
  one_given n (NewVariable k) x = name_word σ n (asked_sort p σ k) special_of x

-- ---- all of them

joined : (σ : Instance) (n : SchemaVar) (o : Option Part) (rest : Option Bindings) → Gives σ n o × Within σ rest ↔ Within σ (option_and_then (λ y. option_and_then (λ τ. Some ((n, y) ∷ τ)) rest) o)
joined σ n None rest = (λ h. absurd h.0, λ h. absurd h)
joined σ n (Some y) None = (λ h. absurd h.1, λ h. absurd h)
joined σ n (Some y) (Some τ) = (λ h. h, λ h. h)

found_given : (σ : Instance) (n : SchemaVar) (o : Option Bracketed) (P : Bracketed → Type 0) (R : Bracketed → Option Part) → ((x : Bracketed) → P x ↔ Gives σ n (R x)) → (E : Type 0) (rest : Option Bindings) → E ↔ Within σ rest
    → ((x : Bracketed) × (o ≡ Some x) × P x) × E ↔ Within σ (option_and_then (λ x. option_and_then (λ y. option_and_then (λ τ. Some ((n, y) ∷ τ)) rest) (R x)) o)
found_given σ n None P R one E rest more = (λ h. absurd (none-some h.0.0 h.0.1), λ h. absurd h)
found_given σ n (Some z) P R one E rest more = (
  λ h. (joined σ n (R z) rest).0 ((one z).0 (subst P (sym (same_Some z h.0.0 h.0.1)) h.0.2), more.0 h.1),
  λ h. let g : Gives σ n (R z) × Within σ rest = (joined σ n (R z) rest).1 h in ((z, refl, (one z).1 g.0), more.1 g.1),
)

pub each_given : (t : PlainTask) (p : Program) (σ : Instance) (vs : List InstVar) (given : List (List ℕ × Bracketed)) → EachIsGiven t p σ vs given ↔ Within σ (given_for (names_of t) p σ vs given)
each_given t p σ [] given = (λ h. tt, λ h. tt)
each_given t p σ (v ∷ vs) given = found_given σ v.name (first_named given v.name) (IsGiven t p σ v) (read_as (names_of t) p σ v.form) (one_given t p σ v.name v.form) (EachIsGiven t p σ vs given) (given_for (names_of t) p σ vs given) (each_given t p σ vs given)

-- ---- under another instantiation

module _ (names : NameTable) (p : Program) (σ ρ : Instance) where
  asked_alike : (k : AskedSort) → AllSame σ ρ (asked_variables k) → asked_sort p σ k ≡ asked_sort p ρ k
  asked_alike (SortOf s) o = sort_fill σ ρ p s o
  asked_alike (SortOfSimple n) o = λ i. sort_of_term (term_of (o.0 i))

  read_alike : (f : InstForm) (x : Bracketed) → AllSame σ ρ (form_variables f) → read_as names p σ f x ≡ read_as names p ρ f x
  read_alike AFormula x o = refl
  read_alike ANumber x o = refl
  read_alike (ATerm k) x o = λ i. answered_as TheTerm (term_answer names (asked_alike k o i) x)
  read_alike (NewConstant k) x o = λ i. option_and_then (λ v. option_and_then (λ (c : Name). name_if (same_sort c.sort (asked_alike k o i)) c) (constant_of v)) (word_of x)
  read_alike (NewVariable k) x o = λ i. option_and_then (λ v. option_and_then (λ (c : Name). name_if (same_sort c.sort (asked_alike k o i)) c) (special_of v)) (word_of x)

  pub given_alike : (vs : List InstVar) (given : List (List ℕ × Bracketed)) → AllSame σ ρ (all_asked_variables vs) → given_for names p σ vs given ≡ given_for names p ρ vs given
  given_alike [] given o = refl
  given_alike (v ∷ vs) given o =
      let each = halves σ ρ (form_variables v.form) (all_asked_variables vs) o in
      λ i. option_and_then (λ x. option_and_then (λ y. option_and_then (λ τ. Some ((v.name, y) ∷ τ)) (given_alike vs given each.1 i)) (read_alike v.form x each.0 i)) (first_named given v.name)

-- ---- which variables are given

word_kind : (named : List ℕ → Option Name) (s : Sort) (x : Bracketed) → IfSome (option_and_then (λ v. option_and_then (λ (c : Name). name_if (same_sort c.sort s) c) (named v)) (word_of x)) (λ y. kind_of y ≡ NameKind)
word_kind named s (Brackets l) = tt
word_kind named s (Atom v) = by (named v)
  where
    sorted : (b : Bool) (c : Name) → IfSome (name_if b c) (λ y. kind_of y ≡ NameKind)
    sorted true c = refl
    sorted false c = tt

    by : (o : Option Name) → IfSome (option_and_then (λ (c : Name). name_if (same_sort c.sort s) c) o) (λ y. kind_of y ≡ NameKind)
    by None = tt
    by (Some c) = sorted (same_sort c.sort s) c

number_kind : (x : Bracketed) → IfSome (option_and_then (λ v. option_and_then (λ z. Some (TheLiteral z)) (integer_of wide v)) (word_of x)) (λ y. kind_of y ≡ LiteralKind)
number_kind (Brackets l) = tt
number_kind (Atom v) = by (integer_of wide v)
  where
    by : (o : Option ℤ) → IfSome (option_and_then (λ z. Some (TheLiteral z)) o) (λ y. kind_of y ≡ LiteralKind)
    by None = tt
    by (Some z) = refl

answer_kind : {T : Type 0} (part : T → Part) (a : Answer T) (K : VarKind) → ((x : T) → kind_of (part x) ≡ K) → IfSome (answered_as part a) (λ y. kind_of y ≡ K)
answer_kind part (Is x) K e = e x
answer_kind part (Refused f) K e = tt

module _ (names : NameTable) (p : Program) (σ : Instance) where
  read_kind : (f : InstForm) (x : Bracketed) → IfSome (read_as names p σ f x) (λ y. kind_of y ≡ given_kind f)
  read_kind AFormula x = answer_kind TheFormula (formula_answer names x) (given_kind AFormula) (λ y. refl)
  read_kind ANumber x = number_kind x
  read_kind (ATerm k) x = answer_kind TheTerm (term_answer names (asked_sort p σ k) x) (given_kind (ATerm k)) (λ y. refl)
  read_kind (NewConstant k) x = word_kind constant_of (asked_sort p σ k) x
  read_kind (NewVariable k) x = word_kind special_of (asked_sort p σ k) x

  joined_kind : (v : InstVar) (us : List Variable) (o : Option Part) (rest : Option Bindings) → IfSome o (λ y. kind_of y ≡ given_kind v.form) → IfSome rest (λ l. variables_in l ≡ us) → IfSome (option_and_then (λ y. option_and_then (λ τ. Some ((v.name, y) ∷ τ)) rest) o) (λ l. variables_in l ≡ (given_kind v.form, v.name) ∷ us)
  joined_kind v us None rest e f = tt
  joined_kind v us (Some y) None e f = tt
  joined_kind v us (Some y) (Some τ) e f = λ i. (e i, v.name) ∷ f i

  found_kind : (v : InstVar) (us : List Variable) (o : Option Bracketed) (rest : Option Bindings) → IfSome rest (λ l. variables_in l ≡ us) → IfSome (option_and_then (λ x. option_and_then (λ y. option_and_then (λ τ. Some ((v.name, y) ∷ τ)) rest) (read_as names p σ v.form x)) o) (λ l. variables_in l ≡ (given_kind v.form, v.name) ∷ us)
  found_kind v us None rest f = tt
  found_kind v us (Some x) rest f = joined_kind v us (read_as names p σ v.form x) rest (read_kind v.form x) f

  pub given_are : (vs : List InstVar) (given : List (List ℕ × Bracketed)) → IfSome (given_for names p σ vs given) (λ l. variables_in l ≡ given_variables vs)
  given_are [] given = refl
  given_are (v ∷ vs) given = found_kind v (given_variables vs) (first_named given v.name) (given_for names p σ vs given) (given_are vs given)
