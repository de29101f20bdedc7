-- Lists of members, grouped as they are made and as rows have them.
use Rattle.std.proofs.Common.{◌≡◌, ℕ, IfOk, List, [], ◌∷◌, ◌++◌, Ok, Err, Option, map, option_map, refl, sym, ap, subst, ◌∙◌, Bool}
use Rattle.std.proofs.lemmas.List.{append_assoc}
use Rattle.std.specs.declared.result.Result.{Result}
use Rattle.jd_base.specs.declared.sort.Sort.{Sort}
use Rattle.jd_syntax.specs.CodeNames.{heap_name}
use Rattle.jd_term.specs.Formulas.{PlainFormula, WellFormed}
use Rattle.jd_term.specs.Terms.{PlainTerm, PlainLoc, Constant, ProgramVariable}
use Rattle.jd_model.specs.Conjunctions.{created_at}
use Rattle.jd_model.specs.SpecialNames.{entry_heap, thrown_variable}
use Rattle.jd_model.specs.Programs.{Program, field_sort}
use Rattle.jd_model.specs.Cases as cases
use Rattle.jd_model.specs.ContractForms.{PlainCase}
use Rattle.jd_model.specs.Cases.{Contract}
use Rattle.jd_case_rows.specs.Rows.{entry_members, established_members, exceptional_members, field_member, field_members, instance_of_thrown, invariant_members, normal_members, only_member, parameter_members, receiver_members, result_members, signalled_members, unless_exceptional, unless_normal}
use Rattle.jd_row_makers.specs.Heads.{behaviour_view, declared_view, parameter_view, role_view}
use Rattle.jd_row_makers.specs.Listed.{fields_listed, listed_members}
use Rattle.jd_row_makers.specs.Rows.{FieldsAre, IsHead, row_with}
use Rattle.jd_row_makers.specs.declared.heads.Head.{Head}
use Rattle.jd_row_makers.specs.declared.heads.Parameter.{Parameter}

-- what holds of what was made, by what holds of it
pub each_made : {A E : Type 0} {P Q : A → Type 0} (r : Result A E) → ((a : A) → P a → Q a) → IfOk r P → IfOk r Q
each_made (Ok a) f h = f a h
each_made (Err e) f h = tt

-- what holds of it where it is there
pub made : {A E : Type 0} (P : A → Type 0) (r : Result A E) (a : A) → r ≡ Ok a → IfOk r P → P a
made P r a is h = subst (λ i. IfOk i P) is h

-- ---- one behind another

pub two_added : (old one two : List PlainFormula) (a b : PlainFormula) → one ≡ old ++ a ∷ [] → two ≡ one ++ b ∷ [] → two ≡ old ++ a ∷ b ∷ []
two_added old one two a b first second = second ∙ ap (λ l. l ++ b ∷ []) first ∙ append_assoc old (a ∷ []) (b ∷ [])

pub two_made : (old one two : List PlainFormula) (a b : PlainFormula) → old ≡ [] → one ≡ old ++ a ∷ [] → two ≡ one ++ b ∷ [] → two ≡ a ∷ b ∷ []
two_made old one two a b none first second = two_added old one two a b first second ∙ ap (λ l. l ++ a ∷ b ∷ []) none

-- ---- fields

pub listed_fields : (p : Program) (fs : List ℕ) → listed_members (map (λ f. (f, field_sort p f)) fs) ≡ map (field_member p) fs
listed_fields p [] = refl
listed_fields p (f ∷ fs) = ap (λ l. field_member p f ∷ l) (listed_fields p fs)

pub role_fields : (p : Program) (own : ℕ → List ℕ) (r : cases.Role) (fs : List (ℕ × Sort)) → FieldsAre p own r fs → fields_listed r fs ≡ field_members p own r
role_fields p own cases.Static fs are = refl
role_fields p own cases.Ordinary fs are = refl
role_fields p own cases.Helper fs are = refl
role_fields p own (cases.ConstructorOf a) fs are = ap listed_members are ∙ listed_fields p (own a)

-- ---- rows

module _ {A : Type 0} where
  regrouped : (a b c d : List A) → (a ++ b) ++ (c ++ d) ≡ (a ++ (b ++ c)) ++ d
  regrouped a b c d = sym (append_assoc (a ++ b) c d) ∙ ap (λ l. l ++ d) (append_assoc a b c)

  to_the_right : (a b c d : List A) → ((a ++ b) ++ c) ++ d ≡ a ++ (b ++ (c ++ d))
  to_the_right a b c d = append_assoc (a ++ b) c d ∙ append_assoc a b (c ++ d)

module _ (p : Program) (own : ℕ → List ℕ) (class : ℕ) where
  abbrev entry_of : cases.Role → List cases.Parameter → List PlainFormula → List PlainFormula → List PlainFormula
  entry_of r xs required fs = WellFormed (Constant entry_heap) ∷ (receiver_members r class ++ (parameter_members xs ++ (required ++ (invariant_members r (Constant entry_heap) ++ fs))))

  pub entry_row : (k : Contract) (h : Head) (ps : List Parameter) (fs : List (ℕ × Sort)) (required : List PlainFormula) → ps ≡ h.parameters.items → IsHead h k → FieldsAre p own k.role fs → required ≡ k.requires_
      → (((WellFormed (Constant entry_heap) ∷ receiver_members (role_view h.role) class) ++ parameter_members (map parameter_view ps)) ++ required) ++ (invariant_members (role_view h.role) (Constant entry_heap) ++ fields_listed (role_view h.role) fs) ≡ entry_members p own class k
  entry_row k h ps fs required listed head are is =
      to_the_right (WellFormed (Constant entry_heap) ∷ receiver_members (role_view h.role) class) (parameter_members (map parameter_view ps)) required (invariant_members (role_view h.role) (Constant entry_heap) ++ fields_listed (role_view h.role) fs)
      ∙ ap (λ l. entry_of (role_view h.role) (map parameter_view l) required (fields_listed (role_view h.role) fs)) listed
      ∙ ap (λ r. entry_of r (map parameter_view h.parameters.items) required (fields_listed r fs)) (sym head.role)
      ∙ ap (λ xs. entry_of k.role xs required (fields_listed k.role fs)) (sym head.parameters)
      ∙ ap (λ l. entry_of k.role k.parameters l (fields_listed k.role fs)) is
      ∙ ap (λ l. entry_of k.role k.parameters k.requires_ l) (role_fields p own k.role fs are)

abbrev exit_of : cases.Role → Option cases.DeclaredType → cases.Behaviour → List PlainFormula → List PlainFormula
exit_of r t b ensured = (result_members t ++ (ensured ++ (established_members r ++ unless_normal b))) ++ invariant_members r (ProgramVariable heap_name)

pub exit_row : (k : Contract) (h : Head) (ensured : List PlainFormula) → IsHead h k → ensured ≡ k.ensures_
    → (result_members (option_map declared_view h.result) ++ ensured) ++ ((established_members (role_view h.role) ++ unless_normal (behaviour_view h.behaviour)) ++ invariant_members (role_view h.role) (ProgramVariable heap_name)) ≡ normal_members k ++ invariant_members k.role (ProgramVariable heap_name)
exit_row k h ensured head is =
    regrouped (result_members (option_map declared_view h.result)) ensured (established_members (role_view h.role) ++ unless_normal (behaviour_view h.behaviour)) (invariant_members (role_view h.role) (ProgramVariable heap_name))
    ∙ ap (λ r. exit_of r (option_map declared_view h.result) (behaviour_view h.behaviour) ensured) (sym head.role)
    ∙ ap (λ t. exit_of k.role t (behaviour_view h.behaviour) ensured) (sym head.outcome)
    ∙ ap (λ b. exit_of k.role k.result b ensured) (sym head.behaviour)
    ∙ ap (exit_of k.role k.result k.behaviour) is

abbrev exceptional_of : ℕ → cases.Role → cases.Behaviour → List PlainFormula → List PlainFormula → List PlainFormula
exceptional_of c r b signals only = (instance_of_thrown c ∷ created_at (ProgramVariable heap_name) (ProgramVariable thrown_variable) ∷ (signals ++ (only ++ unless_exceptional b))) ++ invariant_members r (ProgramVariable heap_name)

pub exceptional_row : (p : Program) (k : Contract) (c : ℕ) (h : Head) (signals only : List PlainFormula) → p.throwable ≡ c → IsHead h k → signals ≡ signalled_members k.signals → only ≡ map only_member k.signals_only
    → (((instance_of_thrown c ∷ created_at (ProgramVariable heap_name) (ProgramVariable thrown_variable) ∷ []) ++ signals) ++ only) ++ (unless_exceptional (behaviour_view h.behaviour) ++ invariant_members (role_view h.role) (ProgramVariable heap_name)) ≡ exceptional_members p k ++ invariant_members k.role (ProgramVariable heap_name)
exceptional_row p k c h signals only throwable head is are =
    let first = instance_of_thrown c ∷ created_at (ProgramVariable heap_name) (ProgramVariable thrown_variable) ∷ [] in
    regrouped (first ++ signals) only (unless_exceptional (behaviour_view h.behaviour)) (invariant_members (role_view h.role) (ProgramVariable heap_name))
    ∙ ap (λ l. l ++ invariant_members (role_view h.role) (ProgramVariable heap_name)) (append_assoc first signals (only ++ unless_exceptional (behaviour_view h.behaviour)))
    ∙ ap (λ d. exceptional_of d (role_view h.role) (behaviour_view h.behaviour) signals only) (sym throwable)
    ∙ ap (λ r. exceptional_of p.throwable r (behaviour_view h.behaviour) signals only) (sym head.role)
    ∙ ap (λ b. exceptional_of p.throwable k.role b signals only) (sym head.behaviour)
    ∙ ap (λ l. exceptional_of p.throwable k.role k.behaviour l only) is
    ∙ ap (exceptional_of p.throwable k.role k.behaviour (signalled_members k.signals)) are

abbrev pub row_of_parts : ℕ → ℕ → ℕ → List PlainFormula → List PlainFormula → List PlainFormula → PlainLoc → PlainTerm → Bool → PlainCase
row_of_parts m c n e x t l s d = record { method = m; class = c; number = n; entry = e; exit = x; exceptional = t; frame = l; measure = s; diverges = d }

pub row_parts : (p : Program) (own : ℕ → List ℕ) (m c n : ℕ) (k : Contract) (e x t : List PlainFormula) (l : PlainLoc) (s : PlainTerm) (d : Bool)
    → e ≡ entry_members p own c k → x ≡ normal_members k ++ invariant_members k.role (ProgramVariable heap_name) → t ≡ exceptional_members p k ++ invariant_members k.role (ProgramVariable heap_name)
    → l ≡ k.assignable → s ≡ k.measure → d ≡ k.diverges
    → row_of_parts m c n e x t l s d ≡ row_with p own m c n k
row_parts p own m c n k e x t l s d entry exit exceptional frame measure diverges =
    let row = row_with p own m c n k in
    ap (λ i. row_of_parts m c n i x t l s d) entry
    ∙ ap (λ i. row_of_parts m c n row.entry i t l s d) exit
    ∙ ap (λ i. row_of_parts m c n row.entry row.exit i l s d) exceptional
    ∙ ap (λ i. row_of_parts m c n row.entry row.exit row.exceptional i s d) frame
    ∙ ap (λ i. row_of_parts m c n row.entry row.exit row.exceptional k.assignable i d) measure
    ∙ ap (row_of_parts m c n row.entry row.exit row.exceptional k.assignable k.measure) diverges
