-- Names that are new for a sequent stand in none of its parts, and in nothing that names the obligation's names alone.
use Rattle.std.proofs.Common.{◌≡◌, ◌||◌, Bool, true, false, List, [], ◌∷◌, ◌++◌, All, refl, sym, ap, ◌∙◌, true≢false}
use Rattle.std.specs.List.{list_any, AllByRecursion}
use Rattle.std.proofs.lemmas.List.Elements.{recursion_from_All}
use Rattle.jd_base.specs.declared.sort.Sort.TheVariants.{Int as IntSort, Bool as BoolSort, Ref as RefSort}
use Rattle.jd_syntax.specs.Names.{Name, Declared}
use Rattle.jd_syntax.specs.CodeNames.{same_name, heap_name, is_special}
use Rattle.jd_syntax.proofs.NameTests.{same_name_decides}
use Rattle.jd_term.specs.Formulas.{Pairs, PlainFormula}
use Rattle.jd_term.specs.Occurs.{occurs_var_in, occurs_const_in}
use Rattle.jd_model.specs.Sequents.{PlainSequent}
use Rattle.jd_model.specs.SpecialNames.{thrown_variable, result_variable}
use Rattle.jd_model.specs.Occurrences.{Always, NotIn, FormulaIn, FormulasIn, UpdatesIn, AllOf, member}
use Rattle.jd_model.specs.UpdatePlaces.{through}
use Rattle.jd_model.proofs.Occurrences.{formula_in}
use Rattle.jd_model.proofs.Wider.{formula_wider, update_wider}
use Rattle.jd_model.proofs.Writes.{all_of, not_in, out_head}
use Rattle.jd_sequent.specs.Obligations.{PlainObligation}
use Rattle.jd_sequent.specs.TaskMeaning.{IsKnownVariable, IsKnownConstant}
use Rattle.jd_sequent.specs.Freshness.{IsNewVariable, IsNewConstant}

not_left : (a b : Bool) → (a || b) ≡ false → a ≡ false
not_left true b e = e
not_left false b e = refl

not_right : (a b : Bool) → (a || b) ≡ false → b ≡ false
not_right true b e = absurd (true≢false e)
not_right false b e = e

not_by : (b : Bool) → (b ≡ true → ⊥) → b ≡ false
not_by true h = absurd (h refl)
not_by false h = refl

all_map : (P Q : Name → Type 0) → ((x : Name) → P x → Q x) → (xs : List Name) → AllOf P xs → AllOf Q xs
all_map P Q f [] h = tt
all_map P Q f (x ∷ xs) h = (f x h.0, all_map P Q f xs h.1)

-- a name of which a test holds is none of those of which it fails
none_passes : (test : Name → Bool) (xs : List Name) → AllOf (λ v. test v ≡ false) xs → (x : Name) → test x ≡ true → member x xs ≡ false
none_passes test xs h x e = not_by (member x xs) (λ m. true≢false (sym e ∙ all_of (λ v. test v ≡ false) xs h x m))

module _ (vs cs : List Name) where
  -- not one of the new variables, of the new constants
  abbrev pub OtherVariable : Name → Type 0
  OtherVariable x = member x vs ≡ false

  abbrev pub OtherConstant : Name → Type 0
  OtherConstant c = member c cs ≡ false

  formulas_old : (l : List PlainFormula) → AllOf (λ v. list_any (occurs_var_in v) l ≡ false) vs → AllOf (λ c. list_any (occurs_const_in c) l ≡ false) cs → FormulasIn OtherVariable OtherConstant l
  formulas_old [] h g = tt
  formulas_old (a ∷ l) h g = (
    formula_in OtherVariable OtherConstant a
        (none_passes (λ v. occurs_var_in v a) vs (all_map _ _ (λ v e. not_left (occurs_var_in v a) (list_any (occurs_var_in v) l) e) vs h))
        (none_passes (λ c. occurs_const_in c a) cs (all_map _ _ (λ c e. not_left (occurs_const_in c a) (list_any (occurs_const_in c) l) e) cs g)),
    formulas_old l
        (all_map _ _ (λ v e. not_right (occurs_var_in v a) (list_any (occurs_var_in v) l) e) vs h)
        (all_map _ _ (λ c e. not_right (occurs_const_in c a) (list_any (occurs_const_in c) l) e) cs g),
  )

  module _ (o : PlainObligation) (s : PlainSequent) (new_vs : AllOf (IsNewVariable s) vs) (new_cs : AllOf (IsNewConstant o s) cs) where
    pub left_old : FormulasIn OtherVariable OtherConstant s.left
    left_old = formulas_old s.left
        (all_map _ _ (λ v h. not_left (list_any (occurs_var_in v) s.left) (list_any (occurs_var_in v) s.right) h.absent) vs new_vs)
        (all_map _ _ (λ c h. not_left (list_any (occurs_const_in c) s.left) (list_any (occurs_const_in c) s.right) h.absent) cs new_cs)

    pub right_old : FormulasIn OtherVariable OtherConstant s.right
    right_old = formulas_old s.right
        (all_map _ _ (λ v h. not_right (list_any (occurs_var_in v) s.left) (list_any (occurs_var_in v) s.right) h.absent) vs new_vs)
        (all_map _ _ (λ c h. not_right (list_any (occurs_const_in c) s.left) (list_any (occurs_const_in c) s.right) h.absent) cs new_cs)

    -- a known constant is none of the new ones
    pub known_constant_old : (c : Name) → IsKnownConstant o c → OtherConstant c
    known_constant_old c e = none_passes (λ v. list_any (λ k. same_name v k) o.consts) cs (all_map _ _ (λ v h. h.not_known) cs new_cs) c e

    -- a known variable is none of the new ones, which begin with `@`
    module _ (special : AllOf (λ v. is_special v ≡ true) vs) (declared : All (λ (v : Declared). is_special v.name ≡ false) o.vars) where
      heap_old : member heap_name vs ≡ false
      heap_old = not_by (member heap_name vs) (λ m. true≢false (sym ((same_name_decides heap_name heap_name).1 refl) ∙ out_head (same_name heap_name heap_name) (member heap_name (result_variable IntSort ∷ result_variable BoolSort ∷ result_variable RefSort ∷ thrown_variable ∷ [])) (all_of (IsNewVariable s) vs new_vs heap_name m).not_special))

      of_declared : (x : Name) (l : List Declared) → AllByRecursion (λ (v : Declared). is_special v.name ≡ false) l → list_any (λ (v : Declared). same_name x v.name) l ≡ true → is_special x ≡ false
      of_declared x [] h e = absurd (true≢false (sym e))
      of_declared x (v ∷ l) h e = by (of_declared x l h.1) (same_name x v.name) refl e
        where
          by : (list_any (λ (v : Declared). same_name x v.name) l ≡ true → is_special x ≡ false) → (b : Bool) → same_name x v.name ≡ b → (b || list_any (λ (v : Declared). same_name x v.name) l) ≡ true → is_special x ≡ false
          by more true p q = ap is_special ((same_name_decides x v.name).0 p) ∙ h.0
          by more false p q = more q

      pub known_variable_old : (x : Name) → IsKnownVariable o x → OtherVariable x
      known_variable_old x e = by (same_name x heap_name) refl e
        where
          by : (b : Bool) → same_name x heap_name ≡ b → (b || list_any (λ (v : Declared). same_name x v.name) o.vars) ≡ true → OtherVariable x
          by true p q = ap (λ y. member y vs) ((same_name_decides x heap_name).0 p) ∙ heap_old
          by false p q = not_by (member x vs) (λ m. true≢false (sym (all_of (λ v. is_special v ≡ true) vs special x m) ∙ of_declared x o.vars (recursion_from_All (λ (v : Declared). is_special v.name ≡ false) o.vars declared) q))

-- ---- the parts of a sequent with a formula below updates
module _ (P Q : Name → Type 0) where
  pub front_in : (front rest : List PlainFormula) → FormulasIn P Q (front ++ rest) → FormulasIn P Q front
  front_in [] rest h = tt
  front_in (a ∷ front) rest h = (h.0, front_in front rest h.1)

  pub rest_in : (front rest : List PlainFormula) → FormulasIn P Q (front ++ rest) → FormulasIn P Q rest
  rest_in [] rest h = h
  rest_in (a ∷ front) rest h = rest_in front rest h.1

  pub updates_in : (us : List Pairs) (a : PlainFormula) → FormulaIn P Q (through us a) → UpdatesIn P Q us
  updates_in [] a h = tt
  updates_in (u ∷ us) a h = (h.0, updates_in us a h.1)

  pub place_in : (us : List Pairs) (a : PlainFormula) → FormulaIn P Q (through us a) → FormulaIn P Q a
  place_in [] a h = h
  place_in (u ∷ us) a h = place_in us a h.1

-- ---- from tests to absence
module _ (P : Name → Type 0) (cs : List Name) where
  pub formulas_without : (l : List PlainFormula) → FormulasIn P (λ c. member c cs ≡ false) l → FormulasIn Always (λ c. NotIn c cs) l
  formulas_without [] h = tt
  formulas_without (a ∷ l) h = (formula_wider P (λ c. member c cs ≡ false) Always (λ c. NotIn c cs) (λ x o. tt) (λ c o. not_in c cs o) a h.0, formulas_without l h.1)

  pub updates_without : (us : List Pairs) → UpdatesIn P (λ c. member c cs ≡ false) us → UpdatesIn Always (λ c. NotIn c cs) us
  updates_without [] h = tt
  updates_without (u ∷ us) h = (update_wider P (λ c. member c cs ≡ false) Always (λ c. NotIn c cs) (λ x o. tt) (λ c o. not_in c cs o) u h.0, updates_without us h.1)
