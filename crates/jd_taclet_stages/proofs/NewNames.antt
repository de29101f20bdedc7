-- The test of new names decides: cause nine.
use Rattle.std.proofs.Common.{Bool, Decides, List, false, refl, ◌&&◌, ◌≡◌, ◌∷◌, []}
use Rattle.jd_model.specs.Occurrences.{member}
use Rattle.jd_model.specs.Programs.{Program}
use Rattle.jd_model.specs.Sequents.{PlainSequent}
use Rattle.jd_pattern_laws.proofs.Filling.{AllSame, halves}
use Rattle.jd_patterns.specs.Instances.{Instance}
use Rattle.jd_patterns.specs.Patterns.{SchemaVar}
use Rattle.jd_sequent.specs.Freshness.{IsNewConstant, IsNewVariable, constant_stands_in, special_variables, variable_stands_in}
use Rattle.jd_sequent.specs.Obligations.{PlainTask}
use Rattle.jd_syntax.specs.CodeNames.{same_name}
use Rattle.jd_syntax.specs.Names.{Name}
use Rattle.std.specs.List.{list_any}
use Rattle.jd_taclet_scripts.specs.Given.{AreNewConstants, AreNewVariables}
use Rattle.jd_taclet_stages.proofs.Deciding.{both, fails, negated}
use Rattle.jd_taclet_stages.specs.Ready.{given_kind, given_variables}
use Rattle.jd_taclet_stages.specs.Stages.{all_new, is_new_as, is_new_constant, is_new_variable, stands_in_body}
use Rattle.jd_taclets.specs.Taclets.{AFormula, ANumber, ATerm, InstForm, InstVar, NewConstant, NewVariable, new_constants, new_variables, with_constant, with_variable}

module _ (t : PlainTask) (s : PlainSequent) where
  constant_decides : (c : Name) → Decides (is_new_constant t s c) (IsNewConstant t.obligation s c)
  constant_decides c = (λ e. let h = d.0 e in record { absent = h.0; not_known = h.1 }, λ n. d.1 (n.absent, n.not_known))
    where
      d : Decides (is_new_constant t s c) ((constant_stands_in s c ≡ false) × (list_any (λ k. same_name c k) t.obligation.consts ≡ false))
      d = both _ _ _ _ (negated _ _ (fails (constant_stands_in s c))) (negated _ _ (fails (list_any (λ k. same_name c k) t.obligation.consts)))

  variable_decides : (x : Name) → Decides (is_new_variable t s x) (IsNewVariable s x × (stands_in_body t x ≡ false))
  variable_decides x = (λ e. let h = d.0 e in (record { absent = h.0.0; not_special = h.0.1 }, h.1), λ n. d.1 ((n.0.absent, n.0.not_special), n.1))
    where
      d : Decides (is_new_variable t s x) (((variable_stands_in s x ≡ false) × (member x special_variables ≡ false)) × (stands_in_body t x ≡ false))
      d = both _ _ _ _ (both _ _ _ _ (negated _ _ (fails (variable_stands_in s x))) (negated _ _ (fails (member x special_variables)))) (negated _ _ (fails (stands_in_body t x)))

  module _ (p : Program) (σ : Instance) where
    one_new : (f : InstForm) (x : Name) (cs xs : List Name) (b : Bool) → Decides b (AreNewConstants t s cs × AreNewVariables t s xs) → Decides (is_new_as t s f x && b) (AreNewConstants t s (with_constant p σ f x cs) × AreNewVariables t s (with_variable p σ f x xs))
    one_new (NewConstant k) x cs xs b d = (λ e. let h = g.0 e in ((h.0, h.1.0), h.1.1), λ h. g.1 (h.0.0, (h.0.1, h.1)))
      where
        g : Decides (is_new_constant t s x && b) (IsNewConstant t.obligation s x × (AreNewConstants t s cs × AreNewVariables t s xs))
        g = both (is_new_constant t s x) b _ _ (constant_decides x) d
    one_new (NewVariable k) x cs xs b d = (λ e. let h = g.0 e in (h.1.0, (h.0, h.1.1)), λ h. g.1 (h.1.0, (h.0, h.1.1)))
      where
        g : Decides (is_new_variable t s x && b) ((IsNewVariable s x × (stands_in_body t x ≡ false)) × (AreNewConstants t s cs × AreNewVariables t s xs))
        g = both (is_new_variable t s x) b _ _ (variable_decides x) d
    one_new AFormula x cs xs b d = d
    one_new ANumber x cs xs b d = d
    one_new (ATerm k) x cs xs b d = d

    pub names_decide : (vs : List InstVar) → Decides (all_new t s σ vs) (AreNewConstants t s (new_constants p σ vs) × AreNewVariables t s (new_variables p σ vs))
    names_decide [] = (λ e. (tt, tt), λ h. refl)
    names_decide (v ∷ vs) = one_new v.form (σ.name v.name) (new_constants p σ vs) (new_variables p σ vs) (all_new t s σ vs) (names_decide vs)

  -- under another instantiation
  module _ (σ ρ : Instance) where
    one_alike : (n : SchemaVar) (f : InstForm) → AllSame σ ρ ((given_kind f, n) ∷ []) → is_new_as t s f (σ.name n) ≡ is_new_as t s f (ρ.name n)
    one_alike n (NewConstant k) o = λ i. is_new_constant t s (o.0 i)
    one_alike n (NewVariable k) o = λ i. is_new_variable t s (o.0 i)
    one_alike n AFormula o = refl
    one_alike n ANumber o = refl
    one_alike n (ATerm k) o = refl

    pub new_alike : (vs : List InstVar) → AllSame σ ρ (given_variables vs) → all_new t s σ vs ≡ all_new t s ρ vs
    new_alike [] o = refl
    new_alike (v ∷ vs) o = let each = halves σ ρ ((given_kind v.form, v.name) ∷ []) (given_variables vs) o in λ i. one_alike v.name v.form each.0 i && new_alike vs each.1 i
