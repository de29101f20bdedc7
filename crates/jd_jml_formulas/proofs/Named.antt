-- What stands for names and members.
use Rattle.std.proofs.Common.{◌≡◌, ℕ, false, Option, Some, None, option_map, sym, ap, subst, ◌∙◌}
use Rattle.std.proofs.lemmas.Option.{none-some, same_Some}
use Rattle.jd_base.specs.declared.sort.Sort.{Sort}
use Rattle.jd_term.specs.Terms as terms
use Rattle.jd_bodies.specs.Variables.{sort_of}
use Rattle.jd_bodies.specs.declared.value.ValueType.{ValueType}
use Rattle.jd_bodies.specs.declared.value.Variable.{Variable}
use Rattle.jd_model.specs.Programs.{Program}
use Rattle.jd_jml_meaning.specs.Meaning.{When}
use Rattle.jd_jml_meaning.specs.Resolved as jml
use Rattle.jd_jml_meaning.specs.Resolved.{JmlExpr}
use Rattle.jd_jml_meaning.specs.Translation.{Spelling, term}
use Rattle.jd_specifications.specs.Resolution.{named, own_member}
use Rattle.jd_sized_makers.specs.Made.{IsTerm}
use Rattle.jd_sized_makers.specs.declared.terms.MadeTerm.{MadeTerm}
use Rattle.jd_jml_known.specs.Members.{HasItsSort, read_of}
use Rattle.jd_jml_known.specs.Scopes.{at_most_32, meaning_view, saturated}
use Rattle.jd_jml_known.specs.declared.members.Member.{Member}
use Rattle.jd_jml_known.specs.declared.members.Member.TheVariants as members
use Rattle.jd_jml_known.specs.declared.names.Meaning.{Meaning}
use Rattle.jd_jml_known.specs.declared.names.Meaning.TheVariants as meanings
use Rattle.jd_jml_formulas.proofs.Bounds.{binder_is, is_binder, other_is}

module _ (p : Program) (sp : Spelling) (t : When) where
  -- a field of an object
  pub field_read : (m : MadeTerm) (k : Member) (f : ℕ) (u : ValueType) (s : Sort) (o : JmlExpr) → k ≡ members.Field f u → HasItsSort p k → s ≡ sort_of u
      → IsTerm m (terms.Select s (sp.heap t) (term p sp t o) (terms.NamedField f)) → IsTerm m (term p sp t (read_of k o))
  field_read m k f u s o is has sorted made =
      subst (λ j. IsTerm m (term p sp t (read_of j o))) (sym is)
      (subst (λ v. IsTerm m (terms.Select v (sp.heap t) (term p sp t o) (terms.NamedField f))) (sorted ∙ sym (subst (HasItsSort p) is has)) made)

  pub other_read : (m : MadeTerm) (k l : Member) (o : JmlExpr) → k ≡ l → IsTerm m (term p sp t (read_of l o)) → IsTerm m (term p sp t (read_of k o))
  other_read m k l o is made = subst (λ j. IsTerm m (term p sp t (read_of j o))) (sym is) made

  -- a name in scope that no quantifier binds, and one that a quantifier binds
  pub other_meant : (m : MadeTerm) (g h : Meaning) (j : JmlExpr) → g ≡ h → meaning_view g ≡ saturated j → is_binder (meaning_view h) ≡ false → IsTerm m (term p sp t (meaning_view h)) → IsTerm m (term p sp t j)
  other_meant m g h j is stands free made = subst (λ e. IsTerm m (term p sp t e)) (sym (other_is j (meaning_view h) (sym (ap meaning_view is) ∙ stands) free)) made

  pub bound_meant : (m : MadeTerm) (g : Meaning) (n : ℕ) (u : ValueType) (s : Sort) (j : JmlExpr) → g ≡ meanings.Bound n u → meaning_view g ≡ saturated j → s ≡ sort_of u
      → ((k : ℕ) → n ≡ at_most_32 k → IsTerm m (terms.Bound k s)) → IsTerm m (term p sp t j)
  bound_meant m g n u s j is stands sorted made =
      let found = binder_is j n (sort_of u) (sym (ap meaning_view is) ∙ stands) in
      subst (λ e. IsTerm m (term p sp t e)) (sym found.2) (subst (λ v. IsTerm m (terms.Bound found.0 v)) sorted (made found.0 found.1))

  -- a name, by what was found of it
  pub name_meant : (m : MadeTerm) (r : Option Meaning) (g : Meaning) (o : Option JmlExpr) (v : Option Variable) → r ≡ Some g → option_map meaning_view r ≡ option_map saturated o
      → ((j : JmlExpr) → meaning_view g ≡ saturated j → IsTerm m (term p sp t j)) → IsTerm m (term p sp t (named o v))
  name_meant m r g (Some j) v is stands made = made j (same_Some (meaning_view g) (saturated j) (sym (ap (option_map meaning_view) is) ∙ stands))
  name_meant m r g None v is stands made = absurd (none-some (meaning_view g) (sym stands ∙ ap (option_map meaning_view) is))

  pub name_member : (m : MadeTerm) (r : Option Meaning) (o : Option JmlExpr) (v : Option Variable) (k : Member) → r ≡ None → option_map meaning_view r ≡ option_map saturated o
      → ((j : JmlExpr) → read_of k j ≡ own_member j v) → IsTerm m (term p sp t (read_of k jml.This)) → IsTerm m (term p sp t (named o v))
  name_member m r None v k is stands read made = subst (λ e. IsTerm m (term p sp t e)) (read jml.This) made
  name_member m r (Some j) v k is stands read made = absurd (none-some (saturated j) (sym (ap (option_map meaning_view) is) ∙ stands))
