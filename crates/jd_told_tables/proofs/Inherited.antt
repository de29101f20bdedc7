-- The invariants of a class and of those above it, with names replaced.
use Rattle.std.proofs.Common.{List, [], ap, append_assoc, cond, length, refl, reverse, sym, ◌++◌, ◌≡◌, ◌∙◌, ◌∷◌, ◌<◌, ℕ}
use Rattle.std.proofs.lemmas.List.{append-nil, reverse-append}
use Rattle.jd_model.specs.Conjunctions.{conjunction}
use Rattle.jd_model.specs.Renamings.{rename_all}
use Rattle.jd_model.specs.Tables.{invariants_in}
use Rattle.jd_model.specs.Truth.{Setting}
use Rattle.jd_sequent.specs.Obligations.{PlainTask}
use Rattle.jd_syntax.specs.Codes.{OfClass}
use Rattle.jd_taclets.specs.Conditions.{at_heap, invariant_at, invariants_of}
use Rattle.jd_task_classes.specs.Classes.{parents_in}
use Rattle.jd_term.specs.Formulas.{PlainFormula}
use Rattle.jd_term.specs.Renamings.{Renaming, rename}
use Rattle.jd_term.specs.Terms.{PlainTerm}
use Rattle.jd_told_programs.specs.Told.{line, told_setting}
use Rattle.jd_told_tables.proofs.Lines.{line_same, lt_test}
use Rattle.jd_told_tables.specs.Lines.{line_up, renamed_along}

all_renamed : (r : Renaming) (xs ys : List PlainFormula) → rename_all r (xs ++ ys) ≡ rename_all r xs ++ rename_all r ys
all_renamed r [] ys = refl
all_renamed r (x ∷ xs) ys = ap (λ l. rename r x ∷ l) (all_renamed r xs ys)

module _ (g : Setting) where
  of_both : (cs ds : List ℕ) → invariants_of g (cs ++ ds) ≡ invariants_of g cs ++ invariants_of g ds
  of_both [] ds = refl
  of_both (c ∷ cs) ds = ap (λ l. g.invariants c ++ l) (of_both cs ds) ∙ sym (append_assoc (g.invariants c) (invariants_of g cs) (invariants_of g ds))

  pub along_is : (r : Renaming) (cs : List ℕ) → rename_all r (invariants_of g (reverse cs)) ≡ renamed_along r g.invariants cs
  along_is r [] = refl
  along_is r (c ∷ cs) =
      ap (λ l. rename_all r (invariants_of g l)) (reverse-append (c ∷ []) cs)
      ∙ ap (rename_all r) (of_both (reverse cs) (c ∷ []) ∙ ap (λ l. invariants_of g (reverse cs) ++ l) (append-nil (g.invariants c)))
      ∙ all_renamed r (invariants_of g (reverse cs)) (g.invariants c)
      ∙ ap (λ l. l ++ rename_all r (g.invariants c)) (along_is r cs)

module _ (t : PlainTask) (c : ℕ) (h o : PlainTerm) where
  pub invariant_along : c < length t.classes.tables.classes → conjunction (renamed_along (at_heap h o) (invariants_in t.contracts.invariants) (line_up (parents_in t.classes.tables) (length t.classes.tables.classes) c)) ≡ invariant_at (told_setting t) (OfClass c) h o
  invariant_along lt =
      sym (ap (λ b. conjunction (rename_all (at_heap h o) (invariants_of (told_setting t) (cond b (reverse (line (parents_in t.classes.tables) (length t.classes.tables.classes) c)) [])))) (lt_test c (length t.classes.tables.classes) lt)
      ∙ ap conjunction (along_is (told_setting t) (at_heap h o) (line (parents_in t.classes.tables) (length t.classes.tables.classes) c))
      ∙ ap (λ l. conjunction (renamed_along (at_heap h o) (invariants_in t.contracts.invariants) l)) (line_same (parents_in t.classes.tables) (length t.classes.tables.classes) c))
