-- What an accepted script says of the program.
use Rattle.std.proofs.Common.{◌≡◌, ℕ, List, [], ◌∷◌, map, Option, Some, refl, sym, ap, ◌∙◌, subst}
use Rattle.std.proofs.lemmas.Option.{same_Some}
use Rattle.jd_files.specs.Files.{AreTrees}
use Rattle.jd_files.specs.Laws.{OneFilesRefusal}
use Rattle.jd_model.specs.Sequents.{PlainSequent}
use Rattle.jd_sequent.specs.Trees.{PlainStep}
use Rattle.jd_sequent.specs.SoundDerivations.{DerivationsAreSound}
use Rattle.jd_sequent.specs.Obligations.{PlainTask}
use Rattle.jd_programs.specs.Programs.{IsProgram}
use Rattle.jd_first_tasks.specs.Laws.{ClosedFirstTasksAreKept}
use Rattle.jd_answer.specs.Answers.{AcceptsObligations, HaveBytes}
use Rattle.jd_answer.specs.Sources.{obligation_sequent}
use Rattle.jd_answer.specs.Words.{command_words}
use Rattle.jdl.specs.Outcomes.{IsAccepted}
use Rattle.jdl.specs.KeptPrograms.{EachCaseIsKept}

-- files that are read are those that the library tells of
same_files : (contents : List ℕ → Option (List ℕ)) (ns fs gs : List (List ℕ)) → HaveBytes contents ns fs → map contents ns ≡ map Some gs → gs ≡ fs
same_files contents [] [] [] have told = refl
same_files contents [] [] (g ∷ gs) have told = absurd cc
same_files contents [] (f ∷ fs) gs have told = absurd have
same_files contents (n ∷ ns) [] gs have told = absurd have
same_files contents (n ∷ ns) (f ∷ fs) [] have told = absurd cc
same_files contents (n ∷ ns) (f ∷ fs) (g ∷ gs) have told =
    let head : contents n ≡ Some g = cc in
    let tail : map contents ns ≡ map Some gs = cc in
    ap (λ x. x ∷ gs) (same_Some g f (sym head ∙ have.0)) ∙ ap (λ l. f ∷ l) (same_files contents ns fs gs have.2 tail)

same_names : (words : List (List ℕ)) (p p' : List ℕ) (ns ns' : List (List ℕ)) → command_words words ≡ Some (p, ns) → command_words words ≡ Some (p', ns') → ns ≡ ns'
same_names words p p' ns ns' one other =
    let pair : ◌≡◌ {A = List ℕ × List (List ℕ)} (p, ns) (p', ns') = same_Some (p, ns) (p', ns') (sym one ∙ other) in
    ap (λ x. x.1) pair

-- where the rules take the obligations, and each derivation of what they take is sound, an accepted script means that each case is kept
pub accepted_is_kept : OneFilesRefusal → ClosedFirstTasksAreKept → (leads : PlainTask → PlainSequent → PlainStep → List PlainSequent → Type 0) (accepts : PlainTask → PlainSequent → Type 0) (words : List (List ℕ)) (contents : List ℕ → Option (List ℕ)) → AcceptsObligations accepts → ((q : PlainTask) → DerivationsAreSound q (accepts q) (leads q)) → IsAccepted leads words contents → EachCaseIsKept words contents
accepted_is_kept files law leads accepts words contents taken sound a j f κ c has =
    let q = a.program in
    let u = a.understood in
    let p = u.java_.resolved in
    let names : u.names ≡ f.names = same_names words u.proof f.proof u.names f.names u.read.proof_read.words_ f.words_ in
    let same : f.files ≡ u.files = same_files contents u.names u.files f.files u.read.files_told (ap (map contents) names ∙ f.told) in
    let units : f.units ≡ p.units = files.one_list u.files f.units p.units (subst (λ fs. AreTrees fs f.units) same f.trees) p.trees in
    let means : IsProgram p.units j = subst (λ us. IsProgram us j) units f.means in
    law u.files p.units p.trees p.stand p.none q u.java_.task (sound q a.tree (obligation_sequent q) [] (taken q (record { files = u.files; are = u.java_ })) a.derived) j means κ c has
