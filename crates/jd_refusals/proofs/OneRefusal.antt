-- Files whose classes stand have one first refused token, and it is of one of them.
use Rattle.std.proofs.Common.{◌≡◌, ◌<◌, ◌+◌, ◌≤◌, ℕ, suc, List, [], ◌∷◌, length, map, get_or, Option, Some, None, refl, sym, ap, subst, ◌∙◌, arith}
use Rattle.std.specs.Prelude.{option_map, Result, Ok, Err}
use Rattle.std.specs.List.{All}
use Rattle.std.proofs.lemmas.List.Elements.{All-append, All-head, All-map, All-nil, All-tail}
use Rattle.std.proofs.lemmas.Option.{none-some, same_Some}
use Rattle.jd_syntax.specs.JavaTrees.{JavaClass, JavaUnit}
use Rattle.jd_jclasses.specs.Classes.{DeclaredClass, classes_from, declared_classes, prelude_count}
use Rattle.jd_jclasses.specs.Refusals.{AreClasses}
use Rattle.jd_bodies.specs.Declarations.{Declarations}
use Rattle.jd_bodies.specs.Refused as bodies
use Rattle.jd_bodies.specs.Scopes.{Scope}
use Rattle.jd_bodies.specs.declared.fault.Fault.{Fault}
use Rattle.jd_declaration_laws.specs.Laws.{DeclarationsAreOne}
use Rattle.jd_specifications.specs.Refused as jml
use Rattle.jd_specifications.specs.Scopes.{SpecLocal}
use Rattle.jd_specifications.specs.declared.fault.SpecFault.{SpecFault}
use Rattle.jd_refusals.specs.Refusals.{IsFirst, in_body, behind_bodies, IsFirstOfBodies, IsFirstOfJml, PlainRefused, of_body, of_jml}

-- ---- one first token

module _ (law : DeclarationsAreOne) (units : List JavaUnit) (stand : AreClasses units) where
  one_of_bodies : (r s : Option PlainRefused) → IsFirstOfBodies units r → IsFirstOfBodies units s → r ≡ s
  one_of_bodies r s h g =
      let same = law units stand h.first.0 g.first.0 h.first.1 g.first.1 in
      h.is ∙ ap (option_map of_body) (h.first.2 ∙ ap (λ d. bodies.first_fault d units) same ∙ sym g.first.2) ∙ sym g.is

  one_of_jml : (r s : Option PlainRefused) → IsFirstOfJml units r → IsFirstOfJml units s → r ≡ s
  one_of_jml r s h g =
      let same = law units stand h.first.0 g.first.0 h.first.1 g.first.1 in
      h.is ∙ ap (option_map of_jml) (h.first.2 ∙ ap (λ d. jml.first_fault d units) same ∙ sym g.first.2) ∙ sym g.is

  pub one : (r s : Option PlainRefused) → IsFirst units r → IsFirst units s → r ≡ s
  one _ _ (in_body r h) (in_body s g) = one_of_bodies (Some r) (Some s) h g
  one _ _ (in_body r h) (behind_bodies s none g) = absurd (none-some r (one_of_bodies None (Some r) none h))
  one _ _ (behind_bodies r none h) (in_body s g) = absurd (none-some s (one_of_bodies None (Some s) none g))
  one _ _ (behind_bodies r none h) (behind_bodies s none' g) = one_of_jml r s h g

-- ---- it is of one of the files

every : {X : Type 0} (P : X → Type 0) → ((x : X) → P x) → (xs : List X) → All P xs
every P f xs k x lt = f (get_or xs k x)

abbrev in_file : ℕ → JavaClass → DeclaredClass
in_file n c = record { file = n; tree = c }

class_files : (n k : ℕ) (units : List JavaUnit) → n + length units ≤ k → All (λ (d : DeclaredClass). d.file < k) (classes_from n units)
class_files n k [] le = All-nil (λ (d : DeclaredClass). d.file < k)
class_files n k (u ∷ us) le =
    All-append (λ (d : DeclaredClass). d.file < k) (map (in_file n) u.classes) (classes_from (suc n) us)
    (All-map (λ (d : DeclaredClass). d.file < k) (in_file n) u.classes (every (λ c. n < k) (λ c. omega (arith, le)) u.classes))
    (class_files (suc n) k us (omega (arith, le)))

module _ (d : Declarations) (k : ℕ) where
  abbrev Within : {F : Type 0} → Option (ℕ × F) → Type 0
  Within None = Unit {0}
  Within (Some p) = p.0 < k

  of_bodies : (class : ℕ) (cs : List DeclaredClass) → All (λ (c : DeclaredClass). c.file < k) cs → Within (bodies.fault_from d class cs)
  of_bodies class [] all = tt
  of_bodies class (c ∷ cs) all =
      here (bodies.members d class c.tree.members) (bodies.fault_from d (suc class) cs) (of_bodies (suc class) cs (All-tail (λ (c : DeclaredClass). c.file < k) c cs all))
    where
      here : (r : Result Scope Fault) (rest : Option (ℕ × Fault)) → Within rest → Within (bodies.fault_or d c.file r rest)
      here (Ok s) rest within = within
      here (Err f) rest within = All-head (λ (c : DeclaredClass). c.file < k) c cs all

  of_specs : (class : ℕ) (cs : List DeclaredClass) → All (λ (c : DeclaredClass). c.file < k) cs → Within (jml.fault_from d class cs)
  of_specs class [] all = tt
  of_specs class (c ∷ cs) all =
      here (jml.members d class c.tree.members c.tree.end) (jml.fault_from d (suc class) cs) (of_specs (suc class) cs (All-tail (λ (c : DeclaredClass). c.file < k) c cs all))
    where
      here : (r : Result (List SpecLocal) SpecFault) (rest : Option (ℕ × SpecFault)) → Within rest → Within (jml.fault_or d c.file r rest)
      here (Ok s) rest within = within
      here (Err f) rest within = All-head (λ (c : DeclaredClass). c.file < k) c cs all

  body_file : (found : Option (ℕ × Fault)) (r : PlainRefused) → Within found → Some r ≡ option_map of_body found → r.file < k
  body_file None r within is = absurd (none-some r (sym is))
  body_file (Some p) r within is = subst (λ (x : PlainRefused). x.file < k) (sym (same_Some r (of_body p) is)) within

  jml_file : (found : Option (ℕ × SpecFault)) (r : PlainRefused) → Within found → Some r ≡ option_map of_jml found → r.file < k
  jml_file None r within is = absurd (none-some r (sym is))
  jml_file (Some p) r within is = subst (λ (x : PlainRefused). x.file < k) (sym (same_Some r (of_jml p) is)) within

pub in_files : (units : List JavaUnit) (r : PlainRefused) → IsFirst units (Some r) → r.file < length units
in_files units r first = by (Some r) refl first
  where
    all : All (λ (c : DeclaredClass). c.file < length units) (declared_classes units)
    all = class_files 0 (length units) units (omega arith)

    by : (o : Option PlainRefused) → Some r ≡ o → IsFirst units o → r.file < length units
    by _ is (in_body s h) =
        let d = h.first.0 in
        body_file d (length units) h.found r (subst (Within d (length units)) (sym h.first.2) (of_bodies d (length units) prelude_count (declared_classes units) all)) (is ∙ h.is)
    by _ is (behind_bodies s none h) =
        let d = h.first.0 in
        jml_file d (length units) h.found r (subst (Within d (length units)) (sym h.first.2) (of_specs d (length units) prelude_count (declared_classes units) all)) (is ∙ h.is)
