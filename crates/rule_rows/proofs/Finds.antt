-- The find of a row of the table is one that matching takes.
use Rattle.std.proofs.Common.{Bool, List, None, Some, cond, false, subst, true, ◌∷◌, ◌≡◌, ℕ, []}
use Rattle.std.proofs.lemmas.Option.{same_Some}
use Rattle.std.specs.Str.{bytes_eq}
use Rattle.jd_table_steps.proofs.Rows.{rows_are_rules}
use Rattle.jd_table_steps.specs.Tables.{rule_rows}
use Rattle.jd_taclet_scripts.specs.Steps.{row_named}
use Rattle.jd_taclets.specs.Taclets.{AllFinds, IsFind, Taclet}

find_of : (rows : List Taclet) → AllFinds rows → (name : List ℕ) (r : Taclet) → row_named rows name ≡ Some r → IsFind r.find
find_of [] h name r e = absurd (none e)
  where
    none : {A : Type 0} {x : A} → None ≡ Some x → ⊥
    none e = cc
find_of (x ∷ rows) h name r e = by (bytes_eq x.name name) (find_of rows h.1 name r) e
  where
    by : (b : Bool) → (row_named rows name ≡ Some r → IsFind r.find) → cond b (Some x) (row_named rows name) ≡ Some r → IsFind r.find
    by true more e = subst (λ y. IsFind y.find) (same_Some x r e) h.0.0
    by false more e = more e

pub has_find : (name : List ℕ) (r : Taclet) → row_named rule_rows name ≡ Some r → IsFind r.find
has_find name r e = find_of rule_rows rows_are_rules.rules.finds name r e
