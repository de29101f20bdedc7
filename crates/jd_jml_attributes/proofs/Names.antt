-- No production has more than four names.
use Rattle.std.proofs.Common.{◌≡◌, ◌≤◌, ℕ, zero, suc, List, [], ◌∷◌, Bool, true, nat_le, refl, arith, slice_index_or}
use Rattle.std.proofs.lemmas.Bool.{and_parts, leb-true}
use Rattle.std.specs.List.{list_all}
use Rattle.jd_jml_attributes.specs.declared.rows.Rule.{Rule}
use Rattle.jd_jml_attributes.specs.declared.rows.TheConstants.{ROWS, NO_ROW}
use Rattle.jd_jml_attributes.specs.Judging.{names_of}

abbrev Row : Type 0
Row = ℕ × Rule

abbrev is_few : Row → Bool
is_few row = nat_le row.0 4

few_in : (rows : List Row) (p : ℕ) → list_all is_few rows ≡ true → (slice_index_or rows p NO_ROW).0 ≤ 4
few_in [] p all = omega arith
few_in (row ∷ rows) zero all = leb-true row.0 4 (and_parts (is_few row) (list_all is_few rows) all).0
few_in (row ∷ rows) (suc p) all = few_in rows p (and_parts (is_few row) (list_all is_few rows) all).1

pub few_names : (p : ℕ) → names_of p ≤ 4
few_names p = few_in ROWS p refl
