-- A row is filled, one cell after the other.
use Rattle.std.proofs.Common.{◌≡◌, ◌≢◌, refl, ◌⊎◌, ℕ, suc, ◌+◌, ◌*◌, ◌<◌, ◌≤◌, List, length, get_or, slice_set, Option, None, sym, ap, ◌∙◌, inl, inr, arith}
use Rattle.std.proofs.Math.Nat.{mul-le-mul_right}
use Rattle.std.proofs.lemmas.Bool.{cases_eq, cases_lt}
use Rattle.std.proofs.lemmas.List.{get_or-set_other, get_or_default, length-set}
use Rattle.std.proofs.lemmas.Grind.{get_or-set_at}
use Rattle.std.specs.Option.{option_or}
use Rattle.jd_nearest.specs.Nearest.{column}
use Rattle.jd_nearest.specs.Rows.{IsRowFilled}

-- the row of an earlier node ends where the row of a later one begins, or before
pub row_before : (a b width : ℕ) → a < b → a * width + width ≤ b * width
row_before a b width lt =
    let le : suc a * width ≤ b * width = mul-le-mul_right width (let step : suc a ≤ b = omega arith in step) in
    omega arith

-- so many cells of the row are filled, and no other has changed
pub record IsRowBegun (width : ℕ) (old new : List (Option ℕ)) (node parent done : ℕ) : Type 0 where
  pub count : length new ≡ length old
  pub row : (k : ℕ) → k < done → column width new k node ≡ option_or (column width old k node) (column width old k parent)
  pub others : (i : ℕ) → (i < node * width) ⊎ (node * width + done ≤ i) → get_or new i None ≡ get_or old i None

pub row_at_first : (width : ℕ) (old : List (Option ℕ)) (node parent : ℕ) → IsRowBegun width old old node parent 0
row_at_first width old node parent = record {
  count = refl;
  row = λ k lt. absurd (omega arith);
  others = λ i out. refl;
}

-- a cell of another node stands outside of the row
outside : (a node width k done : ℕ) → a ≢ node → k < width → done ≤ width → (a * width + k < node * width) ⊎ (node * width + done ≤ a * width + k)
outside a node width k done other lt le =
    elim (cases_lt a node) [
      | inl before ↦ inl (omega (arith, row_before a node width before))
      | inr behind ↦ inr (omega (arith, row_before node a width (omega arith)))
    ]

pub one_more_cell : (width : ℕ) (old new : List (Option ℕ)) (node parent k : ℕ) (own above value d e : Option ℕ) → parent ≢ node → k < width
    → node * width + width ≤ length old → parent * width + width ≤ length old
    → own ≡ get_or new (node * width + k) d → above ≡ get_or new (parent * width + k) e → value ≡ option_or own above
    → IsRowBegun width old new node parent k → IsRowBegun width old (slice_set new (node * width + k) value) node parent (k + 1)
one_more_cell width old new node parent k own above value d e distinct lt room room_above is_own is_above is before =
    let mine : own ≡ column width old k node =
    is_own ∙ get_or_default new (node * width + k) d None (omega (arith, before.count)) ∙ before.others (node * width + k) (inr (omega arith)) in
    let its : above ≡ column width old k parent =
    is_above ∙ get_or_default new (parent * width + k) e None (omega (arith, before.count)) ∙ before.others (parent * width + k) (outside parent node width k k distinct lt (omega arith)) in
    let made : value ≡ option_or (column width old k node) (column width old k parent) = cc (is, mine, its) in
    record {
      count = length-set new (node * width + k) value ∙ before.count;
      row = λ m within.
          elim (cases_eq m k) [
            | inl last ↦ get_or-set_at new (node * width + k) (node * width + m) value None (omega arith) (omega (arith, before.count)) ∙ made
                ∙ ap (λ (i : ℕ). option_or (column width old i node) (column width old i parent)) (sym last)
            | inr earlier ↦ get_or-set_other new (node * width + k) (node * width + m) value None (omega arith) ∙ before.row m (omega arith)
          ];
      others = λ i out. get_or-set_other new (node * width + k) i value None (elim out [ inl l ↦ (omega arith) | inr r ↦ (omega arith) ]) ∙ before.others i (elim out [ inl l ↦ inl l | inr r ↦ inr (omega arith) ]);
    }

pub row_whole : (width : ℕ) (old new : List (Option ℕ)) (node parent done : ℕ) → width ≤ done → IsRowBegun width old new node parent done → done ≤ width → IsRowFilled width old new node parent
row_whole width old new node parent done all begun most = record {
  row = λ k lt. begun.row k (omega arith);
  others = λ a k lt other. begun.others (a * width + k) (outside a node width k done other lt most);
}
