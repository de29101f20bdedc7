-- Which jumps are asked for, and the labels before a statement.
use Rattle.std.specs.Prelude.{ℕ, Bool, true, false, ◌||◌, List, [], ◌∷◌}
use Rattle.jd_syntax.specs.JavaTrees.{JavaStmt}
use Rattle.jd_bodies.specs.Jumps as plain
use Rattle.jd_effect_code.specs.declared.jumps.Asked.{Asked}
use Rattle.jd_effect_code.specs.declared.jumps.Labels.{Labels, fold-Labels}
use Rattle.jd_effect_code.specs.declared.jumps.Labels.TheOpen.{Labels-F}

abbrev pub labels_of : Bool → List ℕ → List (List ℕ)
labels_of true l = l ∷ []
labels_of false l = []

abbrev pub asked_view : Asked → plain.Asked
asked_view a = record { repeats = a.repeats; plain = a.plain; labels = labels_of a.labelled a.label.now }

-- those of `continue`
abbrev pub asking : Bool → List (List ℕ) → plain.Asked
asking plain ls = record { repeats = true; plain = plain; labels = ls }

abbrev pub one_label : List ℕ → List (List ℕ)
one_label l = l ∷ []

-- what is asked of several labels is asked of each
abbrev pub any_repeats : JavaStmt → List (List ℕ) → Bool
any_repeats t [] = plain.jumps t (asking true [])
any_repeats t (l ∷ ls) = plain.jumps t (asking false (one_label l)) || any_repeats t ls

abbrev pub labels_layer : Labels-F (List (List ℕ)) → List (List ℕ)
labels_layer Labels-F.Nothing = []
labels_layer (Labels-F.Then others l) = l.now ∷ others.now

-- the last one first
abbrev pub label_texts : Labels → List (List ℕ)
label_texts = fold-Labels (List (List ℕ)) labels_layer
