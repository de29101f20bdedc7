-- Plain bracketed expressions, and their view.
use Rattle.std.specs.Prelude.{ℕ, List, [], ◌∷◌}
use Rattle.jd_syntax.specs.declared.sx.Sx.{Sx}
use Rattle.jd_syntax.specs.declared.sx.Sx.TheOpen as layer
use Rattle.jd_syntax.specs.declared.sx.Sx.TheFolds.{fold-Sx}

mutual
  pub data Bracketed : Type 0 where
    Atom : List ℕ → Bracketed
    Brackets : BracketedList → Bracketed

  pub data BracketedList : Type 0 where
    NoneBracketed : BracketedList
    BracketedThen : Bracketed → BracketedList → BracketedList

abbrev pub bracketed_list : List Bracketed → BracketedList
bracketed_list [] = NoneBracketed
bracketed_list (x ∷ xs) = BracketedThen x (bracketed_list xs)

abbrev pub sx_layer : layer.Sx-F Bracketed → Bracketed
sx_layer (layer.Atom v) = Atom v.items
sx_layer (layer.List v) = Brackets (bracketed_list v.items)

abbrev pub sx_view : Sx → Bracketed
sx_view = fold-Sx Bracketed sx_layer
