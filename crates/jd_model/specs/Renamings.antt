-- The terms that names are given one by one, and lists of formulas with names replaced.
use Rattle.std.specs.Prelude.{cond, List, [], ◌∷◌}
use Rattle.jd_syntax.specs.CodeNames.{same_name}
use Rattle.jd_syntax.specs.Names.{Name}
use Rattle.jd_term.specs.Formulas.{PlainFormula}
use Rattle.jd_term.specs.Renamings.{FirstOrder, Renaming, rename}
use Rattle.jd_term.specs.Terms.{PlainTerm}

-- the term that a name is given, the last that has it, else t
abbrev pub look : List Name → List PlainTerm → PlainTerm → Name → PlainTerm
look [] us t x = t
look (y ∷ ys) [] t x = t
look (y ∷ ys) (u ∷ us) t x = look ys us (cond (same_name x y) u t) x

module _ (r : Renaming) where
  abbrev pub rename_all : List PlainFormula → List PlainFormula
  rename_all [] = []
  rename_all (a ∷ l) = rename r a ∷ rename_all l

-- no updates and no modalities
abbrev pub AllFirstOrder : List PlainFormula → Type 0
AllFirstOrder [] = Unit {0}
AllFirstOrder (a ∷ l) = FirstOrder a × AllFirstOrder l
