-- What the first clause that says something says.
use Rattle.std.proofs.Common.{◌≡◌, List, ◌∷◌, refl}
use Rattle.std.specs.Option.{unwrap_or}
use Rattle.jd_syntax.specs.SpecTrees as clauses
use Rattle.jd_syntax.specs.SpecTrees.{PlainClause}
use Rattle.jd_specifications.specs.WrittenCases.{behaviour, diverges}
use Rattle.jd_case_heads.specs.Words.{behaviour_in, diverges_in}

pub first_behaviour : (c : PlainClause) (cs : List PlainClause) → behaviour (c ∷ cs) ≡ unwrap_or (behaviour_in c) (behaviour cs)
first_behaviour (clauses.NormalBehavior at) cs = refl
first_behaviour (clauses.ExceptionalBehavior at) cs = refl
first_behaviour c cs = refl

pub first_diverges : (c : PlainClause) (cs : List PlainClause) → diverges (c ∷ cs) ≡ unwrap_or (diverges_in c) (diverges cs)
first_diverges (clauses.Diverges at b) cs = refl
first_diverges c cs = refl
