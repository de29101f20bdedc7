-- Handlers before others.
use Rattle.std.proofs.Common.{◌≡◌, List, [], ◌∷◌, ◌++◌, refl, ap}
use Rattle.jd_syntax.specs.Codes as code
use Rattle.jd_syntax.specs.Codes.{Stmt}
use Rattle.jd_syntax.specs.Names.{Name}
use Rattle.jd_bodies.specs.Codes.{variable}
use Rattle.jd_statement_parts.specs.Catching.{PlainPart, caught_by, chain}

abbrev pub chain_before : Name → List PlainPart → List Stmt → List Stmt
chain_before k [] ss = ss
chain_before k (p ∷ ps) ss = caught_by k p (chain_before k ps ss)

pub chain_whole : (k : Name) (ps : List PlainPart) → chain_before k ps (code.ThrowUnchecked (variable k) ∷ []) ≡ chain k ps
chain_whole k [] = refl
chain_whole k (p ∷ ps) = ap (λ ss. caught_by k p ss) (chain_whole k ps)

pub chain_last : (k : Name) (ps : List PlainPart) (p : PlainPart) (ss : List Stmt) → chain_before k (ps ++ p ∷ []) ss ≡ chain_before k ps (caught_by k p ss)
chain_last k [] p ss = refl
chain_last k (q ∷ ps) p ss = ap (λ rest. caught_by k q rest) (chain_last k ps p ss)
