-- What trees stand for, where each node stands for a value made of its production, its tokens and what the nodes right below it stand for.
use Rattle.std.specs.Prelude.{◌≡◌, ℕ, zero, suc, ◌+◌, List, [], ◌∷◌, Some, length, take, drop}
use Rattle.std.specs.List.{slice_get}
use Rattle.jd_grammar.specs.declared.table.Symbol.{Symbol}
use Rattle.jd_grammar.specs.declared.table.Symbol.TheVariants.{Token, Name}
use Rattle.jd_grammar.specs.Grammars.{Production, Forest, Done, Leaf, Node, yield}

-- the values of the nodes among trees side by side; `ts` are the tokens from their first one on
abbrev pub values : {T V : Type 0} → (ℕ → List T → List V → V) → Forest → List T → List V
values make Done ts = []
values make (Leaf k f) ts = values make f (drop 1 ts)
values make (Node p c f) ts = make p ts (values make c ts) ∷ values make f (drop (length (yield c)) ts)

-- the same from a preorder, from its end
abbrev pub evaluated : {T V : Type 0} → (ℕ → List T → List V → V) → (ℕ → ℕ) → List ℕ → List T → List V
evaluated make arity [] ts = []
evaluated make arity (zero ∷ es) ts = evaluated make arity es (drop 1 ts)
evaluated make arity (suc p ∷ es) ts =
    make p ts (take (arity p) (evaluated make arity es ts)) ∷ drop (arity p) (evaluated make arity es ts)

abbrev pub name_count : List Symbol → ℕ
name_count [] = 0
name_count (Token k ∷ ss) = name_count ss
name_count (Name a ∷ ss) = 1 + name_count ss

-- the values that each production's node takes are those of its names
abbrev pub AritiesFit : List Production → (ℕ → ℕ) → Type 0
AritiesFit g arity = (p : ℕ) (r : Production) → slice_get g p ≡ Some r → arity p ≡ name_count r.body
