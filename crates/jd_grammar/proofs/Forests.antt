-- Trees side by side, taken apart and put together; a preorder has one tree.
use Rattle.std.proofs.Common.{◌≡◌, ◌≢◌, ℕ, suc, List, [], ◌∷◌, ◌++◌, refl, sym, ap, subst, ◌∙◌, append_assoc}
use Rattle.std.specs.List.{slice_get}
use Rattle.std.proofs.lemmas.Option.{same_Some}
use Rattle.jd_grammar.specs.declared.table.Symbol.{Symbol}
use Rattle.jd_grammar.specs.declared.table.Symbol.TheVariants.{Token, Name}
use Rattle.jd_grammar.specs.Grammars.{Production, Forest, Done, Leaf, Node, yield, preorder, ahead, IsForest}

-- a forest of more symbols, in two
pub split : (g : List Production) (h : Forest) (xs ss : List Symbol) (after : List ℕ) → IsForest g h (xs ++ ss) after → (c : Forest) × (f : Forest) × IsForest g c xs (yield f ++ after) × IsForest g f ss after × (yield h ≡ yield c ++ yield f) × (preorder h ≡ preorder c ++ preorder f)
split g h [] ss after i = (Done, h, tt, i, refl, refl)
split g Done (x ∷ xs) ss after i = absurd i
split g (Leaf k h) (Token j ∷ xs) ss after i =
    let r = split g h xs ss after i.1 in
    (Leaf k r.0, r.1, (i.0, r.2), r.3, ap (λ ys. k ∷ ys) r.4, ap (λ ys. 0 ∷ ys) r.5)
split g (Leaf k h) (Name a ∷ xs) ss after i = absurd i
split g (Node p d h) (Token j ∷ xs) ss after i = absurd i
split g (Node p d h) (Name a ∷ xs) ss after i =
    let r = split g h xs ss after i.5 in
    let same : yield h ++ after ≡ yield r.0 ++ (yield r.1 ++ after) = ap (λ ys. ys ++ after) r.4 ∙ append_assoc (yield r.0) (yield r.1) after in (
      Node p d r.0,
      r.1,
      (i.0, i.1, i.2, subst (λ ys. i.0.unless ≢ ahead (yield d ++ ys)) same i.3, subst (IsForest g d i.0.body) same i.4, r.2),
      r.3,
      ap (λ ys. yield d ++ ys) r.4 ∙ sym (append_assoc (yield d) (yield r.0) (yield r.1)),
      ap (λ ys. suc p ∷ preorder d ++ ys) r.5 ∙ ap (λ ys. suc p ∷ ys) (sym (append_assoc (preorder d) (preorder r.0) (preorder r.1))),
    )

-- two forests side by side
pub join : (g : List Production) (c f : Forest) (xs ss : List Symbol) (after : List ℕ) → IsForest g c xs (yield f ++ after) → IsForest g f ss after → (h : Forest) × IsForest g h (xs ++ ss) after × (yield h ≡ yield c ++ yield f) × (preorder h ≡ preorder c ++ preorder f)
join g Done f [] ss after i j = (f, j, refl, refl)
join g Done f (x ∷ xs) ss after i j = absurd i
join g (Leaf k c) f [] ss after i j = absurd i
join g (Leaf k c) f (Token n ∷ xs) ss after i j =
    let r = join g c f xs ss after i.1 j in
    (Leaf k r.0, (i.0, r.1), ap (λ ys. k ∷ ys) r.2, ap (λ ys. 0 ∷ ys) r.3)
join g (Leaf k c) f (Name a ∷ xs) ss after i j = absurd i
join g (Node p d c) f [] ss after i j = absurd i
join g (Node p d c) f (Token n ∷ xs) ss after i j = absurd i
join g (Node p d c) f (Name a ∷ xs) ss after i j =
    let r = join g c f xs ss after i.5 j in
    let same : yield c ++ (yield f ++ after) ≡ yield r.0 ++ after = sym (append_assoc (yield c) (yield f) after) ∙ ap (λ ys. ys ++ after) (sym r.2) in (
      Node p d r.0,
      (i.0, i.1, i.2, subst (λ ys. i.0.unless ≢ ahead (yield d ++ ys)) same i.3, subst (IsForest g d i.0.body) same i.4, r.1),
      ap (λ ys. yield d ++ ys) r.2 ∙ sym (append_assoc (yield d) (yield c) (yield f)),
      ap (λ ys. suc p ∷ preorder d ++ ys) r.3 ∙ ap (λ ys. suc p ∷ ys) (sym (append_assoc (preorder d) (preorder c) (preorder f))),
    )

-- a list of rules has at most one forest
one_forest : (g : List Production) (f h : Forest) (ss : List Symbol) (after before xs ys : List ℕ) → IsForest g f ss after → IsForest g h ss before → preorder f ++ xs ≡ preorder h ++ ys → (f ≡ h) × (xs ≡ ys)
one_forest g Done Done [] after before xs ys i j e = (refl, e)
one_forest g Done Done (s ∷ ss) after before xs ys i j e = absurd i
one_forest g Done (Leaf k h) [] after before xs ys i j e = absurd j
one_forest g Done (Leaf k h) (s ∷ ss) after before xs ys i j e = absurd i
one_forest g Done (Node q d h) [] after before xs ys i j e = absurd j
one_forest g Done (Node q d h) (s ∷ ss) after before xs ys i j e = absurd i
one_forest g (Leaf k f) h [] after before xs ys i j e = absurd i
one_forest g (Leaf k f) h (Name a ∷ ss) after before xs ys i j e = absurd i
one_forest g (Leaf k f) Done (Token n ∷ ss) after before xs ys i j e = absurd j
one_forest g (Leaf k f) (Leaf l h) (Token n ∷ ss) after before xs ys i j e =
    let same : preorder f ++ xs ≡ preorder h ++ ys = cc in
    let r = one_forest g f h ss after before xs ys i.1 j.1 same in
    (ap (λ x. Leaf x f) (sym i.0 ∙ j.0) ∙ ap (Leaf l) r.0, r.1)
one_forest g (Leaf k f) (Node q d h) (Token n ∷ ss) after before xs ys i j e = absurd j
one_forest g (Node p c f) h [] after before xs ys i j e = absurd i
one_forest g (Node p c f) h (Token n ∷ ss) after before xs ys i j e = absurd i
one_forest g (Node p c f) Done (Name a ∷ ss) after before xs ys i j e = absurd j
one_forest g (Node p c f) (Leaf l h) (Name a ∷ ss) after before xs ys i j e = absurd j
one_forest g (Node p c f) (Node q d h) (Name a ∷ ss) after before xs ys i j e =
    let same : p ≡ q = cc in
    let rest : (preorder c ++ preorder f) ++ xs ≡ (preorder d ++ preorder h) ++ ys = cc in
    let one : j.0 ≡ i.0 = same_Some j.0 i.0 (sym j.1 ∙ (ap (slice_get g) (sym same) ∙ i.1)) in
    let below = one_forest g c d i.0.body (yield f ++ after) (yield h ++ before) (preorder f ++ xs) (preorder h ++ ys) i.4 (subst (λ (r : Production). IsForest g d r.body (yield h ++ before)) one j.4)
    (sym (append_assoc (preorder c) (preorder f) xs) ∙ (rest ∙ append_assoc (preorder d) (preorder h) ys)) in
    let beside = one_forest g f h ss after before xs ys i.5 j.5 below.1 in
    (ap (λ x. Node x c f) same ∙ (ap (λ x. Node q x f) below.0 ∙ ap (Node q d) beside.0), beside.1)

pub one_tree : (g : List Production) (f h : Forest) (ss : List Symbol) (after before : List ℕ) → IsForest g f ss after → IsForest g h ss before → preorder f ≡ preorder h → f ≡ h
one_tree g f h ss after before i j e = (one_forest g f h ss after before [] [] i j (ap (λ xs. xs ++ []) e)).0
