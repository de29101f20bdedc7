-- There are as many entries as classes.
use Rattle.std.proofs.Common.{◌≡◌, ◌+◌, ℕ, List, [], ◌∷◌, suc, length, refl, sym, ap, ◌∙◌}
use Rattle.std.proofs.lemmas.List.{length-map}
use Rattle.std.specs.List.{enumerate_from}
use Rattle.jd_syntax.specs.JavaTrees.{JavaUnit}
use Rattle.jd_jclasses.specs.Classes.{DeclaredClass, class_names, declared_classes, parent_by, parents, prelude_count}
use Rattle.jd_jinfos.specs.Infos.{class_infos, declared_info}

numbered : {X : Type 0} (n : ℕ) (xs : List X) → length (enumerate_from n xs) ≡ length xs
numbered n [] = refl
numbered n (x ∷ xs) = ap suc (numbered (n + 1) xs)

pub as_many : (units : List JavaUnit) → length (class_infos units) ≡ length (parents units)
as_many units =
    ap (λ k. suc (suc (suc (suc (suc (suc (suc (suc (suc (suc k))))))))))
    (length-map (enumerate_from prelude_count (declared_classes units)) (declared_info units) ∙ numbered prelude_count (declared_classes units)
    ∙ sym (length-map (declared_classes units) (λ (d : DeclaredClass). parent_by (class_names units) d.tree.parent)))
