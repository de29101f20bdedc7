use Rattle.std.proofs.Common.{◌≡◌, length, map, take}
use Rattle.std.specs.List.{flat_map}
use Rattle.jd_lex.specs.View.{tokens_view}
use Rattle.jd_syntax.specs.JavaTrees.{class_view}
use Rattle.jd_jmlparse.specs.Filled.{bare_class, class_blocks}
use Rattle.jd_jmlparse.specs.Filling.{Goes}
use Rattle.jd_jmlparse.proofs.fill.members.fill_classes.Given as goal

abbrev pub invariant-loop-i : goal.invariant-loop-i
invariant-loop-i l =
    (length l.classes ≡ length l.fn.classes)
    × (map bare_class (map class_view l.classes) ≡ map bare_class (map class_view l.fn.classes))
    × Goes (tokens_view l.tokens) l.fn.first (flat_map class_blocks (map class_view (take l.i l.classes))) l.first
