use Rattle.std.proofs.Common.{List, [], ◌∷◌, ◌++◌, ◌∙◌}
use Rattle.jd_tforms.specs.Heads.{stmt_word}
use Rattle.jd_tforms.specs.declared.heads.StmtHead.{StmtHead}
use Rattle.jd_tforms.specs.declared.heads.StmtHead.TheVariants as heads
use Rattle.jd_twords.proofs.Tables.{beside_words, once}
use Rattle.jd_twords.proofs.heads.stmt_head.Goals as goal

abbrev before_return : List StmtHead
before_return = heads.Set ∷ heads.WriteField ∷ heads.WriteElement ∷ heads.Evaluate ∷ heads.If ∷ heads.While ∷ heads.Block ∷ heads.Break ∷ heads.Catch ∷ heads.Finally ∷ heads.Throw ∷ heads.ThrowUnchecked ∷ []

abbrev behind_return : List StmtHead
behind_return = heads.Frame ∷ heads.Raise ∷ heads.Alloc ∷ heads.Alloc ∷ heads.NewArray ∷ heads.Stop ∷ []

-- `return` and `alloc` have two forms each
pub returns : goal.returns
returns c =
    let w = c.args.word.now in
    c.head_beside.ensures
    ∙ (beside_words stmt_word (before_return ++ (heads.Return ∷ heads.Return ∷ behind_return)) w
    ∙ (once stmt_word before_return heads.Return behind_return w
    ∙ once stmt_word (before_return ++ (heads.Return ∷ heads.Frame ∷ heads.Raise ∷ [])) heads.Alloc (heads.NewArray ∷ heads.Stop ∷ []) w))
