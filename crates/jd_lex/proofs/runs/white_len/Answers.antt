use Rattle.std.proofs.Common.{◌&&◌, subst, drop, List, ℕ}
use Rattle.std.specs.List.{list_any}
use Rattle.jd_lex.specs.Bytes.{ends_line}
use Rattle.jd_lex.specs.Parts.{Ignored}
use Rattle.jd_lex.specs.Lens.{Head}
use Rattle.jd_lex.proofs.Heads.{white_head}
use Rattle.jd_lex.proofs.runs.white_len.Goals as goal

pub returns : goal.returns
returns c =
    let n = c.run_len-n.result in
    white_head c.args.jml c.args.bytes.now n c.ignored_len.result c.run_len-n.ensures
    (subst (λ (s : List ℕ). Head (Ignored (c.args.jml && list_any ends_line s)) (drop n c.args.bytes.now) c.ignored_len.result) c.split_at.ensures.front (subst (λ (s : List ℕ). Head (Ignored (c.args.jml && list_any ends_line c.split_at.result.0.now)) s c.ignored_len.result) c.split_at.ensures.back c.ignored_len.ensures))
