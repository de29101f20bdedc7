use Rattle.std.proofs.Common.{ap, codes, map, ◌∙◌}
use Rattle.jd_bracketed.specs.Tokens.{Close, Open, Word}
use Rattle.jd_written.specs.Written.{Text, write}
use Rattle.jd_script_print.specs.Views.{named_nodes}
use Rattle.jd_script_print.specs.Writing.{put_proofs}
use Rattle.jd_script_print.proofs.FileText.{file_written}
use Rattle.jd_script_print.proofs.whole.print_script.Goals as goal

pub returns : goal.returns
returns c =
    c.into_bytes.ensures
    ∙ ap (λ (t : Text). t.0)
    (c.in_ok-close.ensures
    ∙ ap (λ (t : Text). write t Close)
    (c.in_ok-write_proofs.ensures
    ∙ ap (λ (t : Text). put_proofs t (map named_nodes c.args.proofs.now))
    (c.in_ok-word-2.ensures
    ∙ ap (λ (t : Text). write t (Word (codes "1")))
    (c.in_ok-word.ensures
    ∙ ap (λ (t : Text). write t (Word (codes "jdl"))) (c.in_ok-open.ensures ∙ ap (λ (t : Text). write t Open) c.new-out.ensures)))))
    ∙ file_written c.args.proofs.now
