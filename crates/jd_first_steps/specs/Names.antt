-- The names of the rules.
use Rattle.std.specs.Prelude.{ℕ, List, Option, Some, None, if◌then◌else◌, codes}
use Rattle.std.specs.Str.{bytes_eq}
use Rattle.jd_first_steps.specs.declared.rules.FirstRule.{FirstRule}
use Rattle.jd_first_steps.specs.declared.rules.FirstRule.TheVariants.{Close, CloseTrue, NotLeft, AndLeft, AndRight, ImpRight, EqRefl, SetSimple, FrameReturn, CatchEmpty, EmptyCode, Simplify}

abbrev pub rule_name : FirstRule → List ℕ
rule_name Close = codes "close"
rule_name CloseTrue = codes "closeTrue"
rule_name NotLeft = codes "notLeft"
rule_name AndLeft = codes "andLeft"
rule_name AndRight = codes "andRight"
rule_name ImpRight = codes "impRight"
rule_name EqRefl = codes "eqRefl"
rule_name SetSimple = codes "setSimple"
rule_name FrameReturn = codes "frameReturn"
rule_name CatchEmpty = codes "catchEmpty"
rule_name EmptyCode = codes "emptyCode"
rule_name Simplify = codes "simplify"

-- the rule of a name
abbrev pub rule_named : List ℕ → Option FirstRule
rule_named name =
    if bytes_eq name (codes "close") then Some Close else
    (if bytes_eq name (codes "closeTrue") then Some CloseTrue else
    (if bytes_eq name (codes "notLeft") then Some NotLeft else
    (if bytes_eq name (codes "andLeft") then Some AndLeft else
    (if bytes_eq name (codes "andRight") then Some AndRight else
    (if bytes_eq name (codes "impRight") then Some ImpRight else
    (if bytes_eq name (codes "eqRefl") then Some EqRefl else
    (if bytes_eq name (codes "setSimple") then Some SetSimple else
    (if bytes_eq name (codes "frameReturn") then Some FrameReturn else
    (if bytes_eq name (codes "catchEmpty") then Some CatchEmpty else
    (if bytes_eq name (codes "emptyCode") then Some EmptyCode else
    (if bytes_eq name (codes "simplify") then Some Simplify else None)))))))))))
