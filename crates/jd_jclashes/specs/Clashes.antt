-- When files are refused for a member.
use Rattle.std.specs.Prelude.{ℕ, List}
use Rattle.jd_syntax.specs.JavaTrees.{JavaUnit}
use Rattle.jd_jclasses.specs.Refusals.{BadOverrideAt, DuplicateMemberAt, HidingAt, IsRefused, OverloadAt}
use Rattle.jd_jclasses.specs.Refusals as plain
use Rattle.jd_jclashes.specs.declared.clash.Clash.{Clash}
use Rattle.jd_jclashes.specs.declared.clash.Clash.TheVariants as code
use Rattle.jd_jclashes.specs.declared.reason.Reason.{Reason}
use Rattle.jd_jclashes.specs.declared.reason.Reason.TheVariants.{SecondMember, Hidden, Overloaded, BadlyOverridden}

-- the files are refused for this reason at this place
abbrev pub ClashRefuses : List JavaUnit → Clash → Type 0
ClashRefuses units (code.DuplicateMember file at) = IsRefused units (plain.DuplicateMember file at)
ClashRefuses units (code.Hiding file at) = IsRefused units (plain.Hiding file at)
ClashRefuses units (code.Overload file at) = IsRefused units (plain.Overload file at)
ClashRefuses units (code.BadOverride file at) = IsRefused units (plain.BadOverride file at)

-- ---- reasons one by one

-- the reason holds of the member at this place
abbrev pub holds_at : List JavaUnit → Reason → ℕ → Type 0
holds_at units SecondMember = DuplicateMemberAt units
holds_at units Hidden = HidingAt units
holds_at units Overloaded = OverloadAt units
holds_at units BadlyOverridden = BadOverrideAt units

abbrev pub clash_of : Reason → ℕ → ℕ → Clash
clash_of SecondMember file at = code.DuplicateMember file at
clash_of Hidden file at = code.Hiding file at
clash_of Overloaded file at = code.Overload file at
clash_of BadlyOverridden file at = code.BadOverride file at
