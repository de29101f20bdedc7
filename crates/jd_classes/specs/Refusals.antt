-- When files are refused, and for what.
use Rattle.std.specs.Prelude.{⊤, List}
use Rattle.jd_syntax.specs.JavaTrees.{JavaUnit}
use Rattle.jd_jclasses.specs.Refusals.{IsRefused}
use Rattle.jd_jclasses.specs.Refusals as plain
use Rattle.jd_jheads.specs.declared.refusal.HeadRefusal.{HeadRefusal}
use Rattle.jd_jheads.specs.declared.refusal.HeadRefusal.TheVariants as heads
use Rattle.jd_jclashes.specs.declared.clash.Clash.{Clash}
use Rattle.jd_jclashes.specs.declared.clash.Clash.TheVariants as clashes
use Rattle.jd_classes.specs.declared.refusal.ClassRefusal.{ClassRefusal}
use Rattle.jd_classes.specs.declared.refusal.ClassRefusal.TheVariants as code

abbrev pub head_as : HeadRefusal → ClassRefusal
head_as (heads.DuplicateClass file at) = code.DuplicateClass file at
head_as (heads.UnknownSuper file at) = code.UnknownSuper file at
head_as (heads.CyclicExtends file at) = code.CyclicExtends file at
head_as heads.NoMemory = code.NoMemory

abbrev pub clash_as : Clash → ClassRefusal
clash_as (clashes.DuplicateMember file at) = code.DuplicateMember file at
clash_as (clashes.Hiding file at) = code.Hiding file at
clash_as (clashes.Overload file at) = code.Overload file at
clash_as (clashes.BadOverride file at) = code.BadOverride file at

-- the files are refused for this reason at this place; want of memory says nothing of them
abbrev pub Refuses : List JavaUnit → ClassRefusal → Type 0
Refuses units (code.DuplicateClass file at) = IsRefused units (plain.DuplicateClass file at)
Refuses units (code.UnknownSuper file at) = IsRefused units (plain.UnknownSuper file at)
Refuses units (code.CyclicExtends file at) = IsRefused units (plain.CyclicExtends file at)
Refuses units (code.DuplicateMember file at) = IsRefused units (plain.DuplicateMember file at)
Refuses units (code.Hiding file at) = IsRefused units (plain.Hiding file at)
Refuses units (code.Overload file at) = IsRefused units (plain.Overload file at)
Refuses units (code.BadOverride file at) = IsRefused units (plain.BadOverride file at)
Refuses units code.TooManyClasses = IsRefused units plain.ManyClasses
Refuses units code.TooManyMethods = IsRefused units plain.ManyMethods
Refuses units code.NoMemory = ⊤
