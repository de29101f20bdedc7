-- What the code's states stand for.
use Rattle.std.specs.Prelude.{◌≡◌, map, reverse, Result, Ok, Err}
use Rattle.jd_syntax.specs.Sxs.{sx_view}
use Rattle.jd_bracketed.specs.Readings as plain
use Rattle.jd_bracketed.specs.Readings.{State, Fault, WrongToken, TooManyLevels}
use Rattle.jd_bracketed.specs.declared.reading.Reading.{Reading}
use Rattle.jd_bracketed.specs.declared.reading.Reading.TheVariants as states
use Rattle.jd_bracketed.specs.declared.reading.Stop.{Stop}
use Rattle.jd_bracketed.specs.declared.reading.Stop.TheVariants as stops

abbrev pub reading_view : Reading → State
reading_view states.Before = plain.Before
reading_view (states.Inside parts around) = plain.Inside (map sx_view parts.items) (reverse (map (λ v. map sx_view v.items) around.items))
reading_view (states.Whole x) = plain.Whole (sx_view x)

abbrev pub Stops : Stop → Result State Fault → Type 0
Stops stops.Syntax r = r ≡ Err WrongToken
Stops stops.TooDeep r = r ≡ Err TooManyLevels
Stops stops.NoMemory r = Unit {0}

-- the code's step gives what the plain one does, or memory ran out
abbrev pub StepGives : Result Reading Stop → Result State Fault → Type 0
StepGives (Ok s) r = r ≡ Ok (reading_view s)
StepGives (Err e) r = Stops e r
