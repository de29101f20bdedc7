-- What obligations are called, by what the tables of classes tell.
use Rattle.std.specs.Prelude.{ℕ, cond, List}
use Rattle.jd_syntax.specs.JavaTrees.{JavaUnit}
use Rattle.jd_jinfos.specs.Infos.{PlainMethodInfo}
use Rattle.jd_case_obligations.specs.Listed.{constructor_text}

-- a method or constructor where it runs for the class
abbrev pub info_text : List JavaUnit → ℕ → PlainMethodInfo → List ℕ
info_text units class info = cond info.constructor (constructor_text units class info.class) info.name
