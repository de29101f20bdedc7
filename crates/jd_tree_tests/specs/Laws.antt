-- That matching has tests to go by.
use Rattle.jd_patterns.specs.Bindings.{Tests}

-- exact tests of equality of all that schema variables stand for
abbrev pub TreesAreCompared : Type 0
TreesAreCompared = Tests
