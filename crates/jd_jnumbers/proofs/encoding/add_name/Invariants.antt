use Rattle.std.proofs.Common.{◌≡◌, ◌++◌, drop}
use Rattle.jd_jnumbers.specs.Encoding.{encoded_name}
use Rattle.jd_jnumbers.proofs.encoding.add_name.Given as goal

-- what is made so far, and what the rest adds
abbrev pub invariant-loop-byte : goal.invariant-loop-byte
invariant-loop-byte l = l.text.items ++ encoded_name (drop l.byte-index l.name) ≡ l.fn.text.items ++ encoded_name l.name
