-- New names that a step's number makes: `@i1~7` and `#h~7` of the number 7.
use Rattle.std.specs.Prelude.{ℕ, List, ◌++◌, codes}
use Rattle.std.specs.Fmt.{decimal}
use Rattle.jd_base.specs.declared.sort.Sort.{Sort}
use Rattle.jd_syntax.specs.Names.{Name}
use Rattle.jd_model.specs.Tables.{sort_letter}

-- the sign, the letter of the sort, what tells the name apart, `~` and the number
abbrev pub numbered_name : List ℕ → Sort → List ℕ → ℕ → Name
numbered_name sign k middle n = record { text = sign ++ (sort_letter k ++ (middle ++ (codes "~" ++ decimal n))); sort = k }

-- a variable begins with `@`
abbrev pub numbered_variable : Sort → List ℕ → ℕ → Name
numbered_variable k middle n = numbered_name (codes "@") k middle n

-- a constant begins with `#`
abbrev pub numbered_constant : Sort → List ℕ → ℕ → Name
numbered_constant k middle n = numbered_name (codes "#") k middle n
