-- What the bytes of a text form are.
use Rattle.std.specs.Prelude.{ℕ, Bool, true, false, nat_lt, cond, ◌==◌, ◌&&◌, ◌||◌}
use Rattle.jd_bracketed.specs.declared.class.Class.{Class}
use Rattle.jd_bracketed.specs.declared.class.Class.TheVariants.{Blank, InComment, Alone, Part}

-- space, tab, carriage return, line feed
abbrev pub is_blank : ℕ → Bool
is_blank b = (b == 32) || (b == 9) || (b == 13) || (b == 10)

-- round and square brackets
abbrev pub is_bracket : ℕ → Bool
is_bracket b = (b == 40) || (b == 41) || (b == 91) || (b == 93)

-- the printing bytes of ASCII but the space
abbrev pub is_printing : ℕ → Bool
is_printing b = nat_lt 32 b && nat_lt b 127

-- What a byte is, inside a comment or outside. A comment begins with a semicolon and ends at the line's end; a byte that is
-- not of ASCII is a token by itself there too.
abbrev pub class_in : Bool → ℕ → Class
class_in true b = cond (b == 10) Blank (cond (nat_lt 127 b) Alone InComment)
class_in false b =
    cond (is_blank b) Blank
    (cond (b == 59) InComment
    (cond (is_bracket b) Alone
    (cond (is_printing b) Part Alone)))

abbrev pub is_part : Class → Bool
is_part Blank = false
is_part InComment = false
is_part Alone = false
is_part Part = true

-- whether words are made of the byte
abbrev pub is_word_byte : ℕ → Bool
is_word_byte b = is_part (class_in false b)
