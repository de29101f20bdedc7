-- What the refusals of the two readers tell of the bytes.
use Rattle.std.proofs.Common.{ℕ, zero, suc, ◌-◌, ◌≤◌, List, [], ◌∷◌, length, take, drop, arith}
use Rattle.std.specs.List.{slice_get}
use Rattle.std.specs.Option.{option_map_or}
use Rattle.jd_lex.specs.Parts.{Token}
use Rattle.jd_lex.specs.Places.{AreSlices}
use Rattle.jd_lex.specs.Lexing.{Spells, IsFirstFault}
use Rattle.jd_lex.specs.View as lex
use Rattle.jd_lex.specs.declared.token.LexRefusal.{LexRefusal}
use Rattle.jd_lex.specs.declared.token.LexRefusal.TheVariants as lexical
use Rattle.jd_syntax.specs.JavaTrees.{JavaUnit}
use Rattle.jd_syntax.specs.SpecTrees.{PlainSpecBlock}
use Rattle.jd_jparse.specs.Parses as parses
use Rattle.jd_jparse.specs.Parses.{Reads, end_of}
use Rattle.jd_jparse.specs.declared.refusal.ParseRefusal.{ParseRefusal}
use Rattle.jd_jparse.specs.declared.refusal.ParseRefusal.TheVariants as grammatical
use Rattle.jd_jmlparse.specs.Parses as jml
use Rattle.jd_jmlparse.specs.Filled.{IsNotFilled, HasNoSpec, HasDeepSpec, block_tokens}
use Rattle.jd_source.specs.declared.read.SourceRefusal.TheVariants as refusals
use Rattle.jd_source.specs.Sources.{IsRefused, of_java, of_jml, deep_java, deep_jml}

pub of_text : (bytes : List ℕ) (e : LexRefusal) → lex.Refuses (IsFirstFault bytes) e → IsRefused bytes (refusals.Lexical e)
of_text bytes (lexical.BadByte file at) h = h.1
of_text bytes (lexical.OpenComment file at) h = h.1
of_text bytes (lexical.BigLiteral file at) h = h.1
of_text bytes lexical.NoMemory h = h

-- each token ends within the bytes
ends_at : (bytes : List ℕ) (ts : List Token) (n : ℕ) → AreSlices bytes ts → option_map_or (λ (t : Token). t.ends) (slice_get ts n) 0 ≤ length bytes
ends_at bytes [] n slices = omega (arith)
ends_at bytes (t ∷ ts) zero slices = slices.0.within
ends_at bytes (t ∷ ts) (suc n) slices = ends_at bytes ts n slices.1

-- those of a block are slices too
dropped_slices : (bytes : List ℕ) (n : ℕ) (ts : List Token) → AreSlices bytes ts → AreSlices bytes (drop n ts)
dropped_slices bytes zero ts slices = slices
dropped_slices bytes (suc n) [] slices = slices
dropped_slices bytes (suc n) (t ∷ ts) slices = dropped_slices bytes n ts slices.1

taken_slices : (bytes : List ℕ) (n : ℕ) (ts : List Token) → AreSlices bytes ts → AreSlices bytes (take n ts)
taken_slices bytes zero ts slices = tt
taken_slices bytes (suc n) [] slices = slices
taken_slices bytes (suc n) (t ∷ ts) slices = (slices.0, taken_slices bytes n ts slices.1)

block_ends : (bytes : List ℕ) (ts : List Token) (b : PlainSpecBlock) → AreSlices bytes ts → jml.end_of (block_tokens ts b) ≤ length bytes
block_ends bytes ts b slices =
    let inside = block_tokens ts b in
    ends_at bytes inside (length inside - 1) (taken_slices bytes (b.to - b.from) (drop b.from ts) (dropped_slices bytes b.from ts slices))

not_behind : (at end n : ℕ) → at ≤ end → end ≤ n → at ≤ n
not_behind at end n one other = omega (arith, one, other)

pub of_tokens : (bytes : List ℕ) (ts : List Token) (e : ParseRefusal) → Spells bytes ts → AreSlices bytes ts → parses.Refuses ts e → IsRefused bytes (refusals.Grammatical e)
of_tokens bytes ts (grammatical.Syntax file at) spelled slices h =
    (record { tokens = ts; spelled = spelled; holds = of_java h.1 h.3 }, not_behind at (end_of ts) (length bytes) h.2 (ends_at bytes ts (length ts - 1) slices))
of_tokens bytes ts (grammatical.Unsupported file at what) spelled slices h = record { tokens = ts; spelled = spelled; holds = h.1 }
of_tokens bytes ts (grammatical.TooDeep file at) spelled slices h =
    (record { tokens = ts; spelled = spelled; holds = deep_java h.1 }, not_behind at (end_of ts) (length bytes) h.2 (ends_at bytes ts (length ts - 1) slices))
of_tokens bytes ts grammatical.NoMemory spelled slices h = h

abbrev no_spec : (ts : List Token) (java : JavaUnit) (file at : ℕ) → IsNotFilled ts java (grammatical.Syntax file at) → HasNoSpec ts java
no_spec ts java file at h = record { before = h.before; behind = h.behind; block = h.block; blocks = h.blocks; read = h.read; refused = h.refused.1 }

deep_spec : (ts : List Token) (java : JavaUnit) (file at : ℕ) → IsNotFilled ts java (grammatical.TooDeep file at) → HasDeepSpec ts java
deep_spec ts java file at h = record { before = h.before; behind = h.behind; block = h.block; blocks = h.blocks; read = h.read; refused = h.refused.1 }

-- the first JML that is refused
pub of_specs : (bytes : List ℕ) (ts : List Token) (java : JavaUnit) (e : ParseRefusal) → Spells bytes ts → AreSlices bytes ts → Reads ts java → IsNotFilled ts java e → IsRefused bytes (refusals.Grammatical e)
of_specs bytes ts java (grammatical.Syntax file at) spelled slices read h =
    (record { tokens = ts; spelled = spelled; holds = of_jml java read (no_spec ts java file at h) h.refused.3 }, not_behind at (jml.end_of (block_tokens ts h.block)) (length bytes) h.refused.2 (block_ends bytes ts h.block slices))
of_specs bytes ts java (grammatical.Unsupported file at what) spelled slices read h = absurd h.refused
of_specs bytes ts java (grammatical.TooDeep file at) spelled slices read h =
    (record { tokens = ts; spelled = spelled; holds = deep_jml java read (deep_spec ts java file at h) }, not_behind at (jml.end_of (block_tokens ts h.block)) (length bytes) h.refused.2 (block_ends bytes ts h.block slices))
of_specs bytes ts java grammatical.NoMemory spelled slices read h = h
