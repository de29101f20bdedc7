-- A file that is read has nothing that is too high, and one that is too deep has it.
use Rattle.std.proofs.Common.{◌≡◌, ◌↔◌, ℕ, ◌≤◌, ◌<◌, max, List, Option, Some, None, refl, sym, subst, ◌∙◌, arith}
use Rattle.jd_grammar.specs.Grammars.{Forest}
use Rattle.jd_lex.specs.Parts as lexed
use Rattle.jd_syntax.specs.JavaTrees.{JavaUnit}
use Rattle.jd_java_trees.specs.Meaning.{unit_of}
use Rattle.jd_java_proper.specs.Proper.{FaultlessIsProper}
use Rattle.jd_jparse.specs.Parses.{seen, first_unsupported, told, Spells, Reads, IsTooDeep}
use Rattle.jd_java_heights.specs.Heights.{highest_expression, highest_statement}
use Rattle.jd_java_heights.specs.Told.{IsLow, HeightsAreTold}

-- of what is spelled without fault
high_there : FaultlessIsProper → HeightsAreTold → (ts : List lexed.Token) (file : Forest) → Spells ts file
    → ((told ts file).form.high ≡ None) ↔ IsLow file (seen ts)
high_there proper heights ts file h = heights.high file (seen ts) h.derived.tree (proper file (seen ts) h.derived.tree h.faultless)

pub read_low : FaultlessIsProper → HeightsAreTold → (ts : List lexed.Token) (tree : JavaUnit) → Reads ts tree
    → (highest_expression tree ≤ 200) × (highest_statement tree ≤ 200)
read_low proper heights ts tree r =
    subst (λ u. (highest_expression u ≤ 200) × (highest_statement u ≤ 200)) r.is ((high_there proper heights ts r.file r.spelled).0 r.within)

pub low_read : FaultlessIsProper → HeightsAreTold → (ts : List lexed.Token) (file : Forest) → first_unsupported ts ≡ None → Spells ts file
    → IsLow file (seen ts)
    → Reads ts (unit_of file (seen ts))
low_read proper heights ts file none h low = record { supported = none; file = file; spelled = h; within = (high_there proper heights ts file h).1 low; is = refl }

no_some : (n : ℕ) → None ≡ Some n → ⊥
no_some n e = cc

above : (n : ℕ) → (n ≤ 200 → ⊥) → 200 < n
above n never = grind (arith, never)

both_low : (m n : ℕ) → max m n ≤ 200 → (m ≤ 200) × (n ≤ 200)
both_low m n le = (omega (arith, le), omega (arith, le))

not_within : (m n : ℕ) → 200 < max m n → m ≤ 200 → n ≤ 200 → ⊥
not_within m n lt le ln = omega arith

abbrev IsHigh : List lexed.Token → Forest → Type 0
IsHigh ts file = 200 < max (highest_expression (unit_of file (seen ts))) (highest_statement (unit_of file (seen ts)))

pub deep_high : FaultlessIsProper → HeightsAreTold → (ts : List lexed.Token)
    → IsTooDeep ts ↔ ((first_unsupported ts ≡ None) × ((file : Forest) × Spells ts file × IsHigh ts file))
deep_high proper heights ts = (there, back)
  where
    there : IsTooDeep ts → (first_unsupported ts ≡ None) × ((file : Forest) × Spells ts file × IsHigh ts file)
    there d = (
      d.supported,
      (
        d.file,
        d.spelled,
        above (max (highest_expression (unit_of d.file (seen ts))) (highest_statement (unit_of d.file (seen ts))))
            (λ le. no_some d.place (sym ((high_there proper heights ts d.file d.spelled).1 (both_low (highest_expression (unit_of d.file (seen ts))) (highest_statement (unit_of d.file (seen ts))) le)) ∙ d.above)),
      ),
    )

    at_some : first_unsupported ts ≡ None → (file : Forest) → Spells ts file → IsHigh ts file → (o : Option ℕ) → (told ts file).form.high ≡ o
        → IsTooDeep ts
    at_some none file h lt None e =
        let low = (high_there proper heights ts file h).0 e in
        absurd (not_within (highest_expression (unit_of file (seen ts))) (highest_statement (unit_of file (seen ts))) lt low.0 low.1)
    at_some none file h lt (Some at) e = record { supported = none; file = file; spelled = h; place = at; above = e }

    back : (first_unsupported ts ≡ None) × ((file : Forest) × Spells ts file × IsHigh ts file) → IsTooDeep ts
    back (none, (file, h, lt)) = at_some none file h lt (told ts file).form.high refl
