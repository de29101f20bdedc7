-- What is read at a place has no expression that is too high, and what is too deep has one.
use Rattle.std.proofs.Common.{◌≡◌, ◌↔◌, ℕ, ◌≤◌, ◌<◌, true, List, Option, Some, None, refl, sym, subst, ◌∙◌, arith}
use Rattle.jd_grammar.specs.Grammars.{Forest}
use Rattle.jd_lex.specs.Parts as lexed
use Rattle.jd_syntax.specs.SpecTrees.{PlainClause}
use Rattle.jd_syntax.specs.declared.spec.SpecPlace.{SpecPlace}
use Rattle.jd_syntax.specs.declared.spec.SpecPlace.TheVariants.{Field, Method, Modifier, Loop, ClassEnd}
use Rattle.jd_jml_grammar.specs.Jml.{is_place}
use Rattle.jd_jml_tokens.specs.Lexemes.{lexemes_of}
use Rattle.jd_jml_proper.specs.Proper.{FaultlessIsProper}
use Rattle.jd_jmlparse.specs.Places.{name_of}
use Rattle.jd_jmlparse.specs.Parses.{told, Spells, Reads, IsTooDeep}
use Rattle.jd_jml_heights.specs.Heights.{highest}
use Rattle.jd_jml_heights.specs.Told.{HeightsAreTold}
use Rattle.jd_jml_heights.specs.ReadHeights.{clauses_in}

at_place : (place : SpecPlace) → is_place (name_of place) ≡ true
at_place Field = refl
at_place Method = refl
at_place Modifier = refl
at_place Loop = refl
at_place ClassEnd = refl

-- of what is spelled without fault
high_there : FaultlessIsProper → HeightsAreTold → (place : SpecPlace) (ts : List lexed.Token) (tree : Forest) → Spells place ts tree
    → ((told ts tree).high ≡ None) ↔ (highest (clauses_in ts tree) ≤ 200)
high_there proper heights place ts tree h =
    heights.high tree (name_of place) (lexemes_of ts) (at_place place) h.derived.tree (proper tree (name_of place) (lexemes_of ts) h.derived.tree h.faultless)

pub read_low : FaultlessIsProper → HeightsAreTold → (place : SpecPlace) (ts : List lexed.Token) (cs : List PlainClause) → Reads place ts cs
    → highest cs ≤ 200
read_low proper heights place ts cs h = subst (λ ds. highest ds ≤ 200) h.is ((high_there proper heights place ts h.tree h.spelled).0 h.within)

pub low_read : FaultlessIsProper → HeightsAreTold → (place : SpecPlace) (ts : List lexed.Token) (tree : Forest) → Spells place ts tree
    → highest (clauses_in ts tree) ≤ 200 → Reads place ts (clauses_in ts tree)
low_read proper heights place ts tree h le = record { tree = tree; spelled = h; within = (high_there proper heights place ts tree h).1 le; is = refl }

no_some : (n : ℕ) → None ≡ Some n → ⊥
no_some n e = cc

above : (n : ℕ) → (n ≤ 200 → ⊥) → 200 < n
above n never = grind (arith, never)

not_within : (n : ℕ) → 200 < n → n ≤ 200 → ⊥
not_within n lt le = omega arith

pub deep_high : FaultlessIsProper → HeightsAreTold → (place : SpecPlace) (ts : List lexed.Token)
    → IsTooDeep place ts ↔ ((tree : Forest) × Spells place ts tree × (200 < highest (clauses_in ts tree)))
deep_high proper heights place ts = (there, back)
  where
    there : IsTooDeep place ts → (tree : Forest) × Spells place ts tree × (200 < highest (clauses_in ts tree))
    there d = (
      d.tree,
      d.spelled,
      above (highest (clauses_in ts d.tree)) (λ le. no_some d.at (sym ((high_there proper heights place ts d.tree d.spelled).1 le) ∙ d.above)),
    )

    at_some : (tree : Forest) → Spells place ts tree → 200 < highest (clauses_in ts tree) → (o : Option ℕ) → (told ts tree).high ≡ o → IsTooDeep place ts
    at_some tree h lt None e = absurd (not_within (highest (clauses_in ts tree)) lt ((high_there proper heights place ts tree h).0 e))
    at_some tree h lt (Some at) e = record { tree = tree; spelled = h; at = at; above = e }

    back : (tree : Forest) × Spells place ts tree × (200 < highest (clauses_in ts tree)) → IsTooDeep place ts
    back (tree, h, lt) = at_some tree h lt (told ts tree).high refl
