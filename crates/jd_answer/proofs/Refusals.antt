-- The line for a Java file that is refused.
use Rattle.std.proofs.Common.{◌≡◌, ℕ, List, ◌++◌, [], ◌∷◌, codes, Option, Some, None, ap, ◌∙◌, append_assoc}
use Rattle.std.specs.Prelude.{MatchOption}
use Rattle.jd_source.specs.Sources.{Reason}
use Rattle.jd_answer.specs.Reports.{line, reason_text, refusal_text}

-- a token's text behind a blank
pub named_last : (old placed what one two three : List ℕ) → one ≡ old ++ placed → two ≡ one ++ (32 ∷ []) → three ≡ two ++ what → three ≡ old ++ (placed ++ (32 ∷ what))
named_last old placed what one two three first second third =
    third ∙ ap (λ x. x ++ what) (second ∙ ap (λ x. x ++ (32 ∷ [])) first) ∙ simp append_assoc

-- a line that is built part by part
pub line_of_parts : (name why a b c d e : List ℕ) → a ≡ codes "refused " → b ≡ a ++ name → c ≡ b ++ (32 ∷ []) → d ≡ c ++ why → e ≡ d ++ (10 ∷ []) → e ≡ line (codes "refused " ++ (name ++ (32 ∷ why)))
line_of_parts name why a b c d e first second third fourth fifth =
    fifth ∙ ap (λ x. x ++ (10 ∷ [])) (fourth ∙ ap (λ x. x ++ why) (third ∙ ap (λ x. x ++ (32 ∷ [])) (second ∙ ap (λ x. x ++ name) first))) ∙ simp append_assoc

pub told : (o : Option Reason) (name a b c d e : List ℕ) → a ≡ codes "refused " → b ≡ a ++ name → c ≡ b ++ (32 ∷ []) → MatchOption o ⊥ (λ r. d ≡ c ++ reason_text r) → e ≡ d ++ (10 ∷ []) → MatchOption o ⊥ (λ r. e ≡ refusal_text name r)
told (Some r) name a b c d e first second third fourth fifth = line_of_parts name (reason_text r) a b c d e first second third fourth fifth
told None name a b c d e first second third fourth fifth = fourth
