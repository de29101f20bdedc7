-- Which fault is the first, where an escape may stand before another.
use Rattle.std.proofs.Common.{◌≡◌, inl, inr, ℕ, ◌<◌, ◌≤◌, Bool, true, false, cond, nat_le, List, refl, sym, ap, subst, le_of_eq, arith}
use Rattle.std.proofs.lemmas.Bool.{cases_lt}
use Rattle.std.proofs.lemmas.Bool.Decides.{nat_tests}
use Rattle.jd_lex.specs.Parts.{Token, Fault, BadByte, OpenComment, BigLiteral, place}
use Rattle.jd_lex.specs.Lexing.{Whole, Stops, IsJavaPart, IsJavaFault, IsEscape, HasFault, IsFirstFault, Spells}
use Rattle.jd_lex.specs.View.{Refuses, earlier_of}
use Rattle.jd_lex.specs.declared.token.LexRefusal.{LexRefusal}
use Rattle.jd_lex.specs.declared.token.LexRefusal.TheVariants as refusals
use Rattle.jd_lex.proofs.Rows.{one_stop, not_both}
use Rattle.jd_lex.proofs.Once.{one_java_part, one_java_fault}
use Rattle.jd_lex.proofs.Steps.{refuses_more}

-- no escape stands before that place
abbrev NoneBefore : List ℕ → ℕ → Type 0
NoneBefore bytes at = (k : ℕ) → k < at → IsEscape bytes k → ⊥

not_before : (bytes : List ℕ) (at k : ℕ) → NoneBefore bytes at → IsEscape bytes k → at ≤ k
not_before bytes at k none e = elim (cases_lt k at) [ inl lt ↦ absurd (none k lt e) | inr le ↦ le ]

escape_place : (bytes : List ℕ) (at : ℕ) (f : Fault) → NoneBefore bytes at → (k : ℕ) → IsEscape bytes k → f ≡ BadByte k → at ≤ place f
escape_place bytes at f none k e is = subst (λ n. at ≤ n) (sym (ap place is)) (not_before bytes at k none e)

pub escape_first : (bytes : List ℕ) (xs : List Token) (at : ℕ) → Whole IsJavaPart 0 bytes xs → IsEscape bytes at → NoneBefore bytes at → IsFirstFault bytes (BadByte at)
escape_first bytes xs at w e none = record { there = inr (at, e, refl); first = first }
  where
    first : (other : Fault) → HasFault bytes other → at ≤ place other
    first other (inl s) = absurd (not_both IsJavaPart one_java_part IsJavaFault one_java_fault 0 bytes xs other w s)
    first other (inr (k, e', is)) = escape_place bytes at other none k e' is

-- a fault at or before the first escape
stop_first : (bytes : List ℕ) (f : Fault) → Stops IsJavaPart IsJavaFault 0 bytes f → ((k : ℕ) → IsEscape bytes k → place f ≤ k) → IsFirstFault bytes f
stop_first bytes f s h = record { there = inl s; first = first }
  where
    first : (other : Fault) → HasFault bytes other → place f ≤ place other
    first other (inl s') = le_of_eq (ap place (one_stop IsJavaPart one_java_part IsJavaFault one_java_fault 0 bytes f other s s'))
    first other (inr (k, e, is)) = subst (λ n. place f ≤ n) (sym (ap place is)) (h k e)

-- an escape before the other fault
before_stop : (bytes : List ℕ) (f : Fault) (at : ℕ) → Stops IsJavaPart IsJavaFault 0 bytes f → at ≤ place f → IsEscape bytes at → NoneBefore bytes at → IsFirstFault bytes (BadByte at)
before_stop bytes f at s le e none = record { there = inr (at, e, refl); first = first }
  where
    first : (other : Fault) → HasFault bytes other → at ≤ place other
    first other (inl s') = subst (λ n. at ≤ n) (ap place (one_stop IsJavaPart one_java_part IsJavaFault one_java_fault 0 bytes f other s s')) le
    first other (inr (k, e', is)) = escape_place bytes at other none k e' is

pub plain_first : (bytes : List ℕ) (e : LexRefusal) → Refuses (Stops IsJavaPart IsJavaFault 0 bytes) e → ((k : ℕ) → IsEscape bytes k → ⊥) → Refuses (IsFirstFault bytes) e
plain_first bytes e h none = refuses_more (Stops IsJavaPart IsJavaFault 0 bytes) (IsFirstFault bytes) (λ f s. stop_first bytes f s (λ k esc. absurd (none k esc))) e h

module _ (bytes : List ℕ) (at : ℕ) (esc : IsEscape bytes at) (none : NoneBefore bytes at) where
  low : (n k : ℕ) → nat_le n at ≡ true → IsEscape bytes k → n ≤ k
  low n k t e = let le = not_before bytes at k none e in let m : n ≤ at = grind (arith, nat_tests, t) in omega (arith, le, m)

  high : (n : ℕ) → nat_le n at ≡ false → at ≤ n
  high n t = grind (arith, nat_tests, t)

  choose : (n : ℕ) (mine : LexRefusal) (f : Fault) → place f ≡ n → (IsFirstFault bytes f → Refuses (IsFirstFault bytes) mine) → Stops IsJavaPart IsJavaFault 0 bytes f
      → (t : Bool) → nat_le n at ≡ t → Refuses (IsFirstFault bytes) (cond t mine (refusals.BadByte 0 at))
  choose n mine f is same s true t = same (stop_first bytes f s (λ k e. subst (λ m. m ≤ k) (sym is) (low n k t e)))
  choose n mine f is same s false t = (refl, before_stop bytes f at s (subst (λ m. at ≤ m) (sym is) (high n t)) esc none)

  pub earlier_first : (e : LexRefusal) → Refuses (Stops IsJavaPart IsJavaFault 0 bytes) e → Refuses (IsFirstFault bytes) (earlier_of e at)
  earlier_first (refusals.BadByte file n) s = choose n (refusals.BadByte file n) (BadByte n) refl (λ h. (s.0, h)) s.1 (nat_le n at) refl
  earlier_first (refusals.OpenComment file n) s = choose n (refusals.OpenComment file n) (OpenComment n) refl (λ h. (s.0, h)) s.1 (nat_le n at) refl
  earlier_first (refusals.BigLiteral file n) s = choose n (refusals.BigLiteral file n) (BigLiteral n) refl (λ h. (s.0, h)) s.1 (nat_le n at) refl
  earlier_first refusals.NoMemory s = tt

pub spelled_or_fault : (bytes : List ℕ) (xs : List Token) (f : Fault) → Spells bytes xs → HasFault bytes f → ⊥
spelled_or_fault bytes xs f h (inl s) = not_both IsJavaPart one_java_part IsJavaFault one_java_fault 0 bytes xs f h.parts s
spelled_or_fault bytes xs f h (inr (k, e, is)) = h.plain k e
