-- What nodes stand for, without places.
use Rattle.std.proofs.Common.{◌≡◌, ℕ, zero, suc, List, [], ◌∷◌, map, drop, length, refl, ap, ◌∙◌}
use Rattle.jd_grammar.specs.Grammars.{Forest, Done, Leaf, Node, yield}
use Rattle.jd_grammar.specs.Folds.{values}
use Rattle.jd_grammar.specs.Nodes.{all_of, filled}
use Rattle.jd_grammar.specs.declared.piles.NodeParts.{NodeParts}
use Rattle.jd_jml_tokens.specs.Lexemes.{PlainLexeme, place_of, text_of, number_of}
use Rattle.jd_jml_values.specs.Values as values
use Rattle.jd_jml_values.specs.Values.{PlainSuffix, PlainStart, PlainEnd, PlainValue}
use Rattle.jd_jml_places.specs.Unplaced.{unplaced_lexeme, unplaced_name, unplaced_written, unplaced_type, unplaced_spec, unplaced_location, unplaced_clause}

-- ---- equations in several places

pub two : {A B C : Type 0} (f : A → B → C) {a a' : A} {b b' : B} → a ≡ a' → b ≡ b' → f a b ≡ f a' b'
two f {a} {a'} {b} {b'} e g = ap (λ x. f x b) e ∙ ap (f a') g

pub three : {A B C D : Type 0} (f : A → B → C → D) {a a' : A} {b b' : B} {c c' : C} → a ≡ a' → b ≡ b' → c ≡ c' → f a b c ≡ f a' b' c'
three f {a} {a'} {b} {b'} {c} {c'} e g h = ap (λ x. f x b c) e ∙ two (f a') g h

pub four : {A B C D E : Type 0} (f : A → B → C → D → E) {a a' : A} {b b' : B} {c c' : C} {d d' : D} → a ≡ a' → b ≡ b' → c ≡ c' → d ≡ d' → f a b c d ≡ f a' b' c' d'
four f {a} {a'} {b} {b'} {c} {c'} {d} {d'} e g h i = ap (λ x. f x b c d) e ∙ three (f a') g h i

-- ---- values

abbrev pub unplaced_suffix : PlainSuffix → PlainSuffix
unplaced_suffix (values.Infix o e) = values.Infix o (unplaced_spec e)
unplaced_suffix (values.InstanceOf t) = values.InstanceOf (unplaced_written t)
unplaced_suffix (values.Choice a b) = values.Choice (unplaced_spec a) (unplaced_spec b)
unplaced_suffix (values.Implies e) = values.Implies (unplaced_spec e)
unplaced_suffix (values.Equivalent e) = values.Equivalent (unplaced_spec e)
unplaced_suffix (values.Member x) = values.Member (unplaced_name x)
unplaced_suffix (values.Method x es) = values.Method (unplaced_name x) (map unplaced_spec es)
unplaced_suffix (values.Element e) = values.Element (unplaced_spec e)

abbrev pub unplaced_start : PlainStart → PlainStart
unplaced_start (values.Inside e) = values.Inside (unplaced_spec e)
unplaced_start (values.Cast t e) = values.Cast (unplaced_written t) (unplaced_spec e)
unplaced_start (values.Quantified q t x e) = values.Quantified q (unplaced_type t) (unplaced_name x) (unplaced_spec e)
unplaced_start (values.QuantifiedIn q t x r e) = values.QuantifiedIn q (unplaced_type t) (unplaced_name x) (unplaced_spec r) (unplaced_spec e)
unplaced_start (values.Sum x a b e) = values.Sum (unplaced_name x) (unplaced_spec a) (unplaced_spec b) (unplaced_spec e)

abbrev pub unplaced_end : PlainEnd → PlainEnd
unplaced_end (values.FieldEnd x) = values.FieldEnd (unplaced_name x)
unplaced_end values.AllFieldsEnd = values.AllFieldsEnd
unplaced_end (values.ElementEnd i) = values.ElementEnd (unplaced_spec i)
unplaced_end (values.RangeEnd i j) = values.RangeEnd (unplaced_spec i) (unplaced_spec j)
unplaced_end values.AllElementsEnd = values.AllElementsEnd

abbrev pub unplaced_suffixes : List PlainSuffix → List PlainSuffix
unplaced_suffixes ss = map unplaced_suffix ss

abbrev pub unplaced_value : PlainValue → PlainValue
unplaced_value values.Nothing = values.Nothing
unplaced_value (values.Expression e) = values.Expression (unplaced_spec e)
unplaced_value (values.Suffixes ss) = values.Suffixes (unplaced_suffixes ss)
unplaced_value (values.Started s ss) = values.Started (unplaced_start s) (unplaced_suffixes ss)
unplaced_value (values.ArrayOperand e) = values.ArrayOperand (unplaced_spec e)
unplaced_value (values.Expressions es) = values.Expressions (map unplaced_spec es)
unplaced_value (values.Named x) = values.Named (unplaced_name x)
unplaced_value (values.Typed t) = values.Typed (unplaced_written t)
unplaced_value values.Dimension = values.Dimension
unplaced_value values.BigInteger = values.BigInteger
unplaced_value (values.Steps ss end) = values.Steps (unplaced_suffixes ss) (unplaced_end end)
unplaced_value (values.Invoked es ss end) = values.Invoked (map unplaced_spec es) (unplaced_suffixes ss) (unplaced_end end)
unplaced_value (values.Bound e) = values.Bound (unplaced_spec e)
unplaced_value (values.Locations ls) = values.Locations (map unplaced_location ls)
unplaced_value (values.Clauses cs) = values.Clauses (map unplaced_clause cs)
unplaced_value (values.Names xs) = values.Names (map unplaced_name xs)

abbrev pub unplaced_parts : NodeParts PlainValue → NodeParts PlainValue
unplaced_parts parts = record { first = unplaced_value parts.first; second = unplaced_value parts.second; third = unplaced_value parts.third; fourth = unplaced_value parts.fourth }

pub parts_apart : (vs : List PlainValue) → unplaced_parts (filled (all_of values.Nothing) vs) ≡ filled (all_of values.Nothing) (map unplaced_value vs)
parts_apart [] = refl
parts_apart (a ∷ []) = refl
parts_apart (a ∷ b ∷ []) = refl
parts_apart (a ∷ b ∷ c ∷ []) = refl
parts_apart (a ∷ b ∷ c ∷ d ∷ vs) = refl

-- ---- the first tokens

abbrev pub unplaced : List PlainLexeme → List PlainLexeme
unplaced ts = map unplaced_lexeme ts

pub place_apart : (n : ℕ) (ts : List PlainLexeme) → 0 ≡ place_of n (unplaced ts)
place_apart n [] = refl
place_apart zero (t ∷ ts) = refl
place_apart (suc n) (t ∷ ts) = place_apart n ts

pub text_apart : (ts : List PlainLexeme) → text_of ts ≡ text_of (unplaced ts)
text_apart [] = refl
text_apart (t ∷ ts) = refl

pub number_apart : (ts : List PlainLexeme) → number_of ts ≡ number_of (unplaced ts)
number_apart [] = refl
number_apart (t ∷ ts) = refl

-- ---- folds

drop_apart : (n : ℕ) (ts : List PlainLexeme) → unplaced (drop n ts) ≡ drop n (unplaced ts)
drop_apart zero ts = refl
drop_apart (suc n) [] = refl
drop_apart (suc n) (t ∷ ts) = drop_apart n ts

module _ {V : Type 0} (h : V → V) (make : ℕ → List PlainLexeme → List V → V)
    (apart : (p : ℕ) (ts : List PlainLexeme) (vs : List V) → h (make p ts vs) ≡ make p (unplaced ts) (map h vs)) where
  pub values_apart : (f : Forest) (ts : List PlainLexeme) → map h (values make f ts) ≡ values make f (unplaced ts)
  values_apart Done ts = refl
  values_apart (Leaf k f) ts = values_apart f (drop 1 ts) ∙ ap (values make f) (drop_apart 1 ts)
  values_apart (Node p c f) ts =
      two (λ v vs. v ∷ vs)
      (apart p ts (values make c ts) ∙ ap (make p (unplaced ts)) (values_apart c ts))
      (values_apart f (drop (length (yield c)) ts) ∙ ap (values make f) (drop_apart (length (yield c)) ts))
