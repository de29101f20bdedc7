-- The texts of clauses do not hang on where they stand.
use Rattle.std.proofs.Common.{◌≡◌, ℕ, List, [], ◌∷◌, ◌++◌, Option, Some, None, map, option_map, refl, sym, ap, ◌∙◌, codes}
use Rattle.std.specs.List.{flat_map}
use Rattle.jd_syntax.specs.JavaTypes.{PlainIdentifier}
use Rattle.jd_syntax.specs.SpecTrees as jml
use Rattle.jd_syntax.specs.SpecTrees.{PlainSpecType, PlainSpec, PlainSpecs, NoSpecs, SpecThen, PlainLocation, PlainClause}
use Rattle.jd_jml_places.specs.Unplaced.{unplaced_type, unplaced_spec, unplaced_specs, unplaced_name, unplaced_location, unplaced_clause}
use Rattle.jd_jml_print.specs.Texts.{Texts, type_texts, spec_type_texts, prefix_text, infix_text, quantifier_text, spec_texts, specs_texts, more_texts, location_texts, exception_texts, classes_texts, separated, clause_texts, spaced, printed}

two : {A B C : Type 0} (f : A → B → C) {a x : A} {b y : B} → a ≡ x → b ≡ y → f a b ≡ f x y
two f {a} {x} {b} {y} p q = ap (λ u. f u b) p ∙ ap (f x) q

three : {A B C D : Type 0} (f : A → B → C → D) {a x : A} {b y : B} {c z : C} → a ≡ x → b ≡ y → c ≡ z → f a b c ≡ f x y z
three f {a} {x} {b} {y} {c} {z} p q r = ap (λ u. f u b c) p ∙ ap (λ v. f x v c) q ∙ ap (f x y) r

-- ---- expressions

of_type : (t : PlainSpecType) → spec_type_texts (unplaced_type t) ≡ spec_type_texts t
of_type jml.BigInt = refl
of_type (jml.Java t) = refl

mutual
  of_spec : (e : PlainSpec) → spec_texts (unplaced_spec e) ≡ spec_texts e
  of_spec (jml.Integer at n) = refl
  of_spec (jml.Boolean at b) = refl
  of_spec (jml.Null at) = refl
  of_spec (jml.This at) = refl
  of_spec (jml.Result at) = refl
  of_spec (jml.Name at x) = refl
  of_spec (jml.Field at e x) = ap (λ (u : Texts). u ++ codes "." ∷ x.name ∷ []) (of_spec e)
  of_spec (jml.Parenthesized at e) = ap (λ (u : Texts). codes "(" ∷ u ++ codes ")" ∷ []) (of_spec e)
  of_spec (jml.Call at m es) = ap (λ (u : Texts). m ∷ codes "(" ∷ u ++ codes ")" ∷ []) (of_specs es)
  of_spec (jml.MethodCall at e m es) = two (λ (u v : Texts). u ++ (codes "." ∷ m.name ∷ codes "(" ∷ v ++ codes ")" ∷ [])) (of_spec e) (of_specs es)
  of_spec (jml.Index at a i) = two (λ (u v : Texts). u ++ (codes "[" ∷ v ++ codes "]" ∷ [])) (of_spec a) (of_spec i)
  of_spec (jml.Prefix at o e) = ap (λ (u : Texts). prefix_text o ∷ u) (of_spec e)
  of_spec (jml.Cast at t e) = ap (λ (u : Texts). codes "(" ∷ type_texts t.written ++ codes ")" ∷ u) (of_spec e)
  of_spec (jml.Infix at o a b) = two (λ (u v : Texts). u ++ infix_text o ∷ v) (of_spec a) (of_spec b)
  of_spec (jml.InstanceOf at e t) = ap (λ (u : Texts). u ++ codes "instanceof" ∷ type_texts t.written) (of_spec e)
  of_spec (jml.Conditional at c a b) = three (λ (u v w : Texts). u ++ (codes "?" ∷ v ++ codes ":" ∷ w)) (of_spec c) (of_spec a) (of_spec b)
  of_spec (jml.Implies at a b) = two (λ (u v : Texts). u ++ codes "==>" ∷ v) (of_spec a) (of_spec b)
  of_spec (jml.Equivalent at a b) = two (λ (u v : Texts). u ++ codes "<==>" ∷ v) (of_spec a) (of_spec b)
  of_spec (jml.Old at e) = ap (λ (u : Texts). codes "\\old" ∷ codes "(" ∷ u ++ codes ")" ∷ []) (of_spec e)
  of_spec (jml.Fresh at e) = ap (λ (u : Texts). codes "\\fresh" ∷ codes "(" ∷ u ++ codes ")" ∷ []) (of_spec e)
  of_spec (jml.InvariantFor at e) = ap (λ (u : Texts). codes "\\invariant_for" ∷ codes "(" ∷ u ++ codes ")" ∷ []) (of_spec e)
  of_spec (jml.Quantified at q t x e) =
      two (λ (s u : Texts). codes "(" ∷ quantifier_text q ∷ s ++ (x.name ∷ codes ";" ∷ u ++ codes ")" ∷ [])) (of_type t) (of_spec e)
  of_spec (jml.QuantifiedIn at q t x r e) =
      three (λ (s u v : Texts). codes "(" ∷ quantifier_text q ∷ s ++ (x.name ∷ codes ";" ∷ u ++ (codes ";" ∷ v ++ codes ")" ∷ []))) (of_type t) (of_spec r) (of_spec e)
  of_spec (jml.Sum at x a b e) =
      three (λ (u v w : Texts). codes "(" ∷ codes "\\sum" ∷ codes "int" ∷ x.name ∷ codes ";" ∷ u ++ (codes "<=" ∷ x.name ∷ codes "&&" ∷ x.name ∷ codes "<" ∷ v ++ (codes ";" ∷ w ++ codes ")" ∷ [])))
      (of_spec a) (of_spec b) (of_spec e)

  of_specs : (es : PlainSpecs) → specs_texts (unplaced_specs es) ≡ specs_texts es
  of_specs NoSpecs = refl
  of_specs (SpecThen e es) = two (λ (u v : Texts). u ++ v) (of_spec e) (of_more es)

  of_more : (es : PlainSpecs) → more_texts (unplaced_specs es) ≡ more_texts es
  of_more NoSpecs = refl
  of_more (SpecThen e es) = two (λ (u v : Texts). codes "," ∷ u ++ v) (of_spec e) (of_more es)

-- ---- locations

of_location : (l : PlainLocation) → location_texts (unplaced_location l) ≡ location_texts l
of_location (jml.Nothing at) = refl
of_location (jml.Everything at) = refl
of_location (jml.OwnField at x) = refl
of_location (jml.FieldOf at e x) = ap (λ (u : Texts). u ++ codes "." ∷ x.name ∷ []) (of_spec e)
of_location (jml.AllFields at e) = ap (λ (u : Texts). u ++ codes "." ∷ codes "*" ∷ []) (of_spec e)
of_location (jml.Element at a i) = two (λ (u v : Texts). u ++ (codes "[" ∷ v ++ codes "]" ∷ [])) (of_spec a) (of_spec i)
of_location (jml.Range at a i j) = three (λ (u v w : Texts). u ++ (codes "[" ∷ v ++ (codes ".." ∷ w ++ codes "]" ∷ []))) (of_spec a) (of_spec i) (of_spec j)
of_location (jml.AllElements at a) = ap (λ (u : Texts). u ++ codes "[" ∷ codes "*" ∷ codes "]" ∷ []) (of_spec a)

of_locations : (ls : List PlainLocation) → map location_texts (map unplaced_location ls) ≡ map location_texts ls
of_locations [] = refl
of_locations (l ∷ ls) = two (λ (u : Texts) (us : List Texts). u ∷ us) (of_location l) (of_locations ls)

-- ---- clauses

of_names : (xs : List PlainIdentifier) → map (λ x. x.name ∷ []) (map unplaced_name xs) ≡ map (λ x. x.name ∷ []) xs
of_names [] = refl
of_names (x ∷ xs) = ap (λ (us : List Texts). (x.name ∷ []) ∷ us) (of_names xs)

of_classes : (xs : List PlainIdentifier) → classes_texts (map unplaced_name xs) ≡ classes_texts xs
of_classes [] = refl
of_classes (x ∷ xs) = ap separated (of_names (x ∷ xs))

of_exception : (x : Option PlainIdentifier) → exception_texts (option_map unplaced_name x) ≡ exception_texts x
of_exception None = refl
of_exception (Some x) = refl

-- a word, an expression and `;`
asserted : (word : List ℕ) (e : PlainSpec) → word ∷ spec_texts (unplaced_spec e) ++ codes ";" ∷ [] ≡ word ∷ spec_texts e ++ codes ";" ∷ []
asserted word e = ap (λ (u : Texts). word ∷ u ++ codes ";" ∷ []) (of_spec e)

of_clause : (c : PlainClause) → clause_texts (unplaced_clause c) ≡ clause_texts c
of_clause (jml.Requires at e) = asserted (codes "requires") e
of_clause (jml.Ensures at e) = asserted (codes "ensures") e
of_clause (jml.Signals at c x e) = two (λ (u v : Texts). codes "signals" ∷ codes "(" ∷ c.name ∷ u ++ (codes ")" ∷ v ++ codes ";" ∷ [])) (of_exception x) (of_spec e)
of_clause (jml.SignalsOnly at cs) = ap (λ (u : Texts). codes "signals_only" ∷ u ++ codes ";" ∷ []) (of_classes cs)
of_clause (jml.Assignable at ls) = ap (λ (us : List Texts). codes "assignable" ∷ separated us ++ codes ";" ∷ []) (of_locations ls)
of_clause (jml.MeasuredBy at e) = asserted (codes "measured_by") e
of_clause (jml.Diverges at b) = refl
of_clause (jml.LoopInvariant at e) = asserted (codes "loop_invariant") e
of_clause (jml.Decreases at e) = asserted (codes "decreases") e
of_clause (jml.Invariant at e) = asserted (codes "invariant") e
of_clause (jml.NormalBehavior at) = refl
of_clause (jml.ExceptionalBehavior at) = refl
of_clause (jml.Behavior at) = refl
of_clause (jml.Also at) = refl
of_clause (jml.Pure at) = refl
of_clause (jml.Helper at) = refl
of_clause (jml.Nullable at) = refl
of_clause (jml.NonNull at) = refl
of_clause (jml.SpecPublic at) = refl
of_clause (jml.SpecProtected at) = refl

-- ---- the whole text

abbrev line : PlainClause → List ℕ
line c = 10 ∷ spaced (clause_texts c)

of_lines : (cs : List PlainClause) → flat_map line (map unplaced_clause cs) ≡ flat_map line cs
of_lines [] = refl
of_lines (c ∷ cs) = two (λ (u v : List ℕ). u ++ v) (ap (λ (u : Texts). 10 ∷ spaced u) (of_clause c)) (of_lines cs)

of_printed : (cs : List PlainClause) → printed (map unplaced_clause cs) ≡ printed cs
of_printed cs = ap (λ (u : List ℕ). codes "/*@" ++ u ++ codes "\n @*/") (of_lines cs)

-- clauses that are the same but for where they stand have one text
pub same_text : (cs ds : List PlainClause) → map unplaced_clause cs ≡ map unplaced_clause ds → printed cs ≡ printed ds
same_text cs ds same = sym (of_printed cs) ∙ ap printed same ∙ of_printed ds
