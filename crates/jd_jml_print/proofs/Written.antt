-- What is written for clauses is their text.
use Rattle.std.proofs.Common.{◌≡◌, ℕ, List, [], ◌∷◌, ◌++◌, map, true, false, Option, Some, None, codes, refl, sym, ap, ◌∙◌}
use Rattle.std.specs.List.{flat_map}
use Rattle.std.specs.Fmt.{signed_decimal}
use Rattle.std.proofs.lemmas.List.{append_assoc, append-nil}
use Rattle.std.proofs.lemmas.List.Concat.{flat_map-append}
use Rattle.jd_syntax.specs.JavaTypes.{PlainIdentifier, PlainType, IntType, BooleanType, IntArrayType, NamedType}
use Rattle.jd_syntax.specs.SpecTrees as jml
use Rattle.jd_syntax.specs.SpecTrees.{PlainSpecType, PlainSpec, PlainSpecs, NoSpecs, SpecThen, PlainLocation, PlainClause}
use Rattle.jd_jml_print.specs.Texts.{Texts, truth_text, infix_text, prefix_text, quantifier_text, type_texts, spec_type_texts, spec_texts, specs_texts, more_texts, location_texts, separated, exception_texts, classes_texts, clause_texts, spaced, printed}
use Rattle.jd_jml_print.specs.Writing.{put, type_text, spec_type_text, write_spec, write_specs, write_location, write_locations, write_names, write_exception, write_classes, head, write_rest, write_clause, write_clauses}

-- ---- parts of what is written

-- the texts of tokens, and what writes them
record Part : Type 0 where
  puts : List ℕ → List ℕ
  texts : Texts
  writes : (w : List ℕ) → puts w ≡ w ++ spaced texts

abbrev then : Part → Part → Part
then p q = record {
  puts = λ w. q.puts (p.puts w);
  texts = p.texts ++ q.texts;
  writes = λ w. q.writes (p.puts w) ∙ ap (λ v. v ++ spaced q.texts) (p.writes w) ∙ append_assoc w (spaced p.texts) (spaced q.texts) ∙ ap (λ v. w ++ v) (sym (flat_map-append (λ t. 32 ∷ t) p.texts q.texts));
}

-- one token
abbrev word : List ℕ → Part
word t = record { puts = λ w. put w t; texts = t ∷ []; writes = λ w. ap (λ v. w ++ 32 ∷ v) (sym (append-nil t)) }

-- several that are one text
abbrev words : (t : List ℕ) (ts : Texts) → 32 ∷ t ≡ spaced ts → Part
words t ts is = record { puts = λ w. put w t; texts = ts; writes = λ w. ap (λ v. w ++ v) is }

abbrev nothing : Part
nothing = record { puts = λ w. w; texts = []; writes = λ w. sym (append-nil w) }

-- ---- types

type_spaced : (t : PlainType) → 32 ∷ type_text t ≡ spaced (type_texts t)
type_spaced IntType = refl
type_spaced BooleanType = refl
type_spaced IntArrayType = refl
type_spaced (NamedType x) = ap (λ v. 32 ∷ v) (sym (append-nil x))

spec_type_spaced : (t : PlainSpecType) → 32 ∷ spec_type_text t ≡ spaced (spec_type_texts t)
spec_type_spaced jml.BigInt = refl
spec_type_spaced (jml.Java t) = type_spaced t.written

abbrev of_type : PlainType → Part
of_type t = words (type_text t) (type_texts t) (type_spaced t)

abbrev of_spec_type : PlainSpecType → Part
of_spec_type t = words (spec_type_text t) (spec_type_texts t) (spec_type_spaced t)

-- ---- expressions

abbrev of_spec : (e : PlainSpec) → ((w : List ℕ) → write_spec w e ≡ w ++ spaced (spec_texts e)) → Part
of_spec e w = record { puts = λ v. write_spec v e; texts = spec_texts e; writes = w }

abbrev of_specs : (es : PlainSpecs) → ((w : List ℕ) → write_specs false w es ≡ w ++ spaced (specs_texts es)) → Part
of_specs es w = record { puts = λ v. write_specs false v es; texts = specs_texts es; writes = w }

abbrev of_more : (es : PlainSpecs) → ((w : List ℕ) → write_specs true w es ≡ w ++ spaced (more_texts es)) → Part
of_more es w = record { puts = λ v. write_specs true v es; texts = more_texts es; writes = w }

abbrev closed : Part → Part
closed p = then p (word (codes ")"))

abbrev binder : List ℕ → Part → PlainIdentifier → Part → Part
binder q t x p = then (word (codes "(")) (then (word q) (then t (then (word x.name) (then (word (codes ";")) p))))

abbrev between : PlainIdentifier → Part → Part
between x p = then (word (codes "<=")) (then (word x.name) (then (word (codes "&&")) (then (word x.name) (then (word (codes "<")) p))))

mutual
  pub spec_written : (e : PlainSpec) (w : List ℕ) → write_spec w e ≡ w ++ spaced (spec_texts e)
  spec_written (jml.Integer at z) w = (word (signed_decimal z)).writes w
  spec_written (jml.Boolean at b) w = (word (truth_text b)).writes w
  spec_written (jml.Null at) w = refl
  spec_written (jml.This at) w = refl
  spec_written (jml.Result at) w = refl
  spec_written (jml.Name at x) w = (word x).writes w
  spec_written (jml.Field at e x) w = (then (of_spec e (spec_written e)) (then (word (codes ".")) (word x.name))).writes w
  spec_written (jml.Parenthesized at e) w = (then (word (codes "(")) (closed (of_spec e (spec_written e)))).writes w
  spec_written (jml.Call at m es) w = (then (word m) (then (word (codes "(")) (closed (of_specs es (specs_written es))))).writes w
  spec_written (jml.MethodCall at e m es) w =
      (then (of_spec e (spec_written e)) (then (word (codes ".")) (then (word m.name) (then (word (codes "(")) (closed (of_specs es (specs_written es))))))).writes w
  spec_written (jml.Index at a i) w = (then (of_spec a (spec_written a)) (then (word (codes "[")) (then (of_spec i (spec_written i)) (word (codes "]"))))).writes w
  spec_written (jml.Prefix at o e) w = (then (word (prefix_text o)) (of_spec e (spec_written e))).writes w
  spec_written (jml.Cast at t e) w = (then (word (codes "(")) (then (of_type t.written) (then (word (codes ")")) (of_spec e (spec_written e))))).writes w
  spec_written (jml.Infix at o a b) w = (then (of_spec a (spec_written a)) (then (word (infix_text o)) (of_spec b (spec_written b)))).writes w
  spec_written (jml.InstanceOf at e t) w = (then (of_spec e (spec_written e)) (then (word (codes "instanceof")) (of_type t.written))).writes w
  spec_written (jml.Conditional at c a b) w =
      (then (of_spec c (spec_written c)) (then (word (codes "?")) (then (of_spec a (spec_written a)) (then (word (codes ":")) (of_spec b (spec_written b)))))).writes w
  spec_written (jml.Implies at a b) w = (then (of_spec a (spec_written a)) (then (word (codes "==>")) (of_spec b (spec_written b)))).writes w
  spec_written (jml.Equivalent at a b) w = (then (of_spec a (spec_written a)) (then (word (codes "<==>")) (of_spec b (spec_written b)))).writes w
  spec_written (jml.Old at e) w = (then (words (codes "\\old (") (codes "\\old" ∷ codes "(" ∷ []) refl) (closed (of_spec e (spec_written e)))).writes w
  spec_written (jml.Fresh at e) w = (then (words (codes "\\fresh (") (codes "\\fresh" ∷ codes "(" ∷ []) refl) (closed (of_spec e (spec_written e)))).writes w
  spec_written (jml.InvariantFor at e) w =
      (then (words (codes "\\invariant_for (") (codes "\\invariant_for" ∷ codes "(" ∷ []) refl) (closed (of_spec e (spec_written e)))).writes w
  spec_written (jml.Quantified at q t x e) w = (binder (quantifier_text q) (of_spec_type t) x (closed (of_spec e (spec_written e)))).writes w
  spec_written (jml.QuantifiedIn at q t x r e) w =
      (binder (quantifier_text q) (of_spec_type t) x (then (of_spec r (spec_written r)) (then (word (codes ";")) (closed (of_spec e (spec_written e)))))).writes w
  spec_written (jml.Sum at x a b e) w =
      (binder (codes "\\sum") (of_type IntType) x (then (of_spec a (spec_written a)) (between x (then (of_spec b (spec_written b)) (then (word (codes ";")) (closed (of_spec e (spec_written e)))))))).writes w

  pub specs_written : (es : PlainSpecs) (w : List ℕ) → write_specs false w es ≡ w ++ spaced (specs_texts es)
  specs_written NoSpecs w = nothing.writes w
  specs_written (SpecThen e es) w = (then (of_spec e (spec_written e)) (of_more es (more_written es))).writes w

  pub more_written : (es : PlainSpecs) (w : List ℕ) → write_specs true w es ≡ w ++ spaced (more_texts es)
  more_written NoSpecs w = nothing.writes w
  more_written (SpecThen e es) w = (then (word (codes ",")) (then (of_spec e (spec_written e)) (of_more es (more_written es)))).writes w

abbrev spec_part : PlainSpec → Part
spec_part e = of_spec e (spec_written e)

-- ---- sets of locations

pub location_written : (l : PlainLocation) (w : List ℕ) → write_location w l ≡ w ++ spaced (location_texts l)
location_written (jml.Nothing at) w = refl
location_written (jml.Everything at) w = refl
location_written (jml.OwnField at x) w = (word x).writes w
location_written (jml.FieldOf at e x) w = (then (spec_part e) (then (word (codes ".")) (word x.name))).writes w
location_written (jml.AllFields at e) w = (then (spec_part e) (words (codes ". *") (codes "." ∷ codes "*" ∷ []) refl)).writes w
location_written (jml.Element at a i) w = (then (spec_part a) (then (word (codes "[")) (then (spec_part i) (word (codes "]"))))).writes w
location_written (jml.Range at a i j) w =
    (then (spec_part a) (then (word (codes "[")) (then (spec_part i) (then (word (codes "..")) (then (spec_part j) (word (codes "]"))))))).writes w
location_written (jml.AllElements at a) w = (then (spec_part a) (words (codes "[ * ]") (codes "[" ∷ codes "*" ∷ codes "]" ∷ []) refl)).writes w

abbrev location_part : PlainLocation → Part
location_part l = record { puts = λ w. write_location w l; texts = location_texts l; writes = location_written l }

-- ---- with commas between them

abbrev behind_commas : List Texts → Texts
behind_commas xs = flat_map (λ y. codes "," ∷ y) xs

more_locations_written : (ls : List PlainLocation) (w : List ℕ) → write_locations true w ls ≡ w ++ spaced (behind_commas (map location_texts ls))
more_locations_written [] w = nothing.writes w
more_locations_written (l ∷ ls) w =
    (then (word (codes ",")) (then (location_part l) (record { puts = λ v. write_locations true v ls; texts = behind_commas (map location_texts ls); writes = more_locations_written ls }))).writes w

pub locations_written : (ls : List PlainLocation) (w : List ℕ) → write_locations false w ls ≡ w ++ spaced (separated (map location_texts ls))
locations_written [] w = nothing.writes w
locations_written (l ∷ ls) w =
    (then (location_part l) (record { puts = λ v. write_locations true v ls; texts = behind_commas (map location_texts ls); writes = more_locations_written ls })).writes w

abbrev names_texts : List PlainIdentifier → List Texts
names_texts xs = map (λ x. x.name ∷ []) xs

more_names_written : (xs : List PlainIdentifier) (w : List ℕ) → write_names true w xs ≡ w ++ spaced (behind_commas (names_texts xs))
more_names_written [] w = nothing.writes w
more_names_written (x ∷ xs) w =
    (then (word (codes ",")) (then (word x.name) (record { puts = λ v. write_names true v xs; texts = behind_commas (names_texts xs); writes = more_names_written xs }))).writes w

pub names_written : (xs : List PlainIdentifier) (w : List ℕ) → write_names false w xs ≡ w ++ spaced (separated (names_texts xs))
names_written [] w = nothing.writes w
names_written (x ∷ xs) w = (then (word x.name) (record { puts = λ v. write_names true v xs; texts = behind_commas (names_texts xs); writes = more_names_written xs })).writes w

exception_written : (x : Option PlainIdentifier) (w : List ℕ) → write_exception w x ≡ w ++ spaced (exception_texts x)
exception_written None w = nothing.writes w
exception_written (Some x) w = (word x.name).writes w

classes_written : (cs : List PlainIdentifier) (w : List ℕ) → write_classes w cs ≡ w ++ spaced (classes_texts cs)
classes_written [] w = refl
classes_written (c ∷ cs) w = names_written (c ∷ cs) w

-- ---- clauses

abbrev semicolon : Part → Part
semicolon p = then p (word (codes ";"))

abbrev asserts : List ℕ → PlainSpec → Part
asserts t e = then (word t) (semicolon (spec_part e))

pub rest_written : (c : PlainClause) (w : List ℕ) → write_rest (put w (head c)) c ≡ w ++ spaced (clause_texts c)
rest_written (jml.Requires at e) w = (asserts (codes "requires") e).writes w
rest_written (jml.Ensures at e) w = (asserts (codes "ensures") e).writes w
rest_written (jml.Signals at c x e) w =
    (then (word (codes "signals")) (then (word (codes "(")) (then (word c.name) (then (record { puts = λ v. write_exception v x; texts = exception_texts x; writes = exception_written x }) (then (word (codes ")")) (semicolon (spec_part e))))))).writes w
rest_written (jml.SignalsOnly at cs) w =
    (then (word (codes "signals_only")) (semicolon (record { puts = λ v. write_classes v cs; texts = classes_texts cs; writes = classes_written cs }))).writes w
rest_written (jml.Assignable at ls) w =
    (then (word (codes "assignable")) (semicolon (record { puts = λ v. write_locations false v ls; texts = separated (map location_texts ls); writes = locations_written ls }))).writes w
rest_written (jml.MeasuredBy at e) w = (asserts (codes "measured_by") e).writes w
rest_written (jml.Diverges at b) w = (then (word (codes "diverges")) (then (word (truth_text b)) (word (codes ";")))).writes w
rest_written (jml.LoopInvariant at e) w = (asserts (codes "loop_invariant") e).writes w
rest_written (jml.Decreases at e) w = (asserts (codes "decreases") e).writes w
rest_written (jml.Invariant at e) w = (asserts (codes "invariant") e).writes w
rest_written (jml.NormalBehavior at) w = refl
rest_written (jml.ExceptionalBehavior at) w = refl
rest_written (jml.Behavior at) w = refl
rest_written (jml.Also at) w = refl
rest_written (jml.Pure at) w = refl
rest_written (jml.Helper at) w = refl
rest_written (jml.Nullable at) w = refl
rest_written (jml.NonNull at) w = refl
rest_written (jml.SpecPublic at) w = refl
rest_written (jml.SpecProtected at) w = refl

-- ---- the whole text

abbrev lines : List PlainClause → List ℕ
lines cs = flat_map (λ c. 10 ∷ spaced (clause_texts c)) cs

line_written : (c : PlainClause) (w : List ℕ) → write_clause w c ≡ w ++ 10 ∷ spaced (clause_texts c)
line_written c w = rest_written c (w ++ 10 ∷ []) ∙ append_assoc w (10 ∷ []) (spaced (clause_texts c))

pub clauses_written : (cs : List PlainClause) (w : List ℕ) → write_clauses w cs ≡ w ++ lines cs
clauses_written [] w = sym (append-nil w)
clauses_written (c ∷ cs) w =
    clauses_written cs (write_clause w c) ∙ ap (λ v. v ++ lines cs) (line_written c w) ∙ append_assoc w (10 ∷ spaced (clause_texts c)) (lines cs)

pub all_printed : (cs : List PlainClause) → write_clauses (codes "/*@") cs ++ codes "\n @*/" ≡ printed cs
all_printed cs = ap (λ v. v ++ codes "\n @*/") (clauses_written cs (codes "/*@"))
