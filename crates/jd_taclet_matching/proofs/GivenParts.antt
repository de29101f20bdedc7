-- What a step gives for a row's variables.
use Rattle.std.proofs.Common.{Bool, List, None, Option, Some, ap, ap₂, append_assoc, cond, drop, false, get_or, length, map, nat_eq, option_map, refl, sym, true, ◌+◌, ◌++◌, ◌<◌, ◌≡◌, ◌∙◌, ◌∷◌, ℕ, []}
use Rattle.std.specs.Option.{option_and_then}
use Rattle.std.specs.Str.{bytes_eq}
use Rattle.std.proofs.lemmas.List.{append-nil, drop_more, length-map}
use Rattle.jd_declared.specs.Named.{first_named}
use Rattle.jd_model.specs.Programs.{Program}
use Rattle.jd_patterns.specs.Bindings.{Bindings, Part}
use Rattle.jd_patterns.specs.Instances.{Instance}
use Rattle.jd_patterns.specs.Patterns.{SchemaVar}
use Rattle.jd_schema_trees.specs.TacletViews.{form_by, form_said, given_form}
use Rattle.jd_schema_trees.specs.declared.condition.VarCond.{VarCond}
use Rattle.jd_schema_trees.specs.declared.condition.VarCond.TheVariants as conds
use Rattle.jd_syntax.specs.Sxs.{Bracketed}
use Rattle.jd_taclet_matching.specs.Given.{given_entry, own_form, with_entry, with_more}
use Rattle.jd_taclet_stages.specs.Stages.{given_for, read_as}
use Rattle.jd_taclets.specs.Taclets.{InstForm, InstVar}
use Rattle.jd_tgrammar.specs.NameTables.{NameTable}

-- ---- forms that conditions say

abbrev or_said : Option InstForm → InstForm → InstForm
or_said None g = g
or_said (Some f) g = f

either : (b : Bool) (f g : InstForm) → cond b f g ≡ or_said (cond b (Some f) None) g
either true f g = refl
either false f g = refl

said_by : (c : VarCond) (n : SchemaVar) (g : InstForm) → form_by c n g ≡ or_said (own_form c n) g
said_by (conds.Gives m f) n g = either (bytes_eq m.items n) (given_form f) g
said_by (conds.SteadyIn t a) n g = refl
said_by (conds.NamedFieldTerm f) n g = refl
said_by (conds.FieldsApart f e) n g = refl
said_by (conds.AtLeastZero m) n g = refl
said_by (conds.TermHasSort t s) n g = refl
said_by (conds.KindBelow d c) n g = refl
said_by (conds.KindsDiffer d c) n g = refl
said_by (conds.FieldRefersTo f d) n g = refl
said_by (conds.FieldTakes f s) n g = refl
said_by (conds.Calculated k a) n g = refl
said_by (conds.WhetherNumbers k t a c) n g = refl
said_by (conds.WhetherBelow k d c) n g = refl
said_by (conds.DefaultTerm k s) n g = refl
said_by (conds.DefaultExpr k x) n g = refl
said_by (conds.FieldHasSort k f) n g = refl
said_by (conds.DeclaredBy k f) n g = refl
said_by (conds.TypingOf k f h s) n g = refl
said_by (conds.InvariantsOf k c h o) n g = refl
said_by (conds.IndexSort a s) n g = refl
said_by (conds.IndexSortInTerm t s) n g = refl
said_by (conds.EntrySort s) n g = refl
said_by (conds.OnlyIndex a) n g = refl

said_more : (cs : List VarCond) (i : ℕ) (c : VarCond) (n : SchemaVar) → i < length cs → c ≡ get_or cs i c → form_said (drop i cs) n ≡ or_said (own_form c n) (form_said (drop (i + 1) cs) n)
said_more cs i c n lt is =
    ap (λ (l : List VarCond). form_said l n) (drop_more cs i c lt ∙ ap (λ x. x ∷ drop (i + 1) cs) (sym is))
    ∙ said_by c n (form_said (drop (i + 1) cs) n)

-- the next condition says the form, or none
pub said_here : (cs : List VarCond) (i : ℕ) (c : VarCond) (n : SchemaVar) (f : InstForm) → i < length cs → c ≡ get_or cs i c → Some f ≡ own_form c n → f ≡ form_said (drop i cs) n
said_here cs i c n f lt is own = sym (said_more cs i c n lt is ∙ ap (λ o. or_said o (form_said (drop (i + 1) cs) n)) (sym own))

pub said_past : (cs : List VarCond) (i : ℕ) (c : VarCond) (n : SchemaVar) → i < length cs → c ≡ get_or cs i c → None ≡ own_form c n → form_said (drop i cs) n ≡ form_said (drop (i + 1) cs) n
said_past cs i c n lt is own = said_more cs i c n lt is ∙ ap (λ o. or_said o (form_said (drop (i + 1) cs) n)) (sym own)

-- ---- what each stands for

abbrev consed : Option (SchemaVar × Part) → Option Bindings → Option Bindings
consed None l = None
consed (Some e) l = option_map (λ τ. e ∷ τ) l

one_consed : (n : SchemaVar) (q : Option Part) (l : Option Bindings) → option_and_then (λ y. option_and_then (λ τ. Some ((n, y) ∷ τ)) l) q ≡ consed (option_map (λ y. (n, y)) q) l
one_consed n None l = refl
one_consed n (Some y) None = refl
one_consed n (Some y) (Some τ) = refl

all_consed : {X : Type 0} (n : SchemaVar) (r : X → Option Part) (o : Option X) (l : Option Bindings) → option_and_then (λ x. option_and_then (λ y. option_and_then (λ τ. Some ((n, y) ∷ τ)) l) (r x)) o ≡ consed (option_and_then (λ x. option_map (λ y. (n, y)) (r x)) o) l
all_consed n r None l = refl
all_consed n r (Some x) l = one_consed n (r x) l

pub given_more : (names : NameTable) (p : Program) (σ : Instance) (v : InstVar) (vs : List InstVar) (given : List (List ℕ × Bracketed)) → given_for names p σ (v ∷ vs) given ≡ consed (given_entry names p σ v given) (given_for names p σ vs given)
given_more names p σ v vs given = all_consed v.name (read_as names p σ v.form) (first_named given v.name) (given_for names p σ vs given)

goes_on : (τ φ : Bindings) (e : Option (SchemaVar × Part)) (l : Option Bindings) → Some φ ≡ with_entry τ e → with_more τ (consed e l) ≡ with_more φ l
goes_on τ φ None l is = cc
goes_on τ φ (Some x) None is = refl
goes_on τ φ (Some x) (Some ψ) is =
    let same : φ ≡ τ ++ x ∷ [] = cc in
    ap Some (sym (ap (λ t. t ++ ψ) same ∙ append_assoc τ (x ∷ []) ψ))

stops : (τ : Bindings) (e : Option (SchemaVar × Part)) (l : Option Bindings) → None ≡ with_entry τ e → with_more τ (consed e l) ≡ None
stops τ None l is = refl
stops τ (Some x) l is = cc

module _ (names : NameTable) (p : Program) (σ : Instance) (given : List (List ℕ × Bracketed)) where
  rest_given : {V : Type 0} (view : V → InstVar) (vs : List V) (i : ℕ) (v : V) → i < length vs → v ≡ get_or vs i v → given_for names p σ (map view (drop i vs)) given ≡ consed (given_entry names p σ (view v) given) (given_for names p σ (map view (drop (i + 1) vs)) given)
  rest_given {V} view vs i v lt is =
      ap (λ (l : List V). given_for names p σ (map view l) given) (drop_more vs i v lt ∙ ap (λ x. x ∷ drop (i + 1) vs) (sym is))
      ∙ given_more names p σ (view v) (map view (drop (i + 1) vs)) given

  -- the next one has its part, or not
  pub one_given : {V : Type 0} (view : V → InstVar) (vs : List V) (i : ℕ) (v : V) (τ φ : Bindings) → i < length vs → v ≡ get_or vs i v → Some φ ≡ with_entry τ (given_entry names p σ (view v) given) → with_more φ (given_for names p σ (map view (drop (i + 1) vs)) given) ≡ with_more τ (given_for names p σ (map view (drop i vs)) given)
  one_given view vs i v τ φ lt is told = sym (ap (with_more τ) (rest_given view vs i v lt is) ∙ goes_on τ φ (given_entry names p σ (view v) given) _ told)

  pub none_given : {V : Type 0} (view : V → InstVar) (vs : List V) (i : ℕ) (v : V) (τ : Bindings) → i < length vs → v ≡ get_or vs i v → None ≡ with_entry τ (given_entry names p σ (view v) given) → None ≡ with_more τ (given_for names p σ (map view (drop i vs)) given)
  none_given view vs i v τ lt is told = sym (ap (with_more τ) (rest_given view vs i v lt is) ∙ stops τ (given_entry names p σ (view v) given) _ told)

pub more_of_none : (o : Option Bindings) → with_more [] o ≡ o
more_of_none None = refl
more_of_none (Some τ) = refl

pub more_than_all : (τ : Bindings) → with_more τ (Some []) ≡ Some τ
more_than_all τ = ap Some (append-nil τ)

-- ---- counting

pub counted : {A B C D : Type 0} (f : A → C) (g : B → D) (xs : List A) (ys : List B) → nat_eq (length xs) (length ys) ≡ nat_eq (length (map f xs)) (length (map g ys))
counted f g xs ys = sym (ap₂ nat_eq (length-map xs f) (length-map ys g))
