-- What the forms of expressions are seen as, with parts that are lent.
use Rattle.std.proofs.Common.{◌≡◌, ℕ, ℤ, Bool, List, map, Box, Global, Vec, sym, ap, ◌∙◌}
use Rattle.jd_syntax.specs.declared.java.Identifier.{Identifier}
use Rattle.jd_syntax.specs.declared.java.InfixOperator.{InfixOperator}
use Rattle.jd_syntax.specs.declared.java.WrittenType.{WrittenType}
use Rattle.jd_syntax.specs.declared.spec.Quantifier.{Quantifier}
use Rattle.jd_syntax.specs.declared.spec.SpecExpr.{SpecExpr}
use Rattle.jd_syntax.specs.declared.spec.SpecForm.{SpecForm}
use Rattle.jd_syntax.specs.declared.spec.SpecForm.TheFolds.{fold-SpecForm, fold-roll-SpecForm, fold_out-SpecExpr}
use Rattle.jd_syntax.specs.declared.spec.SpecForm.TheOpen as layers
use Rattle.jd_syntax.specs.declared.spec.SpecForm.TheVariants as forms
use Rattle.jd_syntax.specs.declared.spec.SpecPrefix.{SpecPrefix}
use Rattle.jd_syntax.specs.declared.spec.SpecType.{SpecType}
use Rattle.jd_syntax.specs.JavaTypes.{identifier_view, written_view}
use Rattle.jd_syntax.specs.SpecTrees as trees
use Rattle.jd_syntax.specs.SpecTrees.{PlainSpec, spec_form_layer, spec_layer, spec_type_view, spec_view, specs_of}

abbrev form_view : SpecForm → ℕ → PlainSpec
form_view = fold-SpecForm (ℕ → PlainSpec) PlainSpec spec_form_layer spec_layer

viewed : (s : SpecExpr) (f : SpecForm) (x : PlainSpec) → s.form ≡ f → form_view f s.at ≡ x → spec_view s ≡ x
viewed s f x is view = fold_out-SpecExpr (ℕ → PlainSpec) PlainSpec spec_form_layer spec_layer s ∙ ap (λ g. form_view g s.at) is ∙ view

pub is_integer : (s : SpecExpr) (n : ℤ) → s.form ≡ forms.Integer n → spec_view s ≡ trees.Integer s.at n
is_integer s n is = viewed s _ _ is (ap (λ g. form_view g s.at) (sym (forms.rolls-Integer n)) ∙ ap (λ g. g s.at) (fold-roll-SpecForm (ℕ → PlainSpec) PlainSpec spec_form_layer spec_layer (layers.Integer n)))

pub is_null : (s : SpecExpr) → s.form ≡ forms.Null → spec_view s ≡ trees.Null s.at
is_null s is = viewed s _ _ is (ap (λ g. form_view g s.at) (sym (forms.rolls-Null)) ∙ ap (λ g. g s.at) (fold-roll-SpecForm (ℕ → PlainSpec) PlainSpec spec_form_layer spec_layer layers.Null))

pub is_this : (s : SpecExpr) → s.form ≡ forms.This → spec_view s ≡ trees.This s.at
is_this s is = viewed s _ _ is (ap (λ g. form_view g s.at) (sym (forms.rolls-This)) ∙ ap (λ g. g s.at) (fold-roll-SpecForm (ℕ → PlainSpec) PlainSpec spec_form_layer spec_layer layers.This))

pub is_result : (s : SpecExpr) → s.form ≡ forms.Result → spec_view s ≡ trees.Result s.at
is_result s is = viewed s _ _ is (ap (λ g. form_view g s.at) (sym (forms.rolls-Result)) ∙ ap (λ g. g s.at) (fold-roll-SpecForm (ℕ → PlainSpec) PlainSpec spec_form_layer spec_layer layers.Result))

pub is_call : (s : SpecExpr) (m : Vec ℕ Global) (es : Vec SpecExpr Global) → s.form ≡ forms.Call m es → spec_view s ≡ trees.Call s.at m.items (specs_of (map spec_view es.items))
is_call s m es is = viewed s _ _ is (ap (λ g. form_view g s.at) (sym (forms.rolls-Call m es)) ∙ ap (λ g. g s.at) (fold-roll-SpecForm (ℕ → PlainSpec) PlainSpec spec_form_layer spec_layer (layers.Call m es)))

pub is_method_call : (s : SpecExpr) (a : Box SpecExpr Global) (m : Identifier) (es : Vec SpecExpr Global) → s.form ≡ forms.MethodCall a m es → spec_view s ≡ trees.MethodCall s.at (spec_view a.value) (identifier_view m) (specs_of (map spec_view es.items))
is_method_call s a m es is = viewed s _ _ is (ap (λ g. form_view g s.at) (sym (forms.rolls-MethodCall a m es)) ∙ ap (λ g. g s.at) (fold-roll-SpecForm (ℕ → PlainSpec) PlainSpec spec_form_layer spec_layer (layers.MethodCall a m es)))

pub is_boolean : (s : SpecExpr) (b : Bool) → s.form ≡ forms.Boolean b → spec_view s ≡ trees.Boolean s.at b
is_boolean s b is =
    viewed s _ _ is (ap (λ g. form_view g s.at) (sym (forms.rolls-Boolean b)) ∙ ap (λ g. g s.at) (fold-roll-SpecForm (ℕ → PlainSpec) PlainSpec spec_form_layer spec_layer (layers.Boolean b)))

pub is_name : (s : SpecExpr) (x : Vec ℕ Global) (x_ : List ℕ) → s.form ≡ forms.Name x → x_ ≡ x.items → spec_view s ≡ trees.Name s.at x_
is_name s x x_ is is_x =
    viewed s _ _ is (ap (λ g. form_view g s.at) (sym (forms.rolls-Name x)) ∙ ap (λ g. g s.at) (fold-roll-SpecForm (ℕ → PlainSpec) PlainSpec spec_form_layer spec_layer (layers.Name x)))
    ∙ ap (λ (z : List ℕ). trees.Name s.at z) (sym is_x)

pub is_field : (s : SpecExpr) (a : Box SpecExpr Global) (x : Identifier) (a_ : SpecExpr) → s.form ≡ forms.Field a x → a_ ≡ a.value → spec_view s ≡ trees.Field s.at (spec_view a_) (identifier_view x)
is_field s a x a_ is is_a =
    viewed s _ _ is (ap (λ g. form_view g s.at) (sym (forms.rolls-Field a x)) ∙ ap (λ g. g s.at) (fold-roll-SpecForm (ℕ → PlainSpec) PlainSpec spec_form_layer spec_layer (layers.Field a x)))
    ∙ ap (λ (z : SpecExpr). trees.Field s.at (spec_view z) (identifier_view x)) (sym is_a)

pub is_parenthesized : (s : SpecExpr) (a : Box SpecExpr Global) (a_ : SpecExpr) → s.form ≡ forms.Parenthesized a → a_ ≡ a.value → spec_view s ≡ trees.Parenthesized s.at (spec_view a_)
is_parenthesized s a a_ is is_a =
    viewed s _ _ is (ap (λ g. form_view g s.at) (sym (forms.rolls-Parenthesized a)) ∙ ap (λ g. g s.at) (fold-roll-SpecForm (ℕ → PlainSpec) PlainSpec spec_form_layer spec_layer (layers.Parenthesized a)))
    ∙ ap (λ (z : SpecExpr). trees.Parenthesized s.at (spec_view z)) (sym is_a)

pub is_index : (s : SpecExpr) (a : Box SpecExpr Global) (i : Box SpecExpr Global) (a_ : SpecExpr) (i_ : SpecExpr) → s.form ≡ forms.Index a i → a_ ≡ a.value → i_ ≡ i.value → spec_view s ≡ trees.Index s.at (spec_view a_) (spec_view i_)
is_index s a i a_ i_ is is_a is_i =
    viewed s _ _ is (ap (λ g. form_view g s.at) (sym (forms.rolls-Index a i)) ∙ ap (λ g. g s.at) (fold-roll-SpecForm (ℕ → PlainSpec) PlainSpec spec_form_layer spec_layer (layers.Index a i)))
    ∙ ap (λ (z : SpecExpr). trees.Index s.at (spec_view z) (spec_view i.value)) (sym is_a)
    ∙ ap (λ (z : SpecExpr). trees.Index s.at (spec_view a_) (spec_view z)) (sym is_i)

pub is_prefix : (s : SpecExpr) (o : SpecPrefix) (a : Box SpecExpr Global) (a_ : SpecExpr) → s.form ≡ forms.Prefix o a → a_ ≡ a.value → spec_view s ≡ trees.Prefix s.at o (spec_view a_)
is_prefix s o a a_ is is_a =
    viewed s _ _ is (ap (λ g. form_view g s.at) (sym (forms.rolls-Prefix o a)) ∙ ap (λ g. g s.at) (fold-roll-SpecForm (ℕ → PlainSpec) PlainSpec spec_form_layer spec_layer (layers.Prefix o a)))
    ∙ ap (λ (z : SpecExpr). trees.Prefix s.at o (spec_view z)) (sym is_a)

pub is_cast : (s : SpecExpr) (t : WrittenType) (a : Box SpecExpr Global) (a_ : SpecExpr) → s.form ≡ forms.Cast t a → a_ ≡ a.value → spec_view s ≡ trees.Cast s.at (written_view t) (spec_view a_)
is_cast s t a a_ is is_a =
    viewed s _ _ is (ap (λ g. form_view g s.at) (sym (forms.rolls-Cast t a)) ∙ ap (λ g. g s.at) (fold-roll-SpecForm (ℕ → PlainSpec) PlainSpec spec_form_layer spec_layer (layers.Cast t a)))
    ∙ ap (λ (z : SpecExpr). trees.Cast s.at (written_view t) (spec_view z)) (sym is_a)

pub is_infix : (s : SpecExpr) (o : InfixOperator) (a : Box SpecExpr Global) (b : Box SpecExpr Global) (a_ : SpecExpr) (b_ : SpecExpr) → s.form ≡ forms.Infix o a b → a_ ≡ a.value → b_ ≡ b.value → spec_view s ≡ trees.Infix s.at o (spec_view a_) (spec_view b_)
is_infix s o a b a_ b_ is is_a is_b =
    viewed s _ _ is (ap (λ g. form_view g s.at) (sym (forms.rolls-Infix o a b)) ∙ ap (λ g. g s.at) (fold-roll-SpecForm (ℕ → PlainSpec) PlainSpec spec_form_layer spec_layer (layers.Infix o a b)))
    ∙ ap (λ (z : SpecExpr). trees.Infix s.at o (spec_view z) (spec_view b.value)) (sym is_a)
    ∙ ap (λ (z : SpecExpr). trees.Infix s.at o (spec_view a_) (spec_view z)) (sym is_b)

pub is_instance_of : (s : SpecExpr) (a : Box SpecExpr Global) (t : WrittenType) (a_ : SpecExpr) → s.form ≡ forms.InstanceOf a t → a_ ≡ a.value → spec_view s ≡ trees.InstanceOf s.at (spec_view a_) (written_view t)
is_instance_of s a t a_ is is_a =
    viewed s _ _ is (ap (λ g. form_view g s.at) (sym (forms.rolls-InstanceOf a t)) ∙ ap (λ g. g s.at) (fold-roll-SpecForm (ℕ → PlainSpec) PlainSpec spec_form_layer spec_layer (layers.InstanceOf a t)))
    ∙ ap (λ (z : SpecExpr). trees.InstanceOf s.at (spec_view z) (written_view t)) (sym is_a)

pub is_conditional : (s : SpecExpr) (c : Box SpecExpr Global) (a : Box SpecExpr Global) (b : Box SpecExpr Global) (c_ : SpecExpr) (a_ : SpecExpr) (b_ : SpecExpr) → s.form ≡ forms.Conditional c a b → c_ ≡ c.value → a_ ≡ a.value → b_ ≡ b.value → spec_view s ≡ trees.Conditional s.at (spec_view c_) (spec_view a_) (spec_view b_)
is_conditional s c a b c_ a_ b_ is is_c is_a is_b =
    viewed s _ _ is (ap (λ g. form_view g s.at) (sym (forms.rolls-Conditional c a b)) ∙ ap (λ g. g s.at) (fold-roll-SpecForm (ℕ → PlainSpec) PlainSpec spec_form_layer spec_layer (layers.Conditional c a b)))
    ∙ ap (λ (z : SpecExpr). trees.Conditional s.at (spec_view z) (spec_view a.value) (spec_view b.value)) (sym is_c)
    ∙ ap (λ (z : SpecExpr). trees.Conditional s.at (spec_view c_) (spec_view z) (spec_view b.value)) (sym is_a)
    ∙ ap (λ (z : SpecExpr). trees.Conditional s.at (spec_view c_) (spec_view a_) (spec_view z)) (sym is_b)

pub is_implies : (s : SpecExpr) (a : Box SpecExpr Global) (b : Box SpecExpr Global) (a_ : SpecExpr) (b_ : SpecExpr) → s.form ≡ forms.Implies a b → a_ ≡ a.value → b_ ≡ b.value → spec_view s ≡ trees.Implies s.at (spec_view a_) (spec_view b_)
is_implies s a b a_ b_ is is_a is_b =
    viewed s _ _ is (ap (λ g. form_view g s.at) (sym (forms.rolls-Implies a b)) ∙ ap (λ g. g s.at) (fold-roll-SpecForm (ℕ → PlainSpec) PlainSpec spec_form_layer spec_layer (layers.Implies a b)))
    ∙ ap (λ (z : SpecExpr). trees.Implies s.at (spec_view z) (spec_view b.value)) (sym is_a)
    ∙ ap (λ (z : SpecExpr). trees.Implies s.at (spec_view a_) (spec_view z)) (sym is_b)

pub is_equivalent : (s : SpecExpr) (a : Box SpecExpr Global) (b : Box SpecExpr Global) (a_ : SpecExpr) (b_ : SpecExpr) → s.form ≡ forms.Equivalent a b → a_ ≡ a.value → b_ ≡ b.value → spec_view s ≡ trees.Equivalent s.at (spec_view a_) (spec_view b_)
is_equivalent s a b a_ b_ is is_a is_b =
    viewed s _ _ is (ap (λ g. form_view g s.at) (sym (forms.rolls-Equivalent a b)) ∙ ap (λ g. g s.at) (fold-roll-SpecForm (ℕ → PlainSpec) PlainSpec spec_form_layer spec_layer (layers.Equivalent a b)))
    ∙ ap (λ (z : SpecExpr). trees.Equivalent s.at (spec_view z) (spec_view b.value)) (sym is_a)
    ∙ ap (λ (z : SpecExpr). trees.Equivalent s.at (spec_view a_) (spec_view z)) (sym is_b)

pub is_old : (s : SpecExpr) (a : Box SpecExpr Global) (a_ : SpecExpr) → s.form ≡ forms.Old a → a_ ≡ a.value → spec_view s ≡ trees.Old s.at (spec_view a_)
is_old s a a_ is is_a =
    viewed s _ _ is (ap (λ g. form_view g s.at) (sym (forms.rolls-Old a)) ∙ ap (λ g. g s.at) (fold-roll-SpecForm (ℕ → PlainSpec) PlainSpec spec_form_layer spec_layer (layers.Old a)))
    ∙ ap (λ (z : SpecExpr). trees.Old s.at (spec_view z)) (sym is_a)

pub is_fresh : (s : SpecExpr) (a : Box SpecExpr Global) (a_ : SpecExpr) → s.form ≡ forms.Fresh a → a_ ≡ a.value → spec_view s ≡ trees.Fresh s.at (spec_view a_)
is_fresh s a a_ is is_a =
    viewed s _ _ is (ap (λ g. form_view g s.at) (sym (forms.rolls-Fresh a)) ∙ ap (λ g. g s.at) (fold-roll-SpecForm (ℕ → PlainSpec) PlainSpec spec_form_layer spec_layer (layers.Fresh a)))
    ∙ ap (λ (z : SpecExpr). trees.Fresh s.at (spec_view z)) (sym is_a)

pub is_invariant_for : (s : SpecExpr) (a : Box SpecExpr Global) (a_ : SpecExpr) → s.form ≡ forms.InvariantFor a → a_ ≡ a.value → spec_view s ≡ trees.InvariantFor s.at (spec_view a_)
is_invariant_for s a a_ is is_a =
    viewed s _ _ is (ap (λ g. form_view g s.at) (sym (forms.rolls-InvariantFor a)) ∙ ap (λ g. g s.at) (fold-roll-SpecForm (ℕ → PlainSpec) PlainSpec spec_form_layer spec_layer (layers.InvariantFor a)))
    ∙ ap (λ (z : SpecExpr). trees.InvariantFor s.at (spec_view z)) (sym is_a)

pub is_quantified : (s : SpecExpr) (q : Quantifier) (t : SpecType) (x : Identifier) (a : Box SpecExpr Global) (a_ : SpecExpr) → s.form ≡ forms.Quantified q t x a → a_ ≡ a.value → spec_view s ≡ trees.Quantified s.at q (spec_type_view t) (identifier_view x) (spec_view a_)
is_quantified s q t x a a_ is is_a =
    viewed s _ _ is (ap (λ g. form_view g s.at) (sym (forms.rolls-Quantified q t x a)) ∙ ap (λ g. g s.at) (fold-roll-SpecForm (ℕ → PlainSpec) PlainSpec spec_form_layer spec_layer (layers.Quantified q t x a)))
    ∙ ap (λ (z : SpecExpr). trees.Quantified s.at q (spec_type_view t) (identifier_view x) (spec_view z)) (sym is_a)

pub is_quantified_in : (s : SpecExpr) (q : Quantifier) (t : SpecType) (x : Identifier) (r : Box SpecExpr Global) (a : Box SpecExpr Global) (r_ : SpecExpr) (a_ : SpecExpr) → s.form ≡ forms.QuantifiedIn q t x r a → r_ ≡ r.value → a_ ≡ a.value → spec_view s ≡ trees.QuantifiedIn s.at q (spec_type_view t) (identifier_view x) (spec_view r_) (spec_view a_)
is_quantified_in s q t x r a r_ a_ is is_r is_a =
    viewed s _ _ is (ap (λ g. form_view g s.at) (sym (forms.rolls-QuantifiedIn q t x r a)) ∙ ap (λ g. g s.at) (fold-roll-SpecForm (ℕ → PlainSpec) PlainSpec spec_form_layer spec_layer (layers.QuantifiedIn q t x r a)))
    ∙ ap (λ (z : SpecExpr). trees.QuantifiedIn s.at q (spec_type_view t) (identifier_view x) (spec_view z) (spec_view a.value)) (sym is_r)
    ∙ ap (λ (z : SpecExpr). trees.QuantifiedIn s.at q (spec_type_view t) (identifier_view x) (spec_view r_) (spec_view z)) (sym is_a)

pub is_sum : (s : SpecExpr) (x : Identifier) (a : Box SpecExpr Global) (b : Box SpecExpr Global) (c : Box SpecExpr Global) (a_ : SpecExpr) (b_ : SpecExpr) (c_ : SpecExpr) → s.form ≡ forms.Sum x a b c → a_ ≡ a.value → b_ ≡ b.value → c_ ≡ c.value → spec_view s ≡ trees.Sum s.at (identifier_view x) (spec_view a_) (spec_view b_) (spec_view c_)
is_sum s x a b c a_ b_ c_ is is_a is_b is_c =
    viewed s _ _ is (ap (λ g. form_view g s.at) (sym (forms.rolls-Sum x a b c)) ∙ ap (λ g. g s.at) (fold-roll-SpecForm (ℕ → PlainSpec) PlainSpec spec_form_layer spec_layer (layers.Sum x a b c)))
    ∙ ap (λ (z : SpecExpr). trees.Sum s.at (identifier_view x) (spec_view z) (spec_view b.value) (spec_view c.value)) (sym is_a)
    ∙ ap (λ (z : SpecExpr). trees.Sum s.at (identifier_view x) (spec_view a_) (spec_view z) (spec_view c.value)) (sym is_b)
    ∙ ap (λ (z : SpecExpr). trees.Sum s.at (identifier_view x) (spec_view a_) (spec_view b_) (spec_view z)) (sym is_c)
