-- The views of the forms of expressions.
use Rattle.std.proofs.Common.{◌≡◌, ℕ, List, map, Box, Global, Vec, sym, ap, ◌∙◌}
use Rattle.jd_syntax.specs.declared.java.AssignmentOperator.{AssignmentOperator}
use Rattle.jd_syntax.specs.declared.java.CountOperator.{CountOperator}
use Rattle.jd_syntax.specs.declared.java.InfixOperator.{InfixOperator}
use Rattle.jd_syntax.specs.declared.java.PrefixOperator.{PrefixOperator}
use Rattle.jd_syntax.specs.declared.java.WrittenType.{WrittenType}
use Rattle.jd_syntax.specs.declared.java.Expr.{Expr}
use Rattle.jd_syntax.specs.declared.java.ExprForm.{ExprForm}
use Rattle.jd_syntax.specs.declared.java.ExprForm.TheFolds.{fold-ExprForm, fold-roll-ExprForm, fold_out-Expr}
use Rattle.jd_syntax.specs.declared.java.ExprForm.TheOpen as layers
use Rattle.jd_syntax.specs.declared.java.ExprForm.TheVariants as forms
use Rattle.jd_syntax.specs.declared.java.Identifier.{Identifier}
use Rattle.jd_syntax.specs.JavaTypes.{identifier_view, written_view}
use Rattle.jd_syntax.specs.JavaTrees.{JavaExpr, java_exprs, java_form_layer, java_layer, java_view}
use Rattle.jd_syntax.specs.JavaTrees as trees

abbrev form_view : ExprForm → ℕ → JavaExpr
form_view = fold-ExprForm (ℕ → JavaExpr) JavaExpr java_form_layer java_layer

viewed : (e : Expr) (f : ExprForm) (x : JavaExpr) → e.form ≡ f → form_view f e.at ≡ x → java_view e ≡ x
viewed e f x is view = fold_out-Expr (ℕ → JavaExpr) JavaExpr java_form_layer java_layer e ∙ ap (λ g. form_view g e.at) is ∙ view

pub is_field : (e : Expr) (o : Box Expr Global) (x : Identifier) → e.form ≡ forms.Field o x → java_view e ≡ trees.Field e.at (java_view o.value) (identifier_view x)
is_field e o x is = viewed e _ _ is (ap (λ g. form_view g e.at) (sym (forms.rolls-Field o x)) ∙ ap (λ g. g e.at) (fold-roll-ExprForm (ℕ → JavaExpr) JavaExpr java_form_layer java_layer (layers.Field o x)))

pub is_method_call : (e : Expr) (o : Box Expr Global) (x : Identifier) (es : Vec Expr Global) → e.form ≡ forms.MethodCall o x es → java_view e ≡ trees.MethodCall e.at (java_view o.value) (identifier_view x) (java_exprs (map java_view es.items))
is_method_call e o x es is = viewed e _ _ is (ap (λ g. form_view g e.at) (sym (forms.rolls-MethodCall o x es)) ∙ ap (λ g. g e.at) (fold-roll-ExprForm (ℕ → JavaExpr) JavaExpr java_form_layer java_layer (layers.MethodCall o x es)))

pub is_new : (e : Expr) (x : Identifier) (es : Vec Expr Global) → e.form ≡ forms.New x es → java_view e ≡ trees.New e.at (identifier_view x) (java_exprs (map java_view es.items))
is_new e x es is = viewed e _ _ is (ap (λ g. form_view g e.at) (sym (forms.rolls-New x es)) ∙ ap (λ g. g e.at) (fold-roll-ExprForm (ℕ → JavaExpr) JavaExpr java_form_layer java_layer (layers.New x es)))

pub is_prefix : (e : Expr) (o : PrefixOperator) (a : Box Expr Global) → e.form ≡ forms.Prefix o a → java_view e ≡ trees.Prefix e.at o (java_view a.value)
is_prefix e o a is = viewed e _ _ is (ap (λ g. form_view g e.at) (sym (forms.rolls-Prefix o a)) ∙ ap (λ g. g e.at) (fold-roll-ExprForm (ℕ → JavaExpr) JavaExpr java_form_layer java_layer (layers.Prefix o a)))

pub is_postfix : (e : Expr) (c : CountOperator) (a : Box Expr Global) → e.form ≡ forms.Postfix c a → java_view e ≡ trees.Postfix e.at c (java_view a.value)
is_postfix e c a is = viewed e _ _ is (ap (λ g. form_view g e.at) (sym (forms.rolls-Postfix c a)) ∙ ap (λ g. g e.at) (fold-roll-ExprForm (ℕ → JavaExpr) JavaExpr java_form_layer java_layer (layers.Postfix c a)))

pub is_assign : (e : Expr) (o : AssignmentOperator) (a v : Box Expr Global) → e.form ≡ forms.Assign o a v → java_view e ≡ trees.Assign e.at o (java_view a.value) (java_view v.value)
is_assign e o a v is = viewed e _ _ is (ap (λ g. form_view g e.at) (sym (forms.rolls-Assign o a v)) ∙ ap (λ g. g e.at) (fold-roll-ExprForm (ℕ → JavaExpr) JavaExpr java_form_layer java_layer (layers.Assign o a v)))

pub is_index : (e : Expr) (a i : Box Expr Global) → e.form ≡ forms.Index a i → java_view e ≡ trees.Index e.at (java_view a.value) (java_view i.value)
is_index e a i is = viewed e _ _ is (ap (λ g. form_view g e.at) (sym (forms.rolls-Index a i)) ∙ ap (λ g. g e.at) (fold-roll-ExprForm (ℕ → JavaExpr) JavaExpr java_form_layer java_layer (layers.Index a i)))

pub is_conditional : (e : Expr) (c a b : Box Expr Global) → e.form ≡ forms.Conditional c a b → java_view e ≡ trees.Conditional e.at (java_view c.value) (java_view a.value) (java_view b.value)
is_conditional e c a b is = viewed e _ _ is (ap (λ g. form_view g e.at) (sym (forms.rolls-Conditional c a b)) ∙ ap (λ g. g e.at) (fold-roll-ExprForm (ℕ → JavaExpr) JavaExpr java_form_layer java_layer (layers.Conditional c a b)))

-- ---- with the parts that were reached by references

pub prefix_is : (e a : Expr) (o p : PrefixOperator) (b : Box Expr Global) → e.form ≡ forms.Prefix o b → o ≡ p → a ≡ b.value → java_view e ≡ trees.Prefix e.at p (java_view a)
prefix_is e a o p b is operator part = is_prefix e o b is ∙ ap (λ x. trees.Prefix e.at x (java_view b.value)) operator ∙ ap (λ (y : Expr). trees.Prefix e.at p (java_view y)) (sym part)

pub postfix_is : (e a : Expr) (c : CountOperator) (b : Box Expr Global) → e.form ≡ forms.Postfix c b → a ≡ b.value → java_view e ≡ trees.Postfix e.at c (java_view a)
postfix_is e a c b is part = is_postfix e c b is ∙ ap (λ (y : Expr). trees.Postfix e.at c (java_view y)) (sym part)

pub assign_is : (e a v : Expr) (o : AssignmentOperator) (b w : Box Expr Global) → e.form ≡ forms.Assign o b w → a ≡ b.value → v ≡ w.value → java_view e ≡ trees.Assign e.at o (java_view a) (java_view v)
assign_is e a v o b w is one other = is_assign e o b w is ∙ ap (λ (y : Expr). trees.Assign e.at o (java_view y) (java_view w.value)) (sym one) ∙ ap (λ (y : Expr). trees.Assign e.at o (java_view a) (java_view y)) (sym other)

pub index_is : (e a i : Expr) (b j : Box Expr Global) → e.form ≡ forms.Index b j → a ≡ b.value → i ≡ j.value → java_view e ≡ trees.Index e.at (java_view a) (java_view i)
index_is e a i b j is one other = is_index e b j is ∙ ap (λ (y : Expr). trees.Index e.at (java_view y) (java_view j.value)) (sym one) ∙ ap (λ (y : Expr). trees.Index e.at (java_view a) (java_view y)) (sym other)

pub conditional_is : (e c a b : Expr) (x y z : Box Expr Global) → e.form ≡ forms.Conditional x y z → c ≡ x.value → a ≡ y.value → b ≡ z.value → java_view e ≡ trees.Conditional e.at (java_view c) (java_view a) (java_view b)
conditional_is e c a b x y z is one two three =
    is_conditional e x y z is ∙ ap (λ (u : Expr). trees.Conditional e.at (java_view u) (java_view y.value) (java_view z.value)) (sym one) ∙ ap (λ (u : Expr). trees.Conditional e.at (java_view c) (java_view u) (java_view z.value)) (sym two)
    ∙ ap (λ (u : Expr). trees.Conditional e.at (java_view c) (java_view a) (java_view u)) (sym three)

pub cast_is : (e a : Expr) (w : WrittenType) (b : Box Expr Global) → e.form ≡ forms.Cast w b → a ≡ b.value → java_view e ≡ trees.Cast e.at (written_view w) (java_view a)
cast_is e a w b is part =
    viewed e _ _ is (ap (λ g. form_view g e.at) (sym (forms.rolls-Cast w b)) ∙ ap (λ g. g e.at) (fold-roll-ExprForm (ℕ → JavaExpr) JavaExpr java_form_layer java_layer (layers.Cast w b)))
    ∙ ap (λ (y : Expr). trees.Cast e.at (written_view w) (java_view y)) (sym part)

pub instance_is : (e a : Expr) (w : WrittenType) (b : Box Expr Global) → e.form ≡ forms.InstanceOf b w → a ≡ b.value → java_view e ≡ trees.InstanceOf e.at (java_view a) (written_view w)
instance_is e a w b is part =
    viewed e _ _ is (ap (λ g. form_view g e.at) (sym (forms.rolls-InstanceOf b w)) ∙ ap (λ g. g e.at) (fold-roll-ExprForm (ℕ → JavaExpr) JavaExpr java_form_layer java_layer (layers.InstanceOf b w)))
    ∙ ap (λ (y : Expr). trees.InstanceOf e.at (java_view y) (written_view w)) (sym part)

pub infix_is : (e a b : Expr) (o : InfixOperator) (x y : Box Expr Global) → e.form ≡ forms.Infix o x y → a ≡ x.value → b ≡ y.value → java_view e ≡ trees.Infix e.at o (java_view a) (java_view b)
infix_is e a b o x y is one other =
    viewed e _ _ is (ap (λ g. form_view g e.at) (sym (forms.rolls-Infix o x y)) ∙ ap (λ g. g e.at) (fold-roll-ExprForm (ℕ → JavaExpr) JavaExpr java_form_layer java_layer (layers.Infix o x y)))
    ∙ ap (λ (u : Expr). trees.Infix e.at o (java_view u) (java_view y.value)) (sym one) ∙ ap (λ (u : Expr). trees.Infix e.at o (java_view a) (java_view u)) (sym other)

pub array_is : (e a : Expr) (b : Box Expr Global) → e.form ≡ forms.NewArray b → a ≡ b.value → java_view e ≡ trees.NewArray e.at (java_view a)
array_is e a b is part =
    viewed e _ _ is (ap (λ g. form_view g e.at) (sym (forms.rolls-NewArray b)) ∙ ap (λ g. g e.at) (fold-roll-ExprForm (ℕ → JavaExpr) JavaExpr java_form_layer java_layer (layers.NewArray b)))
    ∙ ap (λ (y : Expr). trees.NewArray e.at (java_view y)) (sym part)

pub call_is : (e a : Expr) (x : Identifier) (xs : List Expr) (b : Box Expr Global) (es : Vec Expr Global) → e.form ≡ forms.MethodCall b x es → a ≡ b.value → xs ≡ es.items
    → java_view e ≡ trees.MethodCall e.at (java_view a) (identifier_view x) (java_exprs (map java_view xs))
call_is e a x xs b es is part all =
    is_method_call e b x es is ∙ ap (λ (y : Expr). trees.MethodCall e.at (java_view y) (identifier_view x) (java_exprs (map java_view es.items))) (sym part)
    ∙ ap (λ (l : List Expr). trees.MethodCall e.at (java_view a) (identifier_view x) (java_exprs (map java_view l))) (sym all)
