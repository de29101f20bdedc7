-- What is no field is apart from nothing.
use Rattle.std.proofs.Common.{false, refl, ◌≡◌}
use Rattle.jd_taclets.specs.Conditions.{are_apart}
use Rattle.jd_term.specs.Terms.{Anon, Arithmetic, Boolean, Bound, Constant, Create, CreatedField, ElementField, Length, NamedField, Negation, NullTerm, Number, PlainTerm, ProgramVariable, Select, Store, Sum, Wrap}

pub never_apart : (f : PlainTerm) → are_apart f NullTerm ≡ false
never_apart (Number z) = refl
never_apart (Boolean b) = refl
never_apart NullTerm = refl
never_apart (ProgramVariable x) = refl
never_apart (Constant c) = refl
never_apart (Bound k s) = refl
never_apart (Arithmetic op t u) = refl
never_apart (Negation t) = refl
never_apart (Wrap t) = refl
never_apart (Length t) = refl
never_apart (Select s h o f) = refl
never_apart (Sum t u a) = refl
never_apart (Store h o f t) = refl
never_apart (Create h o) = refl
never_apart (Anon h l g) = refl
never_apart (NamedField f) = refl
never_apart CreatedField = refl
never_apart (ElementField t) = refl

pub ruleset never = never_apart
