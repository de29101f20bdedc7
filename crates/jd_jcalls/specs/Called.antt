-- What a call names, in plain data.
use Rattle.std.specs.Prelude.{ℕ, List}
use Rattle.jd_jcalls.specs.declared.called.Called.{Called}
use Rattle.jd_jcalls.specs.declared.called.Called.TheVariants as code

pub data PlainCalled : Type 0 where
  MethodNamed : List ℕ → PlainCalled
  ConstructorOf : List ℕ → PlainCalled
  ConstructorAbove : PlainCalled

abbrev pub called_view : Called → PlainCalled
called_view (code.Method m) = MethodNamed m.now
called_view (code.New c) = ConstructorOf c.now
called_view code.Super = ConstructorAbove
