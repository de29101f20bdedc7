-- What a statement leaves in scope.
use Rattle.std.proofs.Common.{◌≡◌, ℕ, false, List, refl}
use Rattle.jd_syntax.specs.JavaTrees as java
use Rattle.jd_syntax.specs.JavaTrees.{JavaStmt}
use Rattle.jd_bodies.specs.declared.place.Place.{Place}
use Rattle.jd_bodies.specs.Bodies.{Exits, lines}
use Rattle.jd_bodies.specs.Declarations.{Declarations}
use Rattle.jd_bodies.specs.Scopes.{Local}
use Rattle.jd_bodies.specs.Variables.{Progress}
use Rattle.jd_body_code.specs.Parted.{declares}

-- all but a declaration leave what was in scope
pub stays : (d : Declarations) (place : Place) (s : JavaStmt) (ls : List (List ℕ)) (x : Exits) (locals : List Local) (p : Progress) → declares s ≡ false → (lines d place s ls x locals p).locals ≡ locals
stays d place (java.Local at w xs) ls x locals p not = absurd cc
stays d place (java.Block at ss) ls x locals p not = refl
stays d place (java.Empty at) ls x locals p not = refl
stays d place (java.Evaluate at e) ls x locals p not = refl
stays d place (java.Label at j l s) ls x locals p not = refl
stays d place (java.If at c s) ls x locals p not = refl
stays d place (java.IfElse at c s t) ls x locals p not = refl
stays d place (java.While at j c s) ls x locals p not = refl
stays d place (java.For at j f c u s) ls x locals p not = refl
stays d place (java.Break at l) ls x locals p not = refl
stays d place (java.Continue at l) ls x locals p not = refl
stays d place (java.Return at e) ls x locals p not = refl
stays d place (java.Throw at e) ls x locals p not = refl
stays d place (java.Try at ss hs) ls x locals p not = refl
stays d place (java.TryFinally at ss hs ts) ls x locals p not = refl
stays d place (java.Super at es) ls x locals p not = refl
