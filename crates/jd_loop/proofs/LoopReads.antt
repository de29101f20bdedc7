-- What is read after the writes of the loop rule's updates.
use Rattle.std.proofs.Common.{◌≡◌, Bool, true, false, cond, List, [], ◌∷◌, refl, sym, ap, ◌∙◌}
use Rattle.jd_heap.specs.Values.{Value, at_sort}
use Rattle.jd_loop.proofs.NewNames.{SameSorts}
use Rattle.jd_loop.specs.LoopNames.{RenewedVariable, renewed_variables, variables_before, constants_now}
use Rattle.jd_loop.specs.LoopPremises.{variable_before, saved_pairs, renewed_pairs}
use Rattle.jd_model.proofs.Writes.{new_values, out_head, out_tail, member_here, member_there, read_back, read_here, read_there, read_copied, in_not}
use Rattle.jd_model.specs.Occurrences.{AllApart, member}
use Rattle.jd_model.specs.Runs.{with_values}
use Rattle.jd_model.specs.States.{State, read, write}
use Rattle.jd_model.specs.TermValues.{updated}
use Rattle.jd_syntax.proofs.NameTests.{same_name_decides}
use Rattle.jd_syntax.specs.CodeNames.{same_name}
use Rattle.jd_syntax.specs.Names.{Name}

-- ---- the updates

-- the state with each old value saved
abbrev pub saved : State → List RenewedVariable → State → State
saved s [] t = t
saved s (r ∷ rs) t = saved s rs (write t r.before (read s r.variable))

pub updated_saves : (i s : State) (b : List Value) (rs : List RenewedVariable) (t : State) → updated i s b (saved_pairs rs) t ≡ saved s rs t
updated_saves i s b [] t = refl
updated_saves i s b (r ∷ rs) t = updated_saves i s b rs (write t r.before (read s r.variable))

pub saved_else : (s : State) (rs : List RenewedVariable) (t : State) (q : Name) → member q (variables_before rs) ≡ false → read (saved s rs t) q ≡ read t q
saved_else s [] t q e = refl
saved_else s (r ∷ rs) t q e =
    saved_else s rs (write t r.before (read s r.variable)) q (out_tail (same_name q r.before) (member q (variables_before rs)) e)
    ∙ read_there t r.before (read s r.variable) q (out_head (same_name q r.before) (member q (variables_before rs)) e)

-- each new variable has the value that the old one has in s
abbrev pub AllBefore : State → State → List RenewedVariable → Type 0
AllBefore t s [] = Unit {0}
AllBefore t s (r ∷ rs) = (read t r.before ≡ read s r.variable) × AllBefore t s rs

pub saved_all : (s : State) (rs : List RenewedVariable) → AllApart (variables_before rs) → SameSorts rs → (t : State) → AllBefore (saved s rs t) s rs
saved_all s [] d o t = tt
saved_all s (r ∷ rs) d o t = (
  saved_else s rs (write t r.before (read s r.variable)) r.before (in_not r.before (variables_before rs) d.0) ∙ read_copied t s r.before r.variable o.0,
  saved_all s rs d.1 o.2 (write t r.before (read s r.variable)),
)

pub before_same : (y z s : State) (rs : List RenewedVariable) → ((x : Name) → member x (variables_before rs) ≡ true → read z x ≡ read y x) → AllBefore y s rs → AllBefore z s rs
before_same y z s [] h a = tt
before_same y z s (r ∷ rs) h a = (h r.before (member_here r.before (variables_before rs)) ∙ a.0, before_same y z s rs (λ x e. h x (member_there x r.before (variables_before rs) e)) a.1)

pub read_before : (t s : State) (rs : List RenewedVariable) → AllBefore t s rs → (x : Name) → (member x (renewed_variables rs) ≡ false → read t x ≡ read s x) → read t (variable_before rs x) ≡ read s x
read_before t s [] a x h = h refl
read_before t s (r ∷ rs) a x h = by (λ g. read_before t s rs a.1 x g) (same_name x r.variable) refl
  where
    by : ((member x (renewed_variables rs) ≡ false → read t x ≡ read s x) → read t (variable_before rs x) ≡ read s x) → (b : Bool) → same_name x r.variable ≡ b → read t (cond b r.before (variable_before rs x)) ≡ read s x
    by more true p = a.0 ∙ ap (read s) (sym ((same_name_decides x r.variable).0 p))
    by more false p = more (λ e. h (ap (λ b. cond b true (member x (renewed_variables rs))) p ∙ e))

-- each new constant has the value that the variable has in t
abbrev pub AllNow : State → State → List RenewedVariable → Type 0
AllNow i t [] = Unit {0}
AllNow i t (r ∷ rs) = (read i r.now ≡ read t r.variable) × AllNow i t rs

abbrev pub values_in : State → List RenewedVariable → List Value
values_in t [] = []
values_in t (r ∷ rs) = read t r.variable ∷ values_in t rs

pub now_all : (t : State) (rs : List RenewedVariable) → AllApart (constants_now rs) → SameSorts rs → (i : State) → AllNow (with_values i (constants_now rs) (values_in t rs)) t rs
now_all t [] d o i = tt
now_all t (r ∷ rs) d o i = (
  sym (new_values (constants_now rs) (values_in t rs) (write i r.now (read t r.variable)) r.now d.0) ∙ read_copied i t r.now r.variable o.1,
  now_all t rs d.1 o.2 (write i r.now (read t r.variable)),
)

pub renewed_read : (i s : State) (b : List Value) (t : State) (rs : List RenewedVariable) → AllNow i t rs → (y : State) (x : Name) → (member x (renewed_variables rs) ≡ false → read y x ≡ read t x) → read (updated i s b (renewed_pairs rs) y) x ≡ read t x
renewed_read i s b t [] a y x h = h refl
renewed_read i s b t (r ∷ rs) a y x h = renewed_read i s b t rs a.1 (write y r.variable (read i r.now)) x (λ e. by (same_name x r.variable) refl e)
  where
    by : (c : Bool) → same_name x r.variable ≡ c → member x (renewed_variables rs) ≡ false → read (write y r.variable (read i r.now)) x ≡ read t x
    by true p e = ap (read (write y r.variable (read i r.now))) ((same_name_decides x r.variable).0 p) ∙ read_here y r.variable (read i r.now) ∙ ap (at_sort r.variable.sort) a.0 ∙ read_back t r.variable ∙ ap (read t) (sym ((same_name_decides x r.variable).0 p))
    by false p e = read_there y r.variable (read i r.now) x p ∙ h (ap (λ c. cond c true (member x (renewed_variables rs))) p ∙ e)
