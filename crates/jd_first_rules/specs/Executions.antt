-- What a rule makes of code at a focus is what it makes of the statement there.
use Rattle.std.proofs.Common.{◌≡◌, Option, Some, None, option_map, refl, sym, ap, ◌∙◌, subst}
use Rattle.jd_syntax.specs.Names.{Name}
use Rattle.jd_syntax.specs.Codes.{Expr, Stmt, Set, Frame, Return, Catch, Block, Finally, PlainCode, Done, Then}
use Rattle.jd_term.specs.Terms.{PlainTerm}
use Rattle.jd_term.specs.Formulas.{PlainFormula, Modal}
use Rattle.jd_term.specs.declared.formula.Modality.{Modality}
use Rattle.jd_model.specs.Contexts.{Context, Here, InBlock, InFrame, InCatch, InFinally, chain, fill, one}
use Rattle.jd_first_steps.specs.declared.rules.FirstRule.{FirstRule}
use Rattle.jd_first_steps.specs.declared.rules.FirstRule.TheVariants.{SetSimple, FrameReturn, CatchEmpty}
use Rattle.jd_first_steps.specs.Rewrites.{simple_term, IsSetSimple, IsFrameReturn, IsCatchEmpty}
use Rattle.jd_first_rules.specs.Focus.{Effect, return_effect, nothing_effect, at_stmt, first_some, followed, in_block, in_frame, in_catch, in_finally, at_focus, within, with_update, effected, executed}

-- ---- a statement at a focus is found

abbrev set_effect : Context → Name → PlainTerm → Effect
set_effect k x t = record { update = Some (x, t); code = fill k Done }

finds_set : (k : Context) (x : Name) (v : Expr) (t : PlainTerm) → simple_term v ≡ Some t → at_focus SetSimple (fill k (one (Set x v))) ≡ Some (set_effect k x t)
finds_set (Here rest) x v t e = ap (λ o. option_map (followed rest) (first_some (option_map (λ u. record { update = Some (x, u); code = Done }) o) None)) e
finds_set (InBlock l k rest) x v t e = ap (λ o. option_map (followed rest) (option_map (in_block l) o)) (finds_set k x v t e)
finds_set (InFrame r k rest) x v t e = ap (λ o. option_map (followed rest) (option_map (in_frame r) o)) (finds_set k x v t e)
finds_set (InCatch k y h rest) x v t e = ap (λ o. option_map (followed rest) (option_map (in_catch y h) o)) (finds_set k x v t e)
finds_set (InFinally k f rest) x v t e = ap (λ o. option_map (followed rest) (option_map (in_finally f) o)) (finds_set k x v t e)

no_return : (r : Name) (k : Context) (q : Option Name) (b : PlainCode) → return_effect r (fill k (one (Frame q b))) ≡ None
no_return r (Here rest) q b = refl
no_return r (InBlock l k rest) q b = refl
no_return r (InFrame p k rest) q b = refl
no_return r (InCatch k y h rest) q b = refl
no_return r (InFinally k f rest) q b = refl

at_frame : (r : Option Name) (k : Context) (q : Option Name) (b : PlainCode) → at_stmt FrameReturn (Frame r (fill k (one (Frame q b)))) ≡ None
at_frame None k q b = refl
at_frame (Some r) k q b = no_return r k q b

abbrev return_at : Name → Expr → PlainCode → PlainCode
return_at x v more = one (Frame (Some x) (Then (Return v) more))

abbrev frame_effect : Context → Name → Expr → Effect
frame_effect k x v = record { update = None; code = fill k (one (Set x v)) }

finds_return : (k : Context) (x : Name) (v : Expr) (more : PlainCode) (t : PlainTerm) → simple_term v ≡ Some t → at_focus FrameReturn (fill k (return_at x v more)) ≡ Some (frame_effect k x v)
finds_return (Here rest) x v more t e = ap (λ o. option_map (followed rest) (first_some (option_map (λ u. record { update = None; code = one (Set x v) }) o) (within FrameReturn (Frame (Some x) (Then (Return v) more))))) e
finds_return (InBlock l k rest) x v more t e = ap (λ o. option_map (followed rest) (option_map (in_block l) o)) (finds_return k x v more t e)
finds_return (InFrame r k rest) x v more t e =
    ap (λ o. option_map (followed rest) (first_some o (option_map (in_frame r) (at_focus FrameReturn (fill k (return_at x v more)))))) (at_frame r k (Some x) (Then (Return v) more))
    ∙ ap (λ o. option_map (followed rest) (option_map (in_frame r) o)) (finds_return k x v more t e)
finds_return (InCatch k y h rest) x v more t e = ap (λ o. option_map (followed rest) (option_map (in_catch y h) o)) (finds_return k x v more t e)
finds_return (InFinally k f rest) x v more t e = ap (λ o. option_map (followed rest) (option_map (in_finally f) o)) (finds_return k x v more t e)

no_nothing : (k : Context) (s : Stmt) → nothing_effect (fill k (one s)) ≡ None
no_nothing (Here rest) s = refl
no_nothing (InBlock l k rest) s = refl
no_nothing (InFrame p k rest) s = refl
no_nothing (InCatch k y h rest) s = refl
no_nothing (InFinally k f rest) s = refl

abbrev catch_effect : Context → Effect
catch_effect k = record { update = None; code = fill k Done }

finds_catch : (k : Context) (x : Name) (g : PlainCode) → at_focus CatchEmpty (fill k (one (Catch Done x g))) ≡ Some (catch_effect k)
finds_catch (Here rest) x g = refl
finds_catch (InBlock l k rest) x g = ap (λ o. option_map (followed rest) (option_map (in_block l) o)) (finds_catch k x g)
finds_catch (InFrame r k rest) x g = ap (λ o. option_map (followed rest) (option_map (in_frame r) o)) (finds_catch k x g)
finds_catch (InCatch k y h rest) x g =
    ap (λ o. option_map (followed rest) (first_some o (option_map (in_catch y h) (at_focus CatchEmpty (fill k (one (Catch Done x g))))))) (no_nothing k (Catch Done x g))
    ∙ ap (λ o. option_map (followed rest) (option_map (in_catch y h) o)) (finds_catch k x g)
finds_catch (InFinally k f rest) x g = ap (λ o. option_map (followed rest) (option_map (in_finally f) o)) (finds_catch k x g)

-- ---- and what is found is a statement at a focus

pub record Found (rule : FirstRule) (c : PlainCode) (e : Effect) : Type 0 where
  pub context : Context
  pub stmt : Stmt
  pub here : Effect
  pub made : at_stmt rule stmt ≡ Some here
  pub found : c ≡ fill context (one stmt)
  pub update : e.update ≡ here.update
  pub code : e.code ≡ fill context here.code

no_some : {A : Type 0} {x : A} → None ≡ Some x → ⊥
no_some h = cc

some_same : {A : Type 0} {x y : A} → Some x ≡ Some y → x ≡ y
some_same h = cc

pub record Mapped (A B : Type 0) (f : A → B) (o : Option A) (y : B) : Type 0 where
  pub from : A
  pub is : o ≡ Some from
  pub to : f from ≡ y

mapped : {A B : Type 0} (f : A → B) (o : Option A) (y : B) → option_map f o ≡ Some y → Mapped A B f o y
mapped f None y e = absurd (no_some e)
mapped f (Some x) y e = record { from = x; is = refl; to = some_same e }

mutual
  found_code : (rule : FirstRule) (c : PlainCode) (e : Effect) → at_focus rule c ≡ Some e → Found rule c e
  found_code rule Done e eq = absurd (no_some eq)
  found_code rule (Then s rest) e eq =
      let m = mapped (followed rest) (first_some (at_stmt rule s) (within rule s)) e eq in
      choose (at_stmt rule s) refl (λ w. found_stmt rule s m.from w rest) m.is m.to
    where
      choose : {m : Effect} (o : Option Effect) → at_stmt rule s ≡ o → (within rule s ≡ Some m → Found rule (Then s rest) (followed rest m)) → first_some o (within rule s) ≡ Some m → followed rest m ≡ e → Found rule (Then s rest) e
      choose {m} None is inner w to = subst (Found rule (Then s rest)) to (inner w)
      choose {m} (Some h) is inner w to = record {
        context = Here rest;
        stmt = s;
        here = h;
        made = is;
        found = refl;
        update = sym (ap (λ x. x.update) to) ∙ ap (λ x. x.update) (sym (some_same w));
        code = sym (ap (λ x. x.code) to) ∙ ap (λ x. chain x.code rest) (sym (some_same w));
      }

  found_stmt : (rule : FirstRule) (s : Stmt) (e : Effect) → within rule s ≡ Some e → (rest : PlainCode) → Found rule (Then s rest) (followed rest e)
  found_stmt rule (Block l c) e eq rest =
      let m = mapped (in_block l) (at_focus rule c) e eq in
      let f = found_code rule c m.from m.is in
      record {
        context = InBlock l f.context rest;
        stmt = f.stmt;
        here = f.here;
        made = f.made;
        found = ap (λ d. Then (Block l d) rest) f.found;
        update = sym (ap (λ x. x.update) m.to) ∙ f.update;
        code = sym (ap (λ x. chain x.code rest) m.to) ∙ ap (λ d. Then (Block l d) rest) f.code;
      }
  found_stmt rule (Frame r c) e eq rest =
      let m = mapped (in_frame r) (at_focus rule c) e eq in
      let f = found_code rule c m.from m.is in
      record {
        context = InFrame r f.context rest;
        stmt = f.stmt;
        here = f.here;
        made = f.made;
        found = ap (λ d. Then (Frame r d) rest) f.found;
        update = sym (ap (λ x. x.update) m.to) ∙ f.update;
        code = sym (ap (λ x. chain x.code rest) m.to) ∙ ap (λ d. Then (Frame r d) rest) f.code;
      }
  found_stmt rule (Catch c y h) e eq rest =
      let m = mapped (in_catch y h) (at_focus rule c) e eq in
      let f = found_code rule c m.from m.is in
      record {
        context = InCatch f.context y h rest;
        stmt = f.stmt;
        here = f.here;
        made = f.made;
        found = ap (λ d. Then (Catch d y h) rest) f.found;
        update = sym (ap (λ x. x.update) m.to) ∙ f.update;
        code = sym (ap (λ x. chain x.code rest) m.to) ∙ ap (λ d. Then (Catch d y h) rest) f.code;
      }
  found_stmt rule (Finally c g) e eq rest =
      let m = mapped (in_finally g) (at_focus rule c) e eq in
      let f = found_code rule c m.from m.is in
      record {
        context = InFinally f.context g rest;
        stmt = f.stmt;
        here = f.here;
        made = f.made;
        found = ap (λ d. Then (Finally d g) rest) f.found;
        update = sym (ap (λ x. x.update) m.to) ∙ f.update;
        code = sym (ap (λ x. chain x.code rest) m.to) ∙ ap (λ d. Then (Finally d g) rest) f.code;
      }
  found_stmt rule s e eq rest = absurd (no_some eq)

-- ---- what each rule makes of a formula

pub set_executed : (before after : PlainFormula) → IsSetSimple before after → executed SetSimple before ≡ Some after
set_executed before after is =
    ap (executed SetSimple) is.found
    ∙ ap (option_map (effected is.modality is.body)) (finds_set is.context is.variable is.value is.term is.simple)
    ∙ ap Some (sym is.made)

pub return_executed : (before after : PlainFormula) → IsFrameReturn before after → executed FrameReturn before ≡ Some after
return_executed before after is =
    ap (executed FrameReturn) is.found
    ∙ ap (option_map (effected is.modality is.body)) (finds_return is.context is.variable is.value is.dropped is.term is.simple)
    ∙ ap Some (sym is.made)

pub catch_executed : (before after : PlainFormula) → IsCatchEmpty before after → executed CatchEmpty before ≡ Some after
catch_executed before after is =
    ap (executed CatchEmpty) is.found
    ∙ ap (option_map (effected is.modality is.body)) (finds_catch is.context is.variable is.handler)
    ∙ ap Some (sym is.made)

-- the statement, and what it becomes
record SetHere (s : Stmt) (h : Effect) : Type 0 where
  variable : Name
  value : Expr
  term : PlainTerm
  simple : simple_term value ≡ Some term
  is : s ≡ Set variable value
  effect : h ≡ record { update = Some (variable, term); code = Done }

set_here : (s : Stmt) (h : Effect) → at_stmt SetSimple s ≡ Some h → SetHere s h
set_here (Set x v) h e =
    let m = mapped (λ t. record { update = Some (x, t); code = Done }) (simple_term v) h e in
    record { variable = x; value = v; term = m.from; simple = m.is; is = refl; effect = sym m.to }
set_here s h e = absurd (no_some e)

set_of_found : (m : Modality) (c : PlainCode) (a after : PlainFormula) (e : Effect) → Found SetSimple c e → effected m a e ≡ after → IsSetSimple (Modal m c a) after
set_of_found m c a after e f to =
    let s = set_here f.stmt f.here f.made in
    record {
      modality = m;
      context = f.context;
      variable = s.variable;
      value = s.value;
      term = s.term;
      body = a;
      simple = s.simple;
      found = ap (λ d. Modal m d a) (f.found ∙ ap (λ t. fill f.context (one t)) s.is);
      made =
          sym to
          ∙ ap (λ u. with_update u (Modal m e.code a)) (f.update ∙ ap (λ h. h.update) s.effect)
          ∙ ap (λ d. with_update (Some (s.variable, s.term)) (Modal m d a)) (f.code ∙ ap (λ h. fill f.context h.code) s.effect);
    }

pub set_from : (before after : PlainFormula) → executed SetSimple before ≡ Some after → IsSetSimple before after
set_from (Modal m c a) after e =
    let w = mapped (effected m a) (at_focus SetSimple c) after e in
    set_of_found m c a after w.from (found_code SetSimple c w.from w.is) w.to
set_from f after e = absurd (no_some e)

record ReturnHere (s : Stmt) (h : Effect) : Type 0 where
  variable : Name
  value : Expr
  term : PlainTerm
  dropped : PlainCode
  simple : simple_term value ≡ Some term
  is : s ≡ Frame (Some variable) (Then (Return value) dropped)
  effect : h ≡ record { update = None; code = one (Set variable value) }

return_here : (s : Stmt) (h : Effect) → at_stmt FrameReturn s ≡ Some h → ReturnHere s h
return_here (Frame (Some x) (Then (Return v) more)) h e =
    let m = mapped (λ t. record { update = None; code = one (Set x v) }) (simple_term v) h e in
    record { variable = x; value = v; term = m.from; dropped = more; simple = m.is; is = refl; effect = sym m.to }
return_here s h e = absurd (no_some e)

return_of_found : (m : Modality) (c : PlainCode) (a after : PlainFormula) (e : Effect) → Found FrameReturn c e → effected m a e ≡ after → IsFrameReturn (Modal m c a) after
return_of_found m c a after e f to =
    let s = return_here f.stmt f.here f.made in
    record {
      modality = m;
      context = f.context;
      variable = s.variable;
      value = s.value;
      term = s.term;
      dropped = s.dropped;
      body = a;
      simple = s.simple;
      found = ap (λ d. Modal m d a) (f.found ∙ ap (λ t. fill f.context (one t)) s.is);
      made =
          sym to
          ∙ ap (λ u. with_update u (Modal m e.code a)) (f.update ∙ ap (λ h. h.update) s.effect)
          ∙ ap (λ d. Modal m d a) (f.code ∙ ap (λ h. fill f.context h.code) s.effect);
    }

pub return_from : (before after : PlainFormula) → executed FrameReturn before ≡ Some after → IsFrameReturn before after
return_from (Modal m c a) after e =
    let w = mapped (effected m a) (at_focus FrameReturn c) after e in
    return_of_found m c a after w.from (found_code FrameReturn c w.from w.is) w.to
return_from f after e = absurd (no_some e)

record CatchHere (s : Stmt) (h : Effect) : Type 0 where
  variable : Name
  handler : PlainCode
  is : s ≡ Catch Done variable handler
  effect : h ≡ record { update = None; code = Done }

catch_here : (s : Stmt) (h : Effect) → at_stmt CatchEmpty s ≡ Some h → CatchHere s h
catch_here (Catch Done x g) h e = record { variable = x; handler = g; is = refl; effect = sym (some_same e) }
catch_here s h e = absurd (no_some e)

catch_of_found : (m : Modality) (c : PlainCode) (a after : PlainFormula) (e : Effect) → Found CatchEmpty c e → effected m a e ≡ after → IsCatchEmpty (Modal m c a) after
catch_of_found m c a after e f to =
    let s = catch_here f.stmt f.here f.made in
    record {
      modality = m;
      context = f.context;
      variable = s.variable;
      handler = s.handler;
      body = a;
      found = ap (λ d. Modal m d a) (f.found ∙ ap (λ t. fill f.context (one t)) s.is);
      made =
          sym to
          ∙ ap (λ u. with_update u (Modal m e.code a)) (f.update ∙ ap (λ h. h.update) s.effect)
          ∙ ap (λ d. Modal m d a) (f.code ∙ ap (λ h. fill f.context h.code) s.effect);
    }

pub catch_from : (before after : PlainFormula) → executed CatchEmpty before ≡ Some after → IsCatchEmpty before after
catch_from (Modal m c a) after e =
    let w = mapped (effected m a) (at_focus CatchEmpty c) after e in
    catch_of_found m c a after w.from (found_code CatchEmpty c w.from w.is) w.to
catch_from f after e = absurd (no_some e)
