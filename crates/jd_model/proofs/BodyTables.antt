-- Where no body of the tables assigns the heap's variable, no body of the program does.
use Rattle.std.proofs.Common.{◌≡◌, ◌==◌, if◌then◌else◌, ℕ, zero, suc, Bool, true, false, List, [], ◌∷◌, map, take, Option, Some, None, refl, subst}
use Rattle.std.specs.List.{AllByRecursion}
use Rattle.std.proofs.lemmas.List.Elements.{recursion_from_All}
use Rattle.jd_syntax.specs.Names.{Name, Declared}
use Rattle.jd_model.specs.Occurrences.{Always, MaybeIn, CodeIn, AllOf}
use Rattle.jd_model.specs.Bodies.{NotHeap, AssignsNoHeap, AllAssignNoHeap}
use Rattle.jd_model.specs.ContractForms.{PlainBody, PlainContracts}
use Rattle.jd_model.specs.Cases.{SpecifiedProgram}
use Rattle.jd_model.specs.Tables.{body_in, receiver_then, BodyAt, TablesStandFor}
use Rattle.jd_model.specs.BodyTables.{RowAssignsNoHeap, BodiesAssignNoHeap}

row_of : (l : List PlainBody) → AllByRecursion RowAssignsNoHeap l → (m : ℕ) (f : PlainBody) → body_in l m ≡ Some f → RowAssignsNoHeap f
row_of [] h m f e = absurd (no e)
  where
    no : {x : PlainBody} → None ≡ Some x → ⊥
    no q = cc
row_of (b ∷ bs) h m f e = by (row_of bs h.1 m f) (b.method == m) e
  where
    same : {x y : PlainBody} → Some x ≡ Some y → x ≡ y
    same q = cc

    by : (body_in bs m ≡ Some f → RowAssignsNoHeap f) → (c : Bool) → (if c then Some b else body_in bs m) ≡ Some f → RowAssignsNoHeap f
    by more true q = subst RowAssignsNoHeap (same q) h.0
    by more false q = more q

names_in : (l : List Declared) → AllByRecursion (λ (v : Declared). NotHeap v.name) l → (k : ℕ) → AllOf NotHeap (map (λ (v : Declared). v.name) (take k l))
names_in l h zero = tt
names_in [] h (suc k) = tt
names_in (v ∷ l) h (suc k) = (h.0, names_in l h.1 k)

receiver_in : (r : Option Name) (xs : List Name) → AllOf NotHeap (receiver_then r xs) → MaybeIn Always NotHeap r × AllOf NotHeap xs
receiver_in None xs h = (tt, h)
receiver_in (Some x) xs h = h

pub bodies_assign_no_heap : (t : PlainContracts) (p : SpecifiedProgram) → TablesStandFor t p → BodiesAssignNoHeap t → AllAssignNoHeap p.setting.program
bodies_assign_no_heap t p tables rows m b e = by (body_in t.bodies m) refl (subst (BodyAt (body_in t.bodies m)) e (tables.bodies m))
  where
    by : (o : Option PlainBody) → body_in t.bodies m ≡ o → BodyAt o (Some b) → AssignsNoHeap b
    by None q h = absurd h
    by (Some f) q h =
        let row = row_of t.bodies (recursion_from_All RowAssignsNoHeap t.bodies rows) m f q in
        let r = receiver_in b.receiver b.parameters (subst (AllOf NotHeap) h.0 (names_in f.vars (recursion_from_All (λ (v : Declared). NotHeap v.name) f.vars row.variables) f.params)) in
        record { receiver = r.0; parameters = r.1; code = subst (CodeIn Always NotHeap) h.2 row.code }
