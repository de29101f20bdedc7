-- Code at a focus of spelled code.
use Rattle.std.proofs.Common.{refl, ◌&&◌}
use Rattle.jd_base.specs.declared.sort.Sort.TheVariants.{Ref as RefSort}
use Rattle.jd_model.specs.Contexts.{Context, Here, InBlock, InCatch, InFinally, InFrame, chain, fill}
use Rattle.jd_spelled_first_steps.proofs.Sorts.{all_2, all_3}
use Rattle.jd_spelled_first_steps.specs.Focus.{SpelledCode, returns_at}
use Rattle.jd_spelled_first_steps.specs.Laws.{FocusKeepsSpelled}
use Rattle.jd_syntax.specs.CodeNames.{same_sort}
use Rattle.jd_syntax.specs.Codes.{Done, PlainCode, Then}
use Rattle.jd_tforms.specs.Sorted.{Returns, code_sorted, result_fits, returns_of, stmt_sorted}
use Rattle.jd_tgrammar.specs.NameTables.{NameTable}

module _ (names : NameTable) where
  chain_parts : (r : Returns) (c d : PlainCode) → SpelledCode names r (chain c d) → SpelledCode names r c × SpelledCode names r d
  chain_parts r Done d h = ((tt, refl), h)
  chain_parts r (Then s c) d h =
      let g = all_2 (stmt_sorted names r s) (code_sorted names r (chain c d)) h.1 in
      let k = chain_parts r c d (h.0.1, g.1) in
      (((h.0.0, k.0.0), λ i. g.0 i && k.0.1 i), k.1)

  chain_spelled : (r : Returns) (c d : PlainCode) → SpelledCode names r c → SpelledCode names r d → SpelledCode names r (chain c d)
  chain_spelled r Done d h k = k
  chain_spelled r (Then s c) d h k =
      let g = all_2 (stmt_sorted names r s) (code_sorted names r c) h.1 in
      let m = chain_spelled r c d (h.0.1, g.1) k in
      ((h.0.0, m.0), λ i. g.0 i && m.1 i)

  pub focused : (r : Returns) (k : Context) (c : PlainCode) → SpelledCode names r (fill k c) → SpelledCode names (returns_at r k) c
  focused r (Here rest) c h = (chain_parts r c rest h).0
  focused r (InBlock l k rest) c h = focused r k c (h.0.0.1, (all_2 (code_sorted names r (fill k c)) (code_sorted names r rest) h.1).0)
  focused r (InFrame q k rest) c h =
      let g = all_2 (result_fits q && code_sorted names (returns_of q) (fill k c)) (code_sorted names r rest) h.1 in
      focused (returns_of q) k c (h.0.0.1, (all_2 (result_fits q) (code_sorted names (returns_of q) (fill k c)) g.0).1)
  focused r (InCatch k x d rest) c h =
      let g = all_2 (same_sort x.sort RefSort && code_sorted names r (fill k c) && code_sorted names r d) (code_sorted names r rest) h.1 in
      focused r k c (h.0.0.0, (all_3 (same_sort x.sort RefSort) (code_sorted names r (fill k c)) (code_sorted names r d) g.0).1)
  focused r (InFinally k d rest) c h =
      let g = all_2 (code_sorted names r (fill k c) && code_sorted names r d) (code_sorted names r rest) h.1 in
      focused r k c (h.0.0.0, (all_2 (code_sorted names r (fill k c)) (code_sorted names r d) g.0).0)

  pub filled : (r : Returns) (k : Context) (c e : PlainCode) → SpelledCode names r (fill k c) → SpelledCode names (returns_at r k) e → SpelledCode names r (fill k e)
  filled r (Here rest) c e h n = chain_spelled r e rest n (chain_parts r c rest h).1
  filled r (InBlock l k rest) c e h n =
      let g = all_2 (code_sorted names r (fill k c)) (code_sorted names r rest) h.1 in
      let m = filled r k c e (h.0.0.1, g.0) n in
      (((h.0.0.0, m.0), h.0.1), λ i. m.1 i && g.1 i)
  filled r (InFrame q k rest) c e h n =
      let g = all_2 (result_fits q && code_sorted names (returns_of q) (fill k c)) (code_sorted names r rest) h.1 in
      let f = all_2 (result_fits q) (code_sorted names (returns_of q) (fill k c)) g.0 in
      let m = filled (returns_of q) k c e (h.0.0.1, f.1) n in
      (((h.0.0.0, m.0), h.0.1), λ i. f.0 i && m.1 i && g.1 i)
  filled r (InCatch k x d rest) c e h n =
      let g = all_2 (same_sort x.sort RefSort && code_sorted names r (fill k c) && code_sorted names r d) (code_sorted names r rest) h.1 in
      let f = all_3 (same_sort x.sort RefSort) (code_sorted names r (fill k c)) (code_sorted names r d) g.0 in
      let m = filled r k c e (h.0.0.0, f.1) n in
      (((m.0, h.0.0.1, h.0.0.2), h.0.1), λ i. f.0 i && m.1 i && f.2 i && g.1 i)
  filled r (InFinally k d rest) c e h n =
      let g = all_2 (code_sorted names r (fill k c) && code_sorted names r d) (code_sorted names r rest) h.1 in
      let f = all_2 (code_sorted names r (fill k c)) (code_sorted names r d) g.0 in
      let m = filled r k c e (h.0.0.0, f.0) n in
      (((m.0, h.0.0.1), h.0.1), λ i. m.1 i && f.1 i && g.1 i)

pub focus_keeps_spelled : FocusKeepsSpelled
focus_keeps_spelled = record { focused = focused; filled = filled }
