use Rattle.std.proofs.Common.{◌-◌, ◌∷◌, [], length, take, drop, Some, option_map, sym, ap, subst, refl, ◌∙◌, arith, map}
use Rattle.jd_syntax.specs.CodeViews.{expr_view, stmt_view}
use Rattle.jd_syntax.specs.Sxs.{sx_view}
use Rattle.jd_syntax.proofs.SxLemmas.{list_of}
use Rattle.jd_tforms.specs.Heads.{expr_heads, expr_word, stmt_heads, stmt_word}
use Rattle.jd_tforms.specs.Reading.{expr_of, read, stmt_of}
use Rattle.jd_tcode.specs.Makers.{one_or_two}
use Rattle.jd_tcode.specs.Pairing.{Gives}
use Rattle.jd_tcode.proofs.Ends.{alone_behind, more_than_three}
use Rattle.jd_tcode.proofs.Falling.{one_falls, rest_falls, rest_taken, three_fall, two_fall}
use Rattle.jd_tcode.proofs.Growing.{operands_done, operands_more, statements_done, statements_more}
use Rattle.jd_tcode.proofs.ByHead.{by_head}
use Rattle.jd_tcode.proofs.Made.{assigned_made, expr_made, exprs_made, kind_made, not_one_nor_two, one_or_two_made}
use Rattle.jd_tcode.proofs.Parted.{one_part, three_parts, two_parts}
use Rattle.jd_tcode.proofs.Placed.{array_read, one_and_more, parts_read, two_and_more}
use Rattle.jd_tcode.proofs.+read_code.Goals as goal

-- ---- lists of parts

pub exprs::read_operands-loop-part-preserved : goal.exprs::read_operands-loop-part-preserved
exprs::read_operands-loop-part-preserved g t c =
    let names = g.N.NameMeanings.table c.args.at.now.names.now in
    operands_more names c.args.parts.now c.loop-part.part-index c.part-item.result c.loop-part.operands.items c.push.new.self.items c.in-Some.operand _
    c.loop-part.invariant (omega arith) c.part-item.is (sym (ap (option_map expr_view) c.in-Some.is) ∙ c.in_ok-operand.ensures) c.in_ok-push.ensures.items

pub exprs::read_operands-returns : goal.exprs::read_operands-returns
exprs::read_operands-returns g t c =
    let names = g.N.NameMeanings.table c.args.at.now.names.now in
    operands_done names c.args.parts.now c.loop-part.part-index (map expr_view c.loop-part.operands.items) _ c.loop-part.invariant (omega arith)

pub stmts::read_stmts-loop-part-preserved : goal.stmts::read_stmts-loop-part-preserved
stmts::read_stmts-loop-part-preserved g t c =
    let names = g.N.NameMeanings.table c.args.at.now.names.now in
    statements_more names c.args.parts.now c.loop-part.part-index c.part-item.result c.loop-part.stmts.items c.push.new.self.items c.in-Some.stmt _
    c.loop-part.invariant (omega arith) c.part-item.is (sym (ap (option_map stmt_view) c.in-Some.is) ∙ c.in_ok-stmt.ensures) c.in_ok-push.ensures.items

pub stmts::read_stmts-returns : goal.stmts::read_stmts-returns
stmts::read_stmts-returns g t c =
    let names = g.N.NameMeanings.table c.args.at.now.names.now in
    statements_done names c.args.parts.now c.loop-part.part-index (map stmt_view c.loop-part.stmts.items) _ c.loop-part.invariant (omega arith)

-- ---- the head

pub exprs::read_expr-returns-in-Some-expr_head : goal.exprs::read_expr-returns-in-Some-expr_head
exprs::read_expr-returns-in-Some-expr_head g t c =
    let names = g.N.NameMeanings.table c.args.at.now.names.now in
    by_head expr_view names expr_word expr_heads (expr_of names) (λ r. r.expr) (λ rs. refl) c.expr_behind.result (sx_view c.args.x.now)
    c.deref-in-List.result.now c.deref-in-Some-expr_head.result.now c.in-List.parts.items c.in-Some.word.now c.in-Some-expr_head.head
    (ap sx_view c.in-List.is ∙ list_of c.in-List.parts) c.deref-in-List.ensures.value c.deref-in-Some-expr_head.ensures.value
    (sym (ap (option_map (λ w. w.now)) c.in-Some.is) ∙ c.first_word.ensures) (sym c.in-Some-expr_head.is ∙ c.expr_head.ensures) c.expr_behind.ensures

pub stmts::read_stmt-returns-in-Some-stmt_head : goal.stmts::read_stmt-returns-in-Some-stmt_head
stmts::read_stmt-returns-in-Some-stmt_head g t c =
    let names = g.N.NameMeanings.table c.args.at.now.names.now in
    by_head stmt_view names stmt_word stmt_heads (stmt_of names) (λ r. r.stmt) (λ rs. refl) c.stmt_behind.result (sx_view c.args.x.now)
    c.deref.result.now c.deref-in-Some-stmt_head.result.now c.in-List.parts.items c.in-Some.word.now c.in-Some-stmt_head.head
    (ap sx_view c.in-List.is ∙ list_of c.in-List.parts) c.deref.ensures.value c.deref-in-Some-stmt_head.ensures.value
    (sym (ap (option_map (λ w. w.now)) c.in-Some.is) ∙ c.first_word.ensures) (sym c.in-Some-stmt_head.is ∙ c.stmt_head.ensures) c.stmt_behind.ensures

-- ---- the length in `(arr X)`

pub stmts::array_behind-returns-then-is_word : goal.stmts::array_behind-returns-then-is_word
stmts::array_behind-returns-then-is_word g t c =
    let names = g.N.NameMeanings.table c.args.at.now.names.now in
    array_read expr_view names c.read_expr.result c.args.parts.now c.head-item.result c.length-item.result c.in-Some.word.now
    (omega arith) c.head-item.is c.length-item.is (sym (c.word_in.ensures names) ∙ ap (option_map (λ w. w.now)) c.in-Some.is) (sym c.is_word.ensures ∙ c.if-is_word.true) c.read_expr.ensures

-- ---- parts are no larger than all

pub exprs::expr_behind-read_operands-operands-requires : goal.exprs::expr_behind-read_operands-operands-requires
exprs::expr_behind-read_operands-operands-requires g t c κs within = (rest_falls 3 t c.args.parts.now c.decreases, within)

pub exprs::expr_behind-read_operands-requires : goal.exprs::expr_behind-read_operands-requires
exprs::expr_behind-read_operands-requires g t c κs within = (rest_falls 2 t c.args.parts.now c.decreases, within)

pub exprs::expr_behind-read_operands-operands-requires-in-len3-up-parts : goal.exprs::expr_behind-read_operands-operands-requires-in-len3-up-parts
exprs::expr_behind-read_operands-operands-requires-in-len3-up-parts g t c κs within = (rest_falls 3 t c.args.parts.now c.decreases, within)

pub exprs::expr_behind-expr_of_one-requires : goal.exprs::expr_behind-expr_of_one-requires
exprs::expr_behind-expr_of_one-requires g t c κs within = (one_falls t c.args.parts.now _ c.decreases (omega arith) c.a-item-then-parts-lt3-3.is, within)

pub exprs::expr_behind-expr_of_two-requires : goal.exprs::expr_behind-expr_of_two-requires
exprs::expr_behind-expr_of_two-requires g t c κs within = (two_fall t c.args.parts.now _ _ c.decreases (omega arith) c.a-item-then-parts-lt4-2.is c.b-item-then-parts-lt4-2.is, within)

pub stmts::stmt_behind-stmt_of_one-requires : goal.stmts::stmt_behind-stmt_of_one-requires
stmts::stmt_behind-stmt_of_one-requires g t c κs within = (one_falls t c.args.parts.now _ c.decreases (omega arith) c.a-item.is, within)

pub stmts::stmt_behind-stmt_of_two-requires : goal.stmts::stmt_behind-stmt_of_two-requires
stmts::stmt_behind-stmt_of_two-requires g t c κs within = (two_fall t c.args.parts.now _ _ c.decreases (omega arith) c.a-item-then-parts-lt4.is c.b-item.is, within)

pub stmts::stmt_behind-stmt_of_three-requires : goal.stmts::stmt_behind-stmt_of_three-requires
stmts::stmt_behind-stmt_of_three-requires g t c κs within = (three_fall t c.args.parts.now _ _ _ c.decreases (omega arith) c.a-item-then-parts-lt5.is c.b-item-then-parts-lt5.is c.c-item.is, within)

-- ---- behind each head

pub exprs::expr_of_one-returns-in-Unary : goal.exprs::expr_of_one-returns-in-Unary
exprs::expr_of_one-returns-in-Unary g t c =
    let names = g.N.NameMeanings.table c.args.at.now.names.now in
    subst (λ h. Gives expr_view c.unary.result (one_or_two names h (read names (sx_view c.args.a.now) ∷ []))) (sym c.in-Unary.is)
    (c.unary.ensures _ c.read_boxed.ensures)

pub exprs::expr_of_one-returns-in-LengthOf : goal.exprs::expr_of_one-returns-in-LengthOf
exprs::expr_of_one-returns-in-LengthOf g t c =
    let names = g.N.NameMeanings.table c.args.at.now.names.now in
    subst (λ h. Gives expr_view c.length_of.result (one_or_two names h (read names (sx_view c.args.a.now) ∷ []))) (sym c.in-LengthOf.is)
    (c.length_of.ensures _ c.read_boxed-in-LengthOf.ensures)

pub exprs::expr_of_two-returns-in-Binary : goal.exprs::expr_of_two-returns-in-Binary
exprs::expr_of_two-returns-in-Binary g t c =
    let names = g.N.NameMeanings.table c.args.at.now.names.now in
    subst (λ h. Gives expr_view c.binary.result (one_or_two names h (read names (sx_view c.args.a.now) ∷ read names (sx_view c.args.b.now) ∷ []))) (sym c.in-Binary.is)
    (c.binary.ensures _ _ c.read_boxed.ensures c.read_boxed-in-Binary.ensures)

pub exprs::expr_of_two-returns-in-AndAlso : goal.exprs::expr_of_two-returns-in-AndAlso
exprs::expr_of_two-returns-in-AndAlso g t c =
    let names = g.N.NameMeanings.table c.args.at.now.names.now in
    subst (λ o. Gives expr_view c.two_exprs.result o) (exprs_made names c.args.head _ _ c.in-AndAlso.is)
    (c.two_exprs.ensures _ _ c.read_boxed-in-AndAlso.ensures c.read_boxed-in-AndAlso-2.ensures)

pub exprs::expr_of_two-returns-in-ReadField : goal.exprs::expr_of_two-returns-in-ReadField
exprs::expr_of_two-returns-in-ReadField g t c =
    let names = g.N.NameMeanings.table c.args.at.now.names.now in
    subst (λ h. Gives expr_view c.read_field.result (one_or_two names h (read names (sx_view c.args.a.now) ∷ read names (sx_view c.args.b.now) ∷ []))) (sym c.in-ReadField.is)
    (c.read_field.ensures _ _ c.read_boxed-in-ReadField.ensures c.field_in.ensures)

pub exprs::expr_of_two-returns-in-Cast : goal.exprs::expr_of_two-returns-in-Cast
exprs::expr_of_two-returns-in-Cast g t c =
    let names = g.N.NameMeanings.table c.args.at.now.names.now in
    subst (λ o. Gives expr_view c.of_kind.result o) (kind_made names c.args.head _ _ c.in-Cast.is)
    (c.of_kind.ensures _ _ c.kind_in.ensures c.read_boxed-in-Cast.ensures)

pub exprs::expr_of_two-returns-in-DoThen : goal.exprs::expr_of_two-returns-in-DoThen
exprs::expr_of_two-returns-in-DoThen g t c =
    let names = g.N.NameMeanings.table c.args.at.now.names.now in
    subst (λ h. Gives expr_view c.do_then.result (one_or_two names h (read names (sx_view c.args.a.now) ∷ read names (sx_view c.args.b.now) ∷ []))) (sym c.in-DoThen.is)
    (c.do_then.ensures _ _ c.read_code.ensures c.read_boxed-in-DoThen.ensures)

pub exprs::expr_behind-returns-in-len4 : goal.exprs::expr_behind-returns-in-len4
exprs::expr_behind-returns-in-len4 g t c =
    let names = g.N.NameMeanings.table c.args.at.now.names.now in
    three_parts expr_view names (expr_of names (Some c.args.head)) c.conditional.result c.args.parts.now c.a-item.result c.b-item.result c.c-item.result _ (omega arith) c.a-item.is c.b-item.is c.c-item.is
    (ap (λ h. expr_of names (Some h) (read names (sx_view c.a-item.result) ∷ read names (sx_view c.b-item.result) ∷ read names (sx_view c.c-item.result) ∷ [])) (sym c.in-Conditional.is))
    (c.conditional.ensures _ _ _ c.read_boxed.ensures c.read_boxed-in-len4.ensures c.read_boxed-in-len4-2.ensures)

pub exprs::expr_behind-returns-in-len3-up : goal.exprs::expr_behind-returns-in-len3-up
exprs::expr_behind-returns-in-len3-up g t c =
    let names = g.N.NameMeanings.table c.args.at.now.names.now in
    two_and_more expr_view names (expr_of names (Some c.args.head)) c.virtual_call.result c.args.parts.now c.method-item.result c.a-item-in-VirtualCall.result _ _ (omega arith) c.method-item.is c.a-item-in-VirtualCall.is (rest_taken 3 c.args.parts.now)
    (ap (λ h. expr_of names (Some h) (read names (sx_view c.method-item.result) ∷ read names (sx_view c.a-item-in-VirtualCall.result) ∷ parts_read names (take (length c.args.parts.now - 3) (drop 3 c.args.parts.now)))) (sym c.in-VirtualCall.is))
    (c.virtual_call.ensures _ _ _ c.method_in.ensures c.read_boxed-in-len3-up.ensures c.read_operands-operands.ensures)

pub exprs::expr_behind-returns-in-len2-up : goal.exprs::expr_behind-returns-in-len2-up
exprs::expr_behind-returns-in-len2-up g t c =
    let names = g.N.NameMeanings.table c.args.at.now.names.now in
    one_and_more expr_view names (expr_of names (Some c.args.head)) c.static_call.result c.args.parts.now c.method-item-in-StaticCall.result _ _ (omega arith) c.method-item-in-StaticCall.is (rest_taken 2 c.args.parts.now)
    (ap (λ h. expr_of names (Some h) (read names (sx_view c.method-item-in-StaticCall.result) ∷ parts_read names (take (length c.args.parts.now - 2) (drop 2 c.args.parts.now)))) (sym c.in-StaticCall.is))
    (c.static_call.ensures _ _ c.static_in.ensures c.read_operands.ensures)

pub exprs::expr_behind-returns-in-len3-up-parts : goal.exprs::expr_behind-returns-in-len3-up-parts
exprs::expr_behind-returns-in-len3-up-parts g t c =
    let names = g.N.NameMeanings.table c.args.at.now.names.now in
    two_and_more expr_view names (expr_of names (Some c.args.head)) c.constructor_call.result c.args.parts.now c.method-item-in-ConstructorCall.result c.a-item-in-ConstructorCall.result _ _ (omega arith) c.method-item-in-ConstructorCall.is c.a-item-in-ConstructorCall.is (rest_taken 3 c.args.parts.now)
    (ap (λ h. expr_of names (Some h) (read names (sx_view c.method-item-in-ConstructorCall.result) ∷ read names (sx_view c.a-item-in-ConstructorCall.result) ∷ parts_read names (take (length c.args.parts.now - 3) (drop 3 c.args.parts.now)))) (sym c.in-ConstructorCall.is))
    (c.constructor_call.ensures _ _ _ c.constructor_in.ensures c.read_boxed-in-len3-up-parts.ensures c.read_operands-operands-in-len3-up-parts.ensures)

pub exprs::expr_behind-returns-in-len2 : goal.exprs::expr_behind-returns-in-len2
exprs::expr_behind-returns-in-len2 g t c =
    let names = g.N.NameMeanings.table c.args.at.now.names.now in
    one_part expr_view names (expr_of names (Some c.args.head)) c.expr_of_one.result c.args.parts.now c.a-item-then-parts-lt3-3.result _ (omega arith) c.a-item-then-parts-lt3-3.is (one_or_two_made names c.args.head _ c.in_default.not-Conditional c.in_default.not-VirtualCall c.in_default.not-StaticCall c.in_default.not-ConstructorCall) c.expr_of_one.ensures

pub exprs::expr_behind-returns-in-len3 : goal.exprs::expr_behind-returns-in-len3
exprs::expr_behind-returns-in-len3 g t c =
    let names = g.N.NameMeanings.table c.args.at.now.names.now in
    two_parts expr_view names (expr_of names (Some c.args.head)) c.expr_of_two.result c.args.parts.now c.a-item-then-parts-lt4-2.result c.b-item-then-parts-lt4-2.result _ (omega arith) c.a-item-then-parts-lt4-2.is c.b-item-then-parts-lt4-2.is (one_or_two_made names c.args.head _ c.in_default.not-Conditional c.in_default.not-VirtualCall c.in_default.not-StaticCall c.in_default.not-ConstructorCall) c.expr_of_two.ensures

pub exprs::expr_behind-returns-in-len4-up : goal.exprs::expr_behind-returns-in-len4-up
exprs::expr_behind-returns-in-len4-up g t c =
    let names = g.N.NameMeanings.table c.args.at.now.names.now in
    not_one_nor_two names c.args.head c.args.parts.now (omega arith) (omega arith) ∙ one_or_two_made names c.args.head _ c.in_default.not-Conditional c.in_default.not-VirtualCall c.in_default.not-StaticCall c.in_default.not-ConstructorCall

pub exprs::expr_behind-returns-in-empty : goal.exprs::expr_behind-returns-in-empty
exprs::expr_behind-returns-in-empty g t c =
    let names = g.N.NameMeanings.table c.args.at.now.names.now in
    not_one_nor_two names c.args.head c.args.parts.now (omega arith) (omega arith) ∙ one_or_two_made names c.args.head _ c.in_default.not-Conditional c.in_default.not-VirtualCall c.in_default.not-StaticCall c.in_default.not-ConstructorCall

pub exprs::expr_behind-returns-in-len1 : goal.exprs::expr_behind-returns-in-len1
exprs::expr_behind-returns-in-len1 g t c =
    let names = g.N.NameMeanings.table c.args.at.now.names.now in
    not_one_nor_two names c.args.head c.args.parts.now (omega arith) (omega arith) ∙ one_or_two_made names c.args.head _ c.in_default.not-Conditional c.in_default.not-VirtualCall c.in_default.not-StaticCall c.in_default.not-ConstructorCall

pub stmts::stmt_of_one-returns-in-Evaluate : goal.stmts::stmt_of_one-returns-in-Evaluate
stmts::stmt_of_one-returns-in-Evaluate g t c =
    let names = g.N.NameMeanings.table c.args.at.now.names.now in
    subst (λ o. Gives stmt_view c.one_expr.result o) (expr_made names c.args.head _ c.in-Evaluate.is)
    (c.one_expr.ensures _ c.read_expr.ensures)

pub stmts::stmt_of_one-returns-in-Break : goal.stmts::stmt_of_one-returns-in-Break
stmts::stmt_of_one-returns-in-Break g t c =
    let names = g.N.NameMeanings.table c.args.at.now.names.now in
    subst (λ h. Gives stmt_view c.break_of.result (stmt_of names (Some h) (read names (sx_view c.args.a.now) ∷ []))) (sym c.in-Break.is)
    (c.break_of.ensures _ (c.label_in.ensures names))

pub stmts::stmt_of_one-returns-in-Raise : goal.stmts::stmt_of_one-returns-in-Raise
stmts::stmt_of_one-returns-in-Raise g t c =
    let names = g.N.NameMeanings.table c.args.at.now.names.now in
    subst (λ h. Gives stmt_view c.raised.result (stmt_of names (Some h) (read names (sx_view c.args.a.now) ∷ []))) (sym c.in-Raise.is)
    (c.raised.ensures _ c.class_in.ensures)

pub stmts::stmt_of_two-returns-in-Set : goal.stmts::stmt_of_two-returns-in-Set
stmts::stmt_of_two-returns-in-Set g t c =
    let names = g.N.NameMeanings.table c.args.at.now.names.now in
    subst (λ o. Gives stmt_view c.assigned.result o) (assigned_made names c.args.head _ _ c.in-Set.is)
    (c.assigned.ensures _ _ c.variable_in.ensures c.read_expr.ensures)

pub stmts::stmt_of_two-returns-in-Block : goal.stmts::stmt_of_two-returns-in-Block
stmts::stmt_of_two-returns-in-Block g t c =
    let names = g.N.NameMeanings.table c.args.at.now.names.now in
    subst (λ h. Gives stmt_view c.block.result (stmt_of names (Some h) (read names (sx_view c.args.a.now) ∷ read names (sx_view c.args.b.now) ∷ []))) (sym c.in-Block.is)
    (c.block.ensures _ _ (c.label_in.ensures names) c.read_code.ensures)

pub stmts::stmt_of_two-returns-in-Finally : goal.stmts::stmt_of_two-returns-in-Finally
stmts::stmt_of_two-returns-in-Finally g t c =
    let names = g.N.NameMeanings.table c.args.at.now.names.now in
    subst (λ h. Gives stmt_view c.finally.result (stmt_of names (Some h) (read names (sx_view c.args.a.now) ∷ read names (sx_view c.args.b.now) ∷ []))) (sym c.in-Finally.is)
    (c.finally.ensures _ _ c.read_code-in-Finally.ensures c.read_code-in-Finally-2.ensures)

pub stmts::stmt_of_two-returns-in-Frame : goal.stmts::stmt_of_two-returns-in-Frame
stmts::stmt_of_two-returns-in-Frame g t c =
    let names = g.N.NameMeanings.table c.args.at.now.names.now in
    subst (λ h. Gives stmt_view c.frame.result (stmt_of names (Some h) (read names (sx_view c.args.a.now) ∷ read names (sx_view c.args.b.now) ∷ []))) (sym c.in-Frame.is)
    (c.frame.ensures _ _ c.result_in.ensures c.read_code-in-Frame.ensures)

pub stmts::stmt_of_two-returns-in-Alloc : goal.stmts::stmt_of_two-returns-in-Alloc
stmts::stmt_of_two-returns-in-Alloc g t c =
    let names = g.N.NameMeanings.table c.args.at.now.names.now in
    subst (λ h. Gives stmt_view c.allocated.result (stmt_of names (Some h) (read names (sx_view c.args.a.now) ∷ read names (sx_view c.args.b.now) ∷ []))) (sym c.in-Alloc.is)
    (c.allocated.ensures _ _ _ c.variable_in-in-Alloc.ensures c.class_in.ensures c.read_array.ensures)

pub stmts::stmt_of_three-returns-in-WriteField : goal.stmts::stmt_of_three-returns-in-WriteField
stmts::stmt_of_three-returns-in-WriteField g t c =
    let names = g.N.NameMeanings.table c.args.at.now.names.now in
    subst (λ h. Gives stmt_view c.write_field.result (stmt_of names (Some h) (read names (sx_view c.args.a.now) ∷ read names (sx_view c.args.b.now) ∷ read names (sx_view c.args.c.now) ∷ []))) (sym c.in-WriteField.is)
    (c.write_field.ensures _ _ _ c.read_expr.ensures c.field_in.ensures c.read_expr-in-WriteField.ensures)

pub stmts::stmt_of_three-returns-in-WriteElement : goal.stmts::stmt_of_three-returns-in-WriteElement
stmts::stmt_of_three-returns-in-WriteElement g t c =
    let names = g.N.NameMeanings.table c.args.at.now.names.now in
    subst (λ h. Gives stmt_view c.write_element.result (stmt_of names (Some h) (read names (sx_view c.args.a.now) ∷ read names (sx_view c.args.b.now) ∷ read names (sx_view c.args.c.now) ∷ []))) (sym c.in-WriteElement.is)
    (c.write_element.ensures _ _ _ c.read_expr-in-WriteElement.ensures c.read_expr-in-WriteElement-2.ensures c.read_expr-in-WriteElement-3.ensures)

pub stmts::stmt_of_three-returns-in-If : goal.stmts::stmt_of_three-returns-in-If
stmts::stmt_of_three-returns-in-If g t c =
    let names = g.N.NameMeanings.table c.args.at.now.names.now in
    subst (λ h. Gives stmt_view c.if_then.result (stmt_of names (Some h) (read names (sx_view c.args.a.now) ∷ read names (sx_view c.args.b.now) ∷ read names (sx_view c.args.c.now) ∷ []))) (sym c.in-If.is)
    (c.if_then.ensures _ _ _ c.read_expr-in-If.ensures c.read_code.ensures c.read_code-in-If.ensures)

pub stmts::stmt_of_three-returns-in-While : goal.stmts::stmt_of_three-returns-in-While
stmts::stmt_of_three-returns-in-While g t c =
    let names = g.N.NameMeanings.table c.args.at.now.names.now in
    subst (λ h. Gives stmt_view c.while_loop.result (stmt_of names (Some h) (read names (sx_view c.args.a.now) ∷ read names (sx_view c.args.b.now) ∷ read names (sx_view c.args.c.now) ∷ []))) (sym c.in-While.is)
    (c.while_loop.ensures _ _ _ (c.loop_in.ensures names) c.read_expr-in-While.ensures c.read_code-in-While.ensures)

pub stmts::stmt_of_three-returns-in-Catch : goal.stmts::stmt_of_three-returns-in-Catch
stmts::stmt_of_three-returns-in-Catch g t c =
    let names = g.N.NameMeanings.table c.args.at.now.names.now in
    subst (λ h. Gives stmt_view c.catch.result (stmt_of names (Some h) (read names (sx_view c.args.a.now) ∷ read names (sx_view c.args.b.now) ∷ read names (sx_view c.args.c.now) ∷ []))) (sym c.in-Catch.is)
    (c.catch.ensures _ _ _ c.read_code-in-Catch.ensures c.variable_in.ensures c.read_code-in-Catch-2.ensures)

pub stmts::stmt_behind-returns-in-empty : goal.stmts::stmt_behind-returns-in-empty
stmts::stmt_behind-returns-in-empty g t c =
    let names = g.N.NameMeanings.table c.args.at.now.names.now in
    alone_behind names (stmt_of names (Some c.args.head)) c.args.parts.now _ (omega arith) (c.alone.ensures names)

pub stmts::stmt_behind-returns-in-len1 : goal.stmts::stmt_behind-returns-in-len1
stmts::stmt_behind-returns-in-len1 g t c =
    let names = g.N.NameMeanings.table c.args.at.now.names.now in
    alone_behind names (stmt_of names (Some c.args.head)) c.args.parts.now _ (omega arith) (c.alone-in-len1.ensures names)

pub stmts::stmt_behind-returns-in-len2 : goal.stmts::stmt_behind-returns-in-len2
stmts::stmt_behind-returns-in-len2 g t c =
    let names = g.N.NameMeanings.table c.args.at.now.names.now in
    one_part stmt_view names (stmt_of names (Some c.args.head)) c.stmt_of_one.result c.args.parts.now c.a-item.result _ (omega arith) c.a-item.is refl c.stmt_of_one.ensures

pub stmts::stmt_behind-returns-in-len3 : goal.stmts::stmt_behind-returns-in-len3
stmts::stmt_behind-returns-in-len3 g t c =
    let names = g.N.NameMeanings.table c.args.at.now.names.now in
    two_parts stmt_view names (stmt_of names (Some c.args.head)) c.stmt_of_two.result c.args.parts.now c.a-item-then-parts-lt4.result c.b-item.result _ (omega arith) c.a-item-then-parts-lt4.is c.b-item.is refl c.stmt_of_two.ensures

pub stmts::stmt_behind-returns-in-len4 : goal.stmts::stmt_behind-returns-in-len4
stmts::stmt_behind-returns-in-len4 g t c =
    let names = g.N.NameMeanings.table c.args.at.now.names.now in
    three_parts stmt_view names (stmt_of names (Some c.args.head)) c.stmt_of_three.result c.args.parts.now c.a-item-then-parts-lt5.result c.b-item-then-parts-lt5.result c.c-item.result _ (omega arith) c.a-item-then-parts-lt5.is c.b-item-then-parts-lt5.is c.c-item.is refl c.stmt_of_three.ensures

pub stmts::stmt_behind-returns-in-len5-up : goal.stmts::stmt_behind-returns-in-len5-up
stmts::stmt_behind-returns-in-len5-up g t c =
    let names = g.N.NameMeanings.table c.args.at.now.names.now in
    more_than_three names c.args.head c.args.parts.now (omega arith)
