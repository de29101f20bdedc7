use Rattle.jd_bracketed.proofs.Pieces.{blank_head, comment_head, alone_head, word_head}
use Rattle.jd_bracketed.proofs.tokens.first_piece.Goals as goal

pub returns-in-Blank-clause-tokens : goal.returns-in-Blank-clause-tokens
returns-in-Blank-clause-tokens c = blank_head c.args.in_comment c.args.bytes.now c.class_in.result c.requires c.class_in.ensures c.in-Blank.is

pub returns-in-InComment-clause-tokens : goal.returns-in-InComment-clause-tokens
returns-in-InComment-clause-tokens c = comment_head c.args.in_comment c.args.bytes.now c.class_in.result c.requires c.class_in.ensures c.in-InComment.is

pub returns-in-Alone-clause-tokens : goal.returns-in-Alone-clause-tokens
returns-in-Alone-clause-tokens c = alone_head c.args.in_comment c.args.bytes.now c.class_in.result _ c.requires c.class_in.ensures c.in-Alone.is c.kind_alone.ensures

pub returns-in-Part-clause-tokens : goal.returns-in-Part-clause-tokens
returns-in-Part-clause-tokens c = word_head c.args.in_comment c.args.bytes.now c.class_in.result c.word_len-len.result c.split_at.result.0.now c.requires c.class_in.ensures c.in-Part.is c.word_len-len.ensures.word c.split_at.ensures.front
