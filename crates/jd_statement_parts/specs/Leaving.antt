-- Where jumps go, as plain lists.
use Rattle.jd_bodies.specs.Bodies as plain
use Rattle.jd_effect_code.specs.Asking.{label_texts}
use Rattle.jd_statement_parts.specs.declared.exits.Exits.{Exits, fold-Exits}
use Rattle.jd_statement_parts.specs.declared.exits.Exits.TheOpen.{Exits-F}

abbrev pub exits_layer : Exits-F plain.Exits → plain.Exits
exits_layer Exits-F.Nowhere = plain.no_exits
exits_layer (Exits-F.Label x l n) = plain.with_exit l.now n x.now
exits_layer (Exits-F.Loop x ls left repeated) = plain.loop_exits (label_texts ls.now) left repeated x.now

abbrev pub exits_view : Exits → plain.Exits
exits_view = fold-Exits plain.Exits exits_layer
