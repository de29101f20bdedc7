-- Signatures as plain records.
use Rattle.jd_bodies.specs.Declarations as plain
use Rattle.jd_naming.specs.declared.declares.Signature.{Signature}

abbrev pub signature_view : Signature → plain.Signature
signature_view s = record { class = s.class; static = s.is_static; parameters = s.parameters.now; result = s.result }
