use Rattle.jd_static_types.proofs.Typing.{types_there}
use Rattle.jd_static_types.proofs.laws.given_types.Goals as goal

pub returns : goal.returns
returns c = λ d place locals all are e. types_there d place locals all are e
