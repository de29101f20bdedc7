use Rattle.jd_frame_laws.proofs.Frames as frames
use Rattle.jd_frame_laws.proofs.laws.frames_fit.Goals as goal

pub returns : goal.returns
returns c = frames.frames_fit c.resolved_is_scoped.ensures c.scoped_is_closed.ensures
