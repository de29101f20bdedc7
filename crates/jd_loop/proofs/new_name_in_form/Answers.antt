use Rattle.jd_loop.proofs.NewNameInForm.{new_name_in_form}
use Rattle.jd_loop.proofs.new_name_in_form.Goals as goal

pub returns : goal.returns
returns c = new_name_in_form
