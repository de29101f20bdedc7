use Rattle.jd_jinfos.specs.Infos.{class_infos}
use Rattle.jd_jinfos.specs.Views.{class_info_view}
use Rattle.jd_classes.proofs.Looking.{listed}
use Rattle.jd_classes.proofs.classes.Classes.class.Goals as goal

pub returns : goal.returns
returns c units tables = listed class_info_view c.args.self.now.classes.items (class_infos units) c.args.c.0 c.index.result.now tables.classes_ c.requires c.index.ensures
