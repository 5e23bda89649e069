use Rattle.std.proofs.Common.{ap}
use Rattle.page_file.specs.FilesOpened.{OpenFile}
use Rattle.page_file.proofs.files.file.PageFile.close.Goals as goal

pub returns : goal.returns
returns g c = ap (λ (f : OpenFile _). f.disk) c.self.view_is
