use Rattle.std.proofs.lemmas.Result.{IfOk-from_err}
use Rattle.chk_site_files.proofs.host.Host.read.Goals as goal

pub returns-in-None-clause-most : goal.returns-in-None-clause-most
returns-in-None-clause-most g c = IfOk-from_err c.absent.result _ c.absent.ensures.refused
