use Rattle.std.proofs.lemmas.Result.{err_from_is_err_and}
use Rattle.chk_record_reader.proofs.RunReads.{unsaid}
use Rattle.std.proofs.Common.{refl}
use Rattle.chk_site.proofs.Runs.{adds_as}
use Rattle.chk_record_reader.proofs.reader.RecordReader.load.Goals as goal

pub returns-in_err-self-clause-stays : goal.returns-in_err-self-clause-stays
returns-in_err-self-clause-stays g c =
    let p = err_from_is_err_and c.from_residual.result c.from_residual.ensures.1 in
    rw (p.1, p.2) (λ other file. unsaid other file c.in_err-self.ensures.pieces)

pub returns-in_err-self-clause-shown : goal.returns-in_err-self-clause-shown
returns-in_err-self-clause-shown g c =
    let p = err_from_is_err_and c.from_residual.result c.from_residual.ensures.1 in
    rw (p.1, p.2) (adds_as _ c.in_err-self.ensures.pieces (λ added history x. tt))

pub returns-clause-shown : goal.returns-clause-shown
returns-clause-shown g c = adds_as _ c.in_ok-self.ensures.shown (λ added history x. (refl, refl, x))
