use Rattle.std.proofs.Common.{◌∙◌}
use Rattle.std.proofs.lemmas.Result.{err_from_is_err_and}
use Rattle.chk_site.proofs.Runs.{adds_none}
use Rattle.chk_record_reader.proofs.archives.archive_of.Goals as goal

pub read_archive-requires : goal.read_archive-requires
read_archive-requires g c = c.deref.ensures.value ∙ c.in_ok-names.ensures

pub returns-clause-raw : goal.returns-clause-raw
returns-clause-raw g c = c.read_archive.ensures.raw

pub returns-clause-own : goal.returns-clause-own
returns-clause-own g c = c.read_archive.ensures.own

pub returns-clause-pieces : goal.returns-clause-pieces
returns-clause-pieces g c = c.read_archive.ensures.pieces

pub returns-clause-only : goal.returns-clause-only
returns-clause-only g c = c.read_archive.ensures.only

pub returns-clause-last : goal.returns-clause-last
returns-clause-last g c = c.read_archive.ensures.last

pub returns-clause-cause : goal.returns-clause-cause
returns-clause-cause g c = c.read_archive.ensures.cause

pub returns-in_err-names-clause-shown : goal.returns-in_err-names-clause-shown
returns-in_err-names-clause-shown g c =
    let p = err_from_is_err_and c.from_residual.result c.from_residual.ensures.1 in
    rw (p.1, p.2) (adds_none _ _ (λ history. tt))

pub returns-clause-shown : goal.returns-clause-shown
returns-clause-shown g c = c.read_archive.ensures.shown
