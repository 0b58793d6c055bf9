use Rattle.std.proofs.Common.{ℕ, List, None, Some, Ok, Err, ap, refl, subst}
use Rattle.chk_site.specs.declared.acts.OutsideFault.TheVariants.{Outside}
use Rattle.chukwa_run.specs.Teeing.{IsNamedIn, TeesRead}
use Rattle.chukwa_run.proofs.TeeReading.{named_so, by_writer, looks_at}
use Rattle.chukwa_run.proofs.teeing.read_tees.Goals as goal

pub returns-in_default-clause-read : goal.returns-in_default-clause-read
returns-in_default-clause-read g c = rw (c.in_default.is, c.nobody.ensures) TeesRead.unnamed

pub returns-in_default-writer-clause-read : goal.returns-in_default-writer-clause-read
returns-in_default-writer-clause-read g c = rw c.in-Some.is TeesRead.unbegun

pub returns-in-Ok-Some-clause-read : goal.returns-in-Ok-Some-clause-read
returns-in-Ok-Some-clause-read g c =
    rw c.in-Some.is
    (named_so (Some c.in-Ok-Some.text) c.named_in.result
    (by_writer c.in-Ok.writer c.in-Some.file.now (Ok c.in-Ok-Some.field-0) (Ok (Some c.in-Ok-Some.text)) c.in-Ok.ensures
    (ap Ok c.in-Ok-Some.field-0-is) c.in-Ok-Some.ensures.script)
    (subst (λ (x : List ℕ). IsNamedIn c.in-Some.file.now x c.named_in.result) c.as_slice.ensures c.named_in.ensures))

pub returns-in-Ok-Some-clause-looks : goal.returns-in-Ok-Some-clause-looks
returns-in-Ok-Some-clause-looks g c = looks_at c.in-Ok.writer c.in-Some.file.now c.in-Ok.ensures c.load.ensures.reads

pub returns-in-Ok-None-clause-read : goal.returns-in-Ok-None-clause-read
returns-in-Ok-None-clause-read g c =
    rw c.in-Some.is
    (named_so None c.named_in-in-Ok-None.result
    (by_writer c.in-Ok.writer c.in-Some.file.now (Ok c.in-Ok-None.field-0) (Ok None) c.in-Ok.ensures
    (ap Ok c.in-Ok-None.field-0-is) c.in-Ok-None.ensures.script)
    c.named_in-in-Ok-None.ensures)

pub returns-in-Ok-None-clause-looks : goal.returns-in-Ok-None-clause-looks
returns-in-Ok-None-clause-looks g c = looks_at c.in-Ok.writer c.in-Some.file.now c.in-Ok.ensures c.load.ensures.reads

pub returns-in-Err-Outside-clause-read : goal.returns-in-Err-Outside-clause-read
returns-in-Err-Outside-clause-read g c =
    rw (c.in-Some.is, c.in-Err-Outside.field-0-is)
    (TeesRead.failed c.in-Err-Outside.call
    (by_writer c.in-Ok.writer c.in-Some.file.now (Err c.in-Err-Outside.field-0) (Err (Outside c.in-Err-Outside.call)) c.in-Ok.ensures
    (ap Err c.in-Err-Outside.field-0-is) c.in-Err-Outside.ensures.script))

pub returns-in-Err-Outside-clause-looks : goal.returns-in-Err-Outside-clause-looks
returns-in-Err-Outside-clause-looks g c = looks_at c.in-Ok.writer c.in-Some.file.now c.in-Ok.ensures c.load.ensures.reads

pub returns-clause-read : goal.returns-clause-read
returns-clause-read g c =
    rw c.in-Some.is
    (TeesRead.wanting c.load.result
    (by_writer c.in-Ok.writer c.in-Some.file.now c.load.result c.load.result c.in-Ok.ensures refl c.load.ensures.script))

pub returns-clause-looks : goal.returns-clause-looks
returns-clause-looks g c = looks_at c.in-Ok.writer c.in-Some.file.now c.in-Ok.ensures c.load.ensures.reads
