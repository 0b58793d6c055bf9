use Rattle.std.proofs.Common.{ℕ, List, Option, Ok, Err, ap, sym, ◌∙◌, refl}
use Rattle.std.proofs.lemmas.Result.{err_from_is_err_and}
use Rattle.chk_agent_run.specs.Initial.{text_of}
use Rattle.chk_agent_run.proofs.LineAdded.{no_file_named, file_read}
use Rattle.chk_agent_run.proofs.Started.{looks_at}
use Rattle.chk_agent_run.proofs.initial.read_initial.Goals as goal

pub returns-in_default-clause-script : goal.returns-in_default-clause-script
returns-in_default-clause-script g c =
    no_file_named c.args.writer.now c.args.file c.in_default.is c.new.result c.new.ensures (g.S.Site.told c.args.site.now)

pub returns-in_err-bytes-clause-script : goal.returns-in_err-bytes-clause-script
returns-in_err-bytes-clause-script g c =
    let p = err_from_is_err_and c.from_residual.result c.from_residual.ensures.1 in
    rw (p.1, p.2)
    (file_read c.args.writer.now c.args.file c.in-Some.file c.in-Some.is c.as_str.result.now c.as_str.ensures.text
    (Err c.in_err-bytes.field-0.0) (Err c.in_err-bytes.field-0.0) refl c.in_err-bytes.ensures.script)

pub returns-in_err-bytes-clause-reads : goal.returns-in_err-bytes-clause-reads
returns-in_err-bytes-clause-reads g c = looks_at c.args.writer.now c.as_str.result.now c.load.ensures.reads

pub returns-in-Some-2-clause-script : goal.returns-in-Some-2-clause-script
returns-in-Some-2-clause-script g c =
    file_read c.args.writer.now c.args.file c.in-Some.file c.in-Some.is c.as_str.result.now c.as_str.ensures.text
    (Ok c.in_ok-bytes.field-0) (Ok c.in-Some-2.bytes) (ap (λ (o : Option (List ℕ)). text_of (Ok o)) c.in-Some-2.is)
    c.in_ok-bytes.ensures.script

pub returns-in-Some-2-clause-reads : goal.returns-in-Some-2-clause-reads
returns-in-Some-2-clause-reads g c = looks_at c.args.writer.now c.as_str.result.now c.load.ensures.reads

pub returns-in-None-clause-script : goal.returns-in-None-clause-script
returns-in-None-clause-script g c =
    file_read c.args.writer.now c.args.file c.in-Some.file c.in-Some.is c.as_str.result.now c.as_str.ensures.text
    (Ok c.in_ok-bytes.field-0) (Ok c.new-in-None.result)
    (ap (λ (o : Option (List ℕ)). text_of (Ok o)) c.in-None.is ∙ ap Ok (sym c.new-in-None.ensures))
    c.in_ok-bytes.ensures.script

pub returns-in-None-clause-reads : goal.returns-in-None-clause-reads
returns-in-None-clause-reads g c = looks_at c.args.writer.now c.as_str.result.now c.load.ensures.reads
