use Rattle.std.proofs.Common.{◌≡◌, List, Some}
use Rattle.std.specs.Prelude.{IsTrue}
use Rattle.std.proofs.lemmas.Result.{err_from_is_err_and}
use Rattle.chk_site.specs.Runs.{unbegun}
use Rattle.chk_world.specs.Checkpoints.{Line, Two, are_lines, written_version, read_checkpoint}
use Rattle.chk_world.proofs.CheckpointsRead.{checkpoint_back}
use Rattle.chk_world.proofs.SpelledLemmas.{checkpoint_written}
use Rattle.chk_checkpoint.specs.Lines.{lines_of, written_text}
use Rattle.chk_checkpoint.proofs.files.write_checkpoint.Goals as goal

is_read : (lines : List Line) → IsTrue (are_lines Two lines) → read_checkpoint (written_text lines) ≡ Some lines
is_read lines h = checkpoint_back (written_version lines) lines (checkpoint_written Two lines h)

pub returns-in_err-name-clause-told : goal.returns-in_err-name-clause-told
returns-in_err-name-clause-told g c =
    let p = err_from_is_err_and c.from_residual.result c.from_residual.ensures.1 in
    rw (p.1, p.2) unbegun

pub returns-in_err-name-clause-read : goal.returns-in_err-name-clause-read
returns-in_err-name-clause-read g c = is_read (lines_of c.args.check.now) c.requires.lines

pub returns-in_err-text-clause-told : goal.returns-in_err-text-clause-told
returns-in_err-text-clause-told g c =
    let p = err_from_is_err_and c.from_residual-in_err-text.result c.from_residual-in_err-text.ensures.1 in
    rw (p.1, p.2) unbegun

pub returns-in_err-text-clause-read : goal.returns-in_err-text-clause-read
returns-in_err-text-clause-read g c = is_read (lines_of c.args.check.now) c.requires.lines

pub returns-clause-read : goal.returns-clause-read
returns-clause-read g c = is_read (lines_of c.args.check.now) c.requires.lines
