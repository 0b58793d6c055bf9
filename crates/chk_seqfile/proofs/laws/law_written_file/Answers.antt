use Rattle.std.proofs.Common.{refl, length}
use Rattle.chk_seqfile.proofs.HeaderLemmas.{length-header}
use Rattle.chk_seqfile.proofs.FileLemmas.{IsSequenceFile-header, IsSequenceFile-append, Entries-piece, records_of-written_header, records_of-piece}
use Rattle.chk_seqfile.specs.Entries.{piece_at}
use Rattle.chk_seqfile.proofs.laws.law_written_file.Goals as goal

pub returns-clause-header : goal.returns-clause-header
returns-clause-header c marker wide =
    (IsSequenceFile-header marker wide, refl, length-header marker wide, records_of-written_header marker wide)

pub returns-clause-piece : goal.returns-clause-piece
returns-clause-piece c bytes f last_sync key value small = (
  IsSequenceFile-append bytes (piece_at f.marker (length bytes) last_sync key value) f (Entries-piece f.marker (length bytes) last_sync key value small),
  refl,
  refl,
  records_of-piece bytes f last_sync key value small,
)
