-- What a read of a log reads.
use denote.Ref.{Bor}
use Rattle.chk_site.specs.declared.suffixes.Part.{Part}
use Rattle.chk_site.specs.declared.suffixes.Part.TheVariants.{Base, After}
use Rattle.chk_site.specs.Logs.{Part as Asked, TheBase, Past, Shown}
use Rattle.chk_site_mem_store.specs.declared.log_reads.ShownBytes.{ShownBytes}
pub use Rattle.chk_site.specs.Honest.{text_at}

-- a part of a log as the file model sees it
abbrev pub part_seen : Part → Asked
part_seen Base = TheBase
part_seen (After after) = Past (text_at after)

-- what a reader is shown, as the file model sees it
abbrev pub shown_of : ShownBytes → Shown
shown_of shown = record { suffix = text_at shown.suffix; bytes = shown.bytes.now }
