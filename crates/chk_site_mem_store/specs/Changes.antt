-- A change as the file model sees it.
use Rattle.chk_site.specs.Files.{Change, Nothing, Created, Grown, Secured, Moved, Gone, Shortened, LogGrown, LogTurned, LogDropped}
use Rattle.chk_site_mem_store.specs.declared.changes.Change.{Change as Made}
use Rattle.chk_site_mem_store.specs.declared.changes.Change.TheVariants as made

-- a change as the file model sees it
abbrev pub seen : Made → Change
seen made.Nothing = Nothing
seen (made.Create name) = Created name.now
seen (made.Grow name piece) = Grown name.now piece.now
seen (made.Secure name) = Secured name.now
seen (made.Move old new) = Moved old.now new.now
seen (made.Remove name) = Gone name.now
seen (made.Cut name length) = Shortened name.now length
seen (made.GrowLog path piece) = LogGrown path.now piece.now
seen (made.TurnLog path suffix) = LogTurned path.now suffix.now
seen (made.DropGeneration path suffix) = LogDropped path.now suffix.now
