use Rattle.std.proofs.Common.{◌≡◌, ◌-◌, ◌≤◌, length}
use Rattle.chk_site.specs.Site.{Adds}
use Rattle.chk_salvage.specs.Readers.{bytes_in, place_in, items_left}
use Rattle.chk_cmd_salvage.specs.Printing.{GoesOnRunning}
use Rattle.chk_cmd_salvage.specs.Steps.{HasSaid}
use Rattle.chk_cmd_salvage.proofs.printing.print_items.Given as goal

abbrev pub invariant-loop-buffer : goal.invariant-loop-buffer
invariant-loop-buffer g l = record {
  said : Adds (g.S.Site.told l.fn.site) (g.S.Site.told l.site) (HasSaid l.who (items_left l.fn.reader) (items_left l.reader) l.buffer);
  runs : Adds (g.S.Site.told l.fn.site) (g.S.Site.told l.site) GoesOnRunning;
  room : length l.buffer ≤ 53176;
  count : g.S.Site.fault_count l.site ≡ g.S.Site.fault_count l.fn.site;
}

abbrev pub decreases-loop-buffer : goal.decreases-loop-buffer
decreases-loop-buffer g l = length (bytes_in l.reader) - place_in l.reader
