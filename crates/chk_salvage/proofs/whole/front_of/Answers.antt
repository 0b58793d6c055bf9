use Rattle.std.proofs.Common.{◌∷◌, [], ◌++◌, sym, ap, ◌∙◌, append_assoc, append-nil}
use Rattle.chk_salvage.specs.Readers.{records_left, marker_in, bytes_in, place_in}
use Rattle.chk_salvage.specs.Views.{placed_of}
use Rattle.chk_salvage.proofs.ReaderLemmas.{stop_of_damage}
use Rattle.chk_salvage.proofs.whole.front_of.Goals as goal

pub loop-entry-preserved : goal.loop-entry-preserved
loop-entry-preserved c = record {
  bytes = c.in-Entry.ensures.file.bytes ∙ c.loop-entry.invariant.bytes;
  marker = c.in-Entry.ensures.file.marker ∙ c.loop-entry.invariant.marker;
  read = c.in-Entry.ensures.read c.loop-entry.invariant.read;
  given = ap (λ x. x ++ records_left c.next.new.self) c.in_ok-push-in-Entry.ensures.ok
      ∙ append_assoc c.loop-entry.entries (placed_of c.in-Entry.entry ∷ []) (records_left c.next.new.self)
      ∙ ap (λ x. c.loop-entry.entries ++ x) (sym c.in-Entry.ensures.records) ∙ c.loop-entry.invariant.given;
}

pub returns-in-Damaged-clause-entries : goal.returns-in-Damaged-clause-entries
returns-in-Damaged-clause-entries c =
    sym (append-nil c.loop-entry.entries)
    ∙ ap (λ x. c.loop-entry.entries ++ x) (sym (c.in-Damaged.ensures.last tt) ∙ sym c.in-Damaged.ensures.records)
    ∙ c.loop-entry.invariant.given

pub returns-in-Damaged-clause-stop : goal.returns-in-Damaged-clause-stop
returns-in-Damaged-clause-stop c =
    stop_of_damage (marker_in c.args.reader) (bytes_in c.args.reader) (marker_in c.next.new.self) (bytes_in c.next.new.self)
    c.in-Damaged.at (place_in c.next.new.self) c.in-Damaged.why
    (c.in-Damaged.ensures.file.marker ∙ c.loop-entry.invariant.marker) (c.in-Damaged.ensures.file.bytes ∙ c.loop-entry.invariant.bytes)
    c.in-Damaged.ensures.place.0 c.in-Damaged.ensures.place.1 (c.in-Damaged.ensures.front c.loop-entry.invariant.read tt)
