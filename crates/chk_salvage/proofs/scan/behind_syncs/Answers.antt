use Rattle.std.proofs.Common.{◌≤◌, ◌-◌, length, arith, sym, ◌∙◌}
use Rattle.chk_salvage.proofs.EntryFits.{bytes_behind, seen_sync}
use Rattle.chk_salvage.proofs.SkippingLemmas.{onward_more, between_more}
use Rattle.chk_salvage.proofs.scan.behind_syncs.Goals as goal

pub loop-place-smaller : goal.loop-place-smaller
loop-place-smaller c =
    let fits : 20 ≤ length c.args.bytes.now - c.loop-place.place = c.in-Sync.ensures.within in omega arith

pub loop-place-preserved : goal.loop-place-preserved
loop-place-preserved c =
    let place = c.loop-place.place in
    let bytes = c.args.bytes.now in
    let fits : 20 ≤ length bytes - place = c.in-Sync.ensures.within in
    record {
      within = omega arith;
      way = onward_more c.args.marker.now bytes c.args.at place c.told-marker
          (bytes_behind place bytes (λ i. omega (arith, c.type_inv.bytes i))) c.loop-place.invariant.way (sym c.in-Sync.ensures.entry);
      between = between_more c.args.marker.now bytes c.args.at place c.told-marker
          (bytes_behind place bytes (λ i. omega (arith, c.type_inv.bytes i))) c.loop-place.invariant.between (sym c.in-Sync.ensures.entry);
    }

pub returns : goal.returns
returns c = record {
  way = c.loop-place.invariant.way;
  between = c.loop-place.invariant.between;
  last = λ first. c.in_default.not-Sync (seen_sync c.entry_from.result (c.entry_from.ensures.entry ∙ first));
}
