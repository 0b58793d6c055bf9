use Rattle.std.proofs.Common.{◌≡◌, false, drop, nat_eq, sym, ap, ◌∙◌}
use Rattle.std.specs.List.{starts_with}
use Rattle.std.proofs.lemmas.List.{take_rest}
use Rattle.chk_seqfile.specs.Entries.{sync_entry}
use Rattle.chk_salvage.proofs.SalvageLemmas.{next_sync-later}
use Rattle.chk_salvage.proofs.scan.find_sync.Goals as goal

pub loop-at-preserved : goal.loop-at-preserved
loop-at-preserved c =
    let marker = c.args.marker.now in
    let bytes = c.args.bytes.now in
    let at = c.loop-at.at in
    let none : starts_with nat_eq (drop at bytes) (sync_entry marker) ≡ false =
    ap (λ x. starts_with nat_eq x (sync_entry marker)) (sym (take_rest bytes at)) ∙ sym c.begins_with_sync.ensures ∙ c.if-begins_with_sync.false in
    sym (next_sync-later marker at bytes c.loop-at-test.true none) ∙ c.loop-at.invariant
