use Rattle.std.proofs.Common.{ap, arith, get_or, subst, sym, set, ◌∙◌}
use Rattle.std.proofs.lemmas.List.Edits.{map_over_more}
use Rattle.std.proofs.lemmas.List.{get_or_default}
use Rattle.chk_acks.specs.Keeping.{IsIn, kept_marked}
use Rattle.chk_acks.proofs.Keeps.{no_kept, read_over}
use Rattle.chk_acks.proofs.kept.mark.Goals as goal

pub mark-requires : goal.mark-requires
mark-requires c =
    let marks = kept_marked c.args.sinks.now c.args.stem c.args.length in
    subst (IsIn c.args.sinks.now)
    (sym (read_over marks c.args.rows.now c.loop-row.rows c.loop-row.row-index no_kept
    c.loop-row-test.true c.loop-row.invariant))
    (c.requires c.loop-row.row-index no_kept c.loop-row-test.true)

pub loop-row-preserved : goal.loop-row-preserved
loop-row-preserved c =
    let marks = kept_marked c.args.sinks.now c.args.stem c.args.length in
    ap (set c.loop-row.rows c.loop-row.row-index) c.mark.ensures
    ∙ map_over_more marks c.args.rows.now c.loop-row.rows c.loop-row.row-index
    (get_or c.loop-row.rows c.loop-row.row-index no_kept) c.loop-row-test.true
    c.loop-row.invariant (get_or_default c.loop-row.rows c.loop-row.row-index no_kept _
    (omega (arith, c.loop-row-test.true, c.loop-row.auto.rows)))
