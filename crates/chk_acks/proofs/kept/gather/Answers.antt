use Rattle.std.proofs.Common.{◌∙◌, ◌-◌, ap, arith, length, map, vec_capacity, [], set, subst, sym, take}
use Rattle.std.proofs.lemmas.List.{get_or_read, length-take-le, take_all}
use Rattle.chk_bytes.specs.Stems.{Stem, stem_of}
use Rattle.chk_acks.specs.Keeping.{Rises, seen}
use Rattle.chk_acks.proofs.Gathers.{gather_end, here, left_more, more_new, more_same, numbered, row_within}
use Rattle.chk_acks.proofs.kept.gather.Goals as goal
use Rattle.chk_acks.proofs.kept.gather.Goals.{then-sink-next, else-sink-next}

pub index-requires : goal.index-requires
index-requires c =
    let i = c.loop-row.invariant in
    omega (
      arith,
      row_within _ _ _ _ _ _ _ c.loop-row-test.true c.loop-row.auto.rows i.1 i.0,
      c.loop-row.sinks.ok,
    )

pub loop-row-preserved : goal.loop-row-preserved
loop-row-preserved c =
    let i = c.loop-row.invariant in
    let lt = c.loop-row-test.true in
    let long = c.loop-row.auto.rows in
    let row = here c.loop-row.rows c.loop-row.row-index in
    let left = left_more _ _ _ _ _ _ _ lt long i.1 i.0 (numbered row (c.if-sink-next.used - 1)) in
    elim c.if-sink-next.branch [
      | then-sink-next w ↦ (
        more_new _ _ _ _ _ _ _ lt long i.1 i.0 w.if-sink-next.true c.if-sink-next.sinks.items
            c.if-sink-next.used c.if-sink-next.next
            (ap (λ v. v.items) w.sinks-is
            ∙ ap (set c.loop-row.sinks.items c.loop-row.used)
            (get_or_read c.loop-row.sinks.items row.sink w.index.result.now
            (row_within _ _ _ _ _ _ _ lt long i.1 i.0) w.index.ensures (stem_of [] 0 0)))
            w.used-is w.next-is,
        left,
        ap (λ v. vec_capacity v) w.sinks-is ∙ i.2,
      )
      | else-sink-next w ↦ (
        more_same _ _ _ _ _ _ _ lt long i.1 i.0 (omega (arith, w.if-sink-next.false))
            c.if-sink-next.sinks.items c.if-sink-next.used c.if-sink-next.next
            (ap (λ v. v.items) w.sinks-is) w.used-is w.next-is,
        left,
        ap (λ v. vec_capacity v) w.sinks-is ∙ i.2,
      )
    ]

pub returns-clause-same : goal.returns-clause-same
returns-clause-same c =
    let i = c.loop-row.invariant in
    let sinks = take c.loop-row.used c.loop-row.sinks.items in
    ap (λ s. map (seen s) c.loop-row.rows) c.truncate.ensures.items
    ∙ ap (map (seen sinks))
    (sym (take_all c.loop-row.row-index c.loop-row.rows
    (omega (arith, c.loop-row-test.false, c.loop-row.auto.rows))))
    ∙ gather_end _ _ _ _ _ _ _ i.0
    ∙ ap (map (seen c.args.sinks.now.items))
    (take_all c.loop-row.row-index c.args.rows.now c.loop-row-test.false)

pub returns-clause-rises : goal.returns-clause-rises
returns-clause-rises c =
    let g = c.loop-row.invariant.0 in
    subst (λ rows. Rises 0 rows (length c.truncate.new.self.items))
    (take_all c.loop-row.row-index c.loop-row.rows
    (omega (arith, c.loop-row-test.false, c.loop-row.auto.rows)))
    (subst (Rises 0 (take c.loop-row.row-index c.loop-row.rows))
    (omega (
      arith,
      ap (length {A = Stem}) c.truncate.ensures.items,
      length-take-le c.loop-row.used c.loop-row.sinks.items (omega (arith, g.room, g.size)),
    ))
    g.rises)
