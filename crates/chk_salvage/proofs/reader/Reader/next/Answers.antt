use Rattle.std.proofs.Common.{◌+◌, drop, sym, ◌∙◌}
use Rattle.chk_seqfile.specs.Entries.{size_of_record}
use Rattle.chk_salvage.proofs.FrontLemmas.{read_so_record}
use Rattle.chk_salvage.proofs.ReaderLemmas.{records_step, items_step, front_at_damage, stays_at_damage, stays_at_end}
use Rattle.chk_salvage.proofs.reader.Reader.next.Goals as goal

pub returns-in-Record-clause-records : goal.returns-in-Record-clause-records
returns-in-Record-clause-records c =
    let self = c.args.self.now in
    c.behind_syncs-self.ensures.way.records
    ∙ records_step self.marker self.bytes.now c.behind_syncs-self.result c.in-Record.key.now c.in-Record.value.now (sym c.in-Record.ensures.entry)

pub returns-in-Record-clause-items : goal.returns-in-Record-clause-items
returns-in-Record-clause-items c =
    let self = c.args.self.now in
    c.behind_syncs-self.ensures.way.items
    ∙ items_step self.marker self.bytes.now c.behind_syncs-self.result c.in-Record.key.now c.in-Record.value.now (sym c.in-Record.ensures.entry)

pub returns-in-Record-clause-read : goal.returns-in-Record-clause-read
returns-in-Record-clause-read c so =
    let self = c.args.self.now in
    let key = c.in-Record.key.now in
    let value = c.in-Record.value.now in
    read_so_record self.marker self.bytes.now c.behind_syncs-self.result key value
    (drop (c.behind_syncs-self.result + size_of_record key value) self.bytes.now)
    c.in-Record.ensures.stands.0 c.in-Record.ensures.stands.1 (c.behind_syncs-self.ensures.way.read so)

pub returns-in-Damaged-clause-front : goal.returns-in-Damaged-clause-front
returns-in-Damaged-clause-front c so stop =
    let self = c.args.self.now in
    front_at_damage self.marker self.bytes.now c.behind_syncs-self.result c.in-Damaged.why (c.behind_syncs-self.ensures.way.read so) (sym c.in-Damaged.ensures.entry)

pub returns-in-Damaged-clause-stays : goal.returns-in-Damaged-clause-stays
returns-in-Damaged-clause-stays c =
    stays_at_damage c.args.self.now c.behind_syncs-self.result c.in-Damaged.why c.behind_syncs-self.ensures (sym c.in-Damaged.ensures.entry)

pub returns-in-Nothing-clause-stays : goal.returns-in-Nothing-clause-stays
returns-in-Nothing-clause-stays c =
    stays_at_end c.args.self.now c.behind_syncs-self.result c.behind_syncs-self.ensures (sym c.in-Nothing.ensures.entry)
