use Rattle.std.proofs.Common.{arith}
use Rattle.chk_salvage.proofs.ReaderLemmas.{skips_to, skip_within, items_skip}
use Rattle.chk_salvage.proofs.reader.Reader.skip.Goals as goal

pub invariant_of-self : goal.invariant_of-self
invariant_of-self c =
    let self = c.args.self.now in
    let to = skips_to self.marker self.bytes.now self.place c.find_sync-found.result c.unwrap_or-self.result self.within
    c.find_sync-found.ensures c.unwrap_or-self.ensures in
    let past = skip_within self.marker self.bytes.now self.place self.within c.requires in
    omega (arith, to, past.1)

pub returns-clause-items : goal.returns-clause-items
returns-clause-items c =
    let self = c.args.self.now in
    items_skip self.marker self.bytes.now self.place c.unwrap_or-self.result self.within c.requires
    (skips_to self.marker self.bytes.now self.place c.find_sync-found.result c.unwrap_or-self.result self.within
    c.find_sync-found.ensures c.unwrap_or-self.ensures)

pub returns-clause-onward : goal.returns-clause-onward
returns-clause-onward c =
    let self = c.args.self.now in
    let to = skips_to self.marker self.bytes.now self.place c.find_sync-found.result c.unwrap_or-self.result self.within
    c.find_sync-found.ensures c.unwrap_or-self.ensures in
    let past = skip_within self.marker self.bytes.now self.place self.within c.requires in
    omega (arith, to, past.0)
