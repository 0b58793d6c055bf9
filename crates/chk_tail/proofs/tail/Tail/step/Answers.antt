use Rattle.std.proofs.Common.{Ok, Err}
use Rattle.chk_site.specs.declared.acts.CallFault.TheVariants.{Failed, Short, NoMemory}
use Rattle.chk_tail.specs.Tails.{Tailing, base_way}
use Rattle.chk_tail.proofs.OneRead.{base_asks, base_read, spot_at, base_gave, base_short, failed}
use Rattle.chk_tail.proofs.OneRead.{wanted}
use Rattle.chk_tail.proofs.tail.Tail.step.Goals as goal

pub returns-in-Ok-clause-told : goal.returns-in-Ok-clause-told
returns-in-Ok-clause-told g c =
    let who = c.args.who.now in
    let t : Tailing = record {
      path = c.self.inside.path;
      lines = c.self.inside.lines;
      start = c.self.inside.start;
      at = c.self.inside.at;
    } in
    rw (c.give.ensures.step, c.give.ensures.place, ← c.self.view_is)
    (base_gave who t c.in-Ok.piece c.in-Ok.ensures.past
    (base_read who t c.ask-max.result (Ok c.in-Ok.piece)
    (base_asks t _ _ _ c.self.view_is c.ask-max.ensures.asks c.offset.ensures)
    (rw c.as_str-path.ensures.text at c.in-Ok.ensures.told)))

pub returns-in-Err-Short-clause-told : goal.returns-in-Err-Short-clause-told
returns-in-Err-Short-clause-told g c =
    let who = c.args.who.now in
    let t : Tailing = record {
      path = c.self.inside.path;
      lines = c.self.inside.lines;
      start = c.self.inside.start;
      at = c.self.inside.at;
    } in
    let told = rw c.as_str-path.ensures.text at
    (rw c.in-Err-Short.field-0-is at c.in-Err-Short.ensures.told) in
    rw (← c.self.view_is)
    (base_short who t c.in-Err-Short.size
    (base_read who t c.ask-max.result (Err (Short c.in-Err-Short.size))
    (base_asks t _ _ _ c.self.view_is c.ask-max.ensures.asks c.offset.ensures) told))

pub returns-in-Err-Failed-clause-told : goal.returns-in-Err-Failed-clause-told
returns-in-Err-Failed-clause-told g c =
    let who = c.args.who.now in
    let t : Tailing = record {
      path = c.self.inside.path;
      lines = c.self.inside.lines;
      start = c.self.inside.start;
      at = c.self.inside.at;
    } in
    let told = rw c.as_str-path.ensures.text at
    (rw c.in-Err-Failed.field-0-is at c.in-Err-Failed.ensures.told) in
    rw (← c.self.view_is)
    (failed (base_way who t) (spot_at t)
    (base_read who t c.ask-max.result (Err Failed)
    (base_asks t _ _ _ c.self.view_is c.ask-max.ensures.asks c.offset.ensures) told))

pub returns-in-Err-NoMemory-clause-told : goal.returns-in-Err-NoMemory-clause-told
returns-in-Err-NoMemory-clause-told g c =
    let who = c.args.who.now in
    let t : Tailing = record {
      path = c.self.inside.path;
      lines = c.self.inside.lines;
      start = c.self.inside.start;
      at = c.self.inside.at;
    } in
    let told = rw c.as_str-path.ensures.text at
    (rw c.in-Err-NoMemory.field-0-is at c.in-Err-NoMemory.ensures.told) in
    rw (← c.self.view_is)
    (wanted (base_way who t) (spot_at t)
    (base_read who t c.ask-max.result (Err NoMemory)
    (base_asks t _ _ _ c.self.view_is c.ask-max.ensures.asks c.offset.ensures) told))
