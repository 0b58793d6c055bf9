use Rattle.std.proofs.Common.{◌∙◌}
use Rattle.std.proofs.lemmas.Result.{err_from_is_err_and}
use Rattle.chk_salvage.specs.Readers.{items_left}
use Rattle.chk_cmd_salvage.proofs.Printed.{said_more, said_failed, said_unmade, said_last}
use Rattle.chk_cmd_salvage.proofs.Running.{runs_then, then_on_ok}
use Rattle.chk_cmd_salvage.proofs.printing.print_items.Goals as goal

pub loop-buffer-preserved : goal.loop-buffer-preserved
loop-buffer-preserved g c = record {
  said =
      said_more c.args.who.now (items_left c.args.reader) (items_left c.loop-buffer.reader) (items_left c.put_next.new.reader)
      c.loop-buffer.buffer c.put_next.new.out c.make_room.new.buffer c.loop-buffer.invariant.said
      (rw c.if-branch.true at c.in_ok-put_next.ensures.line) c.in_ok-make_room.ensures.told;
  runs = runs_then c.loop-buffer.invariant.runs c.in_ok-make_room.ensures.runs;
  room = c.in_ok-make_room.ensures.room;
  count = c.in_ok-make_room.ensures.cause ∙ c.loop-buffer.invariant.count;
}

pub returns-in_err-put_next-clause-told : goal.returns-in_err-put_next-clause-told
returns-in_err-put_next-clause-told g c =
    let p = err_from_is_err_and c.from_residual.result c.from_residual.ensures.1 in
    rw (p.1, p.2)
    (said_unmade c.args.who.now (items_left c.args.reader) (items_left c.loop-buffer.reader) c.loop-buffer.buffer c.loop-buffer.invariant.said)

pub returns-in_err-make_room-clause-told : goal.returns-in_err-make_room-clause-told
returns-in_err-make_room-clause-told g c =
    let p = err_from_is_err_and c.from_residual-in_err-make_room.result c.from_residual-in_err-make_room.ensures.1 in
    rw (p.1, p.2)
    (said_failed c.args.who.now (items_left c.args.reader) (items_left c.loop-buffer.reader) c.loop-buffer.buffer c.put_next.new.out
    c.make_room.new.buffer c.in_err-make_room.field-0.0 c.loop-buffer.invariant.said c.in_err-make_room.ensures.told)

pub returns-clause-told : goal.returns-clause-told
returns-clause-told g c =
    said_last c.args.who.now (items_left c.args.reader) (items_left c.loop-buffer.reader) c.loop-buffer.buffer c.put_next.new.out
    c.print_rest.result c.loop-buffer.invariant.said (rw c.if-branch.false at c.in_ok-put_next.ensures.line) c.print_rest.ensures.told

pub returns-clause-runs : goal.returns-clause-runs
returns-clause-runs g c = then_on_ok c.print_rest.result _ c.loop-buffer.invariant.runs c.print_rest.ensures.runs
