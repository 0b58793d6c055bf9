use Rattle.std.proofs.Common.{ap, rules}
use Rattle.std.specs.Prelude.{is_err}
use Rattle.std.proofs.lemmas.Result.{err_from_is_err_and}
use Rattle.chk_site_sockets.proofs.DoorLemmas.{front_put, none_put}
use Rattle.chk_site_sockets.proofs.stream_door.StreamDoor.answer.Goals as goal

pub returns-in_err-deadline-clause-put : goal.returns-in_err-deadline-clause-put
returns-in_err-deadline-clause-put g c =
    let p = err_from_is_err_and c.from_residual.result c.from_residual.ensures.1 in
    front_put c.args.self.now.taken c.in-Some.taken (λ taken. taken.stream)
    g.R.Stream.Write.contents c.args.bytes.now c.in-Some.taken.stream c.from_residual.result
    (search rules) (none_put _ c.args.bytes.now) (ap is_err p.1)

pub returns-in_err-write_before-clause-put : goal.returns-in_err-write_before-clause-put
returns-in_err-write_before-clause-put g c =
    let r = c.from_residual-in_err-write_before.result in
    let p = err_from_is_err_and r c.from_residual-in_err-write_before.ensures.1 in
    front_put c.args.self.now.taken c.in-Some.taken (λ taken. taken.stream)
    g.R.Stream.Write.contents c.args.bytes.now c.write_before.new.stream r
    (search rules) c.in_err-write_before.ensures (ap is_err p.1)
