use Rattle.std.proofs.Common.{refl, arith}
use Rattle.std.proofs.lemmas.Result.{err_from_is_err_and}
use Rattle.chk_checkpoint.specs.Lines.{shown, lines_of}
use Rattle.chk_agent.specs.Takes.{IsMore, wanting}
use Rattle.chk_agent.proofs.AddingLines.{last_none}
use Rattle.chk_agent.proofs.AddingKept.{newest_left}
use Rattle.chk_agent.proofs.agent.Agent.keep_new.Goals as goal

pub returns-in_err-adaptor-clause-state : goal.returns-in_err-adaptor-clause-state
returns-in_err-adaptor-clause-state g c =
    let p = err_from_is_err_and c.from_residual.result c.from_residual.ensures.1 in rw (p.1, p.2)
    wanting

pub returns-in_err-adaptor-clause-told : goal.returns-in_err-adaptor-clause-told
returns-in_err-adaptor-clause-told g c stamped =
    newest_left stamped c.args.self.now c.args.self.now (shown c.args.line) refl
    (g.S.Site.told c.args.site.now)

pub returns-in_err-check-clause-state : goal.returns-in_err-check-clause-state
returns-in_err-check-clause-state g c =
    let r = c.from_residual-in_err-check in
    let p = err_from_is_err_and r.result r.ensures.1 in rw (p.1, p.2) wanting

pub returns-in_err-check-clause-told : goal.returns-in_err-check-clause-told
returns-in_err-check-clause-told g c stamped =
    newest_left stamped c.args.self.now c.args.self.now (shown c.args.line) refl
    (g.S.Site.told c.args.site.now)

pub write_more-requires-clause-more : goal.write_more-requires-clause-more
write_more-requires-clause-more g c = (
  shown c.args.line,
  record {
    new = c.requires.line;
    start = refl;
    adaptor = c.in_ok-adaptor.ensures;
    lines_are = c.in_ok-check.ensures;
  },
)

pub returns-clause-state : goal.returns-clause-state
returns-clause-state g c =
    let m : IsMore c.args.self.now (shown c.args.line) c.args.line.start c.in_ok-adaptor.adaptor
    (lines_of c.in_ok-check.check) =
    record {
      new = c.requires.line;
      start = refl;
      adaptor = c.in_ok-adaptor.ensures;
      lines_are = c.in_ok-check.ensures;
    } in
    c.write_more.ensures.state (shown c.args.line) m

pub returns-clause-told : goal.returns-clause-told
returns-clause-told g c stamped =
    let m : IsMore c.args.self.now (shown c.args.line) c.args.line.start c.in_ok-adaptor.adaptor
    (lines_of c.in_ok-check.check) =
    record {
      new = c.requires.line;
      start = refl;
      adaptor = c.in_ok-adaptor.ensures;
      lines_are = c.in_ok-check.ensures;
    } in
    c.write_more.ensures.told stamped (shown c.args.line) m

pub returns-in_err-adaptor-clause-undamaged : goal.returns-in_err-adaptor-clause-undamaged
returns-in_err-adaptor-clause-undamaged g c =
    let r = c.from_residual in
    let p = err_from_is_err_and r.result r.ensures.1 in
    rw (p.1, p.2) tt

pub returns-in_err-adaptor-clause-last : goal.returns-in_err-adaptor-clause-last
returns-in_err-adaptor-clause-last g c =
    let r = c.from_residual in
    let p = err_from_is_err_and r.result r.ensures.1 in
    rw (p.1, p.2) (last_none (Unit {0}) (g.S.Site.told c.args.site.now))

pub returns-in_err-adaptor-clause-cause : goal.returns-in_err-adaptor-clause-cause
returns-in_err-adaptor-clause-cause g c =
    let r = c.from_residual in
    let p = err_from_is_err_and r.result r.ensures.1 in
    rw (p.1, p.2) (omega arith)

pub returns-in_err-check-clause-undamaged : goal.returns-in_err-check-clause-undamaged
returns-in_err-check-clause-undamaged g c =
    let r = c.from_residual-in_err-check in
    let p = err_from_is_err_and r.result r.ensures.1 in
    rw (p.1, p.2) tt

pub returns-in_err-check-clause-last : goal.returns-in_err-check-clause-last
returns-in_err-check-clause-last g c =
    let r = c.from_residual-in_err-check in
    let p = err_from_is_err_and r.result r.ensures.1 in
    rw (p.1, p.2) (last_none (Unit {0}) (g.S.Site.told c.args.site.now))

pub returns-in_err-check-clause-cause : goal.returns-in_err-check-clause-cause
returns-in_err-check-clause-cause g c =
    let r = c.from_residual-in_err-check in
    let p = err_from_is_err_and r.result r.ensures.1 in
    rw (p.1, p.2) (omega arith)
