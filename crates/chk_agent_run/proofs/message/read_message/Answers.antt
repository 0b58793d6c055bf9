use Rattle.std.proofs.Common.{◌≡◌, ℕ, ◌<◌, ◌++◌, List, Option, Ok, Some, None, Err, length, ap, sym, subst, ◌∙◌, arith}
use Rattle.std.proofs.lemmas.Result.{err_from_is_err_and}
use Rattle.chk_agent_run.specs.Closing.{capped}
use Rattle.chk_agent_run.specs.Messages.{Brought}
use Rattle.chk_agent_run.proofs.CallsTold.{count_of}
use Rattle.chk_agent_run.proofs.Messages.{CameTo, read_told, came_none, found_closed, found_open, opened_by, grows, ends_wanting, ends_closed, ends_long, ends_over, ends_unkept, ends_broken, ends_ungiven, came_piece}
use Rattle.chk_agent_run.proofs.message.read_message.Goals as goal

pub returns-in_err-next-clause-read : goal.returns-in_err-next-clause-read
returns-in_err-next-clause-read g c =
    let p = err_from_is_err_and c.from_residual.result c.from_residual.ensures.1 in
    rw (p.1, p.2) (ends_wanting _ _ _ _ _ _ _ c.loop-message.invariant.so_far)

pub returns-in_err-next-clause-told : goal.returns-in_err-next-clause-told
returns-in_err-next-clause-told g c =
    read_told c.args.agent.now c.args.who.now c.requires.who c.ready-sound.ensures.sound c.requires.ready c.args.taking.number
    (returns-in_err-next-clause-read g c)

pub returns-in_default-clause-read : goal.returns-in_default-clause-read
returns-in_default-clause-read g c =
    ends_closed _ _ _ _ _ _ _ c.loop-message.invariant.so_far
    (found_closed c.as_slice.result.now c.loop-message.message c.as_slice.ensures c.in_ok-next.field-0
    c.in_ok-next.ensures c.in_default.is)

pub returns-in_default-clause-told : goal.returns-in_default-clause-told
returns-in_default-clause-told g c =
    read_told c.args.agent.now c.args.who.now c.requires.who c.ready-sound.ensures.sound c.requires.ready c.args.taking.number
    (returns-in_default-clause-read g c)

pub returns-then-len-ge-MOST_BYTES-clause-read : goal.returns-then-len-ge-MOST_BYTES-clause-read
returns-then-len-ge-MOST_BYTES-clause-read g c =
    ends_long _ _ _ _ _ _ _ c.loop-message.invariant.so_far
    (let size = c.len.ensures in let past = c.if-len-ge-MOST_BYTES.true in omega (arith, size, past))

pub returns-then-len-ge-MOST_BYTES-clause-told : goal.returns-then-len-ge-MOST_BYTES-clause-told
returns-then-len-ge-MOST_BYTES-clause-told g c =
    read_told c.args.agent.now c.args.who.now c.requires.who c.ready-sound.ensures.sound c.requires.ready c.args.taking.number
    (returns-then-len-ge-MOST_BYTES-clause-read g c)

pub returns-in_err-piece-clause-read : goal.returns-in_err-piece-clause-read
returns-in_err-piece-clause-read g c =
    let p = err_from_is_err_and c.from_residual-in_err-piece.result c.from_residual-in_err-piece.ensures.1 in
    rw (p.1, p.2, c.in_err-piece.ensures.unmade)
    (ends_ungiven _ _ _ _ _ _ _ c.loop-message.invariant.so_far
    (opened_by c.as_slice.result.now c.loop-message.message c.as_slice.ensures c.in_ok-next.field-0
    c.in_ok-next.ensures c.in-Open.next c.in-Open.is c.len.result c.len.ensures c.if-len-ge-MOST_BYTES.false)
    c.more-given.result c.more-given.ensures.told c.in_err-piece.field-0.0 c.in_err-piece.ensures.brought)

pub returns-in_err-piece-clause-told : goal.returns-in_err-piece-clause-told
returns-in_err-piece-clause-told g c =
    read_told c.args.agent.now c.args.who.now c.requires.who c.ready-sound.ensures.sound c.requires.ready c.args.taking.number
    (returns-in_err-piece-clause-read g c)

pub returns-in_default-2-clause-read : goal.returns-in_default-2-clause-read
returns-in_default-2-clause-read g c =
    ends_broken _ _ _ _ _ _ _ c.loop-message.invariant.so_far
    (opened_by c.as_slice.result.now c.loop-message.message c.as_slice.ensures c.in_ok-next.field-0
    c.in_ok-next.ensures c.in-Open.next c.in-Open.is c.len.result c.len.ensures c.if-len-ge-MOST_BYTES.false)
    c.more-given.result c.more-given.ensures.told
    (subst (λ (o : Option (List ℕ)). Brought c.more-given.result (Ok o)) c.in_default-2.is c.in_ok-piece.ensures.brought)

pub returns-in_default-2-clause-told : goal.returns-in_default-2-clause-told
returns-in_default-2-clause-told g c =
    read_told c.args.agent.now c.args.who.now c.requires.who c.ready-sound.ensures.sound c.requires.ready c.args.taking.number
    (returns-in_default-2-clause-read g c)

pub returns-then-len-eq0-clause-read : goal.returns-then-len-eq0-clause-read
returns-then-len-eq0-clause-read g c =
    ends_over _ _ _ _ _ _ _ c.loop-message.invariant.so_far
    (opened_by c.as_slice.result.now c.loop-message.message c.as_slice.ensures c.in_ok-next.field-0
    c.in_ok-next.ensures c.in-Open.next c.in-Open.is c.len.result c.len.ensures c.if-len-ge-MOST_BYTES.false)
    c.more-given.result c.more-given.ensures.told c.in-Some.piece
    (subst (λ (o : Option (List ℕ)). Brought c.more-given.result (Ok o)) c.in-Some.is c.in_ok-piece.ensures.brought)
    (sym c.len-in-loop-message.ensures ∙ c.if-len-eq0.true)

pub returns-then-len-eq0-clause-told : goal.returns-then-len-eq0-clause-told
returns-then-len-eq0-clause-told g c =
    read_told c.args.agent.now c.args.who.now c.requires.who c.ready-sound.ensures.sound c.requires.ready c.args.taking.number
    (returns-then-len-eq0-clause-read g c)

pub returns-in_err-add_piece-clause-read : goal.returns-in_err-add_piece-clause-read
returns-in_err-add_piece-clause-read g c =
    let p = err_from_is_err_and c.from_residual-in_err-add_piece.result c.from_residual-in_err-add_piece.ensures.1 in
    rw (p.1, p.2)
    (ends_unkept _ _ _ _ _ _ _ c.loop-message.invariant.so_far
    (opened_by c.as_slice.result.now c.loop-message.message c.as_slice.ensures c.in_ok-next.field-0
    c.in_ok-next.ensures c.in-Open.next c.in-Open.is c.len.result c.len.ensures c.if-len-ge-MOST_BYTES.false)
    c.more-given.result c.more-given.ensures.told c.in-Some.piece
    (subst (λ (o : Option (List ℕ)). Brought c.more-given.result (Ok o)) c.in-Some.is c.in_ok-piece.ensures.brought))

pub returns-in_err-add_piece-clause-told : goal.returns-in_err-add_piece-clause-told
returns-in_err-add_piece-clause-told g c =
    read_told c.args.agent.now c.args.who.now c.requires.who c.ready-sound.ensures.sound c.requires.ready c.args.taking.number
    (returns-in_err-add_piece-clause-read g c)

pub loop-message-init : goal.loop-message-init
loop-message-init g c = record {
  so_far = subst (λ (m : List ℕ). CameTo c.args.who.now c.args.taking.number (capped c.args.taking.bytes) (g.S.Site.told c.args.site.now) m 0
      (g.S.Site.told c.args.site.now)) (sym c.truncate.ensures)
      (came_none c.args.who.now c.args.taking.number (capped c.args.taking.bytes) (g.S.Site.told c.args.site.now));
  count = omega arith;
}

pub loop-message-smaller : goal.loop-message-smaller
loop-message-smaller g c =
    let size = c.len.ensures in let short = c.if-len-ge-MOST_BYTES.false in
    let piece = c.len-in-loop-message.ensures in let some = c.if-len-eq0.false in
    grows c.loop-message.message c.in-Some.piece c.add_piece.new.message
    (c.in_ok-add_piece.ensures ∙ ap (λ (p : List ℕ). capped (c.loop-message.message ++ p)) c.as_slice-in-loop-message.ensures)
    (omega (arith, piece, some)) (omega (arith, size, short))

pub loop-message-preserved : goal.loop-message-preserved
loop-message-preserved g c =
    let piece = c.len-in-loop-message.ensures in let some = c.if-len-eq0.false in
    record {
      so_far = came_piece _ _ _ _ _ _ _ c.loop-message.invariant.so_far
          (opened_by c.as_slice.result.now c.loop-message.message c.as_slice.ensures c.in_ok-next.field-0
          c.in_ok-next.ensures c.in-Open.next c.in-Open.is c.len.result c.len.ensures c.if-len-ge-MOST_BYTES.false)
          c.more-given.result c.more-given.ensures.told c.in-Open.next
          (found_open c.as_slice.result.now c.loop-message.message c.as_slice.ensures c.in_ok-next.field-0
          c.in_ok-next.ensures c.in-Open.next c.in-Open.is).0
          c.in-Some.piece c.add_piece.new.message
          (subst (λ (o : Option (List ℕ)). Brought c.more-given.result (Ok o)) c.in-Some.is c.in_ok-piece.ensures.brought)
          (omega (arith, piece, some))
          (c.in_ok-add_piece.ensures ∙ ap (λ (p : List ℕ). capped (c.loop-message.message ++ p)) c.as_slice-in-loop-message.ensures);
      count = (let so_far = c.loop-message.invariant.count in let more = count_of (g.S.Site.fault_count c.loop-message.site) (g.S.Site.fault_count c.more-given.new.self) c.more-given.result c.more-given.ensures.cause in
          omega (arith, so_far, more));
    }
