use Rattle.std.proofs.Common.{◌∙◌, sym, true≢false}
use Rattle.chk_http_grammar.specs.Messages.{acks_text}
use Rattle.chk_http.specs.Lines.{IsLines}
use Rattle.chk_tee_sender.proofs.offers.lines_of.Goals as goal

pub returns-then-reply-ne200-clause-none : goal.returns-then-reply-ne200-clause-none
returns-then-reply-ne200-clause-none c acks good many placed =
    c.if-reply-ne200.true ((c.in-Ok.ensures.reply 200 (acks_text acks)).1 good.1).0

pub returns-else-are_placed-clause-none : goal.returns-else-are_placed-clause-none
returns-else-are_placed-clause-none c acks good many placed =
    let lines : IsLines c.args.count acks c.in-Ok.reply.body.now =
    record { many = many; are = good.0; is = ((c.in-Ok.ensures.reply 200 (acks_text acks)).1 good.1).1 } in
    true≢false (sym (c.are_placed.ensures.all acks lines placed) ∙ c.if-are_placed.false)

pub returns-in-Err-clause-none : goal.returns-in-Err-clause-none
returns-in-Err-clause-none c acks good many placed = (c.in-Err.ensures.reply 200 (acks_text acks)).1 good.1
