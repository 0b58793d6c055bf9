use Rattle.std.proofs.Common.{subst}
use Rattle.chk_chunk.specs.Lent.{lent_chunk}
use Rattle.chk_record_index.specs.declared.last_key.Written.{Written}
use Rattle.chk_record_index.specs.Telling.{Tells}
use Rattle.chk_book.proofs.Recent.{now_recent}
use Rattle.chk_book.proofs.noting.note.Goals as goal

pub raise_last-requires : goal.raise_last-requires
raise_last-requires c =
    let key = (lent_chunk c.args.chunk.now).key in
    c.requires.recent key c.requires.key
    (subst (λ (how : Written). Tells how key c.args.key.now) c.in-Over.is c.in_ok-write.ensures.over)

pub returns-in-Over-clause-recent : goal.returns-in-Over-clause-recent
returns-in-Over-clause-recent c =
    now_recent (lent_chunk c.args.chunk.now).key c.write.new.self c.raise_last.new.self c.requires.key c.in_ok-write.ensures.key
    c.raise_last.ensures.last

pub returns-in-Ok-clause-recent : goal.returns-in-Ok-clause-recent
returns-in-Ok-clause-recent c =
    now_recent (lent_chunk c.args.chunk.now).key c.write.new.self c.note.new.self c.requires.key c.in_ok-write.ensures.key
    c.in-Ok.ensures.last
