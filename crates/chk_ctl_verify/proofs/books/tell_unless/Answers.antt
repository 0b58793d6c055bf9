use Rattle.std.proofs.Common.{sym, ◌∙◌}
use Rattle.chk_world.proofs.Ends.{bytes_same}
use Rattle.chk_ctl_verify.specs.Books.{other, same}
use Rattle.chk_ctl_verify.proofs.books.tell_unless.Goals as goal

pub returns-then-eq-clause-told : goal.returns-then-eq-clause-told
returns-then-eq-clause-told g c =
    same (bytes_same c.args.name.now c.args.told.now (sym c.eq.ensures ∙ c.if-eq.true))

pub returns-clause-told : goal.returns-clause-told
returns-clause-told g c = other c.tell_damage.ensures.told
