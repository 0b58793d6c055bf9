use Rattle.chk_world.proofs.NameLemmas.{read-spell, spell-read}
use Rattle.chk_world.proofs.names_are_read.Goals as goal

pub returns : goal.returns
returns c = record { back = read-spell; so = spell-read }
