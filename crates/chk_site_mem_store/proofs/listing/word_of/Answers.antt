use Rattle.std.proofs.Common.{rules}
use Rattle.chk_site_mem_store.proofs.ListLemmas.{no_word}
use Rattle.chk_site_mem_store.proofs.listing.word_of.Goals as goal

pub returns-in-Err : goal.returns-in-Err
returns-in-Err c = no_word c.args.text.now c.in-Err.fault c.in-Err.ensures.refused (λ e. search (rules))
