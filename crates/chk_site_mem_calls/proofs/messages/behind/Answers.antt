use Rattle.std.proofs.Common.{rules}
use Rattle.std.proofs.lemmas.Bool.Decides.{Decides-eqb}
use Rattle.std.proofs.lemmas.Slice.Eq.{strip_prefix_is}
use Rattle.chk_site_mem_calls.proofs.TakeLemmas.{behind_is}
use Rattle.chk_site_mem_calls.proofs.messages.behind.Goals as goal

pub returns : goal.returns
returns c =
    let m = c.in_ok-message.field-0 in
    behind_is c.args.message m c.args.taken.now c.strip_prefix.result (search rules)
    (strip_prefix_is Decides-eqb m.now c.args.taken.now c.strip_prefix.result c.strip_prefix.ensures.cases)
