use Rattle.std.proofs.Common.{rules, tests}
use Rattle.std.proofs.lemmas.Iterator.Consumers.{YieldsList-from_deque}
use Rattle.std.proofs.lemmas.Iterator.Search.{any_from_yields_List}
use Rattle.chk_site_sockets.specs.Mailbox.{is_for}
use Rattle.chk_site_sockets.proofs.mailbox.Mailbox.is_waiting.Goals as goal

pub returns : goal.returns
returns c =
    any_from_yields_List (is_for c.args.message) _ _ _ c.any.ensures.ran
    (YieldsList-from_deque c.args.self.now.waiting.items c.iter.ensures.rest)
    (λ x b q k. search (rules, tests))
