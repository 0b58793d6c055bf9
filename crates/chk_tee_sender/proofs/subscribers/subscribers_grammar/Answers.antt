use Rattle.chk_tee_sender.proofs.SubscriberLemmas.{subscribers_read, subscribers_back}
use Rattle.chk_tee_sender.proofs.subscribers.subscribers_grammar.Goals as goal

pub returns : goal.returns
returns c = λ subscribers text. (subscribers_read subscribers text, subscribers_back subscribers text)
