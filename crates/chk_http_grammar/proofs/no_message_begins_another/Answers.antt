use Rattle.chk_http_grammar.proofs.Fronts.{none_begins_another}
use Rattle.chk_http_grammar.proofs.no_message_begins_another.Goals as goal

pub returns : goal.returns
returns c = none_begins_another
