use Rattle.chk_http_grammar.proofs.Accepted.{request_in_front}
use Rattle.chk_http_grammar.proofs.front_decides.Goals as goal

pub returns : goal.returns
returns c = request_in_front
