use Rattle.chk_http_grammar.specs.Messages.{acks_text}
use Rattle.chk_http_grammar.proofs.Accepted.{PostRequest-append, PollRequest-append, IsReply-append}
use Rattle.chk_http_grammar.proofs.more_bytes_keep_messages.Goals as goal

pub returns : goal.returns
returns c = λ bytes more. record {
  post = λ body r. PostRequest-append body bytes more r;
  chunks = λ chunks r. (r.0, PostRequest-append r.0 bytes more r.1, r.2);
  poll = λ stems r. PollRequest-append stems bytes more r;
  reply = λ code body r. IsReply-append code body bytes more r;
  good = λ acks r. (r.0, IsReply-append 200 (acks_text acks) bytes more r.1);
}
