use Rattle.chk_http_grammar.specs.Messages.{acks_text}
use Rattle.chk_http_grammar.proofs.Written.{post_accepted, written_is_post, written_is_poll, written_is_reply}
use Rattle.chk_http_grammar.proofs.written_is_accepted.Goals as goal

pub returns : goal.returns
returns c = λ bytes. record {
  body = λ address body to short is. post_accepted address body bytes to short is;
  post = λ address chunks w. written_is_post address chunks bytes w;
  poll = λ address stems w. written_is_poll address stems bytes w;
  reply = λ code phrase body w. written_is_reply code phrase body bytes w;
  good = λ phrase acks are w. (are, written_is_reply 200 phrase (acks_text acks) bytes w);
}
