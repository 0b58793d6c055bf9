use Rattle.std.proofs.Common.{subst, sym}
use Rattle.chk_chunk.specs.Posts.{IsPost}
use Rattle.chk_chunk.proofs.PostGrammar.{one_post}
use Rattle.chk_http_grammar.proofs.Accepted.{PostRequest-same, PollRequest-same, never_both, IsReply-same, IsGoodReply-same}
use Rattle.chk_http_grammar.proofs.messages_have_one_meaning.Goals as goal

pub returns : goal.returns
returns c = λ bytes. record {
  post = λ body other r q. PostRequest-same body other bytes r q;
  chunks = λ chunks others r q.
      one_post chunks others r.0 r.2 (subst (λ b. IsPost others b) (sym (PostRequest-same r.0 q.0 bytes r.1 q.1)) q.2);
  poll = λ stems others r q. PollRequest-same stems others bytes r q;
  apart = λ body stems r q. never_both body stems bytes r q;
  reply = λ code other body others r q. IsReply-same code other body others bytes r q;
  good = λ acks others r q. IsGoodReply-same acks others bytes r q;
}
