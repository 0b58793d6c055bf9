use Rattle.chk_http_grammar.proofs.Fronts.{front_of_post, front_of_post_chunks, front_of_post_is_no_poll, front_of_poll, front_of_poll_is_no_post}
use Rattle.chk_http_grammar.proofs.only_whole_is_accepted.Goals as goal

pub returns : goal.returns
returns c = λ front rest. record {
  post = λ address chunks body w r. front_of_post address chunks body front rest w r;
  chunks = λ address chunks others w r. front_of_post_chunks address chunks others front rest w r;
  no_poll = λ address chunks stems w r. front_of_post_is_no_poll address chunks stems front rest w r;
  poll = λ address stems others w r. front_of_poll address stems others front rest w r;
  no_post = λ address stems body w r. front_of_poll_is_no_post address stems body front rest w r;
}
