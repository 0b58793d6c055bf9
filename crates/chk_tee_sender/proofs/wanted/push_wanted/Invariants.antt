use Rattle.std.proofs.Common.{◌≡◌, ◌++◌, length}
use Rattle.std.specs.Prelude.{IsTrue}
use Rattle.std.specs.List.{list_all}
use Rattle.chk_http_grammar.specs.Messages.{is_ack}
use Rattle.chk_tee.specs.Messages.{written_teeds}
use Rattle.chk_tee_sender.specs.Offers.{is_placed}
use Rattle.chk_tee_sender.proofs.WantedLemmas.{rest_of}
use Rattle.chk_tee_sender.proofs.wanted.push_wanted.Given as goal

-- what is written so far, and what the rest adds
abbrev pub invariant-loop-chunk : goal.invariant-loop-chunk
invariant-loop-chunk l = record {
  so_far : l.out ++ written_teeds (rest_of l.filter l.post.left l.lines) ≡ l.fn.out ++ written_teeds (rest_of l.filter l.fn.post.left l.fn.lines);
  acks : IsTrue (list_all is_ack l.lines);
  placed : IsTrue (list_all is_placed l.lines);
}

abbrev pub decreases-loop-chunk : goal.decreases-loop-chunk
decreases-loop-chunk l = length l.post.left
