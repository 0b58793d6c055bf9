use Rattle.std.proofs.Common.{◌≡◌, ◌≤◌, ◌-◌, length, drop}
use Rattle.chk_bytes.specs.Words.{parts_at}
use Rattle.chk_tee_sender.specs.Subscribers.{lines_from, subscribers_in, most_subscribers}
use Rattle.chk_tee_sender.proofs.subscribers.read_subscribers.Given as goal

-- what the lines from here on add is what the text is
abbrev pub invariant-loop-at : goal.invariant-loop-at
invariant-loop-at l = record {
  same : lines_from l.at l.subscribers.items (parts_at 10 (drop l.at l.text)) ≡ subscribers_in l.text;
  within : l.at ≤ length l.text;
  few : length l.subscribers.items ≤ most_subscribers;
}

abbrev pub decreases-loop-at : goal.decreases-loop-at
decreases-loop-at l = length l.text - l.at
