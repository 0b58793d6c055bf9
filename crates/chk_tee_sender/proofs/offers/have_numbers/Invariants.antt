use Rattle.std.proofs.Common.{◌≡◌, length}
use Rattle.std.specs.List.{list_all}
use Rattle.chk_tee_sender.specs.Offers.{is_placed}
use Rattle.chk_tee_sender.proofs.offers.have_numbers.Given as goal

-- the lines that are left say whether all have numbers
abbrev pub invariant-loop-number : goal.invariant-loop-number
invariant-loop-number l = list_all is_placed l.fn.lines ≡ list_all is_placed l.lines

abbrev pub decreases-loop-number : goal.decreases-loop-number
decreases-loop-number l = length l.lines
