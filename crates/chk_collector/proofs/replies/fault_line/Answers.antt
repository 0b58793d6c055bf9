use Rattle.std.proofs.Common.{◌≤◌, ◌<◌, ◌^◌, length, ap, arith}
use Rattle.chk_collector.proofs.Sizes.{pushed, word_short, decimal_short, call_short, with_newline}
use Rattle.chk_collector.proofs.replies.fault_line.Goals as goal
use Rattle.chk_collector.proofs.replies.fault_line.Goals.{in-Outside+in_ok-push_all-in-Outside+in_ok-push_all-in-Outside-2, in-Damaged+in_ok-push_all-in-Damaged+in_ok-push_all-in-Damaged-2+in_ok-push_all-in-Damaged-3+in_ok-put_decimal-in-Damaged, in-Spent+in_ok-push_all-in-Spent+in_ok-put_decimal-in-Spent, in-NoMemory}

pub returns-clause-short : goal.returns-clause-short
returns-clause-short c =
    let e = c.in_ok-push_all.ensures.ok in
    let none : length c.new-line.result ≤ 0 = omega (arith, ap length c.new-line.ensures) in
    elim c.match-fault.branch [
      | in-Outside+in_ok-push_all-in-Outside+in_ok-push_all-in-Outside-2 w ↦
          let a = pushed 0 8 _ _ _ w.in_ok-push_all-in-Outside.ensures.ok none (omega arith) in
          let name : length w.name.result.now ≤ 16 = omega (arith, ap length w.name.ensures, call_short w.in-Outside.call) in
          let text : length w.as_bytes.result.now ≤ 16 = omega (arith, ap length w.as_bytes.ensures.value) in
          let b = pushed 8 16 _ _ _ w.in_ok-push_all-in-Outside-2.ensures.ok a text in
          with_newline _ _ _ e w.line-is (omega (arith, b))
      | in-Damaged+in_ok-push_all-in-Damaged+in_ok-push_all-in-Damaged-2+in_ok-push_all-in-Damaged-3+in_ok-put_decimal-in-Damaged w ↦
          let r : w.in-Damaged.at < 2 ^ 64 = omega arith in
          let a = pushed 0 8 _ _ _ w.in_ok-push_all-in-Damaged.ensures.ok none (omega arith) in
          let name : length w.as_str.result.now ≤ 4096 = omega (arith, ap length w.as_str.ensures.text, word_short _ w.as_str.ensures.word) in
          let text : length w.as_bytes-in-Damaged.result.now ≤ 4096 = omega (arith, ap length w.as_bytes-in-Damaged.ensures.value) in
          let b = pushed 8 4096 _ _ _ w.in_ok-push_all-in-Damaged-2.ensures.ok a text in
          let d = pushed 4104 1 _ _ _ w.in_ok-push_all-in-Damaged-3.ensures.ok b (omega arith) in
          let f = pushed 4105 20 _ _ _ w.in_ok-put_decimal-in-Damaged.ensures.ok d (decimal_short _ r) in
          with_newline _ _ _ e w.line-is (omega (arith, f))
      | in-Spent+in_ok-push_all-in-Spent+in_ok-put_decimal-in-Spent w ↦
          let r : w.in-Spent.born < 2 ^ 64 = omega arith in
          let a = pushed 0 8 _ _ _ w.in_ok-push_all-in-Spent.ensures.ok none (omega arith) in
          let b = pushed 8 20 _ _ _ w.in_ok-put_decimal-in-Spent.ensures.ok a (decimal_short _ r) in
          with_newline _ _ _ e w.line-is (omega (arith, b))
      | in-NoMemory w ↦ with_newline _ _ _ e w.line-is (omega (arith, none))
    ]
