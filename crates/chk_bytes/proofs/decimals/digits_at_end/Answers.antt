use Rattle.std.proofs.Common.{◌<◌, ◌-◌, ◌+◌, ◌/◌, ◌^◌, ◌++◌, length, decimal, arith, sym, ap, ◌∙◌}
use Rattle.std.proofs.lemmas.List.{append-nil, drop_all}
use Rattle.std.proofs.lemmas.Fmt.{decimal_nonempty, length-decimal-le}
use Rattle.chk_bytes.proofs.DecimalLemmas.{digit_written, room_left, last_digit_written}
use Rattle.chk_bytes.proofs.decimals.digits_at_end.Goals as goal

pub loop-rest-init : goal.loop-rest-init
loop-rest-init c =
    let small : c.args.n < 2 ^ 64 = omega arith in
    let big : c.args.n < 10 ^ 20 = omega arith in
    record {
      within = omega arith;
      room = length-decimal-le 20 c.args.n (omega arith) big small;
      written = sym (append-nil (decimal c.args.n))
          ∙ ap (λ ds. decimal c.args.n ++ ds) (sym (drop_all 20 c.args.digits.now (omega arith)));
    }

pub overflow_sub-from : goal.overflow_sub-from
overflow_sub-from c =
    let small : c.loop-rest.rest / 10 < 2 ^ 64 = omega arith in
    omega (
      arith,
      room_left c.loop-rest.rest (omega arith) (omega arith),
      decimal_nonempty
          (c.loop-rest.rest / 10) small,
    )

pub loop-rest-preserved : goal.loop-rest-preserved
loop-rest-preserved c =
    let l = c.loop-rest in
    let left = room_left l.rest (omega arith) (omega arith) in
    let some : 0 < length (decimal (l.rest / 10)) = decimal_nonempty (l.rest / 10) (omega arith) in
    record {
      within = omega arith;
      room = omega arith;
      written = digit_written c.args.n l.rest l.from (l.from - 1 + 1) l.digits (omega arith)
          (omega arith) (omega arith) (omega arith) l.invariant.written;
    }

pub returns-clause-value : goal.returns-clause-value
returns-clause-value c =
    let l = c.loop-rest in
    last_digit_written c.args.n l.rest l.from l.digits (omega arith) (omega arith)
    l.invariant.written
