use Rattle.std.proofs.Common.{◌≡◌, ◌<◌, ◌^◌, take}
use Rattle.chk_bytes.specs.Numbers.{spelled}
use Rattle.chk_bytes.proofs.numbers.spelled_number.Given as goal

abbrev pub invariant-loop-byte : goal.invariant-loop-byte
invariant-loop-byte l = record {
  value : l.n ≡ spelled (take l.byte-index l.bytes);
  bound : l.n < 256 ^ l.byte-index;
}
