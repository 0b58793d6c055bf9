use Rattle.std.proofs.Common.{◌≡◌, ◌%◌, ◌++◌, ℕ, List, ap, sym, arith}
use Rattle.std.specs.Prelude.{codes, decimal}
use Rattle.std.specs.Fmt.{digits}
use Rattle.chk_cmd_line.proofs.load.load_log.Goals as goal

-- the path at this remainder
abbrev at_log : ℕ → List ℕ
at_log k = codes "load." ++ (decimal k ++ codes ".log")

pub returns-then-log-eq0 : goal.returns-then-log-eq0
unfolding digits
returns-then-log-eq0 c = ap at_log (sym c.if-log-eq0.true)

pub returns-then-log-eq1 : goal.returns-then-log-eq1
unfolding digits
returns-then-log-eq1 c = ap at_log (sym c.if-log-eq1.true)

pub returns-else-log-eq1 : goal.returns-else-log-eq1
unfolding digits
returns-else-log-eq1 c =
    let last : 2 ≡ c.args.line % 3 = omega (arith, c.if-log-eq0.false, c.if-log-eq1.false) in
    ap at_log last
