use Rattle.std.proofs.Common.{ℕ, ◌≡◌, ◌+◌, ◌++◌, ◌%◌, ◌==◌, List, IsTrue, length, refl, sym, ◌∙◌, ap, subst, arith}
use Rattle.std.proofs.lemmas.Result.{err_from_is_err_and}
use Rattle.chk_cmd_load.specs.Lines.{ends_lines}
use Rattle.chk_cmd_load.proofs.Progress.{Wrote, ends_left, line_ends_it, line_fits, none_waits, on_line, room_left, same_line, wrote_all, wrote_cut, wrote_line, wrote_none, wrote_on, wrote_small, wrote_unmade}
use Rattle.chk_cmd_load.proofs.pieces.append_log.Goals as goal

pub loop-line-init : goal.loop-line-init
loop-line-init g c = record {
  lines_are = ap (λ p. p.lines) c.new-source.ensures;
  line_is = ap (λ p. p.line) c.new-source.ensures;
  wrote = subst (λ (p : List ℕ). Wrote c.args.writer.now c.args.lines c.args.log 0 p 0 (g.S.Site.told c.args.site.now) (g.S.Site.told c.args.site.now))
      (sym c.new-piece.ensures) (wrote_none (g.S.Site.told c.args.site.now));
  room = (let none = ap (length {A = ℕ}) c.new-piece.ensures in omega (arith, none));
  ends = subst (λ (p : List ℕ). IsTrue (ends_lines p)) (sym c.new-piece.ensures) refl;
  count = refl;
}

pub returns-in_err-put_own-clause-writes : goal.returns-in_err-put_own-clause-writes
returns-in_err-put_own-clause-writes g c =
    let p = err_from_is_err_and c.from_residual.result c.from_residual.ensures.1 in
    let l = c.loop-line in
    let test = c.loop-line-test.true in
    rw (p.1, p.2) (wrote_unmade l.line l.bytes l.piece l.invariant.wrote (omega (arith, test)))

pub append_from-requires-clause-most : goal.append_from-requires-clause-most
append_from-requires-clause-most g c =
    let l = c.loop-line in
    line_fits c.args.lines l.line (l.line % 3 == c.args.log) l.piece c.put_own.new.piece c.loop-line-test.true c.requires.few l.invariant.room
    (c.in_ok-put_own.ensures.piece
    ∙ ap (λ (t : List ℕ). l.piece ++ t)
    (same_line c.args.lines l.line l.source.lines l.source.line (l.line % 3 == c.args.log) l.invariant.lines_are l.invariant.line_is))

pub append_from-requires-clause-lines : goal.append_from-requires-clause-lines
append_from-requires-clause-lines g c =
    let l = c.loop-line in
    line_ends_it l.source.lines l.source.line (l.line % 3 == c.args.log) l.piece c.put_own.new.piece l.invariant.ends c.in_ok-put_own.ensures.piece

pub returns-in_err-bytes-clause-writes : goal.returns-in_err-bytes-clause-writes
returns-in_err-bytes-clause-writes g c =
    let p = err_from_is_err_and c.from_residual-in_err-bytes.result c.from_residual-in_err-bytes.ensures.1 in
    let l = c.loop-line in
    let test = c.loop-line-test.true in
    rw (p.1, p.2)
    (wrote_cut (l.line + 1) l.bytes c.put_own.new.piece c.in_err-bytes.field-0.0
    (wrote_line l.line l.bytes l.piece c.put_own.new.piece l.invariant.wrote
    (c.in_ok-put_own.ensures.piece
    ∙ ap (λ (t : List ℕ). l.piece ++ t)
    (same_line c.args.lines l.line l.source.lines l.source.line (l.line % 3 == c.args.log) l.invariant.lines_are l.invariant.line_is)))
    (omega (arith, test)) c.in_err-bytes.ensures.flushes)

pub overflow_add-bytes : goal.overflow_add-bytes
overflow_add-bytes g c =
    let l = c.loop-line in
    let test = c.loop-line-test.true in
    let small = wrote_small (l.line + 1) (l.bytes + c.in_ok-bytes.field-0) c.append_from.new.piece
    (on_line l.line l.bytes c.in_ok-bytes.field-0 l.piece c.put_own.new.piece c.append_from.new.piece l.invariant.wrote
    (c.in_ok-put_own.ensures.piece
    ∙ ap (λ (t : List ℕ). l.piece ++ t)
    (same_line c.args.lines l.line l.source.lines l.source.line (l.line % 3 == c.args.log) l.invariant.lines_are l.invariant.line_is))
    c.in_ok-bytes.ensures.flushes) (omega (arith, test)) c.requires.few in
    omega (arith, small)

pub loop-line-preserved : goal.loop-line-preserved
loop-line-preserved g c =
    let l = c.loop-line in
    let is = c.in_ok-put_own.ensures.piece
    ∙ ap (λ (t : List ℕ). l.piece ++ t)
    (same_line c.args.lines l.line l.source.lines l.source.line (l.line % 3 == c.args.log) l.invariant.lines_are l.invariant.line_is) in
    record {
      lines_are = ap (λ p. p.lines) c.in_ok-put_own.ensures.source ∙ l.invariant.lines_are;
      line_is = ap (λ p. p.line) c.in_ok-put_own.ensures.source ∙ ap (λ n. n + 1) l.invariant.line_is;
      wrote = on_line l.line l.bytes c.in_ok-bytes.field-0 l.piece c.put_own.new.piece c.append_from.new.piece l.invariant.wrote is
          c.in_ok-bytes.ensures.flushes;
      room = room_left c.args.writer.now c.args.log c.in_ok-bytes.field-0 c.put_own.new.piece c.append_from.new.piece c.in_ok-bytes.ensures.flushes;
      ends = ends_left c.args.writer.now c.args.log c.in_ok-bytes.field-0 65506 c.put_own.new.piece c.append_from.new.piece c.in_ok-bytes.ensures.flushes
          (line_ends_it c.args.lines l.line (l.line % 3 == c.args.log) l.piece c.put_own.new.piece l.invariant.ends is);
      count = c.in_ok-bytes.ensures.cause ∙ l.invariant.count;
    }

pub returns-in_err-bytes-2-clause-writes : goal.returns-in_err-bytes-2-clause-writes
returns-in_err-bytes-2-clause-writes g c =
    let p = err_from_is_err_and c.from_residual-in_err-bytes-2.result c.from_residual-in_err-bytes-2.ensures.1 in
    let l = c.loop-line in
    rw (p.1, p.2)
    (wrote_cut l.line l.bytes l.piece c.in_err-bytes-2.field-0.0 l.invariant.wrote (omega arith) c.in_err-bytes-2.ensures.flushes)

pub overflow_add-bytes-2 : goal.overflow_add-bytes-2
overflow_add-bytes-2 g c =
    let l = c.loop-line in
    let small = wrote_small l.line (l.bytes + c.in_ok-bytes-2.field-0) c.append_from-2.new.piece
    (wrote_on l.line l.bytes c.in_ok-bytes-2.field-0 1 l.piece c.append_from-2.new.piece l.invariant.wrote c.in_ok-bytes-2.ensures.flushes)
    (omega arith) c.requires.few in
    omega (arith, small)

pub returns-clause-writes : goal.returns-clause-writes
returns-clause-writes g c =
    let l = c.loop-line in
    let past = c.loop-line-test.false in
    let k = c.in_ok-bytes-2.field-0 in
    let after = c.append_from-2.new.piece in
    wrote_all (l.bytes + k) after
    (subst (λ n. Wrote c.args.writer.now c.args.lines c.args.log n after (l.bytes + k) (g.S.Site.told c.args.site.now) (g.S.Site.told c.append_from-2.new.site))
    (let z : l.line ≡ c.args.lines = omega (arith, past) in z)
    (wrote_on l.line l.bytes k 1 l.piece after l.invariant.wrote c.in_ok-bytes-2.ensures.flushes))
    (none_waits c.args.writer.now c.args.log k l.piece after c.in_ok-bytes-2.ensures.flushes)
