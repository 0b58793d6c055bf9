use Rattle.std.proofs.Common.{◌≡◌, ◌++◌, length, Ok, true, false, ap, subst, arith}
use Rattle.std.proofs.lemmas.Bool.{lt-leb, le-leb}
use Rattle.std.proofs.lemmas.Result.{err_from_is_err_and}
use Rattle.chk_site.proofs.Runs.{adds_as}
use Rattle.chk_site.proofs.Leads.{leads_as, leads_none}
use Rattle.chk_replace.proofs.CallSteps.{script_last}
use Rattle.chk_chunk.specs.Lent.{lent_chunk}
use Rattle.chk_record_index.specs.Faults.{FailsLast}
use Rattle.chk_book.specs.Segmenting.{Writing, HoldsSegment, grown}
use Rattle.chk_book.specs.Written.{IsAt, next_piece, is_full}
use Rattle.chk_book.proofs.Segmented.{unsaid, failed_last, buffer_held, buffer_own, flushed, taken_short, taken_full}
use Rattle.chk_book.proofs.segmenter.Segmenter.take.Goals as goal

pub returns-then-len-lt-BUFFER-clause-raw : goal.returns-then-len-lt-BUFFER-clause-raw
returns-then-len-lt-BUFFER-clause-raw g c =
    λ w at.
    let s = c.args.self.now in
    let chunk = lent_chunk c.args.chunk.now in
    let p = c.in_ok-push.ensures.at w at in
    let short : is_full (w.left ++ next_piece s chunk) ≡ false =
    lt-leb 1048576 (length (w.left ++ next_piece s chunk))
    (let e = ap length p.buffer in let size = c.len.ensures in let low = c.if-len-lt-BUFFER.true in omega (arith, e, size, low)) in
    leads_none _ (λ h held. subst (λ (v : Writing). HoldsSegment v h) (taken_short s w chunk short) held)

pub returns-then-len-lt-BUFFER-clause-at : goal.returns-then-len-lt-BUFFER-clause-at
returns-then-len-lt-BUFFER-clause-at g c =
    λ w at.
    let s = c.args.self.now in
    let chunk = lent_chunk c.args.chunk.now in
    let p = c.in_ok-push.ensures.at w at in
    let short : is_full (w.left ++ next_piece s chunk) ≡ false =
    lt-leb 1048576 (length (w.left ++ next_piece s chunk))
    (let e = ap length p.buffer in let size = c.len.ensures in let low = c.if-len-lt-BUFFER.true in omega (arith, e, size, low)) in
    subst (IsAt c.push.new.self) (taken_short s w chunk short) p

pub returns-in_err-append_buffer-clause-raw : goal.returns-in_err-append_buffer-clause-raw
returns-in_err-append_buffer-clause-raw g c =
    let r = c.from_residual-in_err-append_buffer in
    let p = err_from_is_err_and r.result r.ensures.1 in
    rw (p.1, p.2) (λ w at. unsaid (λ h. tt) (script_last c.in_err-append_buffer.ensures.told))

pub returns-in_err-append_buffer-clause-own : goal.returns-in_err-append_buffer-clause-own
returns-in_err-append_buffer-clause-own g c =
    λ w at is.
    let chunk = lent_chunk c.args.chunk.now in
    buffer_own c.push.new.self (grown w chunk (next_piece c.args.self.now chunk)) (c.in_ok-push.ensures.at w at) c.push.ensures.who is
    c.in_err-append_buffer.ensures.told

pub returns-in_err-append_buffer-clause-last : goal.returns-in_err-append_buffer-clause-last
returns-in_err-append_buffer-clause-last g c =
    let r = c.from_residual-in_err-append_buffer in
    let p = err_from_is_err_and r.result r.ensures.1 in
    rw (p.1, p.2) (failed_last (Unit {0}) c.in_err-append_buffer.field-0.0 (script_last c.in_err-append_buffer.ensures.told))

pub returns-clause-raw : goal.returns-clause-raw
returns-clause-raw g c =
    λ w at.
    let s = c.args.self.now in
    let chunk = lent_chunk c.args.chunk.now in
    let p = c.in_ok-push.ensures.at w at in
    let full : is_full (w.left ++ next_piece s chunk) ≡ true =
    le-leb 1048576 (length (w.left ++ next_piece s chunk))
    (let e = ap length p.buffer in let size = c.len.ensures in let long = c.if-len-lt-BUFFER.false in omega (arith, e, size, long)) in
    leads_as (λ h x. x) (λ h held. subst (λ (v : Writing). HoldsSegment v h) (taken_full s w chunk full) held)
    (buffer_held c.push.new.self (grown w chunk (next_piece s chunk)) p c.in_ok-append_buffer.ensures.told)

pub returns-clause-at : goal.returns-clause-at
returns-clause-at g c =
    λ w at.
    let s = c.args.self.now in
    let chunk = lent_chunk c.args.chunk.now in
    let p = c.in_ok-push.ensures.at w at in
    let full : is_full (w.left ++ next_piece s chunk) ≡ true =
    le-leb 1048576 (length (w.left ++ next_piece s chunk))
    (let e = ap length p.buffer in let size = c.len.ensures in let long = c.if-len-lt-BUFFER.false in omega (arith, e, size, long)) in
    let k = c.append_buffer.ensures in
    subst (IsAt c.append_buffer.new.self) (taken_full s w chunk full)
    (flushed c.push.new.self c.append_buffer.new.self (grown w chunk (next_piece s chunk)) p k.folder k.number c.in_ok-append_buffer.ensures.buffer k.writer k.ends)

pub returns-clause-own : goal.returns-clause-own
returns-clause-own g c =
    λ w at is.
    let chunk = lent_chunk c.args.chunk.now in
    buffer_own c.push.new.self (grown w chunk (next_piece c.args.self.now chunk)) (c.in_ok-push.ensures.at w at) c.push.ensures.who is
    c.in_ok-append_buffer.ensures.told

pub returns-clause-last : goal.returns-clause-last
returns-clause-last g c = adds_as (FailsLast {T = Unit {0}} (Ok tt)) (script_last c.in_ok-append_buffer.ensures.told) (λ added history x. tt)
