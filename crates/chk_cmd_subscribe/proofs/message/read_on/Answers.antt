use Rattle.std.proofs.Common.{◌≡◌, ◌<◌, [], ◌++◌, ◌∙◌, length, refl, sym, ap, subst, arith, List, ℕ}
use Rattle.chk_cmd_subscribe.specs.Watching.{IsShort, whole, over, unread, unkept}
use Rattle.chk_cmd_subscribe.proofs.Reading.{reads_next, no_bytes, on_ok}
use Rattle.chk_cmd_subscribe.proofs.message.read_on.Goals as goal

pub returns-then-len-eq0-clause-script : goal.returns-then-len-eq0-clause-script
returns-then-len-eq0-clause-script g c =
    let e : c.in-Ok.piece ≡ [] = no_bytes c.in-Ok.piece (omega (arith, c.len.ensures, c.if-len-eq0.true)) in
    c.loop-alloc.invariant.goes_on _ _
    (over (subst IsShort c.as_slice.ensures (c.loop-alloc-test.ensures.short refl)) (rw e at c.in-Ok.ensures.call))

pub returns-then-is_err-clause-script : goal.returns-then-is_err-clause-script
returns-then-is_err-clause-script g c =
    c.loop-alloc.invariant.goes_on _ _
    (unkept c.in-Ok.piece (subst IsShort c.as_slice.ensures (c.loop-alloc-test.ensures.short refl)) c.in-Ok.ensures.call)

pub loop-alloc-preserved : goal.loop-alloc-preserved
loop-alloc-preserved g c =
    let l = c.loop-alloc in
    let some : 0 < length c.in-Ok.piece = omega (arith, c.len.ensures, c.if-len-eq0.false) in
    let e : c.push_all.new.self ≡ l.bytes ++ c.in-Ok.piece =
    on_ok c.push_all.result (sym c.is_err.ensures.value ∙ c.if-is_err.false) c.push_all.ensures.ok
    ∙ ap (λ (q : List ℕ). l.bytes ++ q) c.as_slice-in-Ok.ensures in
    record {
      goes_on = reads_next c.args.who.now c.args.number c.args.begun l.bytes c.in-Ok.piece c.push_all.new.self _ _ _ l.invariant.goes_on
          (subst IsShort c.as_slice.ensures (c.loop-alloc-test.ensures.short refl)) some c.in-Ok.ensures.call e;
      count = c.in-Ok.ensures.cause ∙ l.invariant.count;
    }

pub returns-in-Err-clause-script : goal.returns-in-Err-clause-script
returns-in-Err-clause-script g c =
    c.loop-alloc.invariant.goes_on _ _
    (unread c.in-Err.ensures.call.0 (subst IsShort c.as_slice.ensures (c.loop-alloc-test.ensures.short refl)) c.in-Err.ensures.call.1
    c.in-Err.ensures.call.2)

pub returns-clause-script : goal.returns-clause-script
returns-clause-script g c =
    c.loop-alloc.invariant.goes_on _ _
    (whole (subst (λ (b : List ℕ). ¬ (IsShort b)) c.as_slice.ensures (c.loop-alloc-test.ensures.other refl)))
