use Rattle.std.proofs.Common.{◌-◌, length, take, drop, sym, ◌∙◌, arith}
use Rattle.std.proofs.lemmas.Bool.Decides.{Decides-eqb}
use Rattle.std.proofs.lemmas.List.{length-drop, take_all}
use Rattle.std.proofs.lemmas.Slice.Eq.{slice_eq-Decides}
use Rattle.chk_ctl_cat.proofs.recent.is_alike.Goals as goal

pub returns-then-bytes-last : goal.returns-then-bytes-last
returns-then-bytes-last c = λ same.
    let bytes = c.args.bytes.now in
    let last = c.args.last.now in
    let a = length-drop 9 bytes in
    let b = length-drop 9 last in
    let tails = slice_eq-Decides Decides-eqb (take (length bytes - 9) (drop 9 bytes)) (take (length last - 9) (drop 9 last)) c.eq.result c.eq.ensures in
    record {
      kept = c.if-last-lt9.false;
      long = c.if-bytes-lt9.false;
      version = c.if-bytes-last.true;
      tail = sym (take_all (length bytes - 9) (drop 9 bytes) (omega arith)) ∙ (tails.0 same ∙ take_all (length last - 9) (drop 9 last) (omega arith));
    }
