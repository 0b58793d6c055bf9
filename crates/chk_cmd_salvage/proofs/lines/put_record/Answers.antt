use Rattle.std.proofs.Common.{inl, inr, refl, arith}
use Rattle.std.proofs.lemmas.Result.{on_ok_weaker}
use Rattle.chk_chunk.specs.Lent.{lent_key}
use Rattle.chk_salvage.specs.Views.{placed_of}
use Rattle.chk_cmd_salvage.specs.Lines.{entry_line, other_line}
use Rattle.chk_cmd_salvage.proofs.LineSizes.{entry_short, other_short}
use Rattle.chk_cmd_salvage.proofs.lines.put_record.Goals as goal

pub returns-in-Ok : goal.returns-in-Ok
returns-in-Ok c =
    let r = placed_of c.args.entry in
    let k = lent_key c.in-Ok.key in
    record {
      line =
          on_ok_weaker c.put_entry.result
          (λ e. record {
            line = entry_line r k;
            is = inl (k, c.in-Ok.ensures.key, refl);
            behind = e;
            short = entry_short r k r.key c.in-Ok.ensures.key (omega arith) (omega arith);
          })
          c.put_entry.ensures;
    }

pub returns-in-Err : goal.returns-in-Err
returns-in-Err c =
    let r = placed_of c.args.entry in
    record {
      line =
          on_ok_weaker c.put_range.result
          (λ e. record {
            line = other_line r;
            is = inr (λ k is. c.in-Err.ensures.every_key k is, refl);
            behind = e;
            short = other_short r (omega arith) (omega arith);
          })
          c.put_range.ensures;
    }
