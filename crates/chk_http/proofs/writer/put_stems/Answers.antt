use Rattle.std.proofs.Common.{sym}
use Rattle.chk_http.proofs.Pieces.{stems_more, valid_more}
use Rattle.chk_http.proofs.writer.put_stems.Goals as goal

pub loop-place-preserved : goal.loop-place-preserved
loop-place-preserved c =
    let stem = c.index-stems-place.result in
    record {
      written = stems_more c.args.stems.now c.loop-place.place stem stem c.args.out.now c.loop-place.out c.put_separator.new.out c.write.new.out
          c.loop-place-test.true (sym c.index-stems-place.is) c.loop-place.invariant.written c.in_ok-put_separator.ensures c.in_ok-write.ensures.ok;
      valid = valid_more c.args.stems.now c.loop-place.place stem stem c.loop-place-test.true (sym c.index-stems-place.is)
          c.loop-place.invariant.valid c.number-sound.ensures.stem;
    }
