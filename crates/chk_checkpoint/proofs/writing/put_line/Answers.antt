use Rattle.chk_checkpoint.specs.Lines.{shown, text_version}
use Rattle.chk_checkpoint.proofs.WrittenLemmas.{on_ok, parts_put}
use Rattle.chk_checkpoint.proofs.writing.put_line.Goals as goal

pub returns : goal.returns
returns c =
    on_ok c.put_place.result
    (λ last. parts_put (text_version c.args.version) (shown c.args.line.now) c.args.out.now c.put_stream.new.out c.put_place.new.out
    c.in_ok-put_stream.ensures last)
    c.put_place.ensures
