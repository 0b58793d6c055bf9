use Rattle.chk_checkpoint.specs.Lines.{shown, text_version}
use Rattle.chk_checkpoint.proofs.WrittenLemmas.{on_ok, place_put}
use Rattle.chk_checkpoint.proofs.writing.put_place.Goals as goal

pub returns : goal.returns
returns c =
    on_ok c.push_all.result
    (λ last. place_put (text_version c.args.version) (shown c.args.line.now) c.args.out.now c.put_number.new.out c.put_number-2.new.out
    c.put_after.new.out c.put_start.new.out c.push_all.new.self
    c.in_ok-put_number.ensures c.in_ok-put_number-2.ensures c.in_ok-put_after.ensures c.in_ok-put_start.ensures last)
    c.push_all.ensures.ok
