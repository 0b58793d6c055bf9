use Rattle.chk_checkpoint.specs.Lines.{shown}
use Rattle.chk_checkpoint.proofs.WrittenLemmas.{on_ok, stream_put}
use Rattle.chk_checkpoint.proofs.writing.put_stream.Goals as goal

pub returns : goal.returns
returns c =
    on_ok c.put_word-6.result
    (λ last. stream_put (shown c.args.line.now) c.args.out.now c.put_word.new.out c.put_word-2.new.out c.put_word-3.new.out
    c.put_word-4.new.out c.put_word-5.new.out c.put_word-6.new.out
    (rw c.state_name.ensures at c.in_ok-put_word.ensures)
    (rw c.as_str.ensures.text at c.in_ok-put_word-2.ensures)
    c.in_ok-put_word-3.ensures
    (rw c.name.ensures at c.in_ok-put_word-4.ensures)
    (rw c.as_str-2.ensures.text at c.in_ok-put_word-5.ensures)
    (rw c.as_str-3.ensures.text at last))
    c.put_word-6.ensures
