use Rattle.std.proofs.Common.{◌∙◌, ◌++◌, ap}
use Rattle.std.specs.Prelude.{codes}
use Rattle.chk_http_grammar.specs.Messages.{head_line, WrittenPoll}
use Rattle.chk_http_grammar.proofs.Written.{written_is_poll}
use Rattle.chk_http.proofs.Pieces.{poll_joined}
use Rattle.chk_http.proofs.writer.write_acks_request.Goals as goal

pub returns : goal.returns
returns c =
    let is = poll_joined c.args.address.now c.args.stems.now c.new-out.result c.push_all.new.self c.put_stems.new.out c.push_all-2.new.self
    c.put_line.new.out c.push_all-3.new.self
    c.new-out.ensures c.in_ok-push_all.ensures.ok c.in_ok-put_stems.ensures.written c.in_ok-push_all-2.ensures.ok
    (c.in_ok-put_line.ensures ∙ ap (λ a. c.push_all-2.new.self
    ++ head_line (codes "Host: " ++ a)) c.as_bytes.ensures.value)
    c.in_ok-push_all-3.ensures.ok in
    let written : WrittenPoll c.args.address.now c.args.stems.now c.push_all-3.new.self = record {
      to = c.requires.word;
      some = c.requires.some;
      few = c.requires.few;
      are = c.in_ok-put_stems.ensures.valid;
      is = is;
    } in
    record {
      written = written;
      accepted = written_is_poll c.args.address.now c.args.stems.now c.push_all-3.new.self written;
    }
