use Rattle.std.proofs.Common.{length, ◌≤◌}
use Rattle.chk_chunk.specs.Posts.{post_limit}
use Rattle.chk_http_grammar.specs.Messages.{WrittenReply}
use Rattle.chk_http.specs.Written.{phrase_of}
use Rattle.chk_http_grammar.proofs.Written.{written_is_reply}
use Rattle.chk_http.proofs.Pieces.{reply_joined, answer_code}
use Rattle.chk_http.proofs.writer.write_reply.Goals as goal

pub returns : goal.returns
returns c =
    let code = c.args.code in
    let phrase = phrase_of code in
    let written = reply_joined code phrase c.args.body.now c.new-out.result c.put_status_line.new.out c.push_all.new.self
    c.put_length.new.out c.push_all-2.new.self c.push_all-3.new.self
    c.new-out.ensures c.in_ok-put_status_line.ensures c.in_ok-push_all.ensures.ok c.in_ok-put_length.ensures
    c.in_ok-push_all-2.ensures.ok c.in_ok-push_all-3.ensures.ok in
    let about = answer_code code c.requires.answered in
    let reply : length c.args.body.now ≤ post_limit → WrittenReply code phrase c.args.body.now c.push_all-3.new.self =
    λ short. record { from = about.from; below = about.below; phrase_is = about.phrase; short = short; is = written } in
    record {
      written = written;
      reply = reply;
      accepted = λ short. written_is_reply code phrase c.args.body.now c.push_all-3.new.self (reply short);
    }
