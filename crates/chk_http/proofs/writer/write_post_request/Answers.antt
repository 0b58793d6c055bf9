use Rattle.std.proofs.Common.{◌≡◌, ◌∙◌, refl}
use Rattle.chk_http_grammar.specs.Messages.{written_post_request}
use Rattle.chk_http_grammar.proofs.Written.{post_accepted}
use Rattle.chk_http.proofs.writer.write_post_request.Goals as goal

pub returns : goal.returns
returns c =
    let written : c.push_all.new.self ≡ written_post_request c.args.address.now c.args.body.now =
    c.in_ok-push_all.ensures.ok ∙ c.in_ok-out.ensures.written c.args.body.now refl in
    record {
      written = written;
      accepted = λ short. post_accepted c.args.address.now c.args.body.now c.push_all.new.self c.requires.word short written;
    }
