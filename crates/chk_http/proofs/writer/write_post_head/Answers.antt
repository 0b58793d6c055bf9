use Rattle.std.proofs.Common.{◌≡◌, ◌≤◌, ◌∙◌, ◌++◌, List, ℕ, length, ap, refl, sym, subst}
use Rattle.std.specs.Prelude.{codes, decimal}
use Rattle.chk_chunk.specs.Posts.{post_limit}
use Rattle.chk_http_grammar.specs.Messages.{head_line, written_post_request}
use Rattle.chk_http_grammar.proofs.Written.{post_accepted}
use Rattle.chk_http.proofs.Pieces.{post_joined}
use Rattle.chk_http.proofs.writer.write_post_head.Goals as goal

pub returns : goal.returns
returns c =
    let written : (body : List ℕ) → length body ≡ c.args.size → c.push_all-3.new.self ++ body ≡ written_post_request c.args.address.now body =
    λ body size. post_joined c.args.address.now body c.in_ok-out.out c.push_all.new.self c.put_line.new.out c.push_all-2.new.self
    c.put_length.new.out c.push_all-3.new.self (c.push_all-3.new.self ++ body)
    c.in_ok-out.ensures c.in_ok-push_all.ensures.ok
    (c.in_ok-put_line.ensures ∙ ap (λ a. c.push_all.new.self ++ head_line (codes "Host: " ++ a)) c.as_bytes.ensures.value)
    c.in_ok-push_all-2.ensures.ok
    (c.in_ok-put_length.ensures ∙ ap (λ n. c.push_all-2.new.self ++ head_line (codes "Content-Length: " ++ decimal n)) (sym size))
    c.in_ok-push_all-3.ensures.ok refl in
    record {
      written = written;
      accepted = λ body size short. post_accepted c.args.address.now body (c.push_all-3.new.self ++ body) c.requires.word
          (subst (λ n. n ≤ post_limit) (sym size) short) (written body size);
    }
