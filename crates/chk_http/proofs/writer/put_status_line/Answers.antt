use Rattle.std.proofs.Common.{◌∙◌, ◌++◌, ap, refl}
use Rattle.std.proofs.lemmas.Result.{on_ok_weaker}
use Rattle.http.specs.StatusCode.{code_digits, reason_phrase}
use Rattle.chk_http.specs.Written.{phrase_of}
use Rattle.chk_http.proofs.Pieces.{status_joined, phrase_given}
use Rattle.chk_http.proofs.writer.put_status_line.Goals as goal

pub returns : goal.returns
returns c =
    let code = c.args.code in
    let digits = c.as_bytes.ensures.value ∙ (c.as_str.ensures ∙ ap code_digits c.in-Ok.ensures.1) in
    let phrase = c.as_bytes-in-Ok.ensures.value
    ∙ phrase_given c.canonical_reason.result _ c.unwrap_or.result code c.unwrap_or.ensures refl
    (c.canonical_reason.ensures.value ∙ ap reason_phrase c.in-Ok.ensures.1) in
    on_ok_weaker c.push_all-in-Ok-4.result
    (status_joined code (phrase_of code) c.args.out.now c.push_all.new.self c.push_all-in-Ok.new.self c.push_all-in-Ok-2.new.self
    c.push_all-in-Ok-3.new.self c.push_all-in-Ok-4.new.self c.in-Ok.ensures.0.0 c.in-Ok.ensures.0.1 c.in_ok-push_all-in-Ok.ensures.ok
    (c.in_ok-push_all-in-Ok-2.ensures.ok ∙ ap (λ d. c.push_all.new.self
    ++ d) digits) c.in_ok-push_all-in-Ok-3.ensures.ok
    (c.in_ok-push_all-in-Ok-4.ensures.ok ∙ ap (λ p. c.push_all-in-Ok-2.new.self ++ p) phrase))
    c.push_all-in-Ok-4.ensures.ok
