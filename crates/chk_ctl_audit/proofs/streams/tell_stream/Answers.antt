use Rattle.std.proofs.Common.{◌∙◌, ap, Bool, Err, List, ℕ, refl, subst}
use Rattle.std.proofs.lemmas.Result.{err_from_is_err_and}
use Rattle.chk_cmd_output.specs.Printing.{unprinted}
use Rattle.chk_ctl_sum.specs.Rests.{end_of}
use Rattle.chk_ctl_audit.specs.Lines.{audit_line}
use Rattle.chk_ctl_audit.specs.Streams.{is_same, SaysLine}
use Rattle.chk_ctl_audit.proofs.streams.tell_stream.Goals as goal

pub returns-clause-told : goal.returns-clause-told
returns-clause-told g c =
    let old = g.S.Site.told c.args.site.now in
    let new = g.S.Site.told c.say_line.new.site in
    let r = c.args.rest.now in
    subst (λ (l : List ℕ). SaysLine l
    (is_same (end_of r) r.begin c.args.digest.now c.args.found.now) c.say_line.result old new)
    (c.as_bytes.ensures.value ∙ (c.in_ok-line.ensures.line
    ∙ ap (audit_line (end_of r) r.begin c.args.digest.now c.args.found.now)
    (c.as_str.ensures.value ∙ c.in_ok-words.ensures.text)))
    (subst (λ (b : Bool). SaysLine c.as_bytes.result.now b c.say_line.result old new)
    c.is_same.ensures c.say_line.ensures.told)

pub returns-in_err-line-clause-told : goal.returns-in_err-line-clause-told
returns-in_err-line-clause-told g c =
    let p = err_from_is_err_and c.from_residual-in_err-line.result
    c.from_residual-in_err-line.ensures.1 in
    rw (p.1, p.2) (record { given = Err _; printed = unprinted; is = refl })

pub returns-in_err-words-clause-told : goal.returns-in_err-words-clause-told
returns-in_err-words-clause-told g c =
    let p = err_from_is_err_and c.from_residual.result c.from_residual.ensures.1 in
    rw (p.1, p.2) (record { given = Err _; printed = unprinted; is = refl })
