use Rattle.std.proofs.Common.{◌≡◌, length, Err, rules, sym, ap, subst, ◌∙◌}
use Rattle.std.proofs.lemmas.List.{take_rest}
use Rattle.chk_seqfile.specs.Headers.{read_marker}
use Rattle.chk_seqfile.specs.HeaderSteps.{HasCome, HasComeTo}
use Rattle.chk_seqfile.proofs.HeaderLemmas.{found_header}
use Rattle.chk_seqfile.proofs.HeaderStepLemmas.{come_first, first_refused, text_refused, come_marker}
use Rattle.chk_seqfile.proofs.headers.read_header_on.Goals.{in-Some, in-None+in_ok-left-in-None}
use Rattle.chk_seqfile.proofs.headers.read_header_on.Goals as goal

pub returns-in_err-left-in-None-clause-header : goal.returns-in_err-left-in-None-clause-header
returns-in_err-left-in-None-clause-header c =
    let refused = first_refused c.args.bytes.now c.in_err-left-in-None.field-0.0 (sym c.in_err-left-in-None.ensures) in
    let answer : c.from_residual.result ≡ Err c.in_err-left-in-None.field-0.0 = search rules in
    answer ∙ sym refused

pub read_texts-texts-requires : goal.read_texts-texts-requires
read_texts-texts-requires c =
    let bytes = c.args.bytes.now in
    elim c.match-from.branch [
      | in-Some w ↦
          subst (λ l. HasComeTo l bytes) (sym w.left-is) (subst (λ f. HasCome f bytes) w.in-Some.is c.requires.come)
      | in-None+in_ok-left-in-None w ↦
          subst (λ l. HasComeTo l bytes) (sym w.left-is)
          (come_first bytes w.in_ok-left-in-None.left (sym w.in_ok-left-in-None.ensures))
    ]

pub returns-in_err-texts-clause-header : goal.returns-in_err-texts-clause-header
returns-in_err-texts-clause-header c =
    let fault = c.in_err-texts.ensures.fault in
    let left = c.read_texts-texts.new.left in
    let refused =
    text_refused left c.args.bytes.now c.in_err-texts.field-0.0 c.in_err-texts.ensures.come fault.0 fault.1 in
    let answer : c.from_residual-in_err-texts.result ≡ Err c.in_err-texts.field-0.0 = search rules in
    answer ∙ sym refused

read_at_end : goal.returns-clause-header
read_at_end c =
    let bytes = c.args.bytes.now in
    let left = c.read_texts-texts.new.left in
    c.read_marker.ensures ∙ ap (read_marker (length bytes)) (take_rest bytes left.place)
    ∙ sym (come_marker left bytes c.in_ok-texts.ensures.come c.in_ok-texts.ensures.all)

pub returns-clause-header : goal.returns-clause-header
returns-clause-header c = read_at_end c

pub returns-clause-found : goal.returns-clause-found
returns-clause-found c = found_header c.args.bytes.now c.read_marker.result (read_at_end c)
