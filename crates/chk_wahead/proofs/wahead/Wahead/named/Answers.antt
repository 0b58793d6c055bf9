use Rattle.std.proofs.Common.{◌∙◌, ap, codes}
use Rattle.chk_site.specs.declared.acts.Who.{Who}
use Rattle.chk_wahead.specs.Telling.{started}
use Rattle.chk_wahead.proofs.Fields.{named_by}
use Rattle.chk_wahead.proofs.wahead.Wahead.named.Goals as goal

pub first-requires-clause-next : goal.first-requires-clause-next
first-requires-clause-next c =
    named_by c.in_ok-own.own c.args.name.now c.as_str.result.now (codes ".next") (c.in_ok-own.ensures ∙ c.requires.who)
    c.as_str.ensures.text c.in_ok-next.ensures

pub first-requires-clause-mark : goal.first-requires-clause-mark
first-requires-clause-mark c =
    named_by c.in_ok-own.own c.args.name.now c.as_str-2.result.now (codes ".mark") (c.in_ok-own.ensures ∙ c.requires.who)
    c.as_str-2.ensures.text c.in_ok-mark.ensures

pub first-requires-clause-buffer : goal.first-requires-clause-buffer
first-requires-clause-buffer c =
    named_by c.in_ok-own.own c.args.name.now c.as_str-3.result.now (codes ".buf") (c.in_ok-own.ensures ∙ c.requires.who)
    c.as_str-3.ensures.text c.in_ok-buffer.ensures

pub returns : goal.returns
returns c = c.first.ensures ∙ ap (λ (k : Who). started k 0) c.in_ok-own.ensures
