use Rattle.std.proofs.Common.{sym, ◌∙◌}
use Rattle.chk_ctl_verify.specs.Books.{named, unnamed}
use Rattle.chk_ctl_verify.proofs.Seen.{ok_as}
use Rattle.chk_ctl_verify.proofs.books.look_if_named.Goals as goal

pub returns-then-not-names_segment-clause-told : goal.returns-then-not-names_segment-clause-told
returns-then-not-names_segment-clause-told g c =
    unnamed (sym c.names_segment.ensures ∙ c.if-not-names_segment.true)

pub returns-clause-told : goal.returns-clause-told
returns-clause-told g c =
    ok_as c.look_at_named.result
    (λ found x. named (sym c.names_segment.ensures ∙ c.if-not-names_segment.false) x)
    c.look_at_named.ensures.told
