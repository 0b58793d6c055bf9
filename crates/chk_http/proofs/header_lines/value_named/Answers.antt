use Rattle.std.proofs.Common.{sym, ap, ◌∙◌}
use Rattle.std.proofs.lemmas.Bool.{false≢true}
use Rattle.std.specs.Str.{str_to_ascii_lowercase}
use Rattle.chk_http.proofs.NamedLines.{values_at-none, line_taken, line_passed}
use Rattle.chk_http.proofs.header_lines.value_named.Goals as goal
use Rattle.chk_http.proofs.header_lines.value_named.Goals.{then-eq_ignore_ascii_case, else-eq_ignore_ascii_case}

pub loop-header-init : goal.loop-header-init
loop-header-init c = values_at-none c.args.name.now c.args.bytes.now

pub loop-header-preserved : goal.loop-header-preserved
loop-header-preserved c =
    let so_far = c.loop-header.invariant in
    elim c.if-eq_ignore_ascii_case.branch [
      | then-eq_ignore_ascii_case w ↦
          rw w.found-is (line_taken c.args.name.now c.args.bytes.now c.args.headers.now c.loop-header.header-index _ c.loop-header.found
          w.with_value-found.result w.of-then-eq_ignore_ascii_case.result.now c.loop-header-test.true c.requires.small
          (ap str_to_ascii_lowercase (sym c.of.ensures) ∙ c.eq_ignore_ascii_case.ensures.test.0 w.if-eq_ignore_ascii_case.true)
          w.of-then-eq_ignore_ascii_case.ensures w.with_value-found.ensures so_far)
      | else-eq_ignore_ascii_case w ↦
          rw w.found-is (line_passed c.args.name.now c.args.bytes.now c.args.headers.now c.loop-header.header-index _ c.loop-header.found
          c.loop-header-test.true c.requires.small
          (λ same. false≢true (sym w.if-eq_ignore_ascii_case.false
          ∙ c.eq_ignore_ascii_case.ensures.test.1 (ap str_to_ascii_lowercase c.of.ensures ∙ same))) so_far)
    ]
