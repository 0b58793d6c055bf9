use Rattle.std.proofs.Common.{◌≡◌, ◌+◌, ◌==◌, List, ℕ, take, drop, length, ap, sym, ◌∙◌, arith}
use Rattle.std.specs.Prelude.{position}
use Rattle.std.proofs.lemmas.List.{length-drop}
use Rattle.chk_control.specs.Lines.{meaning_of}
use Rattle.chk_agent_run.specs.Closing.{closes}
use Rattle.chk_agent_run.proofs.LineLemmas.{slice_rest, slice_line, found_within}
use Rattle.chk_agent_run.proofs.MessageLemmas.{none_closes, line_closes, passed_line}
use Rattle.chk_agent_run.proofs.message.pass_lines.Goals as goal

pub returns-then-branch : goal.returns-then-branch
returns-then-branch c =
    let text = c.args.text.now in let at = c.loop-size.at in
    line_closes at text c.loop-size.invariant.passed c.in-Some.size
    (ap (position (λ b. b == 10)) (sym (slice_rest at text)) ∙ (sym c.line_size.ensures ∙ c.in-Some.is))
    (ap (λ (l : List ℕ). closes (meaning_of l)) (sym (slice_line at c.in-Some.size text))
    ∙ (sym c.in_ok-closes.ensures ∙ c.if-branch.true))

pub loop-size-preserved : goal.loop-size-preserved
loop-size-preserved c =
    let text = c.args.text.now in let at = c.loop-size.at in
    let found = ap (position (λ b. b == 10)) (sym (slice_rest at text)) ∙ (sym c.line_size.ensures ∙ c.in-Some.is) in
    let within = found_within (drop at text) c.in-Some.size found in
    let whole = length-drop at text in
    record {
      within = omega (arith, within, whole);
      passed = passed_line at text c.loop-size.invariant.passed c.in-Some.size found
          (ap (λ (l : List ℕ). closes (meaning_of l)) (sym (slice_line at c.in-Some.size text))
          ∙ (sym c.in_ok-closes.ensures ∙ c.if-branch.false));
    }

pub returns : goal.returns
returns c =
    let text = c.args.text.now in let at = c.loop-size.at in (
      c.loop-size.invariant.passed,
      none_closes at text c.loop-size.invariant.passed
          (ap (position (λ b. b == 10)) (sym (slice_rest at text)) ∙ (sym c.line_size.ensures ∙ c.in_default.is)),
    )
