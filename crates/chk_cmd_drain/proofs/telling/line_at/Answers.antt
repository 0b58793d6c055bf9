use Rattle.std.proofs.Common.{◌≡◌, List, ℕ, subst, sym}
use Rattle.std.specs.Prelude.{IsTrue}
use Rattle.std.proofs.lemmas.Result.{IfOk-weaker}
use Rattle.chk_bytes.specs.Words.{is_word}
use Rattle.chk_world.specs.ArchiveRuns.{is_one_line}
use Rattle.chk_cmd_line.specs.Lines.{stream_line}
use Rattle.chk_cmd_output.proofs.OneLine.{stream_line_one}
use Rattle.chk_cmd_drain.proofs.telling.line_at.Goals as goal

a_word : (text name : List ℕ) → text ≡ name → IsTrue (is_word name) → IsTrue (is_word text)
a_word text name same good = subst (λ (t : List ℕ). IsTrue (is_word t)) (sym same) good

pub returns-clause-one : goal.returns-clause-one
returns-clause-one c =
    let source = c.as_str-source.ensures in
    let kind = c.as_str.ensures in
    let path = c.as_str-2.ensures in
    let one = stream_line_one c.as_str-source.result.now c.as_str.result.now c.as_str-2.result.now
    c.committed_end.result
    (a_word c.as_str-source.result.now _ source.text source.word)
    (a_word c.as_str.result.now _ kind.text kind.word)
    (a_word c.as_str-2.result.now _ path.text path.word) c.committed_end.type_inv in
    IfOk-weaker c.stream_line.result
    (λ (line : List ℕ). line ≡ stream_line c.as_str-source.result.now c.as_str.result.now
    c.as_str-2.result.now c.committed_end.result)
    (λ (line : List ℕ). IsTrue (is_one_line line))
    (λ line is. subst (λ (l : List ℕ). IsTrue (is_one_line l)) (sym is) one)
    c.stream_line.ensures
