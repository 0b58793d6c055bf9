use Rattle.std.proofs.Common.{◌∙◌, ap}
use Rattle.chk_bytes.specs.WordFaults.{word_fault_of}
use Rattle.chk_control.proofs.WordTests.{faultless_is_word}
use Rattle.chk_ctl_line.proofs.names.is_word.Goals as goal

pub returns : goal.returns
returns c =
    let e = c.word_fault.ensures ∙ ap word_fault_of c.as_bytes.ensures.value in
    faultless_is_word c.args.text.now c.word_fault.result c.is_none.result e c.is_none.ensures
