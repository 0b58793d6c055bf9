use Rattle.std.proofs.Common.{◌∙◌, ap, sym}
use Rattle.chk_bytes.specs.WordFaults.{word_fault_of}
use Rattle.chk_bytes.proofs.FaultLemmas.{is_word-from_faultless}
use Rattle.chk_record_reader.proofs.parts.is_word.Goals as goal

pub returns-in-None : goal.returns-in-None
returns-in-None c = λ yes.
    is_word-from_faultless c.args.text.now
    (sym (c.word_fault.ensures ∙ ap word_fault_of c.as_bytes.ensures.value) ∙ c.in-None.is)
