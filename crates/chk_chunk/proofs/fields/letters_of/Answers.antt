use Rattle.std.proofs.Common.{◌+◌, ◌∙◌, ap}
use Rattle.std.specs.Option.{option_map}
use Rattle.chk_chunk.specs.declared.faults.ChunkFault.TheVariants.{NotWord}
use Rattle.chk_chunk.proofs.FieldLemmas.{letters_not_utf8, letters_utf8}
use Rattle.chk_chunk.proofs.fields.letters_of.Goals as goal

pub returns-in-Some-clause-fault : goal.returns-in-Some-clause-fault
returns-in-Some-clause-fault c =
    letters_utf8 c.args.at c.args.bytes.now _ c.in-Ok.ensures.cases.1 c.not_word_at.ensures.place
    ∙ ap (option_map (λ i. NotWord (c.args.at + i))) c.in-Some.is

pub returns-in-None-clause-fine : goal.returns-in-None-clause-fine
returns-in-None-clause-fine c =
    letters_utf8 c.args.at c.args.bytes.now _ c.in-Ok.ensures.cases.1 c.not_word_at.ensures.place
    ∙ ap (option_map (λ i. NotWord (c.args.at + i))) c.in-None.is

pub returns-in-Err-clause-fault : goal.returns-in-Err-clause-fault
returns-in-Err-clause-fault c =
    letters_not_utf8 c.args.at c.valid_up_to.result c.args.bytes.now c.in-Err.ensures.cases.0
    (c.valid_up_to.ensures ∙ c.in-Err.ensures.valid_len)
