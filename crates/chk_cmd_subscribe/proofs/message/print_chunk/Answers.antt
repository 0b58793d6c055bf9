use Rattle.chk_cmd_output.specs.Printing.{unprinted}
use Rattle.chk_cmd_subscribe.proofs.message.print_chunk.Goals as goal

pub returns-in_default-clause-prints : goal.returns-in_default-clause-prints
returns-in_default-clause-prints g c = unprinted

pub returns-in_default-chunk_line-clause-prints : goal.returns-in_default-chunk_line-clause-prints
returns-in_default-chunk_line-clause-prints g c = unprinted
