use Rattle.std.proofs.Common.{arith, sym, ◌∙◌, ap}
use Rattle.chk_chunk.specs.Faults.{key_fault}
use Rattle.chk_chunk.specs.Lent.{lent_key}
use Rattle.chk_chunk.specs.Posts.{part_at}
use Rattle.chk_tee.proofs.Near.{fault_is_near}
use Rattle.chk_tee.proofs.FieldLemmas.{key_found, part_sliced, part_bytes}
use Rattle.chk_tee.proofs.fields.key_at.Goals as goal

pub from_whole-requires-clause-near : goal.from_whole-requires-clause-near
from_whole-requires-clause-near c =
    let bytes = c.args.bytes.now in
    fault_is_near (part_at c.args.at bytes) c.in-Err.fault (part_bytes c.args.at bytes (λ i. omega (arith, c.type_inv.bytes i)))
    (ap (key_fault 0) (sym (part_sliced c.args.at c.in_ok-size.field-0 bytes c.in_ok-size.ensures.value.is)) ∙ c.in-Err.ensures.fault)

pub returns-in-Ok-clause-key : goal.returns-in-Ok-clause-key
returns-in-Ok-clause-key c =
    key_found c.args.at c.in_ok-size.field-0 c.args.bytes.now (lent_key c.in-Ok.key) c.in_ok-size.ensures.value.is
    c.if-bytes-end.false c.in-Ok.ensures.key
