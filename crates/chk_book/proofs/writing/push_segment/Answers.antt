use Rattle.std.proofs.Common.{◌∙◌, ◌++◌, ap, append_assoc}
use Rattle.chk_bytes.specs.Numbers.{be64}
use Rattle.chk_book.proofs.writing.push_segment.Goals as goal

pub returns : goal.returns
returns c =
    c.in_ok-put_u64-2.ensures.ok
    ∙ (ap (λ t. t ++ be64 c.args.segment.now.length) c.in_ok-put_u64.ensures.ok
    ∙ append_assoc c.args.out.now (be64 c.args.segment.now.number) (be64 c.args.segment.now.length))
