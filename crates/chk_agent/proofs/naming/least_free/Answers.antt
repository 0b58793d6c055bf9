use Rattle.std.proofs.Common.{ap, sym, ◌∙◌, not}
use Rattle.std.specs.Prelude.{position}
use Rattle.chk_agent.proofs.NamingFirst.{one_free, least_free}
use Rattle.chk_agent.proofs.naming.least_free.Goals as goal

pub returns : goal.returns
returns c =
    least_free c.args.adaptors.now c.requires.few c.in-Some.number
    (ap (position not) (sym (c.as_slice.ensures.value ∙ c.in_ok-taken.ensures)) ∙ sym c.in-Some.ensures)

pub unreachable-requires : goal.unreachable-requires
unreachable-requires c =
    one_free c.args.adaptors.now (ap (position not) (sym (c.as_slice.ensures.value ∙ c.in_ok-taken.ensures)) ∙ sym c.in-None.ensures)
