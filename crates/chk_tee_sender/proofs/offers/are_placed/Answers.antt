use Rattle.std.proofs.Common.{ap, ◌∙◌}
use Rattle.std.specs.List.{list_all}
use Rattle.chk_tee_sender.specs.Offers.{is_placed}
use Rattle.chk_tee_sender.proofs.OfferLemmas.{same_lines}
use Rattle.chk_tee_sender.proofs.offers.are_placed.Goals as goal

pub returns-in-Ok-clause-all : goal.returns-in-Ok-clause-all
returns-in-Ok-clause-all c acks lines placed =
    c.have_numbers.ensures
    ∙ (ap (list_all is_placed) (same_lines c.args.count _ acks c.args.body.now c.in-Ok.ensures.lines lines) ∙ placed)
