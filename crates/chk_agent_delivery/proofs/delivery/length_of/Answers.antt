use Rattle.std.proofs.Common.{ap, ◌∙◌}
use Rattle.chk_http_grammar.proofs.Accepted.{IsGoodReply-same}
use Rattle.chk_agent_delivery.specs.Turns.{length_of}
use Rattle.chk_agent_delivery.proofs.delivery.length_of.Goals as goal

pub returns-in-Ok : goal.returns-in-Ok
returns-in-Ok c lengths is many =
    c.length_in.ensures ∙ ap (length_of c.args.stem.now) (IsGoodReply-same c.in-Ok.lines lengths c.args.bytes.now c.in-Ok.ensures.good.0 is)
