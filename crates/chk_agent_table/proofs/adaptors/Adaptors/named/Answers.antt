use Rattle.std.proofs.Common.{◌∙◌, ap, sym}
use Rattle.std.specs.HashMap.{get_by_text}
use Rattle.chk_agent_table.proofs.Finding.{named_by, none_named, number_below}
use Rattle.chk_agent_table.proofs.adaptors.Adaptors.named.Goals as goal

pub if_live-requires : goal.if_live-requires
if_live-requires c =
    number_below c.self.inside c.args.self.now c.self.view_is c.self.invariant c.args.name.now
    c.in-Some.number.now
    (ap (get_by_text c.self.inside.names) (sym c.as_str.ensures.text) ∙ sym c.in-Some.ensures.value)

pub returns-in-Some : goal.returns-in-Some
returns-in-Some c =
    named_by c.self.inside c.args.self.now c.self.view_is c.self.invariant c.args.name.now
    c.in-Some.number.now c.if_live.result
    (ap (get_by_text c.self.inside.names) (sym c.as_str.ensures.text) ∙ sym c.in-Some.ensures.value)
    c.if_live.ensures

pub returns-in-None : goal.returns-in-None
returns-in-None c =
    sym (none_named c.self.inside c.args.self.now c.self.view_is c.self.invariant c.args.name.now
    (ap (get_by_text c.self.inside.names) (sym c.as_str.ensures.text) ∙ sym
    c.in-None.ensures.value))
