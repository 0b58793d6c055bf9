use Rattle.std.proofs.Common.{[], sym, subst}
use Rattle.chk_tail.specs.Tails.{base_spot}
use Rattle.chk_rotate.specs.Readers.{Reader as Rotated, way_of}
use Rattle.chk_agent_adaptor.specs.declared.reader.Reader.{Reader}
use Rattle.chk_agent_adaptor.specs.declared.reader.Reader.TheVariants.{Base}
use Rattle.chk_agent_adaptor.specs.Fields.{seen, AreNamed, Walked}
use Rattle.chk_agent_adaptor.proofs.Named.{named_stepped, walk_named}
use Rattle.chk_agent_adaptor.proofs.Fields.{base_stepped}
use Rattle.chk_agent_adaptor.proofs.reader.Reader.step.Goals as goal

pub returns-in-Base-clause-told : goal.returns-in-Base-clause-told
returns-in-Base-clause-told g c =
    let old = c.in-Base.tail in
    let new = c.step.new.self in
    subst (λ (r : Reader). Walked c.args.who.now r c.step.result (Base new)
    (g.S.Site.told c.args.site.now) (g.S.Site.told c.step.new.site)) (sym c.in-Base.is)
    (record {
      marks = [];
      next = base_spot new.start new.at;
      walks = c.step.ensures.told;
      is = base_stepped old new c.step.result c.step.ensures.reader c.step.ensures.refused;
    })

pub returns-in-Over-clause-sound : goal.returns-in-Over-clause-sound
returns-in-Over-clause-sound g c =
    let old = c.in-Over.rotated in
    let t = c.step-in-Over.ensures.told in
    let named = subst (λ (r : Reader). AreNamed (seen r).marks) c.in-Over.is
    c.requires.sound.named in
    let more = walk_named
    (way_of c.args.who.now old) c.step-in-Over.result t.next old.read t.marks t.walks in
    record {
      rising = c.step-in-Over.ensures.rises;
      named = subst (λ (r : Rotated). AreNamed r.marks) (sym t.is)
          (named_stepped t.marks t.next c.step-in-Over.result old more named);
      within = tt;
    }
