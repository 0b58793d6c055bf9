use Rattle.std.proofs.Common.{sym, subst}
use Rattle.chk_rotate.specs.Readers.{Reader as Rotated}
use Rattle.chk_agent_adaptor.specs.declared.reader.Reader.{Reader}
use Rattle.chk_agent_adaptor.specs.Fields.{seen, AreNamed}
use Rattle.chk_agent_adaptor.proofs.Named.{named_front}
use Rattle.chk_agent_adaptor.proofs.reader.Reader.rewind.Goals as goal

pub returns-in-Over-clause-sound : goal.returns-in-Over-clause-sound
returns-in-Over-clause-sound c =
    let old = subst (λ (r : Reader). AreNamed (seen r).marks) c.in-Over.is
    c.requires.sound.named in
    record {
      rising = c.rewind.ensures.rises;
      named = subst (λ (r : Rotated). AreNamed r.marks) (sym c.rewind.ensures.back)
          (named_front _ c.in-Over.rotated.marks old);
      within = tt;
    }
