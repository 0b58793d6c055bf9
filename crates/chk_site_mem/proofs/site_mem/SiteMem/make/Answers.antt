use Rattle.std.proofs.Common.{subst, sym}
use Rattle.chk_site.specs.Acts.{deed}
use Rattle.chk_site_mem_store.specs.Told.{told_of}
use Rattle.chk_site_mem_calls.specs.Plans.{LosesNothing}
use Rattle.chk_site_mem.specs.Lossless.{any}
use Rattle.chk_site_mem.specs.Memory.{Memory}
use Rattle.chk_site_mem.proofs.LossLemmas.{still_made}
use Rattle.chk_site_mem.proofs.site_mem.SiteMem.make.Goals as goal

pub invariant_of-self-in-Goes : goal.invariant_of-self-in-Goes
invariant_of-self-in-Goes c =
    let act = c.args.act in
    let L : Memory → Type 0 =
    λ m. LosesNothing m.state.repeats.numbers (told_of m.state.kept) act.who (deed act) act.answer in
    still_made any _ act _ _ _ tt c.requires.runs (subst L (sym c.self.view_is) c.requires.loses)
    c.in_ok-make-in-Goes.ensures.ok c.self.invariant
