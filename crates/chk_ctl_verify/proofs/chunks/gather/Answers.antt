use Rattle.chk_record_index.specs.Gathered.{ShowsGathered}
use Rattle.chk_record_index.specs.Heads.{Head}
use Rattle.chk_ctl_verify.proofs.Steps.{reads_own}
use Rattle.chk_site.proofs.Runs.{adds_as}
use Rattle.std.proofs.Common.{List, [], subst}
use Rattle.chk_ctl_verify.proofs.chunks.gather.Goals as goal

pub returns-clause-shown : goal.returns-clause-shown
returns-clause-shown g c = (
  c.gather.new.self,
  adds_as (ShowsGathered c.args.most c.args.name.now 0 [] c.gather.new.self c.gather.result)
      c.gather.ensures.shown
      (λ added history x. subst (λ (h : List Head). ShowsGathered c.args.most c.args.name.now 0 h
      c.gather.new.self c.gather.result added history) c.new-heads.ensures x),
)

pub returns-clause-own : goal.returns-clause-own
returns-clause-own g c =
    reads_own (c.gather.ensures.own c.requires.job)
