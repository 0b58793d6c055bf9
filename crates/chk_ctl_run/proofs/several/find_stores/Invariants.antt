use Rattle.std.proofs.Common.{◌≡◌, List, [], drop, map, Option, Result}
use Rattle.chk_site.specs.History.{Every, History}
use Rattle.chk_site.specs.Site.{Adds}
use Rattle.chk_world.specs.JobSteps.{IsOf}
use Rattle.chk_ctl_held.specs.declared.stores.Store.{Store}
use Rattle.chk_ctl_streams.specs.Following.{LooksAgain}
use Rattle.chk_ctl_run.specs.declared.outcome.Outcome.{Outcome}
use Rattle.chk_ctl_run.specs.Several.{FindsStores}
use Rattle.chk_ctl_run.proofs.several.find_stores.Given as goal

abbrev pub invariant-loop-word : goal.invariant-loop-word
invariant-loop-word g l = record {
  count : g.S.Site.fault_count l.site ≡ g.S.Site.fault_count l.fn.site;
  own : Adds (g.S.Site.told l.fn.site) (g.S.Site.told l.site) (Every (IsOf LooksAgain));
  behind : (result : Result (List Store) Outcome) (new : Option History)
      → FindsStores l.stores.items (map (λ w. w.now) (drop l.word-index l.words)) result
      (g.S.Site.told l.site) new
      → FindsStores [] (map (λ w. w.now) l.words) result (g.S.Site.told l.fn.site) new;
}
