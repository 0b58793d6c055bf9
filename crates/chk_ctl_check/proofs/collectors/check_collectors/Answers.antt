use Rattle.std.proofs.Common.{◌∙◌, arith, false, Bool, Err, List, Ok, Result, ap, map, refl}
use Rattle.std.proofs.Common.{subst, sym, ℕ}
use Rattle.std.proofs.Math.ListN.{drop_of_length-le}
use Rattle.std.proofs.lemmas.Result.{err_from_is_err_and}
use Rattle.chk_site.specs.declared.acts.OutsideFault.{OutsideFault}
use Rattle.chk_site.specs.History.{Every}
use Rattle.chk_site.proofs.Runs.{adds_none}
use Rattle.chk_world.specs.JobSteps.{IsOf}
use Rattle.chk_ctl_check.specs.Collectors.{CollectorsChecked, SendsOrSays, asked_on, ended_so}
use Rattle.chk_ctl_check.specs.Collectors.{none_left}
use Rattle.chk_ctl_check.specs.Collectors.{or_silent}
use Rattle.chk_ctl_check.proofs.OwnCalls.{cause_behind, count_same, own_then}
use Rattle.chk_ctl_check.proofs.SilentLines.{next_address, or_end, or_none}
use Rattle.chk_ctl_check.proofs.SilentLines.{or_then, word_at}
use Rattle.chk_ctl_check.proofs.collectors.check_collectors.Goals as goal

pub loop-address-init : goal.loop-address-init
loop-address-init g c =
    let t = g.S.Site.told c.args.site.now in
    record {
      count = count_same refl;
      own = adds_none t (Every (IsOf SendsOrSays)) (λ history. tt);
      behind = λ result new rest.
          subst (λ (r : Result Bool OutsideFault). CollectorsChecked
          (map (λ a. a.now) c.args.addresses.now) r t new) (sym (or_none result)) rest;
    }

pub check_collector-requires-clause-word : goal.check_collector-requires-clause-word
check_collector-requires-clause-word g c =
    word_at c.args.addresses.now c.loop-address.address-index _ c.loop-address-test.true
    c.requires.words

pub returns-in_err-is_silent : goal.returns-in_err-is_silent
returns-in_err-is_silent g c =
    let p = err_from_is_err_and c.from_residual.result c.from_residual.ensures.1 in
    let l = c.loop-address in
    let xs = c.args.addresses.now in
    let fault = c.in_err-is_silent.field-0.0 in
    let t = g.S.Site.told l.site in
    let u = g.S.Site.told c.check_collector.new.site in
    let next = next_address xs l.address-index _ c.loop-address-test.true in
    rw (p.1, p.2)
    (record {
      told = l.invariant.behind (Err fault) u
          (subst (λ (ts : List (List ℕ)). CollectorsChecked ts (Err fault) t u) (sym next)
          (ended_so c.in_err-is_silent.ensures.told));
      own = own_then SendsOrSays l.invariant.own c.check_collector.ensures.own;
      cause = cause_behind Bool Bool fault (g.S.Site.fault_count c.args.site.now)
          (g.S.Site.fault_count l.site) (g.S.Site.fault_count c.check_collector.new.site)
          l.invariant.count c.in_err-is_silent.ensures.cause;
    })

pub loop-address-preserved : goal.loop-address-preserved
loop-address-preserved g c =
    let l = c.loop-address in
    let xs = c.args.addresses.now in
    let is = c.in_ok-is_silent.is_silent in
    let t = g.S.Site.told l.site in
    let next = next_address xs l.address-index _ c.loop-address-test.true in
    record {
      count = omega (arith, c.in_ok-is_silent.ensures.cause, l.invariant.count);
      own = own_then SendsOrSays l.invariant.own c.check_collector.ensures.own;
      behind = λ result new rest.
          subst (λ (r : Result Bool OutsideFault). CollectorsChecked (map (λ a. a.now) xs) r
          (g.S.Site.told c.args.site.now) new)
          (or_then l.found is result
          ∙ ap (λ (b : Bool). or_silent b result) (sym c.either-found.ensures))
          (l.invariant.behind (or_silent is result) new
          (subst (λ (ts : List (List ℕ)). CollectorsChecked ts (or_silent is result) t new)
          (sym next) (asked_on c.in_ok-is_silent.ensures.told rest)));
    }

pub returns : goal.returns
returns g c =
    let l = c.loop-address in
    let xs = c.args.addresses.now in
    let t = g.S.Site.told l.site in
    let none = ap (map (λ a. a.now)) (drop_of_length-le xs c.loop-address-test.false) in
    record {
      told = subst (λ (r : Result Bool OutsideFault). CollectorsChecked (map (λ a. a.now) xs) r
          (g.S.Site.told c.args.site.now) t) (or_end l.found)
          (l.invariant.behind (Ok false) t
          (subst (λ (ts : List (List ℕ)). CollectorsChecked ts (Ok false) t t) (sym none)
          none_left));
      own = l.invariant.own;
      cause = l.invariant.count;
    }
