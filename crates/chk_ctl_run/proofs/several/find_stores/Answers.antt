use Rattle.std.proofs.Common.{◌+◌, ◌∙◌, ℕ, List, Ok, Err, ap, drop, map, refl, sym, subst}
use Rattle.std.proofs.Math.ListN.{drop_of_length-le}
use Rattle.std.proofs.lemmas.Result.{err_from_is_err_and}
use Rattle.chk_site.specs.History.{Every}
use Rattle.chk_site.proofs.Runs.{adds_none}
use Rattle.chk_world.specs.JobSteps.{IsOf}
use Rattle.chk_ctl_held.specs.declared.stores.Store.{Store}
use Rattle.chk_ctl_streams.specs.Following.{LooksAgain}
use Rattle.chk_ctl_run.specs.declared.outcome.Outcome.{Outcome}
use Rattle.chk_ctl_run.specs.declared.outcome.Outcome.TheVariants.{NoMemory}
use Rattle.chk_ctl_run.specs.Outcomes.{OutcomeCause}
use Rattle.chk_ctl_run.specs.Several.{FindsStores, all_found, no_place, one_found, one_missed}
use Rattle.chk_ctl_run.proofs.Found.{cause_then}
use Rattle.chk_ctl_run.proofs.StoreSteps.{looks_then, stores_path}
use Rattle.chk_ctl_check.proofs.SilentLines.{next_address as next_word}
use Rattle.chk_ctl_run.proofs.several.find_stores.Goals as goal

pub loop-word-init : goal.loop-word-init
loop-word-init g c = record {
  count = refl;
  own = adds_none (g.S.Site.told c.args.site.now) (Every (IsOf LooksAgain)) (λ history. tt);
  behind = λ result new rest.
      subst (λ (done : List Store). FindsStores done (map (λ w. w.now) c.args.words.now) result
      (g.S.Site.told c.args.site.now) new) c.new-stores.ensures.items rest;
}

pub find_store-requires-clause-path : goal.find_store-requires-clause-path
find_store-requires-clause-path g c =
    stores_path c.args.words.now c.loop-word.word-index _ c.loop-word-test.true c.requires.words

pub returns-in_err-store : goal.returns-in_err-store
returns-in_err-store g c =
    let p = err_from_is_err_and c.from_residual.result c.from_residual.ensures.1 in
    let l = c.loop-word in
    let outcome = c.in_err-store.field-0.0 in
    let t = g.S.Site.told l.site in
    let u = g.S.Site.told c.find_store.new.site in
    let next = next_word c.args.words.now l.word-index _ c.loop-word-test.true in
    rw (p.1, p.2)
    (record {
      told = l.invariant.behind (Err outcome) u
          (subst (λ (ws : List (List ℕ)). FindsStores l.stores.items ws (Err outcome) t u) (sym next)
          (one_missed outcome c.in_err-store.ensures.told));
      own = looks_then l.invariant.own c.find_store.ensures.own;
      cause = cause_then outcome (g.S.Site.fault_count c.args.site.now)
          (g.S.Site.fault_count l.site) (g.S.Site.fault_count c.find_store.new.site)
          l.invariant.count c.in_err-store.ensures.cause;
    })

pub returns-in_err-add_store : goal.returns-in_err-add_store
returns-in_err-add_store g c =
    let p = err_from_is_err_and c.from_residual-in_err-add_store.result c.from_residual-in_err-add_store.ensures.1 in
    let l = c.loop-word in
    let outcome = c.in_err-add_store.field-0.0 in
    let is = c.in_err-add_store.ensures.err in
    let t = g.S.Site.told l.site in
    let u = g.S.Site.told c.find_store.new.site in
    let before = g.S.Site.fault_count c.args.site.now in
    let now = g.S.Site.fault_count c.find_store.new.site in
    let words = map (λ w. w.now) (drop l.word-index c.args.words.now) in
    let rest = map (λ w. w.now) (drop (l.word-index + 1) c.args.words.now) in
    let next = next_word c.args.words.now l.word-index _ c.loop-word-test.true in
    rw (p.1, p.2)
    (record {
      told = l.invariant.behind (Err outcome) u
          (subst (λ (o : Outcome). FindsStores l.stores.items words (Err o) t u) (sym is)
          (subst (λ (ws : List (List ℕ)). FindsStores l.stores.items ws (Err NoMemory) t u)
          (sym next)
          (no_place {stores = rest} c.in_ok-store.store c.in_ok-store.ensures.told)));
      own = looks_then l.invariant.own c.find_store.ensures.own;
      cause = subst (λ (o : Outcome). OutcomeCause before now o) (sym is)
          (c.in_ok-store.ensures.cause ∙ l.invariant.count);
    })

pub loop-word-preserved : goal.loop-word-preserved
loop-word-preserved g c =
    let l = c.loop-word in
    let store = c.in_ok-store.store in
    let rest_words = map (λ w. w.now) (drop (l.word-index + 1) c.args.words.now) in
    let t = g.S.Site.told l.site in
    let u = g.S.Site.told c.find_store.new.site in
    let next = next_word c.args.words.now l.word-index _ c.loop-word-test.true in
    record {
      count = c.in_ok-store.ensures.cause ∙ l.invariant.count;
      own = looks_then l.invariant.own c.find_store.ensures.own;
      behind = λ result new rest.
          l.invariant.behind result new
          (subst (λ (ws : List (List ℕ)). FindsStores l.stores.items ws result t new) (sym next)
          (one_found store c.in_ok-store.ensures.told
          (subst (λ (done : List Store). FindsStores done rest_words result u new)
          c.in_ok-add_store.ensures.ok rest)));
    }

pub returns : goal.returns
returns g c =
    let l = c.loop-word in
    let t = g.S.Site.told l.site in
    record {
      told = l.invariant.behind (Ok l.stores.items) t
          (subst (λ (ws : List (List ℕ)). FindsStores l.stores.items ws (Ok l.stores.items) t t)
          (sym (ap (map (λ w. w.now)) (drop_of_length-le c.args.words.now c.loop-word-test.false)))
          all_found);
      own = l.invariant.own;
      cause = l.invariant.count;
    }
