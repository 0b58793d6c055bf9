use Rattle.std.proofs.Common.{◌≡◌, ◌∙◌, ◌∷◌, [], ℕ, List, Ok, Err, refl, ap, subst, map, take, length, length-append, arith}
use Rattle.std.proofs.lemmas.Result.{err_from_is_err_and}
use Rattle.std.proofs.lemmas.List.{take_all}
use Rattle.chk_site.specs.History.{Every}
use Rattle.chk_site.specs.Site.{Adds}
use Rattle.chk_site.specs.Runs.{anyhow, Leads}
use Rattle.chk_site.proofs.Leads.{leads_as, leads_none, leads_then}
use Rattle.chk_site.proofs.Runs.{adds_as, adds_none}
use Rattle.chk_world.specs.JobSteps.{IsOf, ReadsFile}
use Rattle.chk_record_index.specs.Faults.{FailsLast}
use Rattle.chk_record_index.specs.declared.fault.JobFault.TheVariants.{NoMemory}
use Rattle.chk_record_index.proofs.Gathering.{every_then}
use Rattle.chk_book.proofs.Added.{cause_later}
use Rattle.chk_record_reader.specs.Segments.{HasFiles, SparesFiles}
use Rattle.chk_record_reader.proofs.AllGathered.{fails_later}
use Rattle.chk_record_reader.proofs.AllRead.{no_windows}
use Rattle.chk_ctl_sum.specs.Summing.{digest_of, rest_of}
use Rattle.chk_ctl_sum.specs.declared.rests.Rest.{Rest}
use Rattle.chk_ctl_sum.proofs.Steps.{SoFar, stream_more, stream_fails, taken_more}
use Rattle.chk_ctl_sum.proofs.summing.sum_streams.Goals as goal

pub loop-rest-init : goal.loop-rest-init
loop-rest-init g c = record {
  so = λ most all held few settled side rise.
      leads_none (g.S.Site.told c.args.site.now)
      (λ h x. (
        (
          x,
          no_windows c.args.side.now.names.now held c.new-reader.result
              c.new-reader.ensures,
        ),
        c.new-digests.ensures,
      ));
  own = adds_none (g.S.Site.told c.args.site.now) (Every (IsOf ReadsFile)) (λ history. tt);
  count = refl;
  number = ap length c.new-digests.ensures;
}

pub loop-rest-preserved : goal.loop-rest-preserved
loop-rest-preserved g c =
    let l = c.loop-rest in
    let i = l.invariant in
    let s = c.args.side.now in
    let e = c.rest-item.result in
    let more = c.in_ok-push.ensures in
    let size = length-append l.digests (c.in_ok-digest.digest ∷ []) in
    let so_far = i.number in
    record {
      so = λ most all held few settled side rise.
          let f : Rest → List ℕ = digest_of s held in
          subst (λ wanted. Adds (g.S.Site.told c.args.site.now)
          (g.S.Site.told c.sum_stream.new.site)
          (Leads (anyhow (SparesFiles all)) (HasFiles all held)
          (SoFar all held s wanted c.sum_stream.new.reader c.push.new.self)))
          (taken_more f c.args.rests.now l.rest-index e c.loop-rest-test.true c.rest-item.is)
          (stream_more all held s (map f (take l.rest-index c.args.rests.now)) l.digests
          c.push.new.self (rest_of s held e) c.in_ok-digest.digest l.reader
          c.sum_stream.new.reader more (i.so most all held few settled side rise)
          (c.in_ok-digest.ensures.raw most all held few settled side rise));
      own = every_then (IsOf ReadsFile) i.own c.in_ok-digest.ensures.own;
      count = c.in_ok-digest.ensures.cause ∙ i.count;
      number = ap length more ∙ omega (arith, size, so_far);
    }

pub returns-in_err-digest : goal.returns-in_err-digest
returns-in_err-digest g c =
    let p = err_from_is_err_and c.from_residual.result c.from_residual.ensures.1 in
    let l = c.loop-rest in
    let i = l.invariant in
    let s = c.args.side.now in
    let fault = c.in_err-digest.field-0.0 in
    rw (p.1, p.2)
    (record {
      raw = λ most all held few settled side rise.
          let f : Rest → List ℕ = digest_of s held in
          stream_fails all held s (map f (take l.rest-index c.args.rests.now)) l.digests
          (rest_of s held c.rest-item.result) (map f c.args.rests.now) l.reader
          c.sum_stream.new.reader fault (i.so most all held few settled side rise)
          (c.in_err-digest.ensures.raw most all held few settled side rise);
      count = tt;
      own = every_then (IsOf ReadsFile) i.own c.in_err-digest.ensures.own;
      only = c.in_err-digest.ensures.only;
      last = fails_later (List (List ℕ)) (List ℕ) fault i.own c.in_err-digest.ensures.last;
      cause = cause_later (List (List ℕ)) (List ℕ) fault (g.S.Site.fault_count c.args.site.now)
          (g.S.Site.fault_count l.site) (g.S.Site.fault_count c.sum_stream.new.site) i.count
          c.in_err-digest.ensures.cause;
    })

pub returns-in_err-push : goal.returns-in_err-push
returns-in_err-push g c =
    let l = c.loop-rest in
    let i = l.invariant in
    let r = c.from_residual-in_err-push in
    let p = err_from_is_err_and r.result r.ensures.1 in
    let own = every_then (IsOf ReadsFile) i.own c.in_ok-digest.ensures.own in
    rw (p.1, p.2)
    (record {
      raw = λ most all held few settled side rise.
          leads_as (λ h x. x) (λ h x. tt)
          (leads_then (leads_as (λ h x. x) (λ h x. x.0) (i.so most all held few settled side rise))
          (c.in_ok-digest.ensures.raw most all held few settled side rise));
      count = tt;
      own = own;
      only = tt;
      last = adds_as (FailsLast {T = List (List ℕ)} (Err NoMemory)) own (λ added history x. tt);
      cause = c.in_ok-digest.ensures.cause ∙ i.count;
    })

pub returns : goal.returns
returns g c =
    let l = c.loop-rest in
    let i = l.invariant in
    let s = c.args.side.now in
    let rests = c.args.rests.now in
    let low = c.loop-rest-test.false in
    let high = l.auto.rest-index-end in
    let number = i.number in
    let past : take l.rest-index rests ≡ rests = take_all l.rest-index rests c.loop-rest-test.false in
    record {
      raw = λ most all held few settled side rise.
          let f : Rest → List ℕ = digest_of s held in
          leads_as (λ h x. x) (λ h x. (x.0.0, x.1 ∙ ap (map f) past))
          (i.so most all held few settled side rise);
      count = omega (arith, low, high, number);
      own = i.own;
      only = tt;
      last = adds_as (FailsLast {T = List (List ℕ)} (Ok l.digests)) i.own (λ added history x. tt);
      cause = i.count;
    }
