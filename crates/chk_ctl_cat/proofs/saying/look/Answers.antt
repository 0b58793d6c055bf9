use Rattle.std.proofs.Common.{refl, ap, ◌∙◌, [], min, Ok, Err, List, ℕ, arith}
use Rattle.chk_site.specs.declared.acts.CallFault.TheVariants.{Failed}
use Rattle.chk_site.specs.declared.acts.OutsideFault.TheVariants.{Outside as site_failed}
use Rattle.chk_ctl_cat.specs.declared.fault.LookFault.TheVariants.{Outside, NoMemory}
use Rattle.chk_ctl_cat.specs.Faults.{FailsLast}
use Rattle.chk_site.specs.declared.acts.Call.TheVariants.{Read}
use Rattle.chk_site.specs.Site.{bytes_given}
use Rattle.chk_site.proofs.Runs.{adds_as}
use Rattle.chk_site.proofs.LastCalls.{ended_last as ends_last}
use Rattle.chk_ctl_cat.proofs.SegmentLemmas.{loss_last, loss_cause}
use Rattle.chk_ctl_cat.proofs.Seeing.{piece_seen, missing_seen, short_seen, read_failed, read_unmade}
use Rattle.chk_ctl_cat.proofs.saying.look.Goals as goal

pub returns-in-Ok : goal.returns-in-Ok
returns-in-Ok g c =
    let most = c.min-max.ensures ∙ ap (λ n. min n 131072) c.saturating_sub.ensures in
    let told = rw most at c.in-Ok.ensures.told in
    record {
      told = piece_seen c.args.who.now c.args.name.now c.args.at c.requires.job c.in-Ok.bytes told;
      few = rw most at c.in-Ok.ensures.most;
      last = adds_as (FailsLast {T = List ℕ} (Ok c.in-Ok.bytes)) told (λ a history calls. tt);
      cause = c.in-Ok.ensures.cause;
    }

pub returns-in-Err-Missing : goal.returns-in-Err-Missing
returns-in-Err-Missing g c =
    let most = c.min-max.ensures ∙ ap (λ n. min n 131072) c.saturating_sub.ensures in
    let told = rw most at (rw c.in-Err-Missing.field-0-is at c.in-Err-Missing.ensures.told) in
    record {
      told = missing_seen c.args.who.now c.args.name.now c.args.at c.requires.job c.gone.result c.gone.ensures told;
      few = tt;
      last = loss_last (List ℕ) c.args.name.now c.gone.result c.gone.ensures told;
      cause = loss_cause (List ℕ) c.args.name.now c.gone.result (g.S.Site.fault_count c.args.site.now)
          (g.S.Site.fault_count c.read.new.self) c.gone.ensures (rw c.in-Err-Missing.field-0-is at c.in-Err-Missing.ensures.cause);
    }

pub returns-in-Err-Failed : goal.returns-in-Err-Failed
returns-in-Err-Failed g c =
    let most = c.min-max.ensures ∙ ap (λ n. min n 131072) c.saturating_sub.ensures in
    let told = rw most at (rw c.in-Err-Failed.field-0-is at c.in-Err-Failed.ensures.told) in
    record {
      told = read_failed c.args.who.now c.args.name.now c.args.at c.requires.job told;
      few = tt;
      last = adds_as (FailsLast {T = List ℕ} (Err (Outside Read))) told
          (λ a history calls. ends_last (List ℕ) bytes_given (Err Failed) (site_failed Read) refl calls);
      cause = rw c.in-Err-Failed.field-0-is at c.in-Err-Failed.ensures.cause;
    }

pub returns-in-Err-NoMemory : goal.returns-in-Err-NoMemory
returns-in-Err-NoMemory g c =
    let most = c.min-max.ensures ∙ ap (λ n. min n 131072) c.saturating_sub.ensures in
    let told = rw most at (rw c.in-Err-NoMemory.field-0-is at c.in-Err-NoMemory.ensures.told) in
    record {
      told = read_unmade c.args.who.now c.args.name.now c.args.at c.requires.job told;
      few = tt;
      last = adds_as (FailsLast {T = List ℕ} (Err NoMemory)) told (λ a history calls. tt);
      cause = rw c.in-Err-NoMemory.field-0-is at c.in-Err-NoMemory.ensures.cause;
    }

pub returns-in-Err-Short : goal.returns-in-Err-Short
returns-in-Err-Short g c =
    let most = c.min-max.ensures ∙ ap (λ n. min n 131072) c.saturating_sub.ensures in
    let told = rw most at (rw c.in-Err-Short.field-0-is at c.in-Err-Short.ensures.told) in
    rw c.new.ensures
    (record {
      told = short_seen c.args.who.now c.args.name.now c.args.at c.requires.job c.in-Err-Short.field-0-0 told;
      few = omega arith;
      last = adds_as (FailsLast {T = List ℕ} (Ok [])) told (λ a history calls. tt);
      cause = rw c.in-Err-Short.field-0-is at c.in-Err-Short.ensures.cause;
    })
