use Rattle.std.proofs.Common.{Ok, Err, refl}
use Rattle.std.proofs.lemmas.List.{nil_from_length}
use Rattle.chk_site.specs.declared.acts.CallFault.TheVariants.{Failed}
use Rattle.chk_site.specs.declared.acts.OutsideFault.TheVariants.{Outside, NoMemory as no_memory}
use Rattle.chk_site.specs.declared.acts.Call.TheVariants.{Say}
use Rattle.chk_site.specs.Site.{plain, LastFailed}
use Rattle.chk_site.proofs.Runs.{adds_as}
use Rattle.chk_site.proofs.LastCalls.{ended_last as ends_last}
use Rattle.chk_ctl_cat.proofs.Seeing.{said_seen, say_failed, say_unmade, unsaid}
use Rattle.chk_ctl_cat.proofs.saying.say.Goals as goal

pub returns-in-Ok : goal.returns-in-Ok
returns-in-Ok g c = record {
  told = said_seen c.args.who.now c.args.text.now c.requires c.in-Ok.ensures.told;
  last = adds_as (LastFailed {T = Unit {0}} (Ok tt)) c.in-Ok.ensures.told (λ a history calls. tt);
  cause = c.in-Ok.ensures.cause;
}

pub returns-in-Err-Failed : goal.returns-in-Err-Failed
returns-in-Err-Failed g c =
    let told = rw c.in-Err-Failed.field-0-is at c.in-Err-Failed.ensures.told in
    record {
      told = say_failed c.args.who.now c.args.text.now c.requires told;
      last = adds_as (LastFailed {T = Unit {0}} (Err (Outside Say))) told
          (λ a history calls. ends_last (Unit {0}) (plain {T = Unit {0}}) (Err Failed) (Outside Say) refl calls);
      cause = rw c.in-Err-Failed.field-0-is at c.in-Err-Failed.ensures.cause;
    }

pub returns-in-Err-NoMemory : goal.returns-in-Err-NoMemory
returns-in-Err-NoMemory g c =
    let told = rw c.in-Err-NoMemory.field-0-is at c.in-Err-NoMemory.ensures.told in
    record {
      told = say_unmade c.args.who.now c.args.text.now c.requires told;
      last = adds_as (LastFailed {T = Unit {0}} (Err no_memory)) told (λ a history calls. tt);
      cause = rw c.in-Err-NoMemory.field-0-is at c.in-Err-NoMemory.ensures.cause;
    }

pub returns-then-text-eq0-clause-told : goal.returns-then-text-eq0-clause-told
returns-then-text-eq0-clause-told g c =
    unsaid (g.S.Site.told c.args.site.now) c.args.text.now (nil_from_length c.args.text.now c.if-text-eq0.true)
