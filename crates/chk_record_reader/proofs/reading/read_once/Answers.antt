use Rattle.std.proofs.Common.{refl, [], Ok, Err, List, ℕ}
use Rattle.chk_site.specs.declared.acts.CallFault.TheVariants.{Failed, Missing, Short, NoMemory}
use Rattle.chk_site.specs.declared.acts.OutsideFault.TheVariants.{Outside, NoMemory as no_memory}
use Rattle.chk_site.specs.declared.acts.Call.TheVariants.{Read}
use Rattle.chk_site.specs.declared.acts.ActAnswer.TheVariants.{Refused}
use Rattle.chk_site.specs.Site.{bytes_given, LastFailed}
use Rattle.chk_site.proofs.Runs.{adds_as, ran}
use Rattle.chk_site.proofs.LastCalls.{ended_last as ends_last}
use Rattle.chk_record_reader.proofs.RunReads.{run_given, run_missing, run_short, not_run, read_stays, unsaid, run_own, run_asks}
use Rattle.chk_record_index.proofs.Showing.{read_gave, read_missing, read_short, gave_bytes, gave_none, gave_nothing}
use Rattle.chk_record_reader.proofs.reading.read_once.Goals as goal

pub returns-in-Ok : goal.returns-in-Ok
returns-in-Ok g c =
    let who = c.args.who.now in
    let name = c.args.name.now in
    let at = c.args.at in
    let max = c.args.max in
    let given = Ok (bytes_given c.in-Ok.bytes) in
    let told = c.in-Ok.ensures.told in
    record {
      raw = run_given who name at max c.in-Ok.bytes told;
      shown = gave_bytes name at max c.in-Ok.bytes (read_gave who name at max c.in-Ok.bytes told);
      stays = λ other. read_stays who name at max given (bytes_given c.in-Ok.bytes) other refl
          (λ added history calls. ran given (λ e. cc) calls) told;
      own = λ is. run_own who name at max given is told;
      pieces = run_asks who name at max given c.requires told;
      last = adds_as (LastFailed {T = List ℕ} (Ok c.in-Ok.bytes)) told (λ a history calls. tt);
      cause = c.in-Ok.ensures.cause;
    }

pub returns-in-Err-Missing : goal.returns-in-Err-Missing
returns-in-Err-Missing g c =
    let who = c.args.who.now in
    let name = c.args.name.now in
    let at = c.args.at in
    let max = c.args.max in
    let told = rw c.in-Err-Missing.field-0-is at c.in-Err-Missing.ensures.told in
    rw c.new.ensures
    (record {
      raw = run_missing who name at max told;
      shown = gave_none name at max (read_missing who name at max told);
      stays = λ other. read_stays who name at max (Err Missing) (Refused Missing) other refl
          (λ added history calls. ran (Err Missing) (λ e. cc) calls) told;
      own = λ is. run_own who name at max (Err Missing) is told;
      pieces = run_asks who name at max (Err Missing) c.requires told;
      last = adds_as (LastFailed {T = List ℕ} (Ok [])) told (λ a history calls. tt);
      cause = rw c.in-Err-Missing.field-0-is at c.in-Err-Missing.ensures.cause;
    })

pub returns-in-Err-Short : goal.returns-in-Err-Short
returns-in-Err-Short g c =
    let who = c.args.who.now in
    let name = c.args.name.now in
    let at = c.args.at in
    let max = c.args.max in
    let size = c.in-Err-Short.field-0-0 in
    let told = rw c.in-Err-Short.field-0-is at c.in-Err-Short.ensures.told in
    rw c.new-in-Err-Short.ensures
    (record {
      raw = run_short who name at max size told;
      shown = gave_bytes name at max [] (read_short who name at max size told);
      stays = λ other.
          read_stays who name at max (Err (Short size)) (Refused (Short size)) other refl
          (λ added history calls. ran (Err (Short size)) (λ e. cc) calls) told;
      own = λ is. run_own who name at max (Err (Short size)) is told;
      pieces = run_asks who name at max (Err (Short size)) c.requires told;
      last = adds_as (LastFailed {T = List ℕ} (Ok [])) told (λ a history calls. tt);
      cause = rw c.in-Err-Short.field-0-is at c.in-Err-Short.ensures.cause;
    })

pub returns-in-Err-Failed : goal.returns-in-Err-Failed
returns-in-Err-Failed g c =
    let who = c.args.who.now in
    let name = c.args.name.now in
    let at = c.args.at in
    let max = c.args.max in
    let told = rw c.in-Err-Failed.field-0-is at c.in-Err-Failed.ensures.told in
    record {
      raw = not_run name at max (Outside Read) told;
      shown = gave_nothing name at max (Outside Read) told;
      stays = λ other file. unsaid other file told;
      own = λ is. run_own who name at max (Err Failed) is told;
      pieces = run_asks who name at max (Err Failed) c.requires told;
      last = adds_as (LastFailed {T = List ℕ} (Err (Outside Read))) told
          (λ a history calls. ends_last (List ℕ) bytes_given (Err Failed)
          (Outside Read) refl calls);
      cause = rw c.in-Err-Failed.field-0-is at c.in-Err-Failed.ensures.cause;
    }

pub returns-in-Err-NoMemory : goal.returns-in-Err-NoMemory
returns-in-Err-NoMemory g c =
    let who = c.args.who.now in
    let name = c.args.name.now in
    let at = c.args.at in
    let max = c.args.max in
    let told = rw c.in-Err-NoMemory.field-0-is at c.in-Err-NoMemory.ensures.told in
    record {
      raw = not_run name at max no_memory told;
      shown = gave_nothing name at max no_memory told;
      stays = λ other file. unsaid other file told;
      own = λ is. run_own who name at max (Err NoMemory) is told;
      pieces = run_asks who name at max (Err NoMemory) c.requires told;
      last = adds_as (LastFailed {T = List ℕ} (Err no_memory)) told (λ a history calls. tt);
      cause = rw c.in-Err-NoMemory.field-0-is at c.in-Err-NoMemory.ensures.cause;
    }
