use Rattle.std.proofs.Common.{refl, ap, ◌∙◌, [], min, Ok, Err, List, ℕ, arith}
use Rattle.chk_site.specs.declared.acts.CallFault.TheVariants.{Failed, Missing, Short, NoMemory}
use Rattle.chk_site.specs.declared.acts.Call.TheVariants.{Read}
use Rattle.chk_site.specs.Site.{bytes_given}
use Rattle.chk_site.proofs.Runs.{adds_as}
use Rattle.chk_site.proofs.LastCalls.{ended_last as ends_last}
use Rattle.chk_site.specs.declared.acts.OutsideFault.TheVariants.{Outside as site_failed}
use Rattle.chk_world.specs.JobSteps.{ReadsFile}
use Rattle.chk_record_index.specs.Faults.{FailsLast}
use Rattle.chk_record_index.specs.declared.fault.JobFault.TheVariants.{Outside, NoMemory as none_left}
use Rattle.chk_record_index.proofs.PieceReads.{piece_own, piece_asks}
use Rattle.chk_book.proofs.Works.{worked}
use Rattle.chk_archive_merge.proofs.ShortReads.{short_given, short_missing, short_past}
use Rattle.chk_book.proofs.Segmented.{unsaid as led_anyhow}
use Rattle.chk_archive_merge.proofs.reading.read_short.Goals as goal

pub returns-in-Ok : goal.returns-in-Ok
returns-in-Ok g c =
    let who = c.args.who.now in
    let name = c.args.name.now in
    let at = c.args.at in
    let asked = c.min-max.ensures ∙ ap (λ n. min n 262144) c.saturating_sub.ensures in
    let told = rw asked at c.in-Ok.ensures.told in
    let given = Ok (bytes_given c.in-Ok.bytes) in
    record {
      raw = λ names held one. short_given names held who name at one c.in-Ok.bytes told;
      works = worked ReadsFile (Ok c.in-Ok.bytes) (piece_own who name at 262144 given c.requires.job told)
          (piece_asks who name at 262144 given (omega arith) told)
          (adds_as (FailsLast {T = List ℕ} (Ok c.in-Ok.bytes)) told (λ a history calls. tt));
      few = rw asked at c.in-Ok.ensures.most;
      only = tt;
      cause = c.in-Ok.ensures.cause;
    }

pub returns-in-Err-Missing : goal.returns-in-Err-Missing
returns-in-Err-Missing g c =
    let who = c.args.who.now in
    let name = c.args.name.now in
    let at = c.args.at in
    let asked = c.min-max.ensures ∙ ap (λ n. min n 262144) c.saturating_sub.ensures in
    let told = rw asked at (rw c.in-Err-Missing.field-0-is at c.in-Err-Missing.ensures.told) in
    rw c.new.ensures
    (record {
      raw = λ names held one. short_missing names held who name at one told;
      works = worked ReadsFile (Ok []) (piece_own who name at 262144 (Err Missing) c.requires.job told)
          (piece_asks who name at 262144 (Err Missing) (omega arith) told)
          (adds_as (FailsLast {T = List ℕ} (Ok [])) told (λ a history calls. tt));
      few = omega arith;
      only = tt;
      cause = rw c.in-Err-Missing.field-0-is at c.in-Err-Missing.ensures.cause;
    })

pub returns-in-Err-Short : goal.returns-in-Err-Short
returns-in-Err-Short g c =
    let who = c.args.who.now in
    let name = c.args.name.now in
    let at = c.args.at in
    let asked = c.min-max.ensures ∙ ap (λ n. min n 262144) c.saturating_sub.ensures in
    let told = rw asked at (rw c.in-Err-Short.field-0-is at c.in-Err-Short.ensures.told) in
    let size = c.in-Err-Short.field-0-0 in
    rw c.new-in-Err-Short.ensures
    (record {
      raw = λ names held one. short_past names held who name at one size told;
      works = worked ReadsFile (Ok []) (piece_own who name at 262144 (Err (Short size)) c.requires.job told)
          (piece_asks who name at 262144 (Err (Short size)) (omega arith) told)
          (adds_as (FailsLast {T = List ℕ} (Ok [])) told (λ a history calls. tt));
      few = omega arith;
      only = tt;
      cause = rw c.in-Err-Short.field-0-is at c.in-Err-Short.ensures.cause;
    })

pub returns-in-Err-Failed : goal.returns-in-Err-Failed
returns-in-Err-Failed g c =
    let who = c.args.who.now in
    let name = c.args.name.now in
    let at = c.args.at in
    let asked = c.min-max.ensures ∙ ap (λ n. min n 262144) c.saturating_sub.ensures in
    let told = rw asked at (rw c.in-Err-Failed.field-0-is at c.in-Err-Failed.ensures.told) in
    record {
      raw = λ names held one. led_anyhow (λ h. tt) told;
      works = worked {T = List ℕ} ReadsFile (Err (Outside Read)) (piece_own who name at 262144 (Err Failed) c.requires.job told)
          (piece_asks who name at 262144 (Err Failed) (omega arith) told)
          (adds_as (FailsLast {T = List ℕ} (Err (Outside Read))) told
          (λ a history calls. ends_last (List ℕ) bytes_given (Err Failed) (site_failed Read) refl calls));
      few = tt;
      only = tt;
      cause = rw c.in-Err-Failed.field-0-is at c.in-Err-Failed.ensures.cause;
    }

pub returns-in-Err-NoMemory : goal.returns-in-Err-NoMemory
returns-in-Err-NoMemory g c =
    let who = c.args.who.now in
    let name = c.args.name.now in
    let at = c.args.at in
    let asked = c.min-max.ensures ∙ ap (λ n. min n 262144) c.saturating_sub.ensures in
    let told = rw asked at (rw c.in-Err-NoMemory.field-0-is at c.in-Err-NoMemory.ensures.told) in
    record {
      raw = λ names held one. led_anyhow (λ h. tt) told;
      works = worked {T = List ℕ} ReadsFile (Err none_left) (piece_own who name at 262144 (Err NoMemory) c.requires.job told)
          (piece_asks who name at 262144 (Err NoMemory) (omega arith) told)
          (adds_as (FailsLast {T = List ℕ} (Err none_left)) told (λ a history calls. tt));
      few = tt;
      only = tt;
      cause = rw c.in-Err-NoMemory.field-0-is at c.in-Err-NoMemory.ensures.cause;
    }
