use Rattle.std.proofs.Common.{refl, ap, ◌∙◌, [], min, Ok, Err, Some, None, Option, List, ℕ}
use Rattle.chk_site.specs.declared.acts.CallFault.TheVariants.{Failed, Missing, Short, NoMemory}
use Rattle.chk_site.specs.declared.acts.OutsideFault.TheVariants.{Outside, NoMemory as no_memory}
use Rattle.chk_site.specs.declared.acts.Call.TheVariants.{Read}
use Rattle.chk_site.specs.Site.{bytes_given, LastFailed}
use Rattle.chk_site.proofs.Runs.{adds_as}
use Rattle.chk_replace.specs.Load.{IsGone}
use Rattle.chk_site.proofs.LastCalls.{ended_last as ends_last}
use Rattle.chk_replace.proofs.Pieces.{piece_given, piece_missing, piece_short, not_read, piece_looks, piece_gone}
use Rattle.chk_replace.proofs.loading.piece_at.Goals as goal

pub returns-in-Ok : goal.returns-in-Ok
returns-in-Ok g c =
    let who = c.args.who.now in
    let name = c.args.name.now in
    let at = c.args.at in
    let most = c.min-max.ensures ∙ ap (λ n. min n 1048576) c.saturating_sub.ensures in
    let told = rw most at c.in-Ok.ensures.told in
    record {
      whole = piece_given who name at c.in-Ok.bytes told;
      script = record { given = Ok c.in-Ok.bytes; came = refl; told = told };
      reads = piece_looks who name at (Ok (bytes_given c.in-Ok.bytes)) told;
      none = adds_as (IsGone name (Ok (Some c.in-Ok.bytes))) told (λ a history calls. tt);
      last = adds_as (LastFailed {T = Option (List ℕ)} (Ok (Some c.in-Ok.bytes))) told (λ a history calls. tt);
      cause = c.in-Ok.ensures.cause;
    }

pub returns-in-Err-Missing : goal.returns-in-Err-Missing
returns-in-Err-Missing g c =
    let who = c.args.who.now in
    let name = c.args.name.now in
    let at = c.args.at in
    let most = c.min-max.ensures ∙ ap (λ n. min n 1048576) c.saturating_sub.ensures in
    let told = rw most at (rw c.in-Err-Missing.field-0-is at c.in-Err-Missing.ensures.told) in
    record {
      whole = piece_missing who name at told;
      script = record { given = Err Missing; came = refl; told = told };
      reads = piece_looks who name at (Err Missing) told;
      none = piece_gone who name at told;
      last = adds_as (LastFailed {T = Option (List ℕ)} (Ok None)) told (λ a history calls. tt);
      cause = rw c.in-Err-Missing.field-0-is at c.in-Err-Missing.ensures.cause;
    }

pub returns-in-Err-Failed : goal.returns-in-Err-Failed
returns-in-Err-Failed g c =
    let who = c.args.who.now in
    let name = c.args.name.now in
    let at = c.args.at in
    let most = c.min-max.ensures ∙ ap (λ n. min n 1048576) c.saturating_sub.ensures in
    let told = rw most at (rw c.in-Err-Failed.field-0-is at c.in-Err-Failed.ensures.told) in
    record {
      whole = not_read name at (Outside Read) told;
      script = record { given = Err Failed; came = refl; told = told };
      reads = piece_looks who name at (Err Failed) told;
      none = adds_as (IsGone name (Err (Outside Read))) told (λ a history calls. tt);
      last = adds_as (LastFailed {T = Option (List ℕ)} (Err (Outside Read))) told
          (λ a history calls. ends_last (Option (List ℕ)) bytes_given (Err Failed) (Outside Read) refl calls);
      cause = rw c.in-Err-Failed.field-0-is at c.in-Err-Failed.ensures.cause;
    }

pub returns-in-Err-NoMemory : goal.returns-in-Err-NoMemory
returns-in-Err-NoMemory g c =
    let who = c.args.who.now in
    let name = c.args.name.now in
    let at = c.args.at in
    let most = c.min-max.ensures ∙ ap (λ n. min n 1048576) c.saturating_sub.ensures in
    let told = rw most at (rw c.in-Err-NoMemory.field-0-is at c.in-Err-NoMemory.ensures.told) in
    record {
      whole = not_read name at no_memory told;
      script = record { given = Err NoMemory; came = refl; told = told };
      reads = piece_looks who name at (Err NoMemory) told;
      none = adds_as (IsGone name (Err no_memory)) told (λ a history calls. tt);
      last = adds_as (LastFailed {T = Option (List ℕ)} (Err no_memory)) told (λ a history calls. tt);
      cause = rw c.in-Err-NoMemory.field-0-is at c.in-Err-NoMemory.ensures.cause;
    }

pub returns-in-Err-Short : goal.returns-in-Err-Short
returns-in-Err-Short g c =
    let who = c.args.who.now in
    let name = c.args.name.now in
    let at = c.args.at in
    let most = c.min-max.ensures ∙ ap (λ n. min n 1048576) c.saturating_sub.ensures in
    let size = c.in-Err-Short.field-0-0 in
    let told = rw most at (rw c.in-Err-Short.field-0-is at c.in-Err-Short.ensures.told) in
    rw c.new.ensures
    (record {
      whole = piece_short who name at size told;
      script = record { given = Err (Short size); came = refl; told = told };
      reads = piece_looks who name at (Err (Short size)) told;
      none = adds_as (IsGone name (Ok (Some []))) told (λ a history calls. tt);
      last = adds_as (LastFailed {T = Option (List ℕ)} (Ok (Some []))) told (λ a history calls. tt);
      cause = rw c.in-Err-Short.field-0-is at c.in-Err-Short.ensures.cause;
    })
