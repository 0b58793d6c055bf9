use Rattle.std.proofs.Common.{refl, ap, ◌∙◌, [], min, Ok, Err, Some, None, Option, List, ℕ, arith}
use Rattle.chk_site.specs.declared.acts.CallFault.TheVariants.{Failed, Missing, Short, NoMemory}
use Rattle.chk_site.specs.declared.acts.OutsideFault.TheVariants.{Outside, NoMemory as no_memory}
use Rattle.chk_site.specs.declared.acts.Call.TheVariants.{Read}
use Rattle.chk_site.specs.Site.{bytes_given, LastFailed}
use Rattle.chk_site.proofs.Runs.{adds_as}
use Rattle.chk_site.proofs.LastCalls.{ended_last as ends_last}
use Rattle.chk_record_index.proofs.Showing.{read_gave, read_missing, read_short, read_failed}
use Rattle.chk_record_index.specs.Pieces.{asks_for}
use Rattle.chk_record_index.proofs.PieceReads.{piece_given, piece_missing, piece_short, not_read, piece_own, piece_asks}
use Rattle.chk_record_index.proofs.reading.read_most.Goals as goal

pub returns-in-Ok : goal.returns-in-Ok
returns-in-Ok g c =
    let who = c.args.who.now in
    let name = c.args.name.now in
    let at = c.args.at in
    let most_asked = c.args.most in
    let most = c.min-max.ensures ∙ ap (λ n. min n c.args.most) c.saturating_sub.ensures in
    let told = rw most at c.in-Ok.ensures.told in
    record {
      raw = piece_given who name at most_asked c.in-Ok.bytes told;
      shown = read_gave who name at (asks_for most_asked at) c.in-Ok.bytes told;
      own = λ is. piece_own who name at most_asked (Ok (bytes_given c.in-Ok.bytes)) is told;
      pieces = piece_asks who name at most_asked (Ok (bytes_given c.in-Ok.bytes)) c.requires told;
      few = rw most at c.in-Ok.ensures.most;
      last = adds_as (LastFailed {T = Option (List ℕ)} (Ok (Some c.in-Ok.bytes))) told (λ a history calls. tt);
      cause = c.in-Ok.ensures.cause;
    }

pub returns-in-Err-Missing : goal.returns-in-Err-Missing
returns-in-Err-Missing g c =
    let who = c.args.who.now in
    let name = c.args.name.now in
    let at = c.args.at in
    let most_asked = c.args.most in
    let most = c.min-max.ensures ∙ ap (λ n. min n c.args.most) c.saturating_sub.ensures in
    let told = rw most at (rw c.in-Err-Missing.field-0-is at c.in-Err-Missing.ensures.told) in
    record {
      raw = piece_missing who name at most_asked told;
      shown = read_missing who name at (asks_for most_asked at) told;
      own = λ is. piece_own who name at most_asked (Err Missing) is told;
      pieces = piece_asks who name at most_asked (Err Missing) c.requires told;
      few = tt;
      last = adds_as (LastFailed {T = Option (List ℕ)} (Ok None)) told (λ a history calls. tt);
      cause = rw c.in-Err-Missing.field-0-is at c.in-Err-Missing.ensures.cause;
    }

pub returns-in-Err-Failed : goal.returns-in-Err-Failed
returns-in-Err-Failed g c =
    let who = c.args.who.now in
    let name = c.args.name.now in
    let at = c.args.at in
    let most_asked = c.args.most in
    let most = c.min-max.ensures ∙ ap (λ n. min n c.args.most) c.saturating_sub.ensures in
    let told = rw most at (rw c.in-Err-Failed.field-0-is at c.in-Err-Failed.ensures.told) in
    record {
      raw = not_read name at most_asked (Outside Read) told;
      shown = read_failed name at (asks_for most_asked at) (Outside Read) told;
      own = λ is. piece_own who name at most_asked (Err Failed) is told;
      pieces = piece_asks who name at most_asked (Err Failed) c.requires told;
      few = tt;
      last = adds_as (LastFailed {T = Option (List ℕ)} (Err (Outside Read))) told
          (λ a history calls. ends_last (Option (List ℕ)) bytes_given (Err Failed) (Outside Read) refl calls);
      cause = rw c.in-Err-Failed.field-0-is at c.in-Err-Failed.ensures.cause;
    }

pub returns-in-Err-NoMemory : goal.returns-in-Err-NoMemory
returns-in-Err-NoMemory g c =
    let who = c.args.who.now in
    let name = c.args.name.now in
    let at = c.args.at in
    let most_asked = c.args.most in
    let most = c.min-max.ensures ∙ ap (λ n. min n c.args.most) c.saturating_sub.ensures in
    let told = rw most at (rw c.in-Err-NoMemory.field-0-is at c.in-Err-NoMemory.ensures.told) in
    record {
      raw = not_read name at most_asked no_memory told;
      shown = read_failed name at (asks_for most_asked at) no_memory told;
      own = λ is. piece_own who name at most_asked (Err NoMemory) is told;
      pieces = piece_asks who name at most_asked (Err NoMemory) c.requires told;
      few = tt;
      last = adds_as (LastFailed {T = Option (List ℕ)} (Err no_memory)) told (λ a history calls. tt);
      cause = rw c.in-Err-NoMemory.field-0-is at c.in-Err-NoMemory.ensures.cause;
    }

pub returns-in-Err-Short : goal.returns-in-Err-Short
returns-in-Err-Short g c =
    let who = c.args.who.now in
    let name = c.args.name.now in
    let at = c.args.at in
    let most_asked = c.args.most in
    let most = c.min-max.ensures ∙ ap (λ n. min n c.args.most) c.saturating_sub.ensures in
    let size = c.in-Err-Short.field-0-0 in
    let told = rw most at (rw c.in-Err-Short.field-0-is at c.in-Err-Short.ensures.told) in
    rw c.new.ensures
    (record {
      raw = piece_short who name at most_asked size told;
      shown = read_short who name at (asks_for most_asked at) size told;
      own = λ is. piece_own who name at most_asked (Err (Short size)) is told;
      pieces = piece_asks who name at most_asked (Err (Short size)) c.requires told;
      few = omega arith;
      last = adds_as (LastFailed {T = Option (List ℕ)} (Ok (Some []))) told (λ a history calls. tt);
      cause = rw c.in-Err-Short.field-0-is at c.in-Err-Short.ensures.cause;
    })
