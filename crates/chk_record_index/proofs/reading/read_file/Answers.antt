use Rattle.std.proofs.Common.{◌≡◌, ℕ, ◌+◌, ◌<◌, ◌∙◌, ◌++◌, length, length-append, refl, sym, ap, subst, arith, Ok, Err, Some, None, Option, List}
use Rattle.std.proofs.lemmas.Result.{err_from_is_err_and}
use Rattle.chk_site.specs.declared.acts.OutsideFault.TheVariants.{NoMemory as no_memory}
use Rattle.chk_site.specs.History.{Every}
use Rattle.chk_site.specs.Site.{LastFailed, OutsideCause}
use Rattle.chk_site.proofs.Runs.{adds_as, adds_none}
use Rattle.chk_world.specs.JobSteps.{IsOf, ReadsFile}
use Rattle.chk_record_index.specs.Pieces.{AsksInPieces}
use Rattle.chk_record_index.proofs.WholeReads.{load_begins, load_goes_on, load_ends, load_misses, not_loaded, loads_last}
use Rattle.chk_record_index.proofs.Gathering.{every_then}
use Rattle.chk_replace.specs.Load.{asks_at}
use Rattle.chk_record_index.proofs.Showing.{front_begins, front_more, front_ends, front_missed, front_failed}
use Rattle.chk_record_index.proofs.reading.read_file.Goals as goal

pub loop-bytes-init : goal.loop-bytes-init
loop-bytes-init g c =
    rw c.new-bytes.ensures
    (record {
      raw = λ file small. load_begins c.args.name.now file (g.S.Site.told c.args.site.now);
      shown = front_begins c.args.name.now (g.S.Site.told c.args.site.now);
      small = omega arith;
      own = λ is. adds_none (g.S.Site.told c.args.site.now) (Every (IsOf ReadsFile)) (λ history. tt);
      pieces = adds_none (g.S.Site.told c.args.site.now) (Every AsksInPieces) (λ history. tt);
      count = refl;
    })

pub returns-in_err-given : goal.returns-in_err-given
returns-in_err-given g c =
    let name = c.args.name.now in
    let fault = c.in_err-given.field-0.0 in
    let pieces = every_then AsksInPieces c.loop-bytes.invariant.pieces c.in_err-given.ensures.pieces in
    let p = err_from_is_err_and c.from_residual.result c.from_residual.ensures.1 in
    rw (p.1, p.2)
    (record {
      raw = λ file small. not_loaded name file fault pieces;
      shown = front_failed name fault pieces;
      own = λ is. every_then (IsOf ReadsFile) (c.loop-bytes.invariant.own is) (c.in_err-given.ensures.own is);
      pieces = pieces;
      last = loads_last (Option (List ℕ)) (Err fault) c.loop-bytes.invariant.pieces c.in_err-given.ensures.last;
      cause =
          subst (λ (n : ℕ). OutsideCause {T = Option (List ℕ)} n (g.S.Site.fault_count c.read_piece.new.site) (Err fault))
          c.loop-bytes.invariant.count c.in_err-given.ensures.cause;
    })

pub returns-in_default : goal.returns-in_default
returns-in_default g c =
    let name = c.args.name.now in
    let pieces = every_then AsksInPieces c.loop-bytes.invariant.pieces c.in_ok-given.ensures.pieces in
    record {
      raw = λ file small.
          load_misses name c.loop-bytes.bytes c.len.result file (c.loop-bytes.invariant.raw file small)
          (rw c.in_default.is at (c.in_ok-given.ensures.raw file));
      shown = front_missed name c.len.result (asks_at c.len.result) c.loop-bytes.invariant.shown (rw c.in_default.is at c.in_ok-given.ensures.shown);
      own = λ is. every_then (IsOf ReadsFile) (c.loop-bytes.invariant.own is) (c.in_ok-given.ensures.own is);
      pieces = pieces;
      last = adds_as (LastFailed {T = Option (List ℕ)} (Ok None)) pieces (λ a history x. tt);
      cause = c.in_ok-given.ensures.cause ∙ c.loop-bytes.invariant.count;
    }

pub returns-then-len-eq0 : goal.returns-then-len-eq0
returns-then-len-eq0 g c =
    let name = c.args.name.now in
    let bytes = c.loop-bytes.bytes in
    let empty : length c.in-Some.piece ≡ 0 = sym c.len-in-loop-bytes.ensures ∙ c.if-len-eq0.true in
    let pieces = every_then AsksInPieces c.loop-bytes.invariant.pieces c.in_ok-given.ensures.pieces in
    record {
      raw = λ file small.
          load_ends name bytes c.in-Some.piece c.len.result file c.len.ensures empty small (c.loop-bytes.invariant.raw file small)
          (rw c.in-Some.is at (c.in_ok-given.ensures.raw file));
      shown = front_ends name bytes c.in-Some.piece c.len.result (asks_at c.len.result) c.len.ensures c.loop-bytes.invariant.small empty (λ less. omega (arith, c.len.ensures))
          c.loop-bytes.invariant.shown (rw c.in-Some.is at c.in_ok-given.ensures.shown);
      own = λ is. every_then (IsOf ReadsFile) (c.loop-bytes.invariant.own is) (c.in_ok-given.ensures.own is);
      pieces = pieces;
      last = adds_as (LastFailed {T = Option (List ℕ)} (Ok (Some bytes))) pieces (λ a history x. tt);
      cause = c.in_ok-given.ensures.cause ∙ c.loop-bytes.invariant.count;
    }

pub returns-in_err-push_all : goal.returns-in_err-push_all
returns-in_err-push_all g c =
    let name = c.args.name.now in
    let pieces = every_then AsksInPieces c.loop-bytes.invariant.pieces c.in_ok-given.ensures.pieces in
    let p = err_from_is_err_and c.from_residual-in_err-push_all.result c.from_residual-in_err-push_all.ensures.1 in
    rw (p.1, p.2)
    (record {
      raw = λ file small. not_loaded name file no_memory pieces;
      shown = front_failed name no_memory pieces;
      own = λ is. every_then (IsOf ReadsFile) (c.loop-bytes.invariant.own is) (c.in_ok-given.ensures.own is);
      pieces = pieces;
      last = adds_as (LastFailed {T = Option (List ℕ)} (Err no_memory)) pieces (λ a history x. tt);
      cause = c.in_ok-given.ensures.cause ∙ c.loop-bytes.invariant.count;
    })

pub loop-bytes-smaller : goal.loop-bytes-smaller
loop-bytes-smaller g c =
    let bytes = c.loop-bytes.bytes in
    let more : c.push_all.new.self ≡ bytes ++ c.in-Some.piece = rw c.as_slice.ensures at c.in_ok-push_all.ensures.ok in
    let sum : length c.push_all.new.self ≡ length bytes + length c.in-Some.piece = ap length more ∙ length-append bytes c.in-Some.piece in
    let here : c.len.result ≡ length bytes = c.len.ensures in
    let some : c.len-in-loop-bytes.result ≡ length c.in-Some.piece = c.len-in-loop-bytes.ensures in
    omega arith

pub loop-bytes-preserved : goal.loop-bytes-preserved
loop-bytes-preserved g c =
    let name = c.args.name.now in
    let bytes = c.loop-bytes.bytes in
    let more : c.push_all.new.self ≡ bytes ++ c.in-Some.piece = rw c.as_slice.ensures at c.in_ok-push_all.ensures.ok in
    let some : 0 < length c.in-Some.piece = let a = c.len-in-loop-bytes.ensures in let b = c.if-len-eq0.false in omega arith in
    rw more
    (record {
      raw = λ file small.
          load_goes_on name bytes c.in-Some.piece c.len.result file c.len.ensures (c.loop-bytes.invariant.raw file small)
          (rw c.in-Some.is at (c.in_ok-given.ensures.raw file));
      shown = front_more name bytes c.in-Some.piece c.len.result (asks_at c.len.result) c.len.ensures some
          c.loop-bytes.invariant.shown (rw c.in-Some.is at c.in_ok-given.ensures.shown);
      small = let few = rw c.in-Some.is at c.in_ok-given.ensures.few in omega (arith, few, c.loop-bytes.invariant.small, c.len.ensures, length-append bytes c.in-Some.piece);
      own = λ is. every_then (IsOf ReadsFile) (c.loop-bytes.invariant.own is) (c.in_ok-given.ensures.own is);
      pieces = every_then AsksInPieces c.loop-bytes.invariant.pieces c.in_ok-given.ensures.pieces;
      count = c.in_ok-given.ensures.cause ∙ c.loop-bytes.invariant.count;
    })
