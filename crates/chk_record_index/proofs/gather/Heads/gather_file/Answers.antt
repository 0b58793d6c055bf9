use Rattle.std.proofs.Common.{ℕ, ◌+◌, ◌<◌, length, List, Err, refl, sym, ◌∙◌, arith}
use Rattle.std.proofs.lemmas.Result.{err_from_is_err_and}
use Rattle.chk_site.specs.declared.acts.OutsideFault.TheVariants.{NoMemory as no_memory}
use Rattle.chk_site.specs.History.{Every}
use Rattle.chk_site.proofs.Runs.{adds_none}
use Rattle.chk_salvage.specs.Feeding.{fed_place}
use Rattle.chk_world.specs.JobSteps.{IsOf, ReadsFile}
use Rattle.chk_record_index.specs.declared.fault.JobFault.TheVariants.{NoMemory}
use Rattle.chk_record_index.specs.Pieces.{AsksInPieces}
use Rattle.chk_record_index.proofs.Gathering.{begins, goes_on, further, room, room_fed, is_spoiled, shows_spoiled, is_ended, shows_ended, shows_nothing, some_ends, every_then, not_gathered, fails_then, no_failure, ends_no_call}
use Rattle.chk_record_index.proofs.gather.Heads.gather_file.Goals as goal

pub loop-pieces-init : goal.loop-pieces-init
loop-pieces-init g c = record {
  so = begins (g.S.Site.told c.args.site.now) c.args.name.now c.args.most c.args.file c.new-pieces.result c.args.self.now c.new-pieces.ensures.limit c.new-pieces.ensures.fed;
  own = λ is. adds_none (g.S.Site.told c.args.site.now) (Every (IsOf ReadsFile)) (λ history. tt);
  pieces = adds_none (g.S.Site.told c.args.site.now) (Every AsksInPieces) (λ history. tt);
  count = refl;
}

-- the file is damaged
pub returns-in-Some-clause-raw : goal.returns-in-Some-clause-raw
returns-in-Some-clause-raw g c =
    is_spoiled (g.S.Site.told c.args.site.now) (g.S.Site.told c.loop-pieces.site) c.args.name.now c.args.most c.args.file
    c.loop-pieces.pieces c.loop-pieces.at c.args.self.now c.loop-pieces.self c.loop-pieces.invariant.so c.take_fed.new.self c.in-Some.place c.damaged.result
    (rw c.in-Some.is at c.in_ok-place.ensures.ok) c.damaged.ensures

pub returns-in-Some-clause-shown : goal.returns-in-Some-clause-shown
returns-in-Some-clause-shown g c =
    shows_spoiled (g.S.Site.told c.args.site.now) (g.S.Site.told c.loop-pieces.site) c.args.name.now c.args.most c.args.file
    c.loop-pieces.pieces c.loop-pieces.at c.args.self.now c.loop-pieces.self c.loop-pieces.invariant.so c.take_fed.new.self c.in-Some.place c.damaged.result
    (rw c.in-Some.is at c.in_ok-place.ensures.ok) c.damaged.ensures

-- no memory for the heads of what was fed
pub returns-in_err-place-clause-shown : goal.returns-in_err-place-clause-shown
returns-in_err-place-clause-shown g c =
    let p = err_from_is_err_and c.from_residual.result c.from_residual.ensures.1 in
    rw (p.1, p.2)
    (shows_nothing (Unit {0}) c.args.name.now c.args.most c.args.file c.args.self.now c.take_fed.new.self no_memory c.loop-pieces.invariant.pieces)

pub returns-in_err-last-clause-shown : goal.returns-in_err-last-clause-shown
returns-in_err-last-clause-shown g c =
    let p = err_from_is_err_and c.from_residual-in_err-last.result c.from_residual-in_err-last.ensures.1 in
    rw (p.1, p.2)
    (shows_nothing (Unit {0}) c.args.name.now c.args.most c.args.file c.args.self.now c.take_ahead.new.self no_memory c.loop-pieces.invariant.pieces)

pub returns-in_err-piece-clause-shown : goal.returns-in_err-piece-clause-shown
returns-in_err-piece-clause-shown g c =
    let p = err_from_is_err_and c.from_residual-in_err-piece.result c.from_residual-in_err-piece.ensures.1 in
    rw (p.1, p.2)
    (shows_nothing (Unit {0}) c.args.name.now c.args.most c.args.file c.args.self.now c.take_ahead.new.self c.in_err-piece.field-0.0
    (every_then AsksInPieces c.loop-pieces.invariant.pieces c.in_err-piece.ensures.pieces))

pub returns-in_err-feed_from-clause-shown : goal.returns-in_err-feed_from-clause-shown
returns-in_err-feed_from-clause-shown g c =
    let p = err_from_is_err_and c.from_residual-in_err-feed_from.result c.from_residual-in_err-feed_from.ensures.1 in
    rw (p.1, p.2)
    (shows_nothing (Unit {0}) c.args.name.now c.args.most c.args.file c.args.self.now c.take_ahead.new.self no_memory
    (every_then AsksInPieces c.loop-pieces.invariant.pieces c.in_ok-piece.ensures.pieces))

pub returns-then-len-eq0-clause-shown : goal.returns-then-len-eq0-clause-shown
returns-then-len-eq0-clause-shown g c =
    shows_ended (g.S.Site.told c.args.site.now) (g.S.Site.told c.loop-pieces.site) (g.S.Site.told c.read_bytes.new.site)
    c.args.name.now c.args.most c.args.file
    c.loop-pieces.pieces c.loop-pieces.at c.args.self.now c.loop-pieces.self c.loop-pieces.invariant.so c.take_fed.new.pieces c.take_fed.new.self
    c.take_ahead.new.self c.take_fed.ensures.limit (rw c.in_default.is at c.in_ok-place.ensures.ok) c.in_ok-last.last c.in_ok-last.ensures.ok
    c.amount.result c.in_ok-piece.piece (rw c.unwrap_or-from.ensures at c.in_ok-piece.ensures.raw)
    (rw c.unwrap_or-from.ensures at c.in_ok-piece.ensures.shown)
    c.ended.result (sym c.len.ensures ∙ c.if-len-eq0.true) c.amount.ensures.some c.ended.ensures

pub returns-in_err-place-clause-raw : goal.returns-in_err-place-clause-raw
returns-in_err-place-clause-raw g c =
    let p = err_from_is_err_and c.from_residual.result c.from_residual.ensures.1 in
    rw (p.1, p.2) (not_gathered c.args.name.now c.args.most c.args.file c.args.self.now c.take_fed.new.self no_memory c.loop-pieces.invariant.pieces)

pub returns-in_err-place-clause-own : goal.returns-in_err-place-clause-own
returns-in_err-place-clause-own g c = c.loop-pieces.invariant.own

pub returns-in_err-place-clause-pieces : goal.returns-in_err-place-clause-pieces
returns-in_err-place-clause-pieces g c = c.loop-pieces.invariant.pieces

pub returns-in_err-place-clause-last : goal.returns-in_err-place-clause-last
returns-in_err-place-clause-last g c =
    let p = err_from_is_err_and c.from_residual.result c.from_residual.ensures.1 in
    rw (p.1, p.2) (no_failure {T = Unit {0}} (Err NoMemory) (λ call e. cc) c.loop-pieces.invariant.pieces)

pub returns-in_err-place-clause-cause : goal.returns-in_err-place-clause-cause
returns-in_err-place-clause-cause g c =
    let p = err_from_is_err_and c.from_residual.result c.from_residual.ensures.1 in
    rw (p.1, p.2) c.loop-pieces.invariant.count

pub returns-in_err-last-clause-raw : goal.returns-in_err-last-clause-raw
returns-in_err-last-clause-raw g c =
    let p = err_from_is_err_and c.from_residual-in_err-last.result c.from_residual-in_err-last.ensures.1 in
    rw (p.1, p.2) (not_gathered c.args.name.now c.args.most c.args.file c.args.self.now c.take_ahead.new.self no_memory c.loop-pieces.invariant.pieces)

pub returns-in_err-last-clause-own : goal.returns-in_err-last-clause-own
returns-in_err-last-clause-own g c = c.loop-pieces.invariant.own

pub returns-in_err-last-clause-pieces : goal.returns-in_err-last-clause-pieces
returns-in_err-last-clause-pieces g c = c.loop-pieces.invariant.pieces

pub returns-in_err-last-clause-last : goal.returns-in_err-last-clause-last
returns-in_err-last-clause-last g c =
    let p = err_from_is_err_and c.from_residual-in_err-last.result c.from_residual-in_err-last.ensures.1 in
    rw (p.1, p.2) (no_failure {T = Unit {0}} (Err NoMemory) (λ call e. cc) c.loop-pieces.invariant.pieces)

pub returns-in_err-last-clause-cause : goal.returns-in_err-last-clause-cause
returns-in_err-last-clause-cause g c =
    let p = err_from_is_err_and c.from_residual-in_err-last.result c.from_residual-in_err-last.ensures.1 in
    rw (p.1, p.2) c.loop-pieces.invariant.count

pub returns-in_err-feed_from-clause-cause : goal.returns-in_err-feed_from-clause-cause
returns-in_err-feed_from-clause-cause g c =
    let p = err_from_is_err_and c.from_residual-in_err-feed_from.result c.from_residual-in_err-feed_from.ensures.1 in
    rw (p.1, p.2) (c.in_ok-piece.ensures.cause ∙ c.loop-pieces.invariant.count)

-- a read that failed
pub returns-in_err-piece-clause-raw : goal.returns-in_err-piece-clause-raw
returns-in_err-piece-clause-raw g c =
    let p = err_from_is_err_and c.from_residual-in_err-piece.result c.from_residual-in_err-piece.ensures.1 in
    rw (p.1, p.2)
    (not_gathered c.args.name.now c.args.most c.args.file c.args.self.now c.take_ahead.new.self c.in_err-piece.field-0.0
    (every_then AsksInPieces c.loop-pieces.invariant.pieces c.in_err-piece.ensures.pieces))

pub returns-in_err-piece-clause-own : goal.returns-in_err-piece-clause-own
returns-in_err-piece-clause-own g c = λ is. every_then (IsOf ReadsFile) (c.loop-pieces.invariant.own is) (c.in_err-piece.ensures.own is)

pub returns-in_err-piece-clause-pieces : goal.returns-in_err-piece-clause-pieces
returns-in_err-piece-clause-pieces g c = every_then AsksInPieces c.loop-pieces.invariant.pieces c.in_err-piece.ensures.pieces

pub returns-in_err-piece-clause-last : goal.returns-in_err-piece-clause-last
returns-in_err-piece-clause-last g c =
    let p = err_from_is_err_and c.from_residual-in_err-piece.result c.from_residual-in_err-piece.ensures.1 in
    rw (p.1, p.2) (fails_then (Unit {0}) (List ℕ) c.in_err-piece.field-0.0 c.loop-pieces.invariant.pieces c.in_err-piece.ensures.last)

-- the end
pub returns-then-len-eq0-clause-raw : goal.returns-then-len-eq0-clause-raw
returns-then-len-eq0-clause-raw g c =
    is_ended (g.S.Site.told c.args.site.now) (g.S.Site.told c.loop-pieces.site) (g.S.Site.told c.read_bytes.new.site)
    c.args.name.now c.args.most c.args.file
    c.loop-pieces.pieces c.loop-pieces.at c.args.self.now c.loop-pieces.self c.loop-pieces.invariant.so c.take_fed.new.pieces c.take_fed.new.self
    c.take_ahead.new.self c.take_fed.ensures.limit (rw c.in_default.is at c.in_ok-place.ensures.ok) c.in_ok-last.last c.in_ok-last.ensures.ok
    c.amount.result c.in_ok-piece.piece (rw c.unwrap_or-from.ensures at c.in_ok-piece.ensures.raw)
    (rw c.unwrap_or-from.ensures at c.in_ok-piece.ensures.shown)
    c.ended.result (sym c.len.ensures ∙ c.if-len-eq0.true) c.amount.ensures.some c.ended.ensures

pub returns-then-len-eq0-clause-own : goal.returns-then-len-eq0-clause-own
returns-then-len-eq0-clause-own g c = λ is. every_then (IsOf ReadsFile) (c.loop-pieces.invariant.own is) (c.in_ok-piece.ensures.own is)

pub returns-then-len-eq0-clause-pieces : goal.returns-then-len-eq0-clause-pieces
returns-then-len-eq0-clause-pieces g c = every_then AsksInPieces c.loop-pieces.invariant.pieces c.in_ok-piece.ensures.pieces

pub returns-then-len-eq0-clause-last : goal.returns-then-len-eq0-clause-last
returns-then-len-eq0-clause-last g c =
    no_failure c.ended.result
    (ends_no_call c.args.name.now c.loop-pieces.invariant.so.some (fed_place c.take_fed.new.pieces) c.ended.result
    (some_ends (g.S.Site.told c.args.site.now) (g.S.Site.told c.loop-pieces.site) (g.S.Site.told c.read_bytes.new.site)
    c.args.name.now c.args.most c.args.file
    c.loop-pieces.pieces c.loop-pieces.at c.args.self.now c.loop-pieces.self c.loop-pieces.invariant.so c.take_fed.new.pieces c.take_fed.new.self
    c.take_ahead.new.self c.take_fed.ensures.limit (rw c.in_default.is at c.in_ok-place.ensures.ok) c.in_ok-last.last c.in_ok-last.ensures.ok
    c.amount.result c.in_ok-piece.piece (rw c.unwrap_or-from.ensures at c.in_ok-piece.ensures.raw)
    (rw c.unwrap_or-from.ensures at c.in_ok-piece.ensures.shown)
    c.ended.result c.ended.ensures))
    (every_then AsksInPieces c.loop-pieces.invariant.pieces c.in_ok-piece.ensures.pieces)

-- what was read is fed
pub feed_from-requires-clause-room : goal.feed_from-requires-clause-room
feed_from-requires-clause-room g c =
    rw c.as_slice.ensures
    (room_fed (g.S.Site.told c.args.site.now) (g.S.Site.told c.loop-pieces.site) (g.S.Site.told c.read_bytes.new.site)
    c.args.name.now c.args.most c.args.file
    c.loop-pieces.pieces c.loop-pieces.at c.args.self.now c.loop-pieces.self c.loop-pieces.invariant.so c.take_fed.new.pieces c.take_fed.new.self
    c.take_ahead.new.self c.take_fed.ensures.limit (rw c.in_default.is at c.in_ok-place.ensures.ok) c.in_ok-last.last c.in_ok-last.ensures.ok
    c.amount.result c.in_ok-piece.piece (rw c.unwrap_or-from.ensures at c.in_ok-piece.ensures.raw)
    (rw c.unwrap_or-from.ensures at c.in_ok-piece.ensures.shown)
    (rw c.unwrap_or-from.ensures at c.in_ok-piece.ensures.few))

-- no memory for it
pub returns-in_err-feed_from-clause-raw : goal.returns-in_err-feed_from-clause-raw
returns-in_err-feed_from-clause-raw g c =
    let p = err_from_is_err_and c.from_residual-in_err-feed_from.result c.from_residual-in_err-feed_from.ensures.1 in
    rw (p.1, p.2)
    (not_gathered c.args.name.now c.args.most c.args.file c.args.self.now c.take_ahead.new.self no_memory
    (every_then AsksInPieces c.loop-pieces.invariant.pieces c.in_ok-piece.ensures.pieces))

pub returns-in_err-feed_from-clause-own : goal.returns-in_err-feed_from-clause-own
returns-in_err-feed_from-clause-own g c = λ is. every_then (IsOf ReadsFile) (c.loop-pieces.invariant.own is) (c.in_ok-piece.ensures.own is)

pub returns-in_err-feed_from-clause-pieces : goal.returns-in_err-feed_from-clause-pieces
returns-in_err-feed_from-clause-pieces g c = every_then AsksInPieces c.loop-pieces.invariant.pieces c.in_ok-piece.ensures.pieces

pub returns-in_err-feed_from-clause-last : goal.returns-in_err-feed_from-clause-last
returns-in_err-feed_from-clause-last g c =
    let p = err_from_is_err_and c.from_residual-in_err-feed_from.result c.from_residual-in_err-feed_from.ensures.1 in
    rw (p.1, p.2) (no_failure {T = Unit {0}} (Err NoMemory) (λ call e. cc) (every_then AsksInPieces c.loop-pieces.invariant.pieces c.in_ok-piece.ensures.pieces))

-- a piece more
pub loop-pieces-smaller : goal.loop-pieces-smaller
loop-pieces-smaller g c =
    let some : 0 < length c.in_ok-piece.piece = let a = c.len.ensures in let b = c.if-len-eq0.false in omega arith in
    let on =
    further (g.S.Site.told c.args.site.now) (g.S.Site.told c.loop-pieces.site) (g.S.Site.told c.read_bytes.new.site)
    c.args.name.now c.args.most c.args.file
    c.loop-pieces.pieces c.loop-pieces.at c.args.self.now c.loop-pieces.self c.loop-pieces.invariant.so c.take_fed.new.pieces c.take_fed.new.self
    c.take_ahead.new.self c.take_fed.ensures.limit (rw c.in_default.is at c.in_ok-place.ensures.ok) c.in_ok-last.last c.in_ok-last.ensures.ok
    c.amount.result c.in_ok-piece.piece (rw c.unwrap_or-from.ensures at c.in_ok-piece.ensures.raw)
    (rw c.unwrap_or-from.ensures at c.in_ok-piece.ensures.shown) some in
    omega (arith, on, c.unwrap_or-from.ensures, c.len-in-loop-pieces.ensures, c.loop-pieces.invariant.so.small)

pub loop-pieces-preserved : goal.loop-pieces-preserved
loop-pieces-preserved g c =
    let some : 0 < length c.in_ok-piece.piece = let a = c.len.ensures in let b = c.if-len-eq0.false in omega arith in
    let low =
    room (g.S.Site.told c.args.site.now) (g.S.Site.told c.loop-pieces.site) (g.S.Site.told c.read_bytes.new.site)
    c.args.name.now c.args.most c.args.file
    c.loop-pieces.pieces c.loop-pieces.at c.args.self.now c.loop-pieces.self c.loop-pieces.invariant.so c.take_fed.new.pieces c.take_fed.new.self
    c.take_ahead.new.self c.take_fed.ensures.limit (rw c.in_default.is at c.in_ok-place.ensures.ok) c.in_ok-last.last c.in_ok-last.ensures.ok
    c.amount.result c.in_ok-piece.piece (rw c.unwrap_or-from.ensures at c.in_ok-piece.ensures.raw)
    (rw c.unwrap_or-from.ensures at c.in_ok-piece.ensures.shown)
    (rw c.unwrap_or-from.ensures at c.in_ok-piece.ensures.few) in
    record {
      so = goes_on (g.S.Site.told c.args.site.now) (g.S.Site.told c.loop-pieces.site) (g.S.Site.told c.read_bytes.new.site)
          c.args.name.now c.args.most c.args.file
          c.loop-pieces.pieces c.loop-pieces.at c.args.self.now c.loop-pieces.self c.loop-pieces.invariant.so c.take_fed.new.pieces c.take_fed.new.self
          c.take_ahead.new.self c.take_fed.ensures.limit (rw c.in_default.is at c.in_ok-place.ensures.ok) c.in_ok-last.last c.in_ok-last.ensures.ok
          c.amount.result c.in_ok-piece.piece (rw c.unwrap_or-from.ensures at c.in_ok-piece.ensures.raw)
          (rw c.unwrap_or-from.ensures at c.in_ok-piece.ensures.shown)
          c.feed_from.new.pieces (c.unwrap_or-from.result + c.len-in-loop-pieces.result) some (rw c.as_slice.ensures at c.in_ok-feed_from.ensures.ok)
          (omega (arith, c.unwrap_or-from.ensures, c.len-in-loop-pieces.ensures)) (omega (arith, low, c.unwrap_or-from.ensures, c.len-in-loop-pieces.ensures))
          c.feed_from.ensures.limit;
      own = λ is. every_then (IsOf ReadsFile) (c.loop-pieces.invariant.own is) (c.in_ok-piece.ensures.own is);
      pieces = every_then AsksInPieces c.loop-pieces.invariant.pieces c.in_ok-piece.ensures.pieces;
      count = c.in_ok-piece.ensures.cause ∙ c.loop-pieces.invariant.count;
    }
