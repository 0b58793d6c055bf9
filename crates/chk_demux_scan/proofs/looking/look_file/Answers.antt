use Rattle.std.proofs.Common.{ℕ, ◌<◌, ◌++◌, [], length, map, List, Bool, Ok, Err, refl, sym, ◌∙◌, subst, arith}
use Rattle.std.proofs.lemmas.Result.{err_from_is_err_and}
use Rattle.chk_site.specs.History.{Every}
use Rattle.chk_site.proofs.Runs.{adds_none}
use Rattle.chk_chunk.specs.Keys.{chunk_limit}
use Rattle.chk_world.specs.JobSteps.{IsOf, ReadsFile}
use Rattle.chk_record_index.specs.declared.fault.JobFault.TheVariants.{NoMemory}
use Rattle.chk_record_index.specs.Pieces.{AsksInPieces}
use Rattle.chk_record_index.proofs.Gathering.{begins, every_then, fails_then, no_failure}
use Rattle.chk_book.specs.Views.{end_view}
use Rattle.chk_demux_scan.specs.Looking.{LookedFed}
use Rattle.chk_demux_scan.proofs.FileLooks.{looks_begin, fed_on, piece_on, piece_room, piece_fits, file_ended, file_shown, not_chunks, not_looked, not_shown}
use Rattle.chk_demux_scan.proofs.looking.look_file.Goals as goal

pub loop-pieces-init : goal.loop-pieces-init
loop-pieces-init g c = record {
  seen = [];
  so = begins (g.S.Site.told c.args.site.now) c.args.name.now chunk_limit c.args.file
      c.new-pieces.result [] c.new-pieces.ensures.limit c.new-pieces.ensures.fed;
  looks = λ rise.
      looks_begin (map end_view c.args.ends.now) c.args.places.now c.args.heads.now
      c.args.look.now c.requires.first c.requires.none;
  same = c.requires.spans;
  own = adds_none (g.S.Site.told c.args.site.now) (Every (IsOf ReadsFile)) (λ history. tt);
  pieces = adds_none (g.S.Site.told c.args.site.now) (Every AsksInPieces) (λ history. tt);
  count = refl;
}

-- the file isn't one of chunks
pub returns-then-not-branch-clause-raw : goal.returns-then-not-branch-clause-raw
returns-then-not-branch-clause-raw g c = λ f rise small.
    let es = map end_view c.args.ends.now in
    let fed = subst
    (λ b. LookedFed b es c.args.places.now c.args.file c.loop-pieces.pieces
    c.look_fed.new.pieces c.loop-pieces.heads c.loop-pieces.look c.look_fed.new.heads
    c.look_fed.new.look) c.if-not-branch.true c.in_ok-look_fed.ensures.ok in
    not_chunks (g.S.Site.told c.args.site.now) (g.S.Site.told c.loop-pieces.site)
    c.args.name.now c.args.file c.loop-pieces.pieces c.look_fed.new.pieces c.loop-pieces.at
    c.loop-pieces.invariant.seen c.loop-pieces.invariant.so fed.0 fed.1 es c.args.places.now
    c.args.heads.now c.look_fed.new.heads c.look_fed.new.look f small

-- a read that failed
pub returns-in_err-piece-clause-raw : goal.returns-in_err-piece-clause-raw
returns-in_err-piece-clause-raw g c = λ f rise small.
    let p = err_from_is_err_and c.from_residual-in_err-piece.result
    c.from_residual-in_err-piece.ensures.1 in
    rw p.1
    (not_looked (map end_view c.args.ends.now) c.args.places.now c.args.name.now c.args.file
    c.args.heads.now c.look_fed.new.heads c.look_fed.new.look p.0 f
    (every_then AsksInPieces c.loop-pieces.invariant.pieces c.in_err-piece.ensures.pieces))

pub returns-in_err-piece-clause-shown : goal.returns-in_err-piece-clause-shown
returns-in_err-piece-clause-shown g c = λ rise.
    let p = err_from_is_err_and c.from_residual-in_err-piece.result
    c.from_residual-in_err-piece.ensures.1 in
    rw p.1
    (not_shown (map end_view c.args.ends.now) c.args.places.now c.args.name.now c.args.file
    c.args.heads.now c.look_fed.new.heads c.look_fed.new.look (Err p.0)
    (every_then AsksInPieces c.loop-pieces.invariant.pieces c.in_err-piece.ensures.pieces)
    (λ added history. tt))

pub returns-in_err-piece-clause-own : goal.returns-in_err-piece-clause-own
returns-in_err-piece-clause-own g c =
    every_then (IsOf ReadsFile) c.loop-pieces.invariant.own c.in_err-piece.ensures.own

pub returns-in_err-piece-clause-pieces : goal.returns-in_err-piece-clause-pieces
returns-in_err-piece-clause-pieces g c =
    every_then AsksInPieces c.loop-pieces.invariant.pieces c.in_err-piece.ensures.pieces

pub returns-in_err-piece-clause-last : goal.returns-in_err-piece-clause-last
returns-in_err-piece-clause-last g c =
    let p = err_from_is_err_and c.from_residual-in_err-piece.result
    c.from_residual-in_err-piece.ensures.1 in
    rw (p.1, p.2)
    (fails_then Bool (List ℕ) c.in_err-piece.field-0.0 c.loop-pieces.invariant.pieces
    c.in_err-piece.ensures.last)

-- the end
pub returns-then-len-eq0-clause-raw : goal.returns-then-len-eq0-clause-raw
returns-then-len-eq0-clause-raw g c = λ f rise small.
    let es = map end_view c.args.ends.now in
    let fed = subst
    (λ b. LookedFed b es c.args.places.now c.args.file c.loop-pieces.pieces
    c.look_fed.new.pieces c.loop-pieces.heads c.loop-pieces.look c.look_fed.new.heads
    c.look_fed.new.look) c.if-not-branch.false c.in_ok-look_fed.ensures.ok in
    file_ended (g.S.Site.told c.args.site.now) (g.S.Site.told c.loop-pieces.site)
    (g.S.Site.told c.piece_at.new.site) c.args.name.now c.args.file c.loop-pieces.pieces
    c.loop-pieces.at c.loop-pieces.invariant.seen c.loop-pieces.invariant.so
    c.look_fed.new.pieces fed.0 c.look_fed.ensures.limit fed.1 c.in_ok-piece.piece
    c.in_ok-piece.ensures.raw c.in_ok-piece.ensures.shown es
    c.args.places.now c.args.heads.now c.look_fed.new.heads c.look_fed.new.look
    (sym c.len.ensures ∙ c.if-len-eq0.true)
    (fed.2 rise c.loop-pieces.invariant.seen c.args.heads.now (c.loop-pieces.invariant.looks rise))
    c.unfinished.result c.is_none.result c.is_none.ensures c.unfinished.ensures f small

pub returns-then-len-eq0-clause-shown : goal.returns-then-len-eq0-clause-shown
returns-then-len-eq0-clause-shown g c = λ rise.
    let es = map end_view c.args.ends.now in
    let fed = subst
    (λ b. LookedFed b es c.args.places.now c.args.file c.loop-pieces.pieces
    c.look_fed.new.pieces c.loop-pieces.heads c.loop-pieces.look c.look_fed.new.heads
    c.look_fed.new.look) c.if-not-branch.false c.in_ok-look_fed.ensures.ok in
    file_shown (g.S.Site.told c.args.site.now) (g.S.Site.told c.loop-pieces.site)
    (g.S.Site.told c.piece_at.new.site) c.args.name.now c.args.file c.loop-pieces.pieces
    c.loop-pieces.at c.loop-pieces.invariant.seen c.loop-pieces.invariant.so
    c.look_fed.new.pieces fed.0 c.look_fed.ensures.limit fed.1 c.in_ok-piece.piece
    c.in_ok-piece.ensures.raw c.in_ok-piece.ensures.shown es
    c.args.places.now c.args.heads.now c.look_fed.new.heads c.look_fed.new.look
    (sym c.len.ensures ∙ c.if-len-eq0.true)
    (fed.2 rise c.loop-pieces.invariant.seen c.args.heads.now (c.loop-pieces.invariant.looks rise))
    c.unfinished.result c.is_none.result c.is_none.ensures c.unfinished.ensures

pub returns-then-len-eq0-clause-own : goal.returns-then-len-eq0-clause-own
returns-then-len-eq0-clause-own g c =
    every_then (IsOf ReadsFile) c.loop-pieces.invariant.own c.in_ok-piece.ensures.own

pub returns-then-len-eq0-clause-pieces : goal.returns-then-len-eq0-clause-pieces
returns-then-len-eq0-clause-pieces g c =
    every_then AsksInPieces c.loop-pieces.invariant.pieces c.in_ok-piece.ensures.pieces

pub returns-then-len-eq0-clause-last : goal.returns-then-len-eq0-clause-last
returns-then-len-eq0-clause-last g c =
    no_failure {T = Bool} (Ok c.is_none.result) (λ call e. cc)
    (every_then AsksInPieces c.loop-pieces.invariant.pieces c.in_ok-piece.ensures.pieces)

-- what was read is fed
pub feed-requires : goal.feed-requires
feed-requires g c =
    let es = map end_view c.args.ends.now in
    let fed = subst
    (λ b. LookedFed b es c.args.places.now c.args.file c.loop-pieces.pieces
    c.look_fed.new.pieces c.loop-pieces.heads c.loop-pieces.look c.look_fed.new.heads
    c.look_fed.new.look) c.if-not-branch.false c.in_ok-look_fed.ensures.ok in
    rw c.as_slice.ensures
    (piece_fits (g.S.Site.told c.args.site.now) (g.S.Site.told c.loop-pieces.site)
    (g.S.Site.told c.piece_at.new.site) c.args.name.now c.args.file c.loop-pieces.pieces
    c.loop-pieces.at c.loop-pieces.invariant.seen c.loop-pieces.invariant.so
    c.look_fed.new.pieces fed.0 c.look_fed.ensures.limit fed.1 c.in_ok-piece.piece
    c.in_ok-piece.ensures.raw c.in_ok-piece.ensures.shown
    c.in_ok-piece.ensures.few)

-- no memory for it
pub returns-in_err-feed-clause-raw : goal.returns-in_err-feed-clause-raw
returns-in_err-feed-clause-raw g c = λ f rise small.
    let p = err_from_is_err_and c.from_residual-in_err-feed.result
    c.from_residual-in_err-feed.ensures.1 in
    rw p.1
    (not_looked (map end_view c.args.ends.now) c.args.places.now c.args.name.now c.args.file
    c.args.heads.now c.look_fed.new.heads c.look_fed.new.look p.0 f
    (every_then AsksInPieces c.loop-pieces.invariant.pieces c.in_ok-piece.ensures.pieces))

pub returns-in_err-feed-clause-shown : goal.returns-in_err-feed-clause-shown
returns-in_err-feed-clause-shown g c = λ rise.
    let p = err_from_is_err_and c.from_residual-in_err-feed.result
    c.from_residual-in_err-feed.ensures.1 in
    rw p.1
    (not_shown (map end_view c.args.ends.now) c.args.places.now c.args.name.now c.args.file
    c.args.heads.now c.look_fed.new.heads c.look_fed.new.look (Err p.0)
    (every_then AsksInPieces c.loop-pieces.invariant.pieces c.in_ok-piece.ensures.pieces)
    (λ added history. tt))

pub returns-in_err-feed-clause-own : goal.returns-in_err-feed-clause-own
returns-in_err-feed-clause-own g c =
    every_then (IsOf ReadsFile) c.loop-pieces.invariant.own c.in_ok-piece.ensures.own

pub returns-in_err-feed-clause-pieces : goal.returns-in_err-feed-clause-pieces
returns-in_err-feed-clause-pieces g c =
    every_then AsksInPieces c.loop-pieces.invariant.pieces c.in_ok-piece.ensures.pieces

pub returns-in_err-feed-clause-last : goal.returns-in_err-feed-clause-last
returns-in_err-feed-clause-last g c =
    let p = err_from_is_err_and c.from_residual-in_err-feed.result
    c.from_residual-in_err-feed.ensures.1 in
    rw (p.1, p.2)
    (no_failure {T = Bool} (Err NoMemory) (λ call e. cc)
    (every_then AsksInPieces c.loop-pieces.invariant.pieces c.in_ok-piece.ensures.pieces))

-- a piece more
pub loop-pieces-preserved : goal.loop-pieces-preserved
loop-pieces-preserved g c =
    let es = map end_view c.args.ends.now in
    let fed = subst
    (λ b. LookedFed b es c.args.places.now c.args.file c.loop-pieces.pieces
    c.look_fed.new.pieces c.loop-pieces.heads c.loop-pieces.look c.look_fed.new.heads
    c.look_fed.new.look) c.if-not-branch.false c.in_ok-look_fed.ensures.ok in
    let some : 0 < length c.in_ok-piece.piece =
    let a = c.len.ensures in let b = c.if-len-eq0.false in omega arith in
    let low = piece_room (g.S.Site.told c.args.site.now) (g.S.Site.told c.loop-pieces.site)
    (g.S.Site.told c.piece_at.new.site) c.args.name.now c.args.file c.loop-pieces.pieces
    c.loop-pieces.at c.loop-pieces.invariant.seen c.loop-pieces.invariant.so
    c.look_fed.new.pieces fed.0 c.look_fed.ensures.limit fed.1 c.in_ok-piece.piece
    c.in_ok-piece.ensures.raw c.in_ok-piece.ensures.shown
    c.in_ok-piece.ensures.few in
    record {
      seen = c.loop-pieces.invariant.seen ++ fed.0;
      so = piece_on (g.S.Site.told c.args.site.now) (g.S.Site.told c.loop-pieces.site)
          (g.S.Site.told c.piece_at.new.site) c.args.name.now c.args.file c.loop-pieces.pieces
          c.loop-pieces.at c.loop-pieces.invariant.seen c.loop-pieces.invariant.so
          c.look_fed.new.pieces fed.0 c.look_fed.ensures.limit fed.1 c.in_ok-piece.piece
          c.in_ok-piece.ensures.raw c.in_ok-piece.ensures.shown
          c.feed.new.self _ some
          (fed_on c.look_fed.new.pieces c.feed.new.self c.in_ok-piece.piece
          c.feed.ensures.same.2 (rw c.as_slice.ensures at c.in_ok-feed.ensures.fed))
          (omega (arith, c.len-in-loop-pieces.ensures))
          (omega (arith, low, c.len-in-loop-pieces.ensures)) c.feed.ensures.same.0;
      looks = λ rise.
          fed.2 rise c.loop-pieces.invariant.seen c.args.heads.now
          (c.loop-pieces.invariant.looks rise);
      same = c.look_fed.ensures.same;
      own = every_then (IsOf ReadsFile) c.loop-pieces.invariant.own c.in_ok-piece.ensures.own;
      pieces = every_then AsksInPieces c.loop-pieces.invariant.pieces
          c.in_ok-piece.ensures.pieces;
      count = c.in_ok-piece.ensures.cause ∙ c.loop-pieces.invariant.count;
    }
