use Rattle.std.proofs.Common.{◌≡◌, ◌∙◌, ◌<◌, ◌≤◌, ◌-◌, ℕ, length, map, drop, get_or, true, false, refl, ap, sym, subst, arith}
use Rattle.std.proofs.lemmas.Result.{err_from_is_err_and}
use Rattle.std.proofs.lemmas.List.{length-map}
use Rattle.chk_site.specs.History.{Every}
use Rattle.chk_site.specs.Site.{Adds}
use Rattle.chk_site.specs.Runs.{anyhow, Leads}
use Rattle.chk_site.proofs.Runs.{adds_none}
use Rattle.chk_world.specs.JobSteps.{IsOf, ReadsFile}
use Rattle.chk_record_index.specs.Pieces.{AsksInPieces}
use Rattle.chk_record_index.proofs.Gathering.{every_then}
use Rattle.std.specs.Prelude.{Bool}
use Rattle.chk_book.specs.declared.lists.End.{End as EndStruct}
use Rattle.chk_book.specs.Views.{end_view}
use Rattle.chk_record_reader.specs.Segments.{HasFiles, SparesFiles}
use Rattle.chk_record_reader.proofs.AllGathered.{fails_later}
use Rattle.chk_demux_scan.specs.Newest.{heads_behind, SoFar, ShowsFrom}
use Rattle.chk_demux_scan.proofs.Backwards.{none_taken}
use Rattle.chk_demux_scan.proofs.OneFile.{none_failed}
use Rattle.chk_demux_scan.proofs.Steps.{reach_yes, reach_no, places_far, so_far_first, all_read, no_more, one_more, one_wrong, not_read}
use Rattle.chk_demux_scan.proofs.ShownBack.{show_first, show_next, show_done, show_none, show_end, show_failed}
use Rattle.chk_demux_scan.proofs.reading.read_back.Goals as goal

pub loop-index-init : goal.loop-index-init
loop-index-init g c =
    let es = map end_view c.args.ends.now in
    let names = c.args.names.now in
    let now = g.S.Site.told c.args.site.now in
    let n = length names in
    let begins = c.args.begins.now.items in
    record {
      low = omega arith;
      same = ap length c.requires.begins ∙ length-map c.args.ends.now (λ (e : EndStruct). e.end);
      so_far = λ held k rise low settled.
          subst (λ hs. Adds now now (Leads (anyhow (SparesFiles (drop k names)))
          (HasFiles (drop k names) held)
          (SoFar es c.args.places.now names held k n hs begins))) (sym c.requires.heads)
          (so_far_first es c.args.places.now names held k n begins now refl low
          (none_taken c.args.ends.now begins c.requires.begins));
      shown = λ rise.
          subst (λ hs. Adds now now (ShowsFrom es c.args.places.now names n hs begins))
          (sym c.requires.heads)
          (show_first es c.args.places.now names n begins now refl
          (none_taken c.args.ends.now begins c.requires.begins));
      own = adds_none now (Every (IsOf ReadsFile)) (λ history. tt);
      pieces = adds_none now (Every AsksInPieces) (λ history. tt);
      count = refl;
    }

-- ---- all that is needed was read

pub returns-then-reach_places-clause-raw : goal.returns-then-reach_places-clause-raw
returns-then-reach_places-clause-raw g c held k rise low settled =
    let es = map end_view c.args.ends.now in
    let places = c.args.places.now in
    let names = c.args.names.now in
    let i = c.loop-index.index in
    let begins = c.loop-index.begins.items in
    let some = c.loop-index-test.true in
    let inv = c.loop-index.invariant in
    let same : length begins ≡ length es = inv.same ∙ sym (length-map c.args.ends.now end_view) in
    all_read es places names held k i inv.low c.loop-index.heads begins
    (inv.so_far held k rise low settled)
    (λ are. places_far es places i (heads_behind held names i) some
    (reach_yes es (heads_behind held names i) begins same are places
    (subst (λ bs. (n : ℕ) → n < length bs → get_or bs n 0 ≤ get_or places n 0)
    c.deref.ensures.value
    (c.if-reach_places.ensures.yes refl))))

pub returns-then-reach_places-clause-shown : goal.returns-then-reach_places-clause-shown
returns-then-reach_places-clause-shown g c rise =
    let inv = c.loop-index.invariant in
    show_done (map end_view c.args.ends.now) c.args.places.now c.args.names.now
    c.loop-index.index c.loop-index.heads
    c.loop-index.begins.items inv.low (inv.shown rise)

pub returns-then-reach_places-clause-own : goal.returns-then-reach_places-clause-own
returns-then-reach_places-clause-own g c = c.loop-index.invariant.own

pub returns-then-reach_places-clause-pieces : goal.returns-then-reach_places-clause-pieces
returns-then-reach_places-clause-pieces g c = c.loop-index.invariant.pieces

pub returns-then-reach_places-clause-last : goal.returns-then-reach_places-clause-last
returns-then-reach_places-clause-last g c = none_failed true c.loop-index.invariant.pieces

pub returns-then-reach_places-clause-cause : goal.returns-then-reach_places-clause-cause
returns-then-reach_places-clause-cause g c = c.loop-index.invariant.count

-- ---- a refusal

pub returns-in_err-take_next-clause-raw : goal.returns-in_err-take_next-clause-raw
returns-in_err-take_next-clause-raw g c held k rise low settled =
    let p = err_from_is_err_and c.from_residual.result c.from_residual.ensures.1 in
    rw (p.1, p.2)
    (not_read (map end_view c.args.ends.now) c.args.places.now c.args.names.now held k
    c.take_next.new.heads
    c.in_err-take_next.field-0.0
    (every_then AsksInPieces c.loop-index.invariant.pieces c.in_err-take_next.ensures.pieces))

pub returns-in_err-take_next-clause-shown : goal.returns-in_err-take_next-clause-shown
returns-in_err-take_next-clause-shown g c rise =
    let p = err_from_is_err_and c.from_residual.result c.from_residual.ensures.1 in
    rw (p.1, p.2)
    (show_failed (map end_view c.args.ends.now) c.args.places.now c.args.names.now
    c.take_next.new.heads c.in_err-take_next.field-0.0
    (every_then AsksInPieces c.loop-index.invariant.pieces c.in_err-take_next.ensures.pieces))

pub returns-in_err-take_next-clause-own : goal.returns-in_err-take_next-clause-own
returns-in_err-take_next-clause-own g c =
    every_then (IsOf ReadsFile) c.loop-index.invariant.own c.in_err-take_next.ensures.own

pub returns-in_err-take_next-clause-pieces : goal.returns-in_err-take_next-clause-pieces
returns-in_err-take_next-clause-pieces g c =
    every_then AsksInPieces c.loop-index.invariant.pieces c.in_err-take_next.ensures.pieces

pub returns-in_err-take_next-clause-last : goal.returns-in_err-take_next-clause-last
returns-in_err-take_next-clause-last g c =
    let p = err_from_is_err_and c.from_residual.result c.from_residual.ensures.1 in
    rw (p.1, p.2)
    (fails_later Bool Bool c.in_err-take_next.field-0.0 c.loop-index.invariant.pieces
    c.in_err-take_next.ensures.last)

-- ---- what was read is wrong

pub returns-then-not-branch-clause-raw : goal.returns-then-not-branch-clause-raw
returns-then-not-branch-clause-raw g c held k rise low settled =
    let es = map end_view c.args.ends.now in
    let places = c.args.places.now in
    let names = c.args.names.now in
    let i = c.loop-index.index in
    let w = c.as_str.result.now in
    let begins = c.loop-index.begins.items in
    let some = c.loop-index-test.true in
    let inv = c.loop-index.invariant in
    let high = inv.low in
    let same : length begins ≡ length es = inv.same ∙ sym (length-map c.args.ends.now end_view) in
    one_wrong es places names held (i - 1) i w (omega (arith, some)) (omega (arith, some, high))
    (subst (λ x. get_or names (i - 1) x ≡ x) (sym c.as_str.ensures.text)
    (sym c.index-names-index.is))
    k settled c.loop-index.heads c.take_next.new.heads begins
    (λ are. reach_no es (heads_behind held names i) begins same are places
    (λ passes. c.if-reach_places.ensures.no refl
    (subst (λ bs. (n : ℕ) → n < length bs → get_or bs n 0 ≤ get_or places n 0)
    (sym c.deref.ensures.value) passes)))
    (inv.so_far held k rise low settled) c.in_ok-take_next.ensures.own
    c.take_next.new.begins.items c.in_ok-take_next.field-0 c.if-not-branch.true
    (λ f small. c.in_ok-take_next.ensures.raw f rise small)

pub returns-then-not-branch-clause-shown : goal.returns-then-not-branch-clause-shown
returns-then-not-branch-clause-shown g c rise =
    show_none (map end_view c.args.ends.now) c.args.places.now c.args.names.now
    c.take_next.new.heads
    (every_then AsksInPieces c.loop-index.invariant.pieces c.in_ok-take_next.ensures.pieces)

pub returns-then-not-branch-clause-own : goal.returns-then-not-branch-clause-own
returns-then-not-branch-clause-own g c =
    every_then (IsOf ReadsFile) c.loop-index.invariant.own c.in_ok-take_next.ensures.own

pub returns-then-not-branch-clause-pieces : goal.returns-then-not-branch-clause-pieces
returns-then-not-branch-clause-pieces g c =
    every_then AsksInPieces c.loop-index.invariant.pieces c.in_ok-take_next.ensures.pieces

pub returns-then-not-branch-clause-last : goal.returns-then-not-branch-clause-last
returns-then-not-branch-clause-last g c =
    none_failed false (every_then AsksInPieces c.loop-index.invariant.pieces
    c.in_ok-take_next.ensures.pieces)

-- ---- one file more is read

pub loop-index-preserved : goal.loop-index-preserved
loop-index-preserved g c =
    let es = map end_view c.args.ends.now in
    let places = c.args.places.now in
    let names = c.args.names.now in
    let i = c.loop-index.index in
    let w = c.as_str.result.now in
    let heads = c.loop-index.heads in
    let more = c.take_next.new.heads in
    let begins = c.loop-index.begins.items in
    let after = c.take_next.new.begins.items in
    let some = c.loop-index-test.true in
    let inv = c.loop-index.invariant in
    let high = inv.low in
    let same : length begins ≡ length es = inv.same ∙ sym (length-map c.args.ends.now end_view) in
    let there : get_or names (i - 1) w ≡ w =
    subst (λ x. get_or names (i - 1) x ≡ x) (sym c.as_str.ensures.text)
    (sym c.index-names-index.is) in
    record {
      low = omega (arith, some, high);
      same = c.in_ok-take_next.ensures.same;
      so_far = λ held k rise low settled.
          one_more es places names held (i - 1) i w (omega (arith, some))
          (omega (arith, some, high)) there
          k settled heads more begins
          (λ are. reach_no es (heads_behind held names i) begins same are places
          (λ passes. c.if-reach_places.ensures.no refl
          (subst (λ bs. (n : ℕ) → n < length bs → get_or bs n 0 ≤ get_or places n 0)
          (sym c.deref.ensures.value) passes)))
          (inv.so_far held k rise low settled) c.in_ok-take_next.ensures.own
          after c.in_ok-take_next.field-0 c.if-not-branch.false
          (λ f small. c.in_ok-take_next.ensures.raw f rise small);
      shown = λ rise.
          show_next es places names (i - 1) i w heads more begins after c.in_ok-take_next.field-0
          c.if-not-branch.false
          (omega (arith, some)) (omega (arith, some, high)) there
          (inv.shown rise) (c.in_ok-take_next.ensures.shown rise);
      own = every_then (IsOf ReadsFile) inv.own c.in_ok-take_next.ensures.own;
      pieces = every_then AsksInPieces inv.pieces c.in_ok-take_next.ensures.pieces;
      count = c.in_ok-take_next.ensures.cause ∙ inv.count;
    }

-- ---- all files are read

pub returns-clause-raw : goal.returns-clause-raw
returns-clause-raw g c held k rise low settled =
    let ends = c.args.ends.now in
    let es = map end_view ends in
    let begins = c.loop-index.begins.items in
    let inv = c.loop-index.invariant in
    let none = c.loop-index-test.false in
    let count = length-map ends end_view in
    let same : length begins ≡ length es = inv.same ∙ sym count in
    no_more es c.args.places.now c.args.names.now held k c.loop-index.index inv.low
    c.loop-index.heads begins
    (inv.so_far held k rise low settled) (omega (arith, none)) same c.reach_starts.result
    (λ so n below. ap (λ bs. get_or bs n 0) (sym c.deref-2.ensures.value)
    ∙ c.reach_starts.ensures.yes so n (omega (arith, below, count)))
    (λ so reach. c.reach_starts.ensures.no so
    (λ n below. ap (λ bs. get_or bs n 0) c.deref-2.ensures.value
    ∙ reach n (omega (arith, below, count))))

pub returns-clause-shown : goal.returns-clause-shown
returns-clause-shown g c rise =
    let inv = c.loop-index.invariant in
    show_end (map end_view c.args.ends.now) c.args.places.now c.args.names.now
    c.loop-index.index c.loop-index.heads
    c.loop-index.begins.items c.reach_starts.result inv.low (inv.shown rise)

pub returns-clause-own : goal.returns-clause-own
returns-clause-own g c = c.loop-index.invariant.own

pub returns-clause-pieces : goal.returns-clause-pieces
returns-clause-pieces g c = c.loop-index.invariant.pieces

pub returns-clause-last : goal.returns-clause-last
returns-clause-last g c = none_failed c.reach_starts.result c.loop-index.invariant.pieces
