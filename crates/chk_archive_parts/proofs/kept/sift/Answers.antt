use Rattle.std.proofs.Common.{◌≡◌, ◌∙◌, ◌+◌, ◌<◌, ◌≤◌, List, Err, Bool, false, ap, sym, subst, refl, arith, length}
use Rattle.std.specs.Prelude.{slice_index_or}
use Rattle.std.proofs.lemmas.Result.{err_from_is_err_and}
use Rattle.std.proofs.lemmas.List.Elements.{All-drop, All-nil}
use Rattle.chk_site.specs.History.{Every}
use Rattle.chk_site.specs.Site.{Adds}
use Rattle.chk_site.specs.Runs.{anyhow, Leads}
use Rattle.chk_site.proofs.Runs.{adds_as, adds_none}
use Rattle.chk_site.proofs.Leads.{leads_none}
use Rattle.chk_world.specs.JobSteps.{IsOf, ReadsFile}
use Rattle.chk_record_index.specs.Faults.{FailsLast}
use Rattle.chk_record_index.specs.Pieces.{AsksInPieces}
use Rattle.chk_record_index.specs.declared.fault.JobFault.TheVariants.{NoMemory}
use Rattle.chk_record_index.proofs.Gathering.{every_then}
use Rattle.chk_record_reader.specs.Segments.{HasFiles, SparesFiles}
use Rattle.chk_archive_parts.specs.declared.cuts.Cut.{Cut}
use Rattle.chk_archive_parts.specs.Cuts.{AreWithin}
use Rattle.chk_archive_parts.specs.Gathering.{held}
use Rattle.chk_archive_parts.specs.Kept.{goes_on, group_of, value_in, CanFind, FoundSo}
use Rattle.chk_archive_parts.proofs.AllFiles.{fails_later}
use Rattle.chk_archive_parts.proofs.CutLists.{no_cut, nothing_windows}
use Rattle.chk_archive_parts.proofs.PastKept.{slice_is, group_low, whole_more, more_low, sift_ends, sift_on, sift_fails, sift_full, Sifted}
use Rattle.chk_archive_parts.proofs.KeptFirsts.{all_done, none_kept_of, more_kept_of, same_ok, none_left}
use Rattle.chk_archive_parts.proofs.Sifting.{sift_begins}
use Rattle.chk_site.specs.declared.acts.OutsideFault.TheVariants.{NoMemory as no_memory}
use Rattle.chk_record_index.proofs.Causes.{shows_then, shows_outside}
use Rattle.chk_record_reader.proofs.Causes.{late_gone_in}
use Rattle.chk_record_reader.specs.Gone.{IsGoneIn}
use Rattle.chk_archive_parts.proofs.kept.sift.Goals as goal

pub loop-place-init : goal.loop-place-init
loop-place-init g c =
    let site = g.S.Site.told c.args.site.now in
    rw c.new-cuts.ensures
    (record {
      raw = λ v cs records o.
          leads_none site
          (λ h k. (
            (
              k,
              nothing_windows v c.args.files.now c.new-old.result c.new-old.ensures,
              nothing_windows v c.args.files.now c.new-new.result c.new-new.ensures,
            ),
            sift_begins cs c.args.past.now,
          ));
      low = omega arith;
      whole = All-nil (λ (k : Cut). (k.index < length c.args.heads.now) × (k.skip ≡ 0));
      kept = none_kept_of c.args.heads.now c.args.past.now;
      own = adds_none site (Every (IsOf ReadsFile)) (λ history. tt);
      pieces = adds_none site (Every AsksInPieces) (λ history. tt);
      count = refl;
    })

pub is_found-requires-clause-known : goal.is_found-requires-clause-known
is_found-requires-clause-known g c =
    let l = c.loop-place in
    let n = c.group_at-group.result in
    let heads = c.args.heads.now in
    subst (AreWithin (length heads))
    (sym (slice_is c.as_slice-in-loop-place.result.now l.cuts n n c.as_slice-in-loop-place.ensures refl))
    (All-drop (λ (k : Cut). k.index < length heads) n l.cuts (λ i d low. (l.invariant.whole i d low).0))

pub returns-in_err-found-clause-raw : goal.returns-in_err-found-clause-raw
returns-in_err-found-clause-raw g c v cs records o =
    let p = err_from_is_err_and c.from_residual.result c.from_residual.ensures.1 in
    let l = c.loop-place in
    let files = c.args.files.now in
    let heads = c.args.heads.now in
    let past = c.args.past.now in
    let group = c.group_at-group.ensures
    ∙ ap (λ (x : List Cut). group_of (goes_on heads past l.place) l.group (length x)) c.as_slice.ensures in
    let n = group_of (goes_on heads past l.place) l.group (length l.cuts) in
    let s = c.is_found.new.old in
    let t = c.is_found.new.new in
    rw (p.1, p.2)
    (sift_fails v files heads cs records past c.requires.whole o l.old l.new l.cuts l.place l.group c.loop-place-test.true
    l.invariant.whole s t c.is_found.result (l.invariant.raw v cs records o)
    (subst (λ k. Adds (g.S.Site.told l.site) (g.S.Site.told c.is_found.new.site)
    (Leads (anyhow (SparesFiles files)) (CanFind v files l.old l.new)
    (FoundSo v files (value_in cs (slice_index_or past l.place no_cut).index) cs k s t c.is_found.result)))
    (slice_is c.as_slice-in-loop-place.result.now l.cuts c.group_at-group.result n c.as_slice-in-loop-place.ensures group)
    (c.is_found.ensures.raw v cs records))
    c.in_err-found.field-0.0 c.in_err-found.was)

pub returns-in_err-found-clause-own : goal.returns-in_err-found-clause-own
returns-in_err-found-clause-own g c = every_then (IsOf ReadsFile) c.loop-place.invariant.own c.is_found.ensures.own

pub returns-in_err-found-clause-pieces : goal.returns-in_err-found-clause-pieces
returns-in_err-found-clause-pieces g c = every_then AsksInPieces c.loop-place.invariant.pieces c.is_found.ensures.pieces

pub returns-in_err-found-clause-last : goal.returns-in_err-found-clause-last
returns-in_err-found-clause-last g c =
    let p = err_from_is_err_and c.from_residual.result c.from_residual.ensures.1 in
    rw (p.1, p.2)
    (fails_later Bool (List Cut) c.in_err-found.field-0.0 c.loop-place.invariant.pieces c.in_err-found.ensures.last)

pub returns-in_err-push_new-clause-raw : goal.returns-in_err-push_new-clause-raw
returns-in_err-push_new-clause-raw g c v cs records o =
    let p = err_from_is_err_and c.from_residual-in_err-push_new.result c.from_residual-in_err-push_new.ensures.1 in
    let l = c.loop-place in
    let files = c.args.files.now in
    let heads = c.args.heads.now in
    let past = c.args.past.now in
    let group = c.group_at-group.ensures
    ∙ ap (λ (x : List Cut). group_of (goes_on heads past l.place) l.group (length x)) c.as_slice.ensures in
    let n = group_of (goes_on heads past l.place) l.group (length l.cuts) in
    let s = c.is_found.new.old in
    let t = c.is_found.new.new in
    rw (p.1, p.2)
    (sift_full v files heads cs records past c.requires.whole o l.old l.new l.cuts l.place l.group c.loop-place-test.true
    l.invariant.whole s t c.is_found.result (l.invariant.raw v cs records o)
    (subst (λ k. Adds (g.S.Site.told l.site) (g.S.Site.told c.is_found.new.site)
    (Leads (anyhow (SparesFiles files)) (CanFind v files l.old l.new)
    (FoundSo v files (value_in cs (slice_index_or past l.place no_cut).index) cs k s t c.is_found.result)))
    (slice_is c.as_slice-in-loop-place.result.now l.cuts c.group_at-group.result n c.as_slice-in-loop-place.ensures group)
    (c.is_found.ensures.raw v cs records)))

pub returns-in_err-push_new-clause-own : goal.returns-in_err-push_new-clause-own
returns-in_err-push_new-clause-own g c = every_then (IsOf ReadsFile) c.loop-place.invariant.own c.is_found.ensures.own

pub returns-in_err-push_new-clause-pieces : goal.returns-in_err-push_new-clause-pieces
returns-in_err-push_new-clause-pieces g c = every_then AsksInPieces c.loop-place.invariant.pieces c.is_found.ensures.pieces

pub returns-in_err-push_new-clause-last : goal.returns-in_err-push_new-clause-last
returns-in_err-push_new-clause-last g c =
    let p = err_from_is_err_and c.from_residual-in_err-push_new.result c.from_residual-in_err-push_new.ensures.1 in
    rw (p.1, p.2)
    (adds_as (FailsLast {T = List Cut} (Err NoMemory))
    (every_then AsksInPieces c.loop-place.invariant.pieces c.is_found.ensures.pieces) (λ added history made. tt))

pub loop-place-preserved : goal.loop-place-preserved
loop-place-preserved g c =
    let l = c.loop-place in
    let files = c.args.files.now in
    let heads = c.args.heads.now in
    let past = c.args.past.now in
    let group = c.group_at-group.ensures
    ∙ ap (λ (x : List Cut). group_of (goes_on heads past l.place) l.group (length x)) c.as_slice.ensures in
    let n = group_of (goes_on heads past l.place) l.group (length l.cuts) in
    let s = c.is_found.new.old in
    let t = c.is_found.new.new in
    let k = slice_index_or past l.place no_cut in
    let low = group_low (goes_on heads past l.place) l.group (length l.cuts) l.invariant.low in
    record {
      raw = λ v cs records o.
          subst (λ m. Adds (g.S.Site.told c.args.site.now) (g.S.Site.told c.is_found.new.site)
          (Leads (anyhow (SparesFiles files)) (HasFiles files (held v))
          (Sifted v files heads cs records past c.requires.whole o s t c.push_new.new.cuts (l.place + 1) m))) (sym group)
          (sift_on v files heads cs records past c.requires.whole o l.old l.new l.cuts l.place l.group c.loop-place-test.true
          l.invariant.whole s t c.is_found.result (l.invariant.raw v cs records o)
          (subst (λ k. Adds (g.S.Site.told l.site) (g.S.Site.told c.is_found.new.site)
          (Leads (anyhow (SparesFiles files)) (CanFind v files l.old l.new)
          (FoundSo v files (value_in cs (slice_index_or past l.place no_cut).index) cs k s t c.is_found.result)))
          (slice_is c.as_slice-in-loop-place.result.now l.cuts c.group_at-group.result n c.as_slice-in-loop-place.ensures group)
          (c.is_found.ensures.raw v cs records))
          c.in_ok-found.found c.in_ok-found.was c.push_new.new.cuts c.in_ok-push_new.ensures);
      low = more_low c.group_at-group.result l.cuts c.push_new.new.cuts c.in_ok-found.found k
          (subst (λ m. m ≤ length l.cuts) (sym group) low) c.in_ok-push_new.ensures;
      whole = whole_more (length heads) l.cuts c.push_new.new.cuts c.in_ok-found.found k l.invariant.whole
          (c.requires.whole l.place no_cut c.loop-place-test.true) c.in_ok-push_new.ensures;
      kept = more_kept_of heads past l.cuts c.push_new.new.cuts l.place c.in_ok-found.found
          c.loop-place-test.true
          (λ stays. same_ok c.in_ok-found.found false c.is_found.result c.in_ok-found.was
          (c.is_found.ensures.none
          (slice_is c.as_slice-in-loop-place.result.now l.cuts c.group_at-group.result n
          c.as_slice-in-loop-place.ensures group
          ∙ none_left l.cuts (goes_on heads past l.place) l.group stays))) c.in_ok-push_new.ensures
          l.invariant.kept;
      own = every_then (IsOf ReadsFile) l.invariant.own c.is_found.ensures.own;
      pieces = every_then AsksInPieces l.invariant.pieces c.is_found.ensures.pieces;
      count = c.in_ok-found.ensures.cause ∙ l.invariant.count;
    }

pub returns-clause-raw : goal.returns-clause-raw
returns-clause-raw g c v cs records o =
    let l = c.loop-place in
    sift_ends v c.args.files.now c.args.heads.now cs records c.args.past.now c.requires.whole o l.old l.new l.cuts l.place
    l.group c.loop-place-test.false (l.invariant.raw v cs records o)

pub returns-in_err-found-clause-shown : goal.returns-in_err-found-clause-shown
returns-in_err-found-clause-shown g c =
    let p = err_from_is_err_and c.from_residual.result c.from_residual.ensures.1 in
    let files = c.args.files.now in
    let heads = c.args.heads.now in
    rw (p.1, p.2)
    (shows_then (List Cut) Bool (IsGoneIn files heads) (late_gone_in files heads) c.in_err-found.field-0.0 c.loop-place.invariant.pieces
    c.in_err-found.ensures.shown)

pub returns-in_err-push_new-clause-shown : goal.returns-in_err-push_new-clause-shown
returns-in_err-push_new-clause-shown g c =
    let p = err_from_is_err_and c.from_residual-in_err-push_new.result c.from_residual-in_err-push_new.ensures.1 in
    rw (p.1, p.2)
    (shows_outside (List Cut) (IsGoneIn c.args.files.now c.args.heads.now) no_memory
    (every_then AsksInPieces c.loop-place.invariant.pieces c.is_found.ensures.pieces))

pub returns-clause-among : goal.returns-clause-among
returns-clause-among g c =
    let l = c.loop-place in
    all_done c.args.heads.now c.args.past.now l.cuts l.place c.loop-place-test.false l.invariant.kept
