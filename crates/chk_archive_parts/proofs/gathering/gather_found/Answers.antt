use Rattle.std.proofs.Common.{◌≡◌, ◌∙◌, ◌+◌, ◌++◌, [], ◌∷◌, ℕ, List, Err, ap, sym, subst, take, length, refl, arith}
use Rattle.std.specs.Prelude.{Contains, slice_index_or}
use Rattle.std.proofs.lemmas.Result.{err_from_is_err_and}
use Rattle.std.proofs.lemmas.List.{take_more, take_all, length-take-le}
use Rattle.chk_site.specs.History.{Every}
use Rattle.chk_site.specs.Site.{Adds}
use Rattle.chk_site.specs.Runs.{Leads, anyhow}
use Rattle.chk_site.proofs.Runs.{adds_none}
use Rattle.chk_replace.specs.Load.{Has}
use Rattle.chk_chunk.specs.Keys.{chunk_limit}
use Rattle.chk_world.specs.Places.{As}
use Rattle.chk_world.specs.Sight.{job}
use Rattle.chk_world.specs.JobSteps.{IsOf, ReadsFile, SparesFile}
use Rattle.chk_record_index.specs.Gathered.{Gathered}
use Rattle.chk_record_index.specs.Heads.{Head}
use Rattle.chk_record_index.specs.Pieces.{AsksInPieces}
use Rattle.chk_record_index.specs.declared.fault.JobFault.TheVariants.{NoMemory}
use Rattle.chk_record_index.specs.ShownHeads.{ShowAll}
use Rattle.chk_record_index.proofs.Stretches.{all_begin, all_step, all_refused, all_unshown, all_end}
use Rattle.chk_record_index.proofs.Gathering.{every_then, no_failure}
use Rattle.chk_record_reader.specs.Segments.{HasFiles, SparesFiles}
use Rattle.chk_record_reader.proofs.AllGathered.{HasHeads as HeadsSoFar, none_gathered, one_more, bad_one, not_all, all_gathered as gathered_so}
use Rattle.chk_archive_parts.specs.Gathering.{held, IsSoundFile}
use Rattle.chk_archive_parts.proofs.OneFile.{Knows}
use Rattle.chk_archive_parts.proofs.AllFiles.{HasHeads, one_more_file, not_gathered, none_yet, all_gathered, no_number, fails_later}
use Rattle.chk_archive_parts.proofs.gathering.gather_found.Goals as goal

pub loop-name-init : goal.loop-name-init
loop-name-init g c = record {
  so_far = λ stamped v sound.
      subst (λ r. Adds (g.S.Site.told c.args.site.now) (g.S.Site.told c.args.site.now)
      (Leads (As stamped job) (Knows stamped v) (HasHeads stamped v [] r)))
      (sym c.new-heads.ensures)
      (none_yet stamped v (g.S.Site.told c.args.site.now));
  raw_so_far = λ held settled.
      subst (λ r. Adds (g.S.Site.told c.args.site.now) (g.S.Site.told c.args.site.now)
      (Leads (anyhow (SparesFiles c.args.names.now)) (HasFiles c.args.names.now held)
      (HeadsSoFar chunk_limit c.args.names.now held [] r)))
      (sym c.new-heads.ensures)
      (none_gathered chunk_limit c.args.names.now held (g.S.Site.told c.args.site.now));
  own = adds_none (g.S.Site.told c.args.site.now) (Every (IsOf ReadsFile)) (λ history. tt);
  pieces = adds_none (g.S.Site.told c.args.site.now) (Every AsksInPieces) (λ history. tt);
  shown = subst (λ r. Adds (g.S.Site.told c.args.site.now) (g.S.Site.told c.args.site.now) (ShowAll chunk_limit 0 [] r)) (sym c.new-heads.ensures)
      (all_begin chunk_limit (g.S.Site.told c.args.site.now));
  number = refl;
  count = refl;
}

pub returns-in_err-gather-clause-told : goal.returns-in_err-gather-clause-told
returns-in_err-gather-clause-told g c stamped v sound =
    let p = err_from_is_err_and c.from_residual.result c.from_residual.ensures.1 in
    let names = c.args.names.now in
    let l = c.loop-name in
    let ws = take l.name-index names in
    let w = c.as_str.result.now in
    let one : Contains names w = (
      l.name-index,
      c.loop-name-test.true,
      subst (λ x. slice_index_or names l.name-index x ≡ x) (sym c.as_str.ensures.text)
          (sym c.name-item.is),
    ) in
    let s : IsSoundFile v w = sound w one in
    let size : l.file ≡ length ws = l.invariant.number ∙ sym
    (length-take-le l.name-index names (omega (arith, c.loop-name-test.true))) in
    let raw = subst (λ n. Adds (g.S.Site.told l.site) (g.S.Site.told c.gather.new.site)
    (Leads (anyhow (SparesFile w)) (Has w (held v w))
    (Gathered chunk_limit w (held v w) n l.heads c.gather.new.self c.gather.result)))
    size (c.gather.ensures.raw (held v w) s.small) in
    rw (p.1, p.2)
    (not_gathered stamped v ws w s l.heads c.gather.new.self c.gather.result
    (l.invariant.so_far stamped v sound) raw
    (c.gather.ensures.own c.requires) names c.in_err-gather.field-0.0 c.in_err-gather.was)

pub returns-in_err-gather-clause-raw : goal.returns-in_err-gather-clause-raw
returns-in_err-gather-clause-raw g c held settled =
    let p = err_from_is_err_and c.from_residual.result c.from_residual.ensures.1 in
    let names = c.args.names.now in
    let l = c.loop-name in
    let w = c.as_str.result.now in
    let same : slice_index_or names l.name-index w ≡ w =
    subst (λ x. slice_index_or names l.name-index x ≡ x) (sym c.as_str.ensures.text)
    (sym c.name-item.is) in
    let size : l.file ≡ length (take l.name-index names) = l.invariant.number ∙ sym
    (length-take-le l.name-index names (omega (arith, c.loop-name-test.true))) in
    rw (p.1, p.2)
    (bad_one chunk_limit names held l.name-index w settled c.loop-name-test.true same l.heads
    c.gather.new.self l.file size (l.invariant.raw_so_far held settled)
    (c.in_err-gather.ensures.own c.requires) c.in_err-gather.field-0.0
    (c.in_err-gather.ensures.raw (held w) (settled w (l.name-index, c.loop-name-test.true, same)).1))

pub returns-in_err-gather-clause-shown : goal.returns-in_err-gather-clause-shown
returns-in_err-gather-clause-shown g c =
    let p = err_from_is_err_and c.from_residual.result c.from_residual.ensures.1 in
    let names = c.args.names.now in
    let l = c.loop-name in
    let w = c.as_str.result.now in
    let same : slice_index_or names l.name-index w ≡ w =
    subst (λ x. slice_index_or names l.name-index x ≡ x) (sym c.as_str.ensures.text) (sym c.name-item.is) in
    rw (p.1, p.2)
    (all_refused chunk_limit l.file names w l.heads c.gather.new.self c.in_err-gather.field-0.0 (l.name-index, c.loop-name-test.true, same)
    l.invariant.pieces c.in_err-gather.ensures.shown)

pub returns-in_err-file-clause-shown : goal.returns-in_err-file-clause-shown
returns-in_err-file-clause-shown g c =
    let p = err_from_is_err_and c.from_residual-in_err-file.result c.from_residual-in_err-file.ensures.1 in
    rw (p.1, p.2, c.in_err-file.ensures.err)
    (all_unshown chunk_limit c.args.names.now (every_then AsksInPieces c.loop-name.invariant.pieces c.in_ok-gather.ensures.pieces))

pub returns-clause-shown : goal.returns-clause-shown
returns-clause-shown g c =
    let names = c.args.names.now in
    all_end chunk_limit names c.loop-name.heads
    (subst (λ ns. Adds (g.S.Site.told c.args.site.now) (g.S.Site.told c.loop-name.site) (ShowAll chunk_limit 0 ns c.loop-name.heads))
    (take_all c.loop-name.name-index names c.loop-name-test.false) c.loop-name.invariant.shown)

pub returns-in_err-gather-clause-own : goal.returns-in_err-gather-clause-own
returns-in_err-gather-clause-own g c =
    every_then (IsOf ReadsFile) c.loop-name.invariant.own (c.in_err-gather.ensures.own c.requires)

pub returns-in_err-gather-clause-pieces : goal.returns-in_err-gather-clause-pieces
returns-in_err-gather-clause-pieces g c = every_then AsksInPieces c.loop-name.invariant.pieces c.in_err-gather.ensures.pieces

pub returns-in_err-gather-clause-last : goal.returns-in_err-gather-clause-last
returns-in_err-gather-clause-last g c =
    let p = err_from_is_err_and c.from_residual.result c.from_residual.ensures.1 in
    rw (p.1, p.2) (fails_later ℕ
    (List Head) c.in_err-gather.field-0.0 c.loop-name.invariant.pieces c.in_err-gather.ensures.last)

pub returns-in_err-file-clause-told : goal.returns-in_err-file-clause-told
returns-in_err-file-clause-told g c stamped v sound =
    let p = err_from_is_err_and c.from_residual-in_err-file.result c.from_residual-in_err-file.ensures.1 in
    let names = c.args.names.now in
    let l = c.loop-name in
    let ws = take l.name-index names in
    let w = c.as_str.result.now in
    let one : Contains names w = (
      l.name-index,
      c.loop-name-test.true,
      subst (λ x. slice_index_or names l.name-index x ≡ x) (sym c.as_str.ensures.text)
          (sym c.name-item.is),
    ) in
    let s : IsSoundFile v w = sound w one in
    let size : l.file ≡ length ws = l.invariant.number ∙ sym
    (length-take-le l.name-index names (omega (arith, c.loop-name-test.true))) in
    let raw = subst (λ n. Adds (g.S.Site.told l.site) (g.S.Site.told c.gather.new.site)
    (Leads (anyhow (SparesFile w)) (Has w (held v w))
    (Gathered chunk_limit w (held v w) n l.heads c.gather.new.self c.gather.result)))
    size (c.gather.ensures.raw (held v w) s.small) in
    rw (p.1, p.2, c.in_err-file.ensures.err)
    (no_number stamped v (ws ++ w ∷ []) names c.gather.new.self
    (one_more_file stamped v ws w s l.heads c.gather.new.self c.gather.result
    (l.invariant.so_far stamped v sound) raw
    (c.gather.ensures.own c.requires) c.in_ok-gather.field-0 c.in_ok-gather.was))

pub returns-in_err-file-clause-raw : goal.returns-in_err-file-clause-raw
returns-in_err-file-clause-raw g c held settled =
    let p = err_from_is_err_and c.from_residual-in_err-file.result c.from_residual-in_err-file.ensures.1 in
    rw (p.1, p.2, c.in_err-file.ensures.err)
    (not_all chunk_limit c.args.names.now held
    (every_then AsksInPieces c.loop-name.invariant.pieces c.in_ok-gather.ensures.pieces))

pub returns-in_err-file-clause-own : goal.returns-in_err-file-clause-own
returns-in_err-file-clause-own g c =
    every_then (IsOf ReadsFile) c.loop-name.invariant.own (c.in_ok-gather.ensures.own c.requires)

pub returns-in_err-file-clause-pieces : goal.returns-in_err-file-clause-pieces
returns-in_err-file-clause-pieces g c = every_then AsksInPieces c.loop-name.invariant.pieces c.in_ok-gather.ensures.pieces

pub returns-in_err-file-clause-last : goal.returns-in_err-file-clause-last
returns-in_err-file-clause-last g c =
    let p = err_from_is_err_and c.from_residual-in_err-file.result c.from_residual-in_err-file.ensures.1 in
    rw (p.1, p.2, c.in_err-file.ensures.err)
    (no_failure {T = List Head} (Err NoMemory) (λ call e. cc)
    (every_then AsksInPieces c.loop-name.invariant.pieces c.in_ok-gather.ensures.pieces))

pub loop-name-preserved : goal.loop-name-preserved
loop-name-preserved g c = record {
  so_far = λ stamped v sound.
      let names = c.args.names.now in
      let l = c.loop-name in
      let ws = take l.name-index names in
      let w = c.as_str.result.now in
      let one : Contains names w = (
        l.name-index,
        c.loop-name-test.true,
        subst (λ x. slice_index_or names l.name-index x ≡ x) (sym c.as_str.ensures.text)
            (sym c.name-item.is),
      ) in
      let s : IsSoundFile v w = sound w one in
      let size : l.file ≡ length ws = l.invariant.number ∙ sym
      (length-take-le l.name-index names (omega (arith, c.loop-name-test.true))) in
      let raw = subst (λ n. Adds (g.S.Site.told l.site) (g.S.Site.told c.gather.new.site)
      (Leads (anyhow (SparesFile w)) (Has w (held v w))
      (Gathered chunk_limit w (held v w) n l.heads c.gather.new.self c.gather.result)))
      size (c.gather.ensures.raw (held v w) s.small) in
      let more : take (l.name-index + 1) names ≡ ws ++ w ∷ [] =
      take_more names l.name-index w c.loop-name-test.true ∙ ap (λ x. ws ++ x ∷ []) one.2 in
      subst (λ r. Adds (g.S.Site.told c.args.site.now) (g.S.Site.told c.gather.new.site)
      (Leads (As stamped job) (Knows stamped v) (HasHeads stamped v r c.gather.new.self)))
      (sym more)
      (one_more_file stamped v ws w s l.heads c.gather.new.self c.gather.result
      (l.invariant.so_far stamped v sound) raw
      (c.gather.ensures.own c.requires) c.in_ok-gather.field-0 c.in_ok-gather.was);
  raw_so_far = λ held settled.
      let names = c.args.names.now in
      let l = c.loop-name in
      let w = c.as_str.result.now in
      let same : slice_index_or names l.name-index w ≡ w =
      subst (λ x. slice_index_or names l.name-index x ≡ x) (sym c.as_str.ensures.text)
      (sym c.name-item.is) in
      let size : l.file ≡ length (take l.name-index names) = l.invariant.number ∙ sym
      (length-take-le l.name-index names (omega (arith, c.loop-name-test.true))) in
      one_more chunk_limit names held l.name-index w settled c.loop-name-test.true same l.heads
      c.gather.new.self l.file size (l.invariant.raw_so_far held settled)
      (c.in_ok-gather.ensures.own c.requires) c.in_ok-gather.field-0
      (c.in_ok-gather.ensures.raw (held w) (settled w (l.name-index, c.loop-name-test.true, same)).1);
  own = every_then (IsOf ReadsFile) c.loop-name.invariant.own
      (c.in_ok-gather.ensures.own c.requires);
  pieces = every_then AsksInPieces c.loop-name.invariant.pieces c.in_ok-gather.ensures.pieces;
  shown =
      let l = c.loop-name in
      let w = c.as_str.result.now in
      all_step chunk_limit l.file c.in_ok-gather.field-0 c.args.names.now l.name-index w l.heads c.gather.new.self c.loop-name-test.true
      (subst (λ x. slice_index_or c.args.names.now l.name-index x ≡ x) (sym c.as_str.ensures.text) (sym c.name-item.is))
      l.invariant.number l.invariant.shown c.in_ok-gather.ensures.shown;
  number = c.in_ok-file.ensures.ok ∙ ap (λ n. n + 1) c.loop-name.invariant.number;
  count = c.in_ok-gather.ensures.cause ∙ c.loop-name.invariant.count;
}

pub returns-clause-told : goal.returns-clause-told
returns-clause-told g c stamped v sound =
    let names = c.args.names.now in
    all_gathered stamped v names c.loop-name.heads
    (subst (λ l. Adds (g.S.Site.told c.args.site.now) (g.S.Site.told c.loop-name.site)
    (Leads (As stamped job) (Knows stamped v) (HasHeads stamped v l c.loop-name.heads)))
    (take_all c.loop-name.name-index names c.loop-name-test.false)
    (c.loop-name.invariant.so_far stamped v sound))

pub returns-clause-raw : goal.returns-clause-raw
returns-clause-raw g c held settled =
    let names = c.args.names.now in
    gathered_so chunk_limit names held (take c.loop-name.name-index names) c.loop-name.heads
    (take_all c.loop-name.name-index names c.loop-name-test.false)
    (c.loop-name.invariant.raw_so_far held settled)
