use Rattle.std.proofs.Common.{◌≡◌, ◌∙◌, ◌+◌, [], ℕ, List, Err, ap, sym, subst, take, length, refl, arith}
use Rattle.std.specs.Prelude.{slice_index_or}
use Rattle.std.proofs.lemmas.Result.{err_from_is_err_and}
use Rattle.std.proofs.lemmas.List.{take_all, length-take-le}
use Rattle.chk_site.specs.History.{Every}
use Rattle.chk_site.specs.Site.{Adds}
use Rattle.chk_site.specs.Runs.{Leads, anyhow}
use Rattle.chk_site.proofs.Runs.{adds_none}
use Rattle.chk_world.specs.JobSteps.{IsOf, ReadsFile}
use Rattle.chk_record_index.specs.Heads.{Head}
use Rattle.chk_record_index.specs.Pieces.{AsksInPieces}
use Rattle.chk_record_index.specs.declared.fault.JobFault.TheVariants.{NoMemory}
use Rattle.chk_record_index.proofs.Gathering.{every_then, no_failure}
use Rattle.chk_record_reader.specs.Segments.{HasFiles, SparesFiles}
use Rattle.chk_record_reader.proofs.AllGathered.{HasHeads, none_gathered, one_more, bad_one, not_all, all_gathered, fails_later}
use Rattle.chk_join_sources.proofs.gathering.gather_all.Goals as goal

pub loop-name-init : goal.loop-name-init
loop-name-init g c = record {
  so_far = λ held is settled.
      subst (λ r. Adds (g.S.Site.told c.args.site.now) (g.S.Site.told c.args.site.now)
      (Leads (anyhow (SparesFiles c.args.names.now)) (HasFiles c.args.names.now held)
      (HasHeads c.args.most c.args.names.now held [] r)))
      (sym c.new-heads.ensures) (none_gathered c.args.most c.args.names.now held
      (g.S.Site.told c.args.site.now));
  own = λ is. adds_none (g.S.Site.told c.args.site.now) (Every (IsOf ReadsFile)) (λ history. tt);
  pieces = adds_none (g.S.Site.told c.args.site.now) (Every AsksInPieces) (λ history. tt);
  number = refl;
  count = refl;
}

pub returns-in_err-gather-clause-raw : goal.returns-in_err-gather-clause-raw
returns-in_err-gather-clause-raw g c held is settled =
    let p = err_from_is_err_and c.from_residual.result c.from_residual.ensures.1 in
    let names = c.args.names.now in
    let l = c.loop-name in
    let w = c.as_str.result.now in
    let same : slice_index_or names l.name-index w ≡ w =
    subst (λ x. slice_index_or names l.name-index x ≡ x) (sym c.as_str.ensures.text)
    (sym c.name-item.is) in
    let size : l.file ≡ length (take l.name-index names) =
    l.invariant.number ∙ sym (length-take-le l.name-index names (omega
    (arith, c.loop-name-test.true))) in
    rw (p.1, p.2)
    (bad_one c.args.most names held l.name-index w settled c.loop-name-test.true same l.heads
    c.gather.new.self l.file size
    (l.invariant.so_far held is settled) (c.in_err-gather.ensures.own is) c.in_err-gather.field-0.0
    (c.in_err-gather.ensures.raw (held w) (settled w
    (l.name-index, c.loop-name-test.true, same)).1))

pub returns-in_err-gather-clause-own : goal.returns-in_err-gather-clause-own
returns-in_err-gather-clause-own g c = λ is. every_then (IsOf ReadsFile)
    (c.loop-name.invariant.own is) (c.in_err-gather.ensures.own is)

pub returns-in_err-gather-clause-pieces : goal.returns-in_err-gather-clause-pieces
returns-in_err-gather-clause-pieces g c = every_then AsksInPieces c.loop-name.invariant.pieces
    c.in_err-gather.ensures.pieces

pub returns-in_err-gather-clause-last : goal.returns-in_err-gather-clause-last
returns-in_err-gather-clause-last g c =
    let p = err_from_is_err_and c.from_residual.result c.from_residual.ensures.1 in
    rw (p.1, p.2) (fails_later (List Head) ℕ c.in_err-gather.field-0.0 c.loop-name.invariant.pieces
    c.in_err-gather.ensures.last)

pub returns-in_err-file-clause-raw : goal.returns-in_err-file-clause-raw
returns-in_err-file-clause-raw g c held is settled =
    let p = err_from_is_err_and c.from_residual-in_err-file.result
    c.from_residual-in_err-file.ensures.1 in
    rw (p.1, p.2, c.in_err-file.ensures.err)
    (not_all c.args.most c.args.names.now held (every_then AsksInPieces
    c.loop-name.invariant.pieces c.in_ok-gather.ensures.pieces))

pub returns-in_err-file-clause-own : goal.returns-in_err-file-clause-own
returns-in_err-file-clause-own g c = λ is. every_then (IsOf ReadsFile)
    (c.loop-name.invariant.own is) (c.in_ok-gather.ensures.own is)

pub returns-in_err-file-clause-pieces : goal.returns-in_err-file-clause-pieces
returns-in_err-file-clause-pieces g c = every_then AsksInPieces c.loop-name.invariant.pieces
    c.in_ok-gather.ensures.pieces

pub returns-in_err-file-clause-last : goal.returns-in_err-file-clause-last
returns-in_err-file-clause-last g c =
    let p = err_from_is_err_and c.from_residual-in_err-file.result
    c.from_residual-in_err-file.ensures.1 in
    rw (p.1, p.2, c.in_err-file.ensures.err)
    (no_failure {T = List Head} (Err NoMemory) (λ call e. cc)
    (every_then AsksInPieces c.loop-name.invariant.pieces c.in_ok-gather.ensures.pieces))

pub loop-name-preserved : goal.loop-name-preserved
loop-name-preserved g c = record {
  so_far = λ held is settled.
      let names = c.args.names.now in
      let l = c.loop-name in
      let w = c.as_str.result.now in
      let same : slice_index_or names l.name-index w ≡ w =
      subst (λ x. slice_index_or names l.name-index x ≡ x) (sym c.as_str.ensures.text)
      (sym c.name-item.is) in
      let size : l.file ≡ length (take l.name-index names) =
      l.invariant.number ∙ sym (length-take-le l.name-index names (omega
      (arith, c.loop-name-test.true))) in
      one_more c.args.most names held l.name-index w settled c.loop-name-test.true same l.heads
      c.gather.new.self l.file size
      (l.invariant.so_far held is settled) (c.in_ok-gather.ensures.own is) c.in_ok-gather.field-0
      (c.in_ok-gather.ensures.raw (held w) (settled w
      (l.name-index, c.loop-name-test.true, same)).1);
  own = λ is. every_then (IsOf ReadsFile) (c.loop-name.invariant.own is)
      (c.in_ok-gather.ensures.own is);
  pieces = every_then AsksInPieces c.loop-name.invariant.pieces c.in_ok-gather.ensures.pieces;
  number = c.in_ok-file.ensures.ok ∙ ap (λ n. n + 1) c.loop-name.invariant.number;
  count = c.in_ok-gather.ensures.cause ∙ c.loop-name.invariant.count;
}

pub returns-clause-raw : goal.returns-clause-raw
returns-clause-raw g c held is settled =
    let names = c.args.names.now in
    all_gathered c.args.most names held (take c.loop-name.name-index names) c.loop-name.heads
    (take_all c.loop-name.name-index names c.loop-name-test.false)
    (c.loop-name.invariant.so_far held is settled)
