use Rattle.std.proofs.Common.{◌∙◌, ◌≤◌, ◌⊎◌, inl, inr, ℕ, Option, Ok, None, Some, refl, arith}
use Rattle.std.proofs.lemmas.Result.{err_from_is_err_and}
use Rattle.chk_site.specs.History.{Every}
use Rattle.chk_site.proofs.Runs.{adds_as, adds_none}
use Rattle.chk_world.specs.JobSteps.{IsOf, ReadsFile}
use Rattle.chk_record_index.specs.Faults.{FailsLast}
use Rattle.chk_record_index.specs.Pieces.{AsksInPieces}
use Rattle.chk_record_index.proofs.Gathering.{every_then}
use Rattle.chk_book.proofs.Added.{cause_later}
use Rattle.chk_record_reader.proofs.AllGathered.{fails_later}
use Rattle.chk_join_sources.specs.Differences.{first_difference}
use Rattle.chk_join_sources.specs.Comparing.{values_between}
use Rattle.chk_join_sources.proofs.Differences.{further_none}
use Rattle.chk_join_sources.proofs.AllCompared.{under, begun, one_more, one_found, one_refused, all_compared}
use Rattle.chk_join_sources.proofs.comparing.compare_blocks.Goals.{then-loop-at-test+else-at, else-loop-at-test}
use Rattle.chk_join_sources.proofs.comparing.compare_blocks.Goals as goal

pub loop-at-init : goal.loop-at-init
loop-at-init g c = record {
  so = λ most all held few settled lefts rights true_ones.
      let l = c.args.left.now in
      let r = c.args.right.now in
      let a = values_between l held c.args.first.first c.args.first.end in
      let b = values_between r held c.args.second.first c.args.second.end in
      begun all l r held a b c.args.readers.now
      (record {
        left = record { index = c.args.first.first; end = c.args.first.end; passed = 0 };
        right = record { index = c.args.second.first; end = c.args.second.end; passed = 0 };
        same = 0;
      })
      true_ones (record { left = λ low. omega arith; right = λ low. omega arith }) (further_none (first_difference a b))
      (g.S.Site.told c.args.site.now);
  own = adds_none (g.S.Site.told c.args.site.now) (Every (IsOf ReadsFile)) (λ history. tt);
  pieces = adds_none (g.S.Site.told c.args.site.now) (Every AsksInPieces) (λ history. tt);
  count = refl;
  left_end = refl;
  right_end = refl;
  left = c.requires.lefts.0;
  right = c.requires.rights.0;
}

pub returns-in_err-found-clause-raw : goal.returns-in_err-found-clause-raw
returns-in_err-found-clause-raw g c most all held few settled lefts rights true_ones =
    let l = c.args.left.now in
    let r = c.args.right.now in
    let i = c.loop-at in
    let a = values_between l held c.args.first.first c.args.first.end in
    let b = values_between r held c.args.second.first c.args.second.end in
    let q = err_from_is_err_and c.from_residual.result c.from_residual.ensures.1 in
    rw (q.1, q.2)
    (one_refused all l r held a b i.readers c.compare_records.new.readers i.at c.compare_records.new.at c.in_err-found.field-0.0
    (i.invariant.so most all held few settled lefts rights true_ones)
    (under c.in_err-found.ensures.own (λ x. c.in_err-found.ensures.raw most all held few settled lefts rights x.0 x.1)))

pub returns-in_err-found-clause-own : goal.returns-in_err-found-clause-own
returns-in_err-found-clause-own g c = every_then (IsOf ReadsFile) c.loop-at.invariant.own c.in_err-found.ensures.own

pub returns-in_err-found-clause-pieces : goal.returns-in_err-found-clause-pieces
returns-in_err-found-clause-pieces g c = every_then AsksInPieces c.loop-at.invariant.pieces c.in_err-found.ensures.pieces

pub returns-in_err-found-clause-last : goal.returns-in_err-found-clause-last
returns-in_err-found-clause-last g c =
    let q = err_from_is_err_and c.from_residual.result c.from_residual.ensures.1 in
    rw (q.1, q.2)
    (fails_later (Option ℕ) (Option ℕ) c.in_err-found.field-0.0 c.loop-at.invariant.pieces c.in_err-found.ensures.last)

pub returns-in_err-found-clause-cause : goal.returns-in_err-found-clause-cause
returns-in_err-found-clause-cause g c =
    let q = err_from_is_err_and c.from_residual.result c.from_residual.ensures.1 in
    rw (q.1, q.2)
    (cause_later (Option ℕ) (Option ℕ) c.in_err-found.field-0.0 (g.S.Site.fault_count c.args.site.now)
    (g.S.Site.fault_count c.loop-at.site) (g.S.Site.fault_count c.compare_records.new.site)
    c.loop-at.invariant.count c.in_err-found.ensures.cause)

pub returns-in-Some-clause-raw : goal.returns-in-Some-clause-raw
returns-in-Some-clause-raw g c most all held few settled lefts rights true_ones =
    let l = c.args.left.now in
    let r = c.args.right.now in
    let i = c.loop-at in
    let a = values_between l held c.args.first.first c.args.first.end in
    let b = values_between r held c.args.second.first c.args.second.end in
    one_found all l r held a b i.readers c.compare_records.new.readers i.at c.compare_records.new.at c.in-Some.place
    c.in_ok-found.found c.in-Some.is
    (i.invariant.so most all held few settled lefts rights true_ones)
    (under c.in_ok-found.ensures.own (λ x. c.in_ok-found.ensures.raw most all held few settled lefts rights x.0 x.1))

pub returns-in-Some-clause-own : goal.returns-in-Some-clause-own
returns-in-Some-clause-own g c = every_then (IsOf ReadsFile) c.loop-at.invariant.own c.in_ok-found.ensures.own

pub returns-in-Some-clause-pieces : goal.returns-in-Some-clause-pieces
returns-in-Some-clause-pieces g c = every_then AsksInPieces c.loop-at.invariant.pieces c.in_ok-found.ensures.pieces

pub returns-in-Some-clause-last : goal.returns-in-Some-clause-last
returns-in-Some-clause-last g c =
    adds_as (FailsLast {T = Option ℕ} (Ok (Some c.in-Some.place)))
    (every_then AsksInPieces c.loop-at.invariant.pieces c.in_ok-found.ensures.pieces) (λ added history x. tt)

pub loop-at-preserved : goal.loop-at-preserved
loop-at-preserved g c = record {
  so = λ most all held few settled lefts rights true_ones.
      let l = c.args.left.now in
      let r = c.args.right.now in
      let a = values_between l held c.args.first.first c.args.first.end in
      let b = values_between r held c.args.second.first c.args.second.end in
      one_more all l r held a b c.loop-at.readers c.compare_records.new.readers c.loop-at.at c.compare_records.new.at c.in_ok-found.found
      c.in_default.is
      (c.loop-at.invariant.so most all held few settled lefts rights true_ones)
      (under c.in_ok-found.ensures.own (λ x. c.in_ok-found.ensures.raw most all held few settled lefts rights x.0 x.1));
  own = every_then (IsOf ReadsFile) c.loop-at.invariant.own c.in_ok-found.ensures.own;
  pieces = every_then AsksInPieces c.loop-at.invariant.pieces c.in_ok-found.ensures.pieces;
  count = c.in_ok-found.ensures.cause ∙ c.loop-at.invariant.count;
  left_end = c.in_ok-found.ensures.ends.0 ∙ c.loop-at.invariant.left_end;
  right_end = c.in_ok-found.ensures.ends.1 ∙ c.loop-at.invariant.right_end;
  left =
      let below = c.loop-at-test.true in
      let end = c.loop-at.invariant.left_end in
      let next = c.in_ok-found.ensures.on.0 in
      omega (arith, below, end, next);
  right =
      let below = c.if-at.true in
      let end = c.loop-at.invariant.right_end in
      let next = c.in_ok-found.ensures.on.1 in
      omega (arith, below, end, next);
}

pub returns-clause-raw : goal.returns-clause-raw
returns-clause-raw g c most all held few settled lefts rights true_ones =
    let l = c.args.left.now in
    let r = c.args.right.now in
    let i = c.loop-at in
    let a = values_between l held c.args.first.first c.args.first.end in
    let b = values_between r held c.args.second.first c.args.second.end in
    let past : (i.at.left.end ≤ i.at.left.index) ⊎ (i.at.right.end ≤ i.at.right.index) =
    elim c.loop-at-test.branch [
      | then-loop-at-test+else-at w ↦ inr (let z = w.if-at in omega (arith, z))
      | else-loop-at-test w ↦ inl (let z = w.loop-at-test in omega (arith, z))
    ] in
    all_compared all l r held a b i.readers i.at past (i.invariant.so most all held few settled lefts rights true_ones)

pub returns-clause-own : goal.returns-clause-own
returns-clause-own g c = c.loop-at.invariant.own

pub returns-clause-pieces : goal.returns-clause-pieces
returns-clause-pieces g c = c.loop-at.invariant.pieces

pub returns-clause-last : goal.returns-clause-last
returns-clause-last g c = adds_as (FailsLast {T = Option ℕ} (Ok None)) c.loop-at.invariant.pieces (λ added history x. tt)

pub returns-clause-cause : goal.returns-clause-cause
returns-clause-cause g c = c.loop-at.invariant.count
