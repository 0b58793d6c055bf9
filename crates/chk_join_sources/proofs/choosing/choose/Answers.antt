use Rattle.std.proofs.Common.{◌≡◌, ◌∙◌, ◌≤◌, List, [], Option, Ok, None, refl, arith, map, length, ap₂, subst}
use Rattle.std.specs.Prelude.{IfNone}
use Rattle.std.proofs.lemmas.Result.{err_from_is_err_and}
use Rattle.std.proofs.lemmas.List.{drop_all, length-map}
use Rattle.chk_site.specs.History.{Every}
use Rattle.chk_site.specs.Site.{Adds}
use Rattle.chk_site.specs.Runs.{anyhow, Leads}
use Rattle.chk_site.proofs.Runs.{adds_as, adds_none}
use Rattle.chk_world.specs.JobSteps.{IsOf, ReadsFile}
use Rattle.chk_record_index.specs.Faults.{FailsLast}
use Rattle.chk_record_index.specs.Pieces.{AsksInPieces}
use Rattle.chk_record_index.proofs.Gathering.{every_then}
use Rattle.chk_book.proofs.Added.{cause_later}
use Rattle.chk_book.specs.declared.lists.End.{End as EndStruct}
use Rattle.chk_book.specs.Views.{end_view}
use Rattle.chk_record_reader.specs.Segments.{HasFiles, SparesFiles}
use Rattle.chk_record_reader.proofs.AllGathered.{fails_later}
use Rattle.chk_record_reader.proofs.AllRead.{no_windows}
use Rattle.chk_join_sources.specs.declared.choosing.Chosen.{Chosen}
use Rattle.chk_join_sources.specs.declared.choosing.Chosen.TheVariants.{Agree, Differ}
use Rattle.chk_join_sources.specs.declared.difference.Difference.{Difference}
use Rattle.chk_join_sources.specs.declared.pairs.Places.{Places}
use Rattle.chk_join_sources.specs.Pairs.{pairs_of, pairs_left}
use Rattle.chk_join_sources.proofs.PairsCompared.{ComparedUpTo, begun, one_more, one_differs, one_refused, all_agree}
use Rattle.chk_join_sources.proofs.AllCompared.{under}
use Rattle.chk_join_sources.proofs.Planned.{IsPlannedUpTo, planned_none, planned_more, planned_all}
use Rattle.chk_join_sources.proofs.choosing.choose.Goals as goal

-- what is told where there is no difference
at_none : {T X : Type 0} (found : Option T) → found ≡ None → IfNone found X → X
at_none {X = X} found none told = subst (λ o. IfNone o X) none told

-- behind the last end of both sides there is no pair
none_left : (ls rs : List EndStruct) (at : Places) → length ls ≤ at.left → length rs ≤ at.right
    → pairs_left (map end_view ls) (map end_view rs) at ≡ []
none_left ls rs at left right =
    let lefts = length-map ls end_view in
    let rights = length-map rs end_view in
    ap₂ pairs_of (drop_all at.left (map end_view ls) (omega (arith, left, lefts)))
    (drop_all at.right (map end_view rs) (omega (arith, right, rights)))

pub loop-alloc-init : goal.loop-alloc-init
loop-alloc-init g c = record {
  so = λ most all held few settled lefts rights.
      let l = c.args.left.now in
      let r = c.args.right.now in
      begun all l r held (pairs_of (map end_view c.args.lefts.now) (map end_view c.args.rights.now)) c.new-readers.result
      (record {
        left = no_windows l.names.now held c.new-readers.result.left c.new-readers.ensures.left;
        right = no_windows r.names.now held c.new-readers.result.right c.new-readers.ensures.right;
      }) (g.S.Site.told c.args.site.now);
  planned =
      planned_none c.args.left.now.heads.now c.args.right.now.heads.now
      (pairs_of (map end_view c.args.lefts.now) (map end_view c.args.rights.now)) c.new-plan.result c.new-plan.ensures;
  own = adds_none (g.S.Site.told c.args.site.now) (Every (IsOf ReadsFile)) (λ history. tt);
  pieces = adds_none (g.S.Site.told c.args.site.now) (Every AsksInPieces) (λ history. tt);
  count = refl;
  left = omega arith;
  right = omega arith;
}

pub loop-alloc-preserved : goal.loop-alloc-preserved
loop-alloc-preserved g c =
    let ls = map end_view c.args.lefts.now in
    let rs = map end_view c.args.rights.now in
    let ps = pairs_of ls rs in
    let i = c.loop-alloc in
    let new = c.take_next.new in
    let one = at_none c.in_ok-found.found c.in_default.is c.in_ok-found.ensures.passed in
    let p = one.0 in
    let passed = one.1 in
    record {
      so = λ most all held few settled lefts rights.
          one_more all c.args.left.now c.args.right.now held ps i.readers new.readers p (pairs_left ls rs i.at) (pairs_left ls rs new.at)
          c.in_ok-found.found passed.pairs c.in_default.is (i.invariant.so most all held few settled lefts rights)
          (under c.in_ok-found.ensures.own (λ x. c.in_ok-found.ensures.raw most all held few settled lefts rights x));
      planned =
          planned_more c.args.left.now.heads.now c.args.right.now.heads.now ls rs ps p i.at new.at i.plan new.plan i.invariant.planned passed;
      own = every_then (IsOf ReadsFile) i.invariant.own c.in_ok-found.ensures.own;
      pieces = every_then AsksInPieces i.invariant.pieces c.in_ok-found.ensures.pieces;
      count = c.in_ok-found.ensures.cause ∙ i.invariant.count;
      left = let high = passed.left_high in let same = length-map c.args.lefts.now end_view in omega (arith, high, same);
      right = let high = passed.right_high in let same = length-map c.args.rights.now end_view in omega (arith, high, same);
    }

pub loop-alloc-smaller : goal.loop-alloc-smaller
loop-alloc-smaller g c =
    let one = at_none c.in_ok-found.found c.in_default.is c.in_ok-found.ensures.passed in
    let on = one.1.on in
    let left = one.1.left_high in
    let right = one.1.right_high in
    let lefts = length-map c.args.lefts.now end_view in
    let rights = length-map c.args.rights.now end_view in
    omega (arith, on, left, right, lefts, rights)

pub returns-in_err-found-clause-raw : goal.returns-in_err-found-clause-raw
returns-in_err-found-clause-raw g c most all held few settled lefts rights =
    let ls = map end_view c.args.lefts.now in
    let rs = map end_view c.args.rights.now in
    let i = c.loop-alloc in
    let q = err_from_is_err_and c.from_residual.result c.from_residual.ensures.1 in
    rw (q.1, q.2)
    (one_refused all c.args.left.now c.args.right.now held (pairs_of ls rs) i.readers c.take_next.new.readers (pairs_left ls rs i.at)
    c.in_err-found.field-0.0
    (i.invariant.so most all held few settled lefts rights)
    (under c.in_err-found.ensures.own (λ x. c.in_err-found.ensures.raw most all held few settled lefts rights x)))

pub returns-in_err-found-clause-own : goal.returns-in_err-found-clause-own
returns-in_err-found-clause-own g c = every_then (IsOf ReadsFile) c.loop-alloc.invariant.own c.in_err-found.ensures.own

pub returns-in_err-found-clause-pieces : goal.returns-in_err-found-clause-pieces
returns-in_err-found-clause-pieces g c = every_then AsksInPieces c.loop-alloc.invariant.pieces c.in_err-found.ensures.pieces

pub returns-in_err-found-clause-last : goal.returns-in_err-found-clause-last
returns-in_err-found-clause-last g c =
    let q = err_from_is_err_and c.from_residual.result c.from_residual.ensures.1 in
    rw (q.1, q.2)
    (fails_later Chosen (Option Difference) c.in_err-found.field-0.0 c.loop-alloc.invariant.pieces c.in_err-found.ensures.last)

pub returns-in_err-found-clause-cause : goal.returns-in_err-found-clause-cause
returns-in_err-found-clause-cause g c =
    let q = err_from_is_err_and c.from_residual.result c.from_residual.ensures.1 in
    rw (q.1, q.2)
    (cause_later Chosen (Option Difference) c.in_err-found.field-0.0 (g.S.Site.fault_count c.args.site.now)
    (g.S.Site.fault_count c.loop-alloc.site) (g.S.Site.fault_count c.take_next.new.site)
    c.loop-alloc.invariant.count c.in_err-found.ensures.cause)

pub returns-in-Some-clause-raw : goal.returns-in-Some-clause-raw
returns-in-Some-clause-raw g c most all held few settled lefts rights =
    let ls = map end_view c.args.lefts.now in
    let rs = map end_view c.args.rights.now in
    let i = c.loop-alloc in
    one_differs all c.args.left.now c.args.right.now held (pairs_of ls rs) i.readers c.take_next.new.readers (pairs_left ls rs i.at)
    c.in_ok-found.found c.in-Some.difference c.in-Some.is
    (i.invariant.so most all held few settled lefts rights)
    (under c.in_ok-found.ensures.own (λ x. c.in_ok-found.ensures.raw most all held few settled lefts rights x))

pub returns-in-Some-clause-own : goal.returns-in-Some-clause-own
returns-in-Some-clause-own g c = every_then (IsOf ReadsFile) c.loop-alloc.invariant.own c.in_ok-found.ensures.own

pub returns-in-Some-clause-pieces : goal.returns-in-Some-clause-pieces
returns-in-Some-clause-pieces g c = every_then AsksInPieces c.loop-alloc.invariant.pieces c.in_ok-found.ensures.pieces

pub returns-in-Some-clause-last : goal.returns-in-Some-clause-last
returns-in-Some-clause-last g c =
    adds_as (FailsLast {T = Chosen} (Ok (Differ c.in-Some.difference)))
    (every_then AsksInPieces c.loop-alloc.invariant.pieces c.in_ok-found.ensures.pieces) (λ added history x. tt)

pub returns-clause-raw : goal.returns-clause-raw
returns-clause-raw g c most all held few settled lefts rights =
    let l = c.args.left.now in
    let r = c.args.right.now in
    let ps = pairs_of (map end_view c.args.lefts.now) (map end_view c.args.rights.now) in
    let i = c.loop-alloc in
    let past = c.has_more.ensures.none c.loop-alloc-test.false in
    all_agree all l r held ps i.readers i.plan
    (subst (λ rest. Adds (g.S.Site.told c.args.site.now) (g.S.Site.told i.site) (Leads (anyhow (SparesFiles all)) (HasFiles all held)
    (ComparedUpTo all l r held ps i.readers rest)))
    (none_left c.args.lefts.now c.args.rights.now i.at past.0 past.1)
    (i.invariant.so most all held few settled lefts rights))

pub returns-clause-chosen : goal.returns-clause-chosen
returns-clause-chosen g c =
    let hs = c.args.left.now.heads.now in
    let js = c.args.right.now.heads.now in
    let ps = pairs_of (map end_view c.args.lefts.now) (map end_view c.args.rights.now) in
    let i = c.loop-alloc in
    let past = c.has_more.ensures.none c.loop-alloc-test.false in
    planned_all hs js ps i.plan
    (subst (λ rest. IsPlannedUpTo hs js ps rest i.plan) (none_left c.args.lefts.now c.args.rights.now i.at past.0 past.1)
    i.invariant.planned)

pub returns-clause-own : goal.returns-clause-own
returns-clause-own g c = c.loop-alloc.invariant.own

pub returns-clause-pieces : goal.returns-clause-pieces
returns-clause-pieces g c = c.loop-alloc.invariant.pieces

pub returns-clause-last : goal.returns-clause-last
returns-clause-last g c =
    adds_as (FailsLast {T = Chosen} (Ok (Agree c.loop-alloc.plan))) c.loop-alloc.invariant.pieces (λ added history x. tt)

pub returns-clause-cause : goal.returns-clause-cause
returns-clause-cause g c = c.loop-alloc.invariant.count
